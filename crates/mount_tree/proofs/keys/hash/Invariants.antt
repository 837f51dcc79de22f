use Rattle.std.proofs.Common.{◌≡◌, drop}
use Rattle.mount_tree.specs.Chains.{hash, hash_of}
use Rattle.mount_tree.proofs.keys.hash.Given as goal

abbrev pub invariant-loop-byte : goal.invariant-loop-byte
invariant-loop-byte l = hash l.hash (drop l.byte-index l.name) ≡ hash_of l.owner l.name
