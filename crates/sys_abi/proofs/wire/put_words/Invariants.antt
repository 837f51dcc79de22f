-- The numbers so far are written, and the bytes after them are as they were.
use Rattle.std.proofs.Common.{◌≡◌, ◌++◌, ◌*◌, take, drop}
use Rattle.std.specs.List.{flat_map}
use Rattle.sys_abi.specs.Wire.{u64_bytes}
use Rattle.sys_abi.proofs.wire.put_words.Given as goal

abbrev pub invariant-loop-i : goal.invariant-loop-i
invariant-loop-i l = l.bytes ≡ flat_map u64_bytes (take l.i l.numbers) ++ drop (8 * l.i) l.initial.bytes
