use Rattle.std.proofs.Common.{◌≡◌, ◌++◌, take}
use Rattle.std.specs.Prelude.{codes, decimal}
use Rattle.std.specs.List.{flat_map}
use Rattle.audit_log.proofs.words.push_pointed.Given as goal

abbrev pub invariant-loop-n : goal.invariant-loop-n
invariant-loop-n l = l.line ≡ l.fn.line ++ flat_map (λ n. codes "." ++ decimal n) (take l.n-index l.numbers)
