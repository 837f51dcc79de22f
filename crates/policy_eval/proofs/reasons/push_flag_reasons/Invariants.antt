-- The reasons so far are those of the flags so far.
use Rattle.std.proofs.Common.{◌≡◌, ◌++◌, map, take}
use Rattle.hist_model.specs.Decisions.{flag_reason}
use Rattle.policy_eval.specs.declared.reasons.TheConstants.{FLAG_REASONS}
use Rattle.policy_eval.proofs.reasons.push_flag_reasons.Given as goal

abbrev pub invariant-loop-name : goal.invariant-loop-name
invariant-loop-name l = l.rules.items ≡ l.fn.rules.items ++ map (λ p. flag_reason (p.0.now, p.1)) (take l.name-index FLAG_REASONS.now)
