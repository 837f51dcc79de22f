use Rattle.std.proofs.Common.{◌≡◌, drop}
use Rattle.hist_model.specs.Decisions.{decide_from}
use Rattle.policy_eval.proofs.decide.Given as goal

-- no rule so far fits
abbrev pub invariant-loop-i : goal.invariant-loop-i
invariant-loop-i l = decide_from 0 l.rules l.r ≡ decide_from l.i (drop l.i l.rules) l.r
