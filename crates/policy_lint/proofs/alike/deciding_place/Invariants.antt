-- No rule so far fits.
use Rattle.std.proofs.Common.{◌≡◌, drop}
use Rattle.hist_model.specs.Decisions.{decide, decide_from}
use Rattle.policy_lint.proofs.alike.deciding_place.Given as goal

abbrev pub invariant-loop-place : goal.invariant-loop-place
invariant-loop-place l = (decide l.rules l.request).0 ≡ (decide_from l.place (drop l.place l.rules) l.request).0
