-- The names so far are those of the rows so far whose flags are set.
use Rattle.std.proofs.Common.{◌≡◌, map, take}
use Rattle.hist_model.specs.Decisions.{has_flag}
use Rattle.policy_explain.proofs.FlagNames.{set_in}
use Rattle.policy_explain.proofs.flags.set_names_in.Given as goal

abbrev pub invariant-loop-row : goal.invariant-loop-row
invariant-loop-row l = map (λ name. name.now) l.names.items ≡ set_in (λ row. row.0.now) (λ row. has_flag l.request row.1) (take l.row-index l.rows)
