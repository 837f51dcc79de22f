use Rattle.std.proofs.Common.{◌≡◌, ℕ, ◌<◌, false, get_or, [], ◌∷◌}
use Rattle.hist_model.specs.Memory.{is_mapped}
use Rattle.hist_model.specs.declared.script.MapRange.{MapRange}
use Rattle.task_groups.proofs.map.mapped_rest.Given as goal

abbrev pub invariant-loop-range : goal.invariant-loop-range
invariant-loop-range l = (k : ℕ) (d : MapRange) → k < l.range-index → is_mapped (get_or l.map k d ∷ []) l.addr ≡ false
