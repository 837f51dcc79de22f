use Rattle.std.proofs.Common.{sym, ap, ◌∙◌, Some}
use Rattle.sorted_list.proofs.Found.{place-entry, gap-entry}
use Rattle.sorted_list.proofs.list.find.Goals as goal

pub returns-in-Ok : goal.returns-in-Ok
returns-in-Ok g c rise = ap Some c.index-entries-place.is ∙ sym (place-entry g.T.Numbered.number _ _ _ _ rise (c.in-Ok.ensures.found rise))

pub returns-in-Err : goal.returns-in-Err
returns-in-Err g c rise = sym (gap-entry g.T.Numbered.number _ _ _ (c.in-Err.ensures.absent rise))
