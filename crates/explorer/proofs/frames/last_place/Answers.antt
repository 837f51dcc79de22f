use Rattle.std.proofs.Common.{ap, sym, ◌∙◌}
use Rattle.explorer.specs.declared.frames.Frame.{Frame}
use Rattle.explorer.proofs.Pending.{last_is, last_none}
use Rattle.explorer.proofs.frames.last_place.Goals as goal

pub returns-in-Some : goal.returns-in-Some
returns-in-Some c =
    let is = c.in-Some.ensures.item in
    ap (λ (f : Frame). f.place) (is.3.1 c.in-Some.frame.now) ∙ sym (last_is 0 c.args.frames.now c.in-Some.frame.now is.3.0)

pub returns-in-None : goal.returns-in-None
returns-in-None c = last_none 0 c.args.frames.now c.in-None.ensures.item.3
