use Rattle.std.proofs.Common.{◌∙◌, sym}
use Rattle.explorer.proofs.InHand.{none_at_first, none_full}
use Rattle.explorer.proofs.hands.Hands.empty.Goals as goal

pub returns : goal.returns
returns c = λ S w lt. none_full w lt ∙ sym (none_at_first S w)
