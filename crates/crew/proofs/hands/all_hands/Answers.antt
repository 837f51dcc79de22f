use Rattle.std.proofs.Common.{refl}
use Rattle.crew.proofs.Seen.{same-seen}
use Rattle.crew.proofs.hands.all_hands.Goals as goal

pub returns-in_err-others-clause-seen : goal.returns-in_err-others-clause-seen
returns-in_err-others-clause-seen g c = same-seen c.args.firsts.now.items c.args.firsts.now.items refl

pub returns-in-Ok-clause-seen : goal.returns-in-Ok-clause-seen
returns-in-Ok-clause-seen g c = same-seen c.add_hands.new.firsts.items c.args.firsts.now.items c.add_hands.ensures.seen
