use Rattle.std.proofs.Common.{length, map}
use Rattle.crew.proofs.Seen.{each-trans}
use Rattle.crew.specs.Locks.{seen_of}
use Rattle.crew.proofs.hands.gather.Goals as goal

pub gather_others-requires-clause-first : goal.gather_others-requires-clause-first
gather_others-requires-clause-first g c = c.join_all.ensures.first (length c.args.others.items) c.requires.first

pub returns-clause-seen : goal.returns-clause-seen
returns-clause-seen g c = each-trans (map seen_of c.gather_others.new.firsts.items) (map seen_of c.join_all.new.firsts.items) (map seen_of c.args.firsts.now.items) c.gather_others.ensures.seen c.join_all.ensures.seen
