use Rattle.tasks.proofs.Folds.{follows}
use Rattle.tasks.proofs.laws.states_follow_events.Goals as goal

pub returns : goal.returns
returns c = record {
  looks = λ S K e s L Y p. (follows S K e s L Y p).0;
  sound = λ S K e s L Y p. (follows S K e s L Y p).1;
}
