-- A line of steps, or of a request, leaves this project's workers as they are.
use Rattle.std.proofs.Common.{refl}
use Rattle.turn_player.proofs.judged.Court.take_turn.Goals as goal

pub returns-in_ok-step_often-in-Steps : goal.returns-in_ok-step_often-in-Steps
returns-in_ok-step_often-in-Steps c = record {
  played = rw c.in-Steps.is c.in_ok-step_often-in-Steps.ensures;
  number = c.requires.number;
  knows = λ none w d s. let no = rw c.in-Steps.is at s in cc;
  others = λ w d s. refl;
}

pub returns-in_ok-ask-in-Asks : goal.returns-in_ok-ask-in-Asks
returns-in_ok-ask-in-Asks c = record {
  played = rw c.in-Asks.is c.in_ok-ask-in-Asks.ensures;
  number = c.requires.number;
  knows = λ none w d s. let no = rw c.in-Asks.is at s in cc;
  others = λ w d s. refl;
}
