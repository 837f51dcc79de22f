-- How many calls were received, and how much was done and answered.
use Rattle.std.specs.Prelude.{◌≡◌, ◌+◌, ◌<◌, ◌^◌, Bool, true, List}
use Rattle.hist_model.specs.Kinds.{has_send, starts}
use Rattle.hist_model.specs.declared.event.Event.{Event}
use Rattle.hist_model.specs.declared.event.What.{What}
use Rattle.hist_model.specs.declared.event.What.TheVariants.{Send}
use Rattle.history_frames.specs.Ordinals.{count_of}
use Rattle.broker_verdict.specs.Seats.{is_effect}
use Rattle.judge_pass.specs.declared.judge.Counts.{Counts}

-- the step sends an answer, or asks for a descriptor with SEND, whatever the kernel says
abbrev pub is_answering : What → Bool
is_answering (Send x back answer) = true
is_answering what = has_send what

-- receives that were answered with a notification, effects, and answers
pub record AreCounted (K : List Event) (counts : Counts) : Type 0 where
  pub calls_are : counts.calls ≡ count_of starts K
  pub effects_are : counts.effects ≡ count_of is_effect K
  pub answers_are : counts.answers ≡ count_of is_answering K

-- one more of each can be counted
pub record HasRoom (counts : Counts) : Type 0 where
  pub for_call : counts.calls + 1 < 2 ^ 64
  pub for_effect : counts.effects + 1 < 2 ^ 64
  pub for_answer : counts.answers + 1 < 2 ^ 64
