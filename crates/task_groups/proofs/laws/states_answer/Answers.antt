use Rattle.task_groups.proofs.Answered.{reads, slots, frees, places}
use Rattle.task_groups.proofs.laws.states_answer.Goals as goal

pub returns-clause-read : goal.returns-clause-read
returns-clause-read c S K living handles o g a n at = reads S K living handles o g at a n

pub returns-clause-slot : goal.returns-clause-slot
returns-clause-slot c S K living handles o g n at = slots S K living handles o g at n

pub returns-clause-free : goal.returns-clause-free
returns-clause-free c = frees

pub returns-clause-place : goal.returns-clause-place
returns-clause-place c S K living handles o g asked at = places S K living handles o g at asked
