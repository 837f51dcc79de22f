-- The lines so far were played, unless a clause is broken, and the workers that step in the rest remember their sessions.
use Rattle.std.proofs.Common.{◌≡◌, length}
use Rattle.std.specs.List.{All}
use Rattle.step_requests.specs.Turns.{AreApart}
use Rattle.turn_player.specs.Judged.{ServersStillKnow}
use Rattle.turn_player.specs.Turns.{IsTurn}
use Rattle.turn_player.proofs.JudgedLines.{PlayedSoFar}
use Rattle.turn_player.proofs.judged.Court.take_turns.Given as goal

abbrev pub invariant-turns : goal.invariant-turns
invariant-turns l = record {
  so_far : PlayedSoFar l.policy l.fn.self l.turns l.rest l.self;
  number : length l.workers.items ≡ 16;
  turns : All IsTurn l.rest;
  apart : AreApart l.rest;
  knows : ServersStillKnow l.policy l.self l.rest l.workers.items;
}

abbrev pub decreases-turns : goal.decreases-turns
decreases-turns l = length l.rest
