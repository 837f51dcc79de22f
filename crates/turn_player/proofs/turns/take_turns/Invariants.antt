-- The lines that are left lead on to where all lines lead, and the workers that step in them remember their sessions.
use Rattle.std.proofs.Common.{◌≡◌, length}
use Rattle.std.specs.List.{All}
use Rattle.model_kernel.specs.Kernels.{past}
use Rattle.step_requests.specs.Turns.{AreApart}
use Rattle.asked_steps.specs.Stands.{CameTo}
use Rattle.turn_player.specs.Serving.{ServersKnow}
use Rattle.turn_player.specs.Turns.{IsTurn, after_turns}
use Rattle.turn_player.proofs.turns.take_turns.Given as goal

abbrev pub invariant-turns : goal.invariant-turns
invariant-turns l = record {
  came : CameTo l.initial.kernel (past l.kernel) l.kernel;
  number : length l.workers.items ≡ 16;
  turns : All IsTurn l.rest;
  apart : AreApart l.rest;
  knows : ServersKnow l.policy l.kernel l.rest l.workers.items;
  leads : after_turns l.policy l.initial.kernel.script (past l.initial.kernel) l.turns ≡ after_turns l.policy l.initial.kernel.script (past l.kernel) l.rest;
}

abbrev pub decreases-turns : goal.decreases-turns
decreases-turns l = length l.rest
