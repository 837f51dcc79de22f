-- One line is taken, and those behind it are left.
use Rattle.std.proofs.Common.{◌≡◌, ◌∷◌, ap, ◌∙◌}
use Rattle.model_kernel.specs.Kernels.{past}
use Rattle.turn_player.specs.Turns.{after_turns}
use Rattle.turn_player.proofs.Lines.{all_done, apart_behind, head_is, knows_behind, knows_first, line_taken, tail_is, then_came}
use Rattle.turn_player.proofs.turns.take_turns.Goals as goal

pub take_turn-requires-clause-turn : goal.take_turn-requires-clause-turn
take_turn-requires-clause-turn c = head_is c.turns.rest.now c.in-Some.turn.now c.in-Some.behind.now c.in-Some.ensures.cases.0 c.turns.invariant.turns

pub take_turn-requires-clause-knows : goal.take_turn-requires-clause-knows
take_turn-requires-clause-knows c =
    let first = c.in-Some.ensures.cases.0 in
    let turn = c.in-Some.turn.now in
    let behind = c.in-Some.behind.now in
    knows_first c.args.policy.now c.turns.kernel c.turns.rest.now turn behind c.turns.workers.items first (head_is c.turns.rest.now turn behind first c.turns.invariant.turns)
    c.turns.invariant.number c.turns.invariant.knows

pub turns-preserved : goal.turns-preserved
turns-preserved c =
    let P = c.args.policy.now in
    let rest = c.turns.rest.now in
    let turn = c.in-Some.turn.now in
    let behind = c.in-Some.behind.now in
    let first : rest ≡ turn ∷ behind = c.in-Some.ensures.cases.0 in
    let taken = c.in_ok-take_turn.ensures in
    record {
      came = then_came c.args.kernel.now c.turns.kernel c.take_turn.new.kernel _ c.turns.invariant.came taken.came;
      number = taken.number;
      turns = tail_is rest turn behind first c.turns.invariant.turns;
      apart = apart_behind rest turn behind first c.turns.invariant.apart;
      knows = knows_behind P c.turns.kernel c.take_turn.new.kernel rest turn behind c.turns.workers.items c.take_turn.new.workers.items first c.turns.invariant.apart c.turns.invariant.knows
          c.turns.invariant.number taken.number taken.came taken.knows taken.others;
      leads = c.turns.invariant.leads ∙ ap (after_turns P c.args.kernel.now.script (past c.turns.kernel)) first
          ∙ line_taken P c.args.kernel.now.script c.turns.kernel c.take_turn.new.kernel turn behind c.turns.invariant.came.script taken.came;
    }

pub returns : goal.returns
returns c = all_done c.args.policy.now c.args.kernel.now c.turns.kernel c.args.turns.now c.turns.rest.now c.turns.invariant.came c.turns.invariant.leads c.in_default.ensures.cases
