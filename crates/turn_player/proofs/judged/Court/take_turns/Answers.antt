-- One line is taken, and those behind it are left.
use Rattle.std.proofs.Common.{◌≡◌, ◌∷◌}
use Rattle.turn_player.proofs.JudgedLines.{all_played, so_far_more, so_far_none, still_knows_behind}
use Rattle.turn_player.proofs.Lines.{apart_behind, head_is, knows_first, tail_is}
use Rattle.turn_player.proofs.judged.Court.take_turns.Goals as goal

pub turns-init : goal.turns-init
turns-init c = record {
  so_far = so_far_none c.args.policy.now c.args.self.now c.args.turns.now c.requires.watched;
  number = c.requires.number;
  turns = c.requires.turns;
  apart = c.requires.apart;
  knows = c.requires.knows;
}

pub take_turn-requires-clause-watched : goal.take_turn-requires-clause-watched
take_turn-requires-clause-watched c = c.turns.invariant.so_far.played.watched

pub take_turn-requires-clause-turn : goal.take_turn-requires-clause-turn
take_turn-requires-clause-turn c = head_is c.turns.rest.now c.in-Some.turn.now c.in-Some.behind.now c.in-Some.ensures.cases.0 c.turns.invariant.turns

pub take_turn-requires-clause-knows : goal.take_turn-requires-clause-knows
take_turn-requires-clause-knows c none =
    let first = c.in-Some.ensures.cases.0 in
    let turn = c.in-Some.turn.now in
    let behind = c.in-Some.behind.now in
    knows_first c.args.policy.now c.turns.self.kernel c.turns.rest.now turn behind c.turns.workers.items first (head_is c.turns.rest.now turn behind first c.turns.invariant.turns)
    c.turns.invariant.number (c.turns.invariant.knows none)

pub turns-preserved : goal.turns-preserved
turns-preserved c =
    let P = c.args.policy.now in
    let rest = c.turns.rest.now in
    let turn = c.in-Some.turn.now in
    let behind = c.in-Some.behind.now in
    let first : rest ≡ turn ∷ behind = c.in-Some.ensures.cases.0 in
    let taken = c.in_ok-take_turn.ensures in
    record {
      so_far = so_far_more P c.args.self.now c.turns.self c.take_turn.new.self c.args.turns.now rest turn behind first c.turns.invariant.so_far taken.played;
      number = taken.number;
      turns = tail_is rest turn behind first c.turns.invariant.turns;
      apart = apart_behind rest turn behind first c.turns.invariant.apart;
      knows = still_knows_behind P c.turns.self c.take_turn.new.self rest turn behind c.turns.workers.items c.take_turn.new.workers.items first c.turns.invariant.apart c.turns.invariant.knows
          c.turns.invariant.number taken.number taken.played taken.knows taken.others;
    }

pub returns : goal.returns
returns c = all_played c.args.policy.now c.args.self.now c.turns.self c.args.turns.now c.turns.rest.now c.turns.invariant.so_far c.in_default.ensures.cases
