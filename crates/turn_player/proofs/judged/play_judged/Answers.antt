-- What the judge has found before the end is found of the whole play.
use Rattle.std.proofs.Common.{◌≡◌, List, None, ap, subst, sym, ◌∙◌}
use Rattle.std.specs.Option.{option_map}
use Rattle.hist_model.specs.declared.event.Event.{Event}
use Rattle.judge_pass.specs.Counted.{AreCounted}
use Rattle.judge_pass.specs.Finding.{as_finding}
use Rattle.turn_player.specs.Turns.{turned}
use Rattle.turn_player.proofs.Judgements.{begins_turned, found_turned, played_all, whole_turned}
use Rattle.turn_player.proofs.Lines.{knows_started}
use Rattle.turn_player.proofs.judged.play_judged.Goals as goal

pub take_turns-requires-clause-knows : goal.take_turns-requires-clause-knows
take_turns-requires-clause-knows c none =
    knows_started c.args.policy.now c.args.script c.in_ok-court.court.kernel c.args.turns.now c.in_ok-workers.workers.items c.in_ok-court.ensures.begun
    (rw (← c.script.view_is) (c.in_ok-workers.ensures.idle c.args.policy.now))

pub returns : goal.returns
returns c =
    let P = c.args.policy.now in
    let S = c.args.script in
    let turns = c.args.turns.now in
    let court = c.take_turns.new.self in
    let all = played_all P S turns c.in_ok-court.court court c.in_ok-court.ensures.begun c.in_ok-take_turns.ensures in
    let events = c.in_ok-judgement.judgement.history.events in
    let came = c.in_ok-judgement.ensures in
    let played : c.in_ok-judgement.judgement.found ≡ None → events ≡ turned P S turns =
    λ none. whole_turned P S turns court all events (came.whole none) (sym came.found ∙ none)
    in
    record {
      found = ap (option_map as_finding) came.found ∙ found_turned P S turns court all;
      events = played;
      begins = begins_turned P S turns court all events (λ none. came.whole (came.found ∙ none)) (λ some. came.stopped (rw came.found some));
      stops = came.stops;
      counts = λ none. subst (λ (K : List Event). AreCounted K c.in_ok-judgement.judgement.counts) (played none) (came.counts none);
    }
