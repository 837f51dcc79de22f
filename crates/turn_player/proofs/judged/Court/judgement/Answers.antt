-- The listener is closed where nothing was found, and that isn't counted.
use Rattle.std.proofs.Common.{◌≡◌, None, ap, sym, ◌∙◌}
use Rattle.std.specs.Prelude.{is_some, IsSome, ◌∷◌}
use Rattle.hist_model.specs.Look.{ev}
use Rattle.hist_model.specs.declared.event.Actor.TheVariants.{Listener}
use Rattle.hist_model.specs.declared.event.What.TheVariants.{Close}
use Rattle.judge_pass.specs.declared.watch.FirstFault.{FirstFault}
use Rattle.model_kernel.specs.Kernels.{past}
use Rattle.turn_player.proofs.Judgements.{counted_whole, stops_there}
use Rattle.turn_player.proofs.judged.Court.judgement.Goals as goal

pub returns : goal.returns
returns c =
    let court = c.args.self in
    let is-over = c.is_some.ensures ∙ ap (is_some {T = FirstFault}) (c.found.ensures ∙ sym c.found-2.ensures) in
    let closed : c.found-2.result ≡ None → c.ended.result.events ≡ ev Listener Close ∷ past court.kernel =
    λ none. c.ended.ensures.whole (is-over ∙ ap (is_some {T = FirstFault}) none) ∙ ap (λ K. ev Listener Close ∷ K) c.in_ok-ready_event.ensures.past
    in
    let stopped : IsSome c.found-2.result → c.ended.result.events ≡ past court.kernel =
    λ some. c.ended.ensures.stopped (is-over ∙ some) ∙ c.in_ok-ready_event.ensures.past
    in
    record {
      found = c.found-2.ensures;
      whole = closed;
      stopped = stopped;
      stops = stops_there (past court.kernel) c.ended.result.events c.found-2.result (rw c.found-2.ensures c.requires.stops) stopped;
      counts = λ none. counted_whole (past court.kernel) c.ended.result.events c.counts.result court.watch.judge.counts (closed none) c.counts.ensures
          (c.requires.watches.stands (sym c.found-2.ensures ∙ none)).counts;
    }
