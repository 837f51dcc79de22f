-- The seat's own effect, or none, or one for an earlier call.
use Rattle.std.proofs.Common.{◌≡◌, ◌<◌, reverse, None, ap, refl, sym, ◌∙◌, arith}
use Rattle.history_frames.specs.Ordinals.{nth_of}
use Rattle.history_frames.proofs.Ordinals.{made-place}
use Rattle.hist_model.specs.Steps.{session_call}
use Rattle.broker_verdict.specs.Seats.{is_effect}
use Rattle.judge_pass.specs.Stands.{place_of_effect}
use Rattle.judge_pass.specs.Told.{own_told, remembered_for}
use Rattle.judge_pass.specs.Within.{effects_kept}
use Rattle.judge_pass.proofs.NotedTold.{none_noted, none_remembered, one_noted, own_tells_none, place_of_none, place_of_some}
use Rattle.judge_pass.proofs.told.note_told.Goals as goal

pub returns-then-is_some : goal.returns-then-is_some
returns-then-is_some c = record {
  rest = refl;
  noted = λ P S id value h.
      let K = reverse c.args.before.now in
      let j = c.args.judge.now in
      let place = place_of_some K c.own_told.result (effects_kept j) (sym c.is_some.ensures ∙ c.if-is_some.true) c.own_told.ensures.kept h.done_are in
      none_noted K _ j (own_tells_none K c.args.worker id place.0 value (sym (c.own_told.ensures.place P S h) ∙ place.1));
}

pub returns-in_default : goal.returns-in_default
returns-in_default c = record {
  rest = refl;
  noted = λ P S id value h.
      let K = reverse c.args.before.now in
      none_noted K _ c.args.judge.now (none_remembered K c.args.worker id value (sym (c.in_ok-effect.ensures.place P S h) ∙ ap (place_of_effect K) c.in_default.is));
}

pub returns-in-Some : goal.returns-in-Some
returns-in-Some c = record {
  rest = refl;
  noted = λ P S id value h.
      let K = reverse c.args.before.now in
      let j = c.args.judge.now in
      let m = c.in-Some.effect in
      let none : own_told K c.args.worker ≡ None = sym (c.own_told.ensures.place P S h) ∙ place_of_none K c.own_told.result (sym c.is_some.ensures ∙ c.if-is_some.false) in
      let low : m < effects_kept j = rw c.in-Some.is at c.in_ok-effect.ensures.kept in
      let place = made-place is_effect K m (omega (arith, h.done_are, low)) in
      let found : remembered_for K c.args.worker (session_call K c.args.worker) ≡ nth_of is_effect K m =
      sym (c.in_ok-effect.ensures.place P S h) ∙ ap (place_of_effect K) c.in-Some.is in
      one_noted P S K j c.args.worker id m place.0 value c.index_mut.result.now h low c.index_mut.ensures.value none found place.1;
}
