-- Each table stands for the history with the effect.
use Rattle.std.proofs.Common.{◌≡◌, ◌+◌, ◌<◌, ◌^◌, ◌∷◌, length, refl, sym, ap, ◌∙◌, arith, Some, false}
use Rattle.broker_verdict.specs.Seats.{is_effect}
use Rattle.hist_model.specs.Kinds.{notifies}
use Rattle.hist_model.specs.Look.{ev}
use Rattle.hist_model.specs.Steps.{session_call}
use Rattle.hist_model.specs.declared.event.Actor.TheVariants.{Worker}
use Rattle.hist_model.specs.declared.event.Event.{Event}
use Rattle.history_frames.specs.Ordinals.{count_of, makes_group, nth_of}
use Rattle.history_frames.proofs.Ordinals.{made-same}
use Rattle.judge_pass.specs.Stands.{IsSeat, place_of_call}
use Rattle.judge_pass.proofs.DoneRows.{done-more}
use Rattle.judge_pass.proofs.EffectEvents.{calls-effect, first-kept, no-group, open-effect, put-names, tasks-effect}
use Rattle.judge_pass.proofs.HandTests.{as-event}
use Rattle.judge_pass.proofs.InHand.{call_kept, hand_is, IsInHand}
use Rattle.judge_pass.proofs.Parts.{calls-of, done-of, open-of, seats-moved, seats-of, stands-of, tasks-of}
use Rattle.judge_pass.proofs.SeatEvents.{seat-did}
use Rattle.judge_pass.proofs.judge.Judge.note_effect.Goals as goal

pub returns : goal.returns
returns c S K e s history kind place some =
    let P = c.args.policy.now in
    let j = c.args.self.now in
    let w = c.args.worker in
    let what = c.args.what.now in
    let own : Event = ev (Worker w) what in
    let is = c.requires.kind in
    let number = c.len-effect.result in
    let number-is : number ≡ count_of is_effect K = omega (arith, c.len-effect.ensures, j.done.ok.0, s.done_are) in
    let k = c.in-Some.call in
    let seat = c.index.result.now in
    let seat-is : IsSeat S K w seat = rw (← c.index.ensures) at (s.seats w seat c.requires.worker) in
    let asking = c.index-2.result.now in
    let asking-is : IsSeat S K w asking = rw (← c.index-2.ensures) at (s.seats w asking c.requires.worker) in
    let moved = c.index_mut-2.result.now in
    let moved-is : IsSeat S K w moved = rw (← c.index_mut-2.ensures.value) at (s.seats w moved c.requires.worker) in
    let row = c.index-row.result.now in
    let hand : IsInHand j seat row = record { number = k; has = c.in-Some.is; kept = c.index-row.ensures } in
    let call = call_kept P S K j w seat row s seat-is hand in
    let at : session_call K w ≡ Some row.place = hand_is P S K j w seat row s seat-is hand in
    let put-is = c.in_ok-put.ensures.put P S K w s asking-is in
    let in-hand : session_call K w ≡ nth_of notifies K k = seat-is.call_is ∙ ap (place_of_call K) c.in-Some.is in
    let made : k < count_of notifies K = rw c.in-Some.is at seat-is.call_made in
    as-event P S K e own kind history _ (λ h.
    let fits : length K + 1 < 2 ^ 64 = omega (arith, h.fits) in
    stands-of P S (own ∷ K) _ s.script h
    (tasks-effect S K w row.place what s.history.of_kernel is at row.caller call.caller_made call.caller_is j.tasks.items (tasks-of P S K j s)
    c.index_mut.result.now c.note_untold.new.task c.index_mut.ensures.value (rw (← number-is) c.in_ok-note_untold.ensures.untold) c.in_ok-note_untold.ensures.rest _ refl)
    (s.groups_are ∙ sym (made-same makes_group own K (no-group what is)))
    (calls-effect S K w j.calls c.queue_put.new.calls (calls-of P S K j s) number number-is what c.call_put.result is
    (λ asked answer q. put-names K w what c.in_ok-put.put is c.in_ok-put.ensures.kept put-is asked answer q ∙ ap (place_of_call K) (sym c.call_put.ensures)) c.in_ok-queue_put.ensures)
    (done-more own K j.done.items (done-of P S K j s) is (record { place = c.args.place; call = k; put = c.in_ok-put.put; is_told = false }) (sym place) in-hand made
    c.in_ok-put.ensures.kept put-is refl _ c.in_ok-push.ensures.items)
    (seats-moved S K w what j.seats.items (seats-of P S K j s) h.fits (record moved { effect = Some number }) (rw number-is (seat-did S K w moved moved-is what is fits)) _ refl)
    (first-kept c.call_put.result number what j.calls c.queue_put.new.calls c.in_ok-queue_put.ensures ∙ s.first_is) s.first_fits
    (open-effect S s.script K j.directories.rows.items w what is (open-of P S K j s))
    (c.in_ok-count_rule.ensures.number ∙ s.times_are)
    (c.in_ok-count_rule.ensures.times K w row.place s.times fits call.called at)
    (c.count_effect.ensures K own refl s.counts))
