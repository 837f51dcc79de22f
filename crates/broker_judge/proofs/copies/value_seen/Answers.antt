-- A byte is led by those before it.
use Rattle.std.proofs.Common.{◌≡◌, [], refl, sym, ◌∙◌}
use Rattle.hist_model.specs.Copies.{further}
use Rattle.sys_abi.specs.Errnos.{efault}
use Rattle.broker_verdict.specs.SeatCopies.{Byte, Fails, Misses, Unmapped, Unread, value_seen, Whole}
use Rattle.broker_judge.proofs.Known.{begins, comes_to_end, ends, goes_on, led_fails, led_misses, led_whole, so, value_first, value_unmapped, value_unread, value_whole}
use Rattle.broker_judge.proofs.copies.value_seen.Goals as goal

pub loop-place-init : goal.loop-place-init
loop-place-init c = λ byte addr low h. rw c.new-value.ensures.items (begins (value_seen byte) c.args.size addr low)

pub loop-place-preserved : goal.loop-place-preserved
loop-place-preserved c = λ byte addr low h.
    let place = c.loop-place.place in
    let byte_is : byte (further addr place) ≡ Byte c.in-Byte.byte = sym (h place c.loop-place-test.true) ∙ sym c.in-Byte.ensures in
    rw c.in_ok-push-in-Byte.ensures.items
    (goes_on (value_seen byte) c.args.size place addr c.in-Byte.byte c.loop-place.value.items _ c.loop-place-test.true
    (value_first byte (further addr place) c.in-Byte.byte byte_is) (c.loop-place.invariant byte addr low h))

pub returns-in-Unmapped : goal.returns-in-Unmapped
returns-in-Unmapped c = λ byte addr low h.
    let place = c.loop-place.place in
    let byte_is : byte (further addr place) ≡ Unmapped = sym (h place c.loop-place-test.true) ∙ sym c.in-Unmapped.ensures in
    so _ (Fails efault) _
    (ends (value_seen byte) c.args.size place addr c.loop-place.value.items _ (Fails efault) c.loop-place-test.true
    (value_unmapped byte (further addr place) byte_is) (c.loop-place.invariant byte addr low h) ∙ led_fails c.loop-place.value.items efault) refl

pub returns-in-Unread : goal.returns-in-Unread
returns-in-Unread c = λ byte addr low h.
    let place = c.loop-place.place in
    let byte_is : byte (further addr place) ≡ Unread = sym (h place c.loop-place-test.true) ∙ sym c.in-Unread.ensures in
    so _ (Misses (further addr place)) _
    (ends (value_seen byte) c.args.size place addr c.loop-place.value.items _ (Misses (further addr place)) c.loop-place-test.true
    (value_unread byte (further addr place) byte_is) (c.loop-place.invariant byte addr low h) ∙ led_misses c.loop-place.value.items (further addr place)) tt

pub returns : goal.returns
returns c = λ byte addr low h.
    so _ (Whole c.loop-place.value.items) _
    (comes_to_end (value_seen byte) c.args.size c.loop-place.place addr c.loop-place.value.items _ (Whole []) c.loop-place-test.false
    (value_whole byte (further addr c.loop-place.place)) (c.loop-place.invariant byte addr low h) ∙ led_whole c.loop-place.value.items) refl
