-- A byte is led by those before it, and a zero ends the text.
use Rattle.std.proofs.Common.{◌≡◌, [], ap, refl, sym, ◌∙◌}
use Rattle.hist_model.specs.Copies.{further}
use Rattle.sys_abi.specs.Errnos.{efault}
use Rattle.broker_verdict.specs.SeatCopies.{Byte, Fails, Misses, text_seen, Unmapped, Unread, Whole}
use Rattle.broker_judge.proofs.Known.{begins, comes_to_end, ends, goes_on, led_fails, led_misses, led_whole, so, text_ends, text_first, text_unmapped, text_unread, text_without_end}
use Rattle.broker_judge.proofs.copies.text_seen.Goals as goal

pub loop-place-init : goal.loop-place-init
loop-place-init c = λ byte addr low h. rw c.new-text.ensures.items (begins (text_seen byte c.args.fault) c.args.limit addr low)

pub loop-place-preserved : goal.loop-place-preserved
loop-place-preserved c = λ byte addr low h.
    let place = c.loop-place.place in
    let byte_is : byte (further addr place) ≡ Byte c.in-Byte.byte = sym (h place c.loop-place-test.true) ∙ sym c.in-Byte.ensures in
    rw c.in_ok-push-in-Byte.ensures.items
    (goes_on (text_seen byte c.args.fault) c.args.limit place addr c.in-Byte.byte c.loop-place.text.items _ c.loop-place-test.true
    (text_first byte c.args.fault (further addr place) c.in-Byte.byte c.in-Byte.byte-test.1 byte_is) (c.loop-place.invariant byte addr low h))

pub returns-in-Byte-eq0 : goal.returns-in-Byte-eq0
returns-in-Byte-eq0 c = λ byte addr low h.
    let place = c.loop-place.place in
    let byte_is : byte (further addr place) ≡ Byte 0 = sym (h place c.loop-place-test.true) ∙ sym c.in-Byte-eq0.ensures ∙ ap Byte c.in-Byte-eq0.field-0-test in
    so _ (Whole c.loop-place.text.items) _
    (ends (text_seen byte c.args.fault) c.args.limit place addr c.loop-place.text.items _ (Whole []) c.loop-place-test.true
    (text_ends byte c.args.fault (further addr place) byte_is) (c.loop-place.invariant byte addr low h) ∙ led_whole c.loop-place.text.items) refl

pub returns-in-Unmapped : goal.returns-in-Unmapped
returns-in-Unmapped c = λ byte addr low h.
    let place = c.loop-place.place in
    let byte_is : byte (further addr place) ≡ Unmapped = sym (h place c.loop-place-test.true) ∙ sym c.in-Unmapped.ensures in
    so _ (Fails efault) _
    (ends (text_seen byte c.args.fault) c.args.limit place addr c.loop-place.text.items _ (Fails efault) c.loop-place-test.true
    (text_unmapped byte c.args.fault (further addr place) byte_is) (c.loop-place.invariant byte addr low h) ∙ led_fails c.loop-place.text.items efault) refl

pub returns-in-Unread : goal.returns-in-Unread
returns-in-Unread c = λ byte addr low h.
    let place = c.loop-place.place in
    let byte_is : byte (further addr place) ≡ Unread = sym (h place c.loop-place-test.true) ∙ sym c.in-Unread.ensures in
    so _ (Misses (further addr place)) _
    (ends (text_seen byte c.args.fault) c.args.limit place addr c.loop-place.text.items _ (Misses (further addr place)) c.loop-place-test.true
    (text_unread byte c.args.fault (further addr place) byte_is) (c.loop-place.invariant byte addr low h) ∙ led_misses c.loop-place.text.items (further addr place)) tt

pub returns : goal.returns
returns c = λ byte addr low h.
    so _ (Fails c.args.fault) _
    (comes_to_end (text_seen byte c.args.fault) c.args.limit c.loop-place.place addr c.loop-place.text.items _ (Fails c.args.fault) c.loop-place-test.false
    (text_without_end byte c.args.fault (further addr c.loop-place.place)) (c.loop-place.invariant byte addr low h) ∙ led_fails c.loop-place.text.items c.args.fault) refl
