-- What is read is compared with the text that is written of it.
use Rattle.std.proofs.Common.{◌∙◌, ℕ, ◌<◌, ◌^◌, arith, sym, refl}
use Rattle.worker_ledger.proofs.Texts.{has_text, is_true, not_text, not_true}
use Rattle.worker_ledger.proofs.ledger.Ledger.read.Goals as goal

number-small : (n : ℕ) → n < 256 → n < 2 ^ 64
number-small n f = omega (arith, f)

pub returns-in_default : goal.returns-in_default
returns-in_default c = λ count own l told e. rw c.in_default.is at (c.in_ok-count.ensures c.args.no count own (number-small c.args.no c.ranges.no.fits) l told e)

pub returns-then-not-are_same : goal.returns-then-not-are_same
returns-then-not-are_same c = λ count own l told e.
    let parts = rw c.in-Some.is at (c.in_ok-count.ensures c.args.no count own (number-small c.args.no c.ranges.no.fits) l told e) in
    not_text c.args.bytes.now c.in_ok-text.text.items c.args.no count c.of-ledger.result own (rw c.of-ledger.ensures.parts refl) c.in_ok-text.ensures.text
    (λ same. not_true c.are_same.result c.if-not-are_same.true (c.are_same.ensures.1 (c.as_slice.ensures.value ∙ same)))
    (rw c.of-ledger.ensures.parts parts) e

pub returns : goal.returns
returns c =
    has_text c.args.bytes.now c.in_ok-text.text.items c.args.no c.of-ledger.result (rw c.of-ledger.ensures.parts refl) (rw c.of-ledger.ensures.parts c.of-ledger.ensures.small) c.in_ok-text.ensures.answers c.in_ok-text.ensures.text
    (sym c.as_slice.ensures.value ∙ c.are_same.ensures.0 (is_true c.are_same.result c.if-not-are_same.false))
    (λ count own l told e. let parts = rw c.in-Some.is at (c.in_ok-count.ensures c.args.no count own (number-small c.args.no c.ranges.no.fits) l told e) in rw c.of-ledger.ensures.parts parts)
