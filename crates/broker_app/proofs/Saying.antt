-- What the writing and flushing of a line did to standard error.
-- By cases on both outcomes.
use Rattle.std.proofs.Common.{◌≡◌, ℕ, List, ◌++◌, length, Result, Ok, Err, sym, ap, ◌∙◌, append_assoc, arith, inl, inr}
use Rattle.std.proofs.lemmas.List.{take_all}
use Rattle.io_edge.proofs.Laws.{then_rose}
use Rattle.io_edge.specs.SinkState.{SinkState, AddsPrefix, Writes, Flushes}
use Rattle.audit_log.proofs.Writing.{adds_front, adds_after}
use Rattle.broker_app.specs.Answers.{Said}

-- the whole of a line is a prefix of it
adds_all : (old line new : List ℕ) → new ≡ old ++ line → AddsPrefix old line new
adds_all old line new is = (length line, omega arith, is ∙ ap (λ xs. old ++ xs) (sym (take_all (length line) line (omega arith))))

-- a line whose writing failed
pub said_cut : {T E : Type 0} (old new : SinkState) (line : List ℕ) (x : E) → Writes {T = T} {E = E} old line (Err x) new → Said old line new
said_cut old new line x w = record { tells = w.tells; faults = w.faults; whole = inl w.cause; part = λ t. w.part t }

-- a line that was written, and flushed or not
pub said_flushed : {T U E F : Type 0} (old mid new : SinkState) (line : List ℕ) (u : T) (r : Result U F) → Writes {T = T} {E = E} old line (Ok u) mid → Flushes {T = U} {E = F} mid r new → Said old line new
said_flushed old mid new line u (Ok v) w f = record {
  tells = f.tells ∙ w.tells;
  faults = omega (arith, w.faults, f.faults);
  whole = inr (λ t. f.taken (w.tells ∙ t) ∙ w.whole t, λ stands. f.stands);
  part = λ t. adds_all old.taken line new.taken (f.taken (w.tells ∙ t) ∙ w.whole t);
}
said_flushed old mid new line u (Err x) w f = record {
  tells = f.tells ∙ w.tells;
  faults = omega (arith, w.faults, f.faults);
  whole = inl (then_rose old.faults mid.faults new.faults w.faults f.cause);
  part = λ t. adds_all old.taken line new.taken (f.taken (w.tells ∙ t) ∙ w.whole t);
}

-- a piece that couldn't be written ends the line that it is a part of
pub writes_front : {T U E : Type 0} (old new : SinkState) (a b : List ℕ) (x y : E) (r : Result U E) → r ≡ Err y → Writes {T = T} {E = E} old a (Err x) new → Writes {T = U} {E = E} old (a ++ b) r new
writes_front old new a b x y r is w = rw is (record { tells = w.tells; faults = w.faults; cause = w.cause; whole = tt; part = λ t. adds_front old.taken a b new.taken (w.part t) })

-- a piece after another
pub writes_more : {T U E : Type 0} (old mid new : SinkState) (a b : List ℕ) (u : T) (r : Result U E) → Writes {T = T} {E = E} old a (Ok u) mid → Writes {T = U} {E = E} mid b r new → Writes {T = U} {E = E} old (a ++ b) r new
writes_more old mid new a b u (Ok v) w z = record {
  tells = z.tells ∙ w.tells;
  faults = omega (arith, w.faults, z.faults);
  cause = tt;
  whole = λ t. z.whole (w.tells ∙ t) ∙ ap (λ xs. xs ++ b) (w.whole t) ∙ append_assoc old.taken a b;
  part = tt;
}
writes_more old mid new a b u (Err x) w z = record {
  tells = z.tells ∙ w.tells;
  faults = omega (arith, w.faults, z.faults);
  cause = then_rose old.faults mid.faults new.faults w.faults z.cause;
  whole = tt;
  part = λ t. adds_after old.taken a b mid.taken new.taken (w.whole t) (z.part (w.tells ∙ t));
}
