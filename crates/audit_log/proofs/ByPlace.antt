-- What is kept of each event by its place, with one more event.
-- By cases on whether the event is the last one.
use Rattle.std.proofs.Common.{◌≡◌, ℕ, ◌+◌, List, [], ◌∷◌, ◌++◌, length, Option, refl, sym, ap, ◌∙◌, arith}
use Rattle.std.specs.Prelude.{◌==◌, if◌then◌else◌}
use Rattle.std.proofs.lemmas.Bool.{eq-eqb, ne_eqb}
use Rattle.std.proofs.lemmas.List.{length-append}
use Rattle.hist_model.specs.declared.event.Event.{Event}
use Rattle.audit_log.specs.ByPlace.{ByPlace}

-- of no event
pub none_by_place : (f : List Event → Event → Option ℕ) (places : ℕ → Option ℕ) (H : List Event) → H ≡ [] → ByPlace f H places
none_by_place f places H q [] K e h = let n : [] ≡ e ∷ K = sym q ∙ h in cc
none_by_place f places H q (x ∷ later) K e h = let n : [] ≡ x ∷ (later ++ e ∷ K) = sym q ∙ h in cc

-- with one more event
pub by_place_more : (f : List Event → Event → Option ℕ) (K : List Event) (e : Event) (o : Option ℕ) (before after : ℕ → Option ℕ) → ByPlace f K before → o ≡ f K e
    → ((p : ℕ) → after p ≡ (if length K == p then o else before p)) → ByPlace f (e ∷ K) after
by_place_more f K e o before after t h a [] M g q =
    let p : g ≡ e = cc in
    let m : M ≡ K = cc in
    rw (p, m) (a (length K) ∙ ap (λ b. if b then o else before (length K)) (eq-eqb (length K) (length K) refl) ∙ h)
by_place_more f K e o before after t h a (x ∷ later) M g q =
    let r : K ≡ later ++ g ∷ M = cc in
    let m : length (later ++ g ∷ M) ≡ length later + length (g ∷ M) = length-append later (g ∷ M) in
    let n : length K ≡ length (later ++ g ∷ M) = ap length r in
    let d : (length K ≡ length M → ⊥) = (λ s. omega arith) in
    a (length M) ∙ ap (λ b. if b then o else before (length M)) (ne_eqb (length K) (length M) d) ∙ t later M g r
