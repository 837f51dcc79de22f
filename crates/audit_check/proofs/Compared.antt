-- A text is compared with what is written: they have in common what was written of it.
-- By induction on how many bytes are the same, and by cases on whether another byte was written.
use Rattle.std.proofs.Common.{◌≡◌, ℕ, zero, suc, ◌+◌, ◌-◌, ◌<◌, ◌≤◌, ◌^◌, Bool, true, false, List, [], ◌∷◌, ◌++◌, length, take, drop, Option, Some, None, Ok, Err, refl, sym, ap, ap₂, ◌∙◌, append_assoc, append-nil, get_or, subst, arith, add-one, take_all}
use Rattle.std.specs.Prelude.{if◌then◌else◌, ◌==◌, is_some, slice_get}
use Rattle.std.specs.Cmp.Lexicographic.{bytes_decides}
use Rattle.std.specs.List.{starts_with}
use Rattle.std.specs.Option.{ForSome}
use Rattle.std.proofs.lemmas.Bool.{eqb-true}
use Rattle.std.proofs.lemmas.Bool.Decides.{nat_tests}
use Rattle.std.proofs.lemmas.Option.{slice_get-get_or}
use Rattle.std.proofs.lemmas.List.{length-take, length-take-le, take-append-drop}
use Rattle.std.proofs.Math.Seq.{take-add, take-length}
use Rattle.io_edge.specs.SinkState.{AddsPrefix, SinkState, Writes}
use Rattle.audit_log.specs.Written.{Wrote}
use Rattle.audit_log.specs.declared.error.ReportError.TheVariants.{WriteFault}
use Rattle.audit_check.specs.Pass.{Compares, ends, faults_of, parted, told, written}
use Rattle.audit_check.proofs.Cut.{rest_whole}

some-same : {a b : ℕ} → Some a ≡ Some b → a ≡ b
some-same e = cc

-- one byte more is the same
pub same_more : (n b : ℕ) (text piece : List ℕ) → take n text ≡ take n piece → slice_get text n ≡ Some b → slice_get piece n ≡ Some b → take (n + 1) text ≡ take (n + 1) piece
same_more n b text piece q f g = rw add-one (by n text piece q f g)
  where
    by : (n : ℕ) (text piece : List ℕ) → take n text ≡ take n piece → slice_get text n ≡ Some b → slice_get piece n ≡ Some b → take (suc n) text ≡ take (suc n) piece
    by zero [] piece q f g = cc
    by zero (x ∷ text) [] q f g = cc
    by zero (x ∷ text) (y ∷ piece) q f g = let e : x ≡ y = some-same (f ∙ sym g) in rw e refl
    by (suc n) [] piece q f g = cc
    by (suc n) (x ∷ text) [] q f g = cc
    by (suc n) (x ∷ text) (y ∷ piece) q f g = let e : x ≡ y = cc in let t : take n text ≡ take n piece = cc in ap₂ (λ z zs. z ∷ zs) e (by n text piece t f g)

-- a piece that stands at the front is the same
pub same_front : (text piece : List ℕ) → starts_with ◌==◌ text piece ≡ true → take (length piece) text ≡ take (length piece) piece
same_front text piece h = sym ((bytes_decides piece (take (length piece) text)).0 h) ∙ sym (take-length piece)

-- what stands behind a front
get-behind : (n k : ℕ) (text : List ℕ) → slice_get (drop n text) k ≡ slice_get text (n + k)
get-behind zero k text = let e : zero + k ≡ k = omega arith in rw e refl
get-behind (suc n) k [] = refl
get-behind (suc n) k (x ∷ text) = let e : suc n + k ≡ suc (n + k) = omega arith in rw e (get-behind n k text)

behind-front : (n : ℕ) (text : List ℕ) → slice_get (drop n text) 0 ≡ slice_get text n
behind-front n text = let e : n + 0 ≡ n = omega arith in get-behind n 0 text ∙ ap (slice_get text) e

-- the first byte that isn't the text's next
pub differs_behind : (text piece : List ℕ) (same k : ℕ) → k < length piece → (slice_get (take (length text - same) (drop same text)) k ≡ slice_get piece k → ⊥)
    → (x : ℕ) → Some (get_or piece k 0) ≡ Some x → slice_get text (same + k) ≡ Some x → ⊥
differs_behind text piece same k l d x e q =
    d (ap (λ rest. slice_get rest k) (rest_whole same text) ∙ (get-behind same k text ∙ (q ∙ (sym e ∙ sym (slice_get-get_or piece k 0 l)))))

there : (n : ℕ) (text : List ℕ) → n < length text → slice_get text n ≡ None → ⊥
there n [] l q = absurd (omega arith)
there zero (x ∷ text) l q = cc
there (suc n) (x ∷ text) l q = there n text (omega arith) q

pub inside_same : (n : ℕ) (text piece : List ℕ) → take n text ≡ take n piece → n ≤ length piece → n ≤ length text
inside_same n text piece q l = omega (arith, length-take n text, length-take-le n piece l, ap length q)

-- a piece that was written is the text's
pub wrote_whole : (text piece : List ℕ) (same k : ℕ) → take k (drop same text) ≡ take k piece → k ≡ length piece → take (same + k) text ≡ take same text ++ piece
wrote_whole text piece same k q l = take-add same k text ∙ ap (λ more. take same text ++ more) (q ∙ take_all k piece (omega arith))

take-next : (n b : ℕ) (piece : List ℕ) → slice_get piece n ≡ Some b → take (suc n) piece ≡ take n piece ++ b ∷ []
take-next zero b [] q = cc
take-next zero b (x ∷ piece) q = let e : x ≡ b = some-same q in rw e refl
take-next (suc n) b [] q = cc
take-next (suc n) b (x ∷ piece) q = ap (λ front. x ∷ front) (take-next n b piece q)

-- so is its front, and then comes another byte
pub wrote_part : (text piece : List ℕ) (same k b : ℕ) → take k (drop same text) ≡ take k piece → k < length piece → slice_get piece k ≡ Some b → AddsPrefix (take same text) piece (take (same + k) text ++ b ∷ [])
wrote_part text piece same k b q l g = (
  k + 1,
  omega arith,
  ap (λ front. front ++ b ∷ []) (take-add same k text ∙ ap (λ more. take same text ++ more) q)
      ∙ (append_assoc (take same text) (take k piece) (b ∷ []) ∙ ap (λ more. take same text ++ more) (rw add-one (sym (take-next k b piece g)))),
)

below : (a b : ℕ) → a ≤ b → (a == b) ≡ false → a < b
below a b l h = grind (arith, nat_tests)

-- ---- When all is written

module _ (text : List ℕ) (same : ℕ) (within : same ≤ length text) where
  compares-none : (T : List ℕ) → T ≡ take same text → Compares T text (parted text same None)
  compares-none T q = by (same == length text) refl
    where
      by : (b : Bool) → (same == length text) ≡ b → Compares T text (if b then None else Some (ends (take same text)))
      by true h = q ∙ take_all same text (let e = eqb-true same (length text) h in omega arith)
      by false h = (
        take same text,
        record {
          text_rest = [];
          other_rest = drop same text;
          text_is = q ∙ sym (append-nil (take same text));
          other_is = sym (take-append-drop same text);
          differ = λ e. there same text (below same (length text) within h) (sym (e ∙ behind-front same text));
        },
        refl,
      )

  compares-other : (b : ℕ) (T more : List ℕ) → (slice_get text same ≡ Some b → ⊥) → T ≡ (take same text ++ b ∷ []) ++ more → Compares T text (parted text same (Some b))
  compares-other b T more d q = (
    take same text,
    record {
      text_rest = b ∷ more;
      other_rest = drop same text;
      text_is = q ∙ append_assoc (take same text) (b ∷ []) more;
      other_is = sym (take-append-drop same text);
      differ = λ e. d (sym (e ∙ behind-front same text));
    },
    refl,
  )

  pub compares_whole : (other : Option ℕ) (T : List ℕ) → ForSome other (λ b. slice_get text same ≡ Some b → ⊥) → T ≡ written text same other → Compares T text (parted text same other)
  compares_whole None T d q = compares-none T q
  compares_whole (Some b) T d q = compares-other b T [] (d b refl) (q ∙ sym (append-nil (take same text ++ b ∷ [])))

  pub compares_part : (other : Option ℕ) (T : List ℕ) (n : ℕ) → ForSome other (λ b. slice_get text same ≡ Some b → ⊥) → 0 < faults_of other → written text same other ≡ take n T → Compares T text (parted text same other)
  compares_part None T n d f q = absurd (omega arith)
  compares_part (Some b) T n d f q = compares-other b T (drop n T) (d b refl) (sym (take-append-drop n T) ∙ ap (λ front. front ++ drop n T) (sym q))

-- ---- The sink

-- what is known of the sink
abbrev pub known : List ℕ → ℕ → Option ℕ → SinkState
known text same other = record { tells = true; taken = told text same other; faults = faults_of other; pending = false }

-- what is added behind a front
adds-behind : (front old piece new : List ℕ) → AddsPrefix old piece new → AddsPrefix (front ++ old) piece (front ++ new)
adds-behind front old piece new p = (p.0, p.1, ap (λ more. front ++ more) p.2 ∙ sym (append_assoc front old (take p.0 piece)))

module _ (text piece : List ℕ) (same : ℕ) where
  module _ (k : ℕ) (q : take k (drop same text) ≡ take k piece) where
    -- it takes the whole piece
    pub takes_whole : {E : Type 0} (other : Option ℕ) → is_some other ≡ false → k ≡ length piece → Writes {T = Unit {0}} {E = E} (known text same other) piece (Ok tt) (known text (same + k) other)
    takes_whole None h l = record {
      tells = refl;
      faults = omega arith;
      cause = tt;
      whole = λ t. ap (λ more. (length text ∷ text) ++ more) (wrote_whole text piece same k q l) ∙ sym (append_assoc (length text ∷ text) (take same text) piece);
      part = tt;
    }
    takes_whole (Some b) h l = cc

    -- it takes the front, and fails
    pub takes_part : {E : Type 0} (e : E) (other : Option ℕ) (b : ℕ) → is_some other ≡ false → k < length piece → slice_get piece k ≡ Some b → Writes {T = Unit {0}} (known text same other) piece (Err e) (known text (same + k) (Some b))
    takes_part e None b h l g = record {
      tells = refl;
      faults = omega arith;
      cause = λ m. omega arith;
      whole = tt;
      part = λ t. adds-behind (length text ∷ text) (take same text) piece (take (same + k) text ++ b ∷ []) (wrote_part text piece same k b q l g);
    }
    takes_part e (Some c) b h l g = cc

risen : (o : Option ℕ) → (faults_of o < 2 ^ 64 - 1 → 0 < faults_of o) → 0 < faults_of o
risen None r = absurd (let l = r (omega arith) in omega arith)
risen (Some b) r = omega arith

-- fronts of one length are one, and so is what stands behind them
fronts-same : (a b more rest : List ℕ) → length a ≡ length b → a ++ more ≡ b ++ rest → (a ≡ b) × (more ≡ rest)
fronts-same [] [] more rest l q = (refl, q)
fronts-same [] (y ∷ b) more rest l q = absurd (omega arith)
fronts-same (x ∷ a) [] more rest l q = absurd (omega arith)
fronts-same (x ∷ a) (y ∷ b) more rest l q =
    let e : x ≡ y = cc in
    let t : a ++ more ≡ b ++ rest = cc in
    let r = fronts-same a b more rest (omega arith) t in
    (ap₂ (λ z zs. z ∷ zs) e r.0, r.1)

-- the text is the same, and this was written
kept : (text now T more : List ℕ) → (length now ∷ now) ++ more ≡ ((length text ∷ text) ++ []) ++ T → (now ≡ text) × (more ≡ T)
kept text now T more q =
    let all : (length now ∷ now) ++ more ≡ (length text ∷ text) ++ T = q ∙ append_assoc (length text ∷ text) [] T in
    let size : length now ≡ length text = cc in
    let behind : now ++ more ≡ text ++ T = cc in
    fronts-same now text more T size behind

-- what was written to it tells how the texts compare
module _ (text now T : List ℕ) (same : ℕ) (other : Option ℕ) (within : same ≤ length now) (differs : ForSome other (λ b. slice_get now same ≡ Some b → ⊥)) where
  pub compares_wrote : Wrote (known text 0 None) T (Ok tt) (known now same other) → (now ≡ text) × Compares T text (parted now same other)
  compares_wrote w =
      let k = kept text now T (written now same other) (w.whole refl) in
      (k.0, subst (λ t. Compares T t (parted now same other)) k.0 (compares_whole now same within other T differs (sym k.1)))

  pub compares_failed : Wrote (known text 0 None) T (Err WriteFault) (known now same other) → (now ≡ text) × Compares T text (parted now same other)
  compares_failed w =
      let rose = w.cause refl in
      let part = w.part refl in
      let k = kept text now (take part.0 T) (written now same other) part.2 in
      (k.0, subst (λ t. Compares T t (parted now same other)) k.0 (compares_part now same within other T part.0 differs (risen other rose) k.1))
