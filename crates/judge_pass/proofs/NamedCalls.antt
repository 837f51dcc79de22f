-- The call that an id names is found by its number, since the ids go on from the first one.
-- By the ids of the calls that are kept, which differ.
use Rattle.std.proofs.Common.{◌≡◌, ℕ, ◌+◌, ◌%◌, ◌^◌, ◌<◌, true, false, List, [], ◌∷◌, length, refl, sym, ap, ◌∙◌, arith, inl, inr, Option, Some, None, ◌⊎◌}
use Rattle.std.specs.Prelude.{get_or, slice_get}
use Rattle.std.proofs.lemmas.Bool.{both_ways, cases_Bool}
use Rattle.std.proofs.lemmas.Option.{get_or_from_slice_get, slice_get_within}
use Rattle.tasks.proofs.Listed.{get-within}
use Rattle.hist_model.specs.Calls.{id, is_call, listed, named}
use Rattle.hist_model.specs.Kinds.{notifies}
use Rattle.hist_model.specs.Legal.{system_of}
use Rattle.hist_model.specs.declared.event.Event.{Event}
use Rattle.hist_model.specs.declared.script.Script.{Script}
use Rattle.hist_model.proofs.Look.{event_at-here, event_at-older}
use Rattle.history_frames.specs.Ordinals.{count_of, nth_of}
use Rattle.history_frames.proofs.Listed.{is_call-below, listed-is_call, named-is, named-listed}
use Rattle.history_frames.proofs.Ordinals.{place-below, place-new, place-old}
use Rattle.mediation.proofs.KernelCalls.{ids_differ}
use Rattle.judge_pass.specs.Stands.{IsCall, IsHistory, place_of_call}
use Rattle.judge_pass.specs.Tables.{is_listed_row, number_named, number_of}
use Rattle.judge_pass.specs.declared.calls.Call.{Call}
use Rattle.judge_pass.proofs.Rows.{count-below}

-- a call has a number
pub has-number : (K : List Event) (c : ℕ) → is_call K c ≡ true → (n : ℕ) × (nth_of notifies K n ≡ Some c)
has-number [] c h = absurd (omega (arith, is_call-below [] c h))
has-number (e ∷ K) c h = let ih = has-number K c in go ih (cases (is_call-below (e ∷ K) c h))
  where
    cases : c < length (e ∷ K) → (c ≡ length K) ⊎ (c < length K)
    cases l = grind arith

    go : (is_call K c ≡ true → (n : ℕ) × (nth_of notifies K n ≡ Some c)) → (c ≡ length K) ⊎ (c < length K) → (n : ℕ) × (nth_of notifies (e ∷ K) n ≡ Some c)
    go ih (inl q) = (count_of notifies K, rw q (place-new notifies e K (rw (q, event_at-here) at h)))
    go ih (inr l) =
        let k = ih (rw (event_at-older e K c l) at h) in
        (k.0, place-old notifies e K k.0 (place-below notifies K k.0 c k.1).0 ∙ k.1)

number-back : (first n : ℕ) → first < 2 ^ 64 → n < 2 ^ 64 → number_of first ((first + n) % 2 ^ 64) ≡ n
number-back first n f l = omega arith

number-there : (first x : ℕ) → first < 2 ^ 64 → x < 2 ^ 64 → (first + number_of first x) % 2 ^ 64 ≡ x
number-there first x f l = omega arith

-- the rows are those of the calls
pub record AreCalls (S : Script) (K : List Event) (rows : List Call) : Type 0 where
  pub number : length rows ≡ count_of notifies K
  pub each : (n : ℕ) (d : Call) → n < count_of notifies K → IsCall S K n (get_or rows n d)

pub named-by-number : (S : Script) (K : List Event) (rows : List Call) (x : ℕ) → IsHistory S K → AreCalls S K rows → S.firstid < 2 ^ 64 → x < 2 ^ 64
    → named K x ≡ place_of_call K (number_named S.firstid rows x)
named-by-number S K rows x history calls f l = by (slice_get rows k) refl
  where
    k : ℕ
    k = number_of S.firstid x

    same : (c d : ℕ) → listed K c ≡ true → listed K d ≡ true → id K c ≡ id K d → c ≡ d
    same = ids_differ (system_of S) K history.of_kernel history.fits

    there : (row : Call) → slice_get rows k ≡ Some row → IsCall S K k row
    there row q =
        let b = slice_get_within rows k row q in
        rw (← get_or_from_slice_get rows k row row q) (calls.each k row (omega (arith, b, calls.number)))

    none : is_listed_row (slice_get rows k) ≡ false → (o : Option ℕ) → named K x ≡ o → named K x ≡ None
    none u None q = q
    none u (Some c) q =
        let p = named-listed K x c q in
        let n = has-number K c (listed-is_call K c p.0) in
        let b = place-below notifies K n.0 c n.1 in
        let few = count-below notifies K in
        let fits = history.fits in
        let m : n.0 < 2 ^ 64 = omega (arith, b.0, few, fits) in
        let r = get-within rows n.0 (omega (arith, b.0, calls.number)) in
        let h : IsCall S K n.0 r.0 = rw (← get_or_from_slice_get rows n.0 r.0 r.0 r.1) (calls.each n.0 r.0 b.0) in
        let e : r.0.place ≡ c = cc (h.place_is, n.1) in
        let on : r.0.is_listed ≡ true = sym h.listed_is ∙ (ap (listed K) e ∙ p.0) in
        let i : x ≡ (S.firstid + n.0) % 2 ^ 64 = sym p.1 ∙ (ap (id K) (sym e) ∙ (h.called.id_is ∙ h.id_is)) in
        let z : k ≡ n.0 = ap (number_of S.firstid) i ∙ number-back S.firstid n.0 f m in
        absurd (both_ways (is_listed_row (slice_get rows k)) u (rw (z, r.1) on))

    by : (o : Option Call) → slice_get rows k ≡ o → named K x ≡ place_of_call K (number_named S.firstid rows x)
    by None q = rw q (none (rw q refl) (named K x) refl)
    by (Some row) q = elim (cases_Bool row.is_listed) [
      | inr u ↦ rw (q, u) (none (rw (q, u) refl) (named K x) refl)
      | inl u ↦
          let c = there row q in
          let on : listed K row.place ≡ true = c.listed_is ∙ u in
          let i : id K row.place ≡ x = c.called.id_is ∙ (c.id_is ∙ number-there S.firstid x f l) in
          rw (q, u) (named-is K x row.place on i (λ d h g. same d row.place h on (g ∙ sym i)) ∙ sym c.place_is)
    ]
