-- What is noted of an effect whose result a success tells: of that one alone that it was told.
-- By what the success tells, and by the place that each effect has.
use Rattle.std.proofs.Common.{◌≡◌, ℕ, ◌<◌, Bool, true, false, ◌&&◌, ℤ, List, get_or, length, Option, Some, None, inl, inr, refl, sym, ◌∙◌, arith}
use Rattle.std.specs.Prelude.{◌==◌, is_some, not, IfSome, Ok}
use Rattle.std.specs.Vec.{with_item}
use Rattle.std.proofs.lemmas.Bool.{cases_Bool, eqb-true}
use Rattle.std.proofs.lemmas.Option.{get_or_from_slice_get, slice_get_read}
use Rattle.std.proofs.lemmas.List.{get_or-set_other, get_or-set_same, length-set}
use Rattle.hist_model.specs.Look.{ev}
use Rattle.hist_model.specs.Steps.{session_call}
use Rattle.hist_model.specs.declared.event.Actor.TheVariants.{Worker}
use Rattle.hist_model.specs.declared.event.Back.TheVariants.{Value}
use Rattle.hist_model.specs.declared.event.Event.{Event}
use Rattle.hist_model.specs.declared.event.What.TheVariants.{Send}
use Rattle.hist_model.specs.declared.policy.Policy.{Policy}
use Rattle.hist_model.specs.declared.script.Script.{Script}
use Rattle.history_frames.specs.Ordinals.{count_of, nth_of}
use Rattle.history_frames.proofs.Ordinals.{made-place}
use Rattle.broker_verdict.specs.Answers.{gave_at, is_told, tells}
use Rattle.broker_verdict.specs.Seats.{effect_of, is_effect}
use Rattle.judge_pass.specs.declared.done.Done.{Done}
use Rattle.judge_pass.specs.declared.judge.Judge.{Judge}
use Rattle.judge_pass.specs.Stands.{place_of_effect, Stands}
use Rattle.judge_pass.specs.Told.{NotesTold, own_told, remembered_for, told_by}
use Rattle.judge_pass.specs.Within.{effects_kept}
use Rattle.judge_pass.proofs.SameGroups.{same_places, unlike}
use Rattle.judge_pass.proofs.Telling.{none_own, some_own, tells_so}

-- a success is sent
abbrev pub sends : ℕ → ℕ → ℤ → Event
sends w id value = ev (Worker w) (Send id (Value value) (Ok tt))

same_element : (xs : List Done) (m : ℕ) (x d : Done) → m < length xs → x ≡ get_or xs m x → get_or xs m d ≡ x
same_element xs m x d low is = get_or_from_slice_get xs m x d (slice_get_read xs (length xs) m x refl low is)

-- where nothing is told, nothing is noted
pub none_noted : (K : List Event) (e : Event) (j : Judge) → ((p : ℕ) → tells K (is_told K) e p ≡ false) → NotesTold K e j j
none_noted K e j none = record {
  effects_are = refl;
  noted = λ n d low. rw (none (get_or j.done.items n d).place) refl;
  same = refl;
}

-- a seat's own effect isn't one for an earlier call
pub own_tells_none : (K : List Event) (w id t : ℕ) (value : ℤ) → own_told K w ≡ Some t → (p : ℕ) → tells K (is_told K) (sends w id value) p ≡ false
own_tells_none K w id t value own p = tells_so K w id p value ∙ rw (some_own K w t own) refl

and_false : (b : Bool) → (b && false) ≡ false
and_false true = refl
and_false false = refl

pub none_remembered : (K : List Event) (w id : ℕ) (value : ℤ) → remembered_for K w (session_call K w) ≡ None → (p : ℕ) → tells K (is_told K) (sends w id value) p ≡ false
none_remembered K w id value none p = tells_so K w id p value ∙ rw none (and_false (not (is_some (gave_at K (effect_of K w)))))

-- the effect with this number is told, and no other one
told_one : (K : List Event) (w id m t n p : ℕ) (value : ℤ) → own_told K w ≡ None → remembered_for K w (session_call K w) ≡ nth_of is_effect K m → nth_of is_effect K m ≡ Some t
    → nth_of is_effect K n ≡ Some p → tells K (is_told K) (sends w id value) p ≡ (m == n)
told_one K w id m t n p value own found m_is n_is =
    tells_so K w id p value ∙ rw (none_own K w own, found, m_is) (same_places is_effect K m n t p m_is n_is)

pub one_noted : (P : Policy) (S : Script) (K : List Event) (j : Judge) (w id m t : ℕ) (value : ℤ) (done : Done) → Stands P S K j → m < effects_kept j
    → done ≡ get_or j.done.items m done → own_told K w ≡ None → remembered_for K w (session_call K w) ≡ nth_of is_effect K m → nth_of is_effect K m ≡ Some t
    → NotesTold K (sends w id value) j (record j { done = with_item j.done m (record done { is_told = true }) })
one_noted P S K j w id m t value done h low kept own found m_is = record {
  effects_are = length-set j.done.items m (record done { is_told = true });
  noted = λ n d below. by_number n d below;
  same = refl;
}
  where
    by_number : (n : ℕ) (d : Done) → n < effects_kept j
        → get_or (with_item j.done m (record done { is_told = true })).items n d ≡ told_by K (sends w id value) (get_or j.done.items n d)
    by_number n d below =
        let first = (h.done m done (omega (arith, h.done_are, low))).place_is in
        let place = (h.done n d (omega (arith, h.done_are, below))).place_is in
        let told = told_one K w id m t n (get_or j.done.items n d).place value own found m_is place in
        elim (cases_Bool (m == n)) [
          | inl q ↦ let same : m ≡ n = eqb-true m n q in
              let one : get_or j.done.items n d ≡ done = rw same at (same_element j.done.items m done d low kept) in
              let at : tells K (is_told K) (sends w id value) done.place ≡ true = rw (one, q) at told in
              rw (← same, get_or-set_same j.done.items m (record done { is_told = true }) d low, same, one, at) refl
          | inr q ↦ rw (get_or-set_other j.done.items m n (record done { is_told = true }) d (λ same. unlike m n q (sym same)), told, q) refl
        ]

-- ---- the place of a number that may be none

pub place_of_some : (K : List Event) (o : Option ℕ) (limit : ℕ) → is_some o ≡ true → IfSome o (λ n. n < limit) → limit ≡ count_of is_effect K → (t : ℕ) × (place_of_effect K o ≡ Some t)
place_of_some K None limit some low same = cc
place_of_some K (Some n) limit some low same = made-place is_effect K n (omega (arith, low, same))

pub place_of_none : (K : List Event) (o : Option ℕ) → is_some o ≡ false → place_of_effect K o ≡ None
place_of_none K None none = refl
place_of_none K (Some n) none = cc
