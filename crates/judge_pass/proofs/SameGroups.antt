-- Groups are one exactly where their ordinals are.
-- By the place that each ordinal of a group has.
use Rattle.std.proofs.Common.{◌≡◌, ℕ, ◌<◌, Bool, true, false, List, Some, inl, inr, ap, sym, ◌∙◌}
use Rattle.std.specs.Prelude.{◌==◌}
use Rattle.std.proofs.lemmas.Bool.{cases_Bool, eqb-true, eq-eqb, ne_eqb}
use Rattle.hist_model.specs.Look.{is_place}
use Rattle.hist_model.specs.declared.event.Event.{Event}
use Rattle.hist_model.specs.declared.event.What.{What}
use Rattle.history_frames.specs.Ordinals.{count_of, group_of, groups_made, makes_group, nth_of}
use Rattle.history_frames.proofs.Ordinals.{made-place, place-below, place-one}
use Rattle.broker_verdict.specs.Seats.{of_call}

pub unlike : (a b : ℕ) → (a == b) ≡ false → a ≡ b → ⊥
unlike a b e same = let t : true ≡ false = sym (eq-eqb a b same) ∙ e in cc

pub same_ordinal : (kind : What → Bool) (K : List Event) (a b : ℕ) → a < count_of kind K → b < count_of kind K → of_call (nth_of kind K a) (is_place (nth_of kind K b)) ≡ (a == b)
same_ordinal kind K a b low lower =
    let p = made-place kind K a low in
    let q = made-place kind K b lower in
    elim (cases_Bool (a == b)) [
      | inl e ↦ let same : a ≡ b = eqb-true a b e in
          let one : Some p.0 ≡ Some q.0 = sym p.1 ∙ ap (nth_of kind K) same ∙ q.1 in
          let at : q.0 ≡ p.0 = cc in
          rw (p.1, q.1, e) (eq-eqb q.0 p.0 at)
      | inr e ↦ rw (p.1, q.1, e) (ne_eqb q.0 p.0 (λ at. unlike a b e (place-one kind K a b p.0 p.1 (q.1 ∙ ap Some at))))
    ]

pub same_groups : (K : List Event) (a b : ℕ) → a < groups_made K → b < groups_made K → of_call (group_of K a) (is_place (group_of K b)) ≡ (a == b)
same_groups K a b low lower = same_ordinal makes_group K a b low lower

pub made_group : (K : List Event) (g : ℕ) → g < groups_made K → (p : ℕ) × (group_of K g ≡ Some p)
made_group K g low = made-place makes_group K g low

swapped : (a b : ℕ) → (a == b) ≡ (b == a)
swapped a b =
    elim (cases_Bool (b == a)) [
      | inl e ↦ rw e (eq-eqb a b (sym (eqb-true b a e)))
      | inr e ↦ rw e (ne_eqb a b (λ same. unlike b a e (sym same)))
    ]

-- and so of the places of other events
pub same_places : (kind : What → Bool) (K : List Event) (a b p q : ℕ) → nth_of kind K a ≡ Some p → nth_of kind K b ≡ Some q → (p == q) ≡ (a == b)
same_places kind K a b p q p_is q_is =
    let e = same_ordinal kind K a b (place-below kind K a p p_is).0 (place-below kind K b q q_is).0 in
    swapped p q ∙ rw (p_is, q_is) at e
