-- How often caps were spent, after one more event.
-- By cases on the event, and by what a map has at each key after an insertion.
use Rattle.std.proofs.Common.{◌≡◌, ℕ, ◌+◌, List, ◌∷◌, Option, Some, None, refl, sym, ap, ◌∙◌, arith, if◌then◌else◌, nat_le, Ok}
use Rattle.hist_model.specs.Steps.{is_cap_of, is_spent, spends, times_spent}
use Rattle.hist_model.specs.declared.policy.Cap.{Cap}
use Rattle.model_kernel.proofs.Words.{Act, AreTimes, Event, Plant, SpentRows, What}
use Rattle.model_kernel.specs.Spent.{is_spent_in, times_in}
use Rattle.model_kernel.specs.Stands.{cap_spent}

spends-cap : (what : What) (rule : ℕ) → spends what rule ≡ is_cap_of (cap_spent what) rule
spends-cap (Act q cap (Ok u)) rule = refl
spends-cap (Plant a b cap (Ok u)) rule = refl
spends-cap what rule = refl

pub spent-after : (e : Event) (K : List Event) (cap : Option Cap) (rule : ℕ) → cap_spent e.what ≡ cap → times_spent (e ∷ K) rule ≡ times_spent K rule + (if is_cap_of cap rule then 1 else 0)
unfolding times_spent
spent-after e K cap rule h = rw (spends-cap e.what rule, h)

pub times-spent : (K : List Event) (e : Event) (old new : SpentRows) (cap : Option Cap) → AreTimes K old → cap_spent e.what ≡ cap → ((rule : ℕ) → times_in new rule ≡ times_in old rule + (if is_cap_of cap rule then 1 else 0)) → AreTimes (e ∷ K) new
times-spent K e old new cap s h t rule = t rule ∙ (ap (λ n. n + (if is_cap_of cap rule then 1 else 0)) (s rule) ∙ sym (spent-after e K cap rule h))

pub times-kept : (K : List Event) (e : Event) (T : SpentRows) → AreTimes K T → cap_spent e.what ≡ None → AreTimes (e ∷ K) T
times-kept K e T s h = times-spent K e T T None s h (λ rule. omega arith)

pub is-spent : (K : List Event) (T : SpentRows) (cap : Option Cap) → AreTimes K T → is_spent_in T cap ≡ is_spent K cap
is-spent K T (Some cap) s = ap (nat_le cap.times) (s cap.rule)
is-spent K T None s = refl
