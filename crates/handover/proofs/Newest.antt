-- The newest event of a history stands at the place before its length.
-- By the lemma on the event at the place behind those before it.
use Rattle.std.proofs.Common.{◌≡◌, ℕ, ◌-◌, ◌<◌, ◌≤◌, Bool, true, false, List, [], ◌∷◌, length, Option, Some, None, refl, sym, ◌∙◌, arith}
use Rattle.std.specs.Prelude.{◌==◌, IfSome, IfNone}
use Rattle.std.specs.Option.{option_map}
use Rattle.std.proofs.lemmas.Bool.{eqb-true}
use Rattle.hist_model.proofs.Look.{event_at-here}
use Rattle.hist_model.specs.Look.{event_at}
use Rattle.hist_model.specs.declared.event.Event.{Event}
use Rattle.handover.specs.Keeping.{newest_of}

newest-at : (H : List Event) (e : Event) → 0 < length H → event_at H (length H - 1) ≡ Some e → Some e ≡ newest_of H
newest-at [] e l h = absurd (omega arith)
newest-at (f ∷ K) e l h =
    let last : length (f ∷ K) - 1 ≡ length K = omega arith in
    sym (rw last at h) ∙ event_at-here f K

pub newest_got : {A : Type 0} (now : A → Event) (H : List Event) (i : ℕ) (o : Option A) → 0 < length H → i ≡ length H - 1 → IfSome o (λ x. event_at H i ≡ Some (now x)) → IfNone o (length H ≤ i) → option_map now o ≡ newest_of H
newest_got now H i None l q some none = absurd (omega (arith, none))
newest_got now H i (Some x) l q some none = newest-at H (now x) l (rw q at some)

pub newest_none : (H : List Event) (b : Bool) → b ≡ true → b ≡ (length H == 0) → None ≡ newest_of H
newest_none [] b t e = refl
newest_none (f ∷ K) b t e = let none : length (f ∷ K) ≡ 0 = eqb-true (length (f ∷ K)) 0 (sym e ∙ t) in absurd (omega arith)

pub not_empty : (H : List Event) (b : Bool) → b ≡ false → b ≡ (length H == 0) → 0 < length H
not_empty [] b f e = let bad : false ≡ true = sym f ∙ e in cc
not_empty (g ∷ K) b f e = omega arith
