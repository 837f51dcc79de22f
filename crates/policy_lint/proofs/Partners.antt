-- The partners of a place among classes: they are those of the classes that are left, one after another, and stand for all calls.
-- By induction on the classes.
use Rattle.std.proofs.Common.{◌≡◌, ℕ, zero, suc, ◌+◌, ◌<◌, ◌≤◌, ◌==◌, Bool, true, false, List, [], ◌∷◌, length, drop, get_or, Some, None, cond, refl, ap, sym, ◌∙◌, subst, arith, length-drop, add-one}
use Rattle.std.specs.Prelude.{All, Any, find, slice_get}
use Rattle.std.proofs.Math.Seq.{drop-cons}
use Rattle.std.proofs.lemmas.Bool.{eqb-true, eq-eqb}
use Rattle.std.proofs.lemmas.List.Elements.{All-cons, All-head, All-nil, All-tail}
use Rattle.hist_model.specs.Decisions.{decide}
use Rattle.hist_model.specs.declared.policy.Rule.{Rule}
use Rattle.hist_model.specs.declared.request.Request.{Request}
use Rattle.policy_classes.specs.Asked.{IsCall}
use Rattle.policy_classes.specs.Classes.{HasWitness, Holds}
use Rattle.policy_classes.specs.declared.found.Class.{Class}
use Rattle.policy_classes.proofs.Lists.{any_later}
use Rattle.policy_lint.specs.Alike.{IsAlike}
use Rattle.policy_lint.specs.Looked.{partners}

-- ---- one after another

pub partner_kept : (place : ℕ) (cs : List Class) (i : ℕ) (d : Class) → i < length cs → (get_or cs i d).old_place == place ≡ true
    → partners place (drop i cs) ≡ (get_or cs i d).new_place ∷ partners place (drop (i + 1) cs)
partner_kept place cs i d l h = rw (drop-cons cs i d l, h, add-one)

pub partner_left : (place : ℕ) (cs : List Class) (i : ℕ) (d : Class) → i < length cs → (get_or cs i d).old_place == place ≡ false
    → partners place (drop i cs) ≡ partners place (drop (i + 1) cs)
partner_left place cs i d l h = rw (drop-cons cs i d l, h, add-one)

none_left : (place : ℕ) (cs : List Class) → length cs ≡ 0 → partners place cs ≡ []
none_left place [] e = refl
none_left place (c ∷ cs) e = absurd (omega arith)

pub partners_past : (place : ℕ) (cs : List Class) (i : ℕ) → length cs ≤ i → partners place (drop i cs) ≡ []
partners_past place cs i l = none_left place (drop i cs) (simp length-drop (omega arith))

-- ---- they stand for all calls

module _ (old new : List Rule) (place : ℕ) where
  -- the first list decides a call at the place, and the second one at the partner's
  abbrev pub IsPartner : ℕ → Type 0
  IsPartner p = (q : Request) × (IsCall q × ((decide old q).0 ≡ place)) × (p ≡ (decide new q).0)

  pub partners_each : (cs : List Class) → All (HasWitness old new) cs → All IsPartner (partners place cs)
  partners_each [] h = All-nil IsPartner
  partners_each (c ∷ cs) h = by (c.old_place == place) refl (All-head (HasWitness old new) c cs h) (partners_each cs (All-tail (HasWitness old new) c cs h))
    where
      by : (b : Bool) → c.old_place == place ≡ b → HasWitness old new c → All IsPartner (partners place cs)
          → All IsPartner (cond b (c.new_place ∷ partners place cs) (partners place cs))
      by true e w rest =
          All-cons IsPartner c.new_place (partners place cs) (c.witness, (w.0, sym w.1 ∙ eqb-true c.old_place place e), w.2) rest
      by false e w rest = rest

  pub partner_there : (cs : List Class) (q : Request) → (decide old q).0 ≡ place → Any (Holds old new q) cs
      → Any (λ p. p ≡ (decide new q).0) (partners place cs)
  partner_there [] q d (k, x, l, e, h) = absurd (omega arith)
  partner_there (c ∷ cs) q d (zero, x, l, e, h) = by (c.old_place == place) refl
    where
      same : c.old_place ≡ place
      same = ap (λ (y : Class). y.old_place) e ∙ (h.0 ∙ d)

      by : (b : Bool) → c.old_place == place ≡ b → Any (λ p. p ≡ (decide new q).0) (cond b (c.new_place ∷ partners place cs) (partners place cs))
      by true t = (zero, c.new_place, omega arith, refl, ap (λ (y : Class). y.new_place) e ∙ h.1)
      by false t = let g : c.old_place == place ≡ true = eq-eqb c.old_place place same in cc
  partner_there (c ∷ cs) q d (suc k, x, l, e, h) = by (c.old_place == place) (partner_there cs q d (k, x, omega arith, e, h))
    where
      by : (b : Bool) → Any (λ p. p ≡ (decide new q).0) (partners place cs)
          → Any (λ p. p ≡ (decide new q).0) (cond b (c.new_place ∷ partners place cs) (partners place cs))
      by true a = any_later (λ p. p ≡ (decide new q).0) c.new_place (partners place cs) a
      by false a = a

  -- ---- by one rule

  pub all_alike : (rule : Rule) (cs : List Class) (q : Request)
      → All (λ c. c.old_place ≡ place → IsAlike rule (slice_get new c.new_place)) cs → (decide old q).0 ≡ place
      → Any (Holds old new q) cs → IsAlike rule (slice_get new (decide new q).0)
  all_alike rule cs q a d (k, x, l, e, h) =
      let P : Class → Type 0 = λ c. c.old_place ≡ place → IsAlike rule (slice_get new c.new_place) in
      subst (λ n. IsAlike rule (slice_get new n)) h.1 (subst P e (a k x l) (h.0 ∙ d))

-- ---- the first class

abbrev pub is_at : ℕ → Class → Bool
is_at place c = c.old_place == place

pub none_found : (place : ℕ) (cs : List Class) → find (is_at place) cs ≡ None → partners place cs ≡ []
none_found place [] h = refl
none_found place (c ∷ cs) h = by (c.old_place == place) h (none_found place cs)
  where
    by : (b : Bool) → cond b (Some c) (find (is_at place) cs) ≡ None → (find (is_at place) cs ≡ None → partners place cs ≡ [])
        → cond b (c.new_place ∷ partners place cs) (partners place cs) ≡ []
    by true g rest = cc
    by false g rest = rest g

pub one_found : (P : Class → Type 0) (place : ℕ) (cs : List Class) (x : Class) → All P cs → find (is_at place) cs ≡ Some x
    → P x × (x.old_place ≡ place)
one_found P place [] x a h = cc
one_found P place (c ∷ cs) x a h = by (c.old_place == place) refl h (one_found P place cs x (All-tail P c cs a))
  where
    by : (b : Bool) → c.old_place == place ≡ b → cond b (Some c) (find (is_at place) cs) ≡ Some x
        → (find (is_at place) cs ≡ Some x → P x × (x.old_place ≡ place)) → P x × (x.old_place ≡ place)
    by true e g rest =
        let same : c ≡ x = cc in
        (subst P same (All-head P c cs a), subst (λ (y : Class). y.old_place ≡ place) same (eqb-true c.old_place place e))
    by false e g rest = rest g
