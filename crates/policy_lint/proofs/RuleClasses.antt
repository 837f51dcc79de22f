-- What classes of all calls say of a rule.
-- By the partners of its place.
use Rattle.std.proofs.Common.{◌≡◌, ◌≢◌, ℕ, true, List, [], ◌∷◌, length, Some, None, refl, sym, ◌∙◌, arith}
use Rattle.std.specs.Prelude.{All, Any, find, slice_get}
use Rattle.hist_model.specs.Decisions.{decide}
use Rattle.hist_model.specs.declared.policy.Rule.{Rule}
use Rattle.hist_model.specs.declared.request.Request.{Request}
use Rattle.policy_classes.specs.declared.found.Class.{Class}
use Rattle.policy_classes.specs.declared.found.Classes.{Classes}
use Rattle.policy_classes.specs.Classes.{HasWitness}
use Rattle.policy_lint.specs.Alike.{IsAlike}
use Rattle.policy_lint.specs.Judged.{AreNext, AreTakers, Decides, IsNeedless, IsNever, IsShadowed, alone, behind}
use Rattle.policy_lint.specs.Looked.{AreClasses, partners}
use Rattle.policy_lint.proofs.Partners.{all_alike, is_at, none_found, one_found, partner_there, partners_each}

-- nothing is in an empty list
none_in : {A : Type 0} (P : A → Type 0) (xs : List A) → xs ≡ [] → ¬ Any P xs
none_in P [] e (k, x, l, h, p) = absurd (omega arith)
none_in P (y ∷ xs) e a = cc

pub empty_list : {A : Type 0} (xs : List A) → length xs ≡ 0 → xs ≡ []
empty_list [] e = refl
empty_list (y ∷ xs) e = absurd (omega arith)

pub filled_list : {A : Type 0} (xs : List A) → length xs ≢ 0 → xs ≢ []
filled_list xs n e = n (rw e refl)

-- ---- a rule that decides no call

pub shadowed : (rules : List Rule) (found : Classes) (place : ℕ) → AreClasses rules [] found → found.whole ≡ true
    → find (is_at place) found.classes ≡ None → IsShadowed rules place
shadowed rules found place a w n = λ q d.
    none_in (λ p. p ≡ (decide [] q).0) (partners place found.classes) (none_found place found.classes n)
    (partner_there rules [] place found.classes q d.1 (a.there w q d.0))

pub never : (rules : List Rule) (found : Classes) (place : ℕ) → AreClasses (alone rules place) rules found → found.whole ≡ true
    → partners 0 found.classes ≡ [] → IsNever rules place
never rules found place a w n = λ q f.
    none_in (λ p. p ≡ (decide rules q).0) (partners 0 found.classes) n
    (partner_there (alone rules place) rules 0 found.classes q f.1 (a.there w q f.0))

pub takers : (rules : List Rule) (found : Classes) (place : ℕ) → AreClasses (alone rules place) rules found → found.whole ≡ true
    → AreTakers rules place (partners 0 found.classes)
takers rules found place a w = record {
  each = partners_each (alone rules place) rules 0 found.classes a.witnesses;
  all = λ q f. partner_there (alone rules place) rules 0 found.classes q f.1 (a.there w q f.0);
}

-- ---- a rule that decides some call

pub next : (rules : List Rule) (found : Classes) (place : ℕ) → AreClasses rules (behind rules place) found → found.whole ≡ true
    → AreNext rules place (partners place found.classes)
next rules found place a w = record {
  each = partners_each rules (behind rules place) place found.classes a.witnesses;
  all = λ q d. partner_there rules (behind rules place) place found.classes q d.1 (a.there w q d.0);
}

pub some_next : (rules : List Rule) (found : Classes) (place : ℕ) → AreClasses rules (behind rules place) found → found.whole ≡ true
    → ((q : Request) × Decides rules place q) → partners place found.classes ≢ []
some_next rules found place a w (q, d) = λ e.
    none_in (λ p. p ≡ (decide (behind rules place) q).0) (partners place found.classes) e
    (partner_there rules (behind rules place) place found.classes q d.1 (a.there w q d.0))

pub needless : (rules : List Rule) (found : Classes) (place : ℕ) (rule : Rule) → slice_get rules place ≡ Some rule
    → AreClasses rules (behind rules place) found → found.whole ≡ true
    → All (λ c. c.old_place ≡ place → IsAlike rule (slice_get (behind rules place) c.new_place)) found.classes → IsNeedless rules place
needless rules found place rule g a w h = λ q d.
    rw g (all_alike rules (behind rules place) place rule found.classes q h d.1 (a.there w q d.0))

-- by a call that the rule decides
pub decides : (rules : List Rule) (found : Classes) (place : ℕ) (c : Class) → AreClasses rules [] found
    → find (is_at place) found.classes ≡ Some c → Decides rules place c.witness
decides rules found place c a f =
    let o = one_found (HasWitness rules []) place found.classes c a.witnesses f in
    (o.0.0, sym o.0.1 ∙ o.1)
