-- Whatever rule passes calls of which other texts would be denied, it has a class of calls that may be denied.
-- By the class of the passed call.
use Rattle.std.proofs.Common.{◌≡◌, ℕ, Bool, true, false, ◌||◌, not, List, [], ◌∷◌, ◌++◌, refl, ap, sym, ◌∙◌, subst, arith}
use Rattle.std.specs.Prelude.{Any}
use Rattle.std.specs.List.{list_all, list_any}
use Rattle.std.proofs.lemmas.Bool.{both_ways}
use Rattle.std.proofs.lemmas.List.Elements.{All-push}
use Rattle.hist_model.specs.Decisions.{decide}
use Rattle.hist_model.specs.declared.policy.Rule.{Rule}
use Rattle.hist_model.specs.declared.request.Request.{Request}
use Rattle.policy_classes.specs.Classes.{Holds}
use Rattle.policy_classes.specs.declared.found.Class.{Class}
use Rattle.policy_classes.specs.declared.found.Classes.{Classes}
use Rattle.policy_classes.proofs.Lists.{any_behind, any_later, each_passes}
use Rattle.policy_lint.specs.Found.{AreAllTold, AreSaid, IsSo, is_heeded, tells_of_passing}
use Rattle.policy_lint.specs.Looked.{AreClasses}
use Rattle.policy_lint.specs.Passed.{IsOpen, PassesByMemory, denies, is_suspect, of_any_text, passes, verdict_at}
use Rattle.policy_lint.specs.declared.finding.Fault.TheVariants.{Unsure}
use Rattle.policy_lint.specs.declared.finding.Finding.{Finding}
use Rattle.policy_lint.proofs.AnyText.{denied_of_any_text}
use Rattle.policy_lint.proofs.Verdicts.{decided_verdict, deny, none_denies}

-- a test that some element passes
some_passes : {A : Type 0} (test : A → Bool) (xs : List A) → list_any test xs ≡ true → Any (λ x. test x ≡ true) xs
some_passes test [] h = cc
some_passes test (x ∷ xs) h = by (test x) refl h (some_passes test xs)
  where
    by : (b : Bool) → test x ≡ b → (b || list_any test xs) ≡ true → (list_any test xs ≡ true → Any (λ y. test y ≡ true) xs)
        → Any (λ y. test y ≡ true) (x ∷ xs)
    by true e g rest = (0, x, omega arith, refl, e)
    by false e g rest = any_later (λ y. test y ≡ true) x xs (rest g)

abbrev pub TellsOfPass : ℕ → Finding → Type 0
TellsOfPass i f = tells_of_passing i f.fault ≡ true

suspect : (rules : List Rule) (i : ℕ) (c : Class) (q r : Request) (against : ℕ) → IsOpen rules q i r against → Holds rules (of_any_text rules) q c
    → (c.old_place ≡ i) × (is_suspect rules (of_any_text rules) c ≡ true)
suspect rules i c q r against o h = (h.0 ∙ o.passed.0, rw (passed, denied) refl)
  where
    passed : passes (verdict_at rules c.old_place) ≡ true
    passed = ap (λ n. passes (verdict_at rules n)) h.0 ∙ ap passes (sym (decided_verdict rules q)) ∙ o.passed.1

    denied : denies (verdict_at (of_any_text rules) c.new_place) ≡ true
    denied = ap (λ n. denies (verdict_at (of_any_text rules) n)) h.1 ∙ ap denies (sym (decided_verdict (of_any_text rules) q))
        ∙ denied_of_any_text rules q r o.registers o.denied.1

heeded_where : (a b : Bool) → a ≡ true → (not a || b) ≡ true → b ≡ true
heeded_where true b e h = h
heeded_where false b e h = cc

pub all_told : (rules : List Rule) (found : Classes) (findings : List Finding) → AreClasses rules (of_any_text rules) found → found.whole ≡ true
    → list_all (is_heeded rules (of_any_text rules) findings) found.classes ≡ true → AreAllTold rules findings
all_told rules found findings a w heeded = λ i p. one i p
  where
    one : (i : ℕ) → PassesByMemory rules i → Any (TellsOfPass i) findings
    one i (q, r, against, o) = by (a.there w q o.call_made)
      where
        by : Any (Holds rules (of_any_text rules) q) found.classes → Any (TellsOfPass i) findings
        by (k, c, l, e, h) =
            let s = suspect rules i c q r against o h in
            let each = each_passes (is_heeded rules (of_any_text rules) findings) found.classes heeded in
            let heed : is_heeded rules (of_any_text rules) findings c ≡ true =
            subst (λ x. is_heeded rules (of_any_text rules) findings x ≡ true) e (each k c l) in
            let told : list_any (λ (f : Finding). tells_of_passing c.old_place f.fault) findings ≡ true =
            heeded_where (is_suspect rules (of_any_text rules) c) _ s.1 heed in
            subst (λ n. Any (TellsOfPass n) findings) s.0 (some_passes (λ (f : Finding). tells_of_passing c.old_place f.fault) findings told)

-- the newest finding tells of all
pub unsure_told : (rules : List Rule) (findings : List Finding) (f : Finding) (place : List ℕ) → f.fault ≡ Unsure place
    → AreAllTold rules (findings ++ f ∷ [])
unsure_told rules findings f place e = λ i p.
    any_behind (TellsOfPass i) findings (f ∷ []) (0, f, omega arith, refl, ap (tells_of_passing i) e)

-- and says nothing else
pub unsure_said : (rules : List Rule) (findings : List Finding) (f : Finding) (place : List ℕ) → f.fault ≡ Unsure place
    → AreSaid rules findings → AreSaid rules (findings ++ f ∷ [])
unsure_said rules findings f place e h = All-push (λ (g : Finding). IsSo rules g.fault) findings f h (subst (IsSo rules) (sym e) tt)

-- nothing need be told where no rule denies
pub nothing_denied : (rules : List Rule) → list_any deny rules ≡ false → AreAllTold rules []
nothing_denied rules h = λ i p. one i p
  where
    one : (i : ℕ) → PassesByMemory rules i → Any (TellsOfPass i) []
    one i (q, r, against, o) =
        let d : denies (verdict_at rules (decide rules r).0) ≡ true = ap denies (sym (decided_verdict rules r)) ∙ o.denied.1 in
        let n : denies (verdict_at rules (decide rules r).0) ≡ false = none_denies rules (decide rules r).0 h in
        absurd (both_ways (denies (verdict_at rules (decide rules r).0)) n d)
