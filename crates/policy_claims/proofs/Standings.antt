-- What is told of a claim is so, by the classes of calls.
-- Each call is of a class, whose witness is answered alike and fits the claim where the call does.
use Rattle.std.proofs.Common.{◌≡◌, ◌⊎◌, Bool, true, false, List, [], ◌∷◌, sym, ◌∙◌, subst, inl, inr}
use Rattle.std.specs.Prelude.{All, Any}
use Rattle.std.specs.List.{list_any}
use Rattle.std.proofs.lemmas.Bool.{cases_Bool}
use Rattle.std.proofs.lemmas.List.Elements.{All-contains}
use Rattle.hist_model.specs.Decisions.{decide, fits}
use Rattle.hist_model.specs.declared.policy.Rule.{Rule}
use Rattle.hist_model.specs.declared.policy.Verdict.{Verdict}
use Rattle.hist_model.specs.declared.request.Request.{Request}
use Rattle.policy_claims.proofs.Answered.{same_answer, same_fit}
use Rattle.policy_claims.specs.Standings.{AreClassesOf, Bears, BearsClaim, Holds, IsAsClaimed, IsMet, IsSo, IsUnmet, unrefuted}
use Rattle.policy_claims.specs.declared.claims.Sense.{Sense}
use Rattle.policy_claims.specs.declared.standing.Standing.TheVariants.{Undecided}
use Rattle.policy_classes.proofs.Lists.{each_fails, some_passes}
use Rattle.policy_classes.specs.Asked.{IsCall}
use Rattle.policy_classes.specs.Classes.{HasWitness, Holds as IsOfClass}
use Rattle.policy_classes.specs.declared.found.Class.{Class}
use Rattle.policy_classes.specs.declared.found.Classes.{Classes}

module _ (sense : Sense) (rules : List Rule) (claim : Rule) (found : Classes) (are : AreClassesOf rules claim found) where
  -- the class' witness fits the claim
  abbrev meets_claim : Class → Bool
  meets_claim c = fits claim c.witness

  -- what holds of the witness of each class holds of each call, if it goes by the deciding rules
  each_call : (P : Request → Type 0) → ((q r : Request) → (decide rules q).0 ≡ (decide rules r).0 → (decide (claim ∷ []) q).0 ≡ (decide (claim ∷ []) r).0 → P q → P r)
      → found.whole ≡ true → All (λ (c : Class). P c.witness) found.classes → (q : Request) → IsCall q → P q
  each_call P goes whole all q is_call = by (are.there whole q is_call)
    where
      by : Any (IsOfClass rules (claim ∷ []) q) found.classes → P q
      by (k, c, l, e, of_class) =
          let has = All-contains (HasWitness rules (claim ∷ [])) found.classes c are.witnesses (k, l, e) in
          goes c.witness q (sym has.1 ∙ of_class.0) (sym has.2 ∙ of_class.1) (All-contains (λ (d : Class). P d.witness) found.classes c all (k, l, e))

  pub holds : found.whole ≡ true → All (BearsClaim sense rules claim) found.classes → Holds sense rules claim
  holds whole all = each_call (Bears sense rules claim) goes whole all
    where
      goes : (q r : Request) → (decide rules q).0 ≡ (decide rules r).0 → (decide (claim ∷ []) q).0 ≡ (decide (claim ∷ []) r).0
          → Bears sense rules claim q → Bears sense rules claim r
      goes q r e f bears fit =
          subst (λ (v : Verdict). IsAsClaimed sense v claim.verdict) (same_answer rules q r e) (bears (same_fit claim q r f ∙ fit))

  unmet : found.whole ≡ true → list_any meets_claim found.classes ≡ false → IsUnmet claim
  unmet whole none = each_call (λ (q : Request). fits claim q ≡ false) (λ q r e f fails. sym (same_fit claim q r f) ∙ fails) whole (each_fails meets_claim found.classes none)

  met : list_any meets_claim found.classes ≡ true → IsMet claim
  met some = by (some_passes meets_claim found.classes some)
    where
      by : Any (λ (c : Class). meets_claim c ≡ true) found.classes → IsMet claim
      by (k, c, l, e, fit) = (c.witness, (All-contains (HasWitness rules (claim ∷ [])) found.classes c are.witnesses (k, l, e)).0, fit)

  -- where no class refutes the claim
  pub unrefuted_is_so : All (BearsClaim sense rules claim) found.classes → IsSo sense rules claim (unrefuted claim found)
  unrefuted_is_so all = elim (cases_Bool found.whole) [
    | inl whole ↦ by whole (cases_Bool (list_any meets_claim found.classes))
    | inr cut ↦ rw cut tt
  ]
    where
      by : found.whole ≡ true → (list_any meets_claim found.classes ≡ true) ⊎ (list_any meets_claim found.classes ≡ false) → IsSo sense rules claim (unrefuted claim found)
      by whole (inl some) = rw (whole, some) (holds whole all, met some)
      by whole (inr none) = rw (whole, none) (holds whole all, unmet whole none)

  -- and then it is left open only where the classes aren't whole
  pub open_where_cut : unrefuted claim found ≡ Undecided → found.whole ≡ false
  open_where_cut e = elim (cases_Bool found.whole) [
    | inl whole ↦ by whole (cases_Bool (list_any meets_claim found.classes))
    | inr cut ↦ cut
  ]
    where
      by : found.whole ≡ true → (list_any meets_claim found.classes ≡ true) ⊎ (list_any meets_claim found.classes ≡ false) → found.whole ≡ false
      by whole (inl some) = let held = rw (whole, some) at e in cc
      by whole (inr none) = let held = rw (whole, none) at e in cc
