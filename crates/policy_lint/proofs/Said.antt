-- What is said stays so where more is said.
-- By the lemmas on each element of a list.
use Rattle.std.proofs.Common.{ℕ, List, [], ◌∷◌, ◌++◌, ◌⊎◌, inl, inr}
use Rattle.std.specs.Prelude.{Any}
use Rattle.std.specs.List.Sorted.{IsPermutation}
use Rattle.std.proofs.lemmas.List.Elements.{All-append, All-nil, All-push}
use Rattle.std.proofs.lemmas.List.Sorted.{All-permutation, Contains-permutation}
use Rattle.hist_model.specs.declared.policy.Rule.{Rule}
use Rattle.policy_classes.proofs.Lists.{any_behind, any_in}
use Rattle.policy_lint.specs.Found.{AreAllTold, AreFindings, AreSaid, FoundUpTo, IsSo}
use Rattle.policy_lint.specs.Judged.{IsJudged}
use Rattle.policy_lint.specs.Own.{own_number}
use Rattle.policy_lint.specs.declared.finding.Finding.{Finding}
use Rattle.policy_lint.specs.declared.judgement.Judgement.TheVariants.{Useful}
use Rattle.policy_lint.proofs.Faults.{Says, TellsOf}
use Rattle.policy_lint.proofs.Passing.{TellsOfPass}

pub nothing_said : (rules : List Rule) → AreSaid rules []
nothing_said rules = All-nil (λ (f : Finding). IsSo rules f.fault)

pub more_said : (rules : List Rule) (findings : List Finding) (f : Finding) → AreSaid rules findings → IsSo rules f.fault
    → AreSaid rules (findings ++ f ∷ [])
more_said rules findings f h s = All-push (λ (g : Finding). IsSo rules g.fault) findings f h s

-- ---- in another order

any_permuted : {A : Type 0} (Q : A → Type 0) (xs ys : List A) → IsPermutation xs ys → Any Q xs → Any Q ys
any_permuted Q xs ys p (k, x, l, e, h) =
    let c = Contains-permutation xs ys x p (k, l, e) in (c.0, x, c.1, c.2, h)

pub all_in_order : (rules : List Rule) (findings hints passed notes sorted : List Finding) → FoundUpTo rules (own_number rules) findings
    → AreSaid rules hints → AreSaid rules passed → AreAllTold rules passed → AreSaid rules notes
    → IsPermutation (((findings ++ hints) ++ passed) ++ notes) sorted → AreFindings rules sorted
all_in_order rules findings hints passed notes sorted f h s t n p = record {
  judged = record {
    each = All-permutation (Says rules) (((findings ++ hints) ++ passed) ++ notes) sorted p
        (All-append (Says rules) ((findings ++ hints) ++ passed) notes
        (All-append (Says rules) (findings ++ hints) passed (All-append (Says rules) findings hints f.each h) s) n);
    all = λ i l. by i (f.all i l);
  };
  passing = λ i o. any_permuted (TellsOfPass i) (((findings ++ hints) ++ passed) ++ notes) sorted p
      (any_in (TellsOfPass i) ((findings ++ hints) ++ passed) notes (any_behind (TellsOfPass i) (findings ++ hints) passed (t i o)));
}
  where
    by : (i : ℕ) → IsJudged rules i Useful ⊎ Any (TellsOf i) findings → IsJudged rules i Useful ⊎ Any (TellsOf i) sorted
    by i (inl u) = inl u
    by i (inr a) = inr (any_permuted (TellsOf i) (((findings ++ hints) ++ passed) ++ notes) sorted p
        (any_in (TellsOf i) ((findings ++ hints) ++ passed) notes
        (any_in (TellsOf i) (findings ++ hints) passed (any_in (TellsOf i) findings hints a))))
