-- What is found of the rules so far.
-- One more rule adds nothing where it is useful, and else one finding.
use Rattle.std.proofs.Common.{◌≡◌, ◌≢◌, ℕ, ◌+◌, ◌<◌, ◌==◌, Bool, true, false, List, [], ◌∷◌, ◌++◌, refl, sym, subst, ◌⊎◌, inl, inr, arith}
use Rattle.std.specs.Prelude.{Any}
use Rattle.std.proofs.lemmas.Bool.{eqb-true, eq-eqb}
use Rattle.std.proofs.lemmas.List.Elements.{All-nil, All-push}
use Rattle.hist_model.specs.declared.policy.Rule.{Rule}
use Rattle.policy_classes.proofs.Lists.{any_behind, any_in}
use Rattle.policy_lint.specs.Found.{FoundUpTo, IsAbout, IsSo}
use Rattle.policy_lint.specs.Judged.{IsJudged}
use Rattle.policy_lint.specs.Own.{own_number}
use Rattle.policy_lint.specs.declared.finding.Fault.TheVariants.{Judged}
use Rattle.policy_lint.specs.declared.finding.Finding.{Finding}
use Rattle.policy_lint.specs.declared.judgement.Judgement.{Judgement}
use Rattle.policy_lint.specs.declared.judgement.Judgement.TheVariants.{Useful}

abbrev pub Says : List Rule → Finding → Type 0
Says rules f = IsSo rules f.fault

abbrev pub TellsOf : ℕ → Finding → Type 0
TellsOf i f = IsAbout i f.fault

pub none_yet : (rules : List Rule) → FoundUpTo rules 0 []
none_yet rules = record { each = All-nil (Says rules); all = λ i l. absurd (omega arith) }

-- a place before one more is that one or before it
split : (i place : ℕ) → i < place + 1 → (i < place) ⊎ (i ≡ place)
split i place l = by (i == place) refl
  where
    by : (b : Bool) → i == place ≡ b → (i < place) ⊎ (i ≡ place)
    by true e = inr (eqb-true i place e)
    by false e = inl (let n : i ≢ place = λ s. let g : i == place ≡ true = eq-eqb i place s in cc in omega arith)

pub one_useful : (rules : List Rule) (place : ℕ) (findings : List Finding) (j : Judgement) → FoundUpTo rules place findings
    → IsJudged rules place j → j ≡ Useful → FoundUpTo rules (place + 1) findings
one_useful rules place findings j f h e = record { each = f.each; all = λ i l. by i (split i place l) }
  where
    by : (i : ℕ) → (i < place) ⊎ (i ≡ place) → IsJudged rules i Useful ⊎ Any (TellsOf i) findings
    by i (inl l) = f.all i l
    by i (inr s) = inl (subst (λ n. IsJudged rules n Useful) (sym s) (subst (λ k. IsJudged rules place k) e h))

pub one_fault : (rules : List Rule) (place : ℕ) (findings : List Finding) (j : Judgement) (f : Finding) → FoundUpTo rules place findings
    → place < own_number rules → IsJudged rules place j → j ≢ Useful → f.fault ≡ Judged place j
    → FoundUpTo rules (place + 1) (findings ++ f ∷ [])
one_fault rules place findings j f before own h n e = record {
  each = All-push (Says rules) findings f before.each (subst (IsSo rules) (sym e) (own, h, n));
  all = λ i l. by i (split i place l);
}
  where
    by : (i : ℕ) → (i < place) ⊎ (i ≡ place) → IsJudged rules i Useful ⊎ Any (TellsOf i) (findings ++ f ∷ [])
    by i (inl l) = more i (before.all i l)
      where
        more : (i : ℕ) → IsJudged rules i Useful ⊎ Any (TellsOf i) findings → IsJudged rules i Useful ⊎ Any (TellsOf i) (findings ++ f ∷ [])
        more i (inl u) = inl u
        more i (inr a) = inr (any_in (TellsOf i) findings (f ∷ []) a)
    by i (inr s) = inr (any_behind (TellsOf i) findings (f ∷ []) (0, f, omega arith, refl, subst (IsAbout i) (sym e) (sym s)))
