-- What a policy says of a call by its registers, found from the first rule on.
-- By the definition at the first rule that is left, which `drop-cons` gives.
use Rattle.std.proofs.Common.{◌≡◌, ℕ, ◌+◌, ◌<◌, ◌≤◌, Bool, true, false, List, [], ◌∷◌, length, drop, length-drop, get_or, None, Option, refl, Some, arith, add-one}
use Rattle.std.specs.Prelude.{if◌then◌else◌}
use Rattle.std.proofs.Math.Seq.{drop-cons}
use Rattle.std.proofs.lemmas.Bool.{eqb-true}
use Rattle.hist_model.specs.declared.policy.Rule.{Rule}
use Rattle.hist_model.specs.declared.policy.Verdict.{Verdict}
use Rattle.hist_model.specs.declared.policy.Verdict.TheVariants.{Pass}
use Rattle.hist_model.specs.declared.request.Request.{Request}
use Rattle.broker_judge.specs.Registers.{joined, led}
use Rattle.broker_judge.specs.declared.registers.Said.{Said}
use Rattle.broker_judge.specs.declared.registers.Said.TheVariants.{Alike, Nothing, Unlike}
use Rattle.broker_verdict.specs.Choices.{by_registers_from, looks_at_texts, may_fit, says_alike, where_alike}

-- verdicts that are like a third are alike
alike-same : (a b c : Verdict) → says_alike a b ≡ true → says_alike a c ≡ says_alike b c
alike-same a b c h = grind (arith, eqb-true)

like : (a v : Verdict) (later : ℕ × Verdict) → says_alike a v ≡ true → (b : Bool) → says_alike v later.1 ≡ b → where_alike a (Some later) ≡ where_alike a (if b then Some later else None)
like a v later h true q = refl
like a v later h false q = rw (alike-same a v later.1 h, q) refl

alike-back : (a v c : Verdict) → says_alike a v ≡ false → says_alike v c ≡ true → says_alike a c ≡ false
alike-back a v c h q = grind (arith, eqb-true)

unlike : (a v : Verdict) (later : ℕ × Verdict) → says_alike a v ≡ false → (b : Bool) → says_alike v later.1 ≡ b → None ≡ where_alike a (if b then Some later else None)
unlike a v later h true q = rw (alike-back a v later.1 h q) refl
unlike a v later h false q = refl

joined-led : (said : Said) (v : Verdict) (later : Option (ℕ × Verdict)) → led (joined said v) later ≡ led said (where_alike v later)
joined-led Nothing v later = refl
joined-led Unlike v later = refl
joined-led (Alike a) v later = alike-led a v later (says_alike a v) refl
  where
    alike-led : (a v : Verdict) (later : Option (ℕ × Verdict)) (b : Bool) → says_alike a v ≡ b → led (if b then Alike a else Unlike) later ≡ where_alike a (where_alike v later)
    alike-led a v None true h = refl
    alike-led a v None false h = refl
    alike-led a v (Some later) true h = like a v later h (says_alike v later.1) refl
    alike-led a v (Some later) false h = unlike a v later h (says_alike v later.1) refl

-- the rule decides whatever the texts are
pub decides_here : (rules : List Rule) (q : Request) (i : ℕ) (d : Rule) → i < length rules → may_fit (get_or rules i d) q ≡ true → looks_at_texts (get_or rules i d) ≡ false
    → by_registers_from i (drop i rules) q ≡ Some (i, (get_or rules i d).verdict)
unfolding by_registers_from
decides_here rules q i d l h t = rw (drop-cons rules i d l, h, t) refl

-- some texts may make it decide
pub asks_on : (rules : List Rule) (q : Request) (i : ℕ) (d : Rule) (said : Said) → i < length rules → may_fit (get_or rules i d) q ≡ true → looks_at_texts (get_or rules i d) ≡ true
    → led said (by_registers_from i (drop i rules) q) ≡ led (joined said (get_or rules i d).verdict) (by_registers_from (i + 1) (drop (i + 1) rules) q)
unfolding by_registers_from
asks_on rules q i d said l h t = rw (drop-cons rules i d l, h, t, add-one, joined-led) refl

-- no texts do
pub goes_on : (rules : List Rule) (q : Request) (i : ℕ) (d : Rule) → i < length rules → may_fit (get_or rules i d) q ≡ false
    → by_registers_from i (drop i rules) q ≡ by_registers_from (i + 1) (drop (i + 1) rules) q
unfolding by_registers_from
goes_on rules q i d l h = rw (drop-cons rules i d l, h, add-one) refl

none_left : (rules : List Rule) (q : Request) (i : ℕ) → length rules ≡ 0 → by_registers_from i rules q ≡ Some (i, Pass)
unfolding by_registers_from
none_left [] q i e = refl
none_left (r ∷ rules) q i e = absurd (omega arith)

pub past : (rules : List Rule) (q : Request) (i : ℕ) → length rules ≤ i → by_registers_from i (drop i rules) q ≡ Some (i, Pass)
past rules q i l = none_left (drop i rules) q i (simp length-drop (omega arith))
