-- The place of the rule that decides a call tells the answer; of one rule alone, whether the call fits it.
-- By induction on the rules, over the place of the first one that fits.
use Rattle.std.proofs.Common.{◌≡◌, ℕ, zero, suc, ◌+◌, Bool, true, false, List, [], ◌∷◌, cond, refl, ap, sym, ◌∙◌, arith}
use Rattle.hist_model.specs.Decisions.{decide, decide_from, fits}
use Rattle.hist_model.specs.declared.policy.Rule.{Rule}
use Rattle.hist_model.specs.declared.policy.Verdict.{Verdict}
use Rattle.hist_model.specs.declared.policy.Verdict.TheVariants.{Pass}
use Rattle.hist_model.specs.declared.request.Request.{Request}

-- the place of the first rule that fits, and past the end where none does
abbrev first_fit : List Rule → Request → ℕ
first_fit [] q = 0
first_fit (rule ∷ rules) q = cond (fits rule q) 0 (suc (first_fit rules q))

-- the answer of the rule at a place
abbrev answer_at : List Rule → ℕ → Verdict
answer_at [] n = Pass
answer_at (rule ∷ rules) zero = rule.verdict
answer_at (rule ∷ rules) (suc n) = answer_at rules n

decided_from : (n : ℕ) (rules : List Rule) (q : Request) → decide_from n rules q ≡ (n + first_fit rules q, answer_at rules (first_fit rules q))
unfolding decide_from
decided_from n [] q = ap (λ (m : ℕ). (m, Pass)) (omega arith)
decided_from n (rule ∷ rules) q = here (fits rule q) (decided_from (n + 1) rules q)
  where
    here : (b : Bool) → decide_from (n + 1) rules q ≡ (n + 1 + first_fit rules q, answer_at rules (first_fit rules q))
        → cond b (n, rule.verdict) (decide_from (n + 1) rules q)
        ≡ (n + cond b 0 (suc (first_fit rules q)), answer_at (rule ∷ rules) (cond b 0 (suc (first_fit rules q))))
    here true h = ap (λ (m : ℕ). (m, rule.verdict)) (omega arith)
    here false h = h ∙ ap (λ (m : ℕ). (m, answer_at rules (first_fit rules q))) (omega arith)

decided : (rules : List Rule) (q : Request) → decide rules q ≡ (first_fit rules q, answer_at rules (first_fit rules q))
unfolding decide
decided rules q = decided_from 0 rules q ∙ ap (λ (m : ℕ). (m, answer_at rules (first_fit rules q))) (omega arith)

pub same_answer : (rules : List Rule) (q r : Request) → (decide rules q).0 ≡ (decide rules r).0 → (decide rules q).1 ≡ (decide rules r).1
same_answer rules q r e =
    let first : first_fit rules q ≡ first_fit rules r = sym (ap (λ (d : ℕ × Verdict). d.0) (decided rules q)) ∙ e ∙ ap (λ (d : ℕ × Verdict). d.0) (decided rules r) in
    ap (λ (d : ℕ × Verdict). d.1) (decided rules q) ∙ ap (answer_at rules) first ∙ sym (ap (λ (d : ℕ × Verdict). d.1) (decided rules r))

told_apart : (a b : Bool) → ◌≡◌ {A = ℕ} (cond a 0 1) (cond b 0 1) → a ≡ b
told_apart true true e = refl
told_apart false false e = refl
told_apart true false e = absurd (omega arith)
told_apart false true e = absurd (omega arith)

-- two calls that one rule decides alike both fit it, or neither does
pub same_fit : (rule : Rule) (q r : Request) → (decide (rule ∷ []) q).0 ≡ (decide (rule ∷ []) r).0 → fits rule q ≡ fits rule r
same_fit rule q r e =
    told_apart (fits rule q) (fits rule r)
    (sym (ap (λ (d : ℕ × Verdict). d.0) (decided (rule ∷ []) q)) ∙ e ∙ ap (λ (d : ℕ × Verdict). d.0) (decided (rule ∷ []) r))
