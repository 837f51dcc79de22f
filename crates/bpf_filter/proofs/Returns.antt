-- A filter that was accepted answers by one of its returns.
-- By induction on the instructions, by cases on the operation, since by `Firsts` none has a fault and the last one returns.
use Rattle.std.proofs.Common.{◌≡◌, ℕ, zero, suc, ◌-◌, ◌<◌, Bool, true, false, List, [], ◌∷◌, length, None, refl, ap, sym, ◌∙◌, subst, inl, inr, arith}
use Rattle.std.specs.Prelude.{◌==◌, ◌||◌, ◌&&◌, nat_le, if◌then◌else◌, slice_index_or}
use Rattle.std.proofs.lemmas.Bool.{cases_Bool}
use Rattle.sys_abi.specs.declared.wire.SeccompData.{SeccompData}
use Rattle.hist_model.specs.declared.script.Insn.{Insn}
use Rattle.hist_model.specs.declared.filter.Effect.{Effect}
use Rattle.hist_model.specs.declared.filter.Effect.TheVariants.{Answers, Goes}
use Rattle.hist_model.specs.declared.filter.FilterReason.{FilterReason}
use Rattle.hist_model.specs.declared.filter.Operation.{Operation}
use Rattle.hist_model.specs.declared.filter.Operation.TheVariants.{Jump, JumpEqual, JumpGreater, JumpAtLeast, JumpSet, Return, Unknown}
use Rattle.hist_model.specs.Filters.{action, run, run_from, after, does, step, words, operation, operation_fault, insn_fault, fault_if, first_fault, returns, ends_with_return, insn}
use Rattle.bpf_filter.specs.Accepted.{fault_at, IsSoundBefore, has_return}
use Rattle.bpf_filter.proofs.Firsts.{accepted}

-- an instruction goes on to one of those that follow
abbrev GoesWithin : Effect → ℕ → Type 0
GoesWithin (Answers value) left = ⊥
GoesWithin (Goes skipped a) left = skipped < left

not-wrong : (wrong : Bool) (reason : FilterReason) → fault_if wrong reason ≡ None → wrong ≡ false
not-wrong true reason e = cc
not-wrong false reason e = refl

either-within : (holds : Bool) (x y left : ℕ) → nat_le left x || nat_le left y ≡ false → (if holds then x else y) < left
either-within true x y left e = grind arith
either-within false x y left e = grind arith

or-false : (a b : Bool) → a || b ≡ false → b || a ≡ false
or-false true b e = cc
or-false false b e = rw e refl

goes-within : (o : Operation) (input : List ℕ) (i : Insn) (a left : ℕ) → 0 < left → operation_fault o i left ≡ None → returns o ≡ false → GoesWithin (does o input i a) left
goes-within Jump input i a left l e r = let h = not-wrong _ _ e in grind arith
goes-within JumpEqual input i a left l e r = either-within _ i.jt i.jf left (not-wrong _ _ e)
goes-within JumpGreater input i a left l e r = either-within _ i.jt i.jf left (not-wrong _ _ e)
goes-within JumpAtLeast input i a left l e r = either-within _ i.jt i.jf left (not-wrong _ _ e)
goes-within JumpSet input i a left l e r = either-within _ i.jf i.jt left (or-false (nat_le left i.jt) (nat_le left i.jf) (not-wrong _ _ e))
goes-within Return input i a left l e r = cc
goes-within Unknown input i a left l e r = cc
goes-within _ input i a left l e r = l

is-return : (o : Operation) → returns o ≡ true → o ≡ Return
is-return Return e = refl
is-return _ e = cc

ends-more : (i j : Insn) (more : List Insn) → ends_with_return (i ∷ j ∷ more) ≡ true → ends_with_return (j ∷ more) ≡ true
ends-more i j more e =
    let long : length (i ∷ j ∷ more) - 1 ≡ suc (length more) = omega arith in
    let short : length (j ∷ more) - 1 ≡ length more = omega arith in
    let last = ap (λ n. slice_index_or (i ∷ j ∷ more) n (insn 0 0 0 0)) long ∙ ap (λ n. slice_index_or (j ∷ more) n (insn 0 0 0 0)) (sym short) in
    subst (λ x. returns (operation x.code) ≡ true) last e

later-returns : (i : Insn) (more : List Insn) (value : ℕ) → has_return more value ≡ true → has_return (i ∷ more) value ≡ true
later-returns i more value e = grind arith

this-returns : (i : Insn) (more : List Insn) → returns (operation i.code) ≡ true → has_return (i ∷ more) i.k ≡ true
this-returns i more e = let same : (i.k == i.k) ≡ true = grind arith in rw (e, same) refl

after-within : (input : List ℕ) (more : List Insn) (effect : Effect) → GoesWithin effect (length more)
    → ((n a : ℕ) → n < length more → has_return more (run_from input more n a) ≡ true)
    → has_return more (after effect (run_from input more)) ≡ true
after-within input more (Answers value) g h = absurd g
after-within input more (Goes n a) g h = h n a g

-- what an instruction comes to, where each of those behind it comes to a return
this-or-later : (input : List ℕ) (i : Insn) (more : List Insn) (a : ℕ) (b : Bool)
    → ((n c : ℕ) → n < length more → has_return more (run_from input more n c) ≡ true)
    → insn_fault i (length more) ≡ None → returns (operation i.code) ≡ b → (b ≡ false → 0 < length more)
    → has_return (i ∷ more) (after (step input i a) (run_from input more)) ≡ true
this-or-later input i more a true h s e l =
    let answers : step input i a ≡ Answers i.k = ap (λ o. does o input i a) (is-return (operation i.code) e) in
    subst (λ x. has_return (i ∷ more) (after x (run_from input more)) ≡ true) (sym answers) (this-returns i more e)
this-or-later input i more a false h s e l =
    later-returns i more _ (after-within input more (step input i a) (goes-within (operation i.code) input i a (length more) (l refl) s e) h)

abbrev IsSound : List Insn → Type 0
IsSound insns = (k : ℕ) → fault_at insns k ≡ None

returns-from : (input : List ℕ) (insns : List Insn) (n a : ℕ) → n < length insns → IsSound insns → ends_with_return insns ≡ true
    → has_return insns (run_from input insns n a) ≡ true
unfolding run_from
returns-from input [] n a l s e = absurd (omega arith)
returns-from input (i ∷ []) zero a l s e = this-or-later input i [] a true (λ n c m. absurd (omega arith)) (s 0) e (λ f. cc)
returns-from input (i ∷ []) (suc n) a l s e = absurd (omega arith)
returns-from input (i ∷ j ∷ more) (suc n) a l s e =
    later-returns i (j ∷ more) _ (returns-from input (j ∷ more) n a (omega arith) (λ k. s (suc k)) (ends-more i j more e))
returns-from input (i ∷ j ∷ more) zero a l s e =
    this-or-later input i (j ∷ more) a (returns (operation i.code))
    (λ n c m. returns-from input (j ∷ more) n c m (λ k. s (suc k)) (ends-more i j more e))
    (s 0) refl (λ f. omega arith)

sound-all : (insns : List Insn) → IsSoundBefore insns (length insns) → IsSound insns
sound-all [] h k = refl
sound-all (i ∷ more) h zero = h 0 (omega arith)
sound-all (i ∷ more) h (suc k) = sound-all more (λ j l. h (suc j) (omega arith)) k

pub run_returns : (insns : List Insn) (call : SeccompData) → first_fault insns ≡ None → has_return insns (run insns call) ≡ true
run_returns insns call e =
    let a = accepted insns e in
    returns-from (words call) insns 0 0 a.0 (sound-all insns a.2) a.3

-- no return of a sound list has the action that is refused
no-trap-here : (i : Insn) (left value : ℕ) → insn_fault i left ≡ None → (returns (operation i.code) && i.k == value) ≡ true → (action value == 0x00030000) ≡ false
no-trap-here i left value s e =
    let return : returns (operation i.code) ≡ true = grind arith in
    let same : i.k ≡ value = grind arith in
    let sound = ap (λ o. operation_fault o i left) (sym (is-return (operation i.code) return)) ∙ s in
    ap (λ n. action n == 0x00030000) (sym same) ∙ not-wrong _ _ sound

no-trap : (insns : List Insn) (value : ℕ) → IsSound insns → has_return insns value ≡ true → (action value == 0x00030000) ≡ false
no-trap [] value s e = cc
no-trap (i ∷ more) value s e = elim (cases_Bool (returns (operation i.code) && i.k == value)) [
  | inl h ↦ no-trap-here i (length more) value (s 0) h
  | inr h ↦ no-trap more value (λ k. s (suc k)) (subst (λ b. b || has_return more value ≡ true) h e)
]

pub run_never_traps : (insns : List Insn) (call : SeccompData) → first_fault insns ≡ None → (action (run insns call) == 0x00030000) ≡ false
run_never_traps insns call e =
    let a = accepted insns e in
    no-trap insns (run insns call) (sound-all insns a.2) (run_returns insns call e)
