-- The fault that is found is the first one, and where none is found the filter is accepted.
-- By induction on the instructions, and by cases on the operation, on the reason and on how the list ends.
use Rattle.std.proofs.Common.{◌≡◌, ℕ, zero, suc, ◌+◌, ◌<◌, ◌≤◌, Bool, true, false, List, [], ◌∷◌, length, Option, Some, None, refl, ap, ◌∙◌, subst, inl, inr, arith}
use Rattle.std.specs.Prelude.{◌==◌, nat_lt}
use Rattle.std.proofs.lemmas.Bool.{cases_Bool}
use Rattle.hist_model.specs.declared.script.Insn.{Insn}
use Rattle.hist_model.specs.declared.filter.BadFilter.{BadFilter}
use Rattle.hist_model.specs.declared.filter.FilterReason.{FilterReason}
use Rattle.hist_model.specs.declared.filter.FilterReason.TheVariants.{Empty, TooMany, BadCode, BadLoad, BadShift, BadJump, BadAction, NoReturn}
use Rattle.hist_model.specs.declared.filter.Operation.{Operation}
use Rattle.hist_model.specs.declared.filter.Operation.TheVariants.{Load, ShiftLeft, ShiftRight, Jump, JumpEqual, JumpGreater, JumpAtLeast, JumpSet, Return}
use Rattle.hist_model.specs.Filters.{fault_among, earlier_fault, insn_fault, operation_fault, operation, fault_if, first_fault, end_fault, or_fault, ends_with_return}
use Rattle.bpf_filter.specs.Accepted.{fault_at, IsSoundBefore, IsAccepted, IsFaultAt, IsFirstFault}

-- the reasons that an instruction alone gives
abbrev of_insn : Option FilterReason → Bool
of_insn None = true
of_insn (Some Empty) = false
of_insn (Some TooMany) = false
of_insn (Some NoReturn) = false
of_insn (Some reason) = true

of-if : (wrong : Bool) (reason : FilterReason) → of_insn (Some reason) ≡ true → of_insn (fault_if wrong reason) ≡ true
of-if true reason e = e
of-if false reason e = refl

of-operation : (o : Operation) (i : Insn) (left : ℕ) → of_insn (operation_fault o i left) ≡ true
of-operation Load i left = of-if _ BadLoad refl
of-operation ShiftLeft i left = of-if _ BadShift refl
of-operation ShiftRight i left = of-if _ BadShift refl
of-operation Jump i left = of-if _ BadJump refl
of-operation JumpEqual i left = of-if _ BadJump refl
of-operation JumpGreater i left = of-if _ BadJump refl
of-operation JumpAtLeast i left = of-if _ BadJump refl
of-operation JumpSet i left = of-if _ BadJump refl
of-operation Return i left = of-if _ BadAction refl
of-operation _ i left = refl

of-place : (insns : List Insn) (place : ℕ) → of_insn (fault_at insns place) ≡ true
of-place [] place = refl
of-place (i ∷ more) zero = of-operation (operation i.code) i (length more)
of-place (i ∷ more) (suc place) = of-place more place

none-earlier : (place : ℕ) (here : Option FilterReason) (later : Option BadFilter) → earlier_fault place here later ≡ None → (here ≡ None) × (later ≡ None)
none-earlier place None later e = (refl, e)
none-earlier place (Some reason) later e = cc

sound-among : (place : ℕ) (insns : List Insn) (k : ℕ) → fault_among place insns ≡ None → fault_at insns k ≡ None
unfolding fault_among
sound-among place [] k e = refl
sound-among place (i ∷ more) zero e = (none-earlier place _ _ e).0
sound-among place (i ∷ more) (suc k) e = sound-among (place + 1) more k (none-earlier place _ _ e).1

-- so far behind the first place there is the fault, and there is none before
abbrev IsFirstBehind : ℕ → List Insn → BadFilter → ℕ → Type 0
IsFirstBehind place insns fault k = (fault.at ≡ place + k) × (fault_at insns k ≡ Some fault.reason) × IsSoundBefore insns k

none-before : (insns : List Insn) → IsSoundBefore insns 0
none-before insns k l = absurd (omega arith)

one-more : (i : Insn) (more : List Insn) (n : ℕ) → insn_fault i (length more) ≡ None → IsSoundBefore more n → IsSoundBefore (i ∷ more) (suc n)
one-more i more n e h zero l = e
one-more i more n e h (suc k) l = h k (omega arith)

first-more : (place : ℕ) (i : Insn) (more : List Insn) (fault : BadFilter) (here : Option FilterReason)
    → ((e : fault_among (place + 1) more ≡ Some fault) → (k : ℕ) × IsFirstBehind (place + 1) more fault k)
    → insn_fault i (length more) ≡ here
    → earlier_fault place here (fault_among (place + 1) more) ≡ Some fault → (k : ℕ) × IsFirstBehind place (i ∷ more) fault k
first-more place i more fault (Some reason) later is e =
    let at : place ≡ fault.at = cc in
    let why : reason ≡ fault.reason = cc in
    (0, (omega arith, is ∙ ap Some why, none-before (i ∷ more)))
first-more place i more fault None later is e =
    let found = later e in
    (suc found.0, (omega (arith, found.1.0), found.1.1, one-more i more found.0 is found.1.2))

first-among : (place : ℕ) (insns : List Insn) (fault : BadFilter) → fault_among place insns ≡ Some fault → (k : ℕ) × IsFirstBehind place insns fault k
unfolding fault_among
first-among place [] fault e = cc
first-among place (i ∷ more) fault e =
    first-more place i more fault (insn_fault i (length more)) (λ h. first-among (place + 1) more fault h) refl e

with-reason : (insns : List Insn) (at : ℕ) (reason : FilterReason) → length insns ≤ 4096 → fault_at insns at ≡ Some reason → IsSoundBefore insns at → IsFaultAt insns at reason
with-reason insns at Empty l e h = let f = of-place insns at in cc
with-reason insns at TooMany l e h = let f = of-place insns at in cc
with-reason insns at NoReturn l e h = let f = of-place insns at in cc
with-reason insns at BadCode l e h = (l, e, h)
with-reason insns at BadLoad l e h = (l, e, h)
with-reason insns at BadShift l e h = (l, e, h)
with-reason insns at BadJump l e h = (l, e, h)
with-reason insns at BadAction l e h = (l, e, h)

abbrev IsJudged : List Insn → Option BadFilter → Type 0
IsJudged insns None = IsAccepted insns
IsJudged insns (Some fault) = IsFirstFault insns fault

-- how the list ends
ends : (insns : List Insn) (b : Bool) → 0 < length insns → length insns ≤ 4096 → fault_among 0 insns ≡ None → ends_with_return insns ≡ b → IsJudged insns (end_fault insns)
ends insns true s l f e =
    rw e (s, l, (λ k _. sound-among 0 insns k f), e)
ends insns false s l f e =
    rw e (l, (λ k _. sound-among 0 insns k f), e, omega arith)

among : (insns : List Insn) (found : Option BadFilter) → 0 < length insns → length insns ≤ 4096 → fault_among 0 insns ≡ found → IsJudged insns (or_fault found (end_fault insns))
among insns None s l e = ends insns (ends_with_return insns) s l e refl
among insns (Some fault) s l e =
    let first = first-among 0 insns fault e in
    let at : first.0 ≡ fault.at = omega (arith, first.1.0) in
    let P : ℕ → Type 0 = λ k. (fault_at insns k ≡ Some fault.reason) × IsSoundBefore insns k in
    let here = subst P at (first.1.1, first.1.2) in
    with-reason insns fault.at fault.reason l here.0 here.1

judged : (insns : List Insn) → IsJudged insns (first_fault insns)
judged insns = elim (cases_Bool (length insns == 0)) [
  | inl h ↦ rw h (grind arith, refl)
  | inr h ↦ elim (cases_Bool (nat_lt 4096 (length insns))) [
    | inl g ↦ rw (h, g) (grind arith, refl)
    | inr g ↦ rw (h, g) (among insns (fault_among 0 insns) (grind arith) (grind arith) refl)
  ]
]

pub accepted : (insns : List Insn) → first_fault insns ≡ None → IsAccepted insns
accepted insns e = subst (IsJudged insns) e (judged insns)

pub first_found : (insns : List Insn) (fault : BadFilter) → first_fault insns ≡ Some fault → IsFirstFault insns fault
first_found insns fault e = subst (IsJudged insns) e (judged insns)
