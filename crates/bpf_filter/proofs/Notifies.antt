-- Lemmas on the filter that notifies on some calls.
-- By induction on the calls, by cases on whether the number and the architecture are those tested for, and by `run-skips`.
use Rattle.std.proofs.Common.{◌≡◌, ℕ, zero, suc, ◌+◌, ◌-◌, ◌<◌, ◌≤◌, List, [], ◌∷◌, ◌++◌, length, get_or, drop, None, refl, ap, sym, ◌∙◌, append_assoc, inl, inr, arith, ℤ, length-drop}
use Rattle.std.specs.Prelude.{false, nat_le, nat_lt, ◌==◌, ◌||◌, if◌then◌else◌, slice_index_or}
use Rattle.std.specs.Int.{w32, cast_unsigned}
use Rattle.std.proofs.lemmas.List.{drop_more}
use Rattle.std.proofs.lemmas.Bool.{cases_Bool}
use Rattle.std.proofs.Math.ListN.{drop_of_length-le}
use Rattle.sys_abi.specs.declared.wire.SeccompData.{SeccompData}
use Rattle.hist_model.specs.declared.script.Insn.{Insn}
use Rattle.hist_model.specs.Filters.{call_tests, notify_filter, notify_answer, is_listed, insn, run, run_from, words, fault_among, first_fault, end_fault}
use Rattle.bpf_filter.proofs.Runs.{run-skips}

-- one more test
pub tests_more : (done : List Insn) (calls : List ℤ) (place n : ℕ) (d : ℤ) → place < length calls → n ≡ length calls - place
    → (done ++ insn 0x15 (cast_unsigned w32 (get_or calls place d)) n 0 ∷ []) ++ call_tests (drop (place + 1) calls) ≡ done ++ call_tests (drop place calls)
tests_more done calls place n d l e =
    let q : length (drop (place + 1) calls) + 1 ≡ n = rw length-drop (omega arith) in
    append_assoc done (insn 0x15 (cast_unsigned w32 (get_or calls place d)) n 0 ∷ []) (call_tests (drop (place + 1) calls))
    ∙ ap (λ ts. done ++ ts) (sym (ap call_tests (drop_more calls place d l) ∙ ap (λ m. insn 0x15 (cast_unsigned w32 (get_or calls place d)) m 0 ∷ call_tests (drop (place + 1) calls)) q))

-- all tests
pub tests_end : (done : List Insn) (calls : List ℤ) (place : ℕ) → length calls ≤ place
    → (done ++ insn 0x06 0x7fff0000 0 0 ∷ []) ++ insn 0x06 0x7fc00000 0 0 ∷ [] ≡ done ++ call_tests (drop place calls)
tests_end done calls place l =
    append_assoc done (insn 0x06 0x7fff0000 0 0 ∷ []) (insn 0x06 0x7fc00000 0 0 ∷ [])
    ∙ ap (λ ts. done ++ ts) (sym (ap call_tests (drop_of_length-le calls l)))

tests-length : (calls : List ℤ) → length (call_tests calls) ≡ length calls + 2
tests-length [] = refl
tests-length (c ∷ cs) = let h = tests-length cs in omega arith

not-within : (left n : ℕ) → n < left → 0 < left → nat_le left n || nat_le left 0 ≡ false
not-within left n l m = grind arith

-- the tests have no fault
tests-sound : (place : ℕ) (calls : List ℤ) → fault_among place (call_tests calls) ≡ None
unfolding fault_among
tests-sound place [] = refl
tests-sound place (c ∷ cs) =
    let h = tests-length cs in
    rw (not-within (length (call_tests cs)) (length cs + 1) (omega arith) (omega arith)) (tests-sound (place + 1) cs)

tests-last : (calls : List ℤ) (n : ℕ) (d : Insn) → n ≡ length calls + 1 → slice_index_or (call_tests calls) n d ≡ insn 0x06 0x7fc00000 0 0
tests-last [] n d e = rw e refl
tests-last (c ∷ cs) zero d e = absurd (omega arith)
tests-last (c ∷ cs) (suc n) d e = tests-last cs n d (omega arith)

starts-sound : (calls : List ℤ) → fault_among 0 (notify_filter calls) ≡ None
unfolding fault_among
starts-sound calls =
    let h = tests-length calls in
    rw (not-within (length (insn 0x06 0x80000000 0 0 ∷ insn 0x20 0 0 0 ∷ call_tests calls)) 1 (omega arith) (omega arith)) (tests-sound 4 calls)

ends-sound : (calls : List ℤ) → end_fault (notify_filter calls) ≡ None
ends-sound calls =
    let h = tests-length calls in
    let e : length (notify_filter calls) - 1 ≡ suc (suc (suc (suc (length calls + 1)))) = omega arith in
    rw (e, tests-last calls (length calls + 1) (insn 0 0 0 0) refl) refl

none-first : (insns : List Insn) → 0 < length insns → length insns ≤ 4096 → fault_among 0 insns ≡ None → end_fault insns ≡ None → first_fault insns ≡ None
none-first insns s l f e =
    let p : (length insns == 0) ≡ false = grind arith in
    let q : nat_lt 4096 (length insns) ≡ false = grind arith in
    rw (p, q, f) e

pub notify_is_accepted : (calls : List ℤ) → length calls ≤ 64 → first_fault (notify_filter calls) ≡ None
notify_is_accepted calls l =
    let h = tests-length calls in
    none-first (notify_filter calls) (omega arith) (omega arith) (starts-sound calls) (ends-sound calls)

tests-drop : (calls : List ℤ) (n : ℕ) → n ≡ length calls + 1 → drop n (call_tests calls) ≡ insn 0x06 0x7fc00000 0 0 ∷ []
tests-drop [] n e = rw e refl
tests-drop (c ∷ cs) zero e = absurd (omega arith)
tests-drop (c ∷ cs) (suc n) e = tests-drop cs n (omega arith)

notifies-at-end : (input : List ℕ) (calls : List ℤ) (a : ℕ) → run_from input (call_tests calls) (length calls + 1) a ≡ 0x7fc00000
unfolding run_from
notifies-at-end input calls a =
    run-skips input (call_tests calls) (length calls + 1) a ∙ ap (λ insns. run_from input insns 0 a) (tests-drop calls (length calls + 1) refl)

tests-run : (input : List ℕ) (calls : List ℤ) (nr : ℤ)
    → run_from input (call_tests calls) 0 (cast_unsigned w32 nr) ≡ (if is_listed calls nr then 0x7fc00000 else 0x7fff0000)
unfolding run_from
tests-run input [] nr = refl
tests-run input (c ∷ cs) nr = elim (cases_Bool (cast_unsigned w32 nr == cast_unsigned w32 c)) [
  | inl h ↦ rw h (notifies-at-end input cs (cast_unsigned w32 nr))
  | inr h ↦ rw h (tests-run input cs nr)
]

pub notify_answers : (calls : List ℤ) (call : SeccompData) → run (notify_filter calls) call ≡ notify_answer calls call
unfolding run_from
notify_answers calls call = elim (cases_Bool (call.arch == 0xc000003e)) [
  | inl h ↦ rw h (tests-run (words call) calls call.nr)
  | inr h ↦ rw h refl
]
