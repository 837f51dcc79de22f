-- Lemmas on the runs of instructions.
-- By induction on the instructions, with `drop_more` and `drop-drop`, and by the laws of powers.
use Rattle.std.proofs.Common.{◌≡◌, ℕ, zero, suc, ◌+◌, ◌-◌, ◌*◌, ◌/◌, ◌%◌, ◌^◌, ◌<◌, ◌≤◌, List, [], ◌∷◌, length, get_or, drop, refl, ap, sym, ◌∙◌, arith}
use Rattle.std.proofs.Math.Nat.{mul-mod_left, mul_assoc, div-eq_of_lt, pow-le-pow_right}
use Rattle.std.proofs.Math.Seq.{drop-nil}
use Rattle.std.proofs.Math.ListN.{drop_of_length-le}
use Rattle.std.proofs.lemmas.Nat.{pow-add}
use Rattle.std.proofs.lemmas.List.{drop_more, drop-drop}
use Rattle.hist_model.specs.Filters.{run_from, after, step}
use Rattle.hist_model.specs.declared.script.Insn.{Insn}
use Rattle.hist_model.specs.declared.filter.Effect.TheVariants.{Answers, Goes}

wide-power : (k : ℕ) → 32 ≤ k → 2 ^ k ≡ 2 ^ (k - 32) * 2 ^ 32
wide-power k h = let e : k ≡ (k - 32) + 32 = omega arith in ap (λ n. 2 ^ n) e ∙ pow-add 2 (k - 32) 32

pub wide_shift_left : (a k : ℕ) → 32 ≤ k → (a * 2 ^ k) % 2 ^ 32 ≡ 0
wide_shift_left a k h =
    ap (λ n. (a * n) % 2 ^ 32) (wide-power k h) ∙ ap (λ n. n % 2 ^ 32) (sym (mul_assoc a (2 ^ (k - 32)) (2 ^ 32))) ∙ mul-mod_left (a * 2 ^ (k - 32)) (2 ^ 32)

pub wide_shift_right : (a k : ℕ) → 32 ≤ k → a < 2 ^ 32 → a / 2 ^ k ≡ 0
wide_shift_right a k h l =
    let p : 2 ^ 32 ≤ 2 ^ k = pow-le-pow_right (omega arith) h in
    div-eq_of_lt (omega arith)

run-none : (input : List ℕ) (n a : ℕ) → run_from input [] n a ≡ 0
unfolding run_from
run-none input n a = refl

-- instructions that are skipped are dropped
pub run-skips : (input : List ℕ) (insns : List Insn) (n a : ℕ) → run_from input insns n a ≡ run_from input (drop n insns) 0 a
unfolding run_from
run-skips input [] n a = rw (drop-nil n) refl
run-skips input (i ∷ insns) zero a = refl
run-skips input (i ∷ insns) (suc n) a = run-skips input insns n a

run-at : (input : List ℕ) (i : Insn) (insns : List Insn) (a : ℕ) → run_from input (i ∷ insns) 0 a ≡ after (step input i a) (run_from input insns)
unfolding run_from
run-at input i insns a = refl

-- the instruction at a place goes on behind those that it skips
pub run_jumps : (input : List ℕ) (insns : List Insn) (place a n b : ℕ) (d : Insn) → place < length insns
    → step input (get_or insns place d) a ≡ Goes n b
    → run_from input (drop place insns) 0 a ≡ run_from input (drop (place + 1 + n) insns) 0 b
run_jumps input insns place a n b d l e =
    ap (λ more. run_from input more 0 a) (drop_more insns place d l)
    ∙ run-at input (get_or insns place d) (drop (place + 1) insns) a
    ∙ ap (λ s. after s (run_from input (drop (place + 1) insns))) e
    ∙ run-skips input (drop (place + 1) insns) n b
    ∙ ap (λ more. run_from input more 0 b) (drop-drop n (place + 1) insns ∙ ap (λ m. drop m insns) (omega arith))

-- the instruction at a place goes on with the next one
pub run_next : (input : List ℕ) (insns : List Insn) (place a b : ℕ) (d : Insn) → place < length insns
    → step input (get_or insns place d) a ≡ Goes 0 b
    → run_from input (drop place insns) 0 a ≡ run_from input (drop (place + 1) insns) 0 b
run_next input insns place a b d l e = run_jumps input insns place a 0 b d l e ∙ ap (λ m. run_from input (drop m insns) 0 b) (omega arith)

-- the instruction at a place answers
pub run_ends : (input : List ℕ) (insns : List Insn) (place a value : ℕ) (d : Insn) → place < length insns
    → step input (get_or insns place d) a ≡ Answers value
    → run_from input (drop place insns) 0 a ≡ value
run_ends input insns place a value d l e =
    ap (λ more. run_from input more 0 a) (drop_more insns place d l)
    ∙ run-at input (get_or insns place d) (drop (place + 1) insns) a
    ∙ ap (λ s. after s (run_from input (drop (place + 1) insns))) e

-- behind the last instruction
pub run_past : (input : List ℕ) (insns : List Insn) (place a : ℕ) → length insns ≤ place → run_from input (drop place insns) 0 a ≡ 0
run_past input insns place a l = ap (λ more. run_from input more 0 a) (drop_of_length-le insns l) ∙ run-none input 0 a
