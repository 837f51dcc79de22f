-- How many of a program's first instructions start a task, and which program the next one starts.
-- By induction on the program.
use Rattle.std.proofs.Common.{◌≡◌, ℕ, zero, suc, ◌+◌, ◌-◌, Bool, true, false, not, List, [], ◌∷◌, take, Option, Some, refl, ap, ◌∙◌, arith}
use Rattle.std.specs.Prelude.{if◌then◌else◌, ◌==◌, slice_get}
use Rattle.std.proofs.lemmas.Bool.{ne_eqb}
use Rattle.std.proofs.lemmas.List.Sums.{count_by_more_yes, count_by_more_no, sum_by-cons}
use Rattle.std.proofs.lemmas.Option.{slice_get_within, get_or_from_slice_get}
use Rattle.hist_model.specs.Programs.{started, nth_started}
use Rattle.hist_model.specs.Tasks.{is_none}
use Rattle.hist_model.specs.declared.script.Instr.{Instr}
use Rattle.tasks.specs.Fold.{starts, started_before}

pub started-yes : (body : List Instr) (k : ℕ) (i : Instr) → slice_get body k ≡ Some i → starts i ≡ true → started_before body (k + 1) ≡ started_before body k + 1
unfolding started_before
started-yes body k i q s = count_by_more_yes starts body k i (slice_get_within body k i q) (ap starts (get_or_from_slice_get body k i i q) ∙ s)

pub started-no : (body : List Instr) (k : ℕ) (i : Instr) → slice_get body k ≡ Some i → starts i ≡ false → started_before body (k + 1) ≡ started_before body k
unfolding started_before
started-no body k i q s = count_by_more_no starts body k i (slice_get_within body k i q) (ap starts (get_or_from_slice_get body k i i q) ∙ s)

pub started-none : (body : List Instr) → started_before body 0 ≡ 0
unfolding started_before
started-none body = refl

started-cons : (j : Instr) (body : List Instr) (k : ℕ) → started_before (j ∷ body) (suc k) ≡ (if starts j then 1 else 0) + started_before body k
unfolding started_before
started-cons j body k = sum_by-cons (λ i. if starts i then 1 else 0) j (take k body)

-- the program that the next instruction starts, by how many were started before it
pub nth-next : (body : List Instr) (k : ℕ) (i : Instr) → slice_get body k ≡ Some i → starts i ≡ true → nth_started body (started_before body k + 1) ≡ started i
nth-next [] k i q s = cc
nth-next (j ∷ body) zero i q s =
    let w : j ≡ i = cc in
    let z = started-none (j ∷ body) in
    rw (z, w) (first (is_none (started i)) s)
  where
    first : (b : Bool) → not b ≡ true → (if b then nth_started body 1 else started i) ≡ started i
    first true h = cc
    first false h = refl
nth-next (j ∷ body) (suc k) i q s =
    rw (started-cons j body k) (go (is_none (started j)) (nth-next body k i q s))
  where
    more : (m : ℕ) (o : Option ℕ) → (if 1 + m + 1 == 1 then o else nth_started body (1 + m + 1 - 1)) ≡ nth_started body (m + 1)
    more m o = let n : (1 + m + 1 ≡ 1 → ⊥) = omega arith in rw (ne_eqb (1 + m + 1) 1 n) (ap (nth_started body) (omega arith))

    go : (b : Bool) → nth_started body (started_before body k + 1) ≡ started i
        → (if b then nth_started body ((if not b then 1 else 0) + started_before body k + 1)
        else (if (if not b then 1 else 0) + started_before body k + 1 == 1 then started j else nth_started body ((if not b then 1 else 0) + started_before body k + 1 - 1)))
        ≡ started i
    go true ih = ap (nth_started body) (omega arith) ∙ ih
    go false ih = more (started_before body k) (started j) ∙ ih
