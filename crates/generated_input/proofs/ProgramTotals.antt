-- Generated programs come to little: the program of a call to a few instructions, and the first task's to a few for each call.
-- By cases on the fates of calls, by induction on their number, and by arithmetic.
use Rattle.std.proofs.Common.{◌≡◌, ℕ, zero, suc, ◌*◌, ◌^◌, ◌<◌, ◌≤◌, List, [], ◌∷◌, ◌++◌, length, refl, arith, length-append}
use Rattle.std.specs.Prelude.{Bool, true, false, not, fold, decimal}
use Rattle.std.specs.List.{list_all}
use Rattle.std.proofs.lemmas.Bool.{and_from, le-ltb}
use Rattle.std.proofs.lemmas.Fmt.{length-decimal-le}
use Rattle.std.proofs.lemmas.List.Sums.{fold-append}
use Rattle.hist_model.specs.Totals.{added_by, are_too_many, exits, no_totals, program_totals, totals_at, totals_behind, totals_of, totals_of_all, with_end, with_totals}
use Rattle.hist_model.specs.declared.script.Instr.{Instr}
use Rattle.hist_model.specs.declared.script.Totals.{Totals}
use Rattle.generated_input.specs.declared.fate.Fate.{Fate}
use Rattle.generated_input.specs.declared.fate.Fate.TheVariants.{Killed}
use Rattle.generated_input.specs.GeneratedScript.{caller, callers, fate_of, first_program, of_each, path_of, programs_of, starts}
use Rattle.generated_input.proofs.Each.{all_append}

-- ---- too many

few : (t : Totals) → t.executed ≤ 100000 → t.calls ≤ 20000 → t.starts ≤ 4000 → t.stored ≤ 67108864 → t.depth ≤ 64 → not (are_too_many t) ≡ true
few t e c s b d = rw (le-ltb 100000 t.executed e, le-ltb 20000 t.calls c, le-ltb 4000 t.starts s, le-ltb 67108864 t.stored b, le-ltb 64 t.depth d) refl

-- ---- the programs of calls

pub path_short : (i : ℕ) → i < 4000 → length (path_of i) ≤ 7
path_short i h =
    let small : i < 10 ^ 4 = omega (arith, h) in
    let word : i < 2 ^ 64 = omega (arith, h) in
    let digits : length (decimal i) ≤ 4 = length-decimal-le 4 i (omega arith) small word in
    omega (arith, digits, length-append (decimal i) (0 ∷ []))

-- what the program of a call comes to
record IsSmall (t : Totals) : Type 0 where
  executed : t.executed ≤ 3
  calls : t.calls ≤ 1
  starts : t.starts ≤ 0
  stored : t.stored ≤ 7
  depth : t.depth ≤ 0

nothing-small : IsSmall no_totals
nothing-small = record { executed = omega arith; calls = omega arith; starts = omega arith; stored = omega arith; depth = omega arith }

caller-small : (above : List Totals) (from i : ℕ) → i < 4000 → IsSmall (program_totals above (caller from i))
caller-small above from i h =
    let p = path_short i h in
    record { executed = omega arith; calls = omega arith; starts = omega arith; stored = omega (arith, p); depth = omega arith }

abbrev AreSmall : List Totals → Type 0
AreSmall [] = Unit {0}
AreSmall (t ∷ ts) = IsSmall t × AreSmall ts

small-append : (ts us : List Totals) → AreSmall ts → AreSmall us → AreSmall (ts ++ us)
small-append [] us h k = k
small-append (t ∷ ts) us h k = (h.0, small-append ts us h.1 k)

small-few : (t : Totals) → IsSmall t → not (are_too_many t) ≡ true
small-few t h =
    let e = h.executed in let c = h.calls in let s = h.starts in let b = h.stored in let d = h.depth in
    few t (omega (arith, e)) (omega (arith, c)) (omega (arith, s)) (omega (arith, b)) (omega (arith, d))

all-few : (ts : List Totals) → AreSmall ts → list_all (λ t. not (are_too_many t)) ts ≡ true
all-few [] h = refl
all-few (t ∷ ts) h = and_from _ _ (small-few t h.0) (all-few ts h.1)

behind-append : (above : List Totals) (xs ys : List (List Instr)) → totals_behind above (xs ++ ys) ≡ totals_behind (totals_behind above xs) ys
behind-append above [] ys = refl
behind-append above (x ∷ xs) ys = behind-append (above ++ program_totals above x ∷ []) xs ys

callers-small : (from count : ℕ) → count ≤ 4000 → AreSmall (totals_behind [] (callers from count))
unfolding of_each
callers-small from zero h = tt
callers-small from (suc i) h =
    let above = totals_behind [] (callers from i) in
    rw (behind-append [] (callers from i) (caller from i ∷ []))
    (small-append above (program_totals above (caller from i) ∷ []) (callers-small from i (omega (arith, h))) (caller-small above from i (omega (arith, h)), tt))

small-at : (above : List Totals) (place : ℕ) → AreSmall above → IsSmall (totals_at above place)
small-at [] place h = nothing-small
small-at (t ∷ above) zero h = h.0
small-at (t ∷ above) (suc place) h = small-at above place h.1

-- ---- the first task's program

-- what its lines for so many calls come to
record IsWithin (n : ℕ) (t : Totals) : Type 0 where
  executed : t.executed ≤ 6 * n
  calls : t.calls ≤ n
  starts : t.starts ≤ n
  stored : t.stored ≤ 7 * n
  depth : t.depth ≤ 1

one-more : (above : List Totals) (sum : Totals) (n i : ℕ) (fate : Fate) → IsSmall (totals_at above i) → IsWithin n sum
    → IsWithin (suc n) (fold (λ s j. with_totals s (added_by above j)) sum (starts fate i))
one-more above sum n i Killed small h =
    let e = small.executed in let c = small.calls in let s = small.starts in let b = small.stored in let d = small.depth in
    let f = h.executed in let k = h.calls in let a = h.starts in let m = h.stored in let l = h.depth in
    record { executed = omega (arith, e, f); calls = omega (arith, c, k); starts = omega (arith, s, a); stored = omega (arith, b, m); depth = omega (arith, d, l) }
one-more above sum n i fate small h =
    let e = small.executed in let c = small.calls in let s = small.starts in let b = small.stored in let d = small.depth in
    let f = h.executed in let k = h.calls in let a = h.starts in let m = h.stored in let l = h.depth in
    record { executed = omega (arith, e, f); calls = omega (arith, c, k); starts = omega (arith, s, a); stored = omega (arith, b, m); depth = omega (arith, d, l) }

first-within : (above : List Totals) (from count : ℕ) → AreSmall above → IsWithin count (totals_of above (first_program from count))
unfolding of_each
first-within above from zero small = record { executed = omega arith; calls = omega arith; starts = omega arith; stored = omega arith; depth = omega arith }
first-within above from (suc i) small =
    rw (fold-append (λ s j. with_totals s (added_by above j)) no_totals (first_program from i) (starts (fate_of from i) i))
    (one-more above (totals_of above (first_program from i)) i i (fate_of from i) (small-at above i small) (first-within above from i small))

ended-few : (exited : Bool) (n : ℕ) (t : Totals) → n ≤ 4000 → IsWithin n t → not (are_too_many (with_end exited t)) ≡ true
ended-few true n t h w =
    let e = w.executed in let c = w.calls in let s = w.starts in let b = w.stored in let d = w.depth in
    few (with_end true t) (omega (arith, h, e)) (omega (arith, h, c)) (omega (arith, h, s)) (omega (arith, h, b)) (omega (arith, d))
ended-few false n t h w =
    let e = w.executed in let c = w.calls in let s = w.starts in let b = w.stored in let d = w.depth in
    few (with_end false t) (omega (arith, h, e)) (omega (arith, h, c)) (omega (arith, h, s)) (omega (arith, h, b)) (omega (arith, d))

-- no program comes to too much
pub programs_few : (from count : ℕ) → count ≤ 4000 → list_all (λ t. not (are_too_many t)) (totals_of_all (programs_of from count)) ≡ true
programs_few from count h =
    let above = totals_behind [] (callers from count) in
    let small = callers-small from count h in
    let first = first_program from count in
    rw (behind-append [] (callers from count) (first ∷ []))
    (all_append (λ t. not (are_too_many t)) above (program_totals above first ∷ []) (all-few above small)
    (and_from _ _ (ended-few (exits first) count (totals_of above first) h (first-within above from count small)) refl))
