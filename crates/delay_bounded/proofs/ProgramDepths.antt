-- How many instructions a script's programs have, and how deep they nest: whatever a task's program starts nests less deep than it.
-- By induction on the programs, each of which starts only those that are written above it.
use Rattle.std.proofs.Common.{◌≡◌, ℕ, zero, suc, ◌+◌, ◌-◌, ◌<◌, ◌≤◌, List, [], ◌∷◌, ◌++◌, length, refl, sym, ap, subst, ◌∙◌, arith, length-append}
use Rattle.std.specs.Prelude.{◌==◌, Bool, true, false, not, Option, Some, None, fold, get_or, slice_get}
use Rattle.std.specs.List.{list_all}
use Rattle.std.proofs.lemmas.Bool.{and_parts, ltb-false, ltb-true}
use Rattle.std.proofs.lemmas.List.{get_or-append-add, get_or_append_left}
use Rattle.std.proofs.lemmas.Option.{unwrap_or-slice_get}
use Rattle.hist_model.specs.Look.{Name}
use Rattle.hist_model.specs.Programs.{instructions_of, nth_started, program_at, program_from, started}
use Rattle.hist_model.specs.ScriptRules.{start_earlier, starts_below}
use Rattle.hist_model.specs.Totals.{added_by, are_too_many, exits, no_totals, program_totals, totals_at, totals_behind, totals_of, totals_of_all, with_end, with_totals}
use Rattle.hist_model.specs.declared.script.Instr.{Instr}
use Rattle.hist_model.specs.declared.script.Instr.TheVariants.{Poke, Fill, Call, Spawn, Thread, Kill, Handler, Wait, Exit}
use Rattle.hist_model.specs.declared.script.Totals.{Totals}

-- ---- What a program comes to

-- so far, with one instruction more
abbrev adds : List Totals → Totals → Instr → Totals
adds above sum i = with_totals sum (added_by above i)

executed_one : (above : List Totals) (i : Instr) → 1 ≤ (added_by above i).executed
executed_one above i = grind arith

-- each instruction is executed
executes : (above : List Totals) (sum : Totals) (body : List Instr) → sum.executed + length body ≤ (fold (adds above) sum body).executed
executes above sum [] = omega arith
executes above sum (i ∷ body) = omega (arith, executed_one above i, executes above (adds above sum i) body)

deeper : (above : List Totals) (sum : Totals) (body : List Instr) → sum.depth ≤ (fold (adds above) sum body).depth
deeper above sum [] = omega arith
deeper above sum (i ∷ body) = omega (arith, deeper above (adds above sum i) body)

-- and counts with its depth
deep_at : (above : List Totals) (sum : Totals) (body : List Instr) (place : ℕ) (i : Instr) → slice_get body place ≡ Some i → (added_by above i).depth ≤ (fold (adds above) sum body).depth
deep_at above sum [] place i is = cc
deep_at above sum (j ∷ body) zero i is = let same : j ≡ i = cc in rw (← same) (omega (arith, deeper above (adds above sum j) body))
deep_at above sum (j ∷ body) (suc place) i is = deep_at above (adds above sum j) body place i is

starts_deep : (above : List Totals) (i : Instr) (q : ℕ) → started i ≡ Some q → (totals_at above q).depth + 1 ≤ (added_by above i).depth
starts_deep above (Spawn p) q is = let same : p ≡ q = cc in rw same (omega arith)
starts_deep above (Thread p) q is = let same : p ≡ q = cc in rw same (omega arith)
starts_deep above (Poke a b) q is = cc
starts_deep above (Fill a l b) q is = cc
starts_deep above (Call nr args) q is = cc
starts_deep above (Kill whom s) q is = cc
starts_deep above (Handler s m) q is = cc
starts_deep above Wait q is = cc
starts_deep above Exit q is = cc

end_executed : (b : Bool) (t : Totals) → t.executed ≤ (with_end b t).executed
end_executed true t = omega arith
end_executed false t = omega arith

end_depth : (b : Bool) (t : Totals) → (with_end b t).depth ≡ t.depth
end_depth b t = refl

-- ---- The totals of the programs

-- what is said of the program at a place by the totals of all of them: its instructions are counted, and what they start nests less deep
record IsCounted (all : List Totals) (p : ℕ) (body : List Instr) : Type 0 where
  few : length body ≤ (totals_at all p).executed
  nests : (place q : ℕ) (i : Instr) → slice_get body place ≡ Some i → started i ≡ Some q → (totals_at all q).depth + 1 ≤ (totals_at all p).depth

at_left : (xs ys : List Totals) (p : ℕ) → p < length xs → totals_at (xs ++ ys) p ≡ totals_at xs p
at_left xs ys p l = unwrap_or-slice_get (xs ++ ys) p no_totals ∙ (get_or_append_left xs ys no_totals p l ∙ sym (unwrap_or-slice_get xs p no_totals))

at_end : (xs : List Totals) (t : Totals) → totals_at (xs ++ t ∷ []) (length xs) ≡ t
at_end xs t =
    let here : length xs + 0 ≡ length xs = omega arith in
    unwrap_or-slice_get (xs ++ t ∷ []) (length xs) no_totals ∙ (ap (λ n. get_or (xs ++ t ∷ []) n no_totals) (sym here) ∙ get_or-append-add xs (t ∷ []) 0 no_totals)

one_longer : (above : List Totals) (t : Totals) → length (above ++ t ∷ []) ≡ length above + 1
one_longer above t = omega (arith, length-append above (t ∷ []))

-- what is written above keeps its totals
kept : (above : List Totals) (more : List (List Instr)) (p : ℕ) → p < length above → totals_at (totals_behind above more) p ≡ totals_at above p
kept above [] p l = refl
kept above (body ∷ more) p l =
    let t = program_totals above body in
    kept (above ++ t ∷ []) more p (omega (arith, one_longer above t)) ∙ at_left above (t ∷ []) p l

-- what an instruction of a program starts is written above it
below : (n : ℕ) (body : List Instr) (place q : ℕ) (i : Instr) → list_all (λ j. starts_below n j) body ≡ true → slice_get body place ≡ Some i → started i ≡ Some q → q < n
below n [] place q i all is starts = cc
below n (j ∷ body) zero q i all is starts = let same : j ≡ i = cc in by i (rw same at (and_parts (starts_below n j) _ all).0) starts
  where
    by : (i : Instr) → starts_below n i ≡ true → started i ≡ Some q → q < n
    by i b s = grind (arith, ltb-true)
below n (j ∷ body) (suc place) q i all is starts = below n body place q i (and_parts (starts_below n j) _ all).1 is starts

first_counted : (above : List Totals) (body : List Instr) (more : List (List Instr)) → list_all (λ j. starts_below (length above) j) body ≡ true
    → IsCounted (totals_behind above (body ∷ more)) (length above) body
first_counted above body more earlier = record {
  few = omega (arith, executes above no_totals body, end_executed (exits body) (totals_of above body), ap (λ (t : Totals). t.executed) here);
  nests = λ place q i is starts. omega (
    arith,
    ap (λ (t : Totals). t.depth) (there q (below (length above) body place q i earlier is starts)),
    starts_deep above i q starts,
    deep_at above no_totals body place i is,
    ap (λ (t : Totals). t.depth) here,
    end_depth (exits body) (totals_of above body),
  );
}
  where
    own : Totals
    own = program_totals above body

    here : totals_at (totals_behind above (body ∷ more)) (length above) ≡ own
    here = kept (above ++ own ∷ []) more (length above) (omega (arith, one_longer above own)) ∙ at_end above own

    there : (q : ℕ) → q < length above → totals_at (totals_behind above (body ∷ more)) q ≡ totals_at above q
    there q l = kept above (body ∷ more) q l

all_counted : (above : List Totals) (programs : List (List Instr)) → start_earlier (length above) programs ≡ true → (p : ℕ) (body : List Instr) → slice_get programs p ≡ Some body
    → IsCounted (totals_behind above programs) (length above + p) body
all_counted above [] earlier p body is = cc
all_counted above (first ∷ more) earlier zero body is =
    let same : first ≡ body = cc in
    let place : length above + 0 ≡ length above = omega arith in
    rw place (subst (λ b. IsCounted (totals_behind above (first ∷ more)) (length above) b) same (first_counted above first more (and_parts (list_all (λ j. starts_below (length above) j) first) _ earlier).0))
all_counted above (first ∷ more) earlier (suc p) body is =
    let t = program_totals above first in
    let long = one_longer above t in
    let place : length above + suc p ≡ length (above ++ t ∷ []) + p = omega (arith, long) in
    rw place (all_counted (above ++ t ∷ []) more (rw long (and_parts (list_all (λ j. starts_below (length above) j) first) _ earlier).1) p body is)

-- ---- No more than a script may have

few_each : (t : Totals) → not (are_too_many t) ≡ true → (t.executed ≤ 100000) × (t.depth ≤ 64)
few_each t h = grind (arith, ltb-false)

few_at : (ts : List Totals) (p : ℕ) → list_all (λ t. not (are_too_many t)) ts ≡ true → ((totals_at ts p).executed ≤ 100000) × ((totals_at ts p).depth ≤ 64)
few_at [] p h = (omega arith, omega arith)
few_at (t ∷ ts) zero h = few_each t (and_parts (not (are_too_many t)) _ h).0
few_at (t ∷ ts) (suc p) h = few_at ts p (and_parts (not (are_too_many t)) _ h).1

-- what is started stands somewhere in the program
stands : (body : List Instr) (k q : ℕ) → nth_started body k ≡ Some q → (place : ℕ) × (i : Instr) × (slice_get body place ≡ Some i) × (started i ≡ Some q)
stands [] k q is = cc
stands (i ∷ body) k q is = by (started i) refl is (λ l. stands body l q)
  where
    behind : ((place : ℕ) × (j : Instr) × (slice_get body place ≡ Some j) × (started j ≡ Some q)) → (place : ℕ) × (j : Instr) × (slice_get (i ∷ body) place ≡ Some j) × (started j ≡ Some q)
    behind (place, j, at, starts) = (suc place, j, at, starts)

    by : (o : Option ℕ) → started i ≡ o → nth_started (i ∷ body) k ≡ Some q → ((l : ℕ) → nth_started body l ≡ Some q → (place : ℕ) × (j : Instr) × (slice_get body place ≡ Some j) × (started j ≡ Some q))
        → (place : ℕ) × (j : Instr) × (slice_get (i ∷ body) place ≡ Some j) × (started j ≡ Some q)
    by None s h ih = behind (ih k (rw s at h))
    by (Some p) s h ih = first (k == 1) refl
      where
        first : (b : Bool) → (k == 1) ≡ b → (place : ℕ) × (j : Instr) × (slice_get (i ∷ body) place ≡ Some j) × (started j ≡ Some q)
        first true one = (zero, i, refl, s ∙ rw (s, one) at h)
        first false more = behind (ih (k - 1) (rw (s, more) at h))

-- how deep the program at a place nests
abbrev pub depth_at : List (List Instr) → Option ℕ → ℕ
depth_at programs None = 0
depth_at programs (Some p) = (totals_at (totals_of_all programs) p).depth

module _ (programs : List (List Instr)) (earlier : start_earlier 0 programs ≡ true) (few : list_all (λ t. not (are_too_many t)) (totals_of_all programs) ≡ true) where
  counted : (p : ℕ) (body : List Instr) → slice_get programs p ≡ Some body → IsCounted (totals_of_all programs) p body
  counted p body is = let same : 0 + p ≡ p = omega arith in subst (λ place. IsCounted (totals_of_all programs) place body) same (all_counted [] programs earlier p body is)

  pub depth_few : (at : Option ℕ) → depth_at programs at ≤ 64
  depth_few None = omega arith
  depth_few (Some p) = (few_at (totals_of_all programs) p few).1

  pub few_instructions : (at : Option ℕ) → length (program_at programs at) ≤ 100000
  few_instructions None = omega arith
  few_instructions (Some p) = by (slice_get programs p) refl
    where
      by : (o : Option (List Instr)) → slice_get programs p ≡ o → length (instructions_of (slice_get programs p)) ≤ 100000
      by None is = rw is (omega arith)
      by (Some body) is = let c = counted p body is in rw is (omega (arith, c.few, (few_at (totals_of_all programs) p few).0))

  -- where a program starts some, each that its spawns lead to nests less deep; so does the empty one, to which a spawn would lead that isn't there
  pub child_nests_less : (at : Option ℕ) (place q : ℕ) (i : Instr) (k : ℕ) → slice_get (program_at programs at) place ≡ Some i → started i ≡ Some q → depth_at programs (nth_started (program_at programs at) k) + 1 ≤ depth_at programs at
  child_nests_less None place q i k is starts = cc
  child_nests_less (Some p) place q i k is starts = by (slice_get programs p) refl is
    where
      child : (body : List Instr) → IsCounted (totals_of_all programs) p body → slice_get body place ≡ Some i → (o : Option ℕ) → nth_started body k ≡ o → depth_at programs o + 1 ≤ depth_at programs (Some p)
      child body c at None of = omega (arith, c.nests place q i at starts)
      child body c at (Some r) of = let (there, j, stands_there, starts_it) = stands body k r of in c.nests there r j stands_there starts_it

      by : (o : Option (List Instr)) → slice_get programs p ≡ o → slice_get (instructions_of (slice_get programs p)) place ≡ Some i → depth_at programs (nth_started (instructions_of (slice_get programs p)) k) + 1 ≤ depth_at programs (Some p)
      by None found at = let none : slice_get [] place ≡ Some i = rw found at at in cc
      by (Some body) found at = rw found (child body (counted p body found) (rw found at at) (nth_started body k) refl)

-- ---- The program that a name leads to

-- the place of the program that these numbers lead to, from that at a place
abbrev pub place_from : List (List Instr) → Name → Option ℕ → Option ℕ
place_from programs [] at = at
place_from programs (k ∷ n) at = place_from programs n (nth_started (program_at programs at) k)

pub program_is : (programs : List (List Instr)) (n : Name) (at : Option ℕ) → program_from programs n (program_at programs at) ≡ program_at programs (place_from programs n at)
program_is programs [] at = refl
program_is programs (k ∷ n) at = program_is programs n (nth_started (program_at programs at) k)

pub child_place : (programs : List (List Instr)) (n : Name) (k : ℕ) (at : Option ℕ) → place_from programs (n ++ k ∷ []) at ≡ nth_started (program_at programs (place_from programs n at)) k
child_place programs [] k at = refl
child_place programs (j ∷ n) k at = child_place programs n k (nth_started (program_at programs at) j)
