-- What rows lead to when one is set, and when a group's are copied to a new one.
-- By induction on the rows.
use Rattle.std.proofs.Common.{◌≡◌, ℕ, ◌+◌, ◌<◌, ◌≤◌, Bool, true, false, List, [], ◌∷◌, ◌++◌, map, refl, arith, Option, Some, None, ◌∙◌, inl, inr}
use Rattle.std.specs.Prelude.{filter, not, ◌==◌, ◌&&◌, if◌then◌else◌}
use Rattle.std.proofs.lemmas.Bool.{cases_Bool, eqb-true}
use Rattle.std.proofs.lemmas.Bool.Decides.{nat_tests}
use Rattle.std.proofs.lemmas.List.Elements.{All-append, All-cons, All-map, All-tail}
use Rattle.hist_model.specs.Look.{or_else}
use Rattle.hist_model.specs.declared.request.NodeRef.{NodeRef}
use Rattle.judge_pass.specs.declared.directories.OpenDirectory.{OpenDirectory}
use Rattle.judge_pass.specs.Tables.{AreMade, is_row, row_named}

-- the row for another group
abbrev pub moved : ℕ → OpenDirectory → OpenDirectory
moved to row = record row { group = to }

-- the rows of a group, for another one
abbrev pub copies : ℕ → ℕ → List OpenDirectory → List OpenDirectory
copies from to rows = map (moved to) (filter (λ row. row.group == from) rows)

-- of rows, and more behind them
pub named-append : (xs ys : List OpenDirectory) (g n : ℕ) → row_named (xs ++ ys) g n ≡ or_else (row_named xs g n) (row_named ys g n)
unfolding row_named
named-append [] ys g n = refl
named-append (x ∷ xs) ys g n = let ih = named-append xs ys g n in elim (cases_Bool (is_row g n x)) [ inl q ↦ rw q refl | inr q ↦ rw q ih ]

-- no row is of a group that isn't made
pub unmade : (groups : ℕ) (rows : List OpenDirectory) (g n : ℕ) → AreMade groups rows → groups ≤ g → row_named rows g n ≡ None
unfolding row_named
unmade groups [] g n made l = refl
unmade groups (row ∷ rows) g n made l =
    let k : row.group < groups = made 0 row (omega arith) in
    let q : (row.group == g) ≡ false = grind (arith, nat_tests) in
    rw q (unmade groups rows g n (All-tail (λ (r : OpenDirectory). r.group < groups) row rows made) l)

-- without the rows of a number
pub set-none : (group number : ℕ) (rows : List OpenDirectory) (g n : ℕ)
    → row_named (filter (λ row. not (is_row group number row)) rows) g n ≡ (if (g == group) && (n == number) then None else row_named rows g n)
unfolding row_named
set-none group number [] g n = grind arith
set-none group number (row ∷ rows) g n =
    let ih = set-none group number rows g n in
    elim (cases_Bool (is_row group number row)) [
      | inl x ↦ elim (cases_Bool (is_row g n row)) [
        | inl y ↦
            let z : ((g == group) && (n == number)) ≡ true = grind (arith, nat_tests) in
            rw (x, z) (rw z at ih)
        | inr y ↦ rw (x, y) ih
      ]
      | inr x ↦ elim (cases_Bool (is_row g n row)) [
        | inl y ↦
            let z : ((g == group) && (n == number)) ≡ false = grind (arith, nat_tests) in
            rw (x, z, y) refl
        | inr y ↦ rw (x, y) ih
      ]
    ]

-- with the row of a number set to this directory, or to none
pub set-some : (node : NodeRef) (group number : ℕ) (rows old : List OpenDirectory) (g n : ℕ)
    → row_named rows g n ≡ (if (g == group) && (n == number) then None else row_named old g n)
    → row_named (rows ++ record { group = group; number = number; node = node } ∷ []) g n
    ≡ (if (g == group) && (n == number) then Some node.ordinal else row_named old g n)
unfolding row_named
set-some node group number rows old g n h =
    named-append rows (record { group = group; number = number; node = node } ∷ []) g n ∙ by ((g == group) && (n == number)) refl
  where
    x : OpenDirectory
    x = record { group = group; number = number; node = node }

    none-else : (o : Option ℕ) → or_else o None ≡ o
    none-else None = refl
    none-else (Some m) = refl

    by : (b : Bool) → ((g == group) && (n == number)) ≡ b
        → or_else (row_named rows g n) (row_named (x ∷ []) g n) ≡ (if (g == group) && (n == number) then Some node.ordinal else row_named old g n)
    by true q =
        let z : is_row g n x ≡ true = grind (arith, nat_tests) in
        let y : row_named rows g n ≡ None = rw q at h in
        rw (y, z, q) refl
    by false q =
        let z : is_row g n x ≡ false = grind (arith, nat_tests) in
        let y : row_named rows g n ≡ row_named old g n = rw q at h in
        rw (z, q) (none-else (row_named rows g n) ∙ y)

-- what is copied leads to what it led to
pub copied-named : (from to g n : ℕ) (rows : List OpenDirectory) → row_named (copies from to rows) g n ≡ (if g == to then row_named rows from n else None)
unfolding row_named
copied-named from to g n [] = grind arith
copied-named from to g n (row ∷ rows) =
    let ih = copied-named from to g n rows in
    elim (cases_Bool (row.group == from)) [
      | inr x ↦ rw x ih
      | inl x ↦ elim (cases_Bool (g == to)) [
        | inr y ↦
            let u : (to == g) ≡ false = grind (arith, nat_tests) in
            rw (x, u, y) (rw y at ih)
        | inl y ↦
            let u : (to == g) ≡ true = grind (arith, nat_tests) in
            elim (cases_Bool (row.number == n)) [
              | inl z ↦ rw (x, u, z, y) refl
              | inr z ↦ rw (x, u, z, y) (rw y at ih)
            ]
      ]
    ]

-- rows with those of a group copied to a new one
pub with-copied : (from to : ℕ) (rows : List OpenDirectory) (g n : ℕ) → from < to → AreMade to rows
    → row_named (rows ++ copies from to rows) g n ≡ row_named rows (if g == to then from else g) n
with-copied from to rows g n l made =
    named-append rows (copies from to rows) g n ∙ rw (copied-named from to g n rows) (by (g == to) refl)
  where
    none-else : (o : Option ℕ) → or_else o None ≡ o
    none-else None = refl
    none-else (Some m) = refl

    by : (b : Bool) → (g == to) ≡ b → or_else (row_named rows g n) (if g == to then row_named rows from n else None) ≡ row_named rows (if g == to then from else g) n
    by true q =
        let e : g ≡ to = eqb-true g to q in
        let z : row_named rows g n ≡ None = unmade to rows g n made (omega (arith, e)) in
        rw (q, z) refl
    by false q = rw q (none-else (row_named rows g n))

-- the groups of all of them are made
pub copied-made : (from to : ℕ) (rows : List OpenDirectory) → from < to → AreMade to rows → AreMade (to + 1) (rows ++ copies from to rows)
copied-made from to rows l made =
    All-append (λ (r : OpenDirectory). r.group < to + 1) rows (copies from to rows)
    (λ k d h. let m = made k d h in omega (arith, m))
    (All-map (λ (r : OpenDirectory). r.group < to + 1) (moved to) (filter (λ (row : OpenDirectory). row.group == from) rows) (λ k d h. omega arith))

pub one-made : (groups group : ℕ) (node : NodeRef) (number : ℕ) → group < groups → AreMade groups (record { group = group; number = number; node = node } ∷ [])
one-made groups group node number l = All-cons (λ (r : OpenDirectory). r.group < groups) (record { group = group; number = number; node = node }) [] l (λ k d h. absurd (omega arith))
