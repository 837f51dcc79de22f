-- What holds of each row of a table, and of every number without a row, holds of every number: a new row is no new case here.
-- By induction on the rows.
use Rattle.std.proofs.Common.{◌≡◌, ℕ, false, List, [], ◌∷◌, refl, sym, subst, inl, inr, None}
use Rattle.std.proofs.lemmas.Bool.{cases_Bool, eqb-true}
use Rattle.std.specs.Prelude.{◌==◌}
use Rattle.call_table.specs.Table.{Row, row_in}

abbrev pub AtEach : (ℕ → Type 0) → List Row → Type 0
AtEach Q [] = Unit {0}
AtEach Q (row ∷ rows) = Q row.nr × AtEach Q rows

pub at_row : (Q : ℕ → Type 0) (rows : List Row) (n : ℕ) → AtEach Q rows → (row_in rows n ≡ None → Q n) → Q n
at_row Q [] n each other = other refl
at_row Q (row ∷ rows) n each other = elim (cases_Bool (n == row.nr)) [
  | inl t ↦ subst Q (sym (eqb-true n row.nr t)) each.0
  | inr f ↦ at_row Q rows n each.1 (λ h. other (rw f h))
]

-- a number without a row is none of the rows' numbers
abbrev pub IsNone : List Row → ℕ → Type 0
IsNone [] n = Unit {0}
IsNone (row ∷ rows) n = ((n == row.nr) ≡ false) × IsNone rows n

pub none_is : (rows : List Row) (n : ℕ) → row_in rows n ≡ None → IsNone rows n
none_is [] n h = tt
none_is (row ∷ rows) n h = elim (cases_Bool (n == row.nr)) [
  | inl t ↦ absurd (cc (rw t at h))
  | inr f ↦ (f, none_is rows n (rw f at h))
]
