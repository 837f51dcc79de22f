-- Tables of names as contracts read them, with the texts that their rows borrow.
use Rattle.std.specs.Prelude.{List, ℕ, map}
use Rattle.std.specs.Borrow.{Bor}

abbrev pub rows_of : {A : Type 0} → List (Bor (List ℕ) × A) → List (List ℕ × A)
rows_of table = map (λ row. (row.0.now, row.1)) table

abbrev pub texts_of : List (Bor (List ℕ)) → List (List ℕ)
texts_of table = map (λ text. text.now) table
