use Rattle.std.specs.Prelude.{ℕ, Option, List, ◌==◌, bytes_eq, find, map}
use Rattle.std.specs.Option.{option_map}
use Rattle.std.specs.Borrow.{Bor}

-- the name beside a number in a table
abbrev pub name_in : List (ℕ × List ℕ) → ℕ → Option (List ℕ)
name_in table n = option_map (λ row. row.1) (find (λ row. row.0 == n) table)

-- the number beside a name in a table
abbrev pub number_in : List (ℕ × List ℕ) → List ℕ → Option ℕ
number_in table name = option_map (λ row. row.0) (find (λ row. bytes_eq row.1 name) table)

-- a table of the program as contracts read it, with the texts that its rows borrow
abbrev pub rows_of : List (ℕ × Bor (List ℕ)) → List (ℕ × List ℕ)
rows_of table = map (λ row. (row.0, row.1.now)) table
