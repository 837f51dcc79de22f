-- A row of the code is that of the table.
use Rattle.std.specs.Prelude.{◌≡◌, Option, Some, None}
use Rattle.call_table.specs.Table.{Row}
use Rattle.call_table.specs.declared.rows.CallRow.{CallRow}

pub record IsRow (row : Row) (code : CallRow) : Type 0 where
  pub base : code.base ≡ row.base
  pub texts : code.texts.now ≡ row.texts
  pub numbers : code.numbers.now ≡ row.numbers
  pub line : code.line.now ≡ row.line
  pub lane : code.lane ≡ row.lane
  pub may_be_granted : code.may_be_granted ≡ row.may_be_granted

abbrev pub IsRowOf : Option Row → Option CallRow → Type 0
IsRowOf None None = Unit {0}
IsRowOf (Some row) (Some code) = IsRow row code
IsRowOf _ _ = ⊥
