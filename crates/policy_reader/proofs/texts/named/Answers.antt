-- The row that is found is that of the table.
use Rattle.std.proofs.Common.{◌≡◌, ℕ, List, Option, Bor, rules, tests, ◌∙◌, ap, sym, bytes_eq, find}
use Rattle.std.specs.Option.{option_map}
use Rattle.std.proofs.lemmas.Iterator.{YieldsList-from_slice}
use Rattle.std.proofs.lemmas.Iterator.Search.{find_from_yields_List}
use Rattle.sys_abi.proofs.Tables.{read_row}
use Rattle.policy_reader.specs.Readings.{named}
use Rattle.policy_reader.specs.Tables.{rows_of}
use Rattle.policy_reader.proofs.texts.named.Goals as goal

beside : {A : Type 0} (table : List (Bor (List ℕ) × A)) (name : List ℕ) (row answer : Option (Bor (Bor (List ℕ) × A)))
    → row ≡ answer → option_map (λ b. b.now) row ≡ find (λ r. bytes_eq r.0.now name) table
    → option_map (λ b. b.now.1) answer ≡ named (rows_of table) name
beside table name row answer same found =
    ap (option_map (λ b. b.now.1)) (sym same) ∙ read_row (λ r. (r.0.now, r.1)) (λ r. bytes_eq r.0 name) (λ r. r.1) table row found

pub returns : goal.returns
returns g c =
    beside c.args.table.now c.args.name.now c.find.result _ c.in_ok-row.was
    (find_from_yields_List (λ r. bytes_eq r.0.now c.args.name.now) _ _ _ c.find.ensures.ran (YieldsList-from_slice c.args.table.now cc) (λ x b q k. search (rules, tests)))

pub returns-in_err-row : goal.returns-in_err-row
returns-in_err-row g c =
    c.from_residual.ensures
    ∙ beside c.args.table.now c.args.name.now c.find.result _ c.in_err-row.was
    (find_from_yields_List (λ r. bytes_eq r.0.now c.args.name.now) _ _ _ c.find.ensures.ran (YieldsList-from_slice c.args.table.now cc) (λ x b q k. search (rules, tests)))
