use Rattle.std.proofs.Common.{rules, tests, ◌∙◌, ap, sym, bytes_eq}
use Rattle.std.specs.Option.{option_map}
use Rattle.std.proofs.lemmas.Iterator.{YieldsList-from_slice}
use Rattle.std.proofs.lemmas.Iterator.Search.{find_from_yields_List}
use Rattle.sys_abi.proofs.Tables.{read_row}
use Rattle.sys_abi.proofs.names.number_of.Goals as goal

pub returns : goal.returns
returns c =
    let found = find_from_yields_List (λ row. bytes_eq row.1.now c.args.name.now) _ _ _ c.find.ensures.ran (YieldsList-from_slice c.args.table.now cc) (λ x b q k. search (rules, tests)) in
    ap (option_map (λ b. b.now.0)) (sym c.in_ok-row.was)
    ∙ read_row (λ row. (row.0, row.1.now)) (λ row. bytes_eq row.1 c.args.name.now) (λ row. row.0) c.args.table.now c.find.result found

pub returns-in_err-row : goal.returns-in_err-row
returns-in_err-row c =
    let found = find_from_yields_List (λ row. bytes_eq row.1.now c.args.name.now) _ _ _ c.find.ensures.ran (YieldsList-from_slice c.args.table.now cc) (λ x b q k. search (rules, tests)) in
    c.from_residual.ensures
    ∙ (ap (option_map (λ b. b.now.0)) (sym c.in_err-row.was)
    ∙ read_row (λ row. (row.0, row.1.now)) (λ row. bytes_eq row.1 c.args.name.now) (λ row. row.0) c.args.table.now c.find.result found)
