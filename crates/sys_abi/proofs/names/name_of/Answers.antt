use Rattle.std.proofs.Common.{rules, tests, ◌∙◌, ap, sym, ◌==◌}
use Rattle.std.specs.Option.{option_map, option_copied}
use Rattle.std.proofs.lemmas.Iterator.{YieldsList-from_slice}
use Rattle.std.proofs.lemmas.Iterator.Search.{find_from_yields_List}
use Rattle.sys_abi.proofs.Tables.{read_row}
use Rattle.sys_abi.proofs.names.name_of.Goals as goal

pub returns : goal.returns
returns c =
    let found = find_from_yields_List (λ row. row.0 == c.args.number) _ _ _ c.find.ensures.ran (YieldsList-from_slice c.args.table.now cc) (λ x b q k. search (rules, tests)) in
    ap (option_map (λ b. b.now.1.now)) (sym c.in_ok-row.was)
    ∙ read_row (λ row. (row.0, row.1.now)) (λ row. row.0 == c.args.number) (λ row. row.1) c.args.table.now c.find.result found

pub returns-in_err-row : goal.returns-in_err-row
returns-in_err-row c =
    let found = find_from_yields_List (λ row. row.0 == c.args.number) _ _ _ c.find.ensures.ran (YieldsList-from_slice c.args.table.now cc) (λ x b q k. search (rules, tests)) in
    ap option_copied c.from_residual.ensures
    ∙ (ap (option_map (λ b. b.now.1.now)) (sym c.in_err-row.was)
    ∙ read_row (λ row. (row.0, row.1.now)) (λ row. row.0 == c.args.number) (λ row. row.1) c.args.table.now c.find.result found)
