-- The row that is found is that of the table.
use Rattle.std.proofs.Common.{rules, tests, ◌∙◌, ap, sym}
use Rattle.std.specs.Option.{option_copied, option_map}
use Rattle.std.proofs.lemmas.Iterator.{YieldsList-from_slice}
use Rattle.std.proofs.lemmas.Iterator.Search.{find_from_yields_List}
use Rattle.policy_explain.specs.Words.{flag_eq}
use Rattle.policy_explain.proofs.FlagNames.{name_found}
use Rattle.policy_explain.proofs.flags.name_in.Goals as goal

pub returns : goal.returns
returns c =
    ap (option_map (λ b. b.now.0.now)) (sym c.in_ok-row.was)
    ∙ name_found (λ row. row.0.now) (λ row. row.1) c.args.flag c.args.rows.now c.find.result
    (find_from_yields_List (λ r. flag_eq r.1 c.args.flag) _ _ _ c.find.ensures.ran (YieldsList-from_slice c.args.rows.now cc) (λ x b q k. search (rules, tests)))

pub returns-in_err-row : goal.returns-in_err-row
returns-in_err-row c =
    ap option_copied c.from_residual.ensures
    ∙ (ap (option_map (λ b. b.now.0.now)) (sym c.in_err-row.was)
    ∙ name_found (λ row. row.0.now) (λ row. row.1) c.args.flag c.args.rows.now c.find.result
    (find_from_yields_List (λ r. flag_eq r.1 c.args.flag) _ _ _ c.find.ensures.ran (YieldsList-from_slice c.args.rows.now cc) (λ x b q k. search (rules, tests))))
