-- The form that is found is that of the table.
use Rattle.std.proofs.Common.{◌≡◌, ℕ, List, Option, Bor, rules, tests, ◌∙◌, ap, sym, bytes_eq, find}
use Rattle.std.specs.Option.{option_map}
use Rattle.std.proofs.lemmas.Iterator.{YieldsList-from_slice}
use Rattle.std.proofs.lemmas.Iterator.Search.{find_from_yields_List}
use Rattle.sys_abi.proofs.Tables.{read_row}
use Rattle.bpf_filter.specs.Words.{form_in, forms_of}
use Rattle.bpf_filter.proofs.words.form_of.Goals as goal

beside-word : (table : List (Bor (List ℕ) × ℕ × ℕ)) (word : List ℕ) (row answer : Option (Bor (Bor (List ℕ) × ℕ × ℕ)))
    → row ≡ answer → option_map (λ b. b.now) row ≡ find (λ form. bytes_eq form.0.now word) table
    → option_map (λ b. (b.now.1, b.now.2)) answer ≡ form_in (forms_of table) word
beside-word table word row answer same found =
    ap (option_map (λ b. (b.now.1, b.now.2))) (sym same)
    ∙ read_row (λ form. (form.0.now, form.1, form.2)) (λ form. bytes_eq form.0 word) (λ form. (form.1, form.2)) table row found

pub returns : goal.returns
returns c =
    beside-word c.args.table.now c.args.word.now c.find.result _ c.in_ok-form.was
    (find_from_yields_List (λ form. bytes_eq form.0.now c.args.word.now) _ _ _ c.find.ensures.ran (YieldsList-from_slice c.args.table.now cc) (λ x b q k. search (rules, tests)))

pub returns-in_err-form : goal.returns-in_err-form
returns-in_err-form c =
    c.from_residual.ensures
    ∙ beside-word c.args.table.now c.args.word.now c.find.result _ c.in_err-form.was
    (find_from_yields_List (λ form. bytes_eq form.0.now c.args.word.now) _ _ _ c.find.ensures.ran (YieldsList-from_slice c.args.table.now cc) (λ x b q k. search (rules, tests)))
