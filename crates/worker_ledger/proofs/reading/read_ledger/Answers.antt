-- A ledger's text is read as the ledger's value, so that whoever reads another one, or none, hasn't read a ledger's text.
use Rattle.std.proofs.Common.{◌≡◌, ◌∙◌, Option, Some, None, ap, rules, subst, sym, tests}
use Rattle.std.specs.Prelude.{IsUtf8}
use Rattle.serde_json.specs.Data.{Data}
use Rattle.serde_json.specs.Errors.{IsMemory}
use Rattle.serde_json.specs.Read.{read}
use Rattle.serde_json.specs.View.{view}
use Rattle.worker_ledger.specs.Data.{ledger_data}
use Rattle.worker_ledger.proofs.Written.{ledger-read, ledger-utf8}
use Rattle.worker_ledger.proofs.reading.read_ledger.Goals as goal

same-value : (d e : Data) → Some d ≡ Some e → d ≡ e
same-value d e s = cc

no-value : (d : Data) → ◌≡◌ {A = Option Data} (Some d) None → ⊥
no-value d s = cc

pub returns-in-Ok : goal.returns-in-Ok
returns-in-Ok c = λ worker count own lw lc told e.
    let same : view c.in-Ok.value ≡ ledger_data worker count own = same-value _ _ (sym c.in-Ok.ensures.ok.1 ∙ ap read e ∙ ledger-read worker count own lw lc told) in
    c.read_value.ensures worker count own told same

pub returns-in-Err-2 : goal.returns-in-Err-2
returns-in-Err-2 c = λ worker count own lw lc told e.
    let other : ¬ (IsMemory c.in-Err.error) = search (rules, tests) in
    no-value _ (sym (ledger-read worker count own lw lc told) ∙ sym (ap read e) ∙ c.in-Err.ensures.err other (subst IsUtf8 (sym e) (ledger-utf8 worker count own lw lc told)))
