-- What the kit writes of the ledger's value is the ledger's text.
use Rattle.std.proofs.Common.{◌∙◌, ap}
use Rattle.serde_json.specs.Written.{compact_text, has_float}
use Rattle.worker_ledger.specs.Heard.{all_heard}
use Rattle.worker_ledger.proofs.Values.{no_float}
use Rattle.worker_ledger.proofs.Written.{ledger-written}
use Rattle.worker_ledger.proofs.ledger.Ledger.text.Goals as goal

pub returns-clause-text : goal.returns-clause-text
returns-clause-text c =
    let no = c.args.self.now.no in
    let count = c.args.self.now.count in
    let own = all_heard c.args.self.now.own.items in
    let built = c.in_ok-value.ensures.value in
    c.in_ok-to_vec.ensures.text (ap has_float built ∙ no_float no count own) ∙ ap compact_text built ∙ ledger-written no count own c.in_ok-value.ensures.answers
