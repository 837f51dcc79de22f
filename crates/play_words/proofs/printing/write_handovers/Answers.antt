-- The title is written, and then the ledgers.
use Rattle.std.proofs.Common.{rules, ◌≡◌, ◌∙◌, Ok, Err, ap, length, subst, sym}
use Rattle.std.specs.List.{flat_map}
use Rattle.handover.specs.Keeping.{all_handed}
use Rattle.audit_log.specs.Written.{Wrote}
use Rattle.audit_log.proofs.Writing.{wrote_more, wrote_stopped}
use Rattle.play_words.proofs.Handovers.{as_many}
use Rattle.play_words.specs.Handovers.{handovers_title, ledger_line}
use Rattle.play_words.proofs.printing.write_handovers.Goals as goal

pub returns-in_err-write_line : goal.returns-in_err-write_line
returns-in_err-write_line g c =
    let all = all_handed c.args.handed.now in
    let title : c.in_ok-title.title ≡ handovers_title (length all) = c.in_ok-title.ensures ∙ ap handovers_title (sym (as_many c.args.handed.now)) in
    let stopped : c.from_residual-in_err-write_line.result ≡ Err c.in_err-write_line.field-0.0 = search rules in
    wrote_stopped _ _ (handovers_title (length all)) (flat_map ledger_line all) _ _ stopped
    (subst (λ text. Wrote (g.O.Sink.state c.args.out.now) text (Err c.in_err-write_line.field-0.0) (g.O.Sink.state c.write_line.new.out)) title c.in_err-write_line.ensures)

pub returns : goal.returns
returns g c =
    let all = all_handed c.args.handed.now in
    let title : c.in_ok-title.title ≡ handovers_title (length all) = c.in_ok-title.ensures ∙ ap handovers_title (sym (as_many c.args.handed.now)) in
    wrote_more _ _ _ (handovers_title (length all)) (flat_map ledger_line all) _
    (subst (λ text. Wrote (g.O.Sink.state c.args.out.now) text (Ok c.in_ok-write_line.field-0) (g.O.Sink.state c.write_line.new.out)) title c.in_ok-write_line.ensures)
    c.write_ledgers.ensures
