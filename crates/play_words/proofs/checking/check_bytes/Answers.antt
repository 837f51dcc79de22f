use Rattle.std.proofs.Common.{subst}
use Rattle.audit_check.specs.Checked.{Tells}
use Rattle.audit_check.specs.declared.found.Checked.{Checked}
use Rattle.audit_check.specs.declared.found.Checked.TheVariants.{Yes}
use Rattle.play_words.proofs.Checks.{found_ends}
use Rattle.play_words.proofs.checking.check_bytes.Goals as goal

pub returns-in-Yes : goal.returns-in-Yes
returns-in-Yes g c =
    let told : Tells c.args.policy.now c.args.script c.args.report.now (Yes c.in-Yes.history c.in-Yes.finished c.in-Yes.tables) =
    subst (λ (found : Checked). Tells c.args.policy.now c.args.script c.args.report.now found) c.in-Yes.is c.in_ok-history.ensures in
    found_ends c.args.policy.now c.args.script c.args.report.now c.in-Yes.history.events c.in-Yes.finished (g.O.Sink.state c.args.out.now) (g.O.Sink.state c.print_text-printed.new.out)
    c.print_text-printed.result told.0 told.1 c.print_text-printed.ensures

pub print_text-printed-requires : goal.print_text-printed-requires
print_text-printed-requires g c =
    let told : Tells c.args.policy.now c.args.script c.args.report.now (Yes c.in-Yes.history c.in-Yes.finished c.in-Yes.tables) =
    subst (λ (found : Checked). Tells c.args.policy.now c.args.script c.args.report.now found) c.in-Yes.is c.in_ok-history.ensures in
    told.2
