-- The printout is the one of what was played or served.
use Rattle.std.proofs.Common.{List, ℕ, subst}
use Rattle.hist_model.specs.ReportAudit.{judging_by}
use Rattle.program_files.specs.Printed.{Printed}
use Rattle.play_words.proofs.plays.print_whole.Goals as goal

pub returns : goal.returns
returns g c =
    let p = c.args.played.now in
    subst (λ (text : List ℕ). Printed text (g.O.Sink.state c.args.out.now) (g.O.Sink.state c.print_text.new.out) c.print_text.result)
    (c.printout_of-printout.ensures.text (judging_by p.policy.rules) p.history.events) c.print_text.ensures
