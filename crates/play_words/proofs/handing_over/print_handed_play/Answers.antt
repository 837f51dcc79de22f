-- The report and the ledgers are those of the history that is played, or nothing was, for want of memory.
use Rattle.std.proofs.Common.{rules, ◌≡◌, Err}
use Rattle.program_files.proofs.Printing.{ends_unplayed}
use Rattle.play_words.proofs.Handovers.{ends_handed}
use Rattle.play_words.specs.Handovers.{handover_report}
use Rattle.program_files.specs.declared.status.Status.TheVariants.{NoMemory}
use Rattle.play_words.proofs.handing_over.print_handed_play.Goals as goal

pub returns-in_err-played : goal.returns-in_err-played
returns-in_err-played g c =
    let unplayed : c.from_residual.result ≡ Err NoMemory = search rules in
    rw unplayed (ends_unplayed (handover_report c.args.every c.args.policy c.args.script) (g.O.Sink.state c.args.out.now))

pub returns : goal.returns
returns g c =
    ends_handed c.args.every c.in_ok-played.played c.args.policy c.args.script (g.O.Sink.state c.args.out.now) (g.O.Sink.state c.print_whole-printed.new.out) c.print_whole-printed.result
    c.in_ok-played.ensures.policy c.in_ok-played.ensures.events c.in_ok-played.ensures.handed c.print_whole-printed.ensures
