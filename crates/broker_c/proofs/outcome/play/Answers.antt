use Rattle.step_words.specs.Plays.{as_report}
use Rattle.broker_c.proofs.PlayEnded.{play_gives}
use Rattle.broker_c.specs.Given.{files_at}
use Rattle.broker_c.specs.Held.{holding}
use Rattle.broker_c.proofs.outcome.play.Goals as goal

pub returns-clause-gives : goal.returns-clause-gives
returns-clause-gives c =
    let files = c.carry_out-status.new.files in
    let out = c.carry_out-status.new.out in
    play_gives as_report c.args.policy.now c.args.script.now c.outcome_of.result.printed.items c.args.room _ _ (files_at files.policy.now files.script.now files.report.now files.current files.given files.faults) _
    (holding out.taken.items out.faults) c.carry_out-status.result c.outcome_of.result.status c.new-files.ensures c.new-out.ensures c.carry_out-status.ensures.answers c.outcome_of.ensures.printed
    c.outcome_of.ensures.status
