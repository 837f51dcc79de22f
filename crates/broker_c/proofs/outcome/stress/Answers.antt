use Rattle.broker_c.proofs.StressEnded.{stress_gives}
use Rattle.broker_c.proofs.outcome.stress.Goals as goal

pub returns-clause-gives : goal.returns-clause-gives
returns-clause-gives c =
    stress_gives c.args.from c.args.count c.args.room c.outcome_of.result.printed.items _ _ _ _ _ _ c.carry_out-status.result c.outcome_of.result.status
    c.stress_job.ensures.meant c.new-out.ensures c.carry_out-status.ensures.answers c.outcome_of.ensures.printed c.outcome_of.ensures.status
