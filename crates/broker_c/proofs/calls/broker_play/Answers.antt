use Rattle.step_words.specs.Plays.{as_report}
use Rattle.broker_c.proofs.Told.{play_told}
use Rattle.broker_c.proofs.calls.broker_play.Goals as goal

pub returns-clause-done : goal.returns-clause-done
returns-clause-done c =
    play_told as_report c.args.policy.now c.args.script.now c.min.result c.play-outcome.result.status c.play-outcome.result.printed.items c.args.out.now c.tell.new.out c.tell.new.out_length c.tell.result
    c.play-outcome.ensures.gives c.tell.ensures.number c.tell.ensures.out
