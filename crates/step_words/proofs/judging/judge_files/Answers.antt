-- What is told of the play was printed, or a part of it.
use Rattle.step_words.proofs.Judged.{judged_told}
use Rattle.program_files.specs.Printed.{status_of}
use Rattle.step_words.proofs.judging.judge_files.Goals as goal

pub returns : goal.returns
returns g c =
    let read = c.in_ok-policy.field-0 in
    judged_told (g.F.Files.state c.args.files.now) (g.F.Files.state c.read_stated.new.files) (g.O.Sink.state c.args.out.now) (g.O.Sink.state c.tell.new.out) c.args.policy.now c.args.script.now
    read.policy read.file c.in_ok-told.told (status_of c.tell.result) c.in_ok-policy.ensures.policy c.in_ok-policy.ensures.file c.in_ok-told.ensures c.tell.ensures
