use Rattle.std.specs.Prelude.{codes}
use Rattle.judge_pass.proofs.Headed.{numbers_pushed}
use Rattle.judge_pass.proofs.heads.push_mediated.Goals as goal

pub returns : goal.returns
returns c =
    let counts = c.args.counts.now in
    numbers_pushed c.args.line.now c.push_counted.new.line c.push_counted-2.new.line c.push_counted-3.new.line c.push_counted-4.new.line c.push.new.self
    (codes "mediated events=") (codes " calls=") (codes " effects=") (codes " answers=") (codes "\n") c.args.events counts.calls counts.effects counts.answers c.push.result
    c.in_ok-push_counted.ensures c.in_ok-push_counted-2.ensures c.in_ok-push_counted-3.ensures c.in_ok-push_counted-4.ensures c.push.ensures
