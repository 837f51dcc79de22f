use Rattle.std.proofs.Common.{rules, ◌≡◌, ◌++◌, codes, decimal}
use Rattle.broker_app.proofs.Saying.{writes_more}
use Rattle.broker_app.proofs.lines.write_container.Goals as goal

pub returns : goal.returns
returns g c =
    let digits : c.as_bytes.result.now ≡ decimal c.args.container = search rules in
    rw (← digits) (writes_more _ _ _ (codes "container ") (c.as_bytes.result.now ++ codes ": ") _ _ c.in_ok-write.ensures c.write_two.ensures)
