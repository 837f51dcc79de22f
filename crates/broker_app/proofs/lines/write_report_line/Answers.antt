use Rattle.std.proofs.Common.{rules, ◌≡◌, decimal}
use Rattle.broker_app.proofs.lines.write_report_line.Goals as goal

pub returns : goal.returns
returns g c =
    let digits : c.as_bytes.result.now ≡ decimal c.args.line = search rules in
    rw (← digits) c.write_ended.ensures
