use Rattle.std.proofs.Common.{rules, ◌≡◌, ◌++◌, codes, decimal, Err}
use Rattle.broker_app.proofs.Saying.{writes_front, writes_more}
use Rattle.broker_app.proofs.lines.write_overlap_line.Goals as goal

pub returns-in_err-write_two : goal.returns-in_err-write_two
returns-in_err-write_two g c =
    let digits : c.as_bytes.result.now ≡ decimal c.args.first = search rules in
    let stopped : c.from_residual.result ≡ Err c.in_err-write_two.field-0.0 = search rules in
    rw (← digits) (writes_front _ _ (codes "pod: pids overlap: " ++ c.as_bytes.result.now) (codes " " ++ (decimal c.args.second ++ codes "\n")) _ _ _ stopped c.in_err-write_two.ensures)

pub returns : goal.returns
returns g c =
    let first : c.as_bytes.result.now ≡ decimal c.args.first = search rules in
    let second : c.as_bytes-2.result.now ≡ decimal c.args.second = search rules in
    rw (← first, ← second)
    (writes_more _ _ _ (codes "pod: pids overlap: " ++ c.as_bytes.result.now) (codes " " ++ (c.as_bytes-2.result.now ++ codes "\n")) _ _ c.in_ok-write_two.ensures c.write_ended.ensures)
