use Rattle.std.proofs.Common.{rules, ◌≡◌, Err}
use Rattle.broker_app.proofs.Saying.{writes_front, writes_more}
use Rattle.broker_app.specs.Lines.{container_front, refusal_line}
use Rattle.broker_app.proofs.lines.write_container_refusal.Goals as goal

pub returns-in_err-write_container : goal.returns-in_err-write_container
returns-in_err-write_container g c =
    let stopped : c.from_residual.result ≡ Err c.in_err-write_container.field-0.0 = search rules in
    writes_front _ _ (container_front c.args.container) (refusal_line c.args.refusal.now) _ _ _ stopped c.in_err-write_container.ensures

pub returns : goal.returns
returns g c = writes_more _ _ _ (container_front c.args.container) (refusal_line c.args.refusal.now) _ _ c.in_ok-write_container.ensures c.write_refusal.ensures
