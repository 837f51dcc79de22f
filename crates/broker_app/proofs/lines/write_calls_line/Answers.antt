use Rattle.broker_app.proofs.lines.write_calls_line.Goals as goal

pub returns : goal.returns
returns g c = rw (← c.reason_text.ensures) c.write_line_of.ensures
