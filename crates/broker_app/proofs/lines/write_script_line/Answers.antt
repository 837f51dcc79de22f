use Rattle.broker_app.proofs.lines.write_script_line.Goals as goal

pub returns-in-BadLine : goal.returns-in-BadLine
returns-in-BadLine g c = rw (c.in-BadLine.is, ← c.reason_text.ensures) c.write_line_of.ensures

pub returns-in-TooLarge : goal.returns-in-TooLarge
returns-in-TooLarge g c = rw c.in-TooLarge.is c.write_line_of-in-TooLarge.ensures
