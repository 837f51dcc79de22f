use Rattle.broker_app.proofs.lines.write_refusal.Goals as goal

pub returns-in-ReadFault : goal.returns-in-ReadFault
returns-in-ReadFault g c = rw (c.in-ReadFault.is, ← c.file_named.ensures) c.write_two.ensures
