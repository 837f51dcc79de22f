use Rattle.broker_app.proofs.lines.write_rules_line.Goals as goal

pub returns-in-BadKey : goal.returns-in-BadKey
returns-in-BadKey g c = rw (c.in-BadKey.is, ← c.items.ensures) c.write_ended.ensures

pub returns-in-BadValue : goal.returns-in-BadValue
returns-in-BadValue g c = rw (c.in-BadValue.is, ← c.items-in-BadValue.ensures) c.write_ended-in-BadValue.ensures

pub returns-in-TooMany : goal.returns-in-TooMany
returns-in-TooMany g c = rw c.in-TooMany.is c.write-in-TooMany.ensures
