-- The listener is open, or its closing isn't heard.
use Rattle.std.proofs.Common.{arith}
use Rattle.step_session.proofs.Telling.{heard_open, heard_shut, some_events}
use Rattle.step_session.proofs.judged.JudgedContainer.heard.Goals as goal

pub returns-in-Open : goal.returns-in-Open
returns-in-Open c S K here = heard_open S K c.args.self.now.container c.in-Open.field-0 c.events-events.result c.in-Open.is here.stands (c.events-events.ensures S K here.stands)

pub overflow_sub-result : goal.overflow_sub-result
overflow_sub-result c = let some = some_events c.args.origin.now c.args.self.now c.events-events.result c.requires c.events-events.ensures in omega (arith, some)

pub returns-in-Closed : goal.returns-in-Closed
returns-in-Closed c S K here = heard_shut S K c.args.self.now.container c.in-Closed.field-0 c.events-events.result c.in-Closed.is here.stands (c.events-events.ensures S K here.stands)
