-- What was found, and else what is left while the listener is open.
use Rattle.std.proofs.Common.{sym, ap, ◌∙◌, true, false}
use Rattle.std.specs.Option.{option_map}
use Rattle.judge_pass.specs.Finding.{as_finding}
use Rattle.step_session.proofs.Telling.{found_as, found_plain, found_shut, some_events, watches_open}
use Rattle.step_session.proofs.judged.JudgedContainer.found.Goals as goal

pub returns-then-not-idle : goal.returns-then-not-idle
returns-then-not-idle c S K here =
    found_as c.args.origin.now S K c.found.result c.args.idle false c.if-not-idle.true (ap (option_map as_finding) c.found.ensures ∙ found_plain c.args.origin.now S K c.args.self.now here)

pub found_idle-requires : goal.found_idle-requires
found_idle-requires c = some_events c.args.origin.now c.args.self.now c.events.result c.requires c.events.ensures

pub returns-in-Open : goal.returns-in-Open
returns-in-Open c S K here =
    let open-still = watches_open c.args.origin.now S K c.args.self.now _ c.in-Open.is here in
    found_as c.args.origin.now S K c.found_idle.result c.args.idle true c.if-not-idle.false
    (c.found_idle.ensures c.args.origin.now.policy S K open-still.0 (sym (c.events.ensures S K here.stands)) open-still.1)

pub returns-in-Closed : goal.returns-in-Closed
returns-in-Closed c S K here =
    found_as c.args.origin.now S K c.found-in-Closed.result c.args.idle true c.if-not-idle.false
    (ap (option_map as_finding) c.found-in-Closed.ensures ∙ found_shut c.args.origin.now S K c.args.self.now _ c.in-Closed.is here)
