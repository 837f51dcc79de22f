use Rattle.std.proofs.Common.{sym, ap, ◌∙◌, refl, Some}
use Rattle.std.specs.Prelude.{Ok, Err}
use Rattle.history_frames.specs.Ordinals.{task_name_of}
use Rattle.hist_model.specs.declared.event.What.TheVariants.{Send}
use Rattle.listener.specs.Listeners.{send_admission, view}
use Rattle.listener.specs.State.{with_reply}
use Rattle.listener.proofs.Stand.{follow, ids, looks}
use Rattle.listener.proofs.Told.{send-is}
use Rattle.listener.proofs.listener.Listener.send.Goals as goal

pub returns-in-Ok-clause-answer : goal.returns-in-Ok-clause-answer
returns-in-Ok-clause-answer c first K S =
    let L = c.args.self.now in
    sym c.in-Ok.is ∙ (c.admit_send.ensures ∙ (ap send_admission (c.state_of.ensures (task_name_of K) L.requests) ∙ send-is first K (view L (task_name_of K)) (looks first K L S) S.asked (ids first K L S) c.args.id))

pub returns-in-Ok-clause-step : goal.returns-in-Ok-clause-step
returns-in-Ok-clause-step c first K e S what =
    let L = c.args.self.now in
    follow first K L S e e.who (Send c.args.id c.args.back (Ok tt)) _ refl what tt (λ names n. c.set_reply.ensures names L.requests ∙ ap (λ y. with_reply c.args.id (Some y) (view L names)) c.reply_of.ensures)

pub returns-in-Err-clause-answer : goal.returns-in-Err-clause-answer
returns-in-Err-clause-answer c first K S =
    let L = c.args.self.now in
    sym c.in-Err.is ∙ (c.admit_send.ensures ∙ (ap send_admission (c.state_of.ensures (task_name_of K) L.requests) ∙ send-is first K (view L (task_name_of K)) (looks first K L S) S.asked (ids first K L S) c.args.id))

pub returns-in-Err-clause-step : goal.returns-in-Err-clause-step
returns-in-Err-clause-step c first K e S what = follow first K c.args.self.now S e e.who (Send c.args.id c.args.back (Err c.in-Err.error)) c.args.self.now refl what tt (λ names n. refl)
