use Rattle.std.proofs.Common.{Some, sym, ap, ◌∙◌, refl, [], ◌∷◌, ◌++◌}
use Rattle.std.specs.Prelude.{Ok, Err}
use Rattle.hist_model.specs.declared.event.Actor.TheVariants.{Worker}
use Rattle.hist_model.specs.declared.event.What.TheVariants.{AddfdPut}
use Rattle.hist_model.specs.declared.notification.Reply.TheVariants.{Installing}
use Rattle.history_frames.specs.Ordinals.{task_name_of}
use Rattle.listener.specs.Requests.{new_request}
use Rattle.listener.specs.Listeners.{put_admission, view}
use Rattle.listener.specs.State.{far_in, row_named}
use Rattle.listener.proofs.Stand.{follow, ids, looks, puts-by, sent-asks}
use Rattle.listener.proofs.Told.{put-is}
use Rattle.listener.proofs.listener.Listener.put.Goals as goal

pub returns-in-Ok-clause-answer : goal.returns-in-Ok-clause-answer
returns-in-Ok-clause-answer c T first K S =
    let L = c.args.self.now in
    let s = view L (task_name_of K) in
    sym c.in-Ok.is ∙ (c.admit_put.ensures ∙ (ap (λ o. put_admission c.args.asked o c.queued.result) (c.state_of-state.ensures (task_name_of K) L.requests) ∙ (ap (put_admission c.args.asked (far_in (row_named c.args.asked.id s))) c.queued.ensures ∙ put-is first K s (looks first K L S) S.asked (ids first K L S) T c.args.asked)))

pub returns-in-Ok-clause-step : goal.returns-in-Ok-clause-step
returns-in-Ok-clause-step c first K e S who what =
    let L = c.args.self.now in
    let a = c.args.asked in
    let taken = sym (c.admit_put.ensures ∙ ap (λ o. put_admission a o c.queued.result) (c.state_of-state.ensures (task_name_of K) L.requests)) ∙ c.in-Ok.is in
    follow first K L S e (Worker c.args.worker) (AddfdPut a (Ok tt)) _ who what (puts-by first K L S e c.args.worker a c.queued.result who c.requires.free taken)
    (λ names n. c.note_put.ensures names c.put.new.self ∙ rw c.put.ensures.put (sent-asks a (Some Installing) a.id (λ qs. qs ++ new_request c.args.worker a ∷ []) (view L names)))

pub returns-in-Err-clause-answer : goal.returns-in-Err-clause-answer
returns-in-Err-clause-answer c T first K S =
    let L = c.args.self.now in
    let s = view L (task_name_of K) in
    sym c.in-Err.is ∙ (c.admit_put.ensures ∙ (ap (λ o. put_admission c.args.asked o c.queued.result) (c.state_of-state.ensures (task_name_of K) L.requests) ∙ (ap (put_admission c.args.asked (far_in (row_named c.args.asked.id s))) c.queued.ensures ∙ put-is first K s (looks first K L S) S.asked (ids first K L S) T c.args.asked)))

pub returns-in-Err-clause-step : goal.returns-in-Err-clause-step
returns-in-Err-clause-step c first K e S who what = follow first K c.args.self.now S e (Worker c.args.worker) (AddfdPut c.args.asked (Err c.in-Err.error)) c.args.self.now who what tt (λ names n. refl)
