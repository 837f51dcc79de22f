use Rattle.std.proofs.Common.{refl, sym, ap, ◌∙◌}
use Rattle.hist_model.specs.Steps.{recv_answer}
use Rattle.model_kernel.proofs.Words.{Listener, living_in, past, system}
use Rattle.model_kernel.proofs.Opened.{received}
use Rattle.model_kernel.proofs.Received.{next-waits, no-receive, receive-step, told}
use Rattle.model_kernel.proofs.Workers.{heeded, noted, serves}
use Rattle.model_kernel.proofs.kernel.Kernel.receive.Goals as goal

pub returns-in-Ok-clause-done : goal.returns-in-Ok-clause-done
returns-in-Ok-clause-done c other =
    let old = c.args.self.now in
    let k = c.requires.kernel in
    let (some, next) = c.in-Ok.ensures.next old.script.firstid (past old) k.resources.listener in
    let is = c.notification-notif.ensures old.script (past old) next k.tasks (next-waits old c.in-Ok.call k next) in
    noted old _ c.note.new.self c.args.worker _ _ k refl (receive-step (system old) (past old) c.args.worker _ some (told (past old) c.in-Ok.call next _ is))
    (serves old c.args.worker _ _
    (received old.script (past old) (living_in old.tasks) old.resources k.resources c.args.worker c.notification-notif.result c.receive.new.self c.received.new.self c.requires.worker c.received.ensures
    (c.in-Ok.ensures.step old.script.firstid (past old) _ k.resources.listener (record { notif = c.notification-notif.result; is = refl; id_is = ap (λ n. n.id) is ∙ sym next.id_is }))))
    c.note.ensures.events c.note.ensures.same

pub returns-in-Ok-clause-next : goal.returns-in-Ok-clause-next
returns-in-Ok-clause-next c =
    let old = c.args.self.now in
    let k = c.requires.kernel in
    let next = (c.in-Ok.ensures.next old.script.firstid (past old) k.resources.listener).1 in
    told (past old) c.in-Ok.call next _ (c.notification-notif.ensures old.script (past old) next k.tasks (next-waits old c.in-Ok.call k next))

pub returns-in-Ok-clause-counted : goal.returns-in-Ok-clause-counted
returns-in-Ok-clause-counted c other = (c.in-Ok.ensures.next c.args.self.now.script.firstid (past c.args.self.now) c.requires.kernel.resources.listener).0

pub returns-in-Err-Gone-clause-done : goal.returns-in-Err-Gone-clause-done
returns-in-Err-Gone-clause-done c other =
    let old = c.args.self.now in
    let L = c.requires.kernel.resources.listener in
    let gone = rw c.in-Err-Gone.field-0-is at c.in-Err-Gone.ensures in
    let (some, none) = gone.gone refl old.script.firstid (past old) L in
    noted old _ c.note-in-Err-Gone.new.self c.args.worker _ _ c.requires.kernel refl (receive-step (system old) (past old) c.args.worker _ some (ap (recv_answer (past old)) none))
    (heeded old c.args.worker _ c.receive.new.self c.requires.kernel refl (gone.gone_step refl old.script.firstid (past old) _ L refl)) c.note-in-Err-Gone.ensures.events c.note-in-Err-Gone.ensures.same

pub returns-in-Err-Gone-clause-gone : goal.returns-in-Err-Gone-clause-gone
returns-in-Err-Gone-clause-gone c is =
    let gone = rw c.in-Err-Gone.field-0-is at c.in-Err-Gone.ensures in
    (gone.gone refl c.args.self.now.script.firstid (past c.args.self.now) c.requires.kernel.resources.listener).1

pub returns-in-Err-Gone-clause-counted : goal.returns-in-Err-Gone-clause-counted
returns-in-Err-Gone-clause-counted c other =
    let gone = rw c.in-Err-Gone.field-0-is at c.in-Err-Gone.ensures in
    (gone.gone refl c.args.self.now.script.firstid (past c.args.self.now) c.requires.kernel.resources.listener).0

pub returns-in-Err-Empty-clause-none : goal.returns-in-Err-Empty-clause-none
returns-in-Err-Empty-clause-none c is =
    let empty = rw c.in-Err-Empty.field-0-is at c.in-Err-Empty.ensures in
    empty.empty refl c.args.self.now.script.firstid (past c.args.self.now) c.requires.kernel.resources.listener

pub returns-in-Err-Empty-clause-empty : goal.returns-in-Err-Empty-clause-empty
returns-in-Err-Empty-clause-empty c is = no-receive (system c.args.self.now) (past c.args.self.now) c.args.worker (returns-in-Err-Empty-clause-none c is)

pub returns-in-Err-Empty-clause-same : goal.returns-in-Err-Empty-clause-same
returns-in-Err-Empty-clause-same c is =
    let k = c.args.self.now in
    let empty = rw c.in-Err-Empty.field-0-is at c.in-Err-Empty.ensures in
    ap (λ (L : Listener). record k { resources = record k.resources { listener = L } }) (empty.same refl)
