use Rattle.std.proofs.Common.{◌≡◌, length, true, false, not, refl, sym, ap, ◌∙◌}
use Rattle.hist_model.specs.Memory.{all_mapped}
use Rattle.task_groups.specs.Groups.{HasRoomFor, IsLive}
use Rattle.task_groups.proofs.Events.{pokes}
use Rattle.task_groups.proofs.Stand.{live-held}
use Rattle.model_kernel.proofs.Words.{groups_after, living_in, memories_in, named, past, Poke, respects, step_by}
use Rattle.model_kernel.proofs.TaskSteps.{acted, counts, listener-other, same-counts}
use Rattle.model_kernel.proofs.kernel.Kernel.store.Goals as goal

pub store-requires-clause-row : goal.store-requires-clause-row
store-requires-clause-row c =
    let live : IsLive c.args.self.now.resources.groups c.group-group.result = rw c.group-group.ensures.at (counts c.args.self.now c.args.task c.requires.ready) in
    (live.row, live.at)

pub store-requires-clause-room : goal.store-requires-clause-room
store-requires-clause-room c =
    let room : HasRoomFor c.args.self.now.resources.groups c.group-group.result (length c.items.result.now) = rw (c.group-group.ensures.at, c.items.ensures) c.requires.room in
    record { len = room.len; fits = room.fits; room = room.room.pages }

apart : true ≡ false → ⊥
apart q = cc

pub unreachable-requires : goal.unreachable-requires
unreachable-requires c =
    let k = c.args.self.now in
    let fault = c.in_default.ensures.fault (groups_after k (past k)) c.requires.ready.kernel.resources.groups in
    apart (fault ∙ ap not (ap (λ b. all_mapped k.script.map c.args.addr (length b)) c.items.ensures ∙ c.requires.mapped))

pub returns : goal.returns
returns c =
    let k = c.args.self.now in
    let m = c.requires.ready in
    let o = c.args.task in
    let w = Poke c.args.addr c.args.bytes in
    let e = step_by k o w in
    let s = groups_after k (past k) in
    let (g, at, own_is) = c.group-group.ensures.group k.script (past k) m.kernel.tasks m.made in
    acted k o w c.stepped.new.self m c.requires.due _ c.store.new.self _ refl refl refl (λ own. c.stepped.ensures.stands k.script (past k) e m.kernel.tasks own refl refl)
    (same-counts k.tasks c.stepped.new.self o w refl c.stepped.ensures.count)
    (respects _ _ _
    (pokes k.script (past k) e (living_in k.tasks) (memories_in k.resources.workers) c.group-group.result c.args.addr c.items.result.now (record { name = named k o; who = refl; what = ap (Poke c.args.addr) (sym c.items.ensures); group = g; own = own_is; at = at }))
    (c.in-Ok.ensures.step s m.kernel.resources.groups (live-held s k.resources.groups m.kernel.resources.groups c.group-group.result (rw c.group-group.ensures.at (counts k o m)))))
    (listener-other k o w m.kernel tt)
