use Rattle.std.proofs.Common.{List, refl, ap, arith}
use Rattle.tasks.specs.Table.{Member, table_of}
use Rattle.tasks.proofs.Read.{put-same, same-task, room-at, room-put}
use Rattle.tasks.proofs.table.Tasks.reserve_entry.Goals as goal

pub returns-in_err-reserve-clause-same : goal.returns-in_err-reserve-clause-same
returns-in_err-reserve-clause-same c =
    let T = c.args.self.now in
    let r = c.index_mut-task.result.now in
    ap (λ (xs : List Member). record (table_of T) { tasks = xs }) (put-same T.tasks.items c.args.o r _ c.index_mut-task.ensures.value (same-task r _ _ c.reserve.ensures.items refl))

pub returns-in_err-reserve-2-clause-same : goal.returns-in_err-reserve-2-clause-same
returns-in_err-reserve-2-clause-same c =
    let T = c.args.self.now in
    let r = c.index_mut-task.result.now in
    ap (λ (xs : List Member). record (table_of T) { tasks = xs }) (put-same T.tasks.items c.args.o r _ c.index_mut-task.ensures.value (same-task r _ _ c.reserve.ensures.items c.reserve-2.ensures.items))

pub returns-in_err-reserve-2-clause-had_room : goal.returns-in_err-reserve-2-clause-had_room
returns-in_err-reserve-2-clause-had_room c h =
    let T = c.args.self.now in
    let x = room-at T.tasks.items c.args.o c.index_mut-task.result.now (omega (arith, c.requires, T.tasks.ok.0)) c.index_mut-task.ensures.value h in
    absurd (omega (arith, x.1, c.in_err-reserve-2.ensures.full))

pub returns-clause-room : goal.returns-clause-room
returns-clause-room c =
    let T = c.args.self.now in
    room-put T.tasks.items c.args.o _ (omega (arith, c.requires, T.tasks.ok.0)) (omega (arith, c.in_ok-reserve.ensures.ok), omega (arith, c.in_ok-reserve-2.ensures.ok))

pub returns-clause-same : goal.returns-clause-same
returns-clause-same c =
    let T = c.args.self.now in
    let r = c.index_mut-task.result.now in
    ap (λ (xs : List Member). record (table_of T) { tasks = xs }) (put-same T.tasks.items c.args.o r _ c.index_mut-task.ensures.value (same-task r _ _ c.reserve.ensures.items c.reserve-2.ensures.items))
