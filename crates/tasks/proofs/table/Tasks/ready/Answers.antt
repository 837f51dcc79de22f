use Rattle.std.proofs.Common.{length, ap, arith, rules}
use Rattle.tasks.specs.Stands.{name_in}
use Rattle.tasks.specs.Table.{member}
use Rattle.tasks.proofs.Counted.{counted-room}
use Rattle.tasks.proofs.Read.{within-task}
use Rattle.tasks.proofs.table.Tasks.ready.Goals as goal

pub returns-in_err-reserve-clause-count : goal.returns-in_err-reserve-clause-count
returns-in_err-reserve-clause-count c g = counted-room c.args.self.now _ g (search rules)

pub returns-in_err-reserve-2-clause-count : goal.returns-in_err-reserve-2-clause-count
returns-in_err-reserve-2-clause-count c g = counted-room c.args.self.now _ g (search rules)

pub returns-in_err-reserve-3-clause-count : goal.returns-in_err-reserve-3-clause-count
returns-in_err-reserve-3-clause-count c g = counted-room c.args.self.now _ g (search rules)

pub returns-in_err-reserve-3-clause-had_room : goal.returns-in_err-reserve-3-clause-had_room
returns-in_err-reserve-3-clause-had_room c h = absurd (omega (arith, h.name, c.in_err-reserve-3.ensures.full, ap (λ x. length (name_in x)) c.in-Some.ensures.some, ap length c.items-len.ensures))

pub reserve_entry-requires : goal.reserve_entry-requires
reserve_entry-requires c =
    let T = c.args.self.now in
    omega (arith, within-task T.tasks.items c.args.o (member c.in-Some.task.now) c.in-Some.ensures.some, T.tasks.ok.0, c.reserve.ensures.len)

pub returns-clause-count : goal.returns-clause-count
returns-clause-count c g = counted-room c.args.self.now c.reserve_entry.new.self g (search rules)
