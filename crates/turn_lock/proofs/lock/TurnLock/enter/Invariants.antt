use Rattle.std.proofs.Common.{◌≡◌}
use Rattle.turn_lock.specs.Turns.{Waits}
use Rattle.turn_lock.proofs.lock.TurnLock.enter.Given as goal

abbrev pub invariant-loop : goal.invariant-loop
invariant-loop g l = (l.seat.table_id ≡ l.fn.seat.table_id) × Waits l.fn.seat.me l.mine l.seat.me
