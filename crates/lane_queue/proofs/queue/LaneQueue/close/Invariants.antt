use Rattle.std.proofs.Common.{◌≡◌, ◌++◌, Some}
use Rattle.crossbeam_queue.specs.Passes.{view, IsPassOf}
use Rattle.lane_queue.proofs.queue.LaneQueue.close.Given as goal

abbrev pub invariant-loop : goal.invariant-loop
invariant-loop g l = record {
  own : IsPassOf l.self-inside.line l.pass;
  put : (view l.pass).put ≡ Some l.fn.put.items;
  taken : (view l.pass).taken ≡ Some (l.fn.take.items ++ l.left.items);
}
