use Rattle.std.proofs.Common.{◌≡◌, ◌≤◌, All, Some, length, vec_capacity}
use Rattle.crew.specs.Duties.{MayServe}
use Rattle.crew.proofs.duty.Crew.of_workers.Given as goal

abbrev pub invariant-loop-place : goal.invariant-loop-place
invariant-loop-place l = record {
  number : l.place ≡ length l.others.items;
  room : l.count ≤ vec_capacity l.others;
  may : All (λ d. MayServe (Some l.workers) d.worker) l.others.items;
}
