-- There are as many buffers more as were added, and all are empty.
use Rattle.std.proofs.Common.{◌≡◌, ◌+◌, ◌≤◌, [], vec_len, vec_capacity}
use Rattle.std.specs.Prelude.{All}
use Rattle.arg_capture.proofs.buffers.add_spare.Given as goal

abbrev pub invariant-loop : goal.invariant-loop
invariant-loop l =
    All (λ v. (v.items ≡ []) × (4096 ≤ vec_capacity v)) l.spare.items
    × (vec_len l.fn.spare + l.counter ≤ vec_len l.spare)
