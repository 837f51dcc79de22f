use Rattle.std.proofs.Common.{◌≡◌, ◌++◌, length, take}
use Rattle.std.specs.List.{flat_map}
use Rattle.key_bytes.specs.Parts.{number_part}
use Rattle.listener.specs.Keys.{request_part}
use Rattle.listener.proofs.keys.push_requests.Given as goal

abbrev pub invariant-loop-request : goal.invariant-loop-request
invariant-loop-request l = l.key.items ≡ l.fn.key.items ++ number_part (length l.requests) ++ flat_map request_part (take l.request-index l.requests)
