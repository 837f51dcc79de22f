use Rattle.std.proofs.Common.{◌≡◌, ◌++◌, length, take}
use Rattle.std.specs.List.{flat_map}
use Rattle.key_bytes.specs.Parts.{number_part}
use Rattle.listener.specs.Keys.{entry_part}
use Rattle.listener.proofs.order.Order.write_key.Given as goal

abbrev pub invariant-loop-place : goal.invariant-loop-place
invariant-loop-place l =
    l.key.items ≡ l.fn.key.items ++ number_part l.self.entered ++ number_part (length l.self.entries.items)
    ++ flat_map entry_part (take l.place l.self.entries.items)
