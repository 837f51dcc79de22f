use Rattle.std.proofs.Common.{◌≡◌, ◌+◌, ◌-◌, ◌≤◌, true, length, take, drop}
use Rattle.io_edge.specs.FileState.{SameFiles}
use Rattle.io_edge.proofs.whole.read_rest.Given as goal

abbrev pub invariant-pieces : goal.invariant-pieces
invariant-pieces g l = let old = g.F.Files.state l.initial.files in let now = g.F.Files.state l.files in record {
  same : SameFiles old now;
  current : now.current ≡ old.current;
  given : now.given ≡ l.total;
  bound : l.total ≤ l.limit + 1;
  counted : l.total ≤ l.limit → length l.into.items ≡ l.total;
  enough : old.tells ≡ true → l.total ≤ length old.left;
  left : old.tells ≡ true → now.left ≡ drop l.total old.left;
  taken : old.tells ≡ true → l.total ≤ l.limit → l.into.items ≡ take l.total old.left;
}

abbrev pub decreases-pieces : goal.decreases-pieces
decreases-pieces g l = l.limit + 1 - l.total
