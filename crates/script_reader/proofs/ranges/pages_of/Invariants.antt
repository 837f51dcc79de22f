use Rattle.std.proofs.Common.{◌≡◌, ◌*◌, ◌≤◌, take}
use Rattle.hist_model.specs.Ranges.{pages_of}
use Rattle.script_reader.proofs.ranges.pages_of.Given as goal

abbrev pub invariant-loop-range : goal.invariant-loop-range
invariant-loop-range l = record {
  sum : l.pages ≡ pages_of (take l.range-index l.ranges);
  bound : l.pages ≤ 4294967296 * l.range-index;
}
