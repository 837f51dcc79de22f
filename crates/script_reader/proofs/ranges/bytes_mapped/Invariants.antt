use Rattle.std.proofs.Common.{◌≡◌, ◌*◌, ◌≤◌, take}
use Rattle.hist_model.specs.Ranges.{bytes_mapped}
use Rattle.script_reader.proofs.ranges.bytes_mapped.Given as goal

abbrev pub invariant-loop-range : goal.invariant-loop-range
invariant-loop-range l = record {
  sum : l.bytes ≡ bytes_mapped (take l.range-index l.ranges) l.from l.to;
  bound : l.bytes ≤ 9223372036854775808 * l.range-index;
}
