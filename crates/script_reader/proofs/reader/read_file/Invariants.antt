-- What is read so far keeps the rules, and what the lines that are left come to after it.
use Rattle.std.proofs.Common.{◌≡◌, length}
use Rattle.lex_core.specs.Lines.{lines_after}
use Rattle.script_reader.specs.Above.{nothing_above}
use Rattle.script_reader.specs.Outcomes.{reading_from}
use Rattle.script_reader.specs.Rules.{IsKept}
use Rattle.script_reader.specs.Views.{above_in}
use Rattle.script_reader.proofs.reader.read_file.Given as goal

abbrev pub invariant-loop-builder : goal.invariant-loop-builder
invariant-loop-builder l = record {
  read : reading_from l.lines (above_in l.builder) ≡ reading_from (lines_after 0 l.fn.bytes) nothing_above;
  kept : IsKept (above_in l.builder);
}

abbrev pub decreases-loop-builder : goal.decreases-loop-builder
decreases-loop-builder l = length l.lines
