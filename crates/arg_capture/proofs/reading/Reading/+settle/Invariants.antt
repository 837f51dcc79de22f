-- A part less is left.
use Rattle.std.proofs.Common.{length}
use Rattle.arg_capture.proofs.reading.Reading.+settle.Given as goal

abbrev pub decreases-settle : goal.decreases-settle
decreases-settle l = length l.self.now.parts
