use Rattle.std.proofs.Common.{◌≡◌, take}
use Rattle.explorer.proofs.frames.copied.Given as goal

abbrev pub invariant-loop-frame : goal.invariant-loop-frame
invariant-loop-frame l = l.copy.items ≡ take l.frame-index l.frames
