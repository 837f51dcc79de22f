-- The texts so far are copied.
use Rattle.std.proofs.Common.{◌≡◌, take}
use Rattle.broker_judge.proofs.called.copied_texts.Given as goal

abbrev pub invariant-loop-text : goal.invariant-loop-text
invariant-loop-text l = l.copied.items ≡ take l.text-index l.texts
