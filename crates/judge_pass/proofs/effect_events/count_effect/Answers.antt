use Rattle.std.proofs.Common.{◌+◌, refl}
use Rattle.judge_pass.proofs.EffectEvents.{counted-effect}
use Rattle.judge_pass.proofs.effect_events.count_effect.Goals as goal

pub returns-then-is_answering : goal.returns-then-is_answering
returns-then-is_answering c K e q h = counted-effect e K c.args.counts.now (c.args.counts.now.answers + 1) h (rw q c.requires.kind) (rw (q, ← c.if-is_answering.ensures) refl)

pub returns-else-is_answering : goal.returns-else-is_answering
returns-else-is_answering c K e q h = counted-effect e K c.args.counts.now c.args.counts.now.answers h (rw q c.requires.kind) (rw (q, ← c.if-is_answering.ensures) refl)
