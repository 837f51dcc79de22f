use Rattle.std.proofs.Common.{◌<◌, List, [], ◌∷◌, length, arith}
use Rattle.hist_model.specs.Legal.{rules_of}
use Rattle.hist_model.specs.declared.event.Event.{Event}
use Rattle.mediation.specs.Scheduled.{IsUnclosed}
use Rattle.delay_bounded.proofs.Finishing.{finished}
use Rattle.delay_bounded.proofs.MadeNames.{made_named}
use Rattle.delay_bounded.proofs.laws.ends_finished.Goals as goal

some : (K : List Event) → IsUnclosed K → 0 < length K
some [] u = absurd u
some (e ∷ K) u = omega arith

pub returns : goal.returns
returns c = λ P S W K rules few k over. finished P S W K k.goes_on.legal few k.within (made_named S (rules_of P S.figures) rules K k.goes_on.legal) over (some K k.goes_on.unclosed)
