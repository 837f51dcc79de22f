use Rattle.std.proofs.Common.{List, length}
use Rattle.hist_model.specs.declared.event.Event.{Event}
use Rattle.explorer.specs.Telling.{TellsOf}
use Rattle.explorer.specs.Walking.{GoesThrough, walks_in}
use Rattle.explorer.proofs.PassByPass.{IsUnderWay}
use Rattle.explorer.proofs.passes.pass.Given as goal

abbrev pub invariant-walks : goal.invariant-walks
invariant-walks l = record {
  told : (L : List (List Event)) × TellsOf l.fn.policy l.fn.script L l.found;
  goes_on : GoesThrough l.fn.policy l.fn.script l.workers (walks_in l.fn.policy l.workers l.walker) l.walker;
  under_way : IsUnderWay l.fn.policy l.fn.script l.workers l.delays l.fn.found l.found l.walker;
}

abbrev pub decreases-walks : goal.decreases-walks
decreases-walks l = length (walks_in l.fn.policy l.workers l.walker)
