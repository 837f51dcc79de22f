use Rattle.delay_bounded.specs.Explored.{walks_of}
use Rattle.explorer.proofs.Walkers.{begins, leads_on}
use Rattle.explorer.proofs.walker.Walker.begin.Goals as goal

pub returns : goal.returns
returns c = λ P W.
    leads_on P c.args.script W (walks_of P c.args.script W c.args.delays) _ (begins P c.args.script W c.args.delays c.in_ok-run.run' _ c.new.ensures.items (c.in_ok-run.ensures P))
