use Rattle.std.proofs.Common.{refl, ◌∙◌}
use Rattle.listener.proofs.Stand.{stands-none}
use Rattle.listener.proofs.listener.Listener.new.Goals as goal

pub returns : goal.returns
returns c = stands-none c.args.first _ c.ranges.first.fits (λ names. c.new.ensures names _ ∙ rw c.in_ok-new.ensures refl)
