use Rattle.std.proofs.Common.{subst, sym}
use Rattle.task_groups.specs.Groups.{Holds}
use Rattle.model_kernel.specs.Stands.{IsOneOf, without}
use Rattle.model_kernel.proofs.listening.close.Goals as goal

pub returns-in-Some : goal.returns-in-Some
returns-in-Some c s T l =
    subst (λ g. Holds (record s { handles = without s.handles g }) c.closed.new.self) (sym c.in-Some.is) (c.closed.ensures s T (subst (IsOneOf s.handles) c.in-Some.is l))
