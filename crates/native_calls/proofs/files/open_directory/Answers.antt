use Rattle.std.proofs.Common.{rules}
use Rattle.native_calls.proofs.files.open_directory.Goals as goal

pub returns-in-Some-Node : goal.returns-in-Some-Node
returns-in-Some-Node c s T = rw (← c.get.ensures s T) (search rules)

pub returns-in_default : goal.returns-in_default
returns-in_default c s T = rw (← c.get.ensures s T) (search rules)

pub returns-in_default-2 : goal.returns-in_default-2
returns-in_default-2 c s T = rw (← c.get.ensures s T) (search rules)

pub returns-in_default-3 : goal.returns-in_default-3
returns-in_default-3 c s T = rw (← c.get.ensures s T) (search rules)
