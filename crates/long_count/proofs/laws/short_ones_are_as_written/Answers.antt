use Rattle.long_count.proofs.Written.{as-written}
use Rattle.long_count.proofs.laws.short_ones_are_as_written.Goals as goal

pub returns : goal.returns
returns c = as-written
