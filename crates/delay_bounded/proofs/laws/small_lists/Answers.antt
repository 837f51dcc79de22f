use Rattle.delay_bounded.proofs.WorkedWalks.{with_one_delay, without_delays}
use Rattle.delay_bounded.proofs.laws.small_lists.Goals as goal

pub returns-clause-without_delays : goal.returns-clause-without_delays
returns-clause-without_delays c = without_delays

pub returns-clause-with_one_delay : goal.returns-clause-with_one_delay
returns-clause-with_one_delay c = with_one_delay
