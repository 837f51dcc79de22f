-- Each condition has its own text.
use Rattle.policy_explain.proofs.words.push_unmet.Goals as goal

pub returns-in-Flags : goal.returns-in-Flags
returns-in-Flags c =
    let told = rw (c.items-in-Flags.ensures, c.items-in-Flags-2.ensures) at c.push_unmet_flags.ensures in
    rw c.in-Flags.is told

pub returns-in-ShortDevice : goal.returns-in-ShortDevice
returns-in-ShortDevice c = rw c.in-ShortDevice.is c.push.ensures

pub returns-in-PlainFlags : goal.returns-in-PlainFlags
returns-in-PlainFlags c = rw c.in-PlainFlags.is c.push-in-PlainFlags.ensures
