-- The numbers stand behind their words.
use Rattle.std.proofs.Common.{append_assoc}
use Rattle.policy_compare.proofs.lines.push_injection.Goals as goal

pub returns : goal.returns
returns c =
    let told = simp (c.in_ok-push-2.ensures, c.in_ok-push_number.ensures, c.from.ensures, c.in_ok-push.ensures, append_assoc) at c.push_place.ensures in
    simp append_assoc told
