-- A comma stands before each name but the first.
use Rattle.std.proofs.Common.{[], append_assoc}
use Rattle.policy_explain.proofs.FlagNames.{names_joined, rest_whole}
use Rattle.policy_explain.proofs.flags.push_names.Goals as goal

pub returns-in_ok-push-in-len1-up : goal.returns-in_ok-push-in-len1-up
returns-in_ok-push-in-len1-up c =
    let told = rw (c.in_ok-push-in-len1-up.ensures, rest_whole c.args.names.now, append_assoc) at c.push_behind_commas.ensures in
    rw (names_joined c.args.names.now (record { ref_ptr = (0, 0); now = [] }) c.in-len1-up.len_at_least) told
