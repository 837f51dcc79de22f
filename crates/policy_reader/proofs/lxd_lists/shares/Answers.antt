-- The names that are held are those of the first list.
use Rattle.std.proofs.Common.{ap, ◌∙◌, ◌&&◌}
use Rattle.hist_model.specs.RuleParts.{has_named, is_filled}
use Rattle.policy_reader.proofs.LxdLists.{any_same}
use Rattle.policy_reader.specs.NameSets.{holds}
use Rattle.policy_reader.proofs.lxd_lists.shares.Goals as goal

pub returns : goal.returns
returns c =
    c.is_one_held.ensures
    ∙ any_same (λ pair. is_filled pair.1 && holds c.in_ok-names.names pair.0) (λ pair. is_filled pair.1 && has_named (λ name. name) c.args.allowed.now pair.0) c.args.pairs.now
    (λ pair. ap (λ held. is_filled pair.1 && held) (c.in_ok-names.ensures pair.0))
