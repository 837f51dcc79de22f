-- The descriptor's part is put behind those of the node.
use Rattle.std.proofs.Common.{[], ◌∷◌, ◌++◌, ap, ◌∙◌, w32}
use Rattle.std.proofs.lemmas.Int.{to_z-of_z}
use Rattle.policy_classes.specs.Order.{descriptor_part, descriptor_rank, free_part, number_part, plain_path, text_part}
use Rattle.policy_classes.proofs.Ranked.{part_put}
use Rattle.policy_classes.proofs.order.node_at_ranks.Goals as goal

pub returns : goal.returns
returns c =
    part_put (free_part 6 ∷ text_part plain_path c.args.path.now ∷ number_part c.args.mode ∷ number_part c.args.dev ∷ []) (descriptor_part c.args.dirfd) _ _
    c.in_ok-ranks.ensures
    (c.in_ok-push.ensures.items ∙ ap (λ n. c.in_ok-ranks.ranks.items ++ n ∷ []) (c.descriptor_rank.ensures ∙ ap descriptor_rank (to_z-of_z w32 c.args.dirfd c.ranges.dirfd)))
