-- One part is put behind the other.
use Rattle.std.proofs.Common.{[], ◌∷◌, ◌++◌, ap, ◌∙◌, w32}
use Rattle.std.proofs.lemmas.Int.{to_z-of_z}
use Rattle.policy_classes.specs.Order.{descriptor_part, descriptor_rank, flags_part, free_part, plain_path, text_part}
use Rattle.policy_classes.proofs.Ranked.{part_put}
use Rattle.policy_classes.proofs.order.openat_ranks.Goals as goal

pub returns : goal.returns
returns c =
    part_put (free_part 5 ∷ text_part plain_path c.args.path.now ∷ descriptor_part c.args.dirfd ∷ []) (flags_part c.args.flags) _ _ (part_put (free_part 5 ∷ text_part plain_path c.args.path.now ∷ []) (descriptor_part c.args.dirfd) _ _ (part_put (free_part 5 ∷ []) (text_part plain_path c.args.path.now) _ _ (part_put ([]) (free_part 5) _ _ c.new-ranks.ensures.items c.in_ok-push.ensures.items) c.in_ok-push_text.ensures) (c.in_ok-push-2.ensures.items ∙ ap (λ n. c.push_text.new.ranks.items ++ n ∷ []) (c.descriptor_rank.ensures ∙ ap descriptor_rank (to_z-of_z w32 c.args.dirfd c.ranges.dirfd)))) c.in_ok-push-3.ensures.items
