-- One part is put behind the other.
use Rattle.std.proofs.Common.{[], ◌∷◌}
use Rattle.policy_classes.specs.Order.{flags_part, free_part, plain_path, plain_word, text_part}
use Rattle.policy_classes.proofs.Ranked.{part_put}
use Rattle.policy_classes.proofs.order.setxattr_ranks.Goals as goal

pub returns : goal.returns
returns c =
    part_put (free_part 4 ∷ text_part plain_path c.args.path.now ∷ text_part plain_word c.args.name.now ∷ text_part [] c.args.value.now ∷ []) (flags_part c.args.flags) _ _ (part_put (free_part 4 ∷ text_part plain_path c.args.path.now ∷ text_part plain_word c.args.name.now ∷ []) (text_part [] c.args.value.now) _ _ (part_put (free_part 4 ∷ text_part plain_path c.args.path.now ∷ []) (text_part plain_word c.args.name.now) _ _ (part_put (free_part 4 ∷ []) (text_part plain_path c.args.path.now) _ _ (part_put ([]) (free_part 4) _ _ c.new-ranks.ensures.items c.in_ok-push.ensures.items) c.in_ok-push_text.ensures) c.in_ok-push_text-2.ensures) c.in_ok-push_text-3.ensures) c.in_ok-push-2.ensures.items
