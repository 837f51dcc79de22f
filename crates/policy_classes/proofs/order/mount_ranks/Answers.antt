-- One part is put behind the other.
use Rattle.std.proofs.Common.{[], ◌∷◌}
use Rattle.policy_classes.specs.Order.{flags_part, free_part, plain_path, plain_word, text_part}
use Rattle.policy_classes.proofs.Ranked.{part_put}
use Rattle.policy_classes.proofs.order.mount_ranks.Goals as goal

pub returns : goal.returns
returns c =
    part_put (free_part 3 ∷ text_part plain_path c.args.target.now ∷ text_part plain_word c.args.fstype.now ∷ text_part plain_word c.args.source.now ∷ text_part [] c.args.options.now ∷ []) (flags_part c.args.flags) _ _ (part_put (free_part 3 ∷ text_part plain_path c.args.target.now ∷ text_part plain_word c.args.fstype.now ∷ text_part plain_word c.args.source.now ∷ []) (text_part [] c.args.options.now) _ _ (part_put (free_part 3 ∷ text_part plain_path c.args.target.now ∷ text_part plain_word c.args.fstype.now ∷ []) (text_part plain_word c.args.source.now) _ _ (part_put (free_part 3 ∷ text_part plain_path c.args.target.now ∷ []) (text_part plain_word c.args.fstype.now) _ _ (part_put (free_part 3 ∷ []) (text_part plain_path c.args.target.now) _ _ (part_put ([]) (free_part 3) _ _ c.new-ranks.ensures.items c.in_ok-push.ensures.items) c.in_ok-push_text.ensures) c.in_ok-push_text-2.ensures) c.in_ok-push_text-3.ensures) c.in_ok-push_text-4.ensures) c.in_ok-push-2.ensures.items
