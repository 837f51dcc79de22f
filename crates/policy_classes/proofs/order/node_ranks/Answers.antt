-- One part is put behind the other.
use Rattle.std.proofs.Common.{[], ◌∷◌}
use Rattle.policy_classes.specs.Order.{free_part, number_part, plain_path, text_part}
use Rattle.policy_classes.proofs.Ranked.{part_put}
use Rattle.policy_classes.proofs.order.node_ranks.Goals as goal

pub returns : goal.returns
returns c =
    part_put (free_part c.args.call ∷ text_part plain_path c.args.path.now ∷ number_part c.args.mode ∷ []) (number_part c.args.dev) _ _ (part_put (free_part c.args.call ∷ text_part plain_path c.args.path.now ∷ []) (number_part c.args.mode) _ _ (part_put (free_part c.args.call ∷ []) (text_part plain_path c.args.path.now) _ _ (part_put ([]) (free_part c.args.call) _ _ c.new-ranks.ensures.items c.in_ok-push.ensures.items) c.in_ok-push_text.ensures) c.in_ok-push-2.ensures.items) c.in_ok-push-3.ensures.items
