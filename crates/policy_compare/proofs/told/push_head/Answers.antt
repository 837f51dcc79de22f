-- The numbers and the word stand behind what there was.
use Rattle.std.proofs.Common.{◌≡◌, ℕ, List, ◌++◌, append_assoc, ap, ◌∙◌}
use Rattle.std.specs.Prelude.{codes}
use Rattle.policy_compare.specs.Lines.{end_text, head_text, sum_text}
use Rattle.policy_compare.proofs.told.push_head.Goals as goal

joined : (line a b e x y z : List ℕ) → x ≡ line ++ a → y ≡ x ++ b → z ≡ y ++ e → z ≡ line ++ (a ++ b ++ e)
joined line a b e x y z p q r = r ∙ ap (λ l. l ++ e) (q ∙ ap (λ l. l ++ b) p) ∙ simp append_assoc

pub returns : goal.returns
unfolding head_text
returns c =
    joined c.args.line.now (sum_text (codes "differ classes=") c.args.changes) (sum_text (codes " counts=") c.args.counts) (end_text c.args.whole) _ _ _
    c.in_ok-push_sum.ensures c.in_ok-push_sum-2.ensures c.in_ok-push_end.ensures
