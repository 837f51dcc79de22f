use Rattle.std.proofs.Common.{◌≡◌, ◌+◌, ◌++◌, ◌∷◌, [], ◌∙◌, ap, ℕ}
use Rattle.std.proofs.lemmas.List.{length-append}
use Rattle.broker_machine.proofs.Remembering.{all_push}
use Rattle.turn_player.proofs.serving.idle_workers.Goals as goal

pub loop-preserved : goal.loop-preserved
loop-preserved c =
    let ws = c.loop.workers.items in
    let x = c.new.result in
    let e : c.push_reserved.new.self.items ≡ ws ++ x ∷ [] = c.push_reserved.ensures.items in
    record {
      filled = rw e (length-append ws (x ∷ []) ∙ ap (λ (n : ℕ). n + 1) c.loop.invariant.filled);
      room = rw c.push_reserved.ensures.capacity c.loop.invariant.room;
      idle = λ P. rw e (all_push P c.args.figures ws x (c.loop.invariant.idle P) (c.new.ensures.idle P) c.new.ensures.figures);
    }
