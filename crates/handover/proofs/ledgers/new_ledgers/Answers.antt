-- Each new ledger is that of the worker of its place.
use Rattle.std.proofs.Common.{◌≡◌, ◌+◌, ◌++◌, ◌∷◌, [], ◌∙◌, ap, sym, ℕ}
use Rattle.std.proofs.lemmas.List.{length-append}
use Rattle.handover.proofs.Kept.{all_push, keeps_nothing}
use Rattle.handover.proofs.ledgers.new_ledgers.Goals as goal

pub loop-number-preserved : goal.loop-number-preserved
loop-number-preserved c =
    let ls = c.loop-number.ledgers.items in
    let x = c.new.result in
    let e : c.push.new.self.items ≡ ls ++ x ∷ [] = c.in_ok-push.ensures.items in
    record {
      filled = rw e (length-append ls (x ∷ []) ∙ ap (λ (n : ℕ). n + 1) c.loop-number.invariant.filled);
      idle = rw e (all_push ls x c.loop-number.invariant.idle (keeps_nothing _ x (c.new.ensures.no ∙ sym c.loop-number.invariant.filled) c.new.ensures.count c.new.ensures.own));
    }
