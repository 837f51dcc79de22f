-- What is in hand after a take is what was taken last.
-- By induction on what was taken.
use Rattle.std.proofs.Common.{◌≡◌, List, [], ◌∷◌, ◌++◌, Option, Some, None, refl, ap, ◌∙◌}
use Rattle.std.specs.List.{last_or}
use Rattle.std.specs.Prelude.{MatchOption}
use Rattle.lane_queue.specs.Passes.{PassFacts, with_items}
use Rattle.lane_queue.specs.declared.queue.Handoff.{Handoff}

last-pushed : (o : Option Handoff) (xs : List Handoff) (x : Handoff) → last_or o (xs ++ x ∷ []) ≡ Some x
last-pushed o [] x = refl
last-pushed o (y ∷ xs) x = last-pushed (Some y) xs x

pub newest-taken : (p q : PassFacts) (r : Option Handoff) → MatchOption r (q ≡ p) (λ item. q ≡ with_items p (p.items ++ item ∷ [])) → (x : Handoff) → r ≡ Some x → last_or None q.items ≡ Some x
newest-taken p q None told x is = absurd cc
newest-taken p q (Some y) told x is = ap (λ (f : PassFacts). last_or None f.items) told ∙ (last-pushed None p.items y ∙ is)
