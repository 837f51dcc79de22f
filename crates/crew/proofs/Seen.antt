-- What passes have seen, as a loop over them replaces one after another.
-- By induction on the lists, and by what a join of two passes says of the history that both have seen.
use Rattle.std.proofs.Common.{◌≡◌, ℕ, suc, zero, ◌+◌, ◌<◌, Bool, true, false, List, [], ◌∷◌, length, get_or, set, map, take, All, arith, ap, sym, subst, ◌∙◌}
use Rattle.std.specs.Prelude.{cond, ltb}
use Rattle.std.proofs.Math.Seq.{map-set_same}
use Rattle.std.proofs.lemmas.List.{take_more_set}
use Rattle.std.proofs.lemmas.List.Elements.{All-push}
use Rattle.hist_model.specs.declared.event.Event.{Event}
use Rattle.turn_lock.specs.Facts.{Joined, PassFacts}
use Rattle.turn_lock.specs.Lists.{Begins, longer, shorter}
use Rattle.turn_lock.proofs.Lists.{begins_self, begins_trans}
use Rattle.crew.specs.Locks.{BeginEach, HaveSeen, seen_of}

-- ---- Histories, one by one

pub each-self : (hs : List (List Event)) → BeginEach hs hs
each-self [] = tt
each-self (h ∷ hs) = (begins_self h, each-self hs)

pub each-trans : (hs ks ls : List (List Event)) → BeginEach hs ks → BeginEach ks ls → BeginEach hs ls
each-trans [] [] ls a b = b
each-trans [] (k ∷ ks) ls a b = absurd a
each-trans (h ∷ hs) [] ls a b = absurd a
each-trans (h ∷ hs) (k ∷ ks) [] a b = absurd b
each-trans (h ∷ hs) (k ∷ ks) (l ∷ ls) a b = (begins_trans h k l a.0 b.0, each-trans hs ks ls a.1 b.1)

-- ---- What passes have seen

-- those that have seen the same
pub same-seen : (ps qs : List PassFacts) → map seen_of ps ≡ map seen_of qs → HaveSeen ps qs
same-seen ps qs e = subst (λ (hs : List (List Event)). BeginEach hs (map seen_of qs)) (sym e) (each-self (map seen_of qs))

-- one is replaced by another that has seen the same, or more
pub seen-still : (ps : List PassFacts) (i : ℕ) (p q : PassFacts) → p ≡ get_or ps i p → q.seen ≡ p.seen → map seen_of (set ps i q) ≡ map seen_of ps
seen-still ps i p q here e = map-set_same seen_of ps i q p (e ∙ ap seen_of here)

pub seen-more : (ps : List PassFacts) (hs : List (List Event)) (i : ℕ) (p q : PassFacts) → i < length ps → p ≡ get_or ps i p → Begins q.seen p.seen → BeginEach (map seen_of ps) hs → BeginEach (map seen_of (set ps i q)) hs
seen-more [] hs i p q lt here b h = absurd (omega arith)
seen-more (x ∷ ps) [] i p q lt here b h = absurd h
seen-more (x ∷ ps) (k ∷ hs) zero p q lt here b h = (begins_trans q.seen x.seen k (subst (λ (r : PassFacts). Begins q.seen r.seen) here b) h.0, h.1)
seen-more (x ∷ ps) (k ∷ hs) (suc i) p q lt here b h = (h.0, seen-more ps hs i p q (omega arith) here b h.1)

longer-begins : (a b : List Event) → Begins (longer a b) (shorter a b) → Begins (longer a b) a
longer-begins a b h = by (ltb (length a) (length b)) h
  where
    by : (c : Bool) → Begins (cond c b a) (cond c a b) → Begins (cond c b a) a
    by true h = h
    by false h = begins_self a

-- what a pass has seen after a join begins with what it had seen
pub joined-begins : (p q r : PassFacts) → Joined p q r → Begins r.seen p.seen
joined-begins p q r j = rw j.0 (longer-begins p.seen q.seen j.1)

-- ---- What is said of the passes so far

pub so-far : (P : PassFacts → Type 0) (ps : List PassFacts) (i : ℕ) (q : PassFacts) → i < length ps → P q → All P (take i ps) → All P (take (i + 1) (set ps i q))
so-far P ps i q lt is h = subst (All P) (sym (take_more_set ps i q lt)) (All-push P (take i ps) q h is)
