-- What holds of the requests that are kept: no worker has two, so there is always room for one more worker's.
-- By induction on the requests, and since a list of distinct numbers below 17 has at most 17 items.
use Rattle.std.proofs.Common.{◌≡◌, inl, inr, ℕ, ◌<◌, ◌≤◌, Bool, true, false, List, [], ◌∷◌, ◌++◌, length, refl, ◌∙◌, arith}
use Rattle.std.specs.Prelude.{◌==◌, map, nat_le, filter, Result}
use Rattle.std.specs.List.{list_any, IsDistinct, AllByRecursion}
use Rattle.std.proofs.lemmas.Bool.{cases_Bool, eqb-true, leb-true, le-leb, and_parts, and_from, or_parts, or_cases, ne_eqb, eqb-false}
use Rattle.std.proofs.lemmas.List.{length-map, length-append}
use Rattle.std.proofs.lemmas.List.Folds.{list_all-append}
use Rattle.std.proofs.lemmas.Map.Steps.{length-le_from_distinct_below}
use Rattle.listener.specs.declared.requests.Request.{Request}
use Rattle.listener.specs.Requests.{is_of, has_request, are_apart, are_workers, AreKept}
use Rattle.listener.specs.State.{told}
use Rattle.listener.proofs.Requesting.{apart-parts, apart-push, apart-filter, apart-told, workers-told}

abbrev workers : List Request → List ℕ
workers qs = map (λ (q : Request). q.worker) qs

differs : (w : ℕ) (qs : List Request) → has_request qs w ≡ false → AllByRecursion (λ v. (w == v) ≡ false) (workers qs)
differs w [] h = tt
differs w (q ∷ qs) h = let p = or_parts (is_of w q) (has_request qs w) h in let n = eqb-false q.worker w p.0 in (ne_eqb w q.worker (λ z. n (cc)), differs w qs p.1)

distinct : (qs : List Request) → are_apart qs ≡ true → IsDistinct (λ v w. v == w) (workers qs)
unfolding IsDistinct
distinct [] h = tt
distinct (q ∷ qs) h = let p = apart-parts q qs h in (differs q.worker qs p.0, distinct qs p.1)

bounded : (qs : List Request) (v : ℕ) → are_workers qs ≡ true → list_any (λ u. v == u) (workers qs) ≡ true → v < 17
bounded [] v h k = cc
bounded (q ∷ qs) v h k =
    let p = and_parts (nat_le q.worker 16) (are_workers qs) h in
    let b = leb-true q.worker 16 p.0 in
    elim (or_cases (v == q.worker) (list_any (λ u. v == u) (workers qs)) k) [
      | inl z ↦ let i = eqb-true v q.worker z in omega arith
      | inr z ↦ bounded qs v p.1 z
    ]

-- at most one request for each of the 17 workers
pub kept-few : (qs : List Request) → are_apart qs ≡ true → are_workers qs ≡ true → length qs ≤ 17
kept-few qs a w = omega (arith, length-map qs (λ (q : Request). q.worker), length-le_from_distinct_below (workers qs) 17 (distinct qs a) (λ v h. bounded qs v w h))

pub kept-push : (qs : List Request) (capacity : ℕ) (q : Request) → AreKept qs capacity → q.worker ≤ 16 → has_request qs q.worker ≡ false → AreKept (qs ++ q ∷ []) capacity
kept-push qs capacity q k l f = record {
  apart = apart-push qs q k.apart f;
  workers = list_all-append (λ (r : Request). nat_le r.worker 16) qs (q ∷ []) ∙ and_from (are_workers qs) (are_workers (q ∷ [])) k.workers (and_from (nat_le q.worker 16) true (le-leb q.worker 16 l) refl);
  room = k.room;
}

-- so one more worker's fits
pub kept-room : (qs : List Request) (capacity : ℕ) (q : Request) → AreKept qs capacity → q.worker ≤ 16 → has_request qs q.worker ≡ false → length qs < capacity
kept-room qs capacity q k l f =
    let p = kept-push qs capacity q k l f in
    omega (arith, k.room, kept-few (qs ++ q ∷ []) p.apart p.workers, length-append qs (q ∷ []))

workers-filter : (p : Request → Bool) (qs : List Request) → are_workers qs ≡ true → are_workers (filter p qs) ≡ true
workers-filter p [] h = refl
workers-filter p (q ∷ qs) h =
    let a = and_parts (nat_le q.worker 16) (are_workers qs) h in
    let t = workers-filter p qs a.1 in
    elim (cases_Bool (p q)) [ inl b ↦ rw b (and_from (nat_le q.worker 16) (are_workers (filter p qs)) a.0 t) | inr b ↦ rw b t ]

pub kept-told : (x : ℕ) (a : Result ℕ ℕ) (qs : List Request) (capacity : ℕ) → AreKept qs capacity → AreKept (told x a qs) capacity
kept-told x a qs capacity k = record { apart = apart-told x a qs ∙ k.apart; workers = workers-told x a qs ∙ k.workers; room = k.room }

pub kept-filter : (p : Request → Bool) (qs : List Request) (capacity : ℕ) → AreKept qs capacity → AreKept (filter p qs) capacity
kept-filter p qs capacity k = record { apart = apart-filter p qs k.apart; workers = workers-filter p qs k.workers; room = k.room }
