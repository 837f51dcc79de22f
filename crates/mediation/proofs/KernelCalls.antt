-- Calls: their ids, the request count, one answer for each, and the events before a place.
-- By induction on a history of the kernel, with the row of its newest step.
use Rattle.hist_model.specs.Steps.{IsOfKernel}
use Rattle.mediation.proofs.Common.{[], Actor, AnsweredOnce, answers_to, ap, arith, before, below_or_last, Bool, caller, CallIdsDiffer, calls, count, count_below, CountIs, Each, empty_recvs, eq-eqb, ev}
use Rattle.mediation.proofs.Common.{Event, event_at-here, event_at-older, false, fetched, fetches, id, IdsDiffer, if◌then◌else◌, inl, inr, is_call, is_install, is_task}
use Rattle.mediation.proofs.Common.{le-leb, left_unfetched, length, List, listed, lt-leb, named, None, not, Notif, notif, notifies, notify_id, Ok, oldest, oldest-some, oldest_unfetched, Option}
use Rattle.mediation.proofs.Common.{ReceivesFor, Recv, recv_answer, recvs, refl, settled, settles, Some, suc, sym, System, true, What, zero, ℕ, ◌%◌, ◌&&◌, ◌+◌, ◌<◌, ◌^◌, ◌||◌, ◌∙◌, ◌∷◌, ◌≡◌}
use Rattle.mediation.proofs.Common.{◌≤◌}
use Rattle.history_frames.proofs.Listed.{listed-below, listed-older, is_call-below, listed-is_call, fetched-new, named-is}
use Rattle.mediation.proofs.KernelRows.{KernelRow, by-kernel-steps, by-few-kernel-steps}
use Rattle.mediation.proofs.KernelTasks.{same-name, event_at-last, waits-here}

-- ---- two calls have different ids

-- the call's id counts from the first one
Numbered : System → List Event → ℕ → Type 0
Numbered S K c = (r : ℕ) × (r < calls K) × (id K c ≡ (S.firstid + r) % 2 ^ 64)

calls-le-length : (K : List Event) → calls K ≤ length K
unfolding calls
calls-le-length [] = omega arith
calls-le-length (e ∷ K) = let ih = calls-le-length K in grind arith

new-id : (S : System) (K : List Event) (a : Actor) (w : What) → KernelRow S K a w → notifies w ≡ true → notify_id w ≡ (S.firstid + calls K) % 2 ^ 64
new-id S K a w r h = grind arith

numbered : (S : System) (K : List Event) → IsOfKernel S K → (c : ℕ) → is_call K c ≡ true → Numbered S K c
unfolding Numbered calls
numbered S = by-kernel-steps S (λ K. (c : ℕ) → is_call K c ≡ true → Numbered S K c) (λ c h. absurd (omega (arith, is_call-below [] c h)))
    (λ K e history r ih c h. elim (below_or_last c (length K) (is_call-below (e ∷ K) c h)) [
      | inl l ↦ let t = ih c (rw event_at-older at h) in (t.0, omega (arith, t.1), rw event_at-older t.2)
      | inr q ↦ let n : notifies e.what ≡ true = rw event_at-here at (rw q at h) in (calls K, rw n (omega arith), rw (q, event_at-here) (new-id S K e.who e.what r n))
    ])

-- a new call's id is no older call's
new-differs : (S : System) (K : List Event) (e : Event) (c : ℕ) → KernelRow S K e.who e.what → IsOfKernel S K → length K < 2 ^ 64 → notifies e.what ≡ true
    → is_call K c ≡ true → id K c ≡ notify_id e.what → ⊥
unfolding Numbered
new-differs S K e c r history b n h q = grind (arith, new-id, numbered, calls-le-length)

two-ids : (e : Event) (K : List Event) → ((c : ℕ) → notifies e.what ≡ true → is_call K c ≡ true → id K c ≡ notify_id e.what → ⊥) → CallIdsDiffer K → CallIdsDiffer (e ∷ K)
two-ids e K new ih c d h g q = grind (arith, is_call-below (e ∷ K) c h, is_call-below (e ∷ K) d g, event_at-last, event_at-older)

pub call_ids : (S : System) (K : List Event) → IsOfKernel S K → length K < 2 ^ 64 → CallIdsDiffer K
call_ids S = by-few-kernel-steps S CallIdsDiffer (λ c d h. absurd (omega (arith, is_call-below [] c h))) (λ K e history b r ih. two-ids e K (λ c. new-differs S K e c r history b) ih)

pub ids_differ : (S : System) (K : List Event) → IsOfKernel S K → length K < 2 ^ 64 → IdsDiffer K
ids_differ S K history b c d h g q = call_ids S K history b c d (listed-is_call K c h) (listed-is_call K d g) q

-- ---- a call is answered at most once

-- an install belongs to the call in which its task waits, which is not settled
pub installs-open : (S : System) (K : List Event) (a : Actor) (w : What) (c : ℕ) → IsOfKernel S K → KernelRow S K a w → is_install w ≡ true
    → is_task a (caller K c) ≡ true → listed K c ≡ true → settled K c ≡ false
installs-open S K a w c history r h g l = grind (arith, same-name, waits-here)

pub settles-once : (S : System) (K : List Event) (e : Event) (c : ℕ) → IsOfKernel S K → KernelRow S K e.who e.what → settles K e c ≡ true → settled K c ≡ false
settles-once S K e c history r h = grind (arith, installs-open)

-- once more, where it was not before
pub once-more : (n : ℕ) (now before : Bool) → (now ≡ true → before ≡ false) → (n ≤ 1) × (before ≡ false → n ≡ 0) → (n + (if now then 1 else 0) ≤ 1) × ((now || before) ≡ false → n + (if now then 1 else 0) ≡ 0)
once-more n now before f ih = grind arith

pub answered_once : (S : System) (K : List Event) → IsOfKernel S K → AnsweredOnce K
unfolding answers_to settled
answered_once S K history c =
    let Once = λ (L : List Event). (answers_to L c ≤ 1) × (settled L c ≡ false → answers_to L c ≡ 0) in
    (by-kernel-steps S Once (omega arith, λ _. refl) (λ L e l r. once-more (answers_to L c) (settles L e c) (settled L c) (settles-once S L e c l r)) K history).0

-- ---- what the request count is

count_below-le : (p q : ℕ → Bool) (n : ℕ) → ((c : ℕ) → c < n → p c ≡ true → q c ≡ true) → count_below p n ≤ count_below q n
unfolding count_below
count_below-le p q zero h = omega arith
count_below-le p q (suc n) h = grind (arith, count_below-le p q n (λ c l. h c (omega arith)))

count_below-same : (p q : ℕ → Bool) (n : ℕ) → ((c : ℕ) → c < n → p c ≡ q c) → count_below p n ≡ count_below q n
count_below-same p q n h = omega (arith, count_below-le p q n (λ c l g. sym (h c l) ∙ g), count_below-le q p n (λ c l g. h c l ∙ g))

-- one place less
count_below-less : (p q : ℕ → Bool) (n d : ℕ) → d < n → p d ≡ true → q d ≡ false → ((c : ℕ) → c < n → (c ≡ d → ⊥) → p c ≡ q c) → count_below p n ≡ suc (count_below q n)
unfolding count_below
count_below-less p q zero d l s t h = absurd (omega arith)
count_below-less p q (suc n) d l s t h =
    elim (below_or_last d n l) [
      | inl m ↦
          let same : p n ≡ q n = h n (omega arith) (omega arith) in
          let ih = count_below-less p q n d m s t (λ c k. h c (omega arith)) in
          rw (same, ih) (omega arith)
      | inr m ↦ grind (arith, count_below-same)
    ]

-- two parts
count_below-parts : (p q r : ℕ → Bool) (n : ℕ) → ((c : ℕ) → (if p c then 1 else 0) ≡ (if q c then 1 else 0) + (if r c then 1 else 0)) → count_below p n ≡ count_below q n + count_below r n
unfolding count_below
count_below-parts p q r zero h = omega arith
count_below-parts p q r (suc n) h = let ih = count_below-parts p q r n h in let x = h n in omega arith

-- nothing passes
count_below-none : (p : ℕ → Bool) (n : ℕ) → oldest p n ≡ None → count_below p n ≡ 0
unfolding count_below oldest
count_below-none p zero h = refl
count_below-none p (suc n) h = let ih = count_below-none p n in grind arith

abbrev unfetched : List Event → ℕ → Bool
unfetched K c = is_call K c && not (fetched K c)

-- the calls that are not fetched, below the newest event
unfetched-step : (e : Event) (K : List Event) → count_below (unfetched (e ∷ K)) (length (e ∷ K)) ≡ count_below (unfetched (e ∷ K)) (length K) + (if notifies e.what then 1 else 0)
unfolding count_below
unfetched-step e K = rw (fetched-new e K, event_at-here e K) (grind arith)

fetch-one : (S : System) (K : List Event) (e : Event) (d : ℕ) → IsOfKernel S K → length K < 2 ^ 64 → e.what ≡ Recv (Ok (notif K d)) → listed K d ≡ true → fetched K d ≡ false
    → count_below (unfetched K) (length K) ≡ suc (count_below (unfetched (e ∷ K)) (length K))
unfolding fetched
fetch-one S K e d history b q l f =
    let c = listed-is_call K d l in
    count_below-less (unfetched K) (unfetched (e ∷ K)) (length K) d (listed-below K d l) (grind arith) (rw (q, eq-eqb (id K d) (id K d) refl, l) (grind arith)) others
  where
    others : (c : ℕ) → c < length K → (c ≡ d → ⊥) → unfetched K c ≡ unfetched (e ∷ K) c
    others c k n = grind (arith, event_at-older, ids_differ)

pub fetching : (K : List Event) (n : Notif) (o : Option ℕ) → oldest_unfetched K ≡ o → Ok n ≡ recv_answer K o → (d : ℕ) × (n ≡ notif K d) × (listed K d ≡ true) × (fetched K d ≡ false) × (o ≡ Some d)
unfolding oldest_unfetched
fetching K n o q h = grind (arith, oldest-some)

-- the id of what is fetched names the oldest call that nobody has fetched
pub named-fetched : (S : System) (K : List Event) (n : Notif) → IsOfKernel S K → length K < 2 ^ 64 → Ok n ≡ recv_answer K (oldest_unfetched K) → named K n.id ≡ oldest_unfetched K
named-fetched S K n history room h =
    let f = fetching K n (oldest_unfetched K) refl h in
    let x : n.id ≡ id K f.0 = ap (λ (m : Notif). m.id) f.1 in
    let d = ids_differ S K history room in
    ap (named K) x ∙ (named-is K (id K f.0) f.0 f.2 refl (λ c l q. d c f.0 l f.2 q) ∙ sym f.4)

-- a fetched call is not fetched again
pub refetch : (S : System) (K : List Event) (a : Actor) (what : What) (c : ℕ) → IsOfKernel S K → length K < 2 ^ 64 → KernelRow S K a what → fetched K c ≡ true
    → (fetches what (id K c) && listed K c) ≡ false
refetch S K a what c history room r f = grind (arith, fetching, ids_differ)

same-unfetched : (e : Event) (K : List Event) → ((c : ℕ) → fetches e.what (id K c) ≡ false) → count_below (unfetched (e ∷ K)) (length K) ≡ count_below (unfetched K) (length K)
unfolding fetched
same-unfetched e K h = count_below-same (unfetched (e ∷ K)) (unfetched K) (length K) (λ c l. rw (event_at-older e K c l, h c))

record Counted (K : List Event) : Type 0 where
  pub room : recvs K ≤ calls K
  pub sum : count K + empty_recvs K ≡ count_below (unfetched K) (length K)

counted-step : (S : System) (K : List Event) (a : Actor) (w : What) → IsOfKernel S K → length K < 2 ^ 64 → KernelRow S K a w → Counted K → Counted (ev a w ∷ K)
unfolding calls recvs empty_recvs
counted-step S K a w history b r ih = grind (arith, fetching, fetch-one, unfetched-step, same-unfetched)

counted : (S : System) (K : List Event) → IsOfKernel S K → length K < 2 ^ 64 → Counted K
unfolding calls recvs empty_recvs count_below
counted S = by-few-kernel-steps S Counted (record { room = omega arith; sum = refl }) (λ K e. counted-step S K e.who e.what)

-- the call left the list unfetched
abbrev left : List Event → ℕ → Bool
left K c = is_call K c && (not (listed K c) && not (fetched K c))

pub count_is : (S : System) (K : List Event) → IsOfKernel S K → length K < 2 ^ 64 → CountIs K
count_is S K history b = (counted S K history b).sum ∙ count_below-parts (unfetched K) (λ c. listed K c && not (fetched K c)) (left K) (length K) (λ c. grind (arith, listed-is_call))

-- ---- the receives that found nothing are for calls that left the list unfetched

left-later : (e : Event) (K : List Event) (c : ℕ) → c < length K → left K c ≡ true → left (e ∷ K) c ≡ true
unfolding fetched
left-later e K c l h = grind (arith, event_at-older, listed-older)

left-more : (e : Event) (K : List Event) → left_unfetched K ≤ left_unfetched (e ∷ K)
unfolding count_below
left-more e K = omega (arith, count_below-le (left K) (left (e ∷ K)) (length K) (left-later e K))

receives-step : (S : System) (K : List Event) (e : Event) → IsOfKernel S K → length K < 2 ^ 64 → KernelRow S K e.who e.what → empty_recvs K ≤ left_unfetched K → ReceivesFor K e
unfolding empty_recvs oldest_unfetched
receives-step S K e history room r ih = grind (arith, left-more, count_below-none, count_is)

pub receives-are-for : (S : System) (K : List Event) → IsOfKernel S K → length K < 2 ^ 64 → Each ReceivesFor K
unfolding empty_recvs count_below
receives-are-for S K history room =
    (by-few-kernel-steps S (λ L. Each ReceivesFor L × (empty_recvs L ≤ left_unfetched L)) (tt, omega arith) (λ L e l b r ih. let s = receives-step S L e l b r ih.1 in ((s, ih.0), s)) K history room).0

-- ---- the events before a place

-- from its length on, the whole list
pub before-all : (K : List Event) (c : ℕ) → length K ≤ c → before K c ≡ K
unfolding before
before-all [] c h = refl
before-all (e ∷ K) c h = rw (le-leb (length (e ∷ K)) c h)

pub before-older : (e : Event) (K : List Event) (c : ℕ) → c ≤ length K → before (e ∷ K) c ≡ before K c
unfolding before
before-older e K c h = let l : c < length (e ∷ K) = omega arith in rw (lt-leb (length (e ∷ K)) c l)

-- the events before the newest one
pub before-newest : (e : Event) (K : List Event) → before (e ∷ K) (length K) ≡ K
before-newest e K = rw (before-older e K (length K) (omega arith)) (before-all K (length K) (omega arith))

pub length-before : (K : List Event) (p : ℕ) → (length (before K p) ≤ length K) × (p ≤ length K → length (before K p) ≡ p)
unfolding before
length-before [] p = (omega arith, λ h. omega arith)
length-before (e ∷ K) p = let ih = length-before K p in grind arith

pub fetched-before : (K : List Event) (p c : ℕ) → fetched (before K p) c ≡ true → fetched K c ≡ true
unfolding before fetched
fetched-before [] p c h = h
fetched-before (e ∷ K) p c h = let ih = fetched-before K p c in grind arith
