-- The frame law: a step of a kind that a definition doesn't look at leaves what it says.
-- By the one event that each definition looks at first.
use Rattle.mediation.proofs.Common.{[], answered, arith, base, Bool, calls, changes_answered, changes_list, changes_tasks, ended, eq-eqb, Event, event_at-here, event_at-older, false, fetched, Frame}
use Rattle.mediation.proofs.Common.{free_from, given, holder, holds, inl, inr, last_pid, length, List, listed, Name, name_of, named, newest, next_pid, None, oldest, oldest-same, or_left, or_right}
use Rattle.mediation.proofs.Common.{queue, reaped, recvs, refl, session, settled, some_sends, suc, true, was_waited_for, zero, ℕ, ◌+◌, ◌-◌, ◌<◌, ◌==◌, ◌∷◌, ◌≡◌}
use Rattle.history_frames.proofs.Listed.{listed-below, listed-here}
use Rattle.mediation.proofs.Replies.{has, queue-has}

newest-same : (p q : ℕ → Bool) (n : ℕ) → ((c : ℕ) → c < n → p c ≡ q c) → newest p n ≡ newest q n
unfolding newest
newest-same p q zero h = refl
newest-same p q (suc n) h = rw (newest-same p q n (λ c l. h c (omega arith)), h n (omega arith))

-- the requests of a queue stand below
queue-below : (K : List Event) (c r : ℕ) → has (queue K c) r ≡ true → r < length K
queue-below [] c r h = absurd (unfold queue in cc)
queue-below (e ∷ K) c r h = elim (queue-has e K c r h) [ inl q ↦ omega (arith, queue-below K c r q) | inr q ↦ omega (arith, q.1) ]

sends-frame : (e : Event) (K : List Event) (rs : List ℕ) → ((r : ℕ) → has rs r ≡ true → r < length K) → some_sends (e ∷ K) rs ≡ some_sends K rs
sends-frame e K [] h = refl
sends-frame e K (r ∷ rs) h = rw (event_at-older e K r (h r (or_left (r == r) (has rs r) (eq-eqb r r refl))), sends-frame e K rs (λ q g. h q (or_right (r == q) (has rs q) g)))

module _ (e : Event) (K : List Event) where
  ended-frame : (n : Name) → changes_tasks e.what ≡ false → ended (e ∷ K) n ≡ ended K n
  unfolding ended
  ended-frame n h = grind arith

  reaped-frame : (n : Name) → changes_tasks e.what ≡ false → reaped (e ∷ K) n ≡ reaped K n
  unfolding reaped was_waited_for
  reaped-frame n h = grind (arith, ended-frame)

  holder-frame : (p : ℕ) → changes_tasks e.what ≡ false → holder (e ∷ K) p ≡ holder K p
  unfolding holder newest
  holder-frame p h =
      let same = newest-same (holds (e ∷ K) p) (holds K p) (length K) (λ c l. rw (event_at-older e K c l, reaped-frame (name_of K c) h)) in
      let here : holds (e ∷ K) p (length K) ≡ false = rw event_at-here (grind arith) in
      rw here same

  free-frame : (n p : ℕ) → changes_tasks e.what ≡ false → free_from (e ∷ K) n p ≡ free_from K n p
  unfolding free_from
  free-frame zero p h = refl
  free-frame (suc n) p h = rw (holder-frame p h, free-frame n (p + 1) h)

  next-frame : (base m : ℕ) → changes_tasks e.what ≡ false → next_pid base m (e ∷ K) ≡ next_pid base m K
  unfolding next_pid last_pid
  next-frame base m h = let g : given e.what ≡ None = grind arith in rw (g, free-frame (base + m - last_pid base K) (last_pid base K + 1) h, free-frame (last_pid base K - base) (base + 1) h)

  listed-frame : (c : ℕ) → changes_list e.what ≡ false → listed (e ∷ K) c ≡ listed K c
  unfolding listed
  listed-frame c h = let b = listed-below K c in grind arith

  named-frame : (x : ℕ) → changes_list e.what ≡ false → named (e ∷ K) x ≡ named K x
  unfolding named oldest
  named-frame x h = grind (arith, oldest-same, listed-frame, event_at-older, listed-here)

  answered-frame : (c : ℕ) → changes_answered e.what ≡ false → answered (e ∷ K) c ≡ answered K c
  unfolding settled queue
  answered-frame c h = let s = sends-frame e K (queue K c) (queue-below K c) in grind arith

pub frame : (K : List Event) (e : Event) → Frame K e
frame K e = record {
  ended_same = ended-frame e K;
  reaped_same = reaped-frame e K;
  holder_same = holder-frame e K;
  next_same = next-frame e K;
  listed_same = listed-frame e K;
  named_same = named-frame e K;
  fetched_same = λ c h. unfold fetched in grind arith;
  count_same = λ h. unfold calls recvs in grind arith;
  settled_same = λ c h. unfold settled in grind arith;
  answered_same = answered-frame e K;
  session_same = λ w h. unfold session in rw h;
}
