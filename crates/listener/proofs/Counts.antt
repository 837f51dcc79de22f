-- How many calls were entered and how many receives were made after an event, and which call is the n-th.
-- By the one event that each definition looks at first, and by induction on the events.
use Rattle.std.proofs.Common.{◌≡◌, inl, inr, ℕ, ◌+◌, true, false, List, [], ◌∷◌, length, Some, refl, sym, ap, ◌∙◌, arith}
use Rattle.hist_model.specs.Kinds.{notifies, receives}
use Rattle.hist_model.specs.Calls.{is_call, calls, recvs}
use Rattle.hist_model.specs.declared.event.Event.{Event}
use Rattle.hist_model.proofs.Look.{event_at-here, event_at-older, below_or_last}
use Rattle.history_frames.specs.Ordinals.{count_of, nth_of}
use Rattle.history_frames.proofs.Ordinals.{place-new, place-old, place-below}
use Rattle.history_frames.proofs.Listed.{is_call-below}

-- ---- how many calls there are, and which is the n-th

pub calls-count : (K : List Event) → count_of notifies K ≡ calls K
unfolding count_of calls
calls-count [] = refl
calls-count (e ∷ K) = rw (calls-count K)

pub calls-more : (e : Event) (K : List Event) → notifies e.what ≡ true → calls (e ∷ K) ≡ calls K + 1
unfolding calls
calls-more e K h = rw h

pub calls-same : (e : Event) (K : List Event) → notifies e.what ≡ false → calls (e ∷ K) ≡ calls K
unfolding calls
calls-same e K h = rw h (omega arith)

pub recvs-more : (e : Event) (K : List Event) → receives e.what ≡ true → recvs (e ∷ K) ≡ recvs K + 1
unfolding recvs
recvs-more e K h = rw h

pub recvs-same : (e : Event) (K : List Event) → receives e.what ≡ false → recvs (e ∷ K) ≡ recvs K
unfolding recvs
recvs-same e K h = rw h (omega arith)

-- each call has a number
pub call-number : (K : List Event) (c : ℕ) → is_call K c ≡ true → (n : ℕ) × (nth_of notifies K n ≡ Some c)
call-number [] c h = absurd (omega (arith, is_call-below [] c h))
call-number (e ∷ K) c h =
    elim (below_or_last c (length K) (is_call-below (e ∷ K) c h)) [
      | inl l ↦ let m = call-number K c (rw (event_at-older e K c l) at h) in (m.0, place-old notifies e K m.0 (place-below notifies K m.0 c m.1).0 ∙ m.1)
      | inr q ↦ let h' : is_call (e ∷ K) (length K) ≡ true = rw q at h in
          let m : notifies e.what ≡ true = rw (event_at-here e K) at h' in
          (count_of notifies K, place-new notifies e K m ∙ ap Some (sym q))
    ]
