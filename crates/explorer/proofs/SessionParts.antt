-- The part of a key that tells what a worker was told in its session, step by step.
-- By the events back to the receive with which the session begins.
use Rattle.std.proofs.Common.{◌≡◌, ℕ, ◌+◌, ◌-◌, ◌<◌, ◌≤◌, true, false, ◌&&◌, not, List, [], ◌∷◌, ◌++◌, length, get_or, reverse, take, refl, sym, ap, ◌∙◌, subst, arith, append-nil, append_assoc, map-id}
use Rattle.std.specs.List.{flat_map, range_with_len}
use Rattle.std.specs.Prelude.{if◌then◌else◌}
use Rattle.std.proofs.lemmas.List.{reverse-append, take_more}
use Rattle.std.proofs.lemmas.List.Concat.{flat_map-append}
use Rattle.std.proofs.lemmas.List.FromFn.{map-range_with_len_more}
use Rattle.hist_model.specs.Kinds.{skips, starts}
use Rattle.hist_model.specs.Look.{is_worker}
use Rattle.hist_model.specs.Sessions.{joined, session}
use Rattle.hist_model.specs.declared.event.Event.{Event}
use Rattle.hist_model.specs.declared.event.What.{What}
use Rattle.explorer.specs.Keys.{session_part}
use Rattle.explorer.specs.SessionKeys.{step_part, steps_part}

-- ---- One event more

module _ (e : Event) (K : List Event) (w : ℕ) where
  other_step : (is_worker e.who w && not (skips e.what)) ≡ false → session (e ∷ K) w ≡ session K w
  unfolding session
  other_step h = rw h refl

  first_step : (is_worker e.who w && not (skips e.what)) ≡ true → starts e.what ≡ true → session (e ∷ K) w ≡ e.what ∷ []
  unfolding session
  first_step h s = rw h (by (session K w))
    where
      by : (own : List What) → joined e.what own ≡ e.what ∷ []
      by [] = rw s refl
      by (a ∷ own) = rw s refl

  later_step : (is_worker e.who w && not (skips e.what)) ≡ true → starts e.what ≡ false → 0 < length (session (e ∷ K) w) → (session (e ∷ K) w ≡ e.what ∷ session K w) × (0 < length (session K w))
  unfolding session
  later_step h s l = by (session K w) (rw h at l)
    where
      by : (own : List What) → 0 < length (joined e.what own) → ((if is_worker e.who w && not (skips e.what) then joined e.what own else own) ≡ e.what ∷ own) × (0 < length own)
      by [] m = absurd (omega (arith, rw s at m))
      by (a ∷ own) m = (rw (h, s) refl, omega arith)

-- ---- The events that are left

abbrev pub own_of : List Event → ℕ → ℕ → List What
own_of events n w = session (reverse (take n events)) w

-- so far the newest of the session's steps were written, and these are left
pub record IsWritten (events : List Event) (w n : ℕ) (old new : List ℕ) : Type 0 where
  pub some : 0 < length (own_of events n w)
  pub so_far : new ++ steps_part (own_of events n w) ≡ old ++ steps_part (session (reverse events) w)

module _ (events : List Event) (w : ℕ) where
  module _ (n : ℕ) (e : Event) (old new : List ℕ) (l : 0 < n) (m : n ≤ length events) (is : e ≡ get_or events (n - 1) e) (i : IsWritten events w n old new) where
    split : own_of events n w ≡ session (e ∷ reverse (take (n - 1) events)) w
    split =
        let back : n - 1 + 1 ≡ n = omega arith in
        let more : take (n - 1 + 1) events ≡ take (n - 1) events ++ get_or events (n - 1) e ∷ [] = take_more events (n - 1) e (omega arith) in
        let here : take n events ≡ take (n - 1) events ++ e ∷ [] = ap (λ (k : ℕ). take k events) (sym back) ∙ (more ∙ ap (λ (f : Event). take (n - 1) events ++ f ∷ []) (sym is)) in
        ap (λ (xs : List Event). session (reverse xs) w) here ∙ ap (λ (xs : List Event). session xs w) (reverse-append (take (n - 1) events) (e ∷ []))

    some_here : 0 < length (session (e ∷ reverse (take (n - 1) events)) w)
    some_here = subst (λ (own : List What). 0 < length own) split i.some

    so_here : new ++ steps_part (session (e ∷ reverse (take (n - 1) events)) w) ≡ old ++ steps_part (session (reverse events) w)
    so_here = ap (λ (own : List What). new ++ steps_part own) (sym split) ∙ i.so_far

    -- it is no step of the worker
    pub other_written : (is_worker e.who w && not (skips e.what)) ≡ false → IsWritten events w (n - 1) old new
    other_written h =
        let same = other_step e (reverse (take (n - 1) events)) w h in
        record {
          some = subst (λ (own : List What). 0 < length own) same some_here;
          so_far = ap (λ (own : List What). new ++ steps_part own) (sym same) ∙ so_here;
        }

    -- it is one, and not the first of the session
    pub step_written : (is_worker e.who w && not (skips e.what)) ≡ true → starts e.what ≡ false → (more : List ℕ) → more ≡ new ++ step_part e.what → IsWritten events w (n - 1) old more
    step_written h s more q =
        let (same, some) = later_step e (reverse (take (n - 1) events)) w h s some_here in
        record {
          some = some;
          so_far =
              ap (λ (xs : List ℕ). xs ++ steps_part (own_of events (n - 1) w)) q
              ∙ (append_assoc new (step_part e.what) (steps_part (own_of events (n - 1) w))
              ∙ (ap (λ (own : List What). new ++ steps_part own) (sym same) ∙ so_here));
        }

    -- or the first
    pub first_written : (is_worker e.who w && not (skips e.what)) ≡ true → starts e.what ≡ true → (more : List ℕ) → more ≡ new ++ step_part e.what → more ++ steps_part [] ≡ old ++ steps_part (session (reverse events) w)
    first_written h s more q =
        let same = first_step e (reverse (take (n - 1) events)) w h s in
        ap (λ (xs : List ℕ). xs ++ steps_part []) q
        ∙ (append_assoc new (step_part e.what) (steps_part []) ∙ (ap (λ (own : List What). new ++ steps_part own) (sym same) ∙ so_here))

  -- no event is left, but the session isn't over: it can't be
  pub never_over : (n : ℕ) (old new : List ℕ) → n ≡ 0 → IsWritten events w n old new → ⊥
  unfolding session
  never_over n old new z i = let none : own_of events n w ≡ [] = ap (λ (k : ℕ). own_of events k w) z in omega (arith, i.some, ap length none)

-- ---- Of the workers from 0 on

pub sessions_more : (K : List Event) (n : ℕ) → flat_map (session_part K) (range_with_len 0 (n + 1)) ≡ flat_map (session_part K) (range_with_len 0 n) ++ session_part K n
sessions_more K n =
    let more : range_with_len 0 (n + 1) ≡ range_with_len 0 n ++ n ∷ [] = rw (map-id, map-id) at (map-range_with_len_more (λ (x : ℕ). x) 0 n n (omega arith)) in
    ap (flat_map (session_part K)) more
    ∙ (flat_map-append (session_part K) (range_with_len 0 n) (n ∷ []) ∙ ap (λ (xs : List ℕ). flat_map (session_part K) (range_with_len 0 n) ++ xs) (append-nil (session_part K n)))
