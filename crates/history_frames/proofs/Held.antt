-- Who has ended and who is reaped after an event, and who holds a PID.
-- By the one event that each definition looks at first, and by induction on the search of a free number.
use Rattle.std.proofs.Common.{◌≡◌, inl, inr, ℕ, zero, suc, ◌+◌, ◌<◌, Bool, true, false, ◌&&◌, not, List, [], ◌∷◌, length, Option, Some, None, refl, sym, ap, ◌∙◌, arith}
use Rattle.std.specs.Prelude.{Ok, ◌-◌, if◌then◌else◌}
use Rattle.std.proofs.lemmas.Bool.{cases_Bool, eqb-true, or_right, both_ways}
use Rattle.hist_model.specs.Look.{Name, name_eq, newest, is_task, event_at, or_else, oldest}
use Rattle.hist_model.specs.Kinds.{ends, makes}
use Rattle.hist_model.specs.Tasks.{ended, was_waited_for, reaped, reaps, holds, holder, pid_of, name_of, given, given_in, is_some_of, is_made, child_of, free_from, next_pid, last_pid, is_none}
use Rattle.hist_model.specs.Steps.{makes_in}
use Rattle.hist_model.specs.Laws.{PidsDiffer}
use Rattle.hist_model.specs.declared.event.Event.{Event}
use Rattle.hist_model.specs.declared.event.What.{What}
use Rattle.hist_model.specs.declared.event.What.TheVariants.{Spawn}
use Rattle.hist_model.proofs.Look.{event_at-here, event_at-older, below_or_last, newest-found, newest-some, oldest-none, name_eq-refl}
use Rattle.history_frames.proofs.Ordinals.{makes-below, name-older}

pub ended-more : (e : Event) (K : List Event) (n : Name) → ended K n ≡ true → ended (e ∷ K) n ≡ true
unfolding ended
ended-more e K n h = or_right (ends e.what && is_task e.who n) (ended K n) h

pub ended-same : (e : Event) (K : List Event) (n : Name) → (ends e.what && is_task e.who n) ≡ false → ended (e ∷ K) n ≡ ended K n
unfolding ended
ended-same e K n h = rw h

pub waited-same : (e : Event) (K : List Event) (n : Name) → reaps e.what n ≡ false → was_waited_for (e ∷ K) n ≡ was_waited_for K n
unfolding was_waited_for
waited-same e K n h = rw h

pub reaped-more : (e : Event) (K : List Event) (n : Name) → reaped K n ≡ true → reaped (e ∷ K) n ≡ true
unfolding reaped ended was_waited_for
reaped-more e K n h = grind arith

-- a task that is not reaped was not reaped before
holds-less : (e : Event) (K : List Event) (p t : ℕ) → t < length K → holds (e ∷ K) p t ≡ true → holds K p t ≡ true
holds-less e K p t l h =
    let h' : (is_some_of (pid_of K t) p && not (reaped (e ∷ K) (name_of K t))) ≡ true = rw (event_at-older e K t l) at h in
    let m = reaped-more e K (name_of K t) in
    grind arith

given-makes : (w : What) (p : ℕ) (b : Bool) → (is_some_of (given w) p && b) ≡ true → makes w ≡ true
given-makes (Spawn n (Ok a)) p b h = refl
given-makes w p b h = cc

event-makes : (o : Option Event) (p : ℕ) (b : Bool) → (is_some_of (given_in o) p && b) ≡ true → makes_in o ≡ true
event-makes None p b h = cc
event-makes (Some e) p b h = given-makes e.what p b h

-- who holds a number was made
pub holds-makes : (K : List Event) (p t : ℕ) → holds K p t ≡ true → makes_in (event_at K t) ≡ true
holds-makes K p t h = event-makes (event_at K t) p (not (reaped K (name_of K t))) h

pub holds-below : (K : List Event) (p t : ℕ) → holds K p t ≡ true → t < length K
holds-below K p t h = makes-below K t (holds-makes K p t h)

-- the new task's number
holds-here : (e : Event) (K : List Event) (p : ℕ) → holds (e ∷ K) p (length K) ≡ true → given e.what ≡ Some p
holds-here e K p h = is-given (given e.what) _ (rw (event_at-here e K) at h)
  where
    is-given : (g : Option ℕ) (b : Bool) → (is_some_of g p && b) ≡ true → g ≡ Some p
    is-given None b h = cc
    is-given (Some q) b h = ap Some (eqb-true q p (grind arith))

-- a holder is the only one
pub holder-is : (K : List Event) (p t : ℕ) → PidsDiffer K → holds K p t ≡ true → holder K p ≡ Some t
unfolding holder
holder-is K p t d h = go (newest (holds K p) (length K)) refl
  where
    go : (o : Option ℕ) → newest (holds K p) (length K) ≡ o → newest (holds K p) (length K) ≡ Some t
    go None e = absurd (newest-found (holds K p) (length K) t (holds-below K p t h) h e)
    go (Some x) e = let y = newest-some (holds K p) (length K) x e in e ∙ ap Some (d p x t y.0 h)

pub holder-holds : (K : List Event) (p t : ℕ) → holder K p ≡ Some t → holds K p t ≡ true
unfolding holder
holder-holds K p t e = (newest-some (holds K p) (length K) t e).0

free-held : (K : List Event) (p t : ℕ) → holder K p ≡ None → holds K p t ≡ true → ⊥
unfolding holder
free-held K p t e h = newest-found (holds K p) (length K) t (holds-below K p t h) h e

-- a number that is given to a new task was free
new-differs : (e : Event) (K : List Event) (p t : ℕ) → ((q : ℕ) → given e.what ≡ Some q → holder K q ≡ None) → holds (e ∷ K) p t ≡ true → holds (e ∷ K) p (length K) ≡ true → t < length K → ⊥
new-differs e K p t f h g l = free-held K p t (f p (holds-here e K p g)) (holds-less e K p t l h)

pub pids-more : (e : Event) (K : List Event) → ((q : ℕ) → given e.what ≡ Some q → holder K q ≡ None) → PidsDiffer K → PidsDiffer (e ∷ K)
pids-more e K f d p t u h g =
    elim (below_or_last t (length K) (holds-below (e ∷ K) p t h)) [
      | inl l ↦ elim (below_or_last u (length K) (holds-below (e ∷ K) p u g)) [
        | inl m ↦ d p t u (holds-less e K p t l h) (holds-less e K p u m g)
        | inr m ↦ absurd (new-differs e K p t f h (rw m at g) l)
      ]
      | inr l ↦ elim (below_or_last u (length K) (holds-below (e ∷ K) p u g)) [
        | inl m ↦ absurd (new-differs e K p u f g (rw l at h) m)
        | inr m ↦ l ∙ sym m
      ]
    ]

pub older-made : (e : Event) (K : List Event) (n : Name) → is_made K n ≡ true → is_made (e ∷ K) n ≡ true
unfolding is_made
older-made e K n h = or_right (makes e.what && name_eq (child_of e.what) n) (is_made K n) h

pub here-made : (e : Event) (K : List Event) → makes e.what ≡ true → is_made (e ∷ K) (child_of e.what) ≡ true
unfolding is_made
here-made e K m = rw (m, name_eq-refl (child_of e.what))

-- a task that was made somewhere is made
pub made-is : (K : List Event) (t : ℕ) → makes_in (event_at K t) ≡ true → is_made K (name_of K t) ≡ true
made-is [] t h = absurd (omega (arith, makes-below [] t h))
made-is (e ∷ K) t h =
    elim (below_or_last t (length K) (makes-below (e ∷ K) t h)) [
      | inl l ↦ older-made e K (name_of (e ∷ K) t) (rw (name-older e K t l) (made-is K t (rw (event_at-older e K t l) at h)))
      | inr i ↦ let h' : makes_in (event_at (e ∷ K) (length K)) ≡ true = rw i at h in
          let m : makes e.what ≡ true = rw (event_at-here e K) at h' in
          rw (i, event_at-here e K) (here-made e K m)
    ]

free-none : (K : List Event) (n q p : ℕ) → free_from K n q ≡ Some p → holder K p ≡ None
unfolding free_from
free-none K zero q p e = cc
free-none K (suc n) q p e = go (holder K q) refl e (free-none K n (q + 1) p)
  where
    go : (r : Option ℕ) → holder K q ≡ r → (if is_none r then Some q else free_from K n (q + 1)) ≡ Some p → (free_from K n (q + 1) ≡ Some p → holder K p ≡ None) → holder K p ≡ None
    go None h e ih = let s : q ≡ p = cc in rw (← s) h
    go (Some t) h e ih = ih e

-- the next number is free
pub next-free : (base pidmax : ℕ) (K : List Event) (p : ℕ) → next_pid base pidmax K ≡ Some p → holder K p ≡ None
unfolding next_pid
next-free base pidmax K p e = go (free_from K (base + pidmax - last_pid base K) (last_pid base K + 1)) refl e
  where
    go : (r : Option ℕ) → free_from K (base + pidmax - last_pid base K) (last_pid base K + 1) ≡ r → or_else r (free_from K (last_pid base K - base) (base + 1)) ≡ Some p → holder K p ≡ None
    go (Some q) h e = free-none K (base + pidmax - last_pid base K) (last_pid base K + 1) p (h ∙ e)
    go None h e = free-none K (last_pid base K - base) (base + 1) p e

-- two tasks have different names, where each name is new when it is given
pub names-more : (e : Event) (K : List Event) → (makes e.what ≡ true → is_made K (child_of e.what) ≡ false)
    → ((t u : ℕ) → makes_in (event_at K t) ≡ true → makes_in (event_at K u) ≡ true → name_of K t ≡ name_of K u → t ≡ u)
    → (t u : ℕ) → makes_in (event_at (e ∷ K) t) ≡ true → makes_in (event_at (e ∷ K) u) ≡ true → name_of (e ∷ K) t ≡ name_of (e ∷ K) u → t ≡ u
names-more e K f d t u h g q =
    elim (below_or_last t (length K) (makes-below (e ∷ K) t h)) [
      | inl l ↦ elim (below_or_last u (length K) (makes-below (e ∷ K) u g)) [
        | inl m ↦ d t u (rw (event_at-older e K t l) at h) (rw (event_at-older e K u m) at g) (sym (name-older e K t l) ∙ (q ∙ name-older e K u m))
        | inr m ↦ absurd (new t l (rw (event_at-older e K t l) at h) (rw m at g) (sym (name-older e K t l) ∙ (q ∙ ap (name_of (e ∷ K)) m)))
      ]
      | inr l ↦ elim (below_or_last u (length K) (makes-below (e ∷ K) u g)) [
        | inl m ↦ absurd (new u m (rw (event_at-older e K u m) at g) (rw l at h) (sym (name-older e K u m) ∙ (sym q ∙ ap (name_of (e ∷ K)) l)))
        | inr m ↦ l ∙ sym m
      ]
    ]
  where
    new : (v : ℕ) → v < length K → makes_in (event_at K v) ≡ true → makes_in (event_at (e ∷ K) (length K)) ≡ true → name_of K v ≡ name_of (e ∷ K) (length K) → ⊥
    new v l h g q =
        let m : makes e.what ≡ true = rw (event_at-here e K) at g in
        let n : name_of K v ≡ child_of e.what = rw (event_at-here e K) at q in
        both_ways (is_made K (name_of K v)) (ap (is_made K) n ∙ f m) (made-is K v h)

older-step : (test : ℕ → Bool) (n t u : ℕ) (r : Option ℕ) → oldest test n ≡ r → or_else r (if test n then Some n else None) ≡ Some t → test u ≡ true → u < t → (oldest test n ≡ Some t → ⊥) → ⊥
older-step test n t u (Some s) f e h l ih = ih (f ∙ e)
older-step test n t u None f e h l ih =
    elim (cases_Bool (test n)) [
      | inl b ↦ let e' : Some n ≡ Some t = rw b at e in let w : n ≡ t = cc in both_ways (test u) (oldest-none test n u f (omega (arith, w, l))) h
      | inr b ↦ let e' : None ≡ Some t = rw b at e in cc
    ]

-- nothing older passes the test than what was found
pub oldest-least : (test : ℕ → Bool) (n t u : ℕ) → oldest test n ≡ Some t → test u ≡ true → u < t → ⊥
unfolding oldest
oldest-least test zero t u q h l = cc
oldest-least test (suc n) t u q h l = older-step test n t u (oldest test n) refl q h l (λ z. oldest-least test n t u z h l)
