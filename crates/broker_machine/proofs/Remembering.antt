-- What the workers remember after an event, and without one.
-- By cases on whether a worker is the one that stepped, with the lemmas of `Sessions` and those on lists.
use Rattle.std.proofs.Common.{◌≡◌, ℕ, ◌+◌, ◌<◌, true, false, List, [], ◌∷◌, ◌++◌, length, sym, ◌∙◌, inl, inr, ◌⊎◌, arith}
use Rattle.std.proofs.lemmas.List.{get_or_append_left, get_or-set_same, get_or-set_other, length-set, length-append}
use Rattle.std.proofs.Math.Seq.{get_or-append_seam}
use Rattle.std.specs.Prelude.{slice_set, get_or, ◌==◌}
use Rattle.std.proofs.lemmas.Bool.{cases_Bool, eqb-true, eq-eqb, ne_eqb, cases_lt}
use Rattle.hist_model.specs.Kinds.{skips}
use Rattle.hist_model.specs.Look.{ev, is_worker}
use Rattle.hist_model.specs.Sessions.{session}
use Rattle.hist_model.specs.declared.event.Event.{Event}
use Rattle.hist_model.specs.declared.event.Actor.TheVariants.{Worker as WorkerActor}
use Rattle.hist_model.specs.declared.event.What.{What}
use Rattle.hist_model.specs.declared.policy.Policy.{Policy}
use Rattle.hist_model.specs.declared.script.Figures.{Figures}
use Rattle.broker_core.specs.Remembered.{Remembers}
use Rattle.broker_core.specs.declared.worker.Worker.{Worker}
use Rattle.broker_machine.proofs.Sessions.{session-other, session-skip}
use Rattle.broker_machine.specs.Workers.{AllRemember, OthersRemember}

module _ (P : Policy) (F : Figures) where
  -- an event of no worker leaves what all remember
  pub all_other : (K : List Event) (e : Event) (ws : List Worker) → ((w : ℕ) → is_worker e.who w ≡ false) → AllRemember P F K ws → AllRemember P F (e ∷ K) ws
  all_other K e ws h a = λ w d l. (rw (session-other e K w (h w)) (a w d l).0, (a w d l).1)

  -- and so does a skip
  pub all_skipped : (K : List Event) (e : Event) (ws : List Worker) → skips e.what ≡ true → AllRemember P F K ws → AllRemember P F (e ∷ K) ws
  all_skipped K e ws h a = λ w d l. (rw (session-skip e K w h) (a w d l).0, (a w d l).1)

  -- all remember where one does and the others do
  pub all-set : (K : List Event) (v : ℕ) (ws : List Worker) (x : Worker) → ((w : ℕ) (d : Worker) → w < length ws → (w ≡ v → ⊥) → Remembers P (session K w) (get_or ws w d) × ((get_or ws w d).figures ≡ F))
      → Remembers P (session K v) x → x.figures ≡ F → AllRemember P F K (slice_set ws v x)
  all-set K v ws x others r f = λ w d l.
      let l' : w < length ws = rw length-set at l in
      elim (order_or_same w v) [
        | inl h ↦ rw (h, get_or-set_same ws v x d (rw h at l')) (r, f)
        | inr h ↦ rw (get_or-set_other ws v w x d h) (others w d l' h)
      ]
    where
      order_or_same : (w v : ℕ) → (w ≡ v) ⊎ (w ≡ v → ⊥)
      order_or_same w v = elim (cases_Bool (w == v)) [ inl h ↦ inl (eqb-true w v h) | inr h ↦ inr (λ q. no (sym (eq-eqb w v q) ∙ h)) ]
        where
          no : true ≡ false → ⊥
          no h = cc

  -- an event of one worker, which remembers it
  pub all_after : (K : List Event) (v : ℕ) (what : What) (ws : List Worker) (x : Worker) → AllRemember P F K ws → Remembers P (session (ev (WorkerActor v) what ∷ K) v) x → x.figures ≡ F
      → AllRemember P F (ev (WorkerActor v) what ∷ K) (slice_set ws v x)
  all_after K v what ws x a =
      all-set (ev (WorkerActor v) what ∷ K) v ws x (λ w d l h. rw (session-other (ev (WorkerActor v) what) K w (ne_eqb v w (λ q. h (sym q)))) (a w d l))

  -- no event, and one worker that still remembers
  pub all_still : (K : List Event) (v : ℕ) (ws : List Worker) (x : Worker) → AllRemember P F K ws → Remembers P (session K v) x → x.figures ≡ F → AllRemember P F K (slice_set ws v x)
  all_still K v ws x a = all-set K v ws x (λ w d l h. a w d l)

  -- the others remember whatever stands in a worker's place
  pub others-set : (K : List Event) (v : ℕ) (ws : List Worker) (x : Worker) → AllRemember P F K ws → OthersRemember P F K v (slice_set ws v x)
  others-set K v ws x a = λ w d l h. rw (get_or-set_other ws v w x d h) (a w d (rw length-set at l))

  -- one more worker without a session
  pub all_push : (ws : List Worker) (x : Worker) → AllRemember P F [] ws → Remembers P [] x → x.figures ≡ F → AllRemember P F [] (ws ++ x ∷ [])
  unfolding session
  all_push ws x a r f = λ w d l. elim (cases_lt w (length ws)) [
    | inl h ↦ rw (get_or_append_left ws (x ∷ []) d w h) (a w d h)
    | inr h ↦
        let n : w < length ws + 1 = rw length-append at l in
        let q : w ≡ length ws = omega arith in
        rw (q, get_or-append_seam ws x [] d) (r, f)
  ]
