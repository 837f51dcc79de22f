-- What a worker that takes the kernel's answer remembers, and which step the history has of it then.
-- By cases on whether a step was made, and by `Fitting`, since the deed is that of the session which the worker remembers.
use Rattle.std.proofs.Common.{◌≡◌, ◌<◌, ℕ, suc, Bool, true, false, List, [], ◌∷◌, ◌++◌, length, reverse, sym, ap, ◌∙◌, arith}
use Rattle.std.proofs.lemmas.List.{reverse-append}
use Rattle.hist_model.specs.Deeds.{Deed}
use Rattle.hist_model.specs.Legal.{rules_of}
use Rattle.hist_model.specs.Look.{ev}
use Rattle.hist_model.specs.Sessions.{deed, session}
use Rattle.hist_model.specs.Steps.{deed_step}
use Rattle.hist_model.specs.declared.event.Actor.TheVariants.{Worker as WorkerActor}
use Rattle.hist_model.specs.declared.event.Event.{Event}
use Rattle.hist_model.specs.declared.event.What.{What}
use Rattle.hist_model.specs.declared.policy.Policy.{Policy}
use Rattle.broker_core.specs.Answers.{Answer, Fits, answer_of, shown, step_of, with_step}
use Rattle.broker_core.specs.Deeds.{due}
use Rattle.broker_core.specs.Remembered.{Remembers}
use Rattle.broker_core.specs.declared.deed.Deed.{Deed as Named}
use Rattle.broker_core.specs.declared.worker.Worker.{Worker}
use Rattle.model_kernel.specs.Kernels.{past, system}
use Rattle.model_kernel.specs.Ready.{IsSame}
use Rattle.model_kernel.specs.declared.kernel.Kernel.{Kernel}
use Rattle.broker_machine.specs.Workers.{HasTried, KeepsOn, TriesDeed, TriesStep, next_of}
use Rattle.broker_machine.proofs.Fitting.{fits_due, own-step, remembers_turn, step_of_deed}
use Rattle.broker_machine.proofs.Rooms.{does-same, same-still}

-- the newest event stands after the others
pub newest_of : (events older : List Event) (newest e : Event) (K : List Event) → events ≡ older ++ newest ∷ [] → reverse events ≡ e ∷ K → newest.what ≡ e.what
newest_of events older newest e K h is = ap (λ (x : Event). x.what) (first (sym (reverse-append older (newest ∷ [])) ∙ ap reverse (sym h) ∙ is))
  where
    first : newest ∷ reverse older ≡ e ∷ K → newest ≡ e
    first q = cc

-- a kernel that was made ready tries a deed as before
tries-same : (old mid new : Kernel) (n : ℕ) (d : Deed) (b : Bool) → IsSame old mid → TriesDeed mid n d b new → TriesDeed old n d b new
tries-same old mid new n d true s t = (does-same old mid new n d s t.0, rw (s.script, s.past_is) at t.1)
tries-same old mid new n d false s t = (same-still old mid new s t.0, rw (s.script, s.past_is) at t.1)

module _ (P : Policy) (old : Kernel) (n : ℕ) where
  abbrev own : List What
  own = session (past old) n

  abbrev next : What
  next = deed_step (system old) (past old) n (next_of P old n)

  -- what was due was tried by a kernel that was made ready
  pub has-tried : (mid new : Kernel) (x y : Worker) (d : Named) (b : Bool) → IsSame old mid → Remembers P own x → x.figures ≡ old.script.figures → d ≡ due x → d ≡ shown (deed (rules_of P x.figures) own) → KeepsOn x y
      → TriesDeed mid n (deed (rules_of P x.figures) own) b new → HasTried P old n d b new y
  has-tried mid new x y d b s r f is e keeps h = record {
    tries = tries-same old mid new n _ b s (rw f at h);
    remembers = keeps.known P own r;
    figures = keeps.figures ∙ f;
    due = is ∙ sym keeps.same;
    next = rw f at e;
  }

  module _ (new : Kernel) (d : Named) (b : Bool) (x : Worker) (h : HasTried P old n d b new x) where
    -- it made its step, or it waits
    pub tries-step : TriesStep P old n b new
    tries-step = by b h.tries
      where
        by : (b : Bool) → TriesDeed old n (next_of P old n) b new → TriesStep P old n b new
        by true t = (rw (step_of_deed P old.script (past old) n) t.0, rw (step_of_deed P old.script (past old) n) t.1)
        by false t = (t.0, rw (step_of_deed P old.script (past old) n) t.1)

  -- where it waits it remembers its session as before
  pub waits-on : (new : Kernel) (d : Named) (x : Worker) → HasTried P old n d false new x → Remembers P (session (past new) n) x
  waits-on new d x h = rw h.tries.0.past_is h.remembers

  -- where a step was made the history has one
  pub some-step : (new : Kernel) (d : Named) (x : Worker) → HasTried P old n d true new x → 0 < length (past new)
  some-step new d x h = let some : 0 < suc (length (past old)) = omega arith in rw h.tries.0.events some

  -- the newest step of the history is the deed's
  pub newest-step : (new : Kernel) (d : Named) (x : Worker) (what : What) → HasTried P old n d true new x
      → ((e : Event) (K : List Event) → past new ≡ e ∷ K → what ≡ e.what) → what ≡ next
  newest-step new d x what h is = is (ev (WorkerActor n) next) (past old) h.tries.0.events

  -- it has an answer that the deed can have
  pub step-fits : (new : Kernel) (d : Named) (x : Worker) (a : Answer) → HasTried P old n d true new x → a ≡ answer_of next → Fits d a
  step-fits new d x a h is = fits_due P old.script (past old) n d a is h.next

  -- with which the worker remembers its session
  pub step-remembered : (new : Kernel) (d : Named) (x y : Worker) (a : Answer) → HasTried P old n d true new x → a ≡ answer_of next
      → ((Q : Policy) (own : List What) → Remembers Q own x → Remembers Q (with_step (step_of (deed (rules_of Q x.figures) own) a) own) y) → Remembers P (session (past new) n) y
  step-remembered new d x y a h is k =
      let joins : session (past new) n ≡ with_step next own = rw h.tries.0.events (own-step (past old) n next) in
      rw joins (remembers_turn P old.script (past old) n x y a h.figures is h.remembers k)
