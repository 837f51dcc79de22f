-- The kernel's step for a worker's next deed has an answer that the worker can take, and is the step of the deed and that answer.
-- By the cases of the deed and of what the kernel answers, with the law of `hist_model` that the step of a read fits it.
use Rattle.std.proofs.Common.{◌≡◌, ℕ, ◌≤◌, Bool, true, false, List, ◌∷◌, refl, ap, sym, subst, ◌∙◌, Option, Some, None, inl, inr}
use Rattle.std.specs.Prelude.{if◌then◌else◌, Result, Ok, Err, ◌==◌, ℤ}
use Rattle.std.proofs.lemmas.Bool.{and_parts, cases_Bool, eq-eqb}
use Rattle.hist_model.specs.Calls.{count}
use Rattle.hist_model.specs.Copies.{fits_piece}
use Rattle.hist_model.specs.Deeds.{Deed}
use Rattle.hist_model.specs.Kinds.{skips}
use Rattle.hist_model.specs.Legal.{system_of, rules_of}
use Rattle.hist_model.specs.Look.{ev}
use Rattle.hist_model.specs.Sessions.{deed, session}
use Rattle.hist_model.specs.Steps.{deed_step, worker_step, mem, recv_answer, read_answer, take_step, install_at, request_of, request_listed, oldest_unfetched}
use Rattle.hist_model.specs.declared.event.Actor.TheVariants.{Worker as WorkerActor}
use Rattle.hist_model.specs.declared.event.Event.{Event}
use Rattle.hist_model.specs.declared.event.What.{What}
use Rattle.hist_model.specs.declared.event.Back.{Back}
use Rattle.hist_model.specs.declared.event.What.TheVariants as step
use Rattle.hist_model.specs.declared.event.What.TheVariants.{Recv, Skip}
use Rattle.hist_model.specs.declared.policy.Cap.{Cap}
use Rattle.hist_model.specs.declared.policy.Policy.{Policy}
use Rattle.hist_model.specs.declared.request.Request.{Request}
use Rattle.hist_model.specs.declared.script.Figures.{Figures}
use Rattle.hist_model.specs.declared.script.Script.{Script}
use Rattle.sys_abi.specs.declared.wire.Addfd.{Addfd}
use Rattle.hist_model.proofs.Fitting.{IsSized, deed_sized, step_fits}
use Rattle.arg_capture.proofs.Answering.{fit_answers, fit_fault}
use Rattle.broker_core.specs.Answers.{Answer, Fits, shown, deed_of, answer_of, step_of, with_step}
use Rattle.broker_core.specs.Remembered.{Remembers}
use Rattle.broker_core.specs.declared.worker.Worker.{Worker}
use Rattle.broker_core.specs.declared.deed.Deed.{Deed as Named}
use Rattle.broker_core.specs.declared.deed.Deed.TheVariants as named
use Rattle.broker_core.proofs.Answered.{request_or, bytes_or, named_back}
use Rattle.broker_machine.proofs.Sessions.{session-skip, session-own}

-- a deed, from what the worker names it
pub due_of : (d : Deed) (n : Named) → n ≡ shown d → d ≡ deed_of (request_or d) (bytes_or d) n
due_of d n e = named_back d ∙ ap (deed_of (request_or d) (bytes_or d)) (sym e)

-- a deed that the worker names an act is one
act-is : (d : Deed) (cap : Option Cap) → named.Act cap ≡ shown d → d ≡ Deed.Act (request_or d) cap
act-is d cap e = due_of d (named.Act cap) e

-- an act of the request that the worker gave is the deed that is due
pub act_of : (d : Deed) (request : Request) (cap : Option Cap) → named.Act cap ≡ shown d → ((q : Request) (c : Option Cap) → d ≡ Deed.Act q c → request ≡ q) → d ≡ Deed.Act request cap
act_of d request cap e h = act-is d cap e ∙ ap (λ q. Deed.Act q cap) (sym (h (request_or d) cap (act-is d cap e)))

-- a deed that the worker names a plant is one
plant-is : (d : Deed) (addr : ℕ) (cap : Option Cap) → named.Plant addr cap ≡ shown d → d ≡ Deed.Plant addr (bytes_or d) cap
plant-is d addr cap e = due_of d (named.Plant addr cap) e

-- a plant of the bytes that the worker gave is the deed that is due
pub plant_of : (d : Deed) (bytes : List ℕ) (addr : ℕ) (cap : Option Cap) → named.Plant addr cap ≡ shown d
    → ((a : ℕ) (b : List ℕ) (c : Option Cap) → d ≡ Deed.Plant a b c → bytes ≡ b) → d ≡ Deed.Plant addr bytes cap
plant_of d bytes addr cap e h = plant-is d addr cap e ∙ ap (λ b. Deed.Plant addr b cap) (sym (h addr (bytes_or d) cap (plant-is d addr cap e)))

-- the step of a worker is that of its deed
pub step_of_deed : (P : Policy) (S : Script) (K : List Event) (w : ℕ) → worker_step (system_of S) (rules_of P S.figures) K w ≡ deed_step (system_of S) K w (deed (rules_of P S.figures) (session K w))
unfolding worker_step
step_of_deed P S K w = refl

-- what the kernel answers a deed
pub record Answers (d : Deed) (what : What) : Type 0 where
  pub fits : Fits (shown d) (answer_of what)
  pub step : step_of d (answer_of what) ≡ what

module _ (S : Script) (K : List Event) (w : ℕ) where
  received : (o : Option ℕ) → Answers Deed.Recv (Recv (recv_answer K o))
  received None = record { fits = refl; step = refl }
  received (Some c) = record { fits = tt; step = refl }

  received-if : (b : Bool) → Answers Deed.Recv (if b then Skip else Recv (recv_answer K (oldest_unfetched K)))
  received-if true = record { fits = tt; step = refl }
  received-if false = received (oldest_unfetched K)

  taken : (a : Option (Result ℕ ℕ)) (b : Bool) → Answers Deed.AddfdTake (take_step a b)
  taken (Some (Ok n)) b = record { fits = tt; step = refl }
  taken (Some (Err e)) b = record { fits = tt; step = refl }
  taken None true = record { fits = tt; step = refl }
  taken None false = record { fits = tt; step = refl }

  piece : (a n : ℕ) (answer : Result (List ℕ) ℕ) → fits_piece (Some (a, n)) answer ≡ true → Answers (Deed.Read a n) (step.Read a n answer)
  piece a n (Ok bytes) h = record { fits = fit_answers (Some (a, n)) (Ok bytes) h; step = refl }
  piece a n (Err e) h = record { fits = fit_fault (Some (a, n)) e h; step = refl }

  was-read : (a n : ℕ) → 1 ≤ n → Answers (Deed.Read a n) (deed_step (system_of S) K w (Deed.Read a n))
  was-read a n l =
      let answer = read_answer (system_of S) K (mem K w) a n in
      let h = and_parts (a == a) _ (step_fits S K w (Deed.Read a n) l refl) in
      piece a n answer (and_parts (n == n) (fits_piece (Some (a, n)) answer) h.1).1

  opened : (pid : ℕ) (r : Result (Unit {0}) ℕ) → Answers (Deed.OpenMem pid) (step.OpenMem pid r)
  opened pid (Ok u) = record { fits = tt; step = refl }
  opened pid (Err e) = record { fits = tt; step = refl }

  based : (pid : ℕ) (d : ℤ) (r : Result (Unit {0}) ℕ) → Answers (Deed.OpenBase pid d) (step.OpenBase pid d r)
  based pid d (Ok u) = record { fits = tt; step = refl }
  based pid d (Err e) = record { fits = tt; step = refl }

  checked : (id : ℕ) (r : Result (Unit {0}) ℕ) → Answers (Deed.Check id) (step.Check id r)
  checked id (Ok u) = record { fits = tt; step = refl }
  checked id (Err e) = record { fits = tt; step = refl }

  acted : (q : Request) (cap : Option Cap) (r : Result (Unit {0}) ℕ) → Answers (Deed.Act q cap) (step.Act q cap r)
  acted q cap (Ok u) = record { fits = tt; step = refl }
  acted q cap (Err e) = record { fits = tt; step = refl }

  planted : (a : ℕ) (bytes : List ℕ) (cap : Option Cap) (r : Result (Unit {0}) ℕ) → Answers (Deed.Plant a bytes cap) (step.Plant a bytes cap r)
  planted a bytes cap (Ok u) = record { fits = tt; step = refl }
  planted a bytes cap (Err e) = record { fits = tt; step = refl }

  put : (asked : Addfd) (r : Result (Unit {0}) ℕ) → Answers (Deed.AddfdPut asked) (step.AddfdPut asked r)
  put asked (Ok u) = record { fits = tt; step = refl }
  put asked (Err e) = record { fits = tt; step = refl }

  sent : (id : ℕ) (back : Back) (r : Result (Unit {0}) ℕ) → Answers (Deed.Send id back) (step.Send id back r)
  sent id back (Ok u) = record { fits = tt; step = refl }
  sent id back (Err e) = record { fits = tt; step = refl }

  pub answers : (d : Deed) → IsSized d → Answers d (deed_step (system_of S) K w d)
  answers Deed.Recv l = received-if (count K == 0)
  answers (Deed.OpenMem pid) l = opened pid _
  answers (Deed.OpenBase pid dirfd) l = based pid dirfd _
  answers (Deed.Check id) l = checked id _
  answers (Deed.Read addr len) l = was-read addr len l
  answers (Deed.Act request cap) l = acted request cap _
  answers (Deed.Plant addr bytes cap) l = planted addr bytes cap _
  answers (Deed.AddfdPut asked) l = put asked _
  answers Deed.AddfdTake l = taken (install_at K (request_of K w)) (request_listed K (request_of K w))
  answers (Deed.Send id back) l = sent id back _
  answers Deed.LetGo l = record { fits = tt; step = refl }

-- a worker's own event is remembered as its step, unless it is a skip
pub own-step : (K : List Event) (w : ℕ) (what : What) → session (ev (WorkerActor w) what ∷ K) w ≡ with_step what (session K w)
own-step K w what = elim (cases_Bool (skips what)) [
  | inl h ↦ session-skip (ev (WorkerActor w) what) K w h ∙ sym (rw h refl)
  | inr h ↦ session-own (ev (WorkerActor w) what) K w (eq-eqb w w refl) h ∙ sym (rw h refl)
]

module _ (P : Policy) (S : Script) (K : List Event) (n : ℕ) where
  -- the deed that is due for the worker, and the kernel's step for it
  abbrev pub next_deed : Deed
  next_deed = deed (rules_of P S.figures) (session K n)

  abbrev pub next_step : What
  next_step = deed_step (system_of S) K n next_deed

  pub answered : Answers next_deed next_step
  answered = answers S K n next_deed (deed_sized P S.figures (session K n))

  -- the kernel's answer is one that the deed can have
  pub fits_due : (d : Named) (a : Answer) → a ≡ answer_of next_step → d ≡ shown next_deed → Fits d a
  fits_due d a q e = rw (e, q) answered.fits

  -- and what is remembered then is the session with that step
  pub remembers_turn : (x y : Worker) (a : Answer) → x.figures ≡ S.figures → a ≡ answer_of next_step → Remembers P (session K n) x
      → ((Q : Policy) (own : List What) → Remembers Q own x → Remembers Q (with_step (step_of (deed (rules_of Q x.figures) own) a) own) y)
      → Remembers P (with_step next_step (session K n)) y
  remembers_turn x y a f q r h =
      let taken = λ (G : Figures) (b : Answer). Remembers P (with_step (step_of (deed (rules_of P G) (session K n)) b) (session K n)) y in
      let u : taken S.figures (answer_of next_step) = subst (λ b. taken S.figures b) q (subst (λ G. taken G a) f (h P (session K n) r)) in
      subst (λ v. Remembers P (with_step v (session K n)) y) answered.step u
