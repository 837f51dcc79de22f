-- Where a task is in its program after its own step.
-- By what `StepFacts` tells of each kind of step.
use Rattle.std.proofs.Common.{◌≡◌, ◌+◌, ◌-◌, ◌≤◌, Bool, true, false, ◌||◌, List, ◌∷◌, Option, Some, None, refl, sym, ap, ◌∙◌, arith}
use Rattle.std.specs.Prelude.{if◌then◌else◌, slice_get, IsSome}
use Rattle.std.proofs.lemmas.Bool.{or_left, or_right}
use Rattle.hist_model.specs.Look.{Name, is_task}
use Rattle.hist_model.specs.Kinds.{enters, owes, skips, closes}
use Rattle.hist_model.specs.Legal.{system_of}
use Rattle.hist_model.specs.Programs.{program, program_at}
use Rattle.hist_model.specs.Signals.{call_of}
use Rattle.hist_model.specs.Steps.{steps_of, counts, recounts, is_spawn, owes_native, next_instr}
use Rattle.hist_model.specs.declared.event.Event.{Event}
use Rattle.hist_model.specs.declared.event.Delivered.TheVariants.{Restart}
use Rattle.hist_model.specs.declared.event.What.{What}
use Rattle.hist_model.specs.declared.event.What.TheVariants.{Spawn, Enter, Resume, Signal, Deliver, Reap, Exit, Skip, Handler, Poke, Native, Install, Close}
use Rattle.hist_model.specs.declared.script.Instr.{Instr}
use Rattle.hist_model.specs.declared.script.Instr.TheVariants.{Call}
use Rattle.hist_model.specs.declared.script.Script.{Script}
use Rattle.tasks.specs.declared.row.EnteredCall.{EnteredCall}
use Rattle.tasks.specs.State.{Row, call_after, entered_after, is_in}
use Rattle.tasks.specs.Fold.{IsRow, IsEntry, IsBehindCall, id_at, started_before}
use Rattle.tasks.proofs.StepFacts.{Facts, IsWaiting, IsCounted}
use Rattle.tasks.proofs.Started.{started-yes, started-no}

-- an event counts at most one step
counts-one : (w : What) → counts w ≤ 1
counts-one (Spawn n a) = omega arith
counts-one (Poke a b) = omega arith
counts-one (Handler s m) = omega arith
counts-one (Enter nr args v) = omega arith
counts-one (Signal p s a) = omega arith
counts-one (Reap a) = omega arith
counts-one w = omega arith

counted-one : (b : Bool) (w : What) → (if b then counts w else 0) ≤ 1
counted-one true w = counts-one w
counted-one false w = omega arith

pub counts-more : (e : Event) (K : List Event) (n : Name) → steps_of counts (e ∷ K) n ≤ steps_of counts K n + 1
unfolding steps_of
counts-more e K n = omega (arith, counted-one (is_task e.who n) e.what)

module _ (S : Script) (K : List Event) (n : Name) (r : Row) (i : IsRow S K n r) where
  waits-in : IsWaiting K n → is_in r.call ≡ true
  waits-in h = let q : r.call ≡ Some _ = i.call_is ∙ ap (id_at K) h.1 in rw q refl

  none-in : call_of K n ≡ None → is_in r.call ≡ false
  none-in h = let q : r.call ≡ None = i.call_is ∙ ap (id_at K) h in rw q refl

  behind-in : is_in r.call ≡ true → IsBehindCall (program S n) r.next r.entered
  behind-in h = i.behind_call (or_left (is_in r.call) r.owes h)

  pub entered-waiting : IsWaiting K n → IsSome r.entered
  entered-waiting h = let b = behind-in (waits-in h) in rw b.3 refl

  pub entered-owing : owes_native K n ≡ true → IsSome r.entered
  entered-owing h = let b = i.behind_call (or_right (is_in r.call) r.owes (i.owes_is ∙ h)) in rw b.3 refl

  pub next-at : (j : Instr) → next_instr (system_of S) K n ≡ Some j → slice_get (program S n) r.next ≡ Some j
  next-at j h = let q : r.next ≡ steps_of counts K n - steps_of recounts K n = omega (arith, i.next_is) in ap (slice_get (program S n)) q ∙ h

  pub next-is : next_instr (system_of S) K n ≡ slice_get (program_at S.programs (Some r.program)) r.next
  next-is =
      let q : steps_of counts K n - steps_of recounts K n ≡ r.next = omega (arith, i.next_is) in
      ap (slice_get (program S n)) q ∙ ap (λ (body : List Instr). slice_get body r.next) i.program_is

  pub recounts-below : (w : What) → Facts (system_of S) K n w → recounts w ≤ r.next
  recounts-below (Deliver s Restart) f = let b = behind-in (waits-in f) in omega (arith, b.2)
  recounts-below w f = omega arith

  -- the instructions before the next one that start a task
  counted-no : IsCounted (system_of S) K n false → started_before (program S n) (r.next + 1 - 0) ≡ started_before (program S n) r.next + 0
  counted-no f = ap (started_before (program S n)) (omega arith) ∙ (started-no (program S n) r.next f.0 (next-at f.0 f.1.1) f.2 ∙ omega arith)

  stays-at : started_before (program S n) (r.next + 0 - 0) ≡ started_before (program S n) r.next + 0
  stays-at = let q : r.next + 0 - 0 ≡ r.next = omega arith in rw q (omega arith)

  goes-back : IsBehindCall (program S n) r.next r.entered → started_before (program S n) (r.next + 0 - 1) ≡ started_before (program S n) r.next + 0
  goes-back b =
      let here = started-no (program S n) b.0 (Call b.1.nr b.1.args) b.4 refl in
      ap (started_before (program S n)) (omega (arith, b.2)) ∙ (sym here ∙ (ap (started_before (program S n)) (sym b.2) ∙ omega arith))

  pub starts-own : (w : What) → Facts (system_of S) K n w → started_before (program S n) (r.next + counts w - recounts w) ≡ started_before (program S n) r.next + is_spawn w
  starts-own (Spawn m a) f = let g = f.0 in ap (started_before (program S n)) (omega arith) ∙ started-yes (program S n) r.next g.0 (next-at g.0 g.1.1) g.2
  starts-own (Poke a b) f = counted-no f
  starts-own (Handler s m) f = counted-no f
  starts-own (Signal p s a) f = counted-no f
  starts-own (Reap a) f = counted-no f.0
  starts-own (Enter nr args v) f = counted-no (Call nr args, f, refl)
  starts-own (Deliver s Restart) f = goes-back (behind-in (waits-in f))
  starts-own w f = stays-at

  -- a task in a call stands after the call that it entered
  out-of-call : {A : Type 0} → call_of K n ≡ None → (is_in r.call || false) ≡ true → A
  out-of-call q h = let z = none-in q in let h' : (false || false) ≡ true = rw z at h in cc

  still-behind : IsBehindCall (program S n) r.next r.entered → IsBehindCall (program S n) (r.next + 0 - 0) r.entered
  still-behind b = (b.0, b.1, omega (arith, b.2), b.3, b.4)

  still-in : (is_in r.call || false) ≡ true → IsBehindCall (program S n) (r.next + 0 - 0) r.entered
  still-in h = still-behind (behind-in (from-or (is_in r.call) h))
    where
      from-or : (b : Bool) → (b || false) ≡ true → b ≡ true
      from-or b h = grind arith

  pub behind-own : (w : What) → Facts (system_of S) K n w → (is_in (call_after w r.call) || (if skips w then r.owes else owes w)) ≡ true
      → IsBehindCall (program S n) (r.next + counts w - recounts w) (entered_after w r.entered)
  behind-own (Enter nr args v) f h = (r.next, record { nr = nr; args = args }, omega arith, refl, next-at (Call nr args) f.1)
  behind-own (Spawn m a) f h = let g = f.0 in out-of-call g.1.0 h
  behind-own (Poke a b) f h = out-of-call f.1.0 h
  behind-own (Handler s m) f h = out-of-call f.1.0 h
  behind-own (Signal p s a) f h = out-of-call f.1.0 h
  behind-own (Reap a) f h = let g = f.0 in out-of-call g.1.0 h
  behind-own (Resume back) f h = still-behind (behind-in (waits-in f))
  behind-own (Deliver s e) f h = absurd (cc)
  behind-own (Native a) f h = still-in h
  behind-own (Install a) f h = still-in h
  behind-own Exit f h = still-in h
  behind-own Skip f h = still-behind (i.behind_call h)
  behind-own w f h = absurd f

pub facts-close : (S : Script) (K : List Event) (n : Name) (w : What) → Facts (system_of S) K n w → closes w ≡ false
facts-close S K n Close f = absurd f
facts-close S K n w f = refl

pub entry-own : (w old : What) (entered : Option EnteredCall) → IsEntry entered old → IsEntry (entered_after w entered) (if enters w then w else old)
entry-own (Enter nr args v) old entered h = (v, refl)
entry-own w old entered h = h
