-- What a step of a task tells of the history before it: whether it waits in a call, and which instruction comes next.
-- By the cases of `task_step`.
use Rattle.std.proofs.Common.{◌≡◌, ℕ, Bool, true, false, ◌&&◌, not, List, [], ◌∷◌, length, Option, Some, None, refl, sym, subst}
use Rattle.std.specs.Prelude.{if◌then◌else◌, ◌==◌, Result, Ok, Err}
use Rattle.std.proofs.lemmas.Bool.{and_parts}
use Rattle.hist_model.specs.Look.{Name, name_eq, event_at, oldest}
use Rattle.hist_model.specs.Legal.{system_of}
use Rattle.hist_model.specs.Calls.{settled, queue}
use Rattle.hist_model.specs.Signals.{call_of, next_signal, effect_in_call, effect_outside}
use Rattle.hist_model.specs.Steps.{task_step, living_step, instr_step, install_step, next_instr, owes_native, deliver_or, wait_step, reply, is_ended_child, names_ended_child, makes_in, next_child, spawn_answer}
use Rattle.hist_model.specs.Systems.{System}
use Rattle.hist_model.specs.Tasks.{alive, disposition, ended, reaped, has_parent, parent, name_of, next_pid}
use Rattle.hist_model.specs.declared.event.Event.{Event}
use Rattle.hist_model.specs.declared.event.Delivered.{Delivered}
use Rattle.hist_model.specs.declared.event.Delivered.TheVariants.{Restart}
use Rattle.hist_model.specs.declared.event.Disposition.{Disposition}
use Rattle.hist_model.specs.declared.event.Disposition.TheVariants.{Default, Restart as RestartDisposition, Plain}
use Rattle.hist_model.specs.declared.event.What.{What}
use Rattle.hist_model.specs.declared.event.What.TheVariants.{Spawn, Enter, Resume, Signal, Deliver, Reap, Exit, Skip, Handler, Poke, Native, Install}
use Rattle.hist_model.specs.declared.event.SpawnKind.{SpawnKind}
use Rattle.hist_model.specs.declared.event.SpawnKind.TheVariants.{Copied, Shared}
use Rattle.hist_model.specs.declared.script.Instr.{Instr}
use Rattle.hist_model.specs.declared.script.Script.{Script}
use Rattle.hist_model.proofs.Look.{oldest-some}
use Rattle.history_frames.specs.Ordinals.{task_name_of}
use Rattle.hist_model.specs.declared.script.Instr.TheVariants.{Poke as IPoke, Fill as IFill, Call as ICall, Spawn as ISpawn, Thread as IThread, Kill as IKill, Handler as IHandler, Wait as IWait, Exit as IExit}
use Rattle.tasks.specs.Fold.{starts}
use Rattle.tasks.specs.Sound.{IsStepOf}

-- the task waits in a call
abbrev pub IsWaiting : List Event → Name → Type 0
IsWaiting K n = (c : ℕ) × (call_of K n ≡ Some c)

-- the task waits in no call, and this instruction comes next
abbrev pub IsNext : System → List Event → Name → Instr → Type 0
IsNext S K n i = (call_of K n ≡ None) × (next_instr S K n ≡ Some i)

-- one that starts a task, or doesn't, comes next
abbrev pub IsCounted : System → List Event → Name → Bool → Type 0
IsCounted S K n b = (i : Instr) × IsNext S K n i × (starts i ≡ b)

-- a number that was given comes next
abbrev pub IsFree : System → List Event → Result (ℕ × SpawnKind) ℕ → Type 0
IsFree S K (Ok a) = next_pid S.pidbase S.pidmax K ≡ Some a.0
IsFree S K (Err x) = Unit {0}

-- a task that was waited for has ended
abbrev pub IsOver : List Event → Result Name ℕ → Type 0
IsOver K (Ok m) = ended K m ≡ true
IsOver K (Err x) = Unit {0}

-- what a step of the task tells
abbrev pub Facts : System → List Event → Name → What → Type 0
Facts S K n (Spawn m a) = IsCounted S K n true × (m ≡ next_child K n) × IsFree S K a
Facts S K n (Poke a b) = IsCounted S K n false
Facts S K n (Handler s m) = IsCounted S K n false
Facts S K n (Signal p s a) = IsCounted S K n false
Facts S K n (Reap a) = IsCounted S K n false × IsOver K a
Facts S K n (Enter nr args v) = IsNext S K n (ICall nr args)
Facts S K n (Resume back) = IsWaiting K n
Facts S K n (Deliver s Restart) = IsWaiting K n
Facts S K n (Deliver s effect) = Unit {0}
Facts S K n (Native a) = Unit {0}
Facts S K n (Install a) = Unit {0}
Facts S K n Exit = Unit {0}
Facts S K n Skip = Unit {0}
Facts S K n w = ⊥

waits : (S : System) (K : List Event) (n : Name) (a b : Option ℕ) → oldest (is_ended_child K n) (length K) ≡ b → IsNext S K n IWait → Facts S K n (wait_step K a b)
waits S K n None b q h = ((IWait, h, refl), tt)
waits S K n (Some c) None q h = tt
waits S K n (Some c) (Some t) q h =
    let s = oldest-some (is_ended_child K n) (length K) t q in
    let a = and_parts (makes_in (event_at K t)) (names_ended_child K n t) s.0 in
    let b = and_parts (has_parent (name_of K t)) (name_eq (parent (name_of K t)) n && (ended K (name_of K t) && not (reaped K (name_of K t)))) a.1 in
    let d = and_parts (name_eq (parent (name_of K t)) n) (ended K (name_of K t) && not (reaped K (name_of K t))) b.1 in
    ((IWait, h, refl), (and_parts (ended K (name_of K t)) (not (reaped K (name_of K t))) d.1).0)

free : (S : System) (K : List Event) (kind : SpawnKind) (o : Option ℕ) → next_pid S.pidbase S.pidmax K ≡ o → IsFree S K (spawn_answer o kind)
free S K kind None q = tt
free S K kind (Some p) q = q

instr : (S : System) (K : List Event) (n : Name) (o : Option Instr) → call_of K n ≡ None → next_instr S K n ≡ o → Facts S K n (instr_step S K n o)
instr S K n None c q = tt
instr S K n (Some (IPoke a b)) c q = (IPoke a b, (c, q), refl)
instr S K n (Some (IFill a len b)) c q = (IFill a len b, (c, q), refl)
instr S K n (Some (ICall nr args)) c q = (c, q)
instr S K n (Some (ISpawn p)) c q = ((ISpawn p, (c, q), refl), refl, free S K Copied (next_pid S.pidbase S.pidmax K) refl)
instr S K n (Some (IThread p)) c q = ((IThread p, (c, q), refl), refl, free S K Shared (next_pid S.pidbase S.pidmax K) refl)
instr S K n (Some (IKill whom s)) c q = (IKill whom s, (c, q), refl)
instr S K n (Some (IHandler s m)) c q = (IHandler s m, (c, q), refl)
instr S K n (Some IWait) c q = waits S K n _ _ refl (c, q)
instr S K n (Some IExit) c q = tt

delivered : (S : System) (K : List Event) (n : Name) (s : ℕ) (effect : Delivered) → IsWaiting K n → Facts S K n (Deliver s effect)
delivered S K n s Restart h = h
delivered S K n s effect h = tt

-- outside a call nothing is entered again
ends-or-runs : (S : System) (K : List Event) (n : Name) (s : ℕ) (m : Disposition) (b : Bool) → (s == 9) ≡ b → Facts S K n (Deliver s (effect_outside s m))
ends-or-runs S K n s Default b q = tt
ends-or-runs S K n s RestartDisposition true q = rw q tt
ends-or-runs S K n s RestartDisposition false q = rw q tt
ends-or-runs S K n s Plain true q = rw q tt
ends-or-runs S K n s Plain false q = rw q tt

installs : (S : System) (K : List Event) (n : Name) (c : ℕ) (rs : List ℕ) → Facts S K n (install_step S K c rs)
installs S K n c [] = tt
installs S K n c (r ∷ rs) = tt

in-call : (S : System) (K : List Event) (n : Name) (c : ℕ) (sig : Option ℕ) → IsWaiting K n → Facts S K n (deliver_or sig (λ s. effect_in_call s (disposition K n s)) (install_step S K c (queue K c)))
in-call S K n c None h = installs S K n c (queue K c)
in-call S K n c (Some s) h = delivered S K n s (effect_in_call s (disposition K n s)) h

outside : (S : System) (K : List Event) (n : Name) (sig : Option ℕ) → call_of K n ≡ None → Facts S K n (deliver_or sig (λ s. effect_outside s (disposition K n s)) (instr_step S K n (next_instr S K n)))
outside S K n None h = instr S K n (next_instr S K n) h refl
outside S K n (Some s) h = ends-or-runs S K n s (disposition K n s) (s == 9) refl

settled-or : (S : System) (K : List Event) (n : Name) (c : ℕ) (b : Bool) → IsWaiting K n
    → Facts S K n (if b then Resume (reply K c) else deliver_or (next_signal S.killable K n) (λ s. effect_in_call s (disposition K n s)) (install_step S K c (queue K c)))
settled-or S K n c true h = h
settled-or S K n c false h = in-call S K n c (next_signal S.killable K n) h

owing-or : (S : System) (K : List Event) (n : Name) (b : Bool) → call_of K n ≡ None
    → Facts S K n (if b then Native (S.native K n) else deliver_or (next_signal S.killable K n) (λ s. effect_outside s (disposition K n s)) (instr_step S K n (next_instr S K n)))
owing-or S K n true h = tt
owing-or S K n false h = outside S K n (next_signal S.killable K n) h

living : (S : System) (K : List Event) (n : Name) (o : Option ℕ) → call_of K n ≡ o → Facts S K n (living_step S K n o)
living S K n (Some c) q = settled-or S K n c (settled K c) (c, q)
living S K n None q = owing-or S K n (owes_native K n) q

alive-or : (S : System) (K : List Event) (n : Name) (b : Bool) → Facts S K n (if b then living_step S K n (call_of K n) else Skip)
alive-or S K n true = living S K n (call_of K n) refl
alive-or S K n false = tt

pub facts : (S : System) (K : List Event) (n : Name) → Facts S K n (task_step S K n)
unfolding task_step
facts S K n = alive-or S K n (alive K n)

pub step-facts : (S : Script) (K : List Event) (e : Event) (o : ℕ) → IsStepOf S K e o → Facts (system_of S) K (task_name_of K o) e.what
step-facts S K e o p = subst (λ w. Facts (system_of S) K (task_name_of K o) w) (sym p.step) (facts (system_of S) K (task_name_of K o))
