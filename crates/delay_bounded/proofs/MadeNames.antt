-- Each task that a legal history of a script makes has a name of the form.
-- By induction on the events: a child's program nests less deep than its parent's, and a task spawns no more often than its program has instructions.
use Rattle.std.proofs.Common.{◌≡◌, inl, inr, ℕ, ◌+◌, ◌-◌, ◌<◌, ◌≤◌, Bool, true, false, ◌&&◌, not, List, [], ◌∷◌, ◌++◌, length, Option, Some, None, refl, sym, ap, subst, ◌∙◌, arith, length-append, le-leb}
use Rattle.std.specs.Prelude.{if◌then◌else◌, slice_get}
use Rattle.std.specs.List.{list_all}
use Rattle.std.proofs.lemmas.Bool.{and_from, and_parts, or_cases}
use Rattle.std.proofs.lemmas.List.Folds.{list_all-append}
use Rattle.std.proofs.lemmas.Option.{slice_get_within}
use Rattle.hist_model.proofs.Look.{event_at-here, event_at-older, name_eq-true}
use Rattle.hist_model.specs.Calls.{notifies_in}
use Rattle.hist_model.specs.Deeds.{Deed}
use Rattle.hist_model.specs.Kinds.{is_passive, makes}
use Rattle.hist_model.specs.Laws.{last_own}
use Rattle.hist_model.specs.Legal.{system_of}
use Rattle.hist_model.specs.Look.{Name, event_at, is_task, name_eq, oldest}
use Rattle.hist_model.specs.Names.{is_child_number, is_task_name}
use Rattle.hist_model.specs.Programs.{program, program_at, started}
use Rattle.hist_model.specs.ScriptRules.{IsScript}
use Rattle.hist_model.specs.Sessions.{Rules, deed, session}
use Rattle.hist_model.specs.Signals.{call_of}
use Rattle.hist_model.specs.Steps.{IsLegal, IsStep, counts, deed_step, instr_step, is_child, is_ended_child, is_spawn, is_start, next_child, next_instr, recounts, step, steps_of, task_step, wait_step, worker_step}
use Rattle.hist_model.specs.Systems.{System}
use Rattle.hist_model.specs.Tasks.{alive, child_of, is_made}
use Rattle.hist_model.specs.declared.event.Actor.{Actor}
use Rattle.hist_model.specs.declared.event.Actor.TheVariants.{Listener, Start, Task, Worker}
use Rattle.hist_model.specs.declared.event.Delivered.TheVariants.{Restart}
use Rattle.hist_model.specs.declared.event.Event.{Event}
use Rattle.hist_model.specs.declared.event.What.{What}
use Rattle.hist_model.specs.declared.event.What.TheVariants.{Close, Deliver, Enter}
use Rattle.hist_model.specs.declared.script.Instr.{Instr}
use Rattle.hist_model.specs.declared.script.Instr.TheVariants.{Poke as IPoke, Fill as IFill, Call as ICall, Spawn as ISpawn, Thread as IThread, Kill as IKill, Handler as IHandler, Wait as IWait, Exit as IExit}
use Rattle.hist_model.specs.declared.script.Script.{Script}
use Rattle.history_frames.proofs.Listed.{listed-is_call}
use Rattle.mediation.proofs.Tasks.{calls_are_last, waits-in-call}
use Rattle.delay_bounded.proofs.ProgramDepths.{child_nests_less, child_place, depth_at, depth_few, few_instructions, place_from, program_is}

-- ---- A task's own steps

-- a step that enters a call
abbrev is_entry : What → ℕ
is_entry (Enter nr args v) = 1
is_entry _ = 0

-- the task's last own step but Install and Skip entered a call
unfoldable is_behind : List Event → Name → ℕ
is_behind [] n = 0
is_behind (e ∷ K) n = if is_task e.who n && not (is_passive e.what) then is_entry e.what else is_behind K n

-- the last own step of a task that waits in a call entered it
last_enters : (K : List Event) (n : Name) (c : ℕ) → last_own K n ≡ Some c → notifies_in (event_at K c) ≡ true → is_behind K n ≡ 1
unfolding last_own is_behind
last_enters [] n c is enters = cc
last_enters (e ∷ K) n c is enters = by (is_task e.who n && not (is_passive e.what)) refl is (last_enters K n c)
  where
    last_below : (K : List Event) → last_own K n ≡ Some c → c < length K
    last_below [] is = cc
    last_below (f ∷ K) is = own (is_task f.who n && not (is_passive f.what)) refl is (last_below K)
      where
        own : (b : Bool) → (is_task f.who n && not (is_passive f.what)) ≡ b → (if b then Some (length K) else last_own K n) ≡ Some c → (last_own K n ≡ Some c → c < length K) → c < length (f ∷ K)
        own true q is ih = let here : length K ≡ c = cc in omega arith
        own false q is ih = omega (arith, ih is)

    enters_one : (w : What) → notifies_in (Some (record { who = e.who; what = w })) ≡ true → is_entry w ≡ 1
    enters_one w h = grind arith

    by : (b : Bool) → (is_task e.who n && not (is_passive e.what)) ≡ b → (if b then Some (length K) else last_own K n) ≡ Some c
        → (last_own K n ≡ Some c → notifies_in (event_at K c) ≡ true → is_behind K n ≡ 1) → (if b then is_entry e.what else is_behind K n) ≡ 1
    by true q is ih =
        let here : c ≡ length K = cc in
        let now : notifies_in (Some e) ≡ true = rw (here, event_at-here e K) at enters in
        enters_one e.what now
    by false q is ih = ih is (rw (event_at-older e K c (last_below K is)) at enters)

-- a restart is of a call in which the task waits
restarts_call : (S : System) (K : List Event) (n : Name) (s : ℕ) → task_step S K n ≡ Deliver s Restart → (c : ℕ) × (call_of K n ≡ Some c)
unfolding task_step
restarts_call S K n s is = grind arith

-- the instruction starts a program
abbrev Starts : Option Instr → Type 0
Starts o = (i : Instr) × (q : ℕ) × (o ≡ Some i) × (started i ≡ Some q)

wait_makes_none : (K : List Event) (child ended : Option ℕ) → makes (wait_step K child ended) ≡ true → ⊥
wait_makes_none K child ended h = grind arith

instr_starts : (S : System) (K : List Event) (n : Name) (o : Option Instr) → makes (instr_step S K n o) ≡ true → Starts o × (child_of (instr_step S K n o) ≡ next_child K n)
instr_starts S K n None h = cc
instr_starts S K n (Some (ISpawn p)) h = ((ISpawn p, p, refl, refl), refl)
instr_starts S K n (Some (IThread p)) h = ((IThread p, p, refl, refl), refl)
instr_starts S K n (Some (IPoke a b)) h = cc
instr_starts S K n (Some (IFill a len b)) h = cc
instr_starts S K n (Some (ICall nr args)) h = cc
instr_starts S K n (Some (IKill whom s)) h = cc
instr_starts S K n (Some (IHandler s m)) h = cc
instr_starts S K n (Some IWait) h = absurd (wait_makes_none K (oldest (is_child K n) (length K)) (oldest (is_ended_child K n) (length K)) h)
instr_starts S K n (Some IExit) h = cc

-- a task that makes another lives, and takes a step of its program
spawns_own : (S : System) (K : List Event) (n : Name) → makes (task_step S K n) ≡ true → (alive K n ≡ true) × (task_step S K n ≡ instr_step S K n (next_instr S K n))
unfolding task_step
spawns_own S K n h = grind arith

worker_makes_none : (S : System) (R : Rules) (K : List Event) (w : ℕ) → makes (worker_step S R K w) ≡ true → ⊥
unfolding worker_step
worker_makes_none S R K w h = by (deed R (session K w)) h
  where
    by : (d : Deed) → makes (deed_step S K w d) ≡ true → ⊥
    by d h = grind arith

-- ---- How often a task spawns

-- spawns and calls are steps of the program
counts_both : (w : What) → is_spawn w + is_entry w ≤ counts w
counts_both w = grind arith

own_counted : (b : Bool) (w : What) (spawns entries all : ℕ) → spawns + entries ≤ all → spawns + (if b then is_spawn w else 0) + (entries + (if b then is_entry w else 0)) ≤ all + (if b then counts w else 0)
own_counted true w spawns entries all h = omega (arith, h, counts_both w)
own_counted false w spawns entries all h = omega (arith, h)

counted : (K : List Event) (n : Name) → steps_of is_spawn K n + steps_of is_entry K n ≤ steps_of counts K n
unfolding steps_of
counted [] n = omega arith
counted (e ∷ K) n = own_counted (is_task e.who n) e.what (steps_of is_spawn K n) (steps_of is_entry K n) (steps_of counts K n) (counted K n)

-- as often as a task restarts a call, it has entered one before
module _ (S : System) (R : Rules) where
  behind_call : (K : List Event) → IsLegal S R K → (n : Name) (c : ℕ) → call_of K n ≡ Some c → is_behind K n ≡ 1
  behind_call K legal n c waits =
      let (listed, own) = waits-in-call K n c waits in
      let last : last_own K n ≡ Some c = subst (λ m. last_own K m ≡ Some c) own (calls_are_last S R K legal c listed).1 in
      last_enters K n c last (listed-is_call K c listed)

  restarts_behind : (K : List Event) → IsLegal S R K → (n : Name) (w : What) → task_step S K n ≡ w → recounts w ≤ is_behind K n
  restarts_behind K legal n (Deliver s Restart) is = let (c, waits) = restarts_call S K n s is in omega (arith, behind_call K legal n c waits)
  restarts_behind K legal n w is = omega arith

  own_step : (K : List Event) (a : Actor) (n : Name) → is_task a n ≡ true → task_step S K n ≡ step S R K a
  unfolding step
  own_step K (Task m) n own = ap (task_step S K) (sym (name_eq-true m n own))
  own_step K (Worker w) n own = cc
  own_step K Start n own = cc
  own_step K Listener n own = cc

  is_own : (K : List Event) (e : Event) (n : Name) → IsStep S R K e → is_task e.who n ≡ true → task_step S K n ≡ e.what
  is_own [] e n is own = let start : is_task Start n ≡ true = rw is at own in cc
  is_own (f ∷ K) e n is own = own_step (f ∷ K) e.who n own ∙ sym is.2

  once_more : (w : What) (restarts entries behind : ℕ) → restarts + behind ≤ entries → recounts w ≤ behind → (b : Bool) → is_passive w ≡ b
      → restarts + recounts w + (if not b then is_entry w else behind) ≤ entries + is_entry w
  once_more w restarts entries behind before now b passive = grind arith

  restarted : (K : List Event) → IsLegal S R K → (n : Name) → steps_of recounts K n + is_behind K n ≤ steps_of is_entry K n
  unfolding steps_of is_behind
  restarted [] legal n = omega arith
  restarted (e ∷ K) legal n = by (is_task e.who n) refl (restarted K legal.1 n)
    where
      by : (b : Bool) → is_task e.who n ≡ b → steps_of recounts K n + is_behind K n ≤ steps_of is_entry K n
          → (steps_of recounts K n + (if b then recounts e.what else 0)) + (if b && not (is_passive e.what) then is_entry e.what else is_behind K n) ≤ steps_of is_entry K n + (if b then is_entry e.what else 0)
      by true own before = once_more e.what (steps_of recounts K n) (steps_of is_entry K n) (is_behind K n) before (restarts_behind K legal.1 n e.what (is_own K e n legal.0 own)) (is_passive e.what) refl
      by false own before = omega (arith, before)

  -- a task has gone through as many instructions at least as it has spawned tasks
  spawned : (K : List Event) → IsLegal S R K → (n : Name) → steps_of is_spawn K n ≤ steps_of counts K n - steps_of recounts K n
  spawned K legal n = omega (arith, counted K n, restarted K legal n)

-- ---- The names

module _ (S : Script) (R : Rules) (rules : IsScript S) where
  abbrev first_program : ℕ
  first_program = length S.programs - 1

  abbrev nests : Option ℕ → ℕ
  nests at = depth_at S.programs at

  -- a name of the form: the more children's numbers it has, the less deep its task's program nests
  record IsFit (n : Name) : Type 0 where
    children : Name
    is : n ≡ 0 ∷ children
    numbers : list_all is_child_number children ≡ true
    few : length children + nests (place_from S.programs children (Some first_program)) ≤ 64

  fit_first : IsFit (0 ∷ [])
  fit_first = record { children = []; is = refl; numbers = refl; few = omega (arith, depth_few S.programs rules.programs rules.totals (Some first_program)) }

  fit_named : (n : Name) → IsFit n → is_task_name n ≡ true
  fit_named n f = rw (f.is, f.numbers, le-leb (length f.children) 64 (omega (arith, f.few))) refl

  number_fits : (k : ℕ) → 1 ≤ k → k ≤ 100000 → is_child_number k ≡ true
  number_fits k low high = rw (le-leb 1 k low, le-leb k 100000 high) refl

  -- a child's name is of the form where its parent's is
  fit_child : (K : List Event) (n : Name) → IsLegal (system_of S) R K → Starts (next_instr (system_of S) K n) → IsFit n → IsFit (next_child K n)
  unfolding program
  fit_child K n legal (i, q, next, starts) f =
      let k = steps_of is_spawn K n + 1 in
      let at = place_from S.programs f.children (Some first_program) in
      let place = steps_of counts K n - steps_of recounts K n in
      let own : program S n ≡ program_at S.programs at = ap (program S) f.is ∙ program_is S.programs f.children (Some first_program) in
      let there : slice_get (program_at S.programs at) place ≡ Some i = ap (λ (body : List Instr). slice_get body place) (sym own) ∙ next in
      let inside : place < length (program_at S.programs at) = slice_get_within (program_at S.programs at) place i there in
      let fits : is_child_number k ≡ true = number_fits k (omega arith) (omega (arith, inside, few_instructions S.programs rules.programs rules.totals at, spawned (system_of S) R K legal n)) in
      let less = child_nests_less S.programs rules.programs rules.totals at place q i k there starts in
      record {
        children = f.children ++ k ∷ [];
        is = ap (λ m. m ++ k ∷ []) f.is;
        numbers = list_all-append is_child_number f.children (k ∷ []) ∙ and_from _ _ f.numbers (rw fits refl);
        few = omega (arith, less, f.few, length-append f.children (k ∷ []), ap nests (child_place S.programs f.children k (Some first_program)));
      }

  -- the task that a step makes
  fit_step : (K : List Event) (e : Event) → IsLegal (system_of S) R K → IsStep (system_of S) R K e → makes e.what ≡ true → ((n : Name) → is_made K n ≡ true → IsFit n) → IsFit (child_of e.what)
  unfolding step
  fit_step [] e legal is makes fit = subst IsFit (ap (λ (f : Event). child_of f.what) (sym is)) fit_first
  fit_step (f ∷ K) e legal is makes_one fit = by e.who is.2 is.1
    where
      by : (a : Actor) → e.what ≡ step (system_of S) R (f ∷ K) a → is_start a ≡ false → IsFit (child_of e.what)
      by (Task n) w start =
          let makes_now : makes (task_step (system_of S) (f ∷ K) n) ≡ true = ap makes (sym w) ∙ makes_one in
          let (lives, own) = spawns_own (system_of S) (f ∷ K) n makes_now in
          let (starts, named) = instr_starts (system_of S) (f ∷ K) n (next_instr (system_of S) (f ∷ K) n) (ap makes (sym own) ∙ makes_now) in
          let child : child_of e.what ≡ next_child (f ∷ K) n = ap child_of (w ∙ own) ∙ named in
          subst IsFit (sym child) (fit_child (f ∷ K) n legal starts (fit n (and_parts (is_made (f ∷ K) n) _ lives).0))
      by (Worker v) w start = absurd (worker_makes_none (system_of S) R (f ∷ K) v (ap makes (sym w) ∙ makes_one))
      by Start w start = cc
      by Listener w start = let none : makes Close ≡ true = ap makes (sym w) ∙ makes_one in cc

  fit : (K : List Event) → IsLegal (system_of S) R K → (n : Name) → is_made K n ≡ true → IsFit n
  unfolding is_made
  fit [] legal n made = cc
  fit (e ∷ K) legal n made = elim (or_cases (makes e.what && name_eq (child_of e.what) n) (is_made K n) made) [
    | inl now ↦
        let parts = and_parts (makes e.what) _ now in
        subst IsFit (name_eq-true (child_of e.what) n parts.1) (fit_step K e legal.1 legal.0 parts.0 (fit K legal.1))
    | inr before ↦ fit K legal.1 n before
  ]

  pub made_named : (K : List Event) → IsLegal (system_of S) R K → (n : Name) → is_made K n ≡ true → is_task_name n ≡ true
  made_named K legal n made = fit_named n (fit K legal n made)
