-- Each step of a worker is the same after two histories after which all goes on alike.
-- By cases on its deed: the calls, the holder of the PID, its memory, its base and the tree are the same.
use Rattle.std.proofs.Common.{◌≡◌, inl, inr, ℕ, Bool, true, false, ◌&&◌, not, List, [], ◌∷◌, length, Option, Some, None, refl, sym, ap, ◌∙◌}
use Rattle.std.specs.Prelude.{if◌then◌else◌, option_map, nat_le, slice_get, Result, Ok, Err, ℤ}
use Rattle.std.proofs.lemmas.Bool.{and_parts}
use Rattle.sys_abi.specs.Errnos.{ebadf, esrch}
use Rattle.sys_abi.specs.declared.wire.Notif.{Notif}
use Rattle.hist_model.specs.Calls.{caller, fetched, id, listed}
use Rattle.hist_model.specs.Deeds.{Deed}
use Rattle.hist_model.specs.Effects.{effect, perform}
use Rattle.hist_model.specs.Files.{files}
use Rattle.hist_model.specs.Legal.{done, is_open_session, is_there, outcome, system_of}
use Rattle.hist_model.specs.Look.{Name, event_at}
use Rattle.hist_model.specs.Memory.{group_named, last_call}
use Rattle.hist_model.specs.Natives.{base_of, root}
use Rattle.hist_model.specs.Sessions.{Rules, any_of, deed, deed_for, notif_of, session}
use Rattle.hist_model.specs.Kinds.{is_letgo}
use Rattle.hist_model.specs.Signals.{call_of}
use Rattle.hist_model.specs.Steps.{args_in, base_answer, deed_step, entered, group, install_at, install_of, call_at, call_listed, is_spent, mem, notif, nr_in, number_entered, oldest_unfetched, opened, pid_named, read_answer, recv_answer, request_listed, request_of, step, take_step, task_place, worker_step}
use Rattle.hist_model.specs.Tasks.{ended, holder, is_made, name_of}
use Rattle.hist_model.specs.Trees.{Tree}
use Rattle.hist_model.specs.declared.event.Actor.{Actor}
use Rattle.hist_model.specs.declared.event.Actor.TheVariants.{Start, Task, Worker, Listener}
use Rattle.hist_model.specs.declared.event.Event.{Event}
use Rattle.hist_model.specs.declared.event.What.{What}
use Rattle.hist_model.specs.declared.event.What.TheVariants.{Check, OpenBase, OpenMem, Read, Send}
use Rattle.hist_model.specs.declared.policy.Cap.{Cap}
use Rattle.hist_model.specs.declared.request.Request.{Request}
use Rattle.hist_model.specs.declared.script.Script.{Script}
use Rattle.hist_model.proofs.Look.{oldest-some}
use Rattle.history_frames.specs.Ordinals.{place_of, task_name_of}
use Rattle.listener.specs.Fold.{ask_at, row_at}
use Rattle.listener.specs.Listeners.{taken}
use Rattle.listener.specs.Stands.{take_of}
use Rattle.listener.specs.State as call_state
use Rattle.listener.proofs.Answers.{oldest-is}
use Rattle.listener.proofs.Folds.{call-here}
use Rattle.listener.proofs.Sounds.{ids-differ}
use Rattle.listener.proofs.Told.{request-is, take-is}
use Rattle.tasks.proofs.Answers.{row-place}
use Rattle.tasks.proofs.Folds.{row-below}
use Rattle.tasks.proofs.Named.{name-made}
use Rattle.tasks.proofs.Told.{place-is}
use Rattle.tasks.specs.State.{Row, State}
use Rattle.same_futures.specs.Same.{Same}
use Rattle.same_futures.specs.States.{HasStates, ShareStates}
use Rattle.same_futures.specs.Workers.{IsSameMemory, IsSameSession}
use Rattle.same_futures.proofs.Calls.{IsOneCall, check-same, count-same, one-call, put-same, send-same}
use Rattle.same_futures.proofs.Natives.{base-same, reads-same}
use Rattle.same_futures.proofs.Steps.{task-step-same}
use Rattle.same_futures.proofs.Tasks.{AreHeld, ended-same, entry-same, holders-same, lives-same, pid-same}

-- what a worker does next by the steps of a session that is over
over-receives : (R : Rules) (own : List What) → is_open_session own ≡ false → deed R own ≡ Deed.Recv
unfolding deed
over-receives R [] h = refl
over-receives R (a ∷ own) h = go (any_of is_letgo (a ∷ own)) refl (not-not (any_of is_letgo (a ∷ own)) h) (notif_of (a ∷ own))
  where
    not-not : (b : Bool) → not b ≡ false → b ≡ true
    not-not true h = refl
    not-not false h = cc

    go : (b : Bool) → any_of is_letgo (a ∷ own) ≡ b → b ≡ true → (n : Option Notif) → deed_for R n (a ∷ own) ≡ Deed.Recv
    go true q h (Some n) = rw q refl
    go true q h None = refl
    go false q h n = cc

-- a listed call is the one in which its task waits, and the one that this task entered last
module _ (S : Script) (K : List Event) (s : State) (c : call_state.State) (h : HasStates S K s c) where
  pub waits-there : (x : ℕ) → listed K x ≡ true → call_of K (caller K x) ≡ Some x
  waits-there x l = call-here K x (λ d m q. h.calls_sound.callers d x m l q) l

  pub entered-there : (x : ℕ) → listed K x ≡ true → (nr_in (event_at K x) ≡ number_entered (last_call K (caller K x))) × (args_in (event_at K x) ≡ entered (last_call K (caller K x)))
  entered-there x l =
      let e = h.tasks_sound.entries (caller K x) x (waits-there x l) in
      (ap nr_in e.1 ∙ ap number_entered e.2, ap args_in e.1 ∙ ap entered e.2)

  pub unfetched-listed : (x : ℕ) → oldest_unfetched K ≡ Some x → listed K x ≡ true
  unfolding oldest_unfetched
  unfetched-listed x q = (and_parts (listed K x) (not (fetched K x)) (oldest-some (λ d. listed K d && not (fetched K d)) (length K) x q).0).0

  -- the group of a task that was made is that of its row's place
  pub group-at-place : (o t : ℕ) (r : Row) (n : Name) → slice_get s.rows o ≡ Some r → r.name ≡ n → place_of K o ≡ Some t → group_named K n ≡ Some (group K t)
  group-at-place o t r n at i p =
      let m : task_name_of K o ≡ n = sym (h.tasks.rows o r at).name_is ∙ i in
      ap (opened K) (sym (ap (task_place K) m) ∙ (place-is K o h.tasks_sound (row-below S K s o r h.tasks at) ∙ p))

-- what a worker is told that opens a base, where the task has ended or not, and where its number leads to a directory or not
abbrev base_said : Bool → Bool → Result (Unit {0}) ℕ
base_said over there = if over then Err esrch else (if there then Ok tt else Err ebadf)

-- what a worker is told of its request, as a step
take-told : (x : Option (Result ℕ ℕ)) (on : Bool) → take_step x on ≡ take_of (taken x on)
take-told (Some (Ok n)) on = refl
take-told (Some (Err e)) on = refl
take-told None true = refl
take-told None false = refl

module _ (S : Script) (ts : State) (cs : call_state.State) (K L : List Event) (same : Same S ts cs K L) where
  both : ShareStates S K L ts cs
  both = same.states

  -- ---- receives

  notif-same : (x y : ℕ) → listed K x ≡ true → listed L y ≡ true → row_at L y ≡ row_at K x → notif L y ≡ notif K x
  notif-same x y a b q =
      let i : id L y ≡ id K x = ap (λ (r : call_state.Row). r.id) q in
      let n : caller L y ≡ caller K x = ap (λ (r : call_state.Row). r.task) q in
      let p : pid_named L (caller L y) ≡ pid_named K (caller K x) = ap (pid_named L) n ∙ pid-same S K L ts cs both (caller K x) in
      let e = entry-same S K L ts cs both (caller K x) in
      let u = entered-there S L ts cs both.there y b in
      let v = entered-there S K ts cs both.here x a in
      let nr : nr_in (event_at L y) ≡ nr_in (event_at K x) = u.0 ∙ (ap (λ (m : Name). number_entered (last_call L m)) n ∙ (e.0 ∙ sym v.0)) in
      let args : args_in (event_at L y) ≡ args_in (event_at K x) = u.1 ∙ (ap (λ (m : Name). entered (last_call L m)) n ∙ (e.1 ∙ sym v.1)) in
      rw (i, p, nr, args) refl

  recv-by : (x y : Option ℕ) → oldest_unfetched K ≡ x → oldest_unfetched L ≡ y → IsOneCall K L x y → recv_answer L y ≡ recv_answer K x
  recv-by (Some x) (Some y) a b q = ap Ok (notif-same x y (unfetched-listed S K ts cs both.here x a) (unfetched-listed S L ts cs both.there y b) q)
  recv-by None None a b q = refl
  recv-by (Some x) None a b q = cc
  recv-by None (Some y) a b q = cc

  recv-same : recv_answer L (oldest_unfetched L) ≡ recv_answer K (oldest_unfetched K)
  recv-same = recv-by (oldest_unfetched K) (oldest_unfetched L) refl refl
      (one-call K L (oldest_unfetched K) (oldest_unfetched L) (sym (oldest-is S.firstid L cs both.there.calls) ∙ oldest-is S.firstid K cs both.here.calls))

  -- ---- bases

  place-here : (M : List Event) (h : HasStates S M ts cs) (o t : ℕ) (r : Row) → slice_get ts.rows o ≡ Some r → place_of M o ≡ Some t → name_of M t ≡ r.name
  place-here M h o t r at p =
      let a = row-place S M ts h.tasks h.tasks_sound o r at in
      let x : Some a.0 ≡ Some t = sym a.1 ∙ p in
      let v : a.0 ≡ t = cc in
      ap (name_of M) (sym v) ∙ a.2

  -- who holds a number in both, by the row
  abbrev pub IsHeldBy : Row → ℕ → ℕ → Type 0
  IsHeldBy r t u = (o : ℕ) × (slice_get ts.rows o ≡ Some r) × (place_of K o ≡ Some t) × (place_of L o ≡ Some u)

  pub held-made : (r : Row) (t u : ℕ) → IsHeldBy r t u → is_made K r.name ≡ true
  held-made r t u h = ap (is_made K) ((both.here.tasks.rows h.0 r h.1).name_is) ∙ name-made K h.0 (row-below S K ts h.0 r both.here.tasks h.1)

  pub held-base : (r : Row) (t u : ℕ) (d : ℤ) → IsHeldBy r t u → ended K r.name ≡ false → base_of S (files S L) (group L u) d ≡ base_of S (files S K) (group K t) d
  held-base r t u d h q =
      let g = same.groups r.name (held-made r t u h) q in
      let x : Some g.here ≡ Some (group K t) = sym g.here_is ∙ group-at-place S K ts cs both.here h.0 t r r.name h.1 refl h.2 in
      let y : Some g.there ≡ Some (group L u) = sym g.there_is ∙ group-at-place S L ts cs both.there h.0 u r r.name h.1 refl h.3 in
      let a : g.here ≡ group K t = cc in
      let b : g.there ≡ group L u = cc in
      ap (λ (v : ℕ). base_of S (files S L) v d) (sym b) ∙ (base-same S K L g.here g.there g.same d same.tree_is ∙ ap (λ (v : ℕ). base_of S (files S K) v d) a)

  pub names-held : (r : Row) (t u : ℕ) → IsHeldBy r t u → (name_of K t ≡ r.name) × (name_of L u ≡ r.name)
  names-held r t u h = (place-here K both.here h.0 t r h.1 h.2, place-here L both.there h.0 u r h.1 h.3)

  base-by : (p : ℕ) (d : ℤ) → AreHeld S K L ts cs both p → base_answer (system_of S) L (holder L p) d ≡ base_answer (system_of S) K (holder K p) d
  base-by p d (inl f) = rw (f.0, f.1) refl
  base-by p d (inr f) =
      let h : IsHeldBy f.1 f.2 f.3 = (f.0, f.4, f.7, f.8) in
      let m = names-held f.1 f.2 f.3 h in
      rw (f.5, f.6, m.0, m.1, ended-same S K L ts cs both f.1.name) (go (ended K f.1.name) refl h)
    where
      go : (b : Bool) → ended K f.1.name ≡ b → IsHeldBy f.1 f.2 f.3 → base_said b (is_there (base_of S (files S L) (group L f.3) d)) ≡ base_said b (is_there (base_of S (files S K) (group K f.2) d))
      go true q h = refl
      go false q h = ap (λ (o : Option ℕ). base_said false (is_there o)) (held-base f.1 f.2 f.3 d h q)

  -- ---- reads and effects

  read-by : (x y : Option ℕ) (a n : ℕ) → IsSameMemory S K L x y → read_answer (system_of S) L y a n ≡ read_answer (system_of S) K x a n
  read-by (Some g) (Some h) a n m = reads-same S K L g h m.3 a n
  read-by None None a n m = refl
  read-by (Some g) None a n m = absurd m
  read-by None (Some h) a n m = absurd m

  spent-same : (cap : Option Cap) → is_spent L cap ≡ is_spent K cap
  spent-same None = refl
  spent-same (Some cap) = ap (nat_le cap.times) (same.spent_is cap.rule)

  outcome-same : (w : ℕ) (q : Request) → outcome S (files S L) w q ≡ outcome S (files S K) w q
  outcome-same w q =
      ap (λ (T : Tree). done (perform T (root S) ((files S L).base w) (effect q))) same.tree_is
      ∙ ap (λ (b : Option ℕ). done (perform (files S K).tree (root S) b (effect q))) (same.workers w).base

  -- ---- takes

  pub take-by : (w : ℕ) (x y : Option ℕ) → request_of K w ≡ x → request_of L w ≡ y → option_map (ask_at L) y ≡ option_map (ask_at K) x
      → take_step (install_at L y) (request_listed L y) ≡ take_step (install_at K x) (request_listed K x)
  take-by w (Some x) (Some y) a b q =
      take-told (install_of L y) (call_listed L (call_at L y))
      ∙ (ap take_of (sym (take-is S.firstid L cs both.there.calls both.there.asked (ids-differ S.firstid L both.there.calls_sound) w y b)
      ∙ take-is S.firstid K cs both.here.calls both.here.asked (ids-differ S.firstid K both.here.calls_sound) w x a)
      ∙ sym (take-told (install_of K x) (call_listed K (call_at K x))))
  take-by w None None a b q = refl
  take-by w (Some x) None a b q = cc
  take-by w None (Some y) a b q = cc

  take-same : (w : ℕ) → take_step (install_at L (request_of L w)) (request_listed L (request_of L w)) ≡ take_step (install_at K (request_of K w)) (request_listed K (request_of K w))
  take-same w = take-by w (request_of K w) (request_of L w) refl refl
      (sym (request-is S.firstid L cs both.there.calls both.there.asked (ids-differ S.firstid L both.there.calls_sound) w)
      ∙ request-is S.firstid K cs both.here.calls both.here.asked (ids-differ S.firstid K both.here.calls_sound) w)

  -- ---- each deed

  pub deed-step-same : (w : ℕ) (d : Deed) → deed_step (system_of S) L w d ≡ deed_step (system_of S) K w d
  deed-step-same w Deed.Recv = rw (count-same S K L ts cs both, recv-same) refl
  deed-step-same w (Deed.OpenMem p) = ap (λ (b : Bool). OpenMem p (if b then Ok tt else Err esrch)) (lives-same S K L ts cs both p)
  deed-step-same w (Deed.OpenBase p d) = ap (OpenBase p d) (base-by p d (holders-same S K L ts cs both p))
  deed-step-same w (Deed.Check x) = ap (Check x) (check-same S K L ts cs both x)
  deed-step-same w (Deed.Read a n) = ap (Read a n) (read-by (mem K w) (mem L w) a n (same.workers w).memory)
  deed-step-same w (Deed.Act q cap) = rw (spent-same cap, outcome-same w q) refl
  deed-step-same w (Deed.Plant a b cap) = rw (spent-same cap) refl
  deed-step-same w (Deed.AddfdPut a) = rw (put-same S K L ts cs both (system_of S) a) refl
  deed-step-same w Deed.AddfdTake = take-same w
  deed-step-same w (Deed.Send x back) = ap (Send x back) (send-same S K L ts cs both x)
  deed-step-same w Deed.LetGo = refl

  deed-same : (R : Rules) (w : ℕ) → IsSameSession (session K w) (session L w) → deed R (session L w) ≡ deed R (session K w)
  deed-same R w (inl q) = ap (deed R) q
  deed-same R w (inr q) = over-receives R (session L w) q.1 ∙ sym (over-receives R (session K w) q.0)

  -- ---- each step

  pub step-same : (R : Rules) (a : Actor) → step (system_of S) R L a ≡ step (system_of S) R K a
  unfolding step worker_step
  step-same R Start = refl
  step-same R (Task n) = task-step-same S K L ts cs both n (same.groups n) same.tree_is
  step-same R (Worker w) = deed-step-same w (deed R (session L w)) ∙ ap (deed_step (system_of S) K w) (deed-same R w (same.workers w).session)
  step-same R Listener = refl
