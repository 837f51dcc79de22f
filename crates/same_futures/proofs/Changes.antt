-- What a turn does to the groups is the same in two histories after which all goes on alike: nothing, a change of one group, or a copy of one.
-- By cases on the turn, with what an event makes of the state of groups.
use Rattle.std.proofs.Common.{◌≡◌, ◌⊎◌, inl, inr, ℕ, Bool, true, false, List, [], ◌∷◌, Option, Some, None, refl, sym, ap, ◌∙◌, subst}
use Rattle.std.specs.Prelude.{if◌then◌else◌, Result, Ok, Err}
use Rattle.hist_model.specs.Calls.{queue, settled}
use Rattle.hist_model.specs.Files.{files, request_for}
use Rattle.hist_model.specs.Legal.{system_of}
use Rattle.hist_model.specs.Look.{Name, task_name}
use Rattle.hist_model.specs.Memory.{group_named, last_call, own_group, stored, stored_by_call}
use Rattle.hist_model.specs.Natives.{native_answer, native_step}
use Rattle.hist_model.specs.Signals.{call_of, effect_in_call, effect_outside, next_signal}
use Rattle.hist_model.specs.Steps.{deliver_or, install_step, instr_step, living_step, next_child, next_instr, owes_native, place_or, reply, spawn_answer, task_step, wait_step}
use Rattle.hist_model.specs.Tasks.{alive, disposition, next_pid}
use Rattle.hist_model.specs.declared.event.Actor.{Actor}
use Rattle.hist_model.specs.declared.event.Actor.TheVariants.{Task}
use Rattle.hist_model.specs.declared.event.Event.{Event}
use Rattle.hist_model.specs.declared.event.SpawnKind.{SpawnKind}
use Rattle.hist_model.specs.declared.event.SpawnKind.TheVariants.{New, Copied, Shared}
use Rattle.hist_model.specs.declared.event.What.{What}
use Rattle.hist_model.specs.declared.event.What.TheVariants.{Spawn, Poke, Native, Install, Plant, Resume, Skip}
use Rattle.hist_model.specs.declared.request.Obj.{Obj}
use Rattle.hist_model.specs.declared.request.Obj.TheVariants.{Broker}
use Rattle.hist_model.specs.declared.script.Instr.{Instr}
use Rattle.hist_model.specs.declared.script.Instr.TheVariants.{Poke as IPoke, Fill as IFill, Call as ICall, Spawn as ISpawn, Thread as IThread, Kill as IKill, Handler as IHandler, Wait as IWait, Exit as IExit}
use Rattle.hist_model.specs.declared.script.Script.{Script}
use Rattle.history_frames.specs.Ordinals.{group_of, groups_made, makes_group}
use Rattle.task_groups.specs.Stands.{IsOther, KeepsSlots, bytes_done, slot_done, state}
use Rattle.task_groups.specs.State.{Agree, one_more, with_change, with_copy}
use Rattle.task_groups.proofs.Events.{copies_of, installs, natives, others, pokes}
use Rattle.tasks.specs.State.{Row, State}
use Rattle.listener.specs.State as call_state
use Rattle.same_futures.specs.Same.{Same}
use Rattle.same_futures.specs.Turns.{IsTaskTurn}
use Rattle.same_futures.proofs.KeptGroups.{none_live, state-of}
use Rattle.same_futures.proofs.Natives.{native-same}
use Rattle.same_futures.proofs.Tasks.{IsOf, entry-same, pid-same}

-- ---- what a task's step tells of the files

-- a native call answers what its step says, and no task is made with a new group
abbrev FileFacts : Script → List Event → Name → What → Type 0
FileFacts S K n (Native a) = a ≡ native_answer (native_step S K (files S K) n)
FileFacts S K n (Spawn m (Ok (pid, New))) = ⊥
FileFacts S K n (Plant a b cap answer) = ⊥
FileFacts S K n w = Unit {0}

wait-facts : (S : Script) (K : List Event) (n : Name) (a b : Option ℕ) → FileFacts S K n (wait_step K a b)
wait-facts S K n None b = tt
wait-facts S K n (Some c) None = tt
wait-facts S K n (Some c) (Some t) = tt

spawn-facts : (S : Script) (K : List Event) (n m : Name) (o : Option ℕ) (kind : SpawnKind) → (kind ≡ New → ⊥) → FileFacts S K n (Spawn m (spawn_answer o kind))
spawn-facts S K n m None kind h = tt
spawn-facts S K n m (Some p) New h = h refl
spawn-facts S K n m (Some p) Copied h = tt
spawn-facts S K n m (Some p) Shared h = tt

instr-facts : (S : Script) (K : List Event) (n : Name) (i : Option Instr) → FileFacts S K n (instr_step (system_of S) K n i)
instr-facts S K n None = tt
instr-facts S K n (Some (IPoke a b)) = tt
instr-facts S K n (Some (IFill a len b)) = tt
instr-facts S K n (Some (ICall nr args)) = tt
instr-facts S K n (Some (ISpawn p)) = spawn-facts S K n (next_child K n) (next_pid S.pidbase S.pidmax K) Copied (λ q. cc)
instr-facts S K n (Some (IThread p)) = spawn-facts S K n (next_child K n) (next_pid S.pidbase S.pidmax K) Shared (λ q. cc)
instr-facts S K n (Some (IKill whom s)) = tt
instr-facts S K n (Some (IHandler s m)) = tt
instr-facts S K n (Some IWait) = wait-facts S K n _ _
instr-facts S K n (Some IExit) = tt

install-facts : (S : Script) (K : List Event) (n : Name) (c : ℕ) (rs : List ℕ) → FileFacts S K n (install_step (system_of S) K c rs)
install-facts S K n c [] = tt
install-facts S K n c (r ∷ rs) = tt

living-facts : (S : Script) (K : List Event) (n : Name) (o : Option ℕ) → FileFacts S K n (living_step (system_of S) K n o)
living-facts S K n (Some c) = by (settled K c) (next_signal S.killable K n)
  where
    by : (b : Bool) (d : Option ℕ) → FileFacts S K n (if b then Resume (reply K c) else deliver_or d (λ s. effect_in_call s (disposition K n s)) (install_step (system_of S) K c (queue K c)))
    by true d = tt
    by false (Some s) = tt
    by false None = install-facts S K n c (queue K c)
living-facts S K n None = by (owes_native K n) (next_signal S.killable K n)
  where
    by : (b : Bool) (d : Option ℕ) → FileFacts S K n (if b then Native (native_answer (native_step S K (files S K) n)) else deliver_or d (λ s. effect_outside s (disposition K n s)) (instr_step (system_of S) K n (next_instr (system_of S) K n)))
    by true d = refl
    by false (Some s) = tt
    by false None = instr-facts S K n (next_instr (system_of S) K n)

pub file-facts : (S : Script) (K : List Event) (n : Name) (w : What) → w ≡ task_step (system_of S) K n → FileFacts S K n w
unfolding task_step
file-facts S K n w q = subst (λ (v : What). FileFacts S K n v) (sym q) (by (alive K n))
  where
    by : (b : Bool) → FileFacts S K n (if b then living_step (system_of S) K n (call_of K n) else Skip)
    by true = living-facts S K n (call_of K n)
    by false = tt

-- ---- the change

-- in both histories the event leaves each group as it was
abbrev pub LeavesGroups : Script → List Event → List Event → Event → Type 0
LeavesGroups S K L e = Agree (state-of S K) (state-of S (e ∷ K)) × Agree (state-of S L) (state-of S (e ∷ L)) × (makes_group e.what ≡ false)

-- it changes one in the same way
pub record ChangesGroup (S : Script) (K L : List Event) (e : Event) : Type 0 where
  pub group : ℕ
  pub bytes : Option (ℕ × List ℕ)
  pub slot : Option (ℕ × Option Obj)
  pub here : Agree (with_change group bytes slot (state-of S K)) (state-of S (e ∷ K))
  pub there : Agree (with_change group bytes slot (state-of S L)) (state-of S (e ∷ L))
  pub makes_none : makes_group e.what ≡ false

-- it makes one that begins with a copy of the group of a task that lives
pub record CopiesGroup (S : Script) (K L : List Event) (e : Event) (own : ℕ) : Type 0 where
  pub here : Agree (with_copy own (state-of S K)) (state S (e ∷ K) (one_more none_live (groups_made K)) none_live)
  pub there : Agree (with_copy own (state-of S L)) (state S (e ∷ L) (one_more none_live (groups_made L)) none_live)
  pub makes : makes_group e.what ≡ true

-- of a task of the group of an ordinal
abbrev pub TaskChange : Script → List Event → List Event → Event → ℕ → Type 0
TaskChange S K L e own = LeavesGroups S K L e ⊎ (ChangesGroup S K L e ⊎ CopiesGroup S K L e own)

leaves : (S : Script) (K L : List Event) (e : Event) → IsOther S K e.who e.what → IsOther S L e.who e.what → makes_group e.what ≡ false → LeavesGroups S K L e
leaves S K L e k l m = (others S K e none_live none_live k, others S L e none_live none_live l, m)

module _ (S : Script) (ts : State) (cs : call_state.State) (K L : List Event) (same : Same S ts cs K L) (e : Event) where
  stores-same : (n : Name) → stored_by_call S (last_call L n) ≡ stored_by_call S (last_call K n)
  stores-same n = let c = entry-same S K L ts cs same.states n in rw (c.0, c.1) refl

  -- ---- of a task

  module _ (t : IsTaskTurn S K e) (r : Row) (i : IsOf S K L ts cs same.states t.name r) where
    own-here : (g : ℕ) × (group_of K r.group ≡ Some g) × (group_named K t.name ≡ Some g)
    own-here = i.2.group_is

    own-there : (g : ℕ) × (group_of L r.group ≡ Some g) × (group_named L t.name ≡ Some g)
    own-there = i.3.group_is

    calm : (w : What) → e.what ≡ w → stored S K (Task t.name) w ≡ None → stored S L (Task t.name) w ≡ None → KeepsSlots S K (Task t.name) w → KeepsSlots S L (Task t.name) w → makes_group w ≡ false → TaskChange S K L e r.group
    calm w q a b c d m = inl (leaves S K L e (rw (t.who, q) (record { stores_none = a; slots = c })) (rw (t.who, q) (record { stores_none = b; slots = d })) (ap makes_group q ∙ m))

    native-change : (a : Result ℕ ℕ) → e.what ≡ Native a → TaskChange S K L e r.group
    native-change a q =
        let s = native_step S K (files S K) t.name in
        let f : a ≡ native_answer s = file-facts S K t.name (Native a) (sym q ∙ t.step) in
        let c = entry-same S K L ts cs same.states t.name in
        let g = same.groups t.name t.made t.lives in
        let j : native_step S L (files S L) t.name ≡ s = native-same S K L t.name g same.tree_is (pid-same S K L ts cs same.states t.name) (record { number = c.0; arguments = c.1 }) in
        inr (inl (record {
          group = r.group;
          bytes = bytes_done (stored_by_call S (last_call K t.name)) a;
          slot = slot_done s;
          here = natives S K e none_live none_live t.name r.group own-here.0 (stored_by_call S (last_call K t.name)) s a t.who q own-here.2 own-here.1 refl refl f;
          there = natives S L e none_live none_live t.name r.group own-there.0 (stored_by_call S (last_call K t.name)) s a t.who q own-there.2 own-there.1 (stores-same t.name) j f;
          makes_none = ap makes_group q;
        }))

    pub task-change : (source : (request_for L (call_of L t.name)).srcfd ≡ (request_for K (call_of K t.name)).srcfd) → (w : What) → e.what ≡ w → TaskChange S K L e r.group
    task-change source (Spawn m (Ok (pid, New))) q = absurd (file-facts S K t.name (Spawn m (Ok (pid, New))) (sym q ∙ t.step))
    task-change source (Spawn m (Ok (pid, Copied))) q = inr (inr (record {
      here = copies_of S K e none_live none_live r.group (record { spawn = record { name = m; pid = pid; is = q }; group = own-here.0; own = ap (λ (a : Actor). group_named K (task_name a)) t.who ∙ own-here.2; at = own-here.1 });
      there = copies_of S L e none_live none_live r.group (record { spawn = record { name = m; pid = pid; is = q }; group = own-there.0; own = ap (λ (a : Actor). group_named L (task_name a)) t.who ∙ own-there.2; at = own-there.1 });
      makes = ap makes_group q;
    }))
    task-change source (Spawn m (Ok (pid, Shared))) q = calm (Spawn m (Ok (pid, Shared))) q refl refl refl refl refl
    task-change source (Spawn m (Err x)) q = calm (Spawn m (Err x)) q refl refl tt tt refl
    task-change source (Poke a b) q = inr (inl (record {
      group = r.group;
      bytes = Some (a, b);
      slot = None;
      here = pokes S K e none_live none_live r.group a b (record { name = t.name; who = t.who; what = q; group = own-here.0; own = own-here.2; at = own-here.1 });
      there = pokes S L e none_live none_live r.group a b (record { name = t.name; who = t.who; what = q; group = own-there.0; own = own-there.2; at = own-there.1 });
      makes_none = ap makes_group q;
    }))
    task-change source (Native a) q = native-change a q
    task-change source (Install (Ok v)) q = inr (inl (record {
      group = r.group;
      bytes = None;
      slot = Some (v, Some (Broker (request_for K (call_of K t.name)).srcfd));
      here = installs S K e none_live none_live r.group own-here.0 (request_for K (call_of K t.name)) (Ok v) own-here.1 (record { what = q; own = ap (own_group K) t.who ∙ ap place_or own-here.2; source = ap (λ (a : Actor). (request_for K (call_of K (task_name a))).srcfd) t.who });
      there = installs S L e none_live none_live r.group own-there.0 (request_for K (call_of K t.name)) (Ok v) own-there.1 (record { what = q; own = ap (own_group L) t.who ∙ ap place_or own-there.2; source = ap (λ (a : Actor). (request_for L (call_of L (task_name a))).srcfd) t.who ∙ source });
      makes_none = ap makes_group q;
    }))
    task-change source (Plant a b limit answer) q = absurd (file-facts S K t.name (Plant a b limit answer) (sym q ∙ t.step))
    task-change source w q = calm w q refl refl tt tt refl
