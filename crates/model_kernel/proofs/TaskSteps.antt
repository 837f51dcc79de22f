-- A kernel after a step of a task.
-- By the tasks and the other tables, which all took the step.
use Rattle.std.proofs.Common.{◌≡◌, ◌+◌, ◌<◌, ◌==◌, ◌&&◌, ◌^◌, ℕ, Bool, true, false, not, if◌then◌else◌, List, ◌∷◌, Some, None, Option, refl, sym, ap, ◌∙◌, arith, subst, ℤ}
use Rattle.hist_model.specs.Calls.{id, fetched}
use Rattle.hist_model.specs.Kinds.{ends, exits, leaves, makes, skips}
use Rattle.hist_model.specs.declared.event.Delivered.{Delivered}
use Rattle.hist_model.specs.declared.event.SpawnKind.{SpawnKind}
use Rattle.hist_model.specs.declared.event.SpawnKind.TheVariants.{Shared}
use Rattle.hist_model.specs.declared.event.Entered.{Entered}
use Rattle.hist_model.specs.declared.event.Entered.TheVariants.{Allow, Fails, Kill, Log, NoSys, Notify}
use Rattle.hist_model.specs.Steps.{deliver_or, spawn_answer}
use Rattle.tasks.specs.Stands.{HasRoom, IsReap, delivery, one_made, ended_at, group_at, one_ended}
use Rattle.tasks.specs.Sound.{keeps_tasks, IsStepOf}
use Rattle.history_frames.specs.Ordinals.{tasks_made}
use Rattle.model_kernel.proofs.Words.{Actor, Acts, alike, Deliver, due_step, Enter, ev, Event, Exit, Groups, IsKernel, Kernel, Listener, living_in, MayStep, memories_in, Name, named, past, Reap, Resources, Script, signal_due, Spawn, state, step_by, Tasks, WaitsIn, What}
use Rattle.model_kernel.specs.Kinds.{keeps_groups, keeps_tree}
use Rattle.model_kernel.specs.Stands as resources
use Rattle.model_kernel.proofs.Opened.{added, live, taken}
use Rattle.model_kernel.proofs.Others.{groups-kept, groups-stay, stepped}
use Rattle.listener.specs.Stands as listener
use Rattle.hist_model.specs.Signals.{call_of, held, is_fetched_call}
use Rattle.listener.specs.Stands.{IsEntry, IsLeaving, IsListedAs}
use Rattle.listener.proofs.Folds.{call-is}
use Rattle.listener.proofs.Stand.{stands-other}
use Rattle.task_groups.specs.Groups.{IsLive}
use Rattle.task_groups.specs.Stands as groups
use Rattle.task_groups.specs.Stands.{IsSpawn}
use Rattle.task_groups.specs.State.{one_less, one_more}
use Rattle.tasks.specs.Stands as tasks
use Rattle.tasks.proofs.Counted.{living_in-most, living_in-some}
use Rattle.tasks.proofs.Told.{ended-is, made-is}
use Rattle.model_kernel.proofs.Numbers.{one-number, room-number, same-number}
use Rattle.model_kernel.specs.Steps.{IsDeliveredFirst, delivered, is_unlisted, left_by}

-- the event is the task's own step
pub own : (k : Kernel) (o : ℕ) (w : What) → MayStep k o → due_step k o ≡ w → IsStepOf k.script (past k) (step_by k o w) o
own k o w m due = record { there = m.made; who = refl; step = sym due; few = m.few }

-- the call in which a task waits is taken off the list by its step
pub leaving : (k : Kernel) (o c x : ℕ) (what : What) → MayStep k o → WaitsIn k o c x → leaves what ≡ true → IsLeaving (past k) (step_by k o what) x
leaving k o c x what m w l = record { name = named k o; who = refl; place = c; call_is = w.call_is; id_is = w.id_is; is = l }

-- a step that makes no task leaves their number small
pub few-stay : (k : Kernel) (e : Event) → IsKernel k → makes e.what ≡ false → tasks_made (e ∷ past k) < 2 ^ 32
few-stay k e i h = rw (same-number e (past k) h) i.few

-- a task that may step hasn't ended
pub not-ended : (k : Kernel) (o : ℕ) → MayStep k o → ended_at k.tasks o ≡ false
not-ended k o m = ended-is k.script (past k) k.tasks o m.kernel.tasks m.made ∙ m.lives

-- a living task counts in its group
pub counts : (k : Kernel) (o : ℕ) → MayStep k o → IsLive k.resources.groups (group_at k.tasks o)
counts k o m = live k.script (past k) (living_in k.tasks) k.resources m.kernel.resources (group_at k.tasks o) (living_in-some k.tasks o (not-ended k o m))
    (let most = living_in-most k.tasks (group_at k.tasks o) in omega (arith, m.kernel.few, made-is k.script (past k) k.tasks m.kernel.tasks, most))

-- a step that ends no task leaves all counts
pub same-counts : (T new : Tasks) (o : ℕ) (w : What) → ends w ≡ false → ((g : ℕ) → living_in new g + one_ended T o w g ≡ living_in T g) → (g : ℕ) → living_in new g ≡ living_in T g
same-counts T new o w e h g =
    let none : one_ended T o w g ≡ 0 = ap (λ b. if b && (not (ended_at T o) && (group_at T o == g)) then 1 else 0) e in
    omega (arith, h g)

-- a step that ends its task takes one from its group
pub one-fewer : (T new : Tasks) (o : ℕ) (w : What) → ends w ≡ true → ended_at T o ≡ false → ((g : ℕ) → living_in new g + one_ended T o w g ≡ living_in T g) → (g : ℕ) → living_in new g ≡ one_less (living_in T) (group_at T o) g
one-fewer T new o w e lives h g =
    let one : one_ended T o w g ≡ (if group_at T o == g then 1 else 0) = ap (λ b. if b && (not (ended_at T o) && (group_at T o == g)) then 1 else 0) e ∙ ap (λ b. if not b && (group_at T o == g) then 1 else 0) lives in
    taken (living_in new g) (living_in T g) (group_at T o) g (ap (λ z. living_in new g + z) (sym one) ∙ h g)

-- ---- after such a step

-- a step changes the counts by what it ends
pub counted : (k : Kernel) (o group : ℕ) (w : What) (new : Tasks) → MayStep k o → group ≡ group_at k.tasks o → ((g : ℕ) → living_in new g + one_ended k.tasks o w g ≡ living_in k.tasks g) → (g : ℕ) → living_in new g ≡ left_by w (living_in k.tasks) group g
counted k o group w new m is h g = rw is (by (ends w) refl)
  where
    by : (b : Bool) → ends w ≡ b → living_in new g ≡ left_by w (living_in k.tasks) (group_at k.tasks o) g
    by true e = rw e (one-fewer k.tasks new o w e (not-ended k o m) h g)
    by false e = rw e (same-counts k.tasks new o w e h g)

module _ (k : Kernel) (o : ℕ) (w : What) (T : Tasks) (m : MayStep k o) (due : due_step k o ≡ w) where
  -- the tasks and all other tables took the step
  pub took : (R : Resources) → skips w ≡ false → makes w ≡ false → (IsStepOf k.script (past k) (step_by k o w) o → tasks.StandsFor k.script (step_by k o w ∷ past k) T)
      → resources.StandsFor k.script (step_by k o w ∷ past k) (living_in T) R → Acts k o w (record k { tasks = T; resources = R })
  took R steps none t r = record { due = due; steps = steps; rest = refl; tasks = t (own k o w m due); resources = r; number = few-stay k (step_by k o w) m.kernel none }

  -- of those, the groups and the listener changed
  pub acted : (living' : ℕ → ℕ) (G : Groups) (L : Listener) → skips w ≡ false → makes w ≡ false → keeps_tree w ≡ true → (IsStepOf k.script (past k) (step_by k o w) o → tasks.StandsFor k.script (step_by k o w ∷ past k) T)
      → ((g : ℕ) → living_in T g ≡ living' g) → groups.StandsFor k.script (step_by k o w ∷ past k) living' (memories_in k.resources.workers) G → listener.StandsFor k.script.firstid (step_by k o w ∷ past k) L
      → Acts k o w (record k { tasks = T; resources = record k.resources { groups = G; listener = L } })
  acted living' G L steps none keeps t counts g l =
      took (record k.resources { groups = G; listener = L }) steps none t
      (stepped k.script (past k) (living_in k.tasks) k.resources m.kernel.resources (named k o) w (living_in T) G L keeps
      (alike (state k.script (step_by k o w ∷ past k) living' (memories_in k.resources.workers)) (living_in T) (memories_in k.resources.workers) G g counts (λ x. refl)) l)

-- the groups and the listener, as they are, after a step that is other for them
pub groups-other : (k : Kernel) (o : ℕ) (w : What) → IsKernel k → keeps_groups w ≡ true → groups.StandsFor k.script (step_by k o w ∷ past k) (living_in k.tasks) (memories_in k.resources.workers) k.resources.groups
groups-other k o w i h = groups-kept k.script (past k) (living_in k.tasks) k.resources i.resources (step_by k o w) h

pub listener-other : (k : Kernel) (o : ℕ) (w : What) → IsKernel k → listener.IsOther (past k) (step_by k o w) → listener.StandsFor k.script.firstid (step_by k o w ∷ past k) k.resources.listener
listener-other k o w i h = stands-other k.script.firstid (past k) k.resources.listener i.resources.listener (step_by k o w) h

-- ---- deliveries

-- the step is a delivery
pub record IsDelivery (w : What) : Type 0 where
  pub sig : ℕ
  pub effect : Delivered
  pub is : w ≡ Deliver sig effect

-- what was delivered is the task's next step
pub due-delivered : (k : Kernel) (o : ℕ) (in_call : Bool) (w : What) → IsDeliveredFirst k o in_call → Some w ≡ delivery (past k) (named k o) in_call (signal_due k o) → (due_step k o ≡ w) × IsDelivery w
due-delivered k o in_call w (other, due) q = by (signal_due k o) due q
  where
    by : (d : Option ℕ) → due_step k o ≡ deliver_or d (delivered k o in_call) other → Some w ≡ delivery (past k) (named k o) in_call d → (due_step k o ≡ w) × IsDelivery w
    by (Some sig) due q = let is : w ≡ Deliver sig (delivered k o in_call sig) = cc in (due ∙ sym is, record { sig = sig; effect = delivered k o in_call sig; is = is })
    by None due q = cc

-- where nothing was delivered, no signal is due
pub none-due : (k : Kernel) (o : ℕ) (in_call : Bool) → None ≡ delivery (past k) (named k o) in_call (signal_due k o) → signal_due k o ≡ None
none-due k o in_call q = by (signal_due k o) q
  where
    by : (d : Option ℕ) → None ≡ delivery (past k) (named k o) in_call d → d ≡ None
    by (Some sig) q = cc
    by None q = refl

-- a delivery elsewhere than in a listed call is other for the listener
pub delivery-other : (k : Kernel) (o : ℕ) (w : What) → call_of (past k) (named k o) ≡ None → IsDelivery w → listener.IsOther (past k) (step_by k o w)
delivery-other k o w none d = subst (λ x. listener.IsOther (past k) (step_by k o x)) (sym d.is) (record { name = named k o; who = refl; none = none })

-- no signal is held back outside of a listed call; in one, they are where its listener is killable and it was received
pub not-held : (killable : Bool) (K : List Event) (n : Name) → call_of K n ≡ None → false ≡ held killable K n
not-held true K n h = rw h refl
not-held false K n h = refl

pub held-in : (killable : Bool) (K : List Event) (n : Name) (c : ℕ) → call_of K n ≡ Some c → (killable && fetched K c) ≡ held killable K n
held-in killable K n c h = ap (λ x. killable && is_fetched_call K x) (sym h)

-- the call in which a task waits is listed under its id
pub listed-as : (k : Kernel) (o c x : ℕ) → WaitsIn k o c x → IsListedAs (past k) c x
listed-as k o c x w = record { on = (call-is (past k) (named k o) c w.call_is).0; id_is = w.id_is }

-- ---- ends and entries

-- the step leaves the groups' tables, the tree, the caps, the listed calls and the number of tasks as they are
pub record IsPlain (K : List Event) (a : Actor) (w : What) : Type 0 where
  pub keeps : keeps_groups w ≡ true
  pub tree : keeps_tree w ≡ true
  pub other : listener.IsOther K (ev a w)
  pub makes_none : makes w ≡ false
  pub is_step : skips w ≡ false

pub exit-plain : (K : List Event) (a : Actor) (w : What) → exits w ≡ true → IsPlain K a w
exit-plain K a Exit h = record { keeps = refl; tree = refl; other = tt; makes_none = refl; is_step = refl }
exit-plain K a (Enter nr args Kill) h = record { keeps = refl; tree = refl; other = tt; makes_none = refl; is_step = refl }
exit-plain K a _ h = cc

-- entering a call that isn't listed is such a step, keeps the tasks, and ends none
pub record IsPlainEntry (K : List Event) (a : Actor) (w : What) : Type 0 where
  pub plain : IsPlain K a w
  pub keeps : keeps_tasks w ≡ true
  pub ends_none : ends w ≡ false

pub entry-plain : (K : List Event) (a : Actor) (nr : ℤ) (args : List ℕ) (v : Entered) → is_unlisted v ≡ true → IsPlainEntry K a (Enter nr args v)
entry-plain K a nr args (Notify id) h = cc
entry-plain K a nr args Kill h = cc
entry-plain K a nr args Allow h = record { plain = record { keeps = refl; tree = refl; other = tt; makes_none = refl; is_step = refl }; keeps = refl; ends_none = refl }
entry-plain K a nr args Log h = record { plain = record { keeps = refl; tree = refl; other = tt; makes_none = refl; is_step = refl }; keeps = refl; ends_none = refl }
entry-plain K a nr args (Fails e) h = record { plain = record { keeps = refl; tree = refl; other = tt; makes_none = refl; is_step = refl }; keeps = refl; ends_none = refl }
entry-plain K a nr args NoSys h = record { plain = record { keeps = refl; tree = refl; other = tt; makes_none = refl; is_step = refl }; keeps = refl; ends_none = refl }

-- the task, which waits in no listed call, enters one
pub entering : (k : Kernel) (o x : ℕ) (nr : ℤ) (args : List ℕ) → MayStep k o → call_of (past k) (named k o) ≡ None → IsEntry (past k) (step_by k o (Enter nr args (Notify x))) (record { ordinal = o }) x
entering k o x nr args m none = record { made = m.made; who = refl; nr = nr; args = args; is = refl; free = none }

-- ---- threads and processes

-- a spawn that made a task
pub spawn-made : (e : Event) (child : Name) (d : Option ℕ) (kind : SpawnKind) → e.what ≡ Spawn child (spawn_answer d kind) → makes e.what ≡ true → IsSpawn e kind
spawn-made e child (Some p) kind is h = record { name = child; pid = p; is = is }
spawn-made e child None kind is h = let none : makes e.what ≡ false = ap makes is in cc

-- the kernel after a step that is to make a task in a group
pub spawned : (k : Kernel) (o : ℕ) (w : What) (T : Tasks) (G : Groups) (group : ℕ) (child : Name) (d : Option ℕ) (kind : SpawnKind) → MayStep k o → HasRoom k.tasks o → due_step k o ≡ w → w ≡ Spawn child (spawn_answer d kind)
    → tasks.StandsFor k.script (step_by k o w ∷ past k) T → ((g : ℕ) → living_in T g ≡ living_in k.tasks g + one_made w group g)
    → (makes w ≡ true → groups.StandsFor k.script (step_by k o w ∷ past k) (one_more (living_in k.tasks) group) (memories_in k.resources.workers) G)
    → (makes w ≡ false → G ≡ k.resources.groups) → Acts k o w (record k { tasks = T; resources = record k.resources { groups = G } })
spawned k o w T G group child d kind m room due is t h made refused = record {
  due = due;
  steps = rw is refl;
  rest = refl;
  tasks = t;
  resources = stepped k.script (past k) (living_in k.tasks) k.resources m.kernel.resources (named k o) w (living_in T) G k.resources.listener (rw is refl) (stand d is) (listener-other k o w m.kernel (rw is tt));
  number = one-number (step_by k o w) (past k) (room-number k.script (past k) k.tasks o m.kernel.tasks room);
}
  where
    add-zero : (n : ℕ) → n + 0 ≡ n
    add-zero n = omega arith

    counted-so : (living : ℕ → ℕ) (H : Groups) → groups.StandsFor k.script (step_by k o w ∷ past k) living (memories_in k.resources.workers) H → ((g : ℕ) → living_in T g ≡ living g) → groups.StandsFor k.script (step_by k o w ∷ past k) (living_in T) (memories_in k.resources.workers) H
    counted-so living H g same = alike (state k.script (step_by k o w ∷ past k) living (memories_in k.resources.workers)) (living_in T) (memories_in k.resources.workers) H g same (λ x. refl)

    stand : (d : Option ℕ) → w ≡ Spawn child (spawn_answer d kind) → groups.StandsFor k.script (step_by k o w ∷ past k) (living_in T) (memories_in k.resources.workers) G
    stand (Some p) is = counted-so (one_more (living_in k.tasks) group) G (made (ap makes is)) (λ g. added (living_in T g) (living_in k.tasks g) group g (h g ∙ ap (λ x. living_in k.tasks g + one_made x group g) is))
    stand None is = rw (refused (ap makes is)) (counted-so (living_in k.tasks) k.resources.groups (groups-other k o w m.kernel (ap keeps_groups is)) (λ g. h g ∙ (ap (λ x. living_in k.tasks g + one_made x group g) is ∙ add-zero (living_in k.tasks g))))

-- a wait that answers is plain
pub reap-plain : (K : List Event) (a : Actor) (w : What) → IsReap w → IsPlain K a w
reap-plain K a (Reap answer) h = record { keeps = refl; tree = refl; other = tt; makes_none = refl; is_step = refl }
reap-plain K a _ h = absurd h

-- a step is what it is equal to
pub step-answered : (k : Kernel) (o : ℕ) (w answer : What) (new : Kernel) → answer ≡ w → Acts k o w new → Acts k o answer new
step-answered k o w answer new q a = subst (λ x. Acts k o x new) (sym q) a

-- the groups after a task was made in the group of its parent, which it joined
pub thread-joins : (S : Script) (K : List Event) (e : Event) (living handles : ℕ → ℕ) (G : Groups) → IsSpawn e Shared → groups.StandsFor S K living handles G → groups.StandsFor S (e ∷ K) living handles G
thread-joins S K e living handles G i g = groups-stay S K living handles e G g (record { stores_none = rw i.is refl; slots = rw i.is refl })
