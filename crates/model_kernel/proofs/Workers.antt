-- A kernel after an event: a step of a worker, or a skip of a task.
-- By the tables that took the step, and since it is other for the tasks.
use Rattle.std.proofs.Common.{◌≡◌, ℕ, ◌<◌, ◌^◌, true, false, ◌∷◌, refl, sym, ap, ◌∙◌, subst, not}
use Rattle.std.proofs.lemmas.Bool.{and_parts, not-true}
use Rattle.hist_model.specs.Kinds.{closes, makes, notifies}
use Rattle.hist_model.specs.Look.{is_task}
use Rattle.history_frames.specs.Ordinals.{tasks_made}
use Rattle.listener.specs.Stands as listener
use Rattle.listener.proofs.Stand.{stands-other}
use Rattle.mount_tree.specs.Changes.{Seen}
use Rattle.task_groups.specs.Stands as groups
use Rattle.tasks.specs.Sound.{IsOther, keeps_tasks}
use Rattle.tasks.specs.Stands as tasks
use Rattle.tasks.proofs.Frames.{never}
use Rattle.tasks.proofs.Told as tasking
use Rattle.model_kernel.proofs.Words.{ev, Event, Groups, IsAfter, IsKernel, IsServed, Kernel, Listener, living_in, memories_in, Name, past, Resources, Skip, Spawn, SpentRows, Task, What, Worker}
use Rattle.model_kernel.specs.Kinds.{is_listening, leaves_tasks}
use Rattle.model_kernel.specs.Spent.{SameTimes}
use Rattle.model_kernel.specs.Stands as resources
use Rattle.model_kernel.proofs.NativeCalls.{regrouped}
use Rattle.model_kernel.proofs.Numbers.{same-number}
use Rattle.model_kernel.proofs.Others.{groups-kept, heard, stepped}

-- the kernel whose tables have taken an event, once that is appended
pub appended : (old mid new : Kernel) (e : Event) → mid.script ≡ old.script → past mid ≡ past old → past new ≡ e ∷ past mid → new ≡ record mid { history = new.history }
    → tasks.StandsFor old.script (e ∷ past old) mid.tasks → resources.StandsFor old.script (e ∷ past old) (living_in mid.tasks) mid.resources → tasks_made (e ∷ past old) < 2 ^ 32 → IsAfter old e new
appended old mid new e kept before events same t r few =
    let script : new.script ≡ old.script = ap (λ (x : Kernel). x.script) same ∙ kept in
    let tasks : new.tasks ≡ mid.tasks = ap (λ (x : Kernel). x.tasks) same in
    let resources : new.resources ≡ mid.resources = ap (λ (x : Kernel). x.resources) same in
    let after : past new ≡ e ∷ past old = events ∙ ap (λ K. e ∷ K) before in
    record { kernel = record { tasks = rw (script, tasks, after) t; resources = rw (script, tasks, resources, after) r; few = rw after few }; script = script; events = after }

-- ---- A worker's step

-- it is other for the tasks, and makes none
other : (w : ℕ) (what : What) → leaves_tasks what ≡ true → IsOther (ev (Worker w) what)
other w what h =
    let (keeps, rest) = and_parts (keeps_tasks what) _ h in
    let (calls, stays) = and_parts (not (notifies what)) _ rest in
    record { no_step = λ n. refl; keeps = keeps; no_call = not-true (notifies what) calls; no_close = not-true (closes what) stays }

makes-none : (what : What) → keeps_tasks what ≡ true → makes what ≡ false
makes-none (Spawn child answer) h = cc
makes-none what h = refl

-- the kernel after a step that its tables took, which was noted with the answer that is expected
pub noted : (old mid new : Kernel) (w : ℕ) (expected what : What) → IsKernel old → leaves_tasks what ≡ true → what ≡ expected → IsServed old w what mid → past new ≡ ev (Worker w) what ∷ past mid → new ≡ record mid { history = new.history } → IsAfter old (ev (Worker w) expected) new
noted old mid new w expected what k leaves answer s events same =
    let e = ev (Worker w) what in
    let tasks : mid.tasks ≡ old.tasks = ap (λ (x : Kernel). x.tasks) s.rest in
    subst (λ x. IsAfter old (ev (Worker w) x) new) answer
    (appended old mid new e (ap (λ (x : Kernel). x.script) s.rest) (ap past s.rest) events same (rw tasks (tasking.stands-other old.script (past old) e old.tasks k.tasks (other w what leaves))) (rw tasks s.resources)
    (rw (same-number e (past old) (makes-none what (and_parts (keeps_tasks what) _ leaves).0)) k.few))

-- the same for a step that tells the answer that the tables gave
pub taken : {A : Type 0} (old mid new : Kernel) (w : ℕ) (tells : A → What) (expected answer told : A) → IsKernel old → leaves_tasks (tells told) ≡ true → told ≡ answer → answer ≡ expected → IsServed old w (tells answer) mid
    → past new ≡ ev (Worker w) (tells told) ∷ past mid → new ≡ record mid { history = new.history } → IsAfter old (ev (Worker w) (tells expected)) new
taken old mid new w tells expected answer told k leaves t a s events same = noted old mid new w (tells expected) (tells told) k leaves (ap tells (t ∙ a)) (subst (λ x. IsServed old w (tells x) mid) (sym t) s) events same

-- the tables took a step
pub serves : (k : Kernel) (w : ℕ) (what : What) (R : Resources) → resources.StandsFor k.script (ev (Worker w) what ∷ past k) (living_in k.tasks) R → IsServed k w what (record k { resources = R })
serves k w what R r = record { rest = refl; resources = r }

-- a step changes the listener alone
pub heeded : (k : Kernel) (w : ℕ) (what : What) (L : Listener) → IsKernel k → is_listening what ≡ true → listener.StandsFor k.script.firstid (ev (Worker w) what ∷ past k) L → IsServed k w what (record k { resources = record k.resources { listener = L } })
heeded k w what L i h l = record { rest = refl; resources = heard k.script (past k) (living_in k.tasks) k.resources i.resources w what L h l }

-- or nothing
pub idle : (k : Kernel) (w : ℕ) (what : What) → IsKernel k → is_listening what ≡ true → listener.IsOther (past k) (ev (Worker w) what) → IsServed k w what k
idle k w what i h o = heeded k w what k.resources.listener i h (stands-other k.script.firstid (past k) k.resources.listener i.resources.listener (ev (Worker w) what) o)

-- the kernel after a step that changes nothing
pub idled : (old new : Kernel) (w : ℕ) (expected what : What) → IsKernel old → is_listening what ≡ true → what ≡ expected → past new ≡ ev (Worker w) what ∷ past old → new ≡ record old { history = new.history }
    → listener.IsOther (past old) (ev (Worker w) what) → IsAfter old (ev (Worker w) expected) new
idled old new w expected what k h answer events same o = noted old old new w expected what k (and_parts (leaves_tasks what) _ h).0 answer (idle old w what k h o) events same

-- ---- A task's skip, and room

pub skipped : (old new : Kernel) (n : Name) → IsKernel old → past new ≡ ev (Task n) Skip ∷ past old → new ≡ record old { history = new.history } → IsAfter old (ev (Task n) Skip) new
skipped old new n k events same =
    let e = ev (Task n) Skip in
    let S = old.script in
    let K = past old in
    let R = old.resources in
    let T = k.resources in
    appended old old new e refl refl events same (tasking.stands-other S K e old.tasks k.tasks (record { no_step = λ m. never (is_task (Task n) m); keeps = refl; no_call = refl; no_close = refl }))
    (stepped S K (living_in old.tasks) R T n Skip (living_in old.tasks) R.groups R.listener refl (groups-kept S K (living_in old.tasks) R T e refl) (stands-other S.firstid K R.listener T.listener e tt))
    (rw (same-number e K refl) k.few)

-- the kernel with tables that have more room for an effect
pub roomier : (k : Kernel) (G : Groups) (U : Seen) (spent : SpentRows) → IsKernel k → (groups.StandsFor k.script (past k) (living_in k.tasks) (memories_in k.resources.workers) k.resources.groups → groups.StandsFor k.script (past k) (living_in k.tasks) (memories_in k.resources.workers) G)
    → U.tree ≡ k.resources.tree.tree → SameTimes k.resources.spent spent → IsKernel (record k { resources = record k.resources { groups = G; tree = U; spent = spent } })
roomier k G U spent i g tree times = record {
  tasks = i.tasks;
  resources = regrouped k.script (past k) (living_in k.tasks) k.resources i.resources (living_in k.tasks) G k.resources.listener U spent (g i.resources.groups) i.resources.listener tree (λ rule. times rule ∙ i.resources.spent rule);
  few = i.few;
}
