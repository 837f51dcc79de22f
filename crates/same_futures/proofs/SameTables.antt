-- After the histories of two kernels with the same tables all goes on alike.
-- By what each table says of the history that it stands for.
use Rattle.std.proofs.Common.{◌≡◌, inl, ℕ, ◌+◌, ◌<◌, Bool, true, false, List, Option, Some, None, refl, sym, ap, ◌∙◌, subst, arith}
use Rattle.std.specs.Prelude.{slice_get}
use Rattle.std.proofs.lemmas.Option.{slice_get-map}
use Rattle.hist_model.specs.Files.{files}
use Rattle.hist_model.specs.Look.{Name}
use Rattle.hist_model.specs.Memory.{group_named}
use Rattle.hist_model.specs.Steps.{mem}
use Rattle.hist_model.specs.Tasks.{ended, is_made}
use Rattle.hist_model.specs.Trees.{ordinal_of}
use Rattle.hist_model.specs.declared.event.Event.{Event}
use Rattle.hist_model.specs.declared.script.Script.{Script}
use Rattle.history_frames.specs.Ordinals.{groups_made, task_name_of, tasks_made}
use Rattle.listener.specs.Listeners as listener
use Rattle.listener.specs.State as call_state
use Rattle.model_kernel.specs.Kernels.{IsKernel, past}
use Rattle.model_kernel.specs.Rows.{row_of}
use Rattle.model_kernel.specs.Stands.{IsMemory, memories_in}
use Rattle.model_kernel.specs.declared.kernel.Kernel.{Kernel}
use Rattle.model_kernel.specs.declared.rows.WorkerRow.{WorkerRow}
use Rattle.model_kernel.proofs.Opened.{memories-some}
use Rattle.task_groups.specs.Keys.{HaveSame, HoldSame}
use Rattle.task_groups.specs.Pages.{byte_in}
use Rattle.task_groups.specs.Rows.{Row as GroupRow, row_at}
use Rattle.task_groups.specs.declared.groups.Groups.{Groups}
use Rattle.task_groups.specs.Stands.{state}
use Rattle.task_groups.proofs.KeyParts.{held_same}
use Rattle.tasks.specs.State.{Row, State}
use Rattle.tasks.specs.Stands.{ended_at, ended_in, group_at, group_in, living_in}
use Rattle.tasks.specs.Table as tasks
use Rattle.tasks.specs.Table.{Member, row_in, table_of, task_at}
use Rattle.tasks.proofs.Counted.{living_in-some}
use Rattle.tasks.proofs.Folds.{row-there}
use Rattle.tasks.proofs.Named.{made-ordinal}
use Rattle.same_futures.specs.Groups.{SameGroupOf}
use Rattle.same_futures.specs.Kernels.{AreAlike, HasStatesOf, StandForStates, calls_of, names_in, tasks_of}
use Rattle.same_futures.specs.Same.{Same}
use Rattle.same_futures.specs.States.{HasStates}
use Rattle.same_futures.specs.Workers.{IsSameMemory}
use Rattle.same_futures.proofs.KeptGroups.{HaveBytes, HaveSlots, bytes-at, group-at}

-- ---- The states of one kernel

module _ (k : Kernel) (i : IsKernel k) where
  named : (o : ℕ) → o < tasks_made (past k) → names_in (tasks_of k) o ≡ task_name_of (past k) o
  named o l =
      let looks = i.tasks.is_table.looks in
      let r = row-there k.script (past k) (tasks_of k) o looks l in
      rw r.1 (looks.rows o r.0 r.1).name_is

  pub has-states : HasStates k.script (past k) (tasks_of k) (calls_of k)
  has-states = record {
    tasks = i.tasks.is_table.looks;
    tasks_sound = i.tasks.is_table.sound;
    calls = i.resources.listener.looks (names_in (tasks_of k)) named;
    calls_sound = i.resources.listener.sound;
    asked = i.resources.listener.asked;
  }

-- a task that lives is counted in its group
abbrev group_or : Option Row → ℕ
group_or (Some r) = r.group
group_or None = 0

abbrev ended_or : Option Row → Bool
ended_or (Some r) = r.ended
ended_or None = true

lives-in : (k : Kernel) (o : ℕ) (r : Row) → slice_get (tasks_of k).rows o ≡ Some r → r.ended ≡ false → 0 < living_in k.tasks r.group
lives-in k o r at alive = by (task_at (table_of k.tasks) o) refl
  where
    by : (t : Option Member) → task_at (table_of k.tasks) o ≡ t → 0 < living_in k.tasks r.group
    by None q = let z : None ≡ Some r = sym (slice_get-map (row_in (table_of k.tasks).tasks) (table_of k.tasks).tasks o ∙ rw q refl) ∙ at in cc
    by (Some t) q =
        let z : Some (row_in (table_of k.tasks).tasks t) ≡ Some r = sym (slice_get-map (row_in (table_of k.tasks).tasks) (table_of k.tasks).tasks o ∙ rw q refl) ∙ at in
        let group : group_at k.tasks o ≡ r.group = ap group_in q ∙ ap group_or z in
        let d : ended_at k.tasks o ≡ false = ap ended_in q ∙ (ap ended_or z ∙ alive) in
        subst (λ (g : ℕ). 0 < living_in k.tasks g) group (living_in-some k.tasks o d)

pub stand-for-states : StandForStates
stand-for-states k i = has-states k i

-- ---- Two kernels

module _ (a b : Kernel) (s : AreAlike a b) where
  abbrev S : Script
  S = a.script

  abbrev K : List Event
  K = past a

  abbrev L : List Event
  L = past b

  held : HoldSame (state a.script K (living_in a.tasks) (memories_in a.resources.workers)) (state b.script L (living_in b.tasks) (memories_in b.resources.workers))
  held = held_same a.resources.groups b.resources.groups _ _ s.tables.groups s.here.resources.groups s.there.resources.groups (ap (λ (T : Script). T.map) (sym s.script_is))

  made-same : groups_made L ≡ groups_made K
  made-same = sym held.made

  tasks-are : tasks_of b ≡ tasks_of a
  tasks-are = ap (tasks.view (tasks.table_of b.tasks)) made-same ∙ sym (s.tables.tasks (groups_made K))

  calls-are : calls_of b ≡ calls_of a
  calls-are = ap (λ (t : State). listener.view b.resources.listener (names_in t)) tasks-are ∙ sym (s.tables.calls (names_in (tasks_of a)))

  pub has-states-of : HasStatesOf a b
  has-states-of = record { tasks_are = tasks-are; calls_are = calls-are }

  there : HasStates S L (tasks_of a) (calls_of a)
  there = rw s.script_is at (subst (λ (c : call_state.State). HasStates b.script L (tasks_of a) c) calls-are (subst (λ (t : State). HasStates b.script L t (calls_of b)) tasks-are (has-states b s.there)))

  here : HasStates S K (tasks_of a) (calls_of a)
  here = has-states a s.here

  -- ---- groups

  have-bytes : (o : ℕ) → 0 < living_in a.tasks o + memories_in a.resources.workers o → 0 < living_in b.tasks o + memories_in b.resources.workers o → HaveBytes S K L o
  have-bytes o k l x m = sym (rw s.script_is at (held.bytes o k l x m))

  have-slots : (o : ℕ) → 0 < living_in a.tasks o → 0 < living_in b.tasks o → HaveSlots S K L o
  have-slots o k l n = sym (rw s.script_is at (held.slots o k l n))

  group-same : (n : Name) → is_made K n ≡ true → ended K n ≡ false → SameGroupOf S K L n
  group-same n m d =
      let p = made-ordinal K n m in
      let r = row-there S K (tasks_of a) p.0 here.tasks p.1 in
      let k = here.tasks.rows p.0 r.0 r.1 in
      let l = there.tasks.rows p.0 r.0 r.1 in
      let name : r.0.name ≡ n = k.name_is ∙ p.2 in
      let alive : r.0.ended ≡ false = k.is_row.ended_is ∙ (ap (ended K) name ∙ d) in
      let x : 0 < living_in a.tasks r.0.group = lives-in a p.0 r.0 r.1 alive in
      let y : 0 < living_in b.tasks r.0.group = lives-in b p.0 r.0 (ap (λ (t : State). slice_get t.rows p.0) tasks-are ∙ r.1) alive in
      let g = k.is_row.group_is in
      let h = l.is_row.group_is in
      record {
        here = g.0;
        there = h.0;
        here_is = ap (group_named K) (sym name) ∙ g.2;
        there_is = ap (group_named L) (sym name) ∙ h.2;
        same = group-at S K L r.0.group g.0 h.0 g.1 h.1 (have-bytes r.0.group (omega (arith, x)) (omega (arith, y))) (have-slots r.0.group x y);
      }

  -- ---- workers

  memory-same : (w : ℕ) (row : WorkerRow) → row_of a.resources.workers w ≡ row → row_of b.resources.workers w ≡ row → (o : Option ℕ) → row.memory ≡ o → IsMemory K (mem K w) o → IsMemory L (mem L w) o → IsSameMemory S K L (mem K w) (mem L w)
  memory-same w row p q None r k l = rw (k, l) tt
  memory-same w row p q (Some o) r k l =
      let x : 0 < memories_in a.resources.workers o = memories-some a.resources.workers w o (ap (λ (t : WorkerRow). t.memory) p ∙ r) in
      let y : 0 < memories_in b.resources.workers o = memories-some b.resources.workers w o (ap (λ (t : WorkerRow). t.memory) q ∙ r) in
      rw (k.1, l.1) (o, k.2, l.2, bytes-at S K L o k.0 l.0 k.2 l.2 (have-bytes o (omega (arith, x)) (omega (arith, y))))

  pub go-on-alike : Same S (tasks_of a) (calls_of a) K L
  go-on-alike = record {
    length_is = s.length_is;
    states = record { here = here; there = there };
    tree_is = ap (λ (T : Script). (files T L).tree) (sym s.script_is) ∙ (sym s.there.resources.tree_is ∙ (sym s.tables.tree ∙ s.here.resources.tree_is));
    spent_is = λ rule. sym (s.there.resources.spent rule) ∙ (sym (s.tables.spent rule) ∙ s.here.resources.spent rule);
    groups = group-same;
    workers = λ w.
        let i = s.here.resources.workers.workers w in
        let j = s.there.resources.workers.workers w in
        let rows : row_of b.resources.workers w ≡ row_of a.resources.workers w = ap (λ (rs : List WorkerRow). row_of rs w) (sym s.tables.workers) in
        record {
          base = ap (λ (T : Script). (files T L).base w) (sym s.script_is) ∙ (j.base_is ∙ (ap (λ (r : WorkerRow). ordinal_of r.base) rows ∙ sym i.base_is));
          memory = memory-same w (row_of a.resources.workers w) refl rows (row_of a.resources.workers w).memory refl i.memory_is
              (subst (λ (r : WorkerRow). IsMemory L (mem L w) r.memory) rows j.memory_is);
          session = s.sessions w;
        };
  }

-- ---- One kernel beside itself

row-one : (a : Option GroupRow) (p q : GroupRow) → a ≡ Some p → a ≡ Some q → p ≡ q
row-one a p q x y = let z : Some p ≡ Some q = sym x ∙ y in cc

same-groups : (G : Groups) → HaveSame G G
same-groups G = record {
  made = refl;
  bytes = λ o p q x y a. ap (λ (r : GroupRow). byte_in G.pages r.pages a) (row-one (row_at G o) p q x y);
  descriptors = λ o p q x y. ap (λ (r : GroupRow). r.descriptors) (row-one (row_at G o) p q x y);
}

pub same-self : (k : Kernel) → IsKernel k → Same k.script (tasks_of k) (calls_of k) (past k) (past k)
same-self k i = go-on-alike k k (record {
  here = i;
  there = i;
  script_is = refl;
  tables = record {
    tasks = λ groups. refl;
    calls = λ names. refl;
    groups = same-groups k.resources.groups;
    tree = refl;
    workers = refl;
    spent = λ rule. refl;
  };
  length_is = refl;
  sessions = λ w. inl refl;
})
