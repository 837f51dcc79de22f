-- How many tasks of a group haven't ended: after a step, after another write, and none where each task that was made has ended.
-- By the sums over a list in which one task was put, or to which one was added.
use Rattle.std.proofs.Common.{◌≡◌, ℕ, ◌+◌, ◌<◌, ◌≤◌, Bool, true, false, ◌&&◌, ◌||◌, not, List, [], ◌∷◌, ◌++◌, set, Option, Some, None, refl, sym, ap, ◌∙◌, arith}
use Rattle.std.specs.Prelude.{if◌then◌else◌, ◌==◌, ◌↔◌, slice_get, count_by}
use Rattle.std.proofs.lemmas.Bool.{eq-eqb}
use Rattle.std.proofs.lemmas.List.Sums.{count_by-le-length}
use Rattle.hist_model.specs.Kinds.{ends}
use Rattle.hist_model.specs.Look.{Name}
use Rattle.hist_model.specs.Tasks.{is_made, ended}
use Rattle.hist_model.specs.declared.event.Event.{Event}
use Rattle.hist_model.specs.declared.event.What.{What}
use Rattle.hist_model.specs.declared.script.Script.{Script}
use Rattle.history_frames.specs.Ordinals.{task_name_of}
use Rattle.tasks.specs.Table.{Member, Table, IsNoted, IsWritten, is_living, table_of, task_at, with_entry, with_progress, with_task}
use Rattle.tasks.specs.Stands.{StandsFor, SameTasks, ended_at, ended_in, group_at, group_in, living, living_among, living_in, lives_in, made, one_ended, one_if}
use Rattle.tasks.specs.declared.table.Tasks.{Tasks}
use Rattle.tasks.proofs.Listed.{one, count-put, count-added, count-has, count-none}
use Rattle.tasks.proofs.Named.{made-ordinal, name-made}
use Rattle.tasks.proofs.Stood.{task-there, task-made, row-is}

balance : (a b m : Bool) → one (not (b || a) && m) + (if b && (not a && m) then 1 else 0) ≡ one (not a && m)
balance true true m = refl
balance true false m = refl
balance false true true = refl
balance false true false = refl
balance false false true = refl
balance false false false = refl

-- ---- after a task's own step

pub count-noted : (old new : Table) (o : ℕ) (w : What) (g : ℕ) → IsNoted old o w new → living_among new g + (if ends w && (not (ended_in (task_at old o)) && (group_in (task_at old o) == g)) then 1 else 0) ≡ living_among old g
count-noted old new o w g n = go (task_at old o) refl
  where
    zero-more : (b : Bool) (k : ℕ) → k + (if b && false then 1 else 0) ≡ k
    zero-more true k = omega arith
    zero-more false k = omega arith

    go : (x : Option Member) → task_at old o ≡ x → living_among new g + (if ends w && (not (ended_in x) && (group_in x == g)) then 1 else 0) ≡ living_among old g
    go None q = ap (λ T. living_among T g + (if ends w && false then 1 else 0)) (n.none q) ∙ zero-more (ends w) (living_among old g)
    go (Some t) q =
        let i = n.task t q in
        let p = i.0 in
        let m : Member = with_progress t p in
        let c = count-put (lives_in g) old.tasks o t m q in
        let e : lives_in g m ≡ (not (ends w || t.progress.ended) && (t.progress.group == g)) = ap (λ x. not x && (p.group == g)) i.1.ended ∙ ap (λ x. not (ends w || t.progress.ended) && (x == g)) i.1.group in
        let b = balance t.progress.ended (ends w) (t.progress.group == g) in
        let s : living_among new g ≡ count_by (lives_in g) (set old.tasks o m) = ap (λ T. living_among T g) i.2 in
        omega (arith, c, ap one e, b, s)

pub counted-noted : (old new : Tasks) (o : ℕ) (w : What) (g : ℕ) → IsNoted (table_of old) o w (table_of new) → living_in new g + one_ended old o w g ≡ living_in old g
unfolding living_in
counted-noted old new o w g n = count-noted (table_of old) (table_of new) o w g n

-- where the step ends none
pub counted-step : (old new : Tasks) (o : ℕ) (w : What) (g : ℕ) → ends w ≡ false → IsNoted (table_of old) o w (table_of new) → living_in new g ≡ living_in old g
counted-step old new o w g e n =
    let z : ◌≡◌ {A = ℕ} (if ends w && (not (ended_at old o) && (group_at old o == g)) then 1 else 0) 0 = ap (λ b. if b && (not (ended_at old o) && (group_at old o == g)) then 1 else 0) e in
    omega (arith, counted-noted old new o w g n, z)

-- ---- after another write

count-same : (old : Table) (o : ℕ) (t m : Member) (g : ℕ) → task_at old o ≡ Some t → m.progress.ended ≡ t.progress.ended → m.progress.group ≡ t.progress.group → living_among (with_task old o m) g ≡ living_among old g
count-same old o t m g q e h =
    let c = count-put (lives_in g) old.tasks o t m q in
    let l : lives_in g m ≡ lives_in g t = ap (λ x. not x && (m.progress.group == g)) e ∙ ap (λ x. not t.progress.ended && (x == g)) h in
    omega (arith, c, ap one l)

pub counted-put : (old new : Tasks) (o : ℕ) (t m : Member) (g : ℕ) → task_at (table_of old) o ≡ Some t → table_of new ≡ with_task (table_of old) o m → m.progress.ended ≡ t.progress.ended → m.progress.group ≡ t.progress.group → living_in new g ≡ living_in old g
unfolding living_in
counted-put old new o t m g q s e h = ap (λ T. living_among T g) s ∙ count-same (table_of old) o t m g q e h

pub counted-written : (old new : Tasks) (o : ℕ) (f : Member → Member) (g : ℕ) → IsWritten (table_of old) o f (table_of new) → ((t : Member) → (f t).progress.ended ≡ t.progress.ended) → ((t : Member) → (f t).progress.group ≡ t.progress.group) → living_in new g ≡ living_in old g
unfolding living_in
counted-written old new o f g w e h = go (task_at (table_of old) o) refl
  where
    go : (x : Option Member) → task_at (table_of old) o ≡ x → living_among (table_of new) g ≡ living_among (table_of old) g
    go None q = ap (λ T. living_among T g) (w.none q)
    go (Some t) q = ap (λ T. living_among T g) (w.some t q) ∙ count-same (table_of old) o t (f t) g q (e t) (h t)

pub counted-room : (old new : Tasks) (g : ℕ) → SameTasks old new → living_in new g ≡ living_in old g
unfolding living_in
counted-room old new g h = ap (λ T. living_among T g) h

pub counted-added : (new : Tasks) (xs : List Member) (m : Member) (g : ℕ) → (table_of new).tasks ≡ xs ++ m ∷ [] → m.progress.ended ≡ false → living_in new g ≡ count_by (lives_in g) xs + one_if m.progress.group g
unfolding living_in
counted-added new xs m g s e =
    let l : lives_in g m ≡ (m.progress.group == g) = ap (λ x. not x && (m.progress.group == g)) e in
    ap (λ (ys : List Member). count_by (lives_in g) ys) s ∙ (count-added (lives_in g) xs m ∙ ap (λ b. count_by (lives_in g) xs + one b) l)

pub counted-more : (old new : Tasks) (group : ℕ) (m : Member) (g : ℕ) → (table_of new).tasks ≡ (table_of old).tasks ++ m ∷ [] → m.progress.ended ≡ false → m.progress.group ≡ group → living_in new g ≡ living_in old g + one_if group g
unfolding living_in
counted-more old new group m g s e h = counted-added new (table_of old).tasks m g s e ∙ ap (λ i. count_by (lives_in g) (table_of old).tasks + one_if i g) h

-- a child was added
pub counted-child : (old new : Tasks) (o n group : ℕ) (t m : Member) (g : ℕ) → task_at (table_of old) o ≡ Some t → (table_of new).tasks ≡ set (table_of old).tasks o (with_entry t (Some n)) ++ m ∷ [] → m.progress.ended ≡ false → m.progress.group ≡ group
    → living_in new g ≡ living_in old g + one_if group g
unfolding living_in
counted-child old new o n group t m g at s e h =
    counted-added new (set (table_of old).tasks o (with_entry t (Some n))) m g s e
    ∙ (ap (λ k. k + one_if m.progress.group g) (count-same (table_of old) o t (with_entry t (Some n)) g at refl refl) ∙ ap (λ i. count_by (lives_in g) (table_of old).tasks + one_if i g) h)

-- ---- what the counts tell

pub living-is : (S : Script) (K : List Event) (T : Tasks) → StandsFor S K T → T.living ≡ living T
unfolding living
living-is S K T s = s.is_table.whole.living

pub living_in-most : (T : Tasks) (g : ℕ) → living_in T g ≤ made T
unfolding living_in
living_in-most T g = count_by-le-length (lives_in g) (table_of T).tasks

pub living_in-some : (T : Tasks) (o : ℕ) → ended_at T o ≡ false → 0 < living_in T (group_at T o)
unfolding living_in
living_in-some T o h = go (task_at (table_of T) o) refl h
  where
    go : (x : Option Member) → task_at (table_of T) o ≡ x → ended_in x ≡ false → 0 < count_by (lives_in (group_in x)) (table_of T).tasks
    go None q h = cc
    go (Some t) q h =
        let l : lives_in t.progress.group t ≡ true = rw (h, eq-eqb t.progress.group t.progress.group refl) in
        omega (arith, count-has (lives_in t.progress.group) (table_of T).tasks o t q, ap one l)

has-ended : (xs : List Member) (o : ℕ) (t : Member) → slice_get xs o ≡ Some t → count_by is_living xs ≡ 0 → t.progress.ended ≡ true
has-ended xs o t q z = go t.progress.ended (count-has is_living xs o t q)
  where
    go : (b : Bool) → one (not b) ≤ count_by is_living xs → b ≡ true
    go true h = refl
    go false h = absurd (omega (arith, h, z))

pub none-lives : (S : Script) (K : List Event) (T : Tasks) → StandsFor S K T → T.living ≡ 0 ↔ ((n : Name) → is_made K n ≡ true → ended K n ≡ true)
none-lives S K T s = (
  λ z n h.
      let m = made-ordinal K n h in
      let t = task-there S K (table_of T) s.is_table m.0 m.1 in
      ap (ended K) (sym m.2) ∙ (sym (row-is S K (table_of T) s.is_table m.0 t.0 t.1).ended_is ∙ has-ended (table_of T).tasks m.0 t.0 t.1 (sym s.is_table.whole.living ∙ z)),
  λ h. s.is_table.whole.living ∙ count-none is_living (table_of T).tasks (λ i t q.
      let a : t.progress.ended ≡ true = (row-is S K (table_of T) s.is_table i t q).ended_is ∙ h (task_name_of K i) (name-made K i (task-made S K (table_of T) s.is_table i t q)) in
      ap not a),
)
