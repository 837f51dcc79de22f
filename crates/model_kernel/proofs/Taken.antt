-- The group of a living task, and what is answered to a worker that opens a base.
-- By the counts of living tasks, and by cases on whether a task lives.
use Rattle.std.proofs.Common.{◌≡◌, ℕ, suc, ◌+◌, ◌<◌, ◌≤◌, ◌^◌, Bool, true, false, List, [], ◌∷◌, length, Option, Some, None, refl, sym, ap, ◌∙◌, arith, ℤ, if◌then◌else◌, Ok, Err, Result, not}
use Rattle.hist_model.specs.Files.{files}
use Rattle.hist_model.specs.Legal.{is_there, system_of}
use Rattle.hist_model.specs.Natives.{base_of}
use Rattle.hist_model.specs.Steps.{base_answer, group, lives, opened}
use Rattle.hist_model.specs.Tasks.{ended, holder, name_of}
use Rattle.history_frames.specs.Ordinals.{count_of, group_of, place_of, task_name_of, tasks_made}
use Rattle.model_kernel.proofs.Words.{Event, IsKernel, Kernel, living_in, past, Script, Tasks, What}
use Rattle.model_kernel.proofs.Opened.{live}
use Rattle.tasks.specs.Stands as tasks
use Rattle.tasks.specs.Stands.{IsHolder, ended_at, group_at, made}
use Rattle.tasks.proofs.Told.{made-is, place-is}
use Rattle.sys_abi.specs.Errnos.{ebadf, esrch}
use Rattle.task_groups.specs.Groups.{IsLive}
use Rattle.tasks.specs.Fold.{IsGroupOf}
use Rattle.tasks.proofs.Counted.{living_in-most, living_in-some}

-- ---- The group of a living task

-- of no kind are there more steps than events
count-most : (kind : What → Bool) (K : List Event) → count_of kind K ≤ length K
unfolding count_of
count-most kind [] = omega arith
count-most kind (e ∷ K) = one (kind e.what) (count-most kind K)
  where
    one : (b : Bool) → count_of kind K ≤ length K → count_of kind K + (if b then 1 else 0) ≤ suc (length K)
    one true l = omega arith
    one false l = omega arith

-- the group of a task that hasn't ended is live
pub group-live : (k : Kernel) (o : ℕ) → IsKernel k → ended_at k.tasks o ≡ false → length (past k) < 2 ^ 62 → IsLive k.resources.groups (group_at k.tasks o)
group-live k o i lives few =
    let some = living_in-some k.tasks o lives in
    let most = living_in-most k.tasks (group_at k.tasks o) in
    let made : made k.tasks ≡ tasks_made (past k) = made-is k.script (past k) k.tasks i.tasks in
    let events : tasks_made (past k) ≤ length (past k) = count-most _ (past k) in
    live k.script (past k) (living_in k.tasks) k.resources i.resources (group_at k.tasks o) some (omega (arith, most, made, events, few))

-- it is the group that is opened by the number that the task holds
pub group-opened : (S : Script) (K : List Event) (T : Tasks) (p o g : ℕ) → tasks.StandsFor S K T → IsHolder K p o → IsGroupOf K (task_name_of K o) g → (m : ℕ) × (opened K (holder K p) ≡ Some m) × (group_of K g ≡ Some m)
group-opened S K T p o g s h i =
    let same : opened K (place_of K o) ≡ group_of K g = ap (opened K) (sym (place-is K o s.is_table.sound h.0)) ∙ (i.2 ∙ sym i.1) in
    let q : opened K (place_of K o) ≡ opened K (Some h.1) = ap (opened K) h.3 in
    (_, ap (opened K) h.2, sym same ∙ q)

-- ---- Answers

-- what a test of a negation chooses
if-not : {A : Type 0} (b : Bool) (x y : A) → not b ≡ true → y ≡ (if b then x else y)
if-not true x y h = cc
if-not false x y h = refl

if-so : {A : Type 0} (b : Bool) (x y : A) → not b ≡ false → x ≡ (if b then x else y)
if-so true x y h = refl
if-so false x y h = cc

-- the answer of the opening of a base: EBADF where there is none
abbrev pub base_found : Option ℕ → Result (Unit {0}) ℕ
base_found (Some n) = Ok tt
base_found None = Err ebadf

base-found : (b : Option ℕ) → base_found b ≡ (if is_there b then Ok tt else Err ebadf)
base-found (Some n) = refl
base-found None = refl

-- that for a task that lives
pub base-answered : (S : Script) (K : List Event) (h : Option ℕ) (g : ℕ) (d : ℤ) → lives K h ≡ true → opened K h ≡ Some g → base_found (base_of S (files S K) g d) ≡ base_answer (system_of S) K h d
base-answered S K None g d l o = cc
base-answered S K (Some t) g d l o =
    let same : g ≡ group K t = cc in
    ap (λ m. base_found (base_of S (files S K) m d)) same ∙ (base-found (base_of S (files S K) (group K t) d) ∙ if-not (ended K (name_of K t)) (Err esrch) _ l)

-- and where none lives
pub base-refused : (S : Script) (K : List Event) (h : Option ℕ) (d : ℤ) → lives K h ≡ false → Err esrch ≡ base_answer (system_of S) K h d
base-refused S K None d l = refl
base-refused S K (Some t) d l = if-so (ended K (name_of K t)) (Err esrch) _ l
