-- The tables after a step that leaves some of them as they are.
-- By the law of each table on events that are other for it, and by cases on the step.
use Rattle.std.proofs.Common.{◌≡◌, ℕ, true, List, [], ◌∷◌, None, refl, sym, ◌∙◌, Ok, Err}
use Rattle.std.proofs.lemmas.Bool.{and_parts, not-true}
use Rattle.hist_model.specs.Files.{files, files_after}
use Rattle.hist_model.specs.Legal.{tree}
use Rattle.hist_model.specs.Natives.{Files}
use Rattle.hist_model.specs.Trees.{stated}
use Rattle.hist_model.specs.declared.event.Actor.TheVariants.{Listener as ListenerActor, Start}
use Rattle.hist_model.specs.declared.event.SpawnKind.TheVariants.{New, Copied, Shared}
use Rattle.task_groups.specs.Stands as groups
use Rattle.task_groups.specs.Stands.{IsOther}
use Rattle.task_groups.proofs.Events.{others}
use Rattle.listener.specs.Stands as listener
use Rattle.model_kernel.proofs.Words.{Act, Actor, AreRows, ev, Event, Groups, Install, LetGo, Listener, memories_in, Name, Native, OpenBase, Plant, Poke, Resources, respects, Script, Spawn, Task, What, Worker, WorkerRow}
use Rattle.model_kernel.specs.Kinds.{is_listening, keeps_groups, keeps_tree, leaves_tasks, opens}
use Rattle.model_kernel.specs.Stands.{StandsFor, cap_spent}
use Rattle.model_kernel.proofs.Frames.{worker-stays}
use Rattle.model_kernel.proofs.Times.{times-kept}
use Rattle.model_kernel.proofs.WorkerRows.{rows-kept}

-- such a step makes no group, stores nothing and changes no slot
keeps : (S : Script) (K : List Event) (a : Actor) (w : What) → keeps_groups w ≡ true → IsOther S K a w
keeps S K a (Spawn child (Ok made)) h = cc
keeps S K a (Poke addr bytes) h = cc
keeps S K a (Install answer) h = cc
keeps S K a (Native answer) h = cc
keeps S K a (Plant addr bytes cap (Ok u)) h = cc
keeps S K a w h = record { stores_none = refl; slots = tt }

-- the groups after such a step
pub groups-stay : (S : Script) (K : List Event) (living handles : ℕ → ℕ) (e : Event) (G : Groups) → groups.StandsFor S K living handles G → IsOther S K e.who e.what → groups.StandsFor S (e ∷ K) living handles G
groups-stay S K living handles e G T k = respects _ _ _ (others S K e living handles k) T

pub tree-kept : (S : Script) (K : List Event) (e : Event) → keeps_tree e.what ≡ true → tree S (e ∷ K) ≡ tree S K
unfolding files
tree-kept S K e h = by (files S K) e.who e.what h
  where
    by : (F : Files) (a : Actor) (w : What) → keeps_tree w ≡ true → (files_after S K F a w).tree ≡ F.tree
    by F a (Spawn n (Ok (pid, New))) h = refl
    by F a (Spawn n (Ok (pid, Copied))) h = refl
    by F a (Spawn n (Ok (pid, Shared))) h = refl
    by F a (Native answer) h = cc
    by F a (Install (Ok m)) h = refl
    by F a (Act request cap (Ok u)) h = cc
    by F (Worker w) (Act request cap (Err x)) h = refl
    by F (Task n) (Act request cap (Err x)) h = refl
    by F Start (Act request cap (Err x)) h = refl
    by F ListenerActor (Act request cap (Err x)) h = refl
    by F (Worker w) (OpenBase pid dirfd (Ok u)) h = refl
    by F (Worker w) LetGo h = refl
    by F a w h = refl

-- the tree before the first event
pub stated-tree : (S : Script) → tree S [] ≡ stated S.tree
unfolding files
stated-tree S = refl

spends-nothing : (w : What) → keeps_tree w ≡ true → cap_spent w ≡ None
spends-nothing (Act request cap (Ok u)) h = cc
spends-nothing (Plant addr bytes cap (Ok u)) h = cc
spends-nothing w h = refl

module _ (S : Script) (K : List Event) (living : ℕ → ℕ) (R : Resources) (T : StandsFor S K living R) where
  pub groups-kept : (e : Event) → keeps_groups e.what ≡ true → groups.StandsFor S (e ∷ K) living (memories_in R.workers) R.groups
  groups-kept e h = groups-stay S K living (memories_in R.workers) e R.groups T.groups (keeps S K e.who e.what h)

  -- the groups, the listener and the workers' rows changed
  pub after : (e : Event) (living' : ℕ → ℕ) (G : Groups) (L : Listener) (rows : List WorkerRow) → keeps_tree e.what ≡ true
      → groups.StandsFor S (e ∷ K) living' (memories_in rows) G → listener.StandsFor S.firstid (e ∷ K) L → AreRows S (e ∷ K) rows → StandsFor S (e ∷ K) living' (record R { groups = G; listener = L; workers = rows })
  after e living' G L rows h g l r = record { groups = g; listener = l; tree_is = T.tree_is ∙ sym (tree-kept S K e h); workers = r; spent = times-kept K e R.spent T.spent (spends-nothing e.what h); container = T.container }

  -- a worker's step changed the listener alone, or nothing
  pub heard : (w : ℕ) (what : What) (L : Listener) → is_listening what ≡ true → listener.StandsFor S.firstid (ev (Worker w) what ∷ K) L → StandsFor S (ev (Worker w) what ∷ K) living (record R { listener = L })
  heard w what L h l =
      let rest = (and_parts (leaves_tasks what) _ h).1 in
      let (on, more) = and_parts (keeps_groups what) _ rest in
      let (still, closed) = and_parts (keeps_tree what) _ more in
      after (ev (Worker w) what) living R.groups L R.workers still (groups-kept (ev (Worker w) what) on) l (rows-kept S K (ev (Worker w) what) R.workers T.workers (λ v. worker-stays w what v (not-true (opens what) closed)))

  -- a task's step changed the groups and the listener
  pub stepped : (n : Name) (what : What) (living' : ℕ → ℕ) (G : Groups) (L : Listener) → keeps_tree what ≡ true
      → groups.StandsFor S (ev (Task n) what ∷ K) living' (memories_in R.workers) G → listener.StandsFor S.firstid (ev (Task n) what ∷ K) L → StandsFor S (ev (Task n) what ∷ K) living' (record R { groups = G; listener = L })
  stepped n what living' G L h g l = after (ev (Task n) what) living' G L R.workers h g l (rows-kept S K (ev (Task n) what) R.workers T.workers (λ v. refl))
