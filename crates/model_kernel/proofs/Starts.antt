-- A kernel after its script's start.
-- By the first task, which is the only one, and the first group, which is its own.
use Rattle.std.proofs.lemmas.Bool.Decides.{nat_tests}
use Rattle.std.proofs.Common.{◌≡◌, ◌+◌, ◌≤◌, ◌∙◌, ℕ, List, false, arith, [], ◌∷◌, refl, sym, replicate}
use Rattle.std.proofs.lemmas.Bool.{and_right}
use Rattle.hist_model.specs.Look.{is_worker}
use Rattle.hist_model.specs.Legal.{started, system_of, tree}
use Rattle.hist_model.specs.Steps.{start, times_spent}
use Rattle.history_frames.specs.Ordinals.{count_of, groups_made}
use Rattle.listener.specs.Stands as listener
use Rattle.listener.proofs.Stand.{stands-other}
use Rattle.native_calls.specs.Stands.{IsContainer}
use Rattle.task_groups.proofs.Events.{freshes}
use Rattle.model_kernel.proofs.Words.{alike, Event, Kernel, living_in, memories_in, past, Resources, respects, Script, state, Tasks}
use Rattle.model_kernel.proofs.NativeCalls.{counted-alike}
use Rattle.model_kernel.proofs.Opened.{memories-none}
use Rattle.model_kernel.proofs.Others.{tree-kept}
use Rattle.model_kernel.proofs.Times.{times-kept}
use Rattle.model_kernel.proofs.WorkerRows.{rows-kept, rows-none}
use Rattle.model_kernel.specs.Stands as resources
use Rattle.model_kernel.specs.Rows.{idle}
use Rattle.model_kernel.specs.Spent.{times_in}
use Rattle.task_groups.specs.Groups.{Holds}
use Rattle.task_groups.specs.Stands.{IsFresh}
use Rattle.task_groups.specs.State.{one_more, with_fresh}
use Rattle.tasks.specs.Stands as tasks
use Rattle.tasks.proofs.Counted.{living_in-most}
use Rattle.tasks.proofs.Told.{made-is}
use Rattle.tasks.specs.Stands.{made, one_if}
use Rattle.model_kernel.proofs.Numbers.{start-number}
use Rattle.model_kernel.specs.Kernels.{HasFirst, IsBegun}

-- the first group has the first task, and no other group has one
one-first : (g : ℕ) → one_if 0 g ≡ one_more (λ o. 0) 0 g
one-first g = grind (arith, nat_tests)

-- where no task was made, a first one is all that is counted
pub first-counts : (S : Script) (old new : Tasks) → tasks.StandsFor S [] old → ((g : ℕ) → living_in new g ≡ living_in old g + one_if 0 g) → (g : ℕ) → living_in new g ≡ one_if 0 g
unfolding count_of
first-counts S old new s counts g =
    let none : made old ≡ 0 = made-is S [] old s in
    let few : living_in old g ≤ made old = living_in-most old g in
    omega (arith, counts g)

-- the tables at the script's start, with the group of the first task
pub fresh : (S : Script) (e : Event) (R : Resources) → IsFresh e → Holds (with_fresh (state S [] (λ o. 0) (λ o. 0))) R.groups → listener.StandsFor S.firstid [] R.listener → R.tree.tree ≡ tree S []
    → R.workers ≡ replicate 17 idle → ((rule : ℕ) → times_in R.spent rule ≡ 0) → IsContainer S R.container → resources.StandsFor S (e ∷ []) (one_more (λ o. 0) (groups_made [])) R
unfolding times_spent
fresh S e R i g l t w s container =
    let K : List Event = [] in
    record {
      groups = alike (state S (e ∷ K) (one_more (λ o. 0) (groups_made K)) (λ o. 0)) (one_more (λ o. 0) (groups_made K)) (memories_in R.workers) R.groups
          (respects _ _ _ (freshes S K e (λ o. 0) (λ o. 0) i) g) (λ o. refl) (λ o. memories-none R.workers w o);
      listener = stands-other S.firstid K R.listener l e (rw i.is tt);
      tree_is = t ∙ sym (tree-kept S K e (rw i.is refl));
      workers = rows-kept S K e R.workers (rw w (rows-none S)) (λ v. rw i.is (and_right (is_worker e.who v) false refl));
      spent = times-kept K e R.spent s (rw i.is refl);
      container = container;
    }

pub begun : (S : Script) (k : Kernel) → k.script ≡ S → past k ≡ started S → HasFirst S k.tasks → ((e : Event) → IsFresh e → resources.StandsFor S (e ∷ []) (one_more (λ o. 0) (groups_made [])) k.resources) → IsBegun S k
unfolding count_of
begun S k script events first R =
    let r = counted-alike S (started S) (one_more (λ o. 0) 0) k.resources (R (start (system_of S)) (record { name = 0 ∷ []; pid = S.pidbase + 1; is = refl })) (living_in k.tasks) (λ g. rw (first.counts g, one-first g) refl) in
    record {
      kernel = record { tasks = rw (script, events) first.stand; resources = rw (script, events) r; few = rw events (start-number S) };
      script = script;
      events = events;
    }
