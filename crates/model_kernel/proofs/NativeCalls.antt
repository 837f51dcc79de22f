-- The tables before and after a native call, and with other room.
-- By what the call asks of the tree and the groups, since the event is other for the rest.
use Rattle.std.proofs.Common.{◌≡◌, ℕ, List, ◌∷◌, Some, refl, ◌∙◌, Result}
use Rattle.hist_model.specs.Memory.{group_named}
use Rattle.hist_model.specs.Steps.{pid_named}
use Rattle.history_frames.specs.Ordinals.{group_of}
use Rattle.task_groups.specs.Stands as groups
use Rattle.listener.specs.Stands as listener
use Rattle.listener.proofs.Stand as listening
use Rattle.mount_tree.specs.Changes.{Seen}
use Rattle.path_walk.specs.declared.resolution.Walk.{Walk}
use Rattle.native_calls.specs.Stands.{IsDue, IsEntered, StandFor}
use Rattle.native_calls.specs.declared.call.NativeCall.{NativeCall}
use Rattle.model_kernel.proofs.Words.{alike, AreTimes, ev, Event, Groups, Listener, memories_in, Name, Native, Resources, Script, SpentRows, state, Task}
use Rattle.model_kernel.specs.Stands.{StandsFor}
use Rattle.model_kernel.proofs.Times.{times-kept}
use Rattle.model_kernel.proofs.WorkerRows.{rows-kept}

module _ (S : Script) (K : List Event) (living : ℕ → ℕ) (R : Resources) (T : StandsFor S K living R) where
  -- a task of the group owes the call
  pub due : (o : ℕ) (n : Name) (g pid : ℕ) (call : NativeCall) → group_named K n ≡ Some g → group_of K o ≡ Some g → pid ≡ pid_named K n → IsEntered S K n g call
      → IsDue S K living (memories_in R.workers) n R.container (record { group = o; pid = pid }) call R.tree.tree R.groups
  due o n g pid call own at number entered = record {
    group = g;
    stand = record { tree_is = T.tree_is; groups_stand = T.groups };
    container_is = T.container;
    caller_is = record { named = own; group_is = at; pid_is = number };
    entered = entered;
  }

  -- it was run
  pub ran : (n : Name) (answer : Result ℕ ℕ) (U : Seen) (walk : Walk) (G : Groups) → StandFor S (ev (Task n) (Native answer) ∷ K) living (memories_in R.workers) U.tree G
      → StandsFor S (ev (Task n) (Native answer) ∷ K) living (record R { groups = G; tree = U; walk = walk })
  ran n answer U walk G s = record {
    groups = s.groups_stand;
    listener = listening.stands-other S.firstid K R.listener T.listener (ev (Task n) (Native answer)) (tt);
    tree_is = s.tree_is;
    workers = rows-kept S K (ev (Task n) (Native answer)) R.workers T.workers (λ v. refl);
    spent = times-kept K (ev (Task n) (Native answer)) R.spent T.spent refl;
    container = T.container;
  }

  -- other room, and living tasks counted in another way, at no event
  pub regrouped : (others : ℕ → ℕ) (G : Groups) (L : Listener) (U : Seen) (spent : SpentRows) → groups.StandsFor S K others (memories_in R.workers) G → listener.StandsFor S.firstid K L → U.tree ≡ R.tree.tree → AreTimes K spent
      → StandsFor S K others (record R { groups = G; listener = L; tree = U; spent = spent })
  regrouped others G L U spent g l same s = record { groups = g; listener = l; tree_is = same ∙ T.tree_is; workers = T.workers; spent = s; container = T.container }

  pub counted-alike : (others : ℕ → ℕ) → ((o : ℕ) → others o ≡ living o) → StandsFor S K others R
  counted-alike others same = regrouped others R.groups R.listener R.tree R.spent (alike (state S K living (memories_in R.workers)) others (memories_in R.workers) R.groups T.groups same (λ o. refl)) T.listener refl T.spent
