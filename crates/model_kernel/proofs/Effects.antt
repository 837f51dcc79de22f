-- The tables after a worker's effect, in the tree or in memory.
-- By the table that changed and the cap that was spent, since the step is other for the rest.
use Rattle.std.proofs.Common.{◌≡◌, ℕ, Bool, true, false, List, ◌∷◌, Option, refl, sym, ap, subst, ◌∙◌, Ok, Err, Result, if◌then◌else◌, not}
use Rattle.std.specs.Result.{is_err}
use Rattle.hist_model.specs.Effects.{effect, perform}
use Rattle.hist_model.specs.Files.{files, files_after}
use Rattle.hist_model.specs.Legal.{done, outcome, tree}
use Rattle.hist_model.specs.Natives.{Files, root}
use Rattle.hist_model.specs.Steps.{is_spent}
use Rattle.hist_model.specs.Trees.{Tree}
use Rattle.hist_model.specs.declared.policy.Cap.{Cap}
use Rattle.hist_model.specs.declared.request.Request.{Request}
use Rattle.sys_abi.specs.Errnos.{edquot, efault}
use Rattle.task_groups.specs.Stands as groups
use Rattle.listener.proofs.Stand as listening
use Rattle.mount_tree.specs.Changes.{Seen}
use Rattle.path_walk.specs.declared.resolution.Walk.{Walk}
use Rattle.model_kernel.proofs.Words.{Act, AreTimes, ev, Event, Groups, memories_in, Plant, Resources, Script, SpentRows, Worker}
use Rattle.model_kernel.specs.Spent.{is_spent_in}
use Rattle.model_kernel.specs.Stands.{StandsFor}
use Rattle.model_kernel.proofs.Others.{groups-kept}
use Rattle.model_kernel.proofs.Times.{is-spent}
use Rattle.model_kernel.proofs.WorkerRows.{rows-kept}
use Rattle.model_kernel.proofs.Frames.{worker-stays}

-- what is answered where the cap is spent, and where it isn't
module _ (K : List Event) (T : SpentRows) (cap : Option Cap) (s : AreTimes K T) where
  pub denied : (y : Result (Unit {0}) ℕ) → is_spent_in T cap ≡ true → Err edquot ≡ (if is_spent K cap then Err edquot else y)
  denied y h = rw (sym (is-spent K T cap s) ∙ h) refl

  pub granted : (x y : Result (Unit {0}) ℕ) → is_spent_in T cap ≡ false → y ≡ x → x ≡ (if is_spent K cap then Err edquot else y)
  granted x y h q = rw (sym (is-spent K T cap s) ∙ h) (sym q)

-- what is answered of the storing
abbrev pub stored_so : {E : Type 0} → Result (Unit {0}) E → Result (Unit {0}) ℕ
stored_so (Ok u) = Ok tt
stored_so (Err e) = Err efault

pub store-answer : {E : Type 0} (writable : Bool) (r : Result (Unit {0}) E) → is_err r ≡ not writable → (if writable then Ok tt else Err efault) ≡ stored_so r
store-answer true (Ok u) f = refl
store-answer true (Err e) f = cc
store-answer false (Ok u) f = cc
store-answer false (Err e) f = refl

plant-tree : (S : Script) (K : List Event) (w a : ℕ) (bytes : List ℕ) (cap : Option Cap) → tree S (ev (Worker w) (Plant a bytes cap (Ok tt)) ∷ K) ≡ tree S K
unfolding files
plant-tree S K w a bytes cap = refl

act-tree : (S : Script) (K : List Event) (w : ℕ) (q : Request) (cap : Option Cap) (T : Tree) → perform (tree S K) (root S) ((files S K).base w) (effect q) ≡ Ok T → tree S (ev (Worker w) (Act q cap (Ok tt)) ∷ K) ≡ T
unfolding files
act-tree S K w q cap T p = by (files S K) p
  where
    by : (F : Files) → perform F.tree (root S) (F.base w) (effect q) ≡ Ok T → (files_after S K F (Worker w) (Act q cap (Ok tt))).tree ≡ T
    by F p = rw p refl

module _ (S : Script) (K : List Event) (living : ℕ → ℕ) (R : Resources) (T : StandsFor S K living R) (w : ℕ) where
  -- the answer of sysinfo was stored
  pub planted : (a : ℕ) (bytes : List ℕ) (cap : Option Cap) (G : Groups) (spent : SpentRows) → groups.StandsFor S (ev (Worker w) (Plant a bytes cap (Ok tt)) ∷ K) living (memories_in R.workers) G → AreTimes (ev (Worker w) (Plant a bytes cap (Ok tt)) ∷ K) spent
      → StandsFor S (ev (Worker w) (Plant a bytes cap (Ok tt)) ∷ K) living (record R { groups = G; spent = spent })
  planted a bytes cap G spent g s =
      let e = ev (Worker w) (Plant a bytes cap (Ok tt)) in
      record {
        groups = g;
        listener = listening.stands-other S.firstid K R.listener T.listener e tt;
        tree_is = T.tree_is ∙ sym (plant-tree S K w a bytes cap);
        workers = rows-kept S K e R.workers T.workers (λ v. worker-stays w e.what v refl);
        spent = s;
        container = T.container;
      }

  -- what the tree of the tables gives, the tree of the history gives
  performed : (q : Request) (base : Option ℕ) (r : Result Tree ℕ) → (files S K).base w ≡ base → perform R.tree.tree R.container.root.ordinal base (effect q) ≡ r → perform (tree S K) (root S) ((files S K).base w) (effect q) ≡ r
  performed q base r b p =
      let at-tree : perform (tree S K) R.container.root.ordinal base (effect q) ≡ r = subst (λ t. perform t R.container.root.ordinal base (effect q) ≡ r) T.tree_is p in
      let at-root : perform (tree S K) (root S) base (effect q) ≡ r = subst (λ x. perform (tree S K) x base (effect q) ≡ r) T.container.root_is at-tree in
      subst (λ x. perform (tree S K) (root S) x (effect q) ≡ r) (sym b) at-root

  pub outcome-is : (q : Request) (base : Option ℕ) (r : Result Tree ℕ) → (files S K).base w ≡ base → perform R.tree.tree R.container.root.ordinal base (effect q) ≡ r → outcome S (files S K) w q ≡ done r
  outcome-is q base r b p = ap done (performed q base r b p)

  -- what a request asks for was done in the tree
  pub acted : (q : Request) (cap : Option Cap) (base : Option ℕ) (U : Seen) (walk : Walk) (spent : SpentRows) → (files S K).base w ≡ base → perform R.tree.tree R.container.root.ordinal base (effect q) ≡ Ok U.tree
      → AreTimes (ev (Worker w) (Act q cap (Ok tt)) ∷ K) spent → StandsFor S (ev (Worker w) (Act q cap (Ok tt)) ∷ K) living (record R { tree = U; walk = walk; spent = spent })
  acted q cap base U walk spent b p s =
      let e = ev (Worker w) (Act q cap (Ok tt)) in
      record {
        groups = groups-kept S K living R T e refl;
        listener = listening.stands-other S.firstid K R.listener T.listener e tt;
        tree_is = sym (act-tree S K w q cap U.tree (performed q base (Ok U.tree) b p));
        workers = rows-kept S K e R.workers T.workers (λ v. worker-stays w e.what v refl);
        spent = s;
        container = T.container;
      }

-- a tree that is the same, after another walk
pub walked : (S : Script) (K : List Event) (living : ℕ → ℕ) (R : Resources) (U : Seen) (walk : Walk) → U ≡ R.tree → StandsFor S K living R → StandsFor S K living (record R { tree = U; walk = walk })
walked S K living R U walk same T = record { groups = T.groups; listener = T.listener; tree_is = ap (λ t. t.tree) same ∙ T.tree_is; workers = T.workers; spent = T.spent; container = T.container }
