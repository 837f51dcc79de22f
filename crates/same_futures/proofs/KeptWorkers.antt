-- What a turn leaves of the tree, of bases, of open memories and of sessions is the same in both histories.
-- By cases on the turn, and by the groups, which the turn changes alike.
use Rattle.std.proofs.Common.{◌≡◌, inl, inr, ℕ, ◌+◌, ◌<◌, Bool, true, false, ◌&&◌, ◌||◌, not, List, [], ◌∷◌, Option, Some, None, refl, sym, ap, ◌∙◌, subst}
use Rattle.std.specs.Prelude.{◌==◌, if◌then◌else◌, Result, Ok, Err, ℤ}
use Rattle.sys_abi.specs.Errnos.{ebadf, esrch}
use Rattle.hist_model.specs.Calls.{count}
use Rattle.hist_model.specs.Deeds.{Deed}
use Rattle.hist_model.specs.Files.{after_native, after_spawn, files, files_after}
use Rattle.hist_model.specs.Kinds.{is_letgo, skips, starts}
use Rattle.hist_model.specs.Legal.{is_open_session, is_there, system_of}
use Rattle.hist_model.specs.Look.{Name, is_worker}
use Rattle.hist_model.specs.Memory.{own_group}
use Rattle.hist_model.specs.Natives.{Files, NativeStep, Fails, Gives, Changes, Opens, Closes, Writes, base_of, native_step}
use Rattle.hist_model.specs.Sessions.{any_of, joined, session}
use Rattle.hist_model.specs.Steps.{base_answer, deed_step, group, install_at, lives, mem, mem_after, opened, place_or, recv_answer, request_listed, request_of, spends, take_step, times_spent, oldest_unfetched}
use Rattle.hist_model.specs.Tasks.{ended, holder}
use Rattle.hist_model.specs.declared.event.Actor.{Actor}
use Rattle.hist_model.specs.declared.event.Actor.TheVariants.{Task, Worker}
use Rattle.hist_model.specs.declared.event.Event.{Event}
use Rattle.hist_model.specs.declared.event.SpawnKind.{SpawnKind}
use Rattle.hist_model.specs.declared.event.SpawnKind.TheVariants.{New, Copied, Shared}
use Rattle.hist_model.specs.declared.event.What.{What}
use Rattle.hist_model.specs.declared.event.What.TheVariants.{Act, Install, LetGo, Native, OpenBase, OpenMem, Plant, Poke, Recv, Skip, Spawn}
use Rattle.hist_model.specs.declared.policy.Cap.{Cap}
use Rattle.hist_model.specs.declared.script.Script.{Script}
use Rattle.history_frames.specs.Ordinals.{group_of, groups_made, makes_group}
use Rattle.history_frames.proofs.Groups.{group-stays}
use Rattle.history_frames.proofs.Ordinals.{place-below}
use Rattle.task_groups.specs.Stands.{IsOther}
use Rattle.task_groups.proofs.Events.{others, plants}
use Rattle.listener.specs.State as call_state
use Rattle.tasks.specs.State.{State}
use Rattle.same_futures.specs.Same.{Same}
use Rattle.same_futures.specs.Turns.{IsTaskTurn, IsWorkerTurn}
use Rattle.same_futures.specs.Workers.{IsSameMemory, IsSameSession}
use Rattle.same_futures.proofs.Changes.{ChangesGroup, LeavesGroups, TaskChange}
use Rattle.same_futures.proofs.Kept.{have-bytes}
use Rattle.same_futures.proofs.KeptGroups.{HaveBytes, bytes-at, bytes-of, none_live}
use Rattle.same_futures.proofs.Natives.{native-same}
use Rattle.same_futures.proofs.Tasks.{AreHeld, entry-same, holders-same, pid-same, row-shared}
use Rattle.same_futures.proofs.Workers.{IsHeldBy, group-at-place, held-base, held-made, names-held}

-- ---- what a worker's step can be

-- no step of a worker makes a task, stores what a task stores, runs a call natively or installs
abbrev pub WorkerFacts : What → Type 0
WorkerFacts (Spawn n a) = ⊥
WorkerFacts (Poke a b) = ⊥
WorkerFacts (Native a) = ⊥
WorkerFacts (Install a) = ⊥
WorkerFacts w = Unit {0}

take-facts : (x : Option (Result ℕ ℕ)) (on : Bool) → WorkerFacts (take_step x on)
take-facts (Some a) on = tt
take-facts None true = tt
take-facts None false = tt

pub worker-facts : (S : Script) (K : List Event) (w : ℕ) (d : Deed) → WorkerFacts (deed_step (system_of S) K w d)
worker-facts S K w Deed.Recv = by (count K == 0)
  where
    by : (b : Bool) → WorkerFacts (if b then Skip else Recv (recv_answer K (oldest_unfetched K)))
    by true = tt
    by false = tt
worker-facts S K w (Deed.OpenMem p) = tt
worker-facts S K w (Deed.OpenBase p d) = tt
worker-facts S K w (Deed.Check x) = tt
worker-facts S K w (Deed.Read a n) = tt
worker-facts S K w (Deed.Act q cap) = tt
worker-facts S K w (Deed.Plant a b cap) = tt
worker-facts S K w (Deed.AddfdPut a) = tt
worker-facts S K w Deed.AddfdTake = take-facts (install_at K (request_of K w)) (request_listed K (request_of K w))
worker-facts S K w (Deed.Send x back) = tt
worker-facts S K w Deed.LetGo = tt

-- ---- sessions

pub joined-same : (a : What) (own other : List What) → IsSameSession own other → IsSameSession (joined a own) (joined a other)
joined-same a own other (inl q) = inl (ap (joined a) q)
joined-same a own other (inr h) = by (starts a) refl own other h.0 h.1
  where
    still : (b : What) (more : List What) → is_open_session (b ∷ more) ≡ false → is_open_session (a ∷ b ∷ more) ≡ false
    still b more h = later (is_letgo a) (any_of is_letgo (b ∷ more)) h
      where
        later : (x y : Bool) → not y ≡ false → not (x || y) ≡ false
        later true y h = refl
        later false y h = h

    by : (s : Bool) → starts a ≡ s → (own other : List What) → is_open_session own ≡ false → is_open_session other ≡ false → IsSameSession (joined a own) (joined a other)
    by true s [] [] h k = inl refl
    by true s [] (c ∷ more) h k = rw s (inl refl)
    by true s (b ∷ own) [] h k = rw s (inl refl)
    by true s (b ∷ own) (c ∷ more) h k = rw s (inl refl)
    by false s [] [] h k = inl refl
    by false s [] (c ∷ more) h k = rw s (inr (refl, still c more k))
    by false s (b ∷ own) [] h k = rw s (inr (still b own h, refl))
    by false s (b ∷ own) (c ∷ more) h k = rw s (inr (still b own h, still c more k))

pub session-kept : (K L : List Event) (e : Event) (w : ℕ) → IsSameSession (session K w) (session L w) → IsSameSession (session (e ∷ K) w) (session (e ∷ L) w)
unfolding session
session-kept K L e w h = by (is_worker e.who w && not (skips e.what))
  where
    by : (b : Bool) → IsSameSession (if b then joined e.what (session K w) else session K w) (if b then joined e.what (session L w) else session L w)
    by true = joined-same e.what (session K w) (session L w) h
    by false = h

-- ---- times

pub spent-kept : (K L : List Event) (e : Event) → ((rule : ℕ) → times_spent L rule ≡ times_spent K rule) → (rule : ℕ) → times_spent (e ∷ L) rule ≡ times_spent (e ∷ K) rule
unfolding times_spent
spent-kept K L e h rule = ap (λ (n : ℕ). n + (if spends e.what rule then 1 else 0)) (h rule)

-- ---- the tree and the bases

files-are : (S : Script) (K : List Event) (e : Event) (a : Actor) (w : What) → e.who ≡ a → e.what ≡ w → files S (e ∷ K) ≡ files_after S K (files S K) a w
unfolding files
files-are S K e a w p q = ap (λ (x : Actor). files_after S K (files S K) x e.what) p ∙ ap (files_after S K (files S K) a) q

native-tree : (F G : Files) (g h : ℕ) (s : NativeStep) → G.tree ≡ F.tree → (after_native G h s).tree ≡ (after_native F g s).tree
native-tree F G g h (Changes T) q = refl
native-tree F G g h (Opens n x) q = q
native-tree F G g h (Closes n) q = q
native-tree F G g h (Fails e) q = q
native-tree F G g h (Gives n) q = q
native-tree F G g h Writes q = q

native-base : (F : Files) (g v : ℕ) (s : NativeStep) → (after_native F g s).base v ≡ F.base v
native-base F g v (Changes T) = refl
native-base F g v (Opens n x) = refl
native-base F g v (Closes n) = refl
native-base F g v s = refl

spawn-tree : (K : List Event) (F : Files) (a : Actor) (kind : SpawnKind) → (after_spawn K F a kind).tree ≡ F.tree
spawn-tree K F a New = refl
spawn-tree K F a Copied = refl
spawn-tree K F a Shared = refl

spawn-base : (K : List Event) (F : Files) (a : Actor) (kind : SpawnKind) (v : ℕ) → (after_spawn K F a kind).base v ≡ F.base v
spawn-base K F a New v = refl
spawn-base K F a Copied v = refl
spawn-base K F a Shared v = refl

-- a task's step changes no base
task-base : (S : Script) (K : List Event) (F : Files) (n : Name) (w : What) (v : ℕ) → (files_after S K F (Task n) w).base v ≡ F.base v
task-base S K F n (Spawn m (Ok made)) v = spawn-base K F (Task n) made.1 v
task-base S K F n (Native (Ok x)) v = native-base F (own_group K (Task n)) v (native_step S K F n)
task-base S K F n (Install (Ok m)) v = refl
task-base S K F n w v = refl

module _ (S : Script) (ts : State) (cs : call_state.State) (K L : List Event) (same : Same S ts cs K L) (e : Event) where
  module _ (t : IsTaskTurn S K e) where
    steps-alike : native_step S L (files S L) t.name ≡ native_step S K (files S K) t.name
    steps-alike =
        let c = entry-same S K L ts cs same.states t.name in
        native-same S K L t.name (same.groups t.name t.made t.lives) same.tree_is (pid-same S K L ts cs same.states t.name) (record { number = c.0; arguments = c.1 })

    task-tree : (w : What) → (files_after S L (files S L) (Task t.name) w).tree ≡ (files_after S K (files S K) (Task t.name) w).tree
    task-tree (Spawn m (Ok made)) = spawn-tree L (files S L) (Task t.name) made.1 ∙ (same.tree_is ∙ sym (spawn-tree K (files S K) (Task t.name) made.1))
    task-tree (Native (Ok x)) =
        ap (λ (s : NativeStep). (after_native (files S L) (own_group L (Task t.name)) s).tree) steps-alike
        ∙ native-tree (files S K) (files S L) (own_group K (Task t.name)) (own_group L (Task t.name)) (native_step S K (files S K) t.name) same.tree_is
    task-tree (Install (Ok m)) = same.tree_is
    task-tree w = same.tree_is

    pub tree-after-task : (files S (e ∷ L)).tree ≡ (files S (e ∷ K)).tree
    tree-after-task =
        ap (λ (F : Files). F.tree) (files-are S L e (Task t.name) e.what t.who refl)
        ∙ (task-tree e.what ∙ sym (ap (λ (F : Files). F.tree) (files-are S K e (Task t.name) e.what t.who refl)))

    pub base-after-task : (v : ℕ) → (files S (e ∷ L)).base v ≡ (files S (e ∷ K)).base v
    base-after-task v =
        ap (λ (F : Files). F.base v) (files-are S L e (Task t.name) e.what t.who refl) ∙ (task-base S L (files S L) t.name e.what v
        ∙ ((same.workers v).base ∙ sym (ap (λ (F : Files). F.base v) (files-are S K e (Task t.name) e.what t.who refl) ∙ task-base S K (files S K) t.name e.what v)))

  -- ---- of a worker

  module _ (t : IsWorkerTurn S K e) where
    -- where a base was opened, the holder of the number lives, and its group is the same
    opened-base : (p : ℕ) (d : ℤ) → base_answer (system_of S) K (holder K p) d ≡ Ok tt → AreHeld S K L ts cs same.states p
        → base_of S (files S L) (place_or (opened L (holder L p))) d ≡ base_of S (files S K) (place_or (opened K (holder K p))) d
    opened-base p d q (inl f) = let z : ◌≡◌ {A = Result (Unit {0}) ℕ} (Err esrch) (Ok tt) = rw f.0 at q in cc
    opened-base p d q (inr f) =
        let h : IsHeldBy S ts cs K L same f.1 f.2 f.3 = (f.0, f.4, f.7, f.8) in
        let m = names-held S ts cs K L same f.1 f.2 f.3 h in
        let z : ◌≡◌ {A = Result (Unit {0}) ℕ} (if ended K f.1.name then Err esrch else (if is_there (base_of S (files S K) (group K f.2) d) then Ok tt else Err ebadf)) (Ok tt) = rw (f.5, m.0) at q in
        rw (f.5, f.6) (held-base S ts cs K L same f.1 f.2 f.3 d h (lives-by (ended K f.1.name) (is_there (base_of S (files S K) (group K f.2) d)) z))
      where
        lives-by : (b c : Bool) → ◌≡◌ {A = Result (Unit {0}) ℕ} (if b then Err esrch else (if c then Ok tt else Err ebadf)) (Ok tt) → b ≡ false
        lives-by true c h = cc
        lives-by false c h = refl

    deed-answer : (p : ℕ) (d : ℤ) (a : Result (Unit {0}) ℕ) → e.what ≡ OpenBase p d a → a ≡ base_answer (system_of S) K (holder K p) d
    deed-answer p d a q = by t.deed (sym q ∙ t.step)
      where
        recv-not : (b : Bool) → OpenBase p d a ≡ (if b then Skip else Recv (recv_answer K (oldest_unfetched K))) → a ≡ base_answer (system_of S) K (holder K p) d
        recv-not true z = cc
        recv-not false z = cc

        take-not : (x : Option (Result ℕ ℕ)) (on : Bool) → OpenBase p d a ≡ take_step x on → a ≡ base_answer (system_of S) K (holder K p) d
        take-not (Some y) on z = cc
        take-not None true z = cc
        take-not None false z = cc

        by : (x : Deed) → OpenBase p d a ≡ deed_step (system_of S) K t.worker x → a ≡ base_answer (system_of S) K (holder K p) d
        by Deed.Recv z = recv-not (count K == 0) z
        by (Deed.OpenBase u v) z =
            let i : p ≡ u = cc in
            let j : d ≡ v = cc in
            let k : a ≡ base_answer (system_of S) K (holder K u) v = cc in
            k ∙ (ap (λ (o : ℕ). base_answer (system_of S) K (holder K o) v) (sym i) ∙ ap (base_answer (system_of S) K (holder K p)) (sym j))
        by Deed.AddfdTake z = take-not (install_at K (request_of K t.worker)) (request_listed K (request_of K t.worker)) z
        by (Deed.OpenMem u) z = cc
        by (Deed.Check x) z = cc
        by (Deed.Read u n) z = cc
        by (Deed.Act r cap) z = cc
        by (Deed.Plant u b cap) z = cc
        by (Deed.AddfdPut u) z = cc
        by (Deed.Send x back) z = cc
        by Deed.LetGo z = cc

    worker-tree : (w : What) → WorkerFacts w → (files_after S L (files S L) (Worker t.worker) w).tree ≡ (files_after S K (files S K) (Worker t.worker) w).tree
    worker-tree (Act q cap (Ok u)) f =
        rw (same.tree_is, (same.workers t.worker).base) refl
    worker-tree (OpenBase p d (Ok u)) f = same.tree_is
    worker-tree LetGo f = same.tree_is
    worker-tree (Spawn n a) f = absurd f
    worker-tree (Native a) f = absurd f
    worker-tree (Install a) f = absurd f
    worker-tree w f = same.tree_is

    worker-base : (w : What) (v : ℕ) → e.what ≡ w → WorkerFacts w → (files_after S L (files S L) (Worker t.worker) w).base v ≡ (files_after S K (files S K) (Worker t.worker) w).base v
    worker-base (Act q cap (Ok u)) v q' f = (same.workers v).base
    worker-base (OpenBase p d (Ok u)) v q f =
        let b = opened-base p d (sym (deed-answer p d (Ok u) q)) (holders-same S K L ts cs same.states p) in
        rw (b, (same.workers v).base) refl
    worker-base LetGo v q f = rw (same.workers v).base refl
    worker-base (Spawn n a) v q f = absurd f
    worker-base (Native a) v q f = absurd f
    worker-base (Install a) v q f = absurd f
    worker-base w v q f = (same.workers v).base

    pub facts : WorkerFacts e.what
    facts = subst (λ (w : What). WorkerFacts w) (sym t.step) (worker-facts S K t.worker t.deed)

    pub tree-after-worker : (files S (e ∷ L)).tree ≡ (files S (e ∷ K)).tree
    tree-after-worker =
        ap (λ (F : Files). F.tree) (files-are S L e (Worker t.worker) e.what t.who refl)
        ∙ (worker-tree e.what facts ∙ sym (ap (λ (F : Files). F.tree) (files-are S K e (Worker t.worker) e.what t.who refl)))

    pub base-after-worker : (v : ℕ) → (files S (e ∷ L)).base v ≡ (files S (e ∷ K)).base v
    base-after-worker v =
        ap (λ (F : Files). F.base v) (files-are S L e (Worker t.worker) e.what t.who refl)
        ∙ (worker-base e.what v refl facts ∙ sym (ap (λ (F : Files). F.base v) (files-are S K e (Worker t.worker) e.what t.who refl)))

    -- ---- what it does to the groups

    worker-calm : (w : What) → e.what ≡ w → IsOther S K (Worker t.worker) w → IsOther S L (Worker t.worker) w → makes_group w ≡ false → LeavesGroups S K L e
    worker-calm w q k l m = (others S K e none_live none_live (rw (t.who, q) k), others S L e none_live none_live (rw (t.who, q) l), ap makes_group q ∙ m)

    plant-by : (x y : Option ℕ) (a : ℕ) (b : List ℕ) (cap : Option Cap) → e.what ≡ Plant a b cap (Ok tt) → mem K t.worker ≡ x → mem L t.worker ≡ y → IsSameMemory S K L x y
        → (g : ℕ) × (x ≡ Some g) → ChangesGroup S K L e
    plant-by (Some g) (Some h) a b cap q k l m o = record {
      group = m.0;
      bytes = Some (a, b);
      slot = None;
      here = plants S K e none_live none_live m.0 a b (record { worker = t.worker; who = t.who; cap = cap; what = q; group = g; own = k; at = m.1 });
      there = plants S L e none_live none_live m.0 a b (record { worker = t.worker; who = t.who; cap = cap; what = q; group = h; own = l; at = m.2 });
      makes_none = ap makes_group q;
    }
    plant-by (Some g) None a b cap q k l m o = absurd m
    plant-by None y a b cap q k l m o = absurd (cc o.1)

    pub worker-change : (w : What) → e.what ≡ w → WorkerFacts w → TaskChange S K L e 0
    worker-change (Plant a b cap (Ok u)) q f =
        let o = t.opened a b cap q in
        inr (inl (plant-by (mem K t.worker) (mem L t.worker) a b cap q refl refl (same.workers t.worker).memory o))
    worker-change (Spawn n a) q f = absurd f
    worker-change (Poke a b) q f = absurd f
    worker-change (Native a) q f = absurd f
    worker-change (Install a) q f = absurd f
    worker-change w q f = inl (worker-calm w q (record { stores_none = refl; slots = tt }) (record { stores_none = refl; slots = tt }) refl)

  -- ---- open memories

  module _ (keeps : (o : ℕ) → o < groups_made K → HaveBytes S K L o → HaveBytes S (e ∷ K) (e ∷ L) o) where
    memory-more : (x y : Option ℕ) → IsSameMemory S K L x y → IsSameMemory S (e ∷ K) (e ∷ L) x y
    memory-more (Some g) (Some h) m = (
      m.0,
      group-stays e K m.0 g m.1,
      group-stays e L m.0 h m.2,
      bytes-at S (e ∷ K) (e ∷ L) m.0 g h (group-stays e K m.0 g m.1) (group-stays e L m.0 h m.2) (keeps m.0 (place-below makes_group K m.0 g m.1).0 (bytes-of S K L m.0 g h m.1 m.2 m.3)),
    )
    memory-more None None m = tt
    memory-more (Some g) None m = m
    memory-more None (Some h) m = m

    -- the memory of who holds a number
    held-memory : (p : ℕ) → lives K (holder K p) ≡ true → AreHeld S K L ts cs same.states p → IsSameMemory S K L (opened K (holder K p)) (opened L (holder L p))
    held-memory p q (inl f) = let z : false ≡ true = rw f.0 at q in cc
    held-memory p q (inr f) =
        let h : IsHeldBy S ts cs K L same f.1 f.2 f.3 = (f.0, f.4, f.7, f.8) in
        let m = names-held S ts cs K L same f.1 f.2 f.3 h in
        let d : not (ended K f.1.name) ≡ true = rw (f.5, m.0) at q in
        let r = row-shared S K L ts cs same.states f.1.name (held-made S ts cs K L same f.1 f.2 f.3 h) in
        let b = have-bytes S ts cs K L same e f.1.name r.0 r.1 (held-made S ts cs K L same f.1 f.2 f.3 h) (turned (ended K f.1.name) d) in
        let here : group_of K r.0.group ≡ Some (group K f.2) =
        r.1.2.group_is.1 ∙ (sym r.1.2.group_is.2 ∙ group-at-place S K ts cs same.states.here f.0 f.2 f.1 f.1.name f.4 refl f.7) in
        let there : group_of L r.0.group ≡ Some (group L f.3) =
        r.1.3.group_is.1 ∙ (sym r.1.3.group_is.2 ∙ group-at-place S L ts cs same.states.there f.0 f.3 f.1 f.1.name f.4 refl f.8) in
        rw (f.5, f.6) (r.0.group, here, there, bytes-at S K L r.0.group (group K f.2) (group L f.3) here there b.0)
      where
        turned : (b : Bool) → not b ≡ true → b ≡ false
        turned true h = cc
        turned false h = refl

    pub mem-after-task : IsTaskTurn S K e → (v : ℕ) → IsSameMemory S (e ∷ K) (e ∷ L) (mem (e ∷ K) v) (mem (e ∷ L) v)
    unfolding mem
    mem-after-task t v = by (is_worker e.who v) (ap (λ (a : Actor). is_worker a v) t.who)
      where
        by : (b : Bool) → b ≡ false → IsSameMemory S (e ∷ K) (e ∷ L) (if b then mem_after K e.what (mem K v) else mem K v) (if b then mem_after L e.what (mem L v) else mem L v)
        by true q = cc
        by false q = memory-more (mem K v) (mem L v) (same.workers v).memory

    module _ (t : IsWorkerTurn S K e) where
      mem-answer : (p : ℕ) (u : Unit {0}) → e.what ≡ OpenMem p (Ok u) → lives K (holder K p) ≡ true
      mem-answer p u q = by t.deed (sym q ∙ t.step)
        where
          recv-not : (b : Bool) → OpenMem p (Ok u) ≡ (if b then Skip else Recv (recv_answer K (oldest_unfetched K))) → lives K (holder K p) ≡ true
          recv-not true z = cc
          recv-not false z = cc

          take-not : (x : Option (Result ℕ ℕ)) (on : Bool) → OpenMem p (Ok u) ≡ take_step x on → lives K (holder K p) ≡ true
          take-not (Some y) on z = cc
          take-not None true z = cc
          take-not None false z = cc

          yes : (b : Bool) → ◌≡◌ {A = Result (Unit {0}) ℕ} (Ok u) (if b then Ok tt else Err esrch) → b ≡ true
          yes true z = refl
          yes false z = cc

          by : (x : Deed) → OpenMem p (Ok u) ≡ deed_step (system_of S) K t.worker x → lives K (holder K p) ≡ true
          by Deed.Recv z = recv-not (count K == 0) z
          by (Deed.OpenMem o) z =
              let i : p ≡ o = cc in
              let k : ◌≡◌ {A = Result (Unit {0}) ℕ} (Ok u) (if lives K (holder K o) then Ok tt else Err esrch) = cc in
              ap (λ (y : ℕ). lives K (holder K y)) i ∙ yes (lives K (holder K o)) k
          by Deed.AddfdTake z = take-not (install_at K (request_of K t.worker)) (request_listed K (request_of K t.worker)) z
          by (Deed.OpenBase o d) z = cc
          by (Deed.Check x) z = cc
          by (Deed.Read o n) z = cc
          by (Deed.Act r cap) z = cc
          by (Deed.Plant o b cap) z = cc
          by (Deed.AddfdPut o) z = cc
          by (Deed.Send x back) z = cc
          by Deed.LetGo z = cc

      mem-by : (w : What) (v : ℕ) → e.what ≡ w → IsSameMemory S (e ∷ K) (e ∷ L) (mem_after K w (mem K v)) (mem_after L w (mem L v))
      mem-by (OpenMem p (Ok u)) v q = memory-more (opened K (holder K p)) (opened L (holder L p)) (held-memory p (mem-answer p u q) (holders-same S K L ts cs same.states p))
      mem-by LetGo v q = tt
      mem-by w v q = memory-more (mem K v) (mem L v) (same.workers v).memory

      pub mem-after-worker : (v : ℕ) → IsSameMemory S (e ∷ K) (e ∷ L) (mem (e ∷ K) v) (mem (e ∷ L) v)
      unfolding mem
      mem-after-worker v = by (is_worker e.who v)
        where
          by : (b : Bool) → IsSameMemory S (e ∷ K) (e ∷ L) (if b then mem_after K e.what (mem K v) else mem K v) (if b then mem_after L e.what (mem L v) else mem L v)
          by true = mem-by e.what v refl
          by false = memory-more (mem K v) (mem L v) (same.workers v).memory
