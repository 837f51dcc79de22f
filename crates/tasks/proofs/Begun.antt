-- The table at the script's start: the first task, and the first PID.
-- By the definitions at a history of no event and of one.
use Rattle.std.proofs.Common.{◌≡◌, ◌⊎◌, inl, inr, ℕ, zero, suc, ◌+◌, ◌-◌, false, List, [], ◌∷◌, ◌++◌, length, Option, Some, None, refl, sym, ap, ◌∙◌, subst, arith, Contains}
use Rattle.std.specs.Prelude.{slice_get, count_by}
use Rattle.std.proofs.lemmas.List.{length-map}
use Rattle.hist_model.specs.Legal.{system_of}
use Rattle.hist_model.specs.Look.{newest}
use Rattle.hist_model.specs.Steps.{start}
use Rattle.hist_model.specs.Tasks.{free_from, holder, last_pid, next_pid}
use Rattle.hist_model.specs.declared.event.Disposition.TheVariants.{Default}
use Rattle.hist_model.specs.declared.event.Event.{Event}
use Rattle.hist_model.specs.declared.script.Script.{Script}
use Rattle.history_frames.specs.Ordinals.{count_of, groups_made}
use Rattle.tasks.specs.Fold.{Looks}
use Rattle.tasks.specs.Index.{under}
use Rattle.tasks.specs.Sets.{all_signals}
use Rattle.tasks.specs.Sound.{IsSound}
use Rattle.tasks.specs.State.{Row, State, after, new_row}
use Rattle.tasks.specs.Table.{Member, Table, AreWaiting, IsAdded, IsChildIn, IsFamily, IsIndexed, IsTableOf, is_living, new_member, row_in, row_of, rows_of, view}
use Rattle.tasks.specs.declared.index.Entry.{Entry}
use Rattle.tasks.proofs.Pids.{IsPut, put-of}
use Rattle.tasks.proofs.Folds.{follows}
use Rattle.tasks.proofs.Stood.{same-state}

-- the first number is the one after the base
first-some : (base n : ℕ) → next_pid base (suc n) [] ≡ Some (base + 1)
unfolding next_pid free_from last_pid holder newest
first-some base n =
    let q : base + suc n - base ≡ suc n = omega arith in
    rw q

first-none : (base : ℕ) → next_pid base 0 [] ≡ None
unfolding next_pid free_from last_pid
first-none base =
    let q : base + 0 - base ≡ 0 = omega arith in
    let z : base - base ≡ 0 = omega arith in
    rw (q, z)

pub first-pid : (base pidmax pid : ℕ) → next_pid base pidmax [] ≡ Some pid → pid ≡ base + 1
first-pid base zero pid h = let z = first-none base in cc
first-pid base (suc n) pid h = let z : Some pid ≡ Some (base + 1) = sym h ∙ first-some base n in cc

pub no-first : (base pidmax : ℕ) → next_pid base pidmax [] ≡ None → pidmax ≡ 0
no-first base zero h = refl
no-first base (suc n) h = let z = first-some base n in cc

-- without tasks nothing is there
no-tasks : (S : Script) (T : Table) → IsTableOf S [] T → T.tasks ≡ []
unfolding count_of
no-tasks S T s = empty T.tasks (sym (length-map T.tasks (row_in T.tasks)) ∙ s.looks.count)
  where
    empty : (xs : List Member) → length xs ≡ 0 → xs ≡ []
    empty [] h = refl
    empty (x ∷ xs) h = cc

pub stands-begun : (S : Script) (old new : Table) (pid program : ℕ) → IsTableOf S [] old → pid ≡ S.pidbase + 1 → program ≡ length S.programs - 1
    → IsAdded old old.tasks 0 (new_member (0 ∷ []) pid None 0 program (all_signals Default)) new → IsTableOf S (start (system_of S) ∷ []) new
unfolding count_of
stands-begun S old new pid program s p q a = record {
  base_is = a.base ∙ s.base_is;
  top_is = a.top ∙ s.top_is;
  looks = subst (λ x. Looks S (e ∷ []) x) (same-state (after S st e).rows (rows_of new.tasks) (after S st e).last new.last (after S st e).groups (groups_made (e ∷ [])) now (sym p ∙ sym a.last) refl) law.0;
  sound = law.1;
  whole = record {
    family = subst IsFamily (sym tasks) (record { names = names; parents = parents; children = λ o k r t g h. absurd (no-entry o k r t g h) });
    indexed = subst (λ (xs : List Member). IsIndexed xs new.pids) (sym tasks) (record {
      ordered = put.ordered;
      listed = λ x h. listed x (put.listed x h);
      whole = λ o t g r. subst (λ k. Contains new.pids (under t.pid k)) (sym (place o t g)) (subst (λ k. Contains new.pids (under k 0)) (ap (λ (t : Member). t.pid) (only o t g)) own);
    });
    waiting = subst (λ (xs : List Member). (o : ℕ) (t : Member) → slice_get xs o ≡ Some t → AreWaiting xs o t.waiting) (sym tasks) (λ o t g. subst (λ (x : Member). AreWaiting (m ∷ []) o x.waiting) (only o t g) (record {
      rising = λ j k b d l h. absurd (no-item j b h);
      listed = λ k b h. absurd (no-item k b h);
      whole = λ b u h r. absurd (parentless b u o h r);
    }));
    living = a.living (omega (arith, none)) ∙ (ap (λ k. k + 1) none ∙ ap (λ (xs : List Member). count_by is_living xs) (sym tasks));
  };
}
  where
    e : Event
    e = start (system_of S)

    st : State
    st = view old (groups_made [])

    m : Member
    m = new_member (0 ∷ []) pid None 0 program (all_signals Default)

    law : Looks S (e ∷ []) (after S st e) × IsSound (e ∷ [])
    law = follows S [] e st s.looks s.sound (inl (refl, refl))

    empty : old.tasks ≡ []
    empty = no-tasks S old s

    tasks : new.tasks ≡ m ∷ []
    tasks = a.tasks ∙ ap (λ (xs : List Member). xs ++ m ∷ []) empty

    none : old.living ≡ 0
    none = s.whole.living ∙ ap (λ (xs : List Member). count_by is_living xs) empty

    same-row : (n pid pid' p p' : ℕ) → pid ≡ pid' → p ≡ p' → new_row (0 ∷ []) pid 0 p (all_signals Default) ≡ row_of false (new_member (0 ∷ []) pid' None 0 p' (all_signals Default))
    same-row n pid pid' p p' x y = rw (x, y) refl

    now : (after S st e).rows ≡ rows_of new.tasks
    now = ap (λ (xs : List Member). (after S (record { rows = rows_of xs; last = old.last; groups = groups_made [] }) e).rows) empty
        ∙ (ap (λ (r : Row). r ∷ []) (same-row 0 (S.pidbase + 1) pid (length S.programs - 1) program (sym p) (sym q)) ∙ ap (λ (xs : List Member). rows_of xs) (sym tasks))

    put : IsPut old.pids (under pid 0) new.pids
    put = put-of old.pids new.pids (under pid 0) s.whole.indexed.ordered (a.pids s.whole.indexed.ordered)

    own : Contains new.pids (under pid 0)
    own = put.own

    only : (o : ℕ) (t : Member) → slice_get (m ∷ []) o ≡ Some t → m ≡ t
    only zero t g = cc
    only (suc o) t g = cc

    place : (o : ℕ) (t : Member) → slice_get (m ∷ []) o ≡ Some t → o ≡ 0
    place zero t g = refl
    place (suc o) t g = cc

    names : (o r : ℕ) (t u : Member) → slice_get (m ∷ []) o ≡ Some t → slice_get (m ∷ []) r ≡ Some u → t.name ≡ u.name → o ≡ r
    names o r t u g h x = place o t g ∙ sym (place r u h)

    parents : (o : ℕ) (t : Member) → slice_get (m ∷ []) o ≡ Some t → IsChildIn (m ∷ []) o t.parent t.name
    parents o t g = subst (λ (x : Member). IsChildIn (m ∷ []) o x.parent x.name) (only o t g) refl

    no-entry : (o k r : ℕ) (t : Member) → slice_get (m ∷ []) o ≡ Some t → slice_get t.children k ≡ Some (Some r) → ⊥
    no-entry o k r t g h = nothing k r (ap (λ (x : Member). slice_get x.children k) (only o t g) ∙ h)
      where
        nothing : (k r : ℕ) → slice_get {X = Option ℕ} [] k ≡ Some (Some r) → ⊥
        nothing k r h = cc

    no-item : (k b : ℕ) → slice_get {X = ℕ} [] k ≡ Some b → ⊥
    no-item k b h = cc

    parentless : (b : ℕ) (u : Member) (o : ℕ) → slice_get (m ∷ []) b ≡ Some u → u.parent ≡ Some o → ⊥
    parentless b u o h r = let z : None ≡ Some o = ap (λ (x : Member). x.parent) (only b u h) ∙ r in cc

    listed : (x : Entry) → (under pid 0 ≡ x) ⊎ Contains old.pids x → (t : Member) × (slice_get (m ∷ []) x.task ≡ Some t) × (t.pid ≡ x.key)
    listed x (inl h) = (m, ap (λ (y : Entry). slice_get (m ∷ []) y.task) (sym h), ap (λ (y : Entry). y.key) h)
    listed x (inr h) = let t = s.whole.indexed.listed x h in absurd (nothing x.task t.0 (ap (λ (xs : List Member). slice_get xs x.task) (sym empty) ∙ t.1))
      where
        nothing : (k : ℕ) (t : Member) → slice_get {X = Member} [] k ≡ Some t → ⊥
        nothing k t h = cc
