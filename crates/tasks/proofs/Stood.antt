-- A table that took a step stands for the longer history.
-- By the law of the state, since the table's rows are what the step makes of them.
use Rattle.std.proofs.Common.{◌≡◌, inl, inr, ℕ, ◌+◌, ◌-◌, ◌<◌, ◌≤◌, ◌^◌, Bool, true, false, ◌||◌, ◌&&◌, not, List, [], ◌∷◌, ◌++◌, length, set, Option, Some, None, refl, sym, ap, ◌∙◌, subst, arith}
use Rattle.std.specs.Prelude.{if◌then◌else◌, map, slice_get, count_by, Ok}
use Rattle.std.proofs.lemmas.Bool.{cases_lt}
use Rattle.std.proofs.lemmas.List.{append-nil, length-map, length-set}
use Rattle.std.proofs.lemmas.Option.{slice_get-map}
use Rattle.hist_model.specs.Kinds.{ends, exits, makes, skips}
use Rattle.hist_model.specs.Look.{is_task, name_eq}
use Rattle.hist_model.specs.Steps.{counts, is_spawn}
use Rattle.hist_model.specs.Tasks.{given, or_number}
use Rattle.hist_model.specs.declared.event.Actor.TheVariants.{Task as TaskActor}
use Rattle.hist_model.specs.declared.event.Entered.TheVariants.{Kill}
use Rattle.hist_model.specs.declared.event.Event.{Event}
use Rattle.hist_model.specs.declared.event.What.{What}
use Rattle.hist_model.specs.declared.event.What.TheVariants.{Spawn, Enter, Exit, Deliver, Handler, Poke, Reap, Signal}
use Rattle.hist_model.specs.declared.script.Script.{Script}
use Rattle.history_frames.specs.Ordinals.{count_of, tasks_made, groups_made, task_name_of}
use Rattle.tasks.specs.Fold.{Looks, IsRow}
use Rattle.tasks.specs.Rows.{IsAfter}
use Rattle.tasks.specs.Sound.{IsStepOf, IsOther, keeps_tasks}
use Rattle.tasks.specs.State.{State, Row, after, after_row, is_reaped}
use Rattle.tasks.specs.Table.{Member, Table, IsTableOf, IsWhole, IsStepped, IsNoted, IsFamily, IsIndexed, AreWaiting, is_living, row_in, rows_of, task_at, view, with_progress}
use Rattle.tasks.specs.declared.index.Entry.{Entry}
use Rattle.tasks.specs.declared.row.Progress.{Progress}
use Rattle.tasks.proofs.Changed.{IsTouched, IsQuiet, member-with, rows-after, row-after, own-touched, other-touched, quiet-own, quiet-other, kept-row}
use Rattle.tasks.proofs.Folds.{follows-step, follows-other, looks-none, none-made-by, groups-more, row-below, other-makes}
use Rattle.tasks.proofs.Frames.{names-apart, skips-is}
use Rattle.tasks.proofs.Listed.{get-set, get-there, get-within, count-put, one}
use Rattle.tasks.proofs.Sounds.{fits-step, fits-other, sound-more, sound-none}
use Rattle.tasks.proofs.Whole.{IsSameTask, same-children, family-same, indexed-same, waiting-same, stays-reaped}

-- ---- what a table tells of a task

module _ (S : Script) (K : List Event) (T : Table) (s : IsTableOf S K T) where
  -- each task that was made is there
  pub task-there : (o : ℕ) → o < tasks_made K → (t : Member) × (task_at T o ≡ Some t)
  task-there o l =
      let n : length (rows_of T.tasks) ≡ length T.tasks = length-map T.tasks (row_in T.tasks) in
      get-within T.tasks o (omega (arith, l, s.looks.count, n))

  pub row-at : (o : ℕ) (t : Member) → task_at T o ≡ Some t → slice_get (rows_of T.tasks) o ≡ Some (row_in T.tasks t)
  row-at o t at = slice_get-map (row_in T.tasks) T.tasks o ∙ rw at refl

  pub task-made : (o : ℕ) (t : Member) → task_at T o ≡ Some t → o < tasks_made K
  task-made o t at = row-below S K (view T (groups_made K)) o (row_in T.tasks t) s.looks (row-at o t at)

  pub name-is : (o : ℕ) (t : Member) → task_at T o ≡ Some t → t.name ≡ task_name_of K o
  name-is o t at = (s.looks.rows o (row_in T.tasks t) (row-at o t at)).name_is

  -- what the definitions say of it
  pub row-is : (o : ℕ) (t : Member) → task_at T o ≡ Some t → IsRow S K (task_name_of K o) (row_in T.tasks t)
  row-is o t at = let i = s.looks.rows o (row_in T.tasks t) (row-at o t at) in subst (λ n. IsRow S K n (row_in T.tasks t)) i.name_is i.is_row

  pub none-past : (o : ℕ) → task_at T o ≡ None → tasks_made K ≤ o
  none-past o q = elim (cases_lt o (tasks_made K)) [
    | inl l ↦ let r = task-there o l in let z : None ≡ Some r.0 = sym q ∙ r.1 in cc
    | inr l ↦ l
  ]

  -- its place in its program fits
  pub next-fits : (o : ℕ) (t : Member) (w : What) → task_at T o ≡ Some t → length K < 2 ^ 64 → t.progress.next + counts w < 2 ^ 64
  next-fits o t w at few =
      let l = task-made o t at in
      let n = (row-is o t at).next_is in
      omega (arith, n, few, s.sound.counted (task_name_of K o) (omega arith), counts-one w)
    where
      counts-one : (w : What) → counts w ≤ 1
      counts-one (Spawn n a) = omega arith
      counts-one (Poke a b) = omega arith
      counts-one (Handler s m) = omega arith
      counts-one (Enter nr args v) = omega arith
      counts-one (Signal p s a) = omega arith
      counts-one (Reap a) = omega arith
      counts-one w = omega arith

-- ---- one event more

-- the state with these fields
abbrev state : List Row → ℕ → ℕ → State
state rows last groups = record { rows = rows; last = last; groups = groups }

pub same-state : (r r' : List Row) (l l' g g' : ℕ) → r ≡ r' → l ≡ l' → g ≡ g' → state r l g ≡ state r' l' g'
same-state r r' l l' g g' a b c = rw (a, b, c) refl

-- a step that makes no task gives no number
last-kept : (e : Event) (l : ℕ) → makes e.what ≡ false → or_number (given e.what) l ≡ l
last-kept e l m = go e.what m
  where
    go : (w : What) → makes w ≡ false → or_number (given w) l ≡ l
    go (Spawn n (Ok a)) h = cc
    go w h = refl

pub stands-step : (S : Script) (K : List Event) (e : Event) (o : ℕ) (old new : Table) → IsTableOf S K old → IsStepOf S K e o → makes e.what ≡ false → IsStepped old o e.what new → IsTableOf S (e ∷ K) new
stands-step S K e o old new s p m h =
    let st = view old (groups_made K) in
    let t = task-there S K old s o p.there in
    let who : e.who ≡ TaskActor t.0.name = p.who ∙ ap TaskActor (sym (name-is S K old s o t.0 t.1)) in
    let now : (after S st e).rows ≡ rows_of new.tasks = ap (λ (x : List Row). map (after_row e.who e.what) (rows_of old.tasks) ++ x) (none-made-by S st e.who e.what m)
    ∙ (append-nil (map (after_row e.who e.what) (rows_of old.tasks)) ∙ (ap (λ a. map (after_row a e.what) (rows_of old.tasks)) who ∙ sym (h.rows t.0 t.1))) in
    record {
      base_is = h.base ∙ s.base_is;
      top_is = h.top ∙ s.top_is;
      looks = subst (λ x. Looks S (e ∷ K) x) (same-state (after S st e).rows (rows_of new.tasks) (after S st e).last new.last (after S st e).groups (groups_made (e ∷ K))
          now (last-kept e old.last m ∙ sym h.last) (groups-more e K)) (follows-step S K e st o s.looks s.sound p);
      sound = sound-more K e s.sound (fits-step S K e o p s.sound);
      whole = h.whole;
    }

-- ---- a step that reaps none and sends no signal

abbrev is-quiet : What → Bool
is-quiet (Reap (Ok m)) = false
is-quiet (Signal p sig (Ok u)) = false
is-quiet w = true

pub quiet-is : (w : What) → is-quiet w ≡ true → IsQuiet w
quiet-is (Reap (Ok m)) h = cc
quiet-is (Signal p sig (Ok u)) h = cc
quiet-is w h = record { no_reap = λ n. refl; no_signal = λ r. refl }

pub keeps-quiet : (w : What) → keeps_tasks w ≡ true → IsQuiet w
keeps-quiet w h = quiet-is w (go w h)
  where
    go : (w : What) → keeps_tasks w ≡ true → is-quiet w ≡ true
    go (Reap (Ok m)) h = h
    go (Signal p sig (Ok u)) h = h
    go w h = refl

pub exits-quiet : (w : What) → exits w ≡ true → IsQuiet w
exits-quiet w h = quiet-is w (go w h)
  where
    go : (w : What) → exits w ≡ true → is-quiet w ≡ true
    go (Reap (Ok m)) h = cc
    go (Signal p sig (Ok u)) h = cc
    go w h = refl

-- how many live once one progress was put
pub living-put : (xs : List Member) (o : ℕ) (t m : Member) (e : Bool) → slice_get xs o ≡ Some t → m.progress.ended ≡ (e || t.progress.ended)
    → (if m.progress.ended && not t.progress.ended then count_by is_living xs - 1 else count_by is_living xs) ≡ count_by is_living (set xs o m)
living-put xs o t m e at d = go e t.progress.ended m.progress.ended d (count_by is_living (set xs o m)) (count_by is_living xs) (count-put is_living xs o t m at)
  where
    go : (w r q : Bool) → q ≡ (w || r) → (n o : ℕ) → n + one (not r) ≡ o + one (not q) → (if q && not r then o - 1 else o) ≡ n
    go w true true e n o h = omega arith
    go w false true e n o h = omega arith
    go w false false e n o h = omega arith
    go true true false e n o h = cc
    go false true false e n o h = cc

-- the table after a step, where these are the tasks
pub is-stepped : (old new : Table) (o : ℕ) (t : Member) (w : What) (now : List Member) → IsWhole old → task_at old o ≡ Some t → length now ≡ length old.tasks
    → ((j : ℕ) (x y : Member) → slice_get old.tasks j ≡ Some x → slice_get now j ≡ Some y → IsTouched old.tasks (TaskActor t.name) w x y)
    → ((j : ℕ) (x y : Member) → slice_get old.tasks j ≡ Some x → slice_get now j ≡ Some y → IsSameTask x y)
    → ((j : ℕ) (x y : Member) → slice_get old.tasks j ≡ Some x → slice_get now j ≡ Some y → AreWaiting now j y.waiting)
    → new.living ≡ count_by is_living now → new.tasks ≡ now → new.pids ≡ old.pids → new.last ≡ old.last → new.base ≡ old.base → new.top ≡ old.top → IsStepped old o w new
is-stepped old new o t w now H at n touched same waiting l a b f g h =
    let row = row-after (TaskActor t.name) w old.tasks now H.family n touched in
    record {
      whole = record {
        family = subst IsFamily (sym a) (family-same old.tasks now n same H.family);
        indexed = subst (λ (xs : List Member). IsIndexed xs new.pids) (sym a) (subst (λ (es : List Entry). IsIndexed now es) (sym b)
            (indexed-same old.tasks now n same old.pids H.indexed (λ j x y h g r. stays-reaped (TaskActor t.name) w (row_in old.tasks x) (ap is_reaped (sym (row j x y h g)) ∙ r))));
        waiting = subst (λ (xs : List Member). (j : ℕ) (y : Member) → slice_get xs j ≡ Some y → AreWaiting xs j y.waiting) (sym a)
            (λ j y g. let x = get-there now old.tasks j y (sym n) g in waiting j x.0 y x.1 g);
        living = l ∙ ap (λ (xs : List Member). count_by is_living xs) (sym a);
      };
      rows = λ u q.
          let s : Some t ≡ Some u = sym at ∙ q in
          let e : t ≡ u = cc in
          ap (λ (xs : List Member). rows_of xs) a ∙ (rows-after (TaskActor t.name) w old.tasks now H.family n touched ∙ ap (λ (v : Member). map (after_row (TaskActor v.name) w) (rows_of old.tasks)) e);
      last = f;
      base = g;
      top = h;
    }

-- the table after a quiet step of a task whose entries are these
module _ (old : Table) (H : IsWhole old) (o : ℕ) (t : Member) (at : task_at old o ≡ Some t) (p : Progress) (w : What) (A : IsAfter t.progress w p) (fits : t.progress.next + counts w < 2 ^ 64) (Q : IsQuiet w)
    (children : List (Option ℕ)) (long : length children ≡ length t.children + is_spawn w) (same : IsSameTask t (member-with t children t.waiting p)) where
  abbrev m : Member
  m = member-with t children t.waiting p

  abbrev now : List Member
  now = set old.tasks o m

  each-touched : (j : ℕ) (x y : Member) → slice_get old.tasks j ≡ Some x → slice_get now j ≡ Some y → IsTouched old.tasks (TaskActor t.name) w x y
  each-touched j x y h g = elim (get-set old.tasks o j m y g) [
    | inl z ↦
        let s : Some t ≡ Some x = sym at ∙ (ap (slice_get old.tasks) (sym z.0) ∙ h) in
        let e : t ≡ x = cc in
        subst (λ u. IsTouched old.tasks (TaskActor t.name) w u y) e (subst (λ u. IsTouched old.tasks (TaskActor t.name) w t u) z.1 (own-touched old.tasks t p p w children t.waiting A fits long (quiet-own w t p (row_in old.tasks t) Q A refl)))
    | inr z ↦
        let s : Some x ≡ Some y = sym h ∙ z.1 in
        let e : x ≡ y = cc in
        let n : name_eq t.name x.name ≡ false = names-apart t.name x.name (λ k. z.0 (H.family.names j o x t h at (sym k))) in
        subst (λ u. IsTouched old.tasks (TaskActor t.name) w x u) e (other-touched old.tasks (TaskActor t.name) x x.progress w x.waiting n (quiet-other w x (row_in old.tasks x) Q refl))
  ]

  each-same : (j : ℕ) (x y : Member) → slice_get old.tasks j ≡ Some x → slice_get now j ≡ Some y → IsSameTask x y × (y.waiting ≡ x.waiting) × (y.progress.waited ≡ x.progress.waited)
  each-same j x y h g = elim (get-set old.tasks o j m y g) [
    | inl z ↦
        let s : Some t ≡ Some x = sym at ∙ (ap (slice_get old.tasks) (sym z.0) ∙ h) in
        let e : t ≡ x = cc in
        subst (λ u. IsSameTask u y × (y.waiting ≡ u.waiting) × (y.progress.waited ≡ u.progress.waited)) e (subst (λ u. IsSameTask t u × (u.waiting ≡ t.waiting) × (u.progress.waited ≡ t.progress.waited)) z.1 (same, refl, A.waited))
    | inr z ↦
        let s : Some x ≡ Some y = sym h ∙ z.1 in
        let e : x ≡ y = cc in
        subst (λ u. IsSameTask x u × (u.waiting ≡ x.waiting) × (u.progress.waited ≡ x.progress.waited)) e (same-children x x refl refl refl refl, refl, refl)
  ]

  pub quiet-stepped : (new : Table) → new.tasks ≡ now → new.pids ≡ old.pids → new.living ≡ (if p.ended && not t.progress.ended then old.living - 1 else old.living) → new.last ≡ old.last → new.base ≡ old.base → new.top ≡ old.top → IsStepped old o w new
  quiet-stepped new a b d f g h =
      let n = length-set old.tasks o m in
      let each : (j : ℕ) (x y : Member) → slice_get old.tasks j ≡ Some x → slice_get now j ≡ Some y → IsSameTask x y = λ j x y h g. (each-same j x y h g).0 in
      is-stepped old new o t w now H at n each-touched each
      (λ j x y h g. let i = each-same j x y h g in subst (λ ws. AreWaiting now j ws) (sym i.1) (waiting-same old.tasks now n each j x.waiting (H.waiting j x h) (λ k u v h g q. (each-same k u v h g).2)))
      (d ∙ (ap (λ l. if p.ended && not t.progress.ended then l - 1 else l) H.living ∙ living-put old.tasks o t m (ends w) at A.ended))
      a b f g h

pub noted-stepped : (old new : Table) (o : ℕ) (t : Member) (w : What) → IsWhole old → task_at old o ≡ Some t → t.progress.next + counts w < 2 ^ 64 → IsQuiet w → is_spawn w ≡ 0 → IsNoted old o w new → IsStepped old o w new
noted-stepped old new o t w H at fits Q z n =
    let i = n.task t at in
    let q = i.2 in
    quiet-stepped old H o t at i.0 w i.1 fits Q t.children (omega (arith, z)) (same-children t (with_progress t i.0) refl refl refl refl) new
    (ap (λ (x : Table). x.tasks) q) (ap (λ (x : Table). x.pids) q) (ap (λ (x : Table). x.living) q) (ap (λ (x : Table). x.last) q) (ap (λ (x : Table). x.base) q) (ap (λ (x : Table). x.top) q)

-- a task's own quiet step
pub stands-noted : (S : Script) (K : List Event) (e : Event) (o : ℕ) (old new : Table) (w : What) → IsTableOf S K old → IsStepOf S K e o → e.what ≡ w → IsQuiet w → is_spawn w ≡ 0 → makes w ≡ false → IsNoted old o w new → IsTableOf S (e ∷ K) new
stands-noted S K e o old new w s p is Q z m n =
    let t = task-there S K old s o p.there in
    stands-step S K e o old new s p (ap makes is ∙ m)
    (subst (λ x. IsStepped old o x new) (sym is) (noted-stepped old new o t.0 w s.whole t.1 (next-fits S K old s o t.0 w t.1 p.few) Q z n))

-- ---- events that are no steps of tasks

map-fixed : (f : Row → Row) → ((r : Row) → f r ≡ r) → (rs : List Row) → map f rs ≡ rs
map-fixed f h [] = refl
map-fixed f h (r ∷ rs) = let a = h r in let b = map-fixed f h rs in rw (a, b)

keeps-ends : (w : What) → keeps_tasks w ≡ true → ends w ≡ false
keeps-ends (Enter nr args Kill) h = cc
keeps-ends Exit h = cc
keeps-ends (Deliver sig e) h = cc
keeps-ends w h = refl

steps : (a b : Bool) → (a && not b) ≡ false → a ≡ true → b ≡ true
steps a b h q = grind arith

pub stands-other : (S : Script) (K : List Event) (e : Event) (T : Table) → IsTableOf S K T → IsOther e → IsTableOf S (e ∷ K) T
stands-other S K e T s h =
    let st = view T (groups_made K) in
    let m = other-makes e.what h.keeps in
    let Q = keeps-quiet e.what h.keeps in
    let now : (after S st e).rows ≡ rows_of T.tasks = ap (λ (x : List Row). map (after_row e.who e.what) (rows_of T.tasks) ++ x) (none-made-by S st e.who e.what m)
    ∙ (append-nil (map (after_row e.who e.what) (rows_of T.tasks)) ∙ map-fixed (after_row e.who e.what) (λ r. kept-row e.who e.what r Q (keeps-ends e.what h.keeps) (λ q. skips-is e.what (steps (is_task e.who r.name) (skips e.what) (h.no_step r.name) q))) (rows_of T.tasks)) in
    record {
      base_is = s.base_is;
      top_is = s.top_is;
      looks = subst (λ x. Looks S (e ∷ K) x) (same-state (after S st e).rows (rows_of T.tasks) (after S st e).last T.last (after S st e).groups (groups_made (e ∷ K))
          now (last-kept e T.last m) (groups-more e K)) (follows-other S K e st s.looks s.sound h);
      sound = sound-more K e s.sound (fits-other K e h s.sound);
      whole = s.whole;
    }

-- ---- kinds of steps

pub keeps-spawn : (w : What) → keeps_tasks w ≡ true → is_spawn w ≡ 0
keeps-spawn (Spawn n a) h = cc
keeps-spawn w h = refl

pub exits-spawn : (w : What) → exits w ≡ true → is_spawn w ≡ 0
exits-spawn (Spawn n a) h = cc
exits-spawn w h = refl

pub spawn-makes : (w : What) → is_spawn w ≡ 0 → makes w ≡ false
spawn-makes (Spawn n a) h = cc
spawn-makes w h = refl

-- ---- the beginning

pub stands-none : (S : Script) (T : Table) → T.tasks ≡ [] → T.pids ≡ [] → T.last ≡ S.pidbase → T.living ≡ 0 → T.base ≡ S.pidbase → T.top ≡ S.pidbase + S.pidmax → IsTableOf S [] T
unfolding count_of
stands-none S T a b l z h k = record {
  base_is = h;
  top_is = k;
  looks = looks-none S (view T (groups_made [])) (ap rows_of a) l no-groups;
  sound = sound-none;
  whole = record {
    family = subst IsFamily (sym a) (record { names = λ o p t u g. absurd (none o t g); parents = λ o t g. absurd (none o t g); children = λ o k p t g. absurd (none o t g) });
    indexed = subst (λ (xs : List Member). IsIndexed xs T.pids) (sym a) (subst (λ (es : List Entry). IsIndexed [] es) (sym b) (record {
      ordered = λ i j d l m. absurd (omega arith);
      listed = λ e c. absurd (omega (arith, c.1));
      whole = λ o t g. absurd (none o t g);
    }));
    waiting = λ o t g. absurd (none o t (ap (λ (xs : List Member). slice_get xs o) (sym a) ∙ g));
    living = z ∙ ap (λ (xs : List Member). count_by is_living xs) (sym a);
  };
}
  where
    none : (o : ℕ) (t : Member) → slice_get {X = Member} [] o ≡ Some t → ⊥
    none o t g = cc

    no-groups : groups_made [] ≡ 0
    no-groups = refl
