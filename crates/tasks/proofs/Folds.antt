-- The state of a history follows its events.
-- By the rows of `Steps` for the tasks that were there, and by what a spawn tells for the one that it makes.
use Rattle.std.proofs.Common.{◌≡◌, inl, inr, ℕ, zero, suc, ◌+◌, ◌-◌, ◌<◌, Bool, true, false, ◌&&◌, not, List, [], ◌∷◌, ◌++◌, length, Option, Some, None, refl, sym, ap, ◌∙◌, subst, arith}
use Rattle.std.specs.Prelude.{if◌then◌else◌, map, find, slice_get, Ok}
use Rattle.std.proofs.lemmas.Bool.{cases_Bool, both_ways, false_from_ne_true}
use Rattle.std.proofs.lemmas.List.{length_push, length-map, append-nil}
use Rattle.std.proofs.lemmas.Option.{slice_get_within}
use Rattle.hist_model.specs.Kinds.{makes, ends, skips, shares_now}
use Rattle.hist_model.specs.Legal.{system_of}
use Rattle.hist_model.specs.Look.{Name, name_eq, ev, is_task, task_name}
use Rattle.hist_model.specs.Programs.{program, program_at, nth_started, started}
use Rattle.hist_model.specs.Steps.{steps_of, is_spawn, start, task_step}
use Rattle.hist_model.specs.Systems.{System}
use Rattle.hist_model.specs.Tasks.{ended, is_made, child_of, given, last_pid, or_number, parent, handles, disposition, disposition_or, name_of, alive, is_none}
use Rattle.hist_model.specs.declared.event.Actor.{Actor}
use Rattle.hist_model.specs.declared.event.Actor.TheVariants.{Task}
use Rattle.hist_model.specs.declared.event.Event.{Event}
use Rattle.hist_model.specs.declared.event.Disposition.{Disposition}
use Rattle.hist_model.specs.declared.event.Disposition.TheVariants.{Default}
use Rattle.hist_model.specs.declared.event.SpawnKind.{SpawnKind}
use Rattle.hist_model.specs.declared.event.SpawnKind.TheVariants.{New, Copied, Shared}
use Rattle.hist_model.specs.declared.event.What.{What}
use Rattle.hist_model.specs.declared.event.What.TheVariants.{Spawn, Skip}
use Rattle.hist_model.specs.declared.script.Instr.{Instr}
use Rattle.hist_model.specs.declared.script.Script.{Script}
use Rattle.hist_model.proofs.Look.{name_eq-true, name_eq-refl}
use Rattle.history_frames.specs.Ordinals.{count_of, tasks_made, task_name_of, name_at, groups_made, makes_group}
use Rattle.history_frames.proofs.Ordinals.{made-more, made-same, made-place, place-makes, place-one}
use Rattle.history_frames.proofs.Held.{ended-same}
use Rattle.sys_abi.specs.Signals.{sigkill, sigusr1, sigusr2, sigterm}
use Rattle.tasks.specs.Sets.{all_signals, dispositions_of}
use Rattle.tasks.specs.State.{Row, State, touched, stepped, after_row, after, made_by, new_row, row_named, is_named, group_for, program_for, modes_in, next_of, started_by, number_or_none}
use Rattle.tasks.specs.Fold.{IsRow, IsRowOf, IsGroupOf, Looks, starts}
use Rattle.tasks.specs.Sound.{IsSound, IsStepOf, IsOther, IsStep, keeps_tasks}
use Rattle.tasks.proofs.Born.{group-fresh, group-parent, program-child}
use Rattle.tasks.proofs.Listed.{get-snoc, parent-snoc}
use Rattle.tasks.proofs.Named.{name-kept, name-new, name-made, pid-new}
use Rattle.tasks.proofs.Frames.{Leaves, names-apart, skips-is}
use Rattle.tasks.proofs.StepFacts.{Facts, step-facts}
use Rattle.tasks.proofs.Started.{nth-next}
use Rattle.tasks.proofs.Places.{facts-close, next-at}
use Rattle.tasks.proofs.Steps.{row-own, row-other, row-new}
use Rattle.tasks.proofs.Sounds.{Fits, fits-step, fits-other, fits-start, sound-more, sound-none, untouched-more, other-left, other-leaves}

-- ---- the rows that were there

task-is : (a : Actor) (n : Name) → is_task a n ≡ true → a ≡ Task n
task-is (Task m) n h = ap Task (name_eq-true m n h)
task-is a n h = cc

row-any : (S : Script) (K : List Event) (a : Actor) (w : What) (r : Row) → IsSound K → IsRow S K r.name r → is_made K r.name ≡ true → is_made K (child_of w) ≡ false
    → (is_task a r.name ≡ true → Facts (system_of S) K r.name w) → (is_task a r.name ≡ false → Leaves (ev a w) r.name) → IsRow S (ev a w ∷ K) r.name (after_row a w r)
row-any S K a w r Y i m u f l = elim (cases_Bool (is_task a r.name)) [
  | inl q ↦ subst (λ x. IsRow S (ev x w ∷ K) r.name (touched x w (if is_task x r.name then stepped w r else r))) (sym (task-is a r.name q))
      (subst (λ b. IsRow S (ev (Task r.name) w ∷ K) r.name (touched (Task r.name) w (if b then stepped w r else r))) (sym (name_eq-refl r.name)) (row-own S K Y r i m w (f q) fresh))
  | inr q ↦ subst (λ b. IsRow S (ev a w ∷ K) r.name (touched a w (if b then stepped w r else r))) (sym q) (row-other S K Y r i m a w q (l q) fresh)
]
  where
    fresh : name_eq (child_of w) r.name ≡ false
    fresh = names-apart (child_of w) r.name (λ z. both_ways (is_made K r.name) (ap (is_made K) (sym z) ∙ u) m)

pub after-name : (a : Actor) (w : What) (r : Row) → (after_row a w r).name ≡ r.name
after-name a w r = named (is_task a r.name)
  where
    named : (b : Bool) → (if b then stepped w r else r).name ≡ r.name
    named true = refl
    named false = refl

-- ---- the list

pub get-map : {X Y : Type 0} → (f : X → Y) (xs : List X) (o : ℕ) (y : Y) → slice_get (map f xs) o ≡ Some y → (x : X) × (slice_get xs o ≡ Some x) × (f x ≡ y)
get-map f [] o y q = cc
get-map f (x ∷ xs) zero y q = (x, refl, cc)
get-map f (x ∷ xs) (suc o) y q = get-map f xs o y q

-- a test that one item alone passes finds it
pub find-at : {X : Type 0} → (p : X → Bool) (xs : List X) (o : ℕ) (r : X) → slice_get xs o ≡ Some r → p r ≡ true → ((j : ℕ) (x : X) → slice_get xs j ≡ Some x → p x ≡ true → j ≡ o) → find p xs ≡ Some r
find-at p [] o r q h u = cc
find-at p (x ∷ xs) zero r q h u = let z : x ≡ r = cc in let y : p x ≡ true = ap p z ∙ h in rw y q
find-at p (x ∷ xs) (suc o) r q h u =
    let n : p x ≡ false = false_from_ne_true (p x) (λ y. omega (arith, u 0 x refl y)) in
    rw n (find-at p xs o r q h (λ j y g z. omega (arith, u (suc j) y g z)))

-- ---- one event more

last-more : (base : ℕ) (e : Event) (K : List Event) → or_number (given e.what) (last_pid base K) ≡ last_pid base (e ∷ K)
unfolding last_pid
last-more base e K = refl

pub groups-more : (e : Event) (K : List Event) → groups_made K + (if makes_group e.what then 1 else 0) ≡ groups_made (e ∷ K)
unfolding count_of
groups-more e K = refl

pub none-made-by : (S : Script) (s : State) (a : Actor) (w : What) → makes w ≡ false → made_by S s a w ≡ []
none-made-by S s a (Spawn n (Ok x)) h = cc
none-made-by S s a w h = refl

module _ (S : Script) (K : List Event) (e : Event) (s : State) (L : Looks S K s) where
  abbrev rows-then : List Row
  rows-then = map (after_row e.who e.what) s.rows

  below : (o : ℕ) (r : Row) → slice_get s.rows o ≡ Some r → o < tasks_made K
  below o r q = omega (arith, slice_get_within s.rows o r q, L.count)

  kept : ((r : Row) → IsRow S K r.name r → is_made K r.name ≡ true → IsRow S (e ∷ K) r.name (after_row e.who e.what r)) → (o : ℕ) (r : Row) → slice_get rows-then o ≡ Some r → IsRowOf S (e ∷ K) o r
  kept f o r q =
      let g = get-map (after_row e.who e.what) s.rows o r q in
      let i = L.rows o g.0 g.1 in
      let l = below o g.0 g.1 in
      let m : is_made K g.0.name ≡ true = ap (is_made K) i.name_is ∙ name-made K o l in
      let n = after-name e.who e.what g.0 in
      subst (λ x. IsRowOf S (e ∷ K) o x) g.2 (record {
        name_is = n ∙ (i.name_is ∙ sym (name-kept e K o l));
        is_row = subst (λ x. IsRow S (e ∷ K) x (after_row e.who e.what g.0)) (sym n) (f g.0 i.is_row m);
      })

  -- no task is made
  pub looks-same : makes e.what ≡ false → ((r : Row) → IsRow S K r.name r → is_made K r.name ≡ true → IsRow S (e ∷ K) r.name (after_row e.who e.what r)) → Looks S (e ∷ K) (after S s e)
  looks-same m f =
      let now : (after S s e).rows ≡ rows-then = ap (λ (x : List Row). rows-then ++ x) (none-made-by S s e.who e.what m) ∙ append-nil rows-then in
      record {
        count = ap (λ (x : List Row). length x) now ∙ (length-map s.rows (after_row e.who e.what) ∙ (L.count ∙ sym (made-same makes e K m)));
        rows = λ o r q. kept f o r (ap (λ (x : List Row). slice_get x o) (sym now) ∙ q);
        last_is = ap (or_number (given e.what)) L.last_is ∙ last-more S.pidbase e K;
        groups_is = ap (λ x. x + (if makes_group e.what then 1 else 0)) L.groups_is ∙ groups-more e K;
      }

  -- one is
  pub looks-made : makes e.what ≡ true → ((r : Row) → IsRow S K r.name r → is_made K r.name ≡ true → IsRow S (e ∷ K) r.name (after_row e.who e.what r))
      → (x : Row) → made_by S s e.who e.what ≡ x ∷ [] → x.name ≡ child_of e.what → IsRow S (e ∷ K) x.name x → Looks S (e ∷ K) (after S s e)
  looks-made m f x z n i =
      let now : (after S s e).rows ≡ rows-then ++ x ∷ [] = ap (λ (y : List Row). rows-then ++ y) z in
      let long : length rows-then ≡ tasks_made K = length-map s.rows (after_row e.who e.what) ∙ L.count in
      record {
        count = ap (λ (y : List Row). length y) now ∙ (length_push rows-then x ∙ (ap (λ y. y + 1) long ∙ sym (made-more makes e K m)));
        rows = λ o r q. elim (get-snoc rows-then x r o (ap (λ (y : List Row). slice_get y o) (sym now) ∙ q)) [
          | inl g ↦ kept f o r g
          | inr g ↦ subst (λ y. IsRowOf S (e ∷ K) o y) g.1 (record { name_is = n ∙ sym (ap (task_name_of (e ∷ K)) (g.0 ∙ long) ∙ name-new e K m); is_row = i })
        ];
        last_is = ap (or_number (given e.what)) L.last_is ∙ last-more S.pidbase e K;
        groups_is = ap (λ y. y + (if makes_group e.what then 1 else 0)) L.groups_is ∙ groups-more e K;
      }

-- ---- the row of a task by its name

ordinals-apart : (K : List Event) (o p : ℕ) → IsSound K → o < tasks_made K → p < tasks_made K → task_name_of K o ≡ task_name_of K p → o ≡ p
ordinals-apart K o p Y l m q =
    let a = made-place makes K o l in
    let b = made-place makes K p m in
    let s : name_of K a.0 ≡ name_of K b.0 = sym (ap (name_at K) a.1) ∙ (q ∙ ap (name_at K) b.1) in
    let t = Y.names a.0 b.0 (place-makes K o a.0 a.1) (place-makes K p b.0 b.1) s in
    place-one makes K o p a.0 a.1 (b.1 ∙ ap Some (sym t))

pub row-there : (S : Script) (K : List Event) (s : State) (o : ℕ) → Looks S K s → o < tasks_made K → (r : Row) × (slice_get s.rows o ≡ Some r)
row-there S K s o L l = go (slice_get s.rows o) refl
  where
    none : (xs : List Row) (j : ℕ) → j < length xs → slice_get xs j ≡ None → ⊥
    none [] j l q = omega arith
    none (x ∷ xs) zero l q = cc
    none (x ∷ xs) (suc j) l q = none xs j (omega arith) q

    go : (x : Option Row) → slice_get s.rows o ≡ x → (r : Row) × (slice_get s.rows o ≡ Some r)
    go (Some r) q = (r, q)
    go None q = absurd (none s.rows o (omega (arith, l, L.count)) q)

pub row-below : (S : Script) (K : List Event) (s : State) (o : ℕ) (r : Row) → Looks S K s → slice_get s.rows o ≡ Some r → o < tasks_made K
row-below S K s o r L q = omega (arith, slice_get_within s.rows o r q, L.count)

pub row-is-named : (S : Script) (K : List Event) (s : State) (o : ℕ) (r : Row) → Looks S K s → IsSound K → slice_get s.rows o ≡ Some r → row_named (task_name_of K o) s ≡ Some r
row-is-named S K s o r L Y q =
    find-at (is_named (task_name_of K o)) s.rows o r q (ap (λ x. name_eq x (task_name_of K o)) (L.rows o r q).name_is ∙ name_eq-refl (task_name_of K o))
    (λ j x g z. ordinals-apart K j o Y (row-below S K s j x L g) (row-below S K s o r L q) (sym (L.rows j x g).name_is ∙ name_eq-true x.name (task_name_of K o) z))

-- ---- the task that a spawn makes

mode-born : (e : Event) (K : List Event) (n : Name) (s : ℕ) → handles e.what s ≡ None → child_of e.what ≡ n → disposition (e ∷ K) n s ≡ disposition K (parent n) s
unfolding disposition
mode-born e K n s h c = rw (h, c, name_eq-refl n) (pick (is_task e.who n) (disposition K (parent n) s))
  where
    pick : (b : Bool) (m : Disposition) → disposition_or (if b then None else None) m ≡ m
    pick true m = refl
    pick false m = refl

modes-born : (e : Event) (K : List Event) (n : Name) → ((s : ℕ) → handles e.what s ≡ None) → child_of e.what ≡ n → dispositions_of K (parent n) ≡ dispositions_of (e ∷ K) n
modes-born e K n h c = rw (mode-born e K n sigkill (h sigkill) c, mode-born e K n sigusr1 (h sigusr1) c, mode-born e K n sigusr2 (h sigusr2) c, mode-born e K n sigterm (h sigterm) c)

is-some : (i : Instr) → starts i ≡ true → started i ≡ Some (number_or_none (started i))
is-some i h = go (started i) h
  where
    go : (o : Option ℕ) → not (is_none o) ≡ true → o ≡ Some (number_or_none o)
    go (Some p) h = refl
    go None h = cc

-- a task that takes a step hasn't ended
skips-gone : (S : System) (K : List Event) (n : Name) → ended K n ≡ true → task_step S K n ≡ Skip
unfolding task_step
skips-gone S K n d = let b : alive K n ≡ false = rw d (never (is_made K n)) in rw b
  where
    never : (b : Bool) → (b && false) ≡ false
    never b = grind arith

pub lives-step : (S : Script) (K : List Event) (e : Event) (o : ℕ) → IsStepOf S K e o → skips e.what ≡ false → ended K (task_name_of K o) ≡ false
lives-step S K e o p k = false_from_ne_true (ended K (task_name_of K o)) (λ h. both_ways (skips e.what) k (ap skips (p.step ∙ skips-gone (system_of S) K (task_name_of K o) h)))

module _ (S : Script) (K : List Event) (e : Event) (s : State) (o : ℕ) (L : Looks S K s) (Y : IsSound K) (p : IsStepOf S K e o) where
  rows-step : (r : Row) → IsRow S K r.name r → is_made K r.name ≡ true → IsRow S (e ∷ K) r.name (after_row e.who e.what r)
  rows-step r i m =
      let f = step-facts S K e o p in
      row-any S K e.who e.what r Y i m (fits-step S K e o p Y).unmade
      (λ q. subst (λ n. Facts (system_of S) K n e.what) (name_eq-true (task_name_of K o) r.name (sym (ap (λ a. is_task a r.name) p.who) ∙ q)) f)
      (λ q. other-left e (task_name_of K o) r.name p.who (facts-close S K (task_name_of K o) e.what f) (λ z. both_ways (is_task e.who r.name) q (ap (λ a. is_task a r.name) p.who ∙ (ap (λ x. name_eq x r.name) z ∙ name_eq-refl r.name))))

module _ (S : Script) (K : List Event) (e : Event) (s : State) (o : ℕ) (L : Looks S K s) (Y : IsSound K) (p : IsStepOf S K e o) (r : Row) (at : slice_get s.rows o ≡ Some r) (m : Name) (pid : ℕ) (kind : SpawnKind) (is : e.what ≡ Spawn m (Ok (pid, kind))) where
  abbrev own : Name
  own = task_name_of K o

  abbrev row : IsRow S K own r
  row = let i = L.rows o r at in subst (λ n. IsRow S K n r) i.name_is i.is_row

  f : Facts (system_of S) K own (Spawn m (Ok (pid, kind)))
  f = subst (λ w. Facts (system_of S) K own w) is (step-facts S K e o p)

  child : child_of e.what ≡ m
  child = ap child_of is

  unmade : is_made K m ≡ false
  unmade = ap (is_made K) (sym child) ∙ (fits-step S K e o p Y).unmade

  group-is : (k : SpawnKind) → e.what ≡ Spawn m (Ok (pid, k)) → IsGroupOf (e ∷ K) (child_of e.what) (group_for k (Some r) s)
  group-is Shared z = group-parent e K own r.group (ap makes z) (ap shares_now z) p.who (fits-step S K e o p Y).unmade row.group_is
  group-is Copied z = subst (λ g. IsGroupOf (e ∷ K) (child_of e.what) g) (sym L.groups_is) (group-fresh e K (ap makes_group z) (fits-step S K e o p Y).unmade)
  group-is New z = subst (λ g. IsGroupOf (e ∷ K) (child_of e.what) g) (sym L.groups_is) (group-fresh e K (ap makes_group z) (fits-step S K e o p Y).unmade)

  program-is : program S m ≡ program_at S.programs (Some (program_for S (Some r)))
  program-is =
      let g = f.0 in
      let here : slice_get (program S own) r.next ≡ Some g.0 = next-at S K own r row g.0 g.1.1 in
      let next : next_of S r ≡ Some g.0 = ap (λ (body : List Instr). slice_get body r.next) (sym row.program_is) ∙ here in
      let named : own ≡ [] → ⊥ = λ z. both_ways (is_made K []) Y.nameless (ap (is_made K) (sym z) ∙ name-made K o p.there) in
      let nth : nth_started (program S own) (steps_of is_spawn K own + 1) ≡ started g.0 = ap (λ x. nth_started (program S own) (x + 1)) (sym row.starts_are) ∙ nth-next (program S own) r.next g.0 here g.2 in
      ap (program S) f.1 ∙ (program-child S own (steps_of is_spawn K own + 1) named ∙ ap (program_at S.programs) (nth ∙ (is-some g.0 g.2 ∙ ap (λ x. Some (started_by x)) (sym next))))

  parent-is : parent m ≡ own
  parent-is = ap parent f.1 ∙ parent-snoc own (steps_of is_spawn K own + 1)

  born : IsRow S (e ∷ K) m (new_row m pid (group_for kind (Some r) s) (program_for S (Some r)) r.dispositions)
  born = row-new S (e ∷ K) m pid (group_for kind (Some r) s) (program_for S (Some r)) r.dispositions
      (untouched-more K e Y (fits-step S K e o p Y) m unmade)
      (pid-new e K m pid kind is unmade)
      (subst (λ n. IsGroupOf (e ∷ K) n (group_for kind (Some r) s)) child (group-is kind is))
      program-is
      (λ h. ap (ended (e ∷ K)) parent-is ∙ (ended-same e K own (ap (λ w. ends w && is_task e.who own) is) ∙ lives-step S K e o p (ap skips is)))
      (row.dispositions_is ∙ (ap (dispositions_of K) (sym parent-is) ∙ modes-born e K m (λ s. ap (λ w. handles w s) is) child))

  made : made_by S s e.who e.what ≡ new_row m pid (group_for kind (Some r) s) (program_for S (Some r)) r.dispositions ∷ []
  made = ap (λ w. made_by S s e.who w) is
      ∙ ap (λ (x : Option Row). new_row m pid (group_for kind x s) (program_for S x) (modes_in x) ∷ []) (ap (λ a. row_named (task_name a) s) p.who ∙ row-is-named S K s o r L Y at)

  looks-spawn : Looks S (e ∷ K) (after S s e)
  looks-spawn = looks-made S K e s L (ap makes is) (rows-step S K e s o L Y p) (new_row m pid (group_for kind (Some r) s) (program_for S (Some r)) r.dispositions) made (sym child) born

follows-by : (S : Script) (K : List Event) (e : Event) (s : State) (o : ℕ) → Looks S K s → IsSound K → IsStepOf S K e o → (w : What) → e.what ≡ w → Looks S (e ∷ K) (after S s e)
follows-by S K e s o L Y p (Spawn m (Ok x)) q = let r = row-there S K s o L p.there in looks-spawn S K e s o L Y p r.0 r.1 m x.0 x.1 q
follows-by S K e s o L Y p w q = looks-same S K e s L (ap makes q) (rows-step S K e s o L Y p)

pub follows-step : (S : Script) (K : List Event) (e : Event) (s : State) (o : ℕ) → Looks S K s → IsSound K → IsStepOf S K e o → Looks S (e ∷ K) (after S s e)
follows-step S K e s o L Y p = follows-by S K e s o L Y p e.what refl

-- ---- an event that is no task's

is-kept : (w : What) → Skip ≡ w → (S : Script) (K : List Event) (n : Name) → Facts (system_of S) K n w
is-kept w q S K n = subst (λ x. Facts (system_of S) K n x) q tt

pub other-makes : (w : What) → keeps_tasks w ≡ true → makes w ≡ false
other-makes (Spawn n a) h = cc
other-makes w h = refl

pub follows-other : (S : Script) (K : List Event) (e : Event) (s : State) → Looks S K s → IsSound K → IsOther e → Looks S (e ∷ K) (after S s e)
follows-other S K e s L Y h = looks-same S K e s L (other-makes e.what h.keeps)
    (λ r i m. row-any S K e.who e.what r Y i m (fits-other K e h Y).unmade
    (λ q. is-kept e.what (sym (skips-is e.what (steps (is_task e.who r.name) (skips e.what) (h.no_step r.name) q))) S K r.name)
    (λ q. other-leaves e r.name h))
  where
    steps : (a b : Bool) → (a && not b) ≡ false → a ≡ true → b ≡ true
    steps a b h q = grind arith

-- ---- the beginning

pub looks-none : (S : Script) (s : State) → s.rows ≡ [] → s.last ≡ S.pidbase → s.groups ≡ 0 → Looks S [] s
unfolding count_of last_pid
looks-none S s r l g = record {
  count = ap (λ (x : List Row). length x) r;
  rows = λ o x q. let q' : slice_get {X = Row} [] o ≡ Some x = ap (λ (y : List Row). slice_get y o) (sym r) ∙ q in absurd (none o x q');
  last_is = l;
  groups_is = g;
}
  where
    none : (o : ℕ) (x : Row) → slice_get {X = Row} [] o ≡ Some x → ⊥
    none o x q = cc

no-rows : (xs : List Row) → length xs ≡ 0 → xs ≡ []
no-rows [] h = refl
no-rows (x ∷ xs) h = cc

no-tasks : tasks_made [] ≡ 0
unfolding count_of
no-tasks = refl

first-program : (S : Script) → program S (0 ∷ []) ≡ program_at S.programs (Some (length S.programs - 1))
unfolding program
first-program S = refl

pub follows-start : (S : Script) (s : State) → Looks S [] s → Looks S (start (system_of S) ∷ []) (after S s (start (system_of S)))
follows-start S s L = looks-made S [] e s L refl (λ r i m. absurd (nobody r.name m)) x made refl born
  where
    e : Event
    e = start (system_of S)

    x : Row
    x = new_row (0 ∷ []) (S.pidbase + 1) s.groups (length S.programs - 1) (all_signals Default)

    F : Fits [] e
    F = fits-start (system_of S)

    nobody : (n : Name) → is_made [] n ≡ true → ⊥
    nobody n m = unfold is_made in cc

    rows : s.rows ≡ []
    rows = no-rows s.rows (L.count ∙ no-tasks)

    made : made_by S s e.who e.what ≡ x ∷ []
    made = ap (λ (xs : List Row). let maker = find (is_named []) xs in new_row (0 ∷ []) (S.pidbase + 1) (group_for New maker s) (program_for S maker) (modes_in maker) ∷ []) rows

    defaults : all_signals Default ≡ dispositions_of [] []
    defaults = let d = sound-none.defaults in rw (d sigkill, d sigusr1, d sigusr2, d sigterm)

    born : IsRow S (e ∷ []) (0 ∷ []) x
    born = row-new S (e ∷ []) (0 ∷ []) (S.pidbase + 1) s.groups (length S.programs - 1) (all_signals Default)
        (untouched-more [] e sound-none F (0 ∷ []) F.unmade)
        (pid-new e [] (0 ∷ []) (S.pidbase + 1) New refl F.unmade)
        (subst (λ g. IsGroupOf (e ∷ []) (0 ∷ []) g) (sym L.groups_is) (group-fresh e [] refl F.unmade))
        (first-program S)
        (λ h. cc)
        (defaults ∙ modes-born e [] (0 ∷ []) (λ n. refl) refl)

-- ---- any step

pub follows : (S : Script) (K : List Event) (e : Event) (s : State) → Looks S K s → IsSound K → IsStep S K e → Looks S (e ∷ K) (after S s e) × IsSound (e ∷ K)
follows S [] e s L Y (inl p) = subst (λ x. Looks S (x ∷ []) (after S s x) × IsSound (x ∷ [])) (sym p.1) (follows-start S s L, sound-more [] (start (system_of S)) sound-none (fits-start (system_of S)))
follows S (x ∷ K) e s L Y (inl p) = absurd (full p.0)
  where
    full : x ∷ K ≡ [] → ⊥
    full q = cc
follows S K e s L Y (inr (inl p)) = (follows-step S K e s p.0 L Y p.1, sound-more K e Y (fits-step S K e p.0 p.1 Y))
follows S K e s L Y (inr (inr p)) = (follows-other S K e s L Y p, sound-more K e Y (fits-other K e p Y))
