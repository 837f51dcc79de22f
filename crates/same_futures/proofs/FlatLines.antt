-- After two histories after which all goes on alike, and whose lists of all lines are equal, each task has the same lines.
-- By the names of the tasks, of which each stands once in its order; what was not made has entered no call.
use Rattle.std.proofs.Common.{◌≡◌, ◌⊎◌, inl, inr, ℕ, zero, suc, ◌<◌, Bool, true, false, ◌||◌, List, [], ◌∷◌, ◌++◌, refl, sym, ap, ap₂, ◌∙◌, subst, arith}
use Rattle.std.specs.Prelude.{if◌then◌else◌, Ok, Some}
use Rattle.std.specs.List.{flat_map}
use Rattle.std.proofs.lemmas.Bool.{and_parts, both_ways, cases_Bool}
use Rattle.hist_model.specs.Kinds.{enters, makes}
use Rattle.hist_model.specs.Look.{Name, is_task, name_eq}
use Rattle.hist_model.specs.Memory.{last_call}
use Rattle.hist_model.specs.ReportAudit.{Judging}
use Rattle.hist_model.specs.Tasks.{child_of, is_made}
use Rattle.hist_model.specs.declared.event.Event.{Event}
use Rattle.hist_model.specs.declared.event.What.{What}
use Rattle.hist_model.specs.declared.event.What.TheVariants.{Enter, Skip, Spawn}
use Rattle.hist_model.specs.declared.script.Script.{Script}
use Rattle.hist_model.proofs.Look.{below_or_last, name_eq-refl, name_eq-true}
use Rattle.history_frames.specs.Ordinals.{count_of, task_name_of, tasks_made}
use Rattle.history_frames.proofs.Ordinals.{made-more, made-same, place-makes, place-one}
use Rattle.listener.specs.State as call_state
use Rattle.tasks.specs.Sound as task_sound
use Rattle.tasks.specs.State.{State}
use Rattle.tasks.proofs.Named.{made-ordinal, name-kept, name-new, name-place}
use Rattle.outcome_text.specs.Outcomes.{is_call_of, names_with, stands_before, task_names, with_name}
use Rattle.outcome_text.specs.Sight.{marks}
use Rattle.outcome_text.specs.declared.mark.Mark.{Mark}
use Rattle.outcome_lines.specs.Lines.{gathered, line_at, line_of, lines_in, lines_with}
use Rattle.outcome_lines.specs.declared.line.Line.{Line}
use Rattle.same_futures.specs.Lines.{SameLines, lines_of}
use Rattle.same_futures.specs.Same.{Same}
use Rattle.same_futures.proofs.TableSteps.{made-alike, names-alike}
use Rattle.same_futures.proofs.Tasks.{made-same as made-in-both}

-- ---- The names in their order

-- the first of these names, in their order
names_by : (ℕ → Name) → ℕ → List Name
names_by f zero = []
names_by f (suc n) = with_name (f n) (names_by f n)

names-below : (f g : ℕ → Name) (n : ℕ) → ((o : ℕ) → o < n → f o ≡ g o) → names_by f n ≡ names_by g n
unfolding names_by
names-below f g zero h = refl
names-below f g (suc n) h = ap₂ (λ m ms. with_name m ms) (h n (omega arith)) (names-below f g n (λ o l. h o (omega arith)))

with-made : (a : What) (ns : List Name) → makes a ≡ true → names_with a ns ≡ with_name (child_of a) ns
with-made (Spawn m (Ok p)) ns h = refl
with-made _ ns h = cc

with-none : (a : What) (ns : List Name) → makes a ≡ false → names_with a ns ≡ ns
with-none (Spawn m (Ok p)) ns h = cc
with-none _ ns h = refl

names-are : (K : List Event) → task_names K ≡ names_by (task_name_of K) (tasks_made K)
unfolding task_names names_by count_of
names-are [] = refl
names-are (e ∷ K) = by (makes e.what) refl (names-are K)
  where
    older : names_by (task_name_of K) (tasks_made K) ≡ names_by (task_name_of (e ∷ K)) (tasks_made K)
    older = names-below (task_name_of K) (task_name_of (e ∷ K)) (tasks_made K) (λ o l. sym (name-kept e K o l))

    by : (b : Bool) → makes e.what ≡ b → task_names K ≡ names_by (task_name_of K) (tasks_made K) → names_with e.what (task_names K) ≡ names_by (task_name_of (e ∷ K)) (tasks_made (e ∷ K))
    by true q h =
        let s : tasks_made (e ∷ K) ≡ suc (tasks_made K) = omega (arith, made-more makes e K q) in
        with-made e.what (task_names K) q
        ∙ (ap₂ (λ m ms. with_name m ms) (sym (name-new e K q)) (h ∙ older)
        ∙ ap (names_by (task_name_of (e ∷ K))) (sym s))
    by false q h = with-none e.what (task_names K) q ∙ (h ∙ (older ∙ ap (names_by (task_name_of (e ∷ K))) (sym (made-same makes e K q))))

-- ---- Each stands once

has : Name → List Name → Bool
has n [] = false
has n (m ∷ ms) = name_eq m n || has n ms

has-later : (n m : Name) (b : Bool) → b ≡ true → (name_eq m n || b) ≡ true
has-later n m b q = by (name_eq m n) b q
  where
    by : (x y : Bool) → y ≡ true → (x || y) ≡ true
    by true y q = refl
    by false y q = q

-- a name that is put among others is there, and so are they
has-with : (n m : Name) (ms : List Name) → has n (with_name m ms) ≡ (name_eq m n || has n ms)
unfolding has
has-with n m [] = refl
has-with n m (x ∷ ms) = by (stands_before m x) (has-with n m ms)
  where
    swap : (a b c : Bool) → (b || (a || c)) ≡ (a || (b || c))
    swap true true c = refl
    swap true false c = refl
    swap false b c = refl

    by : (b : Bool) → has n (with_name m ms) ≡ (name_eq m n || has n ms) → has n (if b then m ∷ x ∷ ms else x ∷ with_name m ms) ≡ (name_eq m n || (name_eq x n || has n ms))
    by true h = refl
    by false h = ap (λ (c : Bool). name_eq x n || c) h ∙ swap (name_eq m n) (name_eq x n) (has n ms)

has-by : (n : Name) (f : ℕ → Name) (k : ℕ) → has n (names_by f k) ≡ true → (o : ℕ) × (o < k) × (f o ≡ n)
unfolding has names_by
has-by n f zero h = cc
has-by n f (suc k) h = by (name_eq (f k) n) refl (sym (has-with n (f k) (names_by f k)) ∙ h) (has-by n f k)
  where
    by : (b : Bool) → name_eq (f k) n ≡ b → (name_eq (f k) n || has n (names_by f k)) ≡ true → (has n (names_by f k) ≡ true → (o : ℕ) × (o < k) × (f o ≡ n)) → (o : ℕ) × (o < suc k) × (f o ≡ n)
    by true q h older = (k, omega arith, name_eq-true (f k) n q)
    by false q h older = let z : has n (names_by f k) ≡ true = rw q at h in let r = older z in (r.0, omega (arith, r.1), r.2)

cases_last : (o k : ℕ) → o < suc k → (o ≡ k) ⊎ (o < k)
cases_last o k l = elim (below_or_last o k l) [ inl m ↦ inr m | inr q ↦ inl q ]

by-has : (n : Name) (f : ℕ → Name) (k o : ℕ) → o < k → f o ≡ n → has n (names_by f k) ≡ true
unfolding has names_by
by-has n f zero o l q = absurd (omega arith)
by-has n f (suc k) o l q = has-with n (f k) (names_by f k) ∙ by (elim (cases_last o k l) [ inl z ↦ inl (ap (λ (m : Name). name_eq m n) (ap f (sym z) ∙ q) ∙ name_eq-refl n) | inr m ↦ inr (by-has n f k o m q) ])
  where
    by : (name_eq (f k) n ≡ true) ⊎ (has n (names_by f k) ≡ true) → (name_eq (f k) n || has n (names_by f k)) ≡ true
    by (inl q) = rw q refl
    by (inr q) = has-later n (f k) (has n (names_by f k)) q

-- neither of two tests passes
neither : (x y : Bool) → (x || y) ≡ false → (x ≡ false) × (y ≡ false)
neither true y h = cc
neither false y h = (refl, h)

-- no name stands among those behind it
AreApart : List Name → Type 0
AreApart [] = Unit {0}
AreApart (n ∷ ns) = (has n ns ≡ false) × AreApart ns

apart-with : (m : Name) (ns : List Name) → has m ns ≡ false → AreApart ns → AreApart (with_name m ns)
unfolding AreApart has
apart-with m [] h a = (refl, tt)
apart-with m (x ∷ ns) h a = by (stands_before m x) (apart-with m ns (neither (name_eq x m) (has m ns) h).1 a.1)
  where
    other : name_eq m x ≡ false
    other = elim (cases_Bool (name_eq m x)) [
      | inl q ↦ absurd (both_ways (name_eq x m) (neither (name_eq x m) (has m ns) h).0 (ap (λ (n : Name). name_eq x n) (name_eq-true m x q) ∙ name_eq-refl x))
      | inr q ↦ q
    ]

    by : (b : Bool) → AreApart (with_name m ns) → AreApart (if b then m ∷ x ∷ ns else x ∷ with_name m ns)
    by true more = (h, a)
    by false more = (has-with x m ns ∙ rw other a.0, more)

apart-by : (f : ℕ → Name) (k : ℕ) → ((o p : ℕ) → o < k → p < k → f o ≡ f p → o ≡ p) → AreApart (names_by f k)
unfolding AreApart names_by
apart-by f zero h = tt
apart-by f (suc k) h = apart-with (f k) (names_by f k) fresh (apart-by f k (λ o p l m. h o p (omega arith) (omega arith)))
  where
    fresh : has (f k) (names_by f k) ≡ false
    fresh = elim (cases_Bool (has (f k) (names_by f k))) [
      | inl q ↦ let r = has-by (f k) f k q in let z : r.0 ≡ k = h r.0 k (omega (arith, r.1)) (omega arith) r.2 in absurd (omega (arith, z, r.1))
      | inr q ↦ q
    ]

-- ---- Lines by their names

AreOf : Name → List Line → Type 0
AreOf n [] = Unit {0}
AreOf n (l ∷ ls) = (l.name ≡ n) × AreOf n ls

AreOfOthers : Name → List Line → Type 0
AreOfOthers n [] = Unit {0}
AreOfOthers n (l ∷ ls) = (name_eq l.name n ≡ false) × AreOfOthers n ls

of-append : (n : Name) (a b : List Line) → AreOf n a → AreOf n b → AreOf n (a ++ b)
unfolding AreOf
of-append n [] b s t = t
of-append n (l ∷ a) b s t = (s.0, of-append n a b s.1 t)

others-append : (n : Name) (a b : List Line) → AreOfOthers n a → AreOfOthers n b → AreOfOthers n (a ++ b)
unfolding AreOfOthers
others-append n [] b s t = t
others-append n (l ∷ a) b s t = (s.0, others-append n a b s.1 t)

of-other : (n m : Name) (ls : List Line) → name_eq m n ≡ false → AreOf m ls → AreOfOthers n ls
unfolding AreOf AreOfOthers
of-other n m [] q s = tt
of-other n m (l ∷ ls) q s = (ap (λ (x : Name). name_eq x n) s.0 ∙ q, of-other n m ls q s.1)

-- the lines of a name before those of others
cut : (n : Name) (a b r s : List Line) → AreOf n a → AreOf n b → AreOfOthers n r → AreOfOthers n s → a ++ r ≡ b ++ s → (a ≡ b) × (r ≡ s)
unfolding AreOf AreOfOthers
cut n [] [] r s x y u v q = (refl, q)
cut n (k ∷ a) (l ∷ b) r s x y u v q =
    let h : k ≡ l = cc in
    let t : a ++ r ≡ b ++ s = cc in
    let more = cut n a b r s x.1 y.1 u v t in
    (ap₂ (λ z zs. z ∷ zs) h more.0, more.1)
cut n [] (l ∷ b) (m ∷ r) s x y u v q =
    let h : m ≡ l = cc in
    absurd (both_ways (name_eq m.name n) u.0 (ap (λ (z : Name). name_eq z n) (ap (λ (w : Line). w.name) h ∙ y.0) ∙ name_eq-refl n))
cut n [] (l ∷ b) [] s x y u v q = cc
cut n (k ∷ a) [] r (m ∷ s) x y u v q =
    let h : k ≡ m = cc in
    absurd (both_ways (name_eq m.name n) v.0 (ap (λ (z : Name). name_eq z n) (ap (λ (w : Line). w.name) (sym h) ∙ x.0) ∙ name_eq-refl n))
cut n (k ∷ a) [] r [] x y u v q = cc

module _ (f g : Name → List Line) (own : (n : Name) → AreOf n (f n)) (other : (n : Name) → AreOf n (g n)) where
  none-of : (h : Name → List Line) → ((n : Name) → AreOf n (h n)) → (n : Name) (ns : List Name) → has n ns ≡ false → AreOfOthers n (flat_map h ns)
  unfolding AreOfOthers has
  none-of h of n [] q = tt
  none-of h of n (m ∷ ns) q =
      let p = neither (name_eq m n) (has n ns) q in
      others-append n (h m) (flat_map h ns) (of-other n m (h m) p.0 (of m)) (none-of h of n ns p.1)

  each-same : (ns : List Name) → AreApart ns → flat_map f ns ≡ flat_map g ns → (n : Name) → has n ns ≡ true → f n ≡ g n
  unfolding AreApart has
  each-same [] a q n h = cc
  each-same (m ∷ ns) a q n h = by (name_eq m n) refl h (each-same ns a.1 parts.1 n)
    where
      parts : (f m ≡ g m) × (flat_map f ns ≡ flat_map g ns)
      parts = cut m (f m) (g m) (flat_map f ns) (flat_map g ns) (own m) (other m) (none-of f own m ns a.0) (none-of g other m ns a.0) q

      by : (b : Bool) → name_eq m n ≡ b → (name_eq m n || has n ns) ≡ true → (has n ns ≡ true → f n ≡ g n) → f n ≡ g n
      by true z h rest = subst (λ (x : Name). f x ≡ g x) (name_eq-true m n z) parts.0
      by false z h rest = rest (rw z at h)

-- ---- The lines of a task

module _ (J : Judging) (ms : List Mark) (H : List Event) (n : Name) where
  line-named : (M : List Event) (a : What) → AreOf n (line_of J ms H n M a)
  unfolding AreOf
  line-named M (Enter nr args verdict) = (refl, tt)
  line-named M _ = tt

  one-named : (M : List Event) (e : Event) (b : Bool) → AreOf n (if b then line_of J ms H n M e.what else [])
  unfolding AreOf
  one-named M e true = line-named M e.what
  one-named M e false = tt

  all-named : (M : List Event) → AreOf n (gathered (line_at J ms H n) M)
  unfolding AreOf gathered
  all-named [] = tt
  all-named (e ∷ M) = of-append n (gathered (line_at J ms H n) M) (line_at J ms H n M e) (all-named M) (one-named M e (is_call_of n e))

  enters-not : (a : What) → enters a ≡ true → a ≡ Skip → ⊥
  enters-not a h q = both_ways (enters a) (ap enters q) h

  -- a task that entered no call has no line
  none-entered : (M : List Event) → last_call M n ≡ Skip → gathered (line_at J ms H n) M ≡ []
  unfolding last_call gathered
  none-entered [] q = refl
  none-entered (e ∷ M) q = by (is_call_of n e) refl q (none-entered M)
    where
      by : (b : Bool) → is_call_of n e ≡ b → (if b then e.what else last_call M n) ≡ Skip → (last_call M n ≡ Skip → gathered (line_at J ms H n) M ≡ [])
          → gathered (line_at J ms H n) M ++ (if b then line_of J ms H n M e.what else []) ≡ []
      by true h q rest = absurd (enters-not e.what (and_parts (is_task e.who n) (enters e.what) h).1 q)
      by false h q rest = rw (rest q) refl

-- ---- Both histories

-- names of tasks differ
names-apart : (K : List Event) → task_sound.IsSound K → AreApart (task_names K)
names-apart K sound = subst (λ (ns : List Name). AreApart ns) (sym (names-are K)) (apart-by (task_name_of K) (tasks_made K) one)
  where
    one : (o p : ℕ) → o < tasks_made K → p < tasks_made K → task_name_of K o ≡ task_name_of K p → o ≡ p
    one o p l m q =
        let t = name-place K o l in
        let u = name-place K p m in
        let z : t.0 ≡ u.0 = sound.names t.0 u.0 (place-makes K o t.0 t.1) (place-makes K p u.0 u.1) (t.2 ∙ (q ∙ sym u.2)) in
        place-one makes K o p u.0 (t.1 ∙ ap Some z) u.1

module _ (S : Script) (ts : State) (cs : call_state.State) (K L : List Event) (same : Same S ts cs K L) where
  names-same : task_names L ≡ task_names K
  names-same =
      names-are L ∙ (ap (names_by (task_name_of L)) (made-alike S ts cs K L same)
      ∙ (names-below (task_name_of L) (task_name_of K) (tasks_made K) (λ o l. names-alike S ts cs K L same o) ∙ sym (names-are K)))

  pub same-by-all : (J : Judging) → lines_in S J L ≡ lines_in S J K → SameLines S J K L
  unfolding lines_with
  same-by-all J q = record { names_are = names-same; lines_are = λ n. by n (is_made K n) refl }
    where
      lists : flat_map (lines_of S J L) (task_names K) ≡ flat_map (lines_of S J K) (task_names K)
      lists = ap (flat_map (lines_of S J L)) (sym names-same) ∙ q

      by : (n : Name) (b : Bool) → is_made K n ≡ b → lines_of S J L n ≡ lines_of S J K n
      by n true m =
          let o = made-ordinal K n m in
          each-same (lines_of S J L) (lines_of S J K) (λ x. all-named J (marks S L) L x L) (λ x. all-named J (marks S K) K x K) (task_names K)
          (names-apart K same.states.here.tasks_sound) lists n (ap (has n) (names-are K) ∙ by-has n (task_name_of K) (tasks_made K) o.0 o.1 o.2)
      by n false m =
          none-entered J (marks S L) L n L (same.states.there.tasks_sound.unmade n (made-in-both S K L ts cs same.states n ∙ m)).no_entry
          ∙ sym (none-entered J (marks S K) K n K (same.states.here.tasks_sound.unmade n m).no_entry)
