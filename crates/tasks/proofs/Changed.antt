-- What a step makes of the rows of a table: of the task's own, and of those whose parent has ended, that got a signal or were waited for.
-- Row by row, since each task stands among its parent's children.
use Rattle.std.proofs.Common.{◌≡◌, inl, inr, ℕ, ◌+◌, ◌-◌, ◌<◌, ◌^◌, Bool, true, false, ◌&&◌, ◌||◌, not, List, length, Option, Some, None, refl, sym, ap, ◌∙◌, subst, arith}
use Rattle.std.specs.Prelude.{if◌then◌else◌, map, slice_get, Ok}
use Rattle.std.proofs.lemmas.Bool.{cases_Bool}
use Rattle.std.proofs.lemmas.List.{length-map}
use Rattle.hist_model.specs.Kinds.{ends}
use Rattle.hist_model.specs.Look.{Name, name_eq, is_task}
use Rattle.hist_model.specs.Steps.{counts, recounts, is_spawn}
use Rattle.hist_model.specs.Tasks.{reaps, parent}
use Rattle.hist_model.specs.declared.event.Actor.{Actor}
use Rattle.hist_model.specs.declared.event.Actor.TheVariants.{Task as TaskActor}
use Rattle.hist_model.specs.declared.event.Disposition.{Disposition}
use Rattle.hist_model.specs.declared.event.What.{What}
use Rattle.hist_model.specs.declared.event.What.TheVariants.{Reap, Signal, Skip}
use Rattle.hist_model.proofs.Look.{name_eq-refl}
use Rattle.tasks.specs.Rows.{IsAfter}
use Rattle.tasks.specs.Sets.{with_signal}
use Rattle.tasks.specs.State.{Row, after_row, touched, stepped, sent, pending_after, holds}
use Rattle.tasks.specs.Table.{Member, IsFamily, IsChildIn, lives, lives_at, row_of, row_in, rows_of, marked, waited_for}
use Rattle.tasks.specs.declared.row.EnteredCall.{EnteredCall}
use Rattle.tasks.specs.declared.row.Progress.{Progress}
use Rattle.tasks.specs.declared.signals.BySignal.{BySignal}
use Rattle.tasks.proofs.Folds.{get-map}
use Rattle.tasks.proofs.Listed.{parent-snoc, get-there, same-lists}

-- a member before and after a step
pub record IsTouched (old : List Member) (a : Actor) (w : What) (x y : Member) : Type 0 where
  pub name_is : y.name ≡ x.name
  pub parent_is : y.parent ≡ x.parent
  pub row_is : row_of (not (ends w && is_task a (parent x.name)) && lives_at old x.parent) y ≡ after_row a w (row_in old x)

ended-after : (a : Actor) (w : What) (r : Row) → (after_row a w r).ended ≡ ((ends w && is_task a r.name) || r.ended)
ended-after a w r = go (is_task a r.name)
  where
    both : (e d : Bool) → (e || d) ≡ ((e && true) || d)
    both e d = grind arith

    one : (e d : Bool) → d ≡ ((e && false) || d)
    one e d = grind arith

    go : (b : Bool) → (if b then stepped w r else r).ended ≡ ((ends w && b) || r.ended)
    go true = both (ends w) r.ended
    go false = one (ends w) r.ended

module _ (a : Actor) (w : What) (old new : List Member) (F : IsFamily old) (l : length new ≡ length old) (each : (j : ℕ) (x y : Member) → slice_get old j ≡ Some x → slice_get new j ≡ Some y → IsTouched old a w x y) where
  -- a parent lives on unless it is the task that ends
  lives-after : (j : ℕ) (q : Option ℕ) (n : Name) → IsChildIn old j q n → lives_at new q ≡ (not (ends w && is_task a (parent n)) && lives_at old q)
  lives-after j None n i = none (ends w && is_task a (parent n))
    where
      none : (b : Bool) → false ≡ (not b && false)
      none b = grind arith
  lives-after j (Some q) n i =
      let p = i.0 in
      let y = get-there old new q p l i.1 in
      let t = each q p y.0 i.1 y.1 in
      let m : parent n ≡ p.name = ap parent i.4 ∙ parent-snoc p.name (i.2 + 1) in
      let d : y.0.progress.ended ≡ ((ends w && is_task a p.name) || p.progress.ended) = ap (λ (r : Row). r.ended) t.row_is ∙ ended-after a w (row_in old p) in
      ap lives y.1 ∙ (ap not d ∙ (turned (ends w && is_task a p.name) p.progress.ended
      ∙ sym (ap (λ x. not (ends w && is_task a x) && lives_at old (Some q)) m ∙ ap (λ x. not (ends w && is_task a p.name) && lives x) i.1)))
    where
      turned : (b d : Bool) → not (b || d) ≡ (not b && not d)
      turned b d = grind arith

  pub row-after : (j : ℕ) (x y : Member) → slice_get old j ≡ Some x → slice_get new j ≡ Some y → row_in new y ≡ after_row a w (row_in old x)
  row-after j x y h g =
      let t = each j x y h g in
      ap (λ q. row_of (lives_at new q) y) t.parent_is ∙ (ap (λ b. row_of b y) (lives-after j x.parent x.name (F.parents j x h)) ∙ t.row_is)

  pub rows-after : rows_of new ≡ map (after_row a w) (rows_of old)
  rows-after = same-lists (rows_of new) (map (after_row a w) (rows_of old)) long item
    where
      long : length (rows_of new) ≡ length (map (after_row a w) (rows_of old))
      long = length-map new (row_in new) ∙ (l ∙ sym (length-map (rows_of old) (after_row a w) ∙ length-map old (row_in old)))

      item : (j : ℕ) (r s : Row) → slice_get (rows_of new) j ≡ Some r → slice_get (map (after_row a w) (rows_of old)) j ≡ Some s → r ≡ s
      item j r s h g =
          let y = get-map (row_in new) new j r h in
          let q = get-map (after_row a w) (rows_of old) j s g in
          let x = get-map (row_in old) old j q.0 q.1 in
          sym y.2 ∙ (row-after j x.0 y.0 x.1 y.1 ∙ (ap (after_row a w) x.2 ∙ q.2))

-- ---- one member

-- two rows with the same fields
same-row : (n : Name) (pid : ℕ) (g g' r r' x x' s s' : ℕ) (c c' : Option ℕ) (e e' : Option EnteredCall) (o o' d d' a a' f f' : Bool) (q q' : BySignal Bool) (m m' : BySignal Disposition)
    → g ≡ g' → r ≡ r' → x ≡ x' → s ≡ s' → c ≡ c' → e ≡ e' → o ≡ o' → d ≡ d' → a ≡ a' → f ≡ f' → q ≡ q' → m ≡ m'
    → ◌≡◌ {A = Row} (record { name = n; pid = pid; group = g; program = r; next = x; spawns = s; call = c; entered = e; owes = o; ended = d; waited = a; fostered = f; pending = q; dispositions = m })
    (record { name = n; pid = pid; group = g'; program = r'; next = x'; spawns = s'; call = c'; entered = e'; owes = o'; ended = d'; waited = a'; fostered = f'; pending = q'; dispositions = m' })
same-row n pid g g' r r' x x' s s' c c' e e' o o' d d' a a' f f' q q' m m' h1 h2 h3 h4 h5 h6 h7 h8 h9 h10 h11 h12 = rw (h1, h2, h3, h4, h5, h6, h7, h8, h9, h10, h11, h12) refl

-- a member with other entries and another progress
abbrev pub member-with : Member → List (Option ℕ) → List ℕ → Progress → Member
member-with t children waiting p = record { name = t.name; pid = t.pid; parent = t.parent; children = children; waiting = waiting; progress = p }

-- the progress after what anybody's step does to it
abbrev pub touched-progress : What → Name → Row → Progress → Progress
touched-progress w n r p = record p { waited = reaps w n || p.waited; pending = sent w r }

-- the task that takes the step
pub own-touched : (old : List Member) (t : Member) (p q : Progress) (w : What) (children : List (Option ℕ)) (waiting : List ℕ) → IsAfter t.progress w p → t.progress.next + counts w < 2 ^ 64
    → length children ≡ length t.children + is_spawn w → q ≡ touched-progress w t.name (stepped w (row_in old t)) p → IsTouched old (TaskActor t.name) w t (member-with t children waiting q)
own-touched old t p q w children waiting A fits c k = record {
  name_is = refl;
  parent_is = refl;
  row_is = ap (λ x. row_of f (member-with t children waiting x)) k
      ∙ (same-row t.name t.pid p.group t.progress.group p.program t.progress.program p.next (t.progress.next + counts w - recounts w) (length children) (length t.children + is_spawn w)
      p.call _ p.entered _ p.owes _ p.ended _ (reaps w t.name || p.waited) _ f f (sent w (stepped w (row_in old t))) _ p.dispositions _
      A.group A.program (A.next fits) c A.call A.entered A.owes A.ended (ap (λ b. reaps w t.name || b) A.waited) refl refl A.dispositions
      ∙ ap (λ b. touched (TaskActor t.name) w (if b then stepped w (row_in old t) else row_in old t)) (sym (name_eq-refl t.name)));
}
  where
    f : Bool
    f = not (ends w && is_task (TaskActor t.name) (parent t.name)) && lives_at old t.parent

-- another task
pub other-touched : (old : List Member) (a : Actor) (x : Member) (q : Progress) (w : What) (waiting : List ℕ) → is_task a x.name ≡ false → q ≡ touched-progress w x.name (row_in old x) x.progress → IsTouched old a w x (member-with x x.children waiting q)
other-touched old a x q w waiting n k = record {
  name_is = refl;
  parent_is = refl;
  row_is = ap (λ z. row_of (not (ends w && is_task a (parent x.name)) && lives_at old x.parent) (member-with x x.children waiting z)) k
      ∙ ap (λ b. touched a w (if b then stepped w (row_in old x) else row_in old x)) (sym n);
}

-- ---- a step that reaps none and sends no signal

pub record IsQuiet (w : What) : Type 0 where
  pub no_reap : (n : Name) → reaps w n ≡ false
  pub no_signal : (r : Row) → sent w r ≡ r.pending

same-progress : (p : Progress) (b : Bool) (s : BySignal Bool) → b ≡ p.waited → s ≡ p.pending → p ≡ record p { waited = b; pending = s }
same-progress p b s h k = rw (h, k) refl

pub quiet-own : (w : What) (t : Member) (p : Progress) (r : Row) → IsQuiet w → IsAfter t.progress w p → r.pending ≡ t.progress.pending → p ≡ touched-progress w t.name (stepped w r) p
quiet-own w t p r Q A k = same-progress p (reaps w t.name || p.waited) (sent w (stepped w r)) (ap (λ b. b || p.waited) (Q.no_reap t.name)) (Q.no_signal (stepped w r) ∙ (ap (pending_after w) k ∙ sym A.pending))

pub quiet-other : (w : What) (x : Member) (r : Row) → IsQuiet w → r.pending ≡ x.progress.pending → x.progress ≡ touched-progress w x.name r x.progress
quiet-other w x r Q k = same-progress x.progress (reaps w x.name || x.progress.waited) (sent w r) (ap (λ b. b || x.progress.waited) (Q.no_reap x.name)) (Q.no_signal r ∙ k)

-- ---- a signal that is taken

pub marked-progress : (pid sig : ℕ) (n : Name) (r : Row) (p : Progress) → holds pid r ≡ true → r.pending ≡ p.pending → marked p sig ≡ touched-progress (Signal pid sig (Ok tt)) n r p
marked-progress pid sig n r p h k = ap (λ s. record p { pending = s }) (ap (λ s. with_signal s sig true) (sym k) ∙ sym (ap (λ b. if b then with_signal r.pending sig true else r.pending) h))

pub unmarked-progress : (pid sig : ℕ) (n : Name) (r : Row) (p : Progress) → holds pid r ≡ false → r.pending ≡ p.pending → p ≡ touched-progress (Signal pid sig (Ok tt)) n r p
unmarked-progress pid sig n r p h k = ap (λ s. record p { pending = s }) (sym k ∙ sym (ap (λ b. if b then with_signal r.pending sig true else r.pending) h))

-- ---- a wait that reaps a child

pub waited-progress : (m n : Name) (r : Row) (p : Progress) → name_eq m n ≡ true → r.pending ≡ p.pending → waited_for p ≡ touched-progress (Reap (Ok m)) n r p
waited-progress m n r p h k = sym (same-fields p (name_eq m n || p.waited) true r.pending p.pending (ap (λ b. b || p.waited) h) k)
  where
    same-fields : (p : Progress) (b c : Bool) (s q : BySignal Bool) → b ≡ c → s ≡ q → ◌≡◌ {A = Progress} (record p { waited = b; pending = s }) (record p { waited = c; pending = q })
    same-fields p b c s q h k = rw (h, k) refl

pub unwaited-progress : (m n : Name) (r : Row) (p : Progress) → name_eq m n ≡ false → r.pending ≡ p.pending → p ≡ touched-progress (Reap (Ok m)) n r p
unwaited-progress m n r p h k = same-progress p (name_eq m n || p.waited) r.pending (ap (λ b. b || p.waited) h) k

-- ---- an event that is no step of a task

pub kept-row : (a : Actor) (w : What) (r : Row) → IsQuiet w → ends w ≡ false → (is_task a r.name ≡ true → w ≡ Skip) → after_row a w r ≡ r
kept-row a w r Q e h = elim (cases_Bool (is_task a r.name)) [
  | inl q ↦ subst (λ x. after_row a x r ≡ r) (sym (h q)) (skipped (is_task a r.name))
  | inr q ↦ ap (λ b. touched a w (if b then stepped w r else r)) q
      ∙ same-row r.name r.pid r.group r.group r.program r.program r.next r.next r.spawns r.spawns r.call r.call r.entered r.entered r.owes r.owes r.ended r.ended
      (reaps w r.name || r.waited) r.waited (not (ends w && is_task a (parent r.name)) && r.fostered) r.fostered (sent w r) r.pending r.dispositions r.dispositions
      refl refl refl refl refl refl refl refl (ap (λ b. b || r.waited) (Q.no_reap r.name)) (ap (λ b. not (b && is_task a (parent r.name)) && r.fostered) e) (Q.no_signal r) refl
]
  where
    skipped : (b : Bool) → touched a Skip (if b then stepped Skip r else r) ≡ r
    skipped true = same-row r.name r.pid r.group r.group r.program r.program (r.next + 0 - 0) r.next (r.spawns + 0) r.spawns r.call r.call r.entered r.entered r.owes r.owes r.ended r.ended
        r.waited r.waited r.fostered r.fostered r.pending r.pending r.dispositions r.dispositions
        refl refl (omega arith) (omega arith) refl refl refl refl refl refl refl refl
    skipped false = refl
