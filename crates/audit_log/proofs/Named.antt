-- A table of tasks with another row is changed at that row's name alone.
-- By cases on whether a name is the changed one, with what `UpdatesBy` says of it and of the others, and the laws of equality on names.
use Rattle.std.proofs.Common.{◌≡◌, ℕ, List, Option, Some, None, Bool, true, false, ◌&&◌, Vec, refl, inl, inr, sym, ap, subst, ◌∙◌, if◌then◌else◌}
use Rattle.std.specs.Cmp.Lexicographic.{nat_list_eq_equiv}
use Rattle.std.specs.HashMap.{HashMap, UpdatesBy, get_by}
use Rattle.std.specs.Map.{lookup, IsKeyTest, AreApart, KeepsOthers}
use Rattle.std.proofs.lemmas.Bool.{cases_Bool, cond-true, cond-false}
use Rattle.hist_model.specs.Kinds.{enters}
use Rattle.hist_model.specs.Look.{Name, is_task, name_eq, or_else}
use Rattle.hist_model.specs.ReportCalls.{pid_given}
use Rattle.hist_model.specs.declared.event.Event.{Event}
use Rattle.hist_model.specs.declared.event.What.{What}
use Rattle.hist_model.specs.declared.event.What.TheVariants.{Enter}
use Rattle.hist_model.proofs.Look.{name_eq-true}
use Rattle.audit_log.specs.Tasks.{facts_or_none, task_after}
use Rattle.audit_log.specs.declared.tasks.TaskFacts.{TaskFacts}

-- a key under one name is under no other
apart : (n m key : Name) → name_eq n m ≡ false → name_eq n key ≡ true → name_eq m key ≡ false
apart n m key other same = nat_list_eq_equiv.symm m key ∙ (sym (nat_list_eq_equiv.congr n key m same) ∙ other)

kept : {K X : Type 0} (eq : K → K → Bool) (test : K → Bool) (old new : List (K × X)) → KeepsOthers eq test old new
    → (other : K → Bool) → IsKeyTest eq other → AreApart test other → lookup other new ≡ lookup other old
unfolding KeepsOthers
kept eq test old new h = h

-- what the table has of any task, with these facts of the one with this name
pub put_told : {Y S : Type 0} (key name : Name) (old new : HashMap (Vec ℕ Y) TaskFacts S) (facts : TaskFacts) → key ≡ name
    → UpdatesBy (λ x y. name_eq x.items y.items) (λ k. name_eq key k.items) old new (Some facts)
    → (n : Name) → facts_or_none (get_by (λ k. name_eq n k.items) new) ≡ (if name_eq name n then facts else facts_or_none (get_by (λ k. name_eq n k.items) old))
put_told key name old new facts e h n = subst (λ m. facts_or_none (get_by (λ k. name_eq n k.items) new) ≡ (if name_eq m n then facts else facts_or_none (get_by (λ k. name_eq n k.items) old))) e (elim (cases_Bool (name_eq key n)) [
  | inl y ↦
      subst (λ m. facts_or_none (get_by (λ k. name_eq m k.items) new) ≡ facts) (name_eq-true key n y) (ap facts_or_none h.1)
      ∙ sym (cond-true (name_eq key n) facts (facts_or_none (get_by (λ k. name_eq n k.items) old)) y)
  | inr y ↦
      ap facts_or_none (kept _ _ _ _ h.3 _ (λ x z. nat_list_eq_equiv.congr n x.items z.items) (λ k. apart key n k.items y))
      ∙ sym (cond-false (name_eq key n) facts (facts_or_none (get_by (λ k. name_eq n k.items) old)) y)
])

abbrev pub facts-with : Option ℕ → Option ℕ → TaskFacts
facts-with p q = record { pid = p; newest = q }

-- what is kept of a task with a step that enters no call
pub given_after : (place : ℕ) (e : Event) (n : Name) (f : TaskFacts) → enters e.what ≡ false → facts-with (or_else f.pid (pid_given e.what n)) f.newest ≡ task_after place e n f
given_after place e n f h = rw (h, and_false (is_task e.who n)) refl
  where
    and_false : (b : Bool) → (b && false) ≡ false
    and_false true = refl
    and_false false = refl

-- with a step that enters one
pub entered_after : (place : ℕ) (e : Event) (n : Name) (f : TaskFacts) → enters e.what ≡ true
    → facts-with f.pid (if is_task e.who n then Some place else f.newest) ≡ task_after place e n f
entered_after place e n f h = rw (h, and_true (is_task e.who n), none e.what h) (ap (λ p. facts-with p (if is_task e.who n then Some place else f.newest)) (kept f.pid))
  where
    and_true : (b : Bool) → (b && true) ≡ b
    and_true true = refl
    and_true false = refl

    none : (a : What) → enters a ≡ true → pid_given a n ≡ None
    none (Enter nr args verdict) q = refl
    none _ q = cc

    kept : (p : Option ℕ) → p ≡ or_else p None
    kept None = refl
    kept (Some k) = refl
