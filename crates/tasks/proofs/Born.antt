-- The group and the program of a task that is made.
-- By its place, which is that of the event, and along the numbers of its name.
use Rattle.std.proofs.Common.{◌≡◌, ℕ, Bool, true, false, ◌&&◌, not, List, [], ◌∷◌, ◌++◌, length, Option, Some, None, refl, sym, ap, ◌∙◌}
use Rattle.std.specs.Prelude.{if◌then◌else◌, ◌-◌}
use Rattle.std.proofs.lemmas.Bool.{both_ways, and_parts}
use Rattle.hist_model.specs.Kinds.{makes, shares_now}
use Rattle.hist_model.specs.Look.{Name, name_eq, event_at, oldest, or_else, task_name}
use Rattle.hist_model.specs.Programs.{program, program_at, program_from, nth_started}
use Rattle.hist_model.specs.Steps.{task_place, opened, group, place_or, makes_in}
use Rattle.hist_model.specs.Tasks.{is_made, child_of, name_of}
use Rattle.hist_model.specs.declared.event.Event.{Event}
use Rattle.hist_model.specs.declared.event.Actor.TheVariants.{Task}
use Rattle.hist_model.specs.declared.script.Instr.{Instr}
use Rattle.hist_model.specs.declared.script.Script.{Script}
use Rattle.hist_model.proofs.Look.{event_at-here, event_at-older, oldest-some, name_eq-true, name_eq-refl}
use Rattle.history_frames.specs.Ordinals.{groups_made, makes_group}
use Rattle.history_frames.proofs.Ordinals.{place-new, name-older}
use Rattle.history_frames.proofs.Held.{made-is}
use Rattle.history_frames.proofs.Groups.{group-made, group-shared, group-stays}
use Rattle.tasks.specs.Fold.{IsGroupOf}

-- the place of a task whose name is new
place-fresh : (e : Event) (K : List Event) → makes e.what ≡ true → is_made K (child_of e.what) ≡ false → task_place (e ∷ K) (child_of e.what) ≡ Some (length K)
unfolding task_place oldest
place-fresh e K m u = go (oldest test (length K)) refl
  where
    test : ℕ → Bool
    test t = makes_in (event_at (e ∷ K) t) && name_eq (name_of (e ∷ K) t) (child_of e.what)

    here : test (length K) ≡ true
    here = rw (event_at-here e K, m) (name_eq-refl (child_of e.what))

    go : (o : Option ℕ) → oldest test (length K) ≡ o → or_else (oldest test (length K)) (if test (length K) then Some (length K) else None) ≡ Some (length K)
    go None q = rw (q, here)
    go (Some t) q =
        let p = oldest-some test (length K) t q in
        let a = and_parts (makes_in (event_at (e ∷ K) t)) (name_eq (name_of (e ∷ K) t) (child_of e.what)) p.0 in
        let b : makes_in (event_at K t) ≡ true = rw (event_at-older e K t p.1) at a.0 in
        let n : name_of K t ≡ child_of e.what = sym (name-older e K t p.1) ∙ name_eq-true (name_of (e ∷ K) t) (child_of e.what) a.1 in
        absurd (both_ways (is_made K (child_of e.what)) u (ap (is_made K) (sym n) ∙ made-is K t b))

-- a group of its own
pub group-fresh : (e : Event) (K : List Event) → makes_group e.what ≡ true → is_made K (child_of e.what) ≡ false → IsGroupOf (e ∷ K) (child_of e.what) (groups_made K)
group-fresh e K m u =
    let mk = (and_parts (makes e.what) (not (shares_now e.what)) m).0 in
    (length K, place-new makes_group e K m, ap (opened (e ∷ K)) (place-fresh e K mk u) ∙ ap Some (group-made e K m))

-- or that of the task that made it
pub group-parent : (e : Event) (K : List Event) (n : Name) (o : ℕ) → makes e.what ≡ true → shares_now e.what ≡ true → e.who ≡ Task n → is_made K (child_of e.what) ≡ false → IsGroupOf K n o → IsGroupOf (e ∷ K) (child_of e.what) o
group-parent e K n o m s who u h =
    (h.0, group-stays e K o h.0 h.1, ap (opened (e ∷ K)) (place-fresh e K m u) ∙ ap Some (group-shared e K s ∙ (ap (λ a. group K (place_or (task_place K (task_name a)))) who ∙ go (task_place K n) h.2)))
  where
    go : (p : Option ℕ) → opened K p ≡ Some h.0 → group K (place_or p) ≡ h.0
    go None q = absurd (cc)
    go (Some t) q = cc

child-from : (S : Script) (n : Name) (k : ℕ) (own : List Instr) → program_from S.programs (n ++ k ∷ []) own ≡ program_at S.programs (nth_started (program_from S.programs n own) k)
child-from S [] k own = refl
child-from S (j ∷ n) k own = child-from S n k (program_at S.programs (nth_started own j))

-- the program of a child
pub program-child : (S : Script) (n : Name) (k : ℕ) → (n ≡ [] → ⊥) → program S (n ++ k ∷ []) ≡ program_at S.programs (nth_started (program S n) k)
unfolding program
program-child S [] k h = absurd (h refl)
program-child S (j ∷ n) k h = child-from S n k (program_at S.programs (Some (length S.programs - 1)))
