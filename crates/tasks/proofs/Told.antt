-- What is told of the tasks of a history for which they stand: events that are no steps of tasks, other room, names, places and lives.
-- By the table, and by the definitions of a task's step.
use Rattle.std.proofs.Common.{◌≡◌, ℕ, ◌<◌, Bool, true, false, ◌&&◌, not, List, ◌∷◌, length, Option, Some, None, refl, sym, ap, ◌∙◌, subst, arith}
use Rattle.std.specs.Prelude.{◌↔◌, is_some}
use Rattle.std.proofs.lemmas.Bool.{and_parts, and_from}
use Rattle.std.proofs.lemmas.List.{length-map}
use Rattle.hist_model.specs.Look.{Name, name_eq, event_at}
use Rattle.hist_model.specs.Signals.{call_of, held, next_signal}
use Rattle.hist_model.specs.Steps.{deliver_or, living_step, makes_in, opened, task_place, task_step}
use Rattle.hist_model.specs.Systems.{System}
use Rattle.hist_model.specs.Tasks.{alive, disposition, ended, is_made, name_of}
use Rattle.hist_model.specs.declared.event.Delivered.{Delivered}
use Rattle.hist_model.specs.declared.event.Disposition.{Disposition}
use Rattle.hist_model.specs.declared.event.Event.{Event}
use Rattle.hist_model.specs.declared.event.What.{What}
use Rattle.hist_model.specs.declared.event.What.TheVariants.{Deliver, Skip}
use Rattle.hist_model.specs.declared.script.Script.{Script}
use Rattle.hist_model.proofs.Look.{name_eq-true, name_eq-refl, oldest-some, oldest-found}
use Rattle.history_frames.specs.Ordinals.{tasks_made, place_of, task_name_of, group_of}
use Rattle.history_frames.proofs.Ordinals.{place-makes, makes-below}
use Rattle.tasks.specs.Fold.{IsGroupOf, IsRow}
use Rattle.tasks.specs.Sets.{dispositions_of, next_of, pending_of, with_disposition}
use Rattle.tasks.specs.Sound.{IsSound, IsOther}
use Rattle.tasks.specs.State.{Row}
use Rattle.tasks.specs.Table.{IsTableOf, row_in, table_of}
use Rattle.tasks.specs.Stands.{SameTasks, StandsFor, delivery, effect_of, ended_at, ended_in, made, step_or}
use Rattle.tasks.specs.declared.table.Tasks.{Tasks}
use Rattle.tasks.proofs.Answers.{next-signal-is}
use Rattle.tasks.proofs.Named.{name-place}
use Rattle.tasks.proofs.Stood.{row-is, task-there}
use Rattle.tasks.proofs.Stood as stood

pub stands-other : (S : Script) (K : List Event) (e : Event) (T : Tasks) → StandsFor S K T → IsOther e → StandsFor S (e ∷ K) T
stands-other S K e T s h = record { is_table = stood.stands-other S K e (table_of T) s.is_table h }

stands-room : (S : Script) (K : List Event) (old new : Tasks) → SameTasks old new → StandsFor S K old → StandsFor S K new
stands-room S K old new h s = record { is_table = subst (λ T. IsTableOf S K T) (sym h) s.is_table }

pub stands-both : (S : Script) (K : List Event) (old new : Tasks) → SameTasks old new → StandsFor S K old ↔ StandsFor S K new
stands-both S K old new h = (stands-room S K old new h, stands-room S K new old (sym h))

pub made-is : (S : Script) (K : List Event) (T : Tasks) → StandsFor S K T → made T ≡ tasks_made K
made-is S K T s = sym (length-map (table_of T).tasks (row_in (table_of T).tasks)) ∙ s.is_table.looks.count

pub ended-is : (S : Script) (K : List Event) (T : Tasks) (o : ℕ) → StandsFor S K T → o < tasks_made K → ended_at T o ≡ ended K (task_name_of K o)
ended-is S K T o s l =
    let t = task-there S K (table_of T) s.is_table o l in
    ap ended_in t.1 ∙ (row-is S K (table_of T) s.is_table o t.0 t.1).ended_is

-- ---- names and places

-- a name leads to the place of its task, since no two tasks have it
pub place-is : (K : List Event) (o : ℕ) → IsSound K → o < tasks_made K → task_place K (task_name_of K o) ≡ place_of K o
unfolding task_place
place-is K o h l =
    let a = name-place K o l in
    let m = place-makes K o a.0 a.1 in
    let b : name_eq (name_of K a.0) (task_name_of K o) ≡ true = rw a.2 (name_eq-refl (task_name_of K o)) in
    let f = oldest-found (λ u. makes_in (event_at K u) && name_eq (name_of K u) (task_name_of K o)) (length K) a.0 (makes-below K a.0 m) (and_from (makes_in (event_at K a.0)) (name_eq (name_of K a.0) (task_name_of K o)) m b) in
    let g = oldest-some (λ u. makes_in (event_at K u) && name_eq (name_of K u) (task_name_of K o)) (length K) f.0 f.1 in
    let p = and_parts (makes_in (event_at K f.0)) (name_eq (name_of K f.0) (task_name_of K o)) g.0 in
    let q = h.names f.0 a.0 p.0 m (name_eq-true (name_of K f.0) (task_name_of K o) p.1 ∙ sym a.2) in
    f.1 ∙ (ap Some q ∙ sym a.1)

pub place-of-name : (S : Script) (K : List Event) (T : Tasks) (o : ℕ) → StandsFor S K T → o < tasks_made K → task_place K (task_name_of K o) ≡ place_of K o
place-of-name S K T o s l = place-is K o s.is_table.sound l

pub group-of-place : (S : Script) (K : List Event) (T : Tasks) (o g : ℕ) → StandsFor S K T → o < tasks_made K → IsGroupOf K (task_name_of K o) g → opened K (place_of K o) ≡ group_of K g
group-of-place S K T o g s l i = ap (opened K) (sym (place-of-name S K T o s l)) ∙ (i.2 ∙ sym i.1)

-- ---- who lives

skips-ended : (S : System) (K : List Event) (n : Name) → alive K n ≡ false → task_step S K n ≡ Skip
unfolding task_step
skips-ended S K n h = rw h

pub steps-living : (S : System) (K : List Event) (n : Name) → is_made K n ≡ true → ended K n ≡ false → task_step S K n ≡ living_step S K n (call_of K n)
unfolding task_step
steps-living S K n m d = rw (m, d)

pub skips-gone : (S : System) (K : List Event) (n : Name) → ended K n ≡ true → task_step S K n ≡ Skip
skips-gone S K n d = skips-ended S K n (rw d (never (is_made K n)))
  where
    never : (b : Bool) → (b && false) ≡ false
    never b = grind arith

pub alive-is : (K : List Event) (n : Name) → is_made K n ≡ true → alive K n ≡ not (ended K n)
alive-is K n m = rw m

-- ---- deliveries

same-some : (K : List Event) (n : Name) (due : Option ℕ) → is_some (with_disposition K n due) ≡ is_some due
same-some K n None = refl
same-some K n (Some sig) = refl

pub due-is : (S : Script) (K : List Event) (n : Name) (r : Row) (holding : Bool) → IsRow S K n r → holding ≡ held S.killable K n → next_of r.pending r.dispositions holding ≡ with_disposition K n (next_signal S.killable K n)
due-is S K n r holding i h =
    ap (λ p. next_of p r.dispositions holding) i.pending_is ∙ (ap (λ m. next_of (pending_of K n) m holding) i.dispositions_is ∙ (ap (next_of (pending_of K n) (dispositions_of K n)) h ∙ next-signal-is S.killable K n))

pub due-some : (S : Script) (K : List Event) (n : Name) (r : Row) (holding : Bool) → IsRow S K n r → holding ≡ held S.killable K n → is_some (next_of r.pending r.dispositions holding) ≡ is_some (next_signal S.killable K n)
due-some S K n r holding i h = ap is_some (due-is S K n r holding i h) ∙ same-some K n (next_signal S.killable K n)

pub delivered : (K : List Event) (n : Name) (in_call : Bool) (due : Option ℕ) (sig : ℕ) (m : Disposition) (effect : Delivered) → Some (sig, m) ≡ with_disposition K n due → effect ≡ effect_of in_call sig m → Some (Deliver sig effect) ≡ delivery K n in_call due
delivered K n in_call None sig m effect q f = cc
delivered K n in_call (Some s) sig m effect q f =
    let p : (sig, m) ≡ (s, disposition K n s) = cc in
    let a : sig ≡ s = ap (λ (x : ℕ × Disposition). x.0) p in
    let b : m ≡ disposition K n s = ap (λ (x : ℕ × Disposition). x.1) p in
    rw (f, a, b)

pub none-delivered : (K : List Event) (n : Name) (in_call : Bool) (due : Option ℕ) → None ≡ with_disposition K n due → None ≡ delivery K n in_call due
none-delivered K n in_call None q = refl
none-delivered K n in_call (Some s) q = cc

pub delivery-first : (K : List Event) (n : Name) (in_call : Bool) (due : Option ℕ) (other : What) → step_or (delivery K n in_call due) other ≡ deliver_or due (λ s. effect_of in_call s (disposition K n s)) other
delivery-first K n in_call None other = refl
delivery-first K n in_call (Some s) other = refl
