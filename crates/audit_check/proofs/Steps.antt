-- What a line of the journal does to the pass, where its actor took its step on the machine.
-- By the definitions of the pass, and since the history goes on before the step and after it.
use Rattle.std.proofs.Common.{inl, inr, ◌⊎◌, ◌≡◌, ℕ, zero, suc, ◌-◌, ◌<◌, ◌^◌, Bool, true, false, ◌&&◌, List, [], ◌∷◌, length, Option, Some, None, refl, sym, ap, subst, ◌∙◌, arith}
use Rattle.std.specs.Prelude.{if◌then◌else◌, ◌==◌, bytes_eq, codes}
use Rattle.std.proofs.lemmas.Bool.{cases_Bool, leb-true}
use Rattle.std.proofs.lemmas.Bool.Decides.{nat_tests}
use Rattle.hist_model.specs.Legal.{rules_of, started, system_of, with_step}
use Rattle.hist_model.specs.Look.{ev}
use Rattle.hist_model.specs.ReportJournal.{event_line, title}
use Rattle.hist_model.specs.Steps.{is_start, start, step}
use Rattle.hist_model.specs.Words.{number_between}
use Rattle.hist_model.specs.declared.event.Actor.{Actor}
use Rattle.hist_model.specs.declared.event.Actor.TheVariants.{Listener, Start, Task, Worker}
use Rattle.hist_model.specs.declared.event.Event.{Event}
use Rattle.hist_model.specs.declared.event.What.TheVariants.{Close}
use Rattle.hist_model.specs.declared.policy.Policy.{Policy}
use Rattle.hist_model.specs.declared.script.Script.{Script}
use Rattle.hist_model.proofs.Look.{name_eq-true}
use Rattle.mediation.specs.Scheduled.{IsScheduled, IsUnclosed}
use Rattle.audit_check.specs.Actors.{actor_in}
use Rattle.audit_check.specs.Checked.{with_close}
use Rattle.audit_check.specs.Pass.{count_in, titled_count}
use Rattle.audit_check.specs.Reading.{Fault, Journal, Title, behind, behind_event, behind_title, stepped, title_word, with_line}
use Rattle.audit_check.proofs.Named.{actor_told, told_is_actor}

-- a task or a worker that a line names may take steps
pub may_step : (line : List ℕ) (a : Actor) → actor_in line ≡ Some a → ((n : List ℕ) × (a ≡ Task n)) ⊎ ((w : ℕ) × (a ≡ Worker w)) → IsScheduled a
may_step line a q (inl t) = subst IsScheduled (sym t.1) (told_is_actor line (Task t.0) (q ∙ ap (λ b. Some b) t.1))
may_step line a q (inr t) = subst IsScheduled (sym t.1) (leb-true t.0 16 (told_is_actor line (Worker t.0) (q ∙ ap (λ b. Some b) t.1)))

starts-none : (a : Actor) → IsScheduled a → is_start a ≡ false
starts-none (Task n) s = refl
starts-none (Worker w) s = refl
starts-none Start s = absurd s
starts-none Listener s = absurd s

module _ (P : Policy) (S : Script) where
  -- an actor that goes on steps
  steps-on : (K : List Event) (a : Actor) → is_start a ≡ false → IsUnclosed K → stepped P S K (Some a) ≡ Some (with_step P S a K)
  steps-on [] a s u = absurd u
  steps-on (f ∷ K) a s u = rw (s, u) refl

  line-on : (K : List Event) (a : Actor) (line : List ℕ) (more : ℕ) → actor_in line ≡ Some a → is_start a ≡ false → IsUnclosed K → with_line P S (Journal K more) line ≡ behind_event P line more (Some (with_step P S a K))
  line-on K a line more q s u = rw (q, steps-on K a s u) refl

  -- the close
  pub closes_line : (K : List Event) (line : List ℕ) → actor_in line ≡ Some Listener → IsUnclosed K → bytes_eq (event_line (length K) (ev Listener Close)) line ≡ true → with_line P S (Journal K 0) line ≡ behind P (with_close K) 0
  unfolding step
  closes_line K line q u h = line-on K Listener line 0 q refl u ∙ rw h refl

  pub closes_other : (K : List Event) (line : List ℕ) (more : ℕ) → actor_in line ≡ Some Listener → IsUnclosed K → bytes_eq (event_line (length K) (ev Listener Close)) line ≡ false → with_line P S (Journal K more) line ≡ Fault
  unfolding step
  closes_other K line more q u h = line-on K Listener line more q refl u ∙ rw h refl

  pub closes_early : (K : List Event) (line : List ℕ) (more : ℕ) → actor_in line ≡ Some Listener → IsUnclosed K → 0 < more → with_line P S (Journal K more) line ≡ Fault
  unfolding step
  closes_early K line zero q u l = absurd (omega arith)
  closes_early K line (suc more) q u l = line-on K Listener line (suc more) q refl u ∙ by (bytes_eq (event_line (length K) (ev Listener Close)) line)
    where
      by : (b : Bool) → (if b && (suc more == 0) then behind P (with_close K) (suc more) else Fault) ≡ Fault
      by true = let e : (suc more == 0) ≡ false = grind (arith, nat_tests) in rw e refl
      by false = refl

  -- an actor's turn
  pub turn_line : (K : List Event) (a : Actor) (line : List ℕ) (more : ℕ) → actor_in line ≡ Some a → IsScheduled a → IsUnclosed K → IsUnclosed (with_step P S a K)
      → bytes_eq (event_line (length K) (ev a (step (system_of S) (rules_of P S.figures) K a))) line ≡ true → with_line P S (Journal K more) line ≡ behind P (with_step P S a K) more
  turn_line K a line more q s u v h = line-on K a line more q (starts-none a s) u ∙ rw (h, v) refl

  pub turn_other : (K : List Event) (a : Actor) (line : List ℕ) (more : ℕ) → actor_in line ≡ Some a → IsScheduled a → IsUnclosed K
      → bytes_eq (event_line (length K) (ev a (step (system_of S) (rules_of P S.figures) K a))) line ≡ false → with_line P S (Journal K more) line ≡ Fault
  turn_other K a line more q s u h = line-on K a line more q (starts-none a s) u ∙ rw h refl

  -- the line of the start
  pub start_line : (line : List ℕ) (more : ℕ) → bytes_eq (event_line 0 (start (system_of S))) line ≡ true → with_line P S (Journal [] more) line ≡ behind P (started S) more
  start_line line more h =
      let told : actor_in line ≡ Some Start = ap actor_in (sym (name_eq-true (event_line 0 (start (system_of S))) line h)) ∙ actor_told 0 (start (system_of S)) refl in
      rw (told, h) refl

  pub start_other : (line : List ℕ) (more : ℕ) → bytes_eq (event_line 0 (start (system_of S))) line ≡ false → with_line P S (Journal [] more) line ≡ Fault
  start_other line more h = by (actor_in line)
    where
      by : (o : Option Actor) → behind_event P line more (stepped P S [] o) ≡ Fault
      by None = refl
      by (Some a) = elim (cases_Bool (is_start a)) [ inl y ↦ rw (y, h) refl | inr n ↦ rw n refl ]

  -- the title
  pub title_line : (line : List ℕ) (n : ℕ) → count_in line ≡ Some n → with_line P S Title line ≡ behind P [] n
  title_line line n q = by (number_between 1 (2 ^ 64 - 1) (title_word line)) q
    where
      tested : (m : ℕ) (b : Bool) → (if b then Some m else None) ≡ Some n → (if b then behind P [] m else Fault) ≡ behind P [] n
      tested m true q = let e : m ≡ n = cc in ap (behind P []) e
      tested m false q = cc

      by : (o : Option ℕ) → titled_count line o ≡ Some n → behind_title P line o ≡ behind P [] n
      by None q = cc
      by (Some m) q = tested m (bytes_eq (title (codes "journal") m) line) q

  pub title_other : (line : List ℕ) → count_in line ≡ None → with_line P S Title line ≡ Fault
  title_other line q = by (number_between 1 (2 ^ 64 - 1) (title_word line)) q
    where
      tested : (m : ℕ) (b : Bool) → (if b then Some m else None) ≡ None → (if b then behind P [] m else Fault) ≡ Fault
      tested m true q = cc
      tested m false q = refl

      by : (o : Option ℕ) → titled_count line o ≡ None → behind_title P line o ≡ Fault
      by None q = refl
      by (Some m) q = tested m (bytes_eq (title (codes "journal") m) line) q

-- where more events are to come the pass is in the journal
pub more_behind : (P : Policy) (K : List Event) (n : ℕ) → 0 < n → behind P K n ≡ Journal K (n - 1)
more_behind P K zero l = absurd (omega arith)
more_behind P K (suc n) l = let e : suc n - 1 ≡ n = omega arith in ap (Journal K) (sym e)

pub filled : (K : List Event) → IsUnclosed K → 0 < length K
filled [] u = absurd u
filled (e ∷ K) u = omega arith
