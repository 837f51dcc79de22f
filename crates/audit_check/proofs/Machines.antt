-- What the machine's step, the close or a missing line makes of the pass over the journal.
-- By the lemmas on a line's step (`Steps`) and on what was read (`Passing`).
use Rattle.std.proofs.Common.{◌≡◌, ℕ, ◌+◌, ◌-◌, ◌<◌, Bool, true, false, List, [], ◌∷◌, length, Some, refl, sym, ap, subst, ◌∙◌}
use Rattle.std.specs.Prelude.{bytes_eq}
use Rattle.hist_model.specs.Legal.{rules_of, system_of}
use Rattle.hist_model.specs.Look.{ev}
use Rattle.hist_model.specs.PolicyRules.{IsPolicy}
use Rattle.hist_model.specs.ReportJournal.{event_line}
use Rattle.hist_model.specs.Steps.{step}
use Rattle.hist_model.specs.declared.event.Actor.{Actor}
use Rattle.hist_model.specs.declared.event.Actor.TheVariants.{Listener}
use Rattle.hist_model.specs.declared.event.Event.{Event}
use Rattle.hist_model.specs.declared.event.What.TheVariants.{Close}
use Rattle.hist_model.specs.declared.policy.Policy.{Policy}
use Rattle.hist_model.specs.declared.script.Script.{Script}
use Rattle.mediation.specs.Scheduled.{IsScheduled}
use Rattle.model_kernel.specs.Kernels.{past}
use Rattle.broker_machine.specs.Serving.{IsServed, Reaches, after_step}
use Rattle.broker_machine.specs.declared.machine.Machine.{Machine}
use Rattle.audit_check.specs.Actors.{actor_in}
use Rattle.audit_check.specs.Checked.{HasStepped, with_close}
use Rattle.audit_check.specs.Lines.{lines}
use Rattle.audit_check.specs.Pass.{HasRead}
use Rattle.audit_check.specs.Reading.{Fault, Journal, Reached, behind, with_line}
use Rattle.audit_check.specs.Reported.{IsFaultLine}
use Rattle.audit_check.specs.declared.stages.Stepped.{Stepped}
use Rattle.audit_check.specs.declared.stages.Stepped.TheVariants.{Closed, Faulty, Went}
use Rattle.audit_check.proofs.Cut.{no_lines}
use Rattle.audit_check.proofs.Passing.{fault_next, line_missing, line_read}
use Rattle.audit_check.proofs.Steps.{closes_early, closes_line, closes_other, more_behind, turn_line, turn_other}

module _ (P : Policy) (old : Machine) (line : List ℕ) (more : ℕ) (served : IsServed P old) where
  -- a turn, and the line of the event that it gave
  module _ (new : Machine) (a : Actor) (can : IsScheduled a) (named : actor_in line ≡ Some a) (done : Reaches P old (after_step P old a) new)
      (b : Bool) (test : (e : Event) (K : List Event) → past new.kernel ≡ e ∷ K → b ≡ bytes_eq (event_line (length K) e) line) where
    tested : bytes_eq (event_line (length (past old.kernel)) (ev a (step (system_of old.kernel.script) (rules_of P old.kernel.script.figures) (past old.kernel) a))) line ≡ b
    tested = sym (test (ev a (step (system_of old.kernel.script) (rules_of P old.kernel.script.figures) (past old.kernel) a)) (past old.kernel) done.events)

    pub turned : b ≡ true → HasStepped P old line more Went new
    turned h = (
      record { served = done.served; script = done.script; events = refl },
      rw done.events (turn_line P old.kernel.script (past old.kernel) a line more named can served.goes_on.unclosed (rw done.events at done.served.goes_on.unclosed) (tested ∙ h)),
    )

    pub turned_other : b ≡ false → HasStepped P old line more Faulty new
    turned_other h = turn_other P old.kernel.script (past old.kernel) a line more named can served.goes_on.unclosed (tested ∙ h)

  here : Reaches P old (past old.kernel) old
  here = record { served = served; script = refl; events = refl }

  -- the close
  module _ (named : actor_in line ≡ Some Listener) (b : Bool) (test : b ≡ bytes_eq (event_line (length (past old.kernel)) (ev Listener Close)) line) where
    pub closed : more ≡ 0 → b ≡ true → HasStepped P old line more Closed old
    closed z h = (here, z, rw z (closes_line P old.kernel.script (past old.kernel) line named served.goes_on.unclosed (sym test ∙ h)))

    pub closed_other : b ≡ false → HasStepped P old line more Faulty old
    closed_other h = closes_other P old.kernel.script (past old.kernel) line more named served.goes_on.unclosed (sym test ∙ h)

  pub closed_early : actor_in line ≡ Some Listener → 0 < more → HasStepped P old line more Faulty old
  closed_early named l = closes_early P old.kernel.script (past old.kernel) line more named served.goes_on.unclosed l

-- a machine that has come from another to a history, and goes on
pub goes_to : (P : Policy) (first mid new : Machine) (K : List Event) → Reaches P first (past mid.kernel) mid → Reaches P mid K new → Reaches P first K new
goes_to P first mid new K r q = record { served = q.served; script = q.script ∙ r.script; events = q.events }

module _ (P : Policy) (S : Script) (bytes : List ℕ) (n : ℕ) (K : List Event) (more : ℕ) (text : List ℕ) (some : 0 < more) (h : HasRead P S bytes n (lines text) (behind P K more)) where
  module _ (line rest : List ℕ) (split : lines text ≡ line ∷ lines rest) where
    next : HasRead P S bytes n (line ∷ lines rest) (Journal K (more - 1))
    next = subst (λ left. HasRead P S bytes n left (Journal K (more - 1))) split (subst (HasRead P S bytes n (lines text)) (more_behind P K more some) h)

    -- the line was read
    pub journal_read : (there : Reached) → with_line P S (Journal K (more - 1)) line ≡ there → HasRead P S bytes (n + 1) (lines rest) there
    journal_read there q = subst (HasRead P S bytes (n + 1) (lines rest)) q (line_read P S bytes n line (lines rest) (Journal K (more - 1)) next)

    -- or is a fault
    pub journal_fault : IsPolicy P → with_line P S (Journal K (more - 1)) line ≡ Fault → IsFaultLine P S bytes (n + 1)
    journal_fault policy q = fault_next P S bytes policy n line (lines rest) (Journal K (more - 1)) next refl q

  -- or is missing
  pub journal_missing : IsPolicy P → text ≡ [] → IsFaultLine P S bytes (n + 1)
  journal_missing policy empty =
      line_missing P S bytes policy n (Journal K (more - 1))
      (subst (λ left. HasRead P S bytes n left (Journal K (more - 1))) (ap lines empty ∙ no_lines) (subst (HasRead P S bytes n (lines text)) (more_behind P K more some) h))
      refl (λ H q. cc)

-- one line of the journal, where the machine that reads it has come from another
module _ (P : Policy) (bytes : List ℕ) (first old new : Machine) (came : Reaches P first (past old.kernel) old) (n more : ℕ) (text line rest : List ℕ) (some : 0 < more) (split : lines text ≡ line ∷ lines rest)
    (h : HasRead P first.kernel.script bytes n (lines text) (behind P (past old.kernel) more)) where
  makes : (there : Reached) → with_line P old.kernel.script (Journal (past old.kernel) (more - 1)) line ≡ there → with_line P first.kernel.script (Journal (past old.kernel) (more - 1)) line ≡ there
  makes there q = subst (λ S. with_line P S (Journal (past old.kernel) (more - 1)) line ≡ there) came.script q

  pub went_read : (s : Stepped) → s ≡ Went → HasStepped P old line (more - 1) s new → HasRead P first.kernel.script bytes (n + 1) (lines rest) (behind P (past new.kernel) (more - 1))
  went_read Went e s = journal_read P first.kernel.script bytes n (past old.kernel) more text some h line rest split (behind P (past new.kernel) (more - 1)) (makes (behind P (past new.kernel) (more - 1)) s.1)
  went_read Closed e s = cc
  went_read Faulty e s = cc

  pub closed_read : (s : Stepped) → s ≡ Closed → HasStepped P old line (more - 1) s new → HasRead P first.kernel.script bytes (n + 1) (lines rest) (behind P (with_close (past new.kernel)) 0)
  closed_read Closed e s = journal_read P first.kernel.script bytes n (past old.kernel) more text some h line rest split (behind P (with_close (past new.kernel)) 0) (makes (behind P (with_close (past new.kernel)) 0) s.2)
  closed_read Went e s = cc
  closed_read Faulty e s = cc

  pub faulty_line : IsPolicy P → (s : Stepped) → s ≡ Faulty → HasStepped P old line (more - 1) s new → IsFaultLine P first.kernel.script bytes (n + 1)
  faulty_line policy Faulty e s = journal_fault P first.kernel.script bytes n (past old.kernel) more text some h line rest split policy (makes Fault s)
  faulty_line policy Went e s = cc
  faulty_line policy Closed e s = cc

-- where the machine went on, or was closed
pub went_to : (P : Policy) (first old new : Machine) (line : List ℕ) (more : ℕ) (s : Stepped) → Reaches P first (past old.kernel) old → (s ≡ Faulty → ⊥) → HasStepped P old line more s new → Reaches P first (past new.kernel) new
went_to P first old new line more Went r f s = goes_to P first old new (past new.kernel) r s.0
went_to P first old new line more Closed r f s = goes_to P first old new (past new.kernel) r s.0
went_to P first old new line more Faulty r f s = absurd (f refl)
