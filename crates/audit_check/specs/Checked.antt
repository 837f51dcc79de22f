-- What the checker finds of a report, and how it takes the steps of the journal.
use Rattle.std.specs.Prelude.{◌≡◌, ◌↔◌, ℕ, ◌+◌, ◌-◌, ◌^◌, ◌<◌, true, if◌then◌else◌, List, [], ◌∷◌, length, ⊤}
use Rattle.hist_model.specs.Kinds.{closes}
use Rattle.hist_model.specs.Legal.{Finished}
use Rattle.hist_model.specs.Look.{ev}
use Rattle.hist_model.specs.declared.event.Actor.TheVariants.{Listener}
use Rattle.hist_model.specs.declared.event.Event.{Event}
use Rattle.hist_model.specs.declared.event.What.TheVariants.{Close}
use Rattle.hist_model.specs.declared.policy.Policy.{Policy}
use Rattle.hist_model.specs.declared.script.Script.{Script}
use Rattle.audit_log.specs.Tables.{TellsTables}
use Rattle.model_kernel.specs.Kernels.{past}
use Rattle.broker_machine.specs.Serving.{IsAt, Reaches}
use Rattle.broker_machine.specs.declared.machine.Machine.{Machine}
use Rattle.audit_check.specs.Lines.{lines}
use Rattle.audit_check.specs.Pass.{HasRead}
use Rattle.audit_check.specs.Reading.{Fault, Journal, behind, with_line}
use Rattle.audit_check.specs.Reported.{IsFaultLine, IsReported}
use Rattle.audit_check.specs.declared.stages.Ended.{Ended}
use Rattle.audit_check.specs.declared.stages.Ended.TheVariants.{Closed as EndsClosed, Faulty as EndsFaulty, Open as EndsOpen}
use Rattle.audit_check.specs.declared.found.Checked.{Checked}
use Rattle.audit_check.specs.declared.found.Checked.TheVariants.{No, Yes}
use Rattle.audit_check.specs.declared.stages.Stepped.{Stepped}
use Rattle.audit_check.specs.declared.stages.Stepped.TheVariants.{Closed, Faulty, Went}

-- a history without its close, if it has one
abbrev pub without_close : List Event → List Event
without_close [] = []
without_close (e ∷ K) = if closes e.what then K else e ∷ K

-- yes: the bytes are the report of this legal history, which is finished or not but for its close, and of which the tables tell;
-- no: this is their fault line
abbrev pub Tells : Policy → Script → List ℕ → Checked → Type 0
Tells P S bytes (Yes history finished tables) = IsReported P S bytes history.events
    × ((finished ≡ true) ↔ Finished (without_close history.events)) × TellsTables P.rules history.events tables
Tells P S bytes (No line) = IsFaultLine P S bytes line

-- with the close of the listener
abbrev pub with_close : List Event → List Event
with_close K = ev Listener Close ∷ K

-- where so many more events are to come, this is what a line does: its actor went on, or the listener was closed and no more are to
-- come, or it is a fault
abbrev pub HasStepped : Policy → Machine → List ℕ → ℕ → Stepped → Machine → Type 0
HasStepped P old line more Went new = Reaches P old (past new.kernel) new
    × (with_line P old.kernel.script (Journal (past old.kernel) more) line ≡ behind P (past new.kernel) more)
HasStepped P old line more Closed new = Reaches P old (past new.kernel) new × (more ≡ 0)
    × (with_line P old.kernel.script (Journal (past old.kernel) more) line ≡ behind P (with_close (past new.kernel)) 0)
HasStepped P old line more Faulty new = with_line P old.kernel.script (Journal (past old.kernel) more) line ≡ Fault

-- no journal ended, or the machine stands at its history, and the number of a line that is left fits
abbrev pub Serves : Policy → Script → Ended → Machine → Type 0
Serves P S (EndsOpen left) m = IsAt P S (past m.kernel) m × (left.number + length left.text.now < 2 ^ 32 - 1)
Serves P S (EndsClosed left) m = IsAt P S (past m.kernel) m × (left.number + length left.text.now < 2 ^ 32 - 1)
Serves P S (EndsFaulty line) m = ⊤

-- the journal ended behind the last of these events, or behind the close that follows them, or at the fault line
abbrev pub HasEnded : Policy → Script → List ℕ → Ended → List Event → Type 0
HasEnded P S bytes (EndsOpen left) K = HasRead P S bytes left.number (lines left.text.now) (behind P K 0)
HasEnded P S bytes (EndsClosed left) K = HasRead P S bytes left.number (lines left.text.now) (behind P (with_close K) 0)
HasEnded P S bytes (EndsFaulty line) K = IsFaultLine P S bytes line
