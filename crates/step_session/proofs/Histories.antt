-- The history after lines is one of the kernel.
-- By induction on the lines, since a request that was read is one that may be asked.
use Rattle.std.proofs.Common.{◌≡◌, ℕ, ◌<◌, ◌^◌, Bool, true, false, List, [], ◌∷◌, length, refl}
use Rattle.std.specs.Prelude.{Result, Ok, Err, nat_lt, if◌then◌else◌}
use Rattle.hist_model.specs.Legal.{OfKernel, started}
use Rattle.hist_model.specs.declared.event.Event.{Event}
use Rattle.step_session.specs.declared.origin.Origin.{Origin}
use Rattle.hist_model.specs.declared.script.Script.{Script}
use Rattle.asked_steps.specs.Steps.{IsBegun}
use Rattle.asked_steps.proofs.Kept.{started_begun}
use Rattle.step_session.specs.Answers.{IsAsked, answered}
use Rattle.step_requests.specs.Readings.{reads}
use Rattle.step_requests.specs.declared.fault.LineFault.{LineFault}
use Rattle.step_requests.specs.declared.request.StepRequest.{StepRequest}
use Rattle.step_session.specs.Lines.{history_after, line_answer, long_text, longest, read_answer}
use Rattle.step_session.proofs.Requests.{may_be_asked}

read-kept : (P : Origin) (S : Script) (K : List Event) (reading : Result StepRequest LineFault)
    → ((r : StepRequest) → IsAsked r → IsBegun S K → IsBegun S (answered P S K r).0)
    → ((r : StepRequest) → reading ≡ Ok r → IsAsked r) → IsBegun S K → IsBegun S (read_answer P S K reading).0
read-kept P S K (Ok r) kept asked begun = kept r (asked r refl) begun
read-kept P S K (Err why) kept asked begun = begun

line-kept : (P : Origin) (S : Script) (K : List Event) (line : List ℕ)
    → ((r : StepRequest) → IsAsked r → IsBegun S K → IsBegun S (answered P S K r).0) → IsBegun S K → IsBegun S (line_answer P S K line).0
unfolding line_answer
line-kept P S K line kept begun = by (nat_lt longest (length line))
  where
    by : (long : Bool) → IsBegun S (if long then (K, long_text) else read_answer P S K (reads line)).0
    by true = begun
    by false = read-kept P S K (reads line) kept (may_be_asked line) begun

lines-kept : (P : Origin) (S : Script) (K : List Event) (lines : List (List ℕ))
    → ((L : List Event) (r : StepRequest) → IsAsked r → IsBegun S L → IsBegun S (answered P S L r).0) → IsBegun S K → IsBegun S (history_after P S K lines)
unfolding history_after
lines-kept P S K [] kept begun = begun
lines-kept P S K (line ∷ lines) kept begun = lines-kept P S (line_answer P S K line).0 lines kept (line-kept P S K line (kept K) begun)

pub histories_kept : ((P : Origin) (S : Script) (K : List Event) (r : StepRequest) → IsAsked r → IsBegun S K → IsBegun S (answered P S K r).0)
    → (P : Origin) (S : Script) (lines : List (List ℕ)) → IsBegun S (history_after P S (started S) lines)
histories_kept kept P S lines = lines-kept P S (started S) lines (kept P S) (started_begun S)

pub short_history : (S : Script) (K : List Event) → IsBegun S K → length K < 2 ^ 64 → OfKernel S K
short_history S K begun short = (begun.1, short, begun.0)
