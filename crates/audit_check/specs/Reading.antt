-- One pass over the lines of a report: the actor that a line names steps, and the line that this makes is compared.
use Rattle.std.specs.Prelude.{◌≡◌, ℕ, zero, suc, ◌+◌, ◌-◌, ◌<◌, ◌≤◌, ◌^◌, Bool, true, false, ◌&&◌, ◌||◌, not, if◌then◌else◌, ◌==◌, List, []}
use Rattle.std.specs.Prelude.{◌∷◌, length, take, drop, Option, Some, None, bytes_eq, codes}
use Rattle.hist_model.specs.Kinds.{closes}
use Rattle.hist_model.specs.Legal.{started, with_step}
use Rattle.hist_model.specs.ReportAudit.{judging_by}
use Rattle.hist_model.specs.ReportJournal.{event_line, title}
use Rattle.hist_model.specs.Steps.{is_start}
use Rattle.hist_model.specs.Words.{number_between}
use Rattle.hist_model.specs.declared.event.Actor.{Actor}
use Rattle.hist_model.specs.declared.event.Event.{Event}
use Rattle.hist_model.specs.declared.policy.Policy.{Policy}
use Rattle.hist_model.specs.declared.script.Script.{Script}
use Rattle.audit_log.specs.Rest.{rest}
use Rattle.audit_check.specs.Actors.{actor_in}
use Rattle.audit_check.specs.Lines.{lines}
use Rattle.audit_check.specs.Reported.{BeginsReport, IsFaultLine, IsReported}

-- How far the pass has come.
pub data Reached : Type 0 where
  -- the title of the journal comes next
  Title : Reached
  -- the journal has these events so far; the line of one more comes next, and then those of so many others
  Journal : List Event → ℕ → Reached
  -- the journal is that of this history; these lines of its report come next
  Rest : List Event → List (List ℕ) → Reached
  -- no legal history's report has the line
  Fault : Reached

abbrev pub is_fault : Reached → Bool
is_fault Fault = true
is_fault _ = false

-- what a report has behind its journal
abbrev pub rest_of : Policy → List Event → List ℕ
rest_of P H = rest (judging_by P.rules) H

-- behind these events, when so many more are to come
abbrev pub behind : Policy → List Event → ℕ → Reached
behind P K zero = Rest K (lines (rest_of P K))
behind P K (suc more) = Journal K more

-- the word behind `journal `, without the byte that ends the line
abbrev pub title_word : List ℕ → List ℕ
title_word line = drop 8 (take (length line - 1) line)

-- behind the title, which has this number
abbrev pub behind_title : Policy → List ℕ → Option ℕ → Reached
behind_title P line None = Fault
behind_title P line (Some n) = if bytes_eq (title (codes "journal") n) line then behind P [] n else Fault

-- the newest event is the close of the listener
abbrev pub is_closed : List Event → Bool
is_closed [] = false
is_closed (e ∷ K) = closes e.what

-- the history with the step of an actor, if the actor can step: the start comes first and nothing else does, and nothing follows the close
abbrev pub stepped : Policy → Script → List Event → Option Actor → Option (List Event)
stepped P S K None = None
stepped P S [] (Some a) = if is_start a then Some (started S) else None
stepped P S (e ∷ K) (Some a) = if is_start a || closes e.what then None else Some (with_step P S a (e ∷ K))

-- behind the line of the newest event, when so many more are to come; no event comes after the close
abbrev pub behind_event : Policy → List ℕ → ℕ → Option (List Event) → Reached
behind_event P line more (Some (e ∷ K)) =
    if bytes_eq (event_line (length K) e) line && (not (closes e.what) || more == 0) then behind P (e ∷ K) more else Fault
behind_event P line more _ = Fault

-- one more line
abbrev pub with_line : Policy → Script → Reached → List ℕ → Reached
with_line P S Title line = behind_title P line (number_between 1 (2 ^ 64 - 1) (title_word line))
with_line P S (Journal K more) line = behind_event P line more (stepped P S K (actor_in line))
with_line P S (Rest H []) line = Fault
with_line P S (Rest H (next ∷ rest)) line = if bytes_eq next line then Rest H rest else Fault
with_line P S Fault line = Fault

-- some more lines, one after another
unfoldable pub with_lines : Policy → Script → Reached → List (List ℕ) → Reached
with_lines P S at [] = at
with_lines P S at (line ∷ more) = with_lines P S (with_line P S at line) more

-- how far the pass over these lines comes
abbrev pub reached : Policy → Script → List (List ℕ) → Reached
reached P S front = with_lines P S Title front

-- as far as the bytes have lines, the pass finds no fault exactly where they begin a legal history's report
abbrev pub FindsFaults : Policy → Script → Type 0
FindsFaults P S = (bytes : List ℕ) (n : ℕ) → n ≤ length (lines bytes)
    → (is_fault (reached P S (take n (lines bytes))) ≡ false → BeginsReport P S bytes n)
    × (BeginsReport P S bytes n → is_fault (reached P S (take n (lines bytes))) ≡ false)

-- and it comes to a report's end exactly where they are one
abbrev pub FindsReports : Policy → Script → Type 0
FindsReports P S = (bytes : List ℕ) (H : List Event)
    → (reached P S (lines bytes) ≡ Rest H [] → IsReported P S bytes H) × (IsReported P S bytes H → reached P S (lines bytes) ≡ Rest H [])

-- the line at which it first finds a fault is the fault line
abbrev pub EndsAtFault : Policy → Script → List ℕ → Type 0
EndsAtFault P S bytes = (n : ℕ) → n < length (lines bytes) → is_fault (reached P S (take n (lines bytes))) ≡ false
    → is_fault (reached P S (take (n + 1) (lines bytes))) ≡ true
    → IsFaultLine P S bytes (n + 1)

-- where it finds none, and comes to no report's end, the fault line is the one behind the last
abbrev pub EndsBehind : Policy → Script → List ℕ → Type 0
EndsBehind P S bytes = is_fault (reached P S (lines bytes)) ≡ false
    → ((H : List Event) → reached P S (lines bytes) ≡ Rest H [] → ⊥) → IsFaultLine P S bytes (length (lines bytes) + 1)
