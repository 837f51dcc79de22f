-- How a run with threads ends.
-- By cases on the status.
use Rattle.std.proofs.Common.{◌≡◌, ℕ, List, [], ◌∷◌, length, Option, Result, Ok, Err, inl, inr, refl, subst}
use Rattle.std.specs.List.{AllZip}
use Rattle.handover.specs.Handing.{Handed}
use Rattle.hist_model.specs.ReportAudit.{judging_by}
use Rattle.hist_model.specs.declared.event.Event.{Event}
use Rattle.hist_model.specs.declared.policy.Policy.{Policy}
use Rattle.hist_model.specs.declared.script.Script.{Script}
use Rattle.io_edge.specs.FileState.{FileState}
use Rattle.io_edge.specs.SinkState.{SinkState}
use Rattle.worker_gate.specs.Replacing.{handed_if, handed_in}
use Rattle.worker_gate.specs.declared.served.Played.{Played}
use Rattle.program_files.specs.Printed.{Printed, status_of}
use Rattle.play_words.specs.Handovers.{report_and}
use Rattle.program_files.specs.Inputs.{PolicyIs, ScriptIs}
use Rattle.program_files.specs.Refusals.{InputRefused}
use Rattle.run_words.specs.Runs.{AreRun, Ending, RunEnds, run_text}
use Rattle.program_files.specs.declared.status.Status.{Status}
use Rattle.program_files.specs.declared.status.Status.TheVariants.{Done, NoMemory, WriteFault}

-- ---- The history

-- the one container of a pod of one
pub of-alone : {X Y : Type 0} (R : X → Y → Type 0) (x : X) (y : Y) (xs : List X) (ys : List Y) → AllZip R xs ys → xs ≡ x ∷ [] → ys ≡ y ∷ [] → R x y
of-alone R x y xs ys z e f = (rw (e, f) at z).0

-- was served alone
pub as-many : {X Y : Type 0} (R : X → Y → Type 0) (x : X) (xs : List X) (ys : List Y) → AllZip R xs ys → xs ≡ x ∷ [] → length ys ≡ 1
as-many {Y = Y} R x xs ys z e = go ys (rw e at z)
  where
    go : (ys : List Y) → AllZip R (x ∷ []) ys → length ys ≡ 1
    go [] z = absurd z
    go (y ∷ []) z = refl
    go (y ∷ w ∷ ys) z = absurd z.1

-- ---- How it ended

-- nothing was served, since the policy or the script wasn't taken
pub run_stops : (files after : FileState) (sink : SinkState) (policy script : List ℕ) (Ended : Ending) (every : Option ℕ) (status : Status) → InputRefused files after policy script status
    → RunEnds files after sink sink policy script Ended every status
run_stops files after sink policy script Ended every NoMemory h = inl (λ t. refl)
run_stops files after sink policy script Ended every Done h = absurd h
run_stops files after sink policy script Ended every WriteFault h = absurd h
run_stops files after sink policy script Ended every status h = (h, λ t. refl)

-- or nothing was printed, for want of memory
pub run_unserved : (files after : FileState) (sink : SinkState) (policy script : List ℕ) (Ended : Ending) (every : Option ℕ) → RunEnds files after sink sink policy script Ended every NoMemory
run_unserved files after sink policy script Ended every = inl (λ t. refl)

-- the report of the history was printed, and its ledgers, or a part of it
pub run_ends : (files after : FileState) (old new : SinkState) (policy script : List ℕ) (Ended : Ending) (every : Option ℕ) (p : Played) (P : Policy) (S : Script) (r : Result (Unit {0}) Status) → p.policy ≡ P
    → handed_in p.handed ≡ handed_if every p.history.events → PolicyIs files policy (Ok P) → ScriptIs files script (Ok S) → Ended P S p.history.events
    → Printed (report_and (judging_by p.policy.rules) p.history.events (handed_in p.handed)) old new r → RunEnds files after old new policy script Ended every (status_of r)
run_ends files after old new policy script Ended every p P S r q kept policy_is script_is ended printed =
    by r (subst (λ (X : Policy). Printed (run_text every X H) old new r) q (subst (λ (all : Option (List Handed)). Printed (report_and (judging_by p.policy.rules) H all) old new r) kept printed))
  where
    H : List Event
    H = p.history.events

    are : AreRun files policy script Ended P S H
    are = record { policy_is = policy_is; script_is = script_is; ended = ended }

    by : (r : Result (Unit {0}) Status) → Printed (run_text every P H) old new r → RunEnds files after old new policy script Ended every (status_of r)
    by (Ok u) p = ((P, S, H, are, p.0), p.1)
    by (Err WriteFault) p = (p.0, (P, S, H, are, p.1))
    by (Err NoMemory) p = inr (P, S, H, are, p)
    by (Err status) p = absurd p
