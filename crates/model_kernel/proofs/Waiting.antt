-- What a task does that waits in a listed call.
-- By the order of its steps, and the oldest request of its call; by cases on each of these for whether it is able to step.
use Rattle.std.proofs.Common.{◌≡◌, ℕ, true, false, ◌||◌, not, List, Option, Some, None, Result, refl, sym, ap, ◌∙◌}
use Rattle.std.specs.Prelude.{is_some}
use Rattle.hist_model.specs.Calls.{queue, settled}
use Rattle.hist_model.specs.Files.{asked_in, files, first_request, request_for, slot_in}
use Rattle.hist_model.specs.Kinds.{skips}
use Rattle.hist_model.specs.Look.{event_at}
use Rattle.hist_model.specs.Memory.{group_named}
use Rattle.hist_model.specs.Steps.{deliver_or, install_step, living_step, place_or, slot_answer}
use Rattle.hist_model.specs.declared.event.Back.{Back}
use Rattle.hist_model.specs.declared.event.Event.{Event}
use Rattle.listener.proofs.Stand.{IsOldest, oldest-first, oldest-none}
use Rattle.tasks.proofs.Told.{steps-living}
use Rattle.listener.specs.Stands.{IsInstall, IsSettledBy, oldest_in}
use Rattle.listener.proofs.Folds.{call-is}
use Rattle.sys_abi.specs.declared.wire.Addfd.{Addfd}
use Rattle.task_groups.specs.Stands.{IsInstall as IsGroupInstall}
use Rattle.tasks.proofs.Named.{name-made}
use Rattle.model_kernel.proofs.Words.{due_step, Install, Kernel, MayStep, named, past, Resume, signal_due, Skip, step_by, system, Task, WaitsIn}
use Rattle.model_kernel.specs.Steps.{IsDeliveredFirst, IsInstallDue, delivered}

-- the installation that is due, with its answer
pub install-due : (k : Kernel) (o c x g : ℕ) (asked : Addfd) → IsInstallDue k o c x asked → group_named (past k) (named k o) ≡ Some g
    → due_step k o ≡ Install (slot_answer (slot_in k.script.rlimit (files k.script (past k)) g asked))
install-due k o c x g asked i own =
    let K = past k in
    let S = k.script in
    let there = call-is K (named k o) c i.waits.call_is in
    let f : IsOldest K c asked = oldest-first K c asked i.oldest in
    let asked_is : asked_in (event_at K f.first) ≡ asked = sym (ap (first_request K) f.queue_is) ∙ f.asked_is in
    let slot = ap (λ n. slot_in S.rlimit (files S K) (place_or (group_named K n)) (asked_in (event_at K f.first))) there.1
    ∙ (ap (λ h. slot_in S.rlimit (files S K) (place_or h) (asked_in (event_at K f.first))) own ∙ ap (slot_in S.rlimit (files S K) g) asked_is) in
    i.due ∙ (ap (install_step (system k) K c) f.queue_is ∙ ap (λ s. Install (slot_answer s)) slot)

-- the event of that installation, for the listener and for the group
pub installs : (k : Kernel) (o c x : ℕ) (asked : Addfd) (answer : Result ℕ ℕ) → IsInstallDue k o c x asked → IsInstall (past k) (step_by k o (Install answer)) c asked answer
installs k o c x asked answer i =
    let there = call-is (past k) (named k o) c i.waits.call_is in
    record { who = ap Task (sym there.1); what_is = refl; unsettled = i.unsettled; oldest_is = i.oldest }

pub group-installs : (k : Kernel) (o c x g : ℕ) (asked : Addfd) (answer : Result ℕ ℕ) → IsInstallDue k o c x asked → group_named (past k) (named k o) ≡ Some g → IsGroupInstall (past k) (step_by k o (Install answer)) g asked answer
group-installs k o c x g asked answer i own =
    let f : IsOldest (past k) c asked = oldest-first (past k) c asked i.oldest in
    record { what = refl; own = ap place_or own; source = ap (λ (a : Addfd). a.srcfd) (ap (request_for (past k)) i.waits.call_is ∙ f.asked_is) }

-- the step of a task that waits in a call
pub due-waiting : (k : Kernel) (o c x : ℕ) → MayStep k o → WaitsIn k o c x → due_step k o ≡ living_step (system k) (past k) (named k o) (Some c)
due-waiting k o c x m w = steps-living (system k) (past k) (named k o) (name-made (past k) o m.made) m.lives ∙ ap (living_step (system k) (past k) (named k o)) w.call_is

-- a settled call returns
pub due-resume : (k : Kernel) (o c x : ℕ) (back : Back) → MayStep k o → WaitsIn k o c x → IsSettledBy (past k) c (Some back) → due_step k o ≡ Resume back
due-resume k o c x back m w (h, q) = due-waiting k o c x m w ∙ rw h (ap Resume q)

-- in another one a due signal is delivered first, and then its oldest request is installed
waiting-order : (k : Kernel) (o c x : ℕ) → MayStep k o → WaitsIn k o c x → settled (past k) c ≡ false → due_step k o ≡ deliver_or (signal_due k o) (delivered k o true) (install_step (system k) (past k) c (queue (past k) c))
waiting-order k o c x m w h = due-waiting k o c x m w ∙ rw h refl

pub due-later : (k : Kernel) (o c x : ℕ) → MayStep k o → WaitsIn k o c x → settled (past k) c ≡ false → IsDeliveredFirst k o true
due-later k o c x m w h = (install_step (system k) (past k) c (queue (past k) c), waiting-order k o c x m w h)

pub due-install : (k : Kernel) (o c x : ℕ) → MayStep k o → WaitsIn k o c x → settled (past k) c ≡ false → signal_due k o ≡ None → due_step k o ≡ install_step (system k) (past k) c (queue (past k) c)
due-install k o c x m w h none = waiting-order k o c x m w h ∙ ap (λ d. deliver_or d (delivered k o true) (install_step (system k) (past k) c (queue (past k) c))) none

-- without a request there is no step
pub due-none : (k : Kernel) (o c x : ℕ) → MayStep k o → WaitsIn k o c x → settled (past k) c ≡ false → signal_due k o ≡ None → oldest_in (past k) (queue (past k) c) ≡ None → due_step k o ≡ Skip
due-none k o c x m w h none q = due-install k o c x m w h none ∙ ap (install_step (system k) (past k) c) (oldest-none (past k) c q)

-- ---- who is able to step

-- the task whose call is settled
pub settled-able : (k : Kernel) (o c x : ℕ) (r : Option Back) → MayStep k o → WaitsIn k o c x → IsSettledBy (past k) c r → is_some r ≡ true → true ≡ not (skips (due_step k o))
settled-able k o c x (Some back) m w settled q = ap (λ w. not (skips w)) (sym (due-resume k o c x back m w settled))
settled-able k o c x None m w settled q = cc

pub unsettled : (K : List Event) (c : ℕ) (r : Option Back) → IsSettledBy K c r → is_some r ≡ false → settled K c ≡ false
unsettled K c (Some back) s q = cc
unsettled K c None s q = s

-- the one that a signal or a request is there for
pub waiting-able : (k : Kernel) (o c x : ℕ) → MayStep k o → WaitsIn k o c x → settled (past k) c ≡ false
    → not (skips (due_step k o)) ≡ (is_some (signal_due k o) || is_some (oldest_in (past k) (queue (past k) c)))
waiting-able k o c x m w h = ap (λ w. not (skips w)) (waiting-order k o c x m w h) ∙ by (signal_due k o)
  where
    installs : (a : Option Addfd) → oldest_in (past k) (queue (past k) c) ≡ a → not (skips (install_step (system k) (past k) c (queue (past k) c))) ≡ is_some a
    installs (Some a) q = ap (λ r. not (skips (install_step (system k) (past k) c r))) (oldest-first (past k) c a q).queue_is
    installs None q = ap (λ r. not (skips (install_step (system k) (past k) c r))) (oldest-none (past k) c q)

    by : (d : Option ℕ) → not (skips (deliver_or d (delivered k o true) (install_step (system k) (past k) c (queue (past k) c)))) ≡ (is_some d || is_some (oldest_in (past k) (queue (past k) c)))
    by (Some sig) = refl
    by None = installs (oldest_in (past k) (queue (past k) c)) refl
