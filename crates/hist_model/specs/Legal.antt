-- Legal histories of a policy and a script, the history that a schedule plays, and finished histories.
use Rattle.std.specs.Prelude.{◌≡◌, ℕ, zero, suc, ◌<◌, ◌≤◌, ◌^◌, ◌*◌, ◌/◌, ◌%◌, Bool, true, false, not, ◌==◌, List, [], ◌∷◌, length, reverse}
use Rattle.std.specs.Prelude.{Option, Some, None, Result, Ok, Err}
use Rattle.std.specs.List.{list_any}
use Rattle.hist_model.specs.Look.{Name, ev}
use Rattle.hist_model.specs.Tasks.{ended, is_made}
use Rattle.hist_model.specs.Calls.{listed}
use Rattle.hist_model.specs.Kinds.{skips, is_letgo}
use Rattle.hist_model.specs.Sessions.{Rules, Decision, Denies, Passes, Acts, Plants, Injects, session, any_of}
use Rattle.hist_model.specs.Systems.{System}
use Rattle.hist_model.specs.Steps.{IsLegal, IsOfKernel, start, step}
use Rattle.hist_model.specs.Programs.{program}
use Rattle.hist_model.specs.Memory.{bytes_read, all_mapped, sysinfo_size}
use Rattle.hist_model.specs.Natives.{Files, root, base_of, native_step, native_answer}
use Rattle.hist_model.specs.Files.{files, slot_for}
use Rattle.hist_model.specs.Effects.{effect, perform}
use Rattle.hist_model.specs.Trees.{Tree}
use Rattle.hist_model.specs.Filters.{verdict}
use Rattle.hist_model.specs.Copies.{Progress, Complete, Faulty, plan, progress, wanted}
use Rattle.hist_model.specs.Requests.{request, base_dirfd}
use Rattle.hist_model.specs.Decisions.{decide, cap_of, granted_by}
use Rattle.hist_model.specs.Sysinfo.{container_sysinfo}
use Rattle.hist_model.specs.declared.event.Event.{Event}
use Rattle.hist_model.specs.declared.event.Actor.{Actor}
use Rattle.hist_model.specs.declared.event.Actor.TheVariants.{Worker, Listener}
use Rattle.hist_model.specs.declared.event.What.{What}
use Rattle.hist_model.specs.declared.event.What.TheVariants.{Read}
use Rattle.hist_model.specs.declared.policy.Policy.{Policy}
use Rattle.hist_model.specs.declared.policy.Verdict.{Verdict}
use Rattle.hist_model.specs.declared.policy.Verdict.TheVariants.{Grant, Deny, Pass, Inject}
use Rattle.hist_model.specs.declared.request.Request.{Request}
use Rattle.hist_model.specs.declared.request.Request.TheVariants.{OpenAt, Sysinfo}
use Rattle.hist_model.specs.declared.script.Figures.{Figures}
use Rattle.hist_model.specs.declared.script.Script.{Script}
use Rattle.hist_model.specs.declared.script.Step.{Step}
use Rattle.sys_abi.specs.declared.wire.Notif.{Notif}

-- the tree after a history
abbrev pub tree : Script → List Event → Tree
tree S K = (files S K).tree

abbrev pub done : Result Tree ℕ → Result (Unit {0}) ℕ
done (Ok T) = Ok tt
done (Err e) = Err e

-- the outcome of a worker's request over the tree, from the base that the worker has opened
abbrev pub outcome : Script → Files → ℕ → Request → Result (Unit {0}) ℕ
outcome S F w q = done (perform F.tree (root S) (F.base w) (effect q))

abbrev pub is_there : Option ℕ → Bool
is_there (Some n) = true
is_there None = false

-- what a step needs of a script
abbrev pub system_of : Script → System
system_of S = record {
  pidbase = S.pidbase;
  pidmax = S.pidmax;
  firstid = S.firstid;
  killable = S.killable;
  program = program S;
  verdict = λ nr args. verdict S.filters nr args;
  native = λ K n. native_answer (native_step S K (files S K) n);
  slot = λ K c r. slot_for S K c r;
  source = λ n. list_any (λ m. m == n) S.broker;
  directory = λ K g d. is_there (base_of S (files S K) g d);
  bytes = λ K g a n. bytes_read S K g a n;
  writable = λ a. all_mapped S.map a sysinfo_size;
  outcome = λ K w q. outcome S (files S K) w q;
}

-- the answers of a session's reads
abbrev pub read_answers : List What → List (Result (List ℕ) ℕ)
read_answers [] = []
read_answers (Read a n answer ∷ own) = answer ∷ read_answers own
read_answers (a ∷ own) = read_answers own

-- how far the copy of a notification's arguments has come, by the session's reads, the newest first
abbrev pub copied : Notif → List What → Progress
copied n reads = progress (plan n.call.nr n.call.args) (reverse (read_answers reads))

abbrev pub copy_fault : Progress → Option ℕ
copy_fault (Faulty e) = Some e
copy_fault _ = None

-- O_CLOEXEC, which is 0o2000000, as the caller of openat set it
abbrev pub cloexec_of : Request → ℕ
cloexec_of (OpenAt d path flags) = flags / 524288 % 2 * 524288
cloexec_of _ = 0

-- a granted request is done in the tree; sysinfo's answer is written into the caller's memory
abbrev pub grant_decision : Policy → Figures → ℕ → Request → Decision
grant_decision P F i (Sysinfo addr) = Plants addr (container_sysinfo F) (cap_of P.rules i)
grant_decision P F i q = Acts (granted_by P.rules i q) (cap_of P.rules i)

-- what the rule at a place, with its verdict, makes of a request
abbrev pub decision : Policy → Figures → Request → ℕ → Verdict → Decision
decision P F q i Grant = grant_decision P F i q
decision P F q i (Deny e) = Denies e
decision P F q i Pass = Passes
decision P F q i (Inject src at) = Injects src at (cloexec_of q)

abbrev pub decided : Policy → Figures → Request → ℕ × Verdict → Decision
decided P F q d = decision P F q d.0 d.1

-- what the deciding rule makes of a copy; a copy that isn't complete is never judged
abbrev pub judged : Policy → Figures → Notif → Progress → Decision
judged P F n (Complete texts) = let q = request n.call.nr n.call.args texts in decided P F q (decide P.rules q)
judged P F n _ = Passes

-- what a worker needs of a policy and of the container's figures
abbrev pub rules_of : Policy → Figures → Rules
rules_of P F = record {
  dirfd = λ n. base_dirfd n.call.nr n.call.args;
  next_piece = λ n reads. wanted (copied n reads);
  fault = λ n reads. copy_fault (copied n reads);
  decide = λ n reads. judged P F n (copied n reads);
}

-- the history has its first event, which is the script's start; each later event is the step of its actor after those before it,
-- and nothing follows the close of the listener
abbrev pub Legal : Policy → Script → List Event → Type 0
Legal P S K = IsLegal (system_of S) (rules_of P S.figures) K × (length K < 2 ^ 64) × (0 < length K)

-- a history of the kernel that the script describes: its tasks step as they do in a legal one, and its workers are free to ask for anything
abbrev pub OfKernel : Script → List Event → Type 0
OfKernel S K = IsOfKernel (system_of S) K × (length K < 2 ^ 64) × (0 < length K)

-- a history with one more step of an actor
abbrev pub with_step : Policy → Script → Actor → List Event → List Event
with_step P S a K = ev a (step (system_of S) (rules_of P S.figures) K a) ∷ K

-- with as many steps of an actor
unfoldable pub with_steps : Policy → Script → Actor → ℕ → List Event → List Event
with_steps P S a zero K = K
with_steps P S a (suc n) K = with_steps P S a n (with_step P S a K)

-- with the steps of a schedule, in order
unfoldable pub with_schedule : Policy → Script → List Step → List Event → List Event
with_schedule P S [] K = K
with_schedule P S (s ∷ more) K = with_schedule P S more (with_steps P S s.who s.count K)

-- the history of a script's start alone
abbrev pub started : Script → List Event
started S = start (system_of S) ∷ []

-- the history that the script's schedule plays, at whose end the listener is closed
abbrev pub played : Policy → Script → List Event
played P S = with_step P S Listener (with_schedule P S S.schedule (started S))

-- the worker is inside a notification
abbrev pub is_open_session : List What → Bool
is_open_session [] = false
is_open_session (a ∷ own) = not (any_of is_letgo (a ∷ own))

-- the history has its first event, every task has ended, no call is listed, and each worker has let go
pub record Finished (K : List Event) : Type 0 where
  pub begun : 0 < length K
  pub tasks : (n : Name) → is_made K n ≡ true → ended K n ≡ true
  pub calls : (c : ℕ) → listed K c ≡ false
  pub sessions : (w : ℕ) → is_open_session (session K w) ≡ false

-- no event is a Skip
abbrev pub NoSkip : List Event → Type 0
NoSkip [] = Unit {0}
NoSkip (e ∷ K) = (skips e.what ≡ false) × NoSkip K

-- the actor is no worker whose number is above the limit
abbrev pub IsWithin : ℕ → Actor → Type 0
IsWithin limit (Worker w) = w ≤ limit
IsWithin limit _ = Unit {0}

-- no event is a step of a worker whose number is above the limit
abbrev pub NoWorkerAbove : ℕ → List Event → Type 0
NoWorkerAbove limit [] = Unit {0}
NoWorkerAbove limit (e ∷ K) = IsWithin limit e.who × NoWorkerAbove limit K
