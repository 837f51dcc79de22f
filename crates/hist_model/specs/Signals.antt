-- Which signal is delivered next, and what its delivery does (signal(7); seccomp(2) on WAIT_KILLABLE_RECV).
use Rattle.std.specs.Prelude.{ℕ, Bool, true, false, ◌&&◌, ◌||◌, not, if◌then◌else◌, ◌==◌, List, length, Option, Some, None}
use Rattle.sys_abi.specs.Signals.{sigkill, sigusr1, sigusr2, sigterm}
use Rattle.hist_model.specs.Look.{Name, name_eq, newest}
use Rattle.hist_model.specs.Tasks.{pending, disposition}
use Rattle.hist_model.specs.Calls.{listed, caller, fetched}
use Rattle.hist_model.specs.declared.event.Event.{Event}
use Rattle.hist_model.specs.declared.event.Delivered.{Delivered}
use Rattle.hist_model.specs.declared.event.Delivered.TheVariants.{End, Run, Restart, Eintr}
use Rattle.hist_model.specs.declared.event.Disposition.{Disposition}
use Rattle.hist_model.specs.declared.event.Disposition.TheVariants.{Default, Restart as RestartDisposition, Plain}

-- the call in which a task waits
unfoldable pub call_of : List Event → Name → Option ℕ
call_of K n = newest (λ c. listed K c && name_eq (caller K c) n) (length K)

abbrev pub is_fetched_call : List Event → Option ℕ → Bool
is_fetched_call K (Some c) = fetched K c
is_fetched_call K None = false

-- only fatal signals end the task's wait: the listener is killable, and the call in which it waits is fetched
abbrev pub held : Bool → List Event → Name → Bool
held killable K n = killable && is_fetched_call K (call_of K n)

abbrev pub is_default : Disposition → Bool
is_default Default = true
is_default _ = false

-- the signal ends the task: SIGKILL, or one without a handler
abbrev pub is_fatal : List Event → Name → ℕ → Bool
is_fatal K n sig = (sig == sigkill) || is_default (disposition K n sig)

-- the signal is pending, and may be delivered now
abbrev pub due : Bool → List Event → Name → ℕ → Bool
due killable K n sig = pending K n sig && (not (held killable K n) || is_fatal K n sig)

-- the signal that is delivered next: SIGKILL if it is due, else the smallest one
unfoldable pub next_signal : Bool → List Event → Name → Option ℕ
next_signal killable K n =
    if due killable K n sigkill then Some sigkill else (
    if due killable K n sigusr1 then Some sigusr1 else (
    if due killable K n sigusr2 then Some sigusr2 else (
    if due killable K n sigterm then Some sigterm else None)))

-- what a signal does to a task that waits in a listed call
abbrev pub effect_in_call : ℕ → Disposition → Delivered
effect_in_call sig Default = End
effect_in_call sig RestartDisposition = if sig == sigkill then End else Restart
effect_in_call sig Plain = if sig == sigkill then End else Eintr

-- and elsewhere
abbrev pub effect_outside : ℕ → Disposition → Delivered
effect_outside sig Default = End
effect_outside sig RestartDisposition = if sig == sigkill then End else Run
effect_outside sig Plain = if sig == sigkill then End else Run

-- what it does to a task, by the listed call in which the task waits, if it waits in one
abbrev pub effect_on : Option ℕ → ℕ → Disposition → Delivered
effect_on (Some call) sig disposition = effect_in_call sig disposition
effect_on None sig disposition = effect_outside sig disposition
