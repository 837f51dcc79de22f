-- What is kept for each signal.
use Rattle.std.specs.Prelude.{ℕ, Bool, ◌==◌, ◌&&◌, ◌||◌, not, if◌then◌else◌, List, Option, Some, None}
use Rattle.hist_model.specs.Look.{Name}
use Rattle.hist_model.specs.Tasks.{pending, disposition}
use Rattle.hist_model.specs.Signals.{is_default}
use Rattle.sys_abi.specs.Signals.{sigkill, sigusr1, sigusr2, sigterm}
use Rattle.hist_model.specs.declared.event.Event.{Event}
use Rattle.hist_model.specs.declared.event.Disposition.{Disposition}
use Rattle.tasks.specs.declared.signals.BySignal.{BySignal}

abbrev pub all_signals : {T : Type 0} → T → BySignal T
all_signals v = record { kill = v; usr1 = v; usr2 = v; term = v }

abbrev pub with_signal : {T : Type 0} → BySignal T → ℕ → T → BySignal T
with_signal b s v = record {
  kill = if s == sigkill then v else b.kill;
  usr1 = if s == sigusr1 then v else b.usr1;
  usr2 = if s == sigusr2 then v else b.usr2;
  term = if s == sigterm then v else b.term;
}

-- the signals that are pending for a task, and what it does at each
abbrev pub pending_of : List Event → Name → BySignal Bool
pending_of K n = record { kill = pending K n sigkill; usr1 = pending K n sigusr1; usr2 = pending K n sigusr2; term = pending K n sigterm }

abbrev pub dispositions_of : List Event → Name → BySignal Disposition
dispositions_of K n = record {
  kill = disposition K n sigkill;
  usr1 = disposition K n sigusr1;
  usr2 = disposition K n sigusr2;
  term = disposition K n sigterm;
}

abbrev pub may_come : Disposition → Bool → Bool
may_come m held = not held || is_default m

-- the signal that comes next of those that are pending, with its disposition
abbrev pub next_of : BySignal Bool → BySignal Disposition → Bool → Option (ℕ × Disposition)
next_of p m held =
    if p.kill then Some (sigkill, m.kill) else (
    if p.usr1 && may_come m.usr1 held then Some (sigusr1, m.usr1) else (
    if p.usr2 && may_come m.usr2 held then Some (sigusr2, m.usr2) else (
    if p.term && may_come m.term held then Some (sigterm, m.term) else None)))

-- a signal with what the task of this name does at it
abbrev pub with_disposition : List Event → Name → Option ℕ → Option (ℕ × Disposition)
with_disposition K n (Some s) = Some (s, disposition K n s)
with_disposition K n None = None
