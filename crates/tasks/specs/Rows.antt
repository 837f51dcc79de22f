-- How far a task is, and what its own step makes of that.
use Rattle.std.specs.Prelude.{◌≡◌, ℕ, ◌+◌, ◌-◌, ◌<◌, ◌^◌, false, ◌||◌, if◌then◌else◌, None}
use Rattle.hist_model.specs.Kinds.{ends, owes, skips}
use Rattle.hist_model.specs.Steps.{counts, recounts}
use Rattle.hist_model.specs.declared.event.Disposition.{Disposition}
use Rattle.hist_model.specs.declared.event.What.{What}
use Rattle.tasks.specs.Sets.{all_signals}
use Rattle.tasks.specs.State.{call_after, entered_after, pending_after, modes_after}
use Rattle.tasks.specs.declared.row.Progress.{Progress}
use Rattle.tasks.specs.declared.signals.BySignal.{BySignal}

-- how far a task is that has taken no step
abbrev pub new_progress : ℕ → ℕ → BySignal Disposition → Progress
new_progress group program dispositions = record {
  group = group;
  program = program;
  next = 0;
  call = None;
  entered = None;
  owes = false;
  ended = false;
  waited = false;
  pending = all_signals false;
  dispositions = dispositions;
}

-- it is that of a task after a step, whose place in its program fits
pub record IsAfter (old : Progress) (w : What) (new : Progress) : Type 0 where
  pub group : new.group ≡ old.group
  pub program : new.program ≡ old.program
  pub next : old.next + counts w < 2 ^ 64 → new.next ≡ old.next + counts w - recounts w
  pub call : new.call ≡ call_after w old.call
  pub entered : new.entered ≡ entered_after w old.entered
  pub owes : new.owes ≡ (if skips w then old.owes else owes w)
  pub ended : new.ended ≡ (ends w || old.ended)
  pub waited : new.waited ≡ old.waited
  pub pending : new.pending ≡ pending_after w old.pending
  pub dispositions : new.dispositions ≡ modes_after w old.dispositions
