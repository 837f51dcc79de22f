-- The group of a call's task, by its ordinal.
-- By what is kept of the call and of its task.
use Rattle.std.proofs.Common.{◌≡◌, ℕ, ◌<◌, List, length, get_or, inl, inr, ap, sym, ◌∙◌, arith}
use Rattle.std.proofs.lemmas.Option.{slice_get_cases}
use Rattle.hist_model.specs.Calls.{caller}
use Rattle.hist_model.specs.Memory.{group_named}
use Rattle.hist_model.specs.declared.event.Event.{Event}
use Rattle.hist_model.specs.declared.policy.Policy.{Policy}
use Rattle.hist_model.specs.declared.script.Script.{Script}
use Rattle.history_frames.specs.Ordinals.{group_of, groups_made}
use Rattle.judge_pass.specs.declared.calls.Call.{Call}
use Rattle.judge_pass.specs.declared.judge.Judge.{Judge}
use Rattle.judge_pass.specs.declared.task_table.Task.{Task}
use Rattle.judge_pass.specs.Stands.{IsCall, Stands}

-- an element of a list that is long enough
pub some_element : {X : Type 0} (xs : List X) (i : ℕ) → i < length xs → X
some_element xs i low = elim (slice_get_cases xs i).1 [ inl h ↦ h.0 | inr h ↦ absurd (omega arith) ]

-- the group of a call's task has this ordinal, and was made
pub record IsCallersGroup (K : List Event) (call : Call) (g : ℕ) : Type 0 where
  pub is : group_named K (caller K call.place) ≡ group_of K g
  pub made : g < groups_made K

pub callers_group : (P : Policy) (S : Script) (K : List Event) (j : Judge) (n : ℕ) (call : Call) (g : ℕ) → Stands P S K j → IsCall S K n call
    → ((d : Task) → g ≡ (get_or j.tasks.items call.caller d).group) → IsCallersGroup K call g
callers_group P S K j n call g h is known =
    let low : call.caller < length j.tasks.items = omega (arith, h.tasks_are, is.caller_made) in
    let d = some_element j.tasks.items call.caller low in
    let kept = h.tasks call.caller d is.caller_made in
    record {
      is = ap (group_named K) is.caller_is ∙ kept.group_is ∙ ap (group_of K) (sym (known d));
      made = rw (← known d) at kept.group_made;
    }
