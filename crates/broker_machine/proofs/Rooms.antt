-- A kernel that was given room is the same, and so is what it does.
-- By rewriting with its script and its history, which are as they were.
use Rattle.std.proofs.Common.{◌≡◌, ℕ, ◌∷◌, ap, ◌∙◌}
use Rattle.hist_model.specs.Deeds.{Deed}
use Rattle.hist_model.specs.declared.event.Event.{Event}
use Rattle.model_kernel.specs.Kernels.{DoesDeed, IsAfter, IsKernel, past}
use Rattle.model_kernel.specs.Ready.{IsSame}
use Rattle.model_kernel.specs.declared.kernel.Kernel.{Kernel}

-- room for events alone
pub readied : (old new : Kernel) → IsKernel old → past new ≡ past old → new ≡ record old { history = new.history } → IsSame old new
readied old new k events same =
    let script : new.script ≡ old.script = ap (λ (x : Kernel). x.script) same in
    let tasks : new.tasks ≡ old.tasks = ap (λ (x : Kernel). x.tasks) same in
    let resources : new.resources ≡ old.resources = ap (λ (x : Kernel). x.resources) same in
    record {
      kernel = record { tasks = rw (script, tasks, events) k.tasks; resources = rw (script, tasks, resources, events) k.resources; few = rw events k.few };
      script = script;
      past_is = events;
    }

-- a kernel that stayed the same twice
pub same-still : (old mid new : Kernel) → IsSame old mid → IsSame mid new → IsSame old new
same-still old mid new a b = record { kernel = b.kernel; script = b.script ∙ a.script; past_is = b.past_is ∙ a.past_is }

-- an event that follows on room follows on what was before
pub after-same : (old mid new : Kernel) (e : Event) → IsSame old mid → IsAfter mid e new → IsAfter old e new
after-same old mid new e s after = record { kernel = after.kernel; script = after.script ∙ s.script; events = after.events ∙ ap (λ K. e ∷ K) s.past_is }

-- a deed is done as before it was made ready
pub does-same : (old mid new : Kernel) (w : ℕ) (d : Deed) → IsSame old mid → DoesDeed mid w d new → DoesDeed old w d new
does-same old mid new w d s does = rw (s.script, s.past_is) at (after-same old mid new _ s does)
