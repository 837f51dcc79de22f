-- The turns of a task whose ordinal was found, or of a name that no task has.
-- Since an ordinal keeps its name, and a task that was not made makes no step.
use Rattle.std.proofs.Common.{◌≡◌, ℕ, false, List, ◌∷◌, Option, Some, None, refl, ◌∙◌, arith}
use Rattle.hist_model.specs.Look.{Name, ev}
use Rattle.hist_model.specs.Sessions.{Rules}
use Rattle.hist_model.specs.Steps.{step, task_step}
use Rattle.hist_model.specs.Systems.{System}
use Rattle.hist_model.specs.Tasks.{is_made}
use Rattle.hist_model.specs.declared.event.Actor.{Actor}
use Rattle.hist_model.specs.declared.event.Actor.TheVariants.{Task}
use Rattle.hist_model.specs.declared.event.Event.{Event}
use Rattle.hist_model.specs.declared.event.What.TheVariants.{Skip}
use Rattle.tasks.proofs.Named.{made-least, made-same-name, name-kept}
use Rattle.broker_machine.specs.Serving.{IsFound}

-- a task that was not made can't step
pub unmade_skips : (S : System) (K : List Event) (n : Name) → is_made K n ≡ false → task_step S K n ≡ Skip
unfolding task_step
unmade_skips S K n h = rw h refl

-- what was found of an actor stays so after its step
pub found_still : (S : System) (R : Rules) (K : List Event) (a : Actor) (o : Option ℕ) → IsFound K a o → IsFound (ev a (step S R K a) ∷ K) a o
unfolding step
found_still S R K (Task n) (Some o) f =
    let e = ev (Task n) (task_step S K n) in
    let more = made-least e K in
    (omega (arith, f.0), name-kept e K o f.0 ∙ f.1)
found_still S R K (Task n) None f = rw (unmade_skips S K n f) (made-same-name (ev (Task n) Skip) K n refl ∙ f)
found_still S R K a o f = tt
