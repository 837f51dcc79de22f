-- What the newest event has opened.
use Rattle.std.specs.Prelude.{◌≡◌, ℕ, List, ◌∷◌, Option, Ok, pos}
use Rattle.hist_model.specs.Files.{files}
use Rattle.hist_model.specs.Look.{task_name}
use Rattle.hist_model.specs.Memory.{own_group}
use Rattle.hist_model.specs.Natives.{Opens, base_of, native_step}
use Rattle.hist_model.specs.Trees.{ordinal_of}
use Rattle.hist_model.specs.declared.event.Event.{Event}
use Rattle.hist_model.specs.declared.event.What.TheVariants.{Native}
use Rattle.hist_model.specs.declared.request.NodeRef.{NodeRef}
use Rattle.hist_model.specs.declared.script.Script.{Script}

-- behind a native call that has opened a number, it is the directory to which the number leads there
abbrev pub HasOpened : Script → List Event → Event → Option NodeRef → Type 0
HasOpened S K e opened =
    (n x : ℕ) → e.what ≡ Native (Ok n) → native_step S K (files S K) (task_name e.who) ≡ Opens n x
    → base_of S (files S (e ∷ K)) (own_group K e.who) (pos n) ≡ ordinal_of opened
