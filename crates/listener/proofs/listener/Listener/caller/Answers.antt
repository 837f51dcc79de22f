-- The task in the call that an id names, if it names one.
-- By the queue's answer, which holds whatever the tasks are called that weren't made.
use Rattle.std.proofs.Common.{◌≡◌, Option, Some, None, ℕ}
use Rattle.std.specs.Prelude.{IfNone, IfSome, List, option_map}
use Rattle.hist_model.specs.Calls.{named}
use Rattle.hist_model.specs.Look.{Name}
use Rattle.hist_model.specs.declared.event.Event.{Event}
use Rattle.listener.specs.Listeners.{view}
use Rattle.listener.specs.Stands.{IsCaller, StandsFor}
use Rattle.listener.specs.State.{row_named, task_in}
use Rattle.listener.specs.declared.listener.Listener.{Listener}
use Rattle.listener.proofs.Stand.{caller-is, no-caller}
use Rattle.listener.proofs.listener.Listener.caller.Goals as goal

some-is : (L : Listener) (x : ℕ) (r : Option ℕ) → ((names : ℕ → Name) → option_map names r ≡ task_in (row_named x (view L names))) → IfSome r (λ o. (first : ℕ) (K : List Event) → StandsFor first K L → IsCaller K x o)
some-is L x (Some o) h = λ first K S. caller-is first K L S x o h
some-is L x None h = tt

none-is : (L : Listener) (x : ℕ) (r : Option ℕ) → ((names : ℕ → Name) → option_map names r ≡ task_in (row_named x (view L names))) → IfNone r ((first : ℕ) (K : List Event) → StandsFor first K L → named K x ≡ None)
none-is L x (Some o) h = tt
none-is L x None h = λ first K S. no-caller first K L S x h

pub returns-clause-some : goal.returns-clause-some
returns-clause-some c = some-is c.args.self.now c.args.id c.caller.result (λ names. c.caller.ensures names c.args.self.now.requests)

pub returns-clause-none : goal.returns-clause-none
returns-clause-none c = none-is c.args.self.now c.args.id c.caller.result (λ names. c.caller.ensures names c.args.self.now.requests)
