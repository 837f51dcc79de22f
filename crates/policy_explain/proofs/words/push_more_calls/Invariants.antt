-- The calls so far stand behind the line as it was.
use Rattle.std.proofs.Common.{◌≡◌, ◌++◌, take}
use Rattle.std.specs.Prelude.{codes}
use Rattle.std.specs.List.{flat_map}
use Rattle.hist_model.specs.ReportWords.{call_text}
use Rattle.policy_explain.proofs.words.push_more_calls.Given as goal

abbrev pub invariant-loop-nr : goal.invariant-loop-nr
invariant-loop-nr l = l.line ≡ l.fn.line ++ flat_map (λ nr. codes " or " ++ call_text nr) (take l.nr-index l.numbers)
