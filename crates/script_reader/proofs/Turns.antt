-- What one more line adds to the turns of lines.
-- By `filter_map-append`, and by the turn of that line.
use Rattle.std.proofs.Common.{◌≡◌, List, [], ◌∷◌, ◌++◌, Some, None, ap, ◌∙◌, append_assoc, sym}
use Rattle.std.specs.List.{cons_option, filter_map}
use Rattle.std.proofs.lemmas.List.{append-nil}
use Rattle.std.proofs.lemmas.List.Elements.{filter_map-append}
use Rattle.hist_model.specs.declared.script.Step.{Step}
use Rattle.step_requests.specs.declared.request.Turn.{Turn}
use Rattle.script_reader.specs.Schedule.{turn_of}

-- the steps of a task or a worker
pub turn_added : (turns : List Turn) (lines : List Step) (step : Step) (one : Turn) → turn_of step ≡ Some one
    → turns ++ filter_map turn_of (lines ++ step ∷ []) ≡ (turns ++ filter_map turn_of lines) ++ one ∷ []
turn_added turns lines step one e =
    ap (λ more. turns ++ more) (filter_map-append turn_of lines (step ∷ []) ∙ ap (λ found. filter_map turn_of lines ++ cons_option found []) e)
    ∙ sym (append_assoc turns (filter_map turn_of lines) (one ∷ []))

-- the steps of nobody who is scheduled
pub none_added : (turns : List Turn) (lines : List Step) (step : Step) → turn_of step ≡ None
    → turns ++ filter_map turn_of (lines ++ step ∷ []) ≡ turns ++ filter_map turn_of lines
none_added turns lines step e =
    ap (λ more. turns ++ more)
    (filter_map-append turn_of lines (step ∷ []) ∙ (ap (λ found. filter_map turn_of lines ++ cons_option found []) e ∙ append-nil (filter_map turn_of lines)))
