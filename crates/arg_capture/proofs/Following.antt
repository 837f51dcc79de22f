-- Captures that have had some answers of a plan.
-- By the equation that `Follows` gives for every list of later answers, and by the laws of appended lists.
use Rattle.std.proofs.Common.{◌≡◌, ℕ, List, [], Option, ap, ◌∙◌, append-nil}
use Rattle.std.specs.Prelude.{Result}
use Rattle.hist_model.specs.Copies.{progress}
use Rattle.hist_model.specs.declared.copy.Part.{Part}
use Rattle.hist_model.specs.declared.request.ArgCopy.{ArgCopy}
use Rattle.arg_capture.specs.Captures.{Captured, continued, wanted, Finishes, Follows}

so-far : (parts : List Part) (answers : List (Result (List ℕ) ℕ)) (c : Captured) → Follows parts answers c → continued c [] ≡ progress parts answers
so-far parts answers c f = f [] ∙ ap (progress parts) (append-nil answers)

pub follows_wants : (parts : List Part) (answers : List (Result (List ℕ) ℕ)) (c : Captured) (r : Option (ℕ × ℕ))
    → r ≡ wanted (continued c []) → Follows parts answers c → r ≡ wanted (progress parts answers)
follows_wants parts answers c r e f = e ∙ ap wanted (so-far parts answers c f)

pub follows_finishes : (parts : List Part) (answers : List (Result (List ℕ) ℕ)) (c : Captured) (r : Result ArgCopy ℕ)
    → Finishes (continued c []) r → Follows parts answers c → Finishes (progress parts answers) r
follows_finishes parts answers c r h f = let q = so-far parts answers c f in rw q at h
