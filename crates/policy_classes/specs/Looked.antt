-- What is still to be looked at: a request of which some fields have values, with what is left of the rules of both policies.
use Rattle.std.specs.Prelude.{◌≡◌, ℕ, List, ◌++◌, length, map, Option, Some, None, ℤ}
use Rattle.std.specs.List.{sum_by}
use Rattle.hist_model.specs.declared.policy.Rule.{Rule}
use Rattle.hist_model.specs.declared.request.Request.{Request}
use Rattle.policy_classes.specs.declared.atoms.Field.{Field}
use Rattle.policy_classes.specs.declared.found.Class.{Class}
use Rattle.policy_classes.specs.Choices.{choices}
use Rattle.policy_classes.specs.Classes.{Adds, start_of}
use Rattle.policy_classes.specs.Plain.{all_atoms, standing_calls}
use Rattle.policy_classes.specs.Search.{Waiting, atoms_left, first_place, left_of, looked, next_field, waiting_from}

pub record Looked : Type 0 where
  pub request : Request
  pub old : List Waiting
  pub new : List Waiting

-- one where a field has a value
abbrev pub with_choice : Field → Looked → Request → Looked
with_choice f frame q = record { request = q; old = left_of f q frame.old; new = left_of f q frame.new }

-- one of a call that stands for others, before any field is decided
abbrev pub start_frame : List Rule → List Rule → ℤ → Looked
start_frame old new nr = record { request = start_of nr; old = waiting_from 0 old nr; new = waiting_from 0 new nr }

-- the class of a frame where nothing is left to decide; the numbers are those of rules
abbrev pub class_of : ℕ → ℕ → Looked → Class
class_of olds news frame =
    record { old_place = first_place olds frame.old; new_place = first_place news frame.new; witness = frame.request }

-- a frame is looked at: a field gets each of its values, or its class is added
abbrev pub LooksBy : Option Field → ℕ → ℕ → Looked → List Looked → List Looked → List Class → List Class → Type 0
LooksBy (Some f) olds news frame before after found more =
    (after ≡ before ++ map (with_choice f frame) (choices f (atoms_left frame.old frame.new) frame.request)) × (more ≡ found)
LooksBy None olds news frame before after found more = (after ≡ before) × Adds (class_of olds news frame) found more

abbrev pub Looks : ℕ → ℕ → Looked → List Looked → List Looked → List Class → List Class → Type 0
Looks olds news frame before after found more = LooksBy (next_field frame.old frame.new) olds news frame before after found more

-- ---- how many places the search looks at

-- a field is decided only once, so as many as atoms suffice
abbrev pub looked_from : ℕ → Looked → ℕ
looked_from n frame = looked n frame.request frame.old frame.new

-- for two policies: from each of the calls that stand for all
unfoldable pub places_looked : List Rule → List Rule → ℕ
places_looked old new = sum_by (λ nr. looked_from (length (all_atoms old new)) (start_frame old new nr)) standing_calls
