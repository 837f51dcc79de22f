-- Sets of names, for the question whether a name was read before.
use Rattle.std.specs.Prelude.{◌≡◌, ℕ, List, Bool}
use Rattle.std.specs.BTreeSet.{contains_by}
use Rattle.std.specs.Cmp.Lexicographic.{slice_cmp}
use Rattle.std.specs.Ordering.{nat_cmp}
use Rattle.hist_model.specs.RuleParts.{has_named}
use Rattle.policy_reader.specs.declared.names.Names.{Names}

-- the set has this name
abbrev pub holds : Names → List ℕ → Bool
holds names q = contains_by (λ k. slice_cmp nat_cmp q k.items) names.set

-- the set has the names of these items, and no other
abbrev pub HoldsNames : {A : Type 0} → (A → List ℕ) → Names → List A → Type 0
HoldsNames name names items = (q : List ℕ) → holds names q ≡ has_named name items q
