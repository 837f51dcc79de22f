-- What a look at all calls found.
use Rattle.std.specs.Prelude.{◌≡◌, ◌==◌, ℕ, true, List, [], ◌∷◌, All, Any, if◌then◌else◌}
use Rattle.hist_model.specs.declared.policy.Rule.{Rule}
use Rattle.hist_model.specs.declared.request.Request.{Request}
use Rattle.policy_classes.specs.Asked.{IsCall}
use Rattle.policy_classes.specs.Classes.{HasWitness, Holds}
use Rattle.policy_classes.specs.declared.found.Class.{Class}
use Rattle.policy_classes.specs.declared.found.Classes.{Classes}

-- the classes of two lists of rules: each has a witness, and where they are whole each call is of one of them
pub record AreClasses (old new : List Rule) (found : Classes) : Type 0 where
  pub witnesses : All (HasWitness old new) found.classes
  pub there : found.whole ≡ true → (q : Request) → IsCall q → Any (Holds old new q) found.classes

-- the places of the second rules of the classes whose first rule is at a place
abbrev pub partners : ℕ → List Class → List ℕ
partners place [] = []
partners place (c ∷ cs) = if c.old_place == place then c.new_place ∷ partners place cs else partners place cs
