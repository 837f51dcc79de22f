-- What a comparison of two policies says of all calls.
use Rattle.std.specs.Prelude.{◌≡◌, ◌≤◌, true, Bool, List, Option, is_some, All, Any, slice_get, ◌↔◌}
use Rattle.std.specs.List.Sorted.{IsStrictlySortedBy}
use Rattle.hist_model.specs.Decisions.{decide}
use Rattle.hist_model.specs.declared.policy.Rule.{Rule}
use Rattle.hist_model.specs.declared.request.Request.{Request}
use Rattle.hist_model.specs.declared.script.FilterLine.{FilterLine}
use Rattle.policy_classes.specs.declared.ending.Told.{Told}
use Rattle.policy_classes.specs.declared.found.Class.{Class}
use Rattle.policy_classes.specs.Asked.{IsCall}
use Rattle.policy_classes.specs.Classes.{HasWitness, Holds, IsLeast}
use Rattle.policy_classes.specs.Looked.{places_looked}
use Rattle.policy_classes.specs.Plain.{IsPlainRule}
use Rattle.policy_compare.specs.Answers.{Answer, answer_of}
use Rattle.policy_compare.specs.Lines.{comparison, ending}
use Rattle.policy_compare.specs.Order.{by_places}

-- what rules answer a call
abbrev pub answer_to : List Rule → Request → Answer
answer_to rules q = answer_of (slice_get rules (decide rules q).0)

-- both calls are decided by one rule, and so share its counter
abbrev pub Share : List Rule → Request → Request → Type 0
Share rules p q = (decide rules p).0 ≡ (decide rules q).0

-- it is limited how often the call is granted
abbrev pub IsLimited : List Rule → Request → Type 0
IsLimited rules q = is_some (answer_to rules q).times ≡ true

-- each call is answered alike, and two calls whose number is limited share a counter in both policies or in neither
pub record AreEqual (old new : List Rule) : Type 0 where
  pub answers : (q : Request) → IsCall q → answer_to old q ≡ answer_to new q
  pub counters : (p q : Request) → IsCall p → IsCall q → IsLimited old p → IsLimited old q → Share old p q ↔ Share new p q

-- the rules name calls that have names, and flags of one bit, as those of a file do; and at most 1,000,000 places are looked at
abbrev pub AreFew : List Rule → List Rule → Type 0
AreFew old new = All IsPlainRule old × All IsPlainRule new × (places_looked old new ≤ 1000000)

-- what is told is told of these classes: each pair of rules once, in the order of their places; the witness of each is a call of it;
-- and where they are whole, the least one, and each call is of one of them; they are whole exactly where few places are looked at
pub record IsTold (old new : List Rule) (filters : Option (List FilterLine)) (told : Told) (classes : List Class) (whole : Bool)
    : Type 0 where
  pub ordered : IsStrictlySortedBy by_places classes
  pub witnesses : All (HasWitness old new) classes
  pub least : whole ≡ true → All (IsLeast old new) classes
  pub whole_is : (whole ≡ true) ↔ AreFew old new
  pub there : whole ≡ true → (q : Request) → IsCall q → Any (Holds old new q) classes
  pub text : told.text ≡ comparison old new filters classes whole
  pub ending : told.ending ≡ ending old new filters classes whole

abbrev pub IsComparison : List Rule → List Rule → Option (List FilterLine) → Told → Type 0
IsComparison old new filters told = (classes : List Class) × (whole : Bool) × IsTold old new filters told classes whole
