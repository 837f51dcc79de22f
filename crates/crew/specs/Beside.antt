-- What becomes of hands that work side by side.
use Rattle.std.specs.Prelude.{ℕ, List}
use Rattle.std.specs.Fork.{ChangesEach}
use denote.Param.Members.{Shared}
use denote.Ref.{MutBor}

-- each hand is as a call of f left it
pub record AreWorked {F H : Type 0} (g : Shared F (ℕ × (MutBor H × Unit {0})) (Unit {0} × (MutBor H × Unit {0})))
    (f : F) (before after : List H) : Type 0 where
  pub each : ChangesEach g f before after
