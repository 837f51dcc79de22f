-- Few words.
-- By cases on their list.
use Rattle.std.proofs.Common.{◌≡◌, ◌<◌, List, [], ◌∷◌, length, arith, refl}
use Rattle.std.specs.Prelude.{String}
use Rattle.std.specs.declared.alloc.Global.{Global}
use Rattle.run_words.specs.Pairs.{texts}
use Rattle.broker_app.specs.Words.{form, short_words}

-- fewer than three words have the form of two, if they have one
pub few_form : (words : List (String Global)) → length words < 3 → short_words (texts words) ≡ form (texts words)
few_form [] few = refl
few_form (a ∷ []) few = refl
few_form (a ∷ b ∷ []) few = refl
few_form (a ∷ b ∷ c ∷ more) few = let no : ⊥ = omega (arith, few) in absurd no
