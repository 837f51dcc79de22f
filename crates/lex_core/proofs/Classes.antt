-- The table of classes has the class of each byte.
-- By computing it for each byte, and by cases on which tests pass.
use Rattle.std.proofs.Common.{◌≡◌, ℕ, ◌+◌, ◌<◌, Bool, true, false, refl, ap, ◌∙◌, arith, cond, map}
use Rattle.std.specs.Prelude.{bit_and, not, ◌==◌, slice_index}
use Rattle.std.specs.List.{range_with_len}
use Rattle.std.proofs.lemmas.List.FromFn.{get_or-map-range_with_len}
use Rattle.lex_core.specs.Lexical.{is_bare}
use Rattle.lex_core.specs.Steps.{is_plain}
use Rattle.lex_core.specs.declared.bytes.TheConstants.{CLASSES}

abbrev class : ℕ → ℕ
class b = cond (is_bare b) 1 0 + cond (is_plain b) 2 0

classes : CLASSES ≡ map class (range_with_len 0 256)
classes = refl

class-at : (b : ℕ) → b < 256 → slice_index CLASSES b ≡ class b
class-at b l = ap (λ xs. slice_index xs b) classes ∙ get_or-map-range_with_len class 0 256 b b 0 l (omega arith)

pub bare_class : (b : ℕ) → b < 256 → not (bit_and (slice_index CLASSES b) 1 == 0) ≡ is_bare b
bare_class b l = ap (λ k. not (bit_and k 1 == 0)) (class-at b l) ∙ by (is_bare b) (is_plain b)
  where
    by : (bare plain : Bool) → not (bit_and (cond bare 1 0 + cond plain 2 0) 1 == 0) ≡ bare
    by true true = refl
    by true false = refl
    by false true = refl
    by false false = refl

pub plain_class : (b : ℕ) → b < 256 → not (bit_and (slice_index CLASSES b) 2 == 0) ≡ is_plain b
plain_class b l = ap (λ k. not (bit_and k 2 == 0)) (class-at b l) ∙ by (is_bare b) (is_plain b)
  where
    by : (bare plain : Bool) → not (bit_and (cond bare 1 0 + cond plain 2 0) 2 == 0) ≡ plain
    by true true = refl
    by true false = refl
    by false true = refl
    by false false = refl
