-- The line of a class whose new rule is another one than that of the first class of its old rule.
-- By the test of the two places.
use Rattle.std.proofs.Common.{◌≡◌, ℕ, cond, List, [], ◌∷◌, ◌++◌, Option, Some, ap, sym, ◌∙◌}
use Rattle.std.specs.Prelude.{codes}
use Rattle.std.proofs.lemmas.Bool.{ne_eqb}
use Rattle.hist_model.specs.declared.script.FilterLine.{FilterLine}
use Rattle.policy_classes.specs.declared.found.Class.{Class}
use Rattle.policy_compare.specs.Lines.{apart_lines, are_notified, count_text}

pub apart_told : (filters : Option (List FilterLine)) (c d : Class) (line : List ℕ) (lines more : List (List ℕ)) → more ≡ lines ++ line ∷ []
    → line ≡ count_text c d (codes " old=together new=apart") (are_notified filters c d) → (c.new_place ≡ d.new_place → ⊥) → more ≡ lines ++ apart_lines filters (Some c) d
apart_told filters c d line lines more grows is other =
    grows ∙ ap (λ l. lines ++ l ∷ []) is
    ∙ ap (λ b. lines ++ cond b [] (count_text c d (codes " old=together new=apart") (are_notified filters c d) ∷ [])) (sym (ne_eqb c.new_place d.new_place other))
