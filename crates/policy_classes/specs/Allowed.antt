-- The texts that calls may have in a field.
use Rattle.std.specs.Prelude.{◌≡◌, ℕ, Bool, true, List, [], bytes_eq}
use Rattle.std.specs.List.{list_any}
use Rattle.policy_classes.specs.declared.atoms.Field.{Field}
use Rattle.policy_classes.specs.declared.atoms.Field.TheVariants as field
use Rattle.policy_classes.specs.declared.words.Limit.{Limit}
use Rattle.policy_classes.specs.declared.words.Limit.TheVariants as limit
use Rattle.policy_classes.specs.Asked.{is_text_within, is_value_within, name_max, path_max, value_max}
use Rattle.policy_classes.specs.Order.{plain_path, plain_word}

-- the text is one of these
abbrev pub is_asked : List (List ℕ) → List ℕ → Bool
is_asked asked u = list_any (λ t. bytes_eq u t) asked

-- calls may have the text
abbrev pub is_allowed : Limit → List ℕ → Bool
is_allowed (limit.Text most) t = is_text_within most t
is_allowed (limit.Value most) t = is_value_within most t

abbrev pub IsAllowed : Limit → List ℕ → Type 0
IsAllowed l t = is_allowed l t ≡ true

-- the texts that calls may have in a field; in those that are no texts it doesn't matter
abbrev pub limit_of : Field → Limit
limit_of field.Name = limit.Text name_max
limit_of field.Value = limit.Value value_max
limit_of f = limit.Text path_max

-- the text that calls have there where nothing asks for another
abbrev pub plain_of : Field → List ℕ
plain_of field.Path = plain_path
plain_of field.Value = []
plain_of f = plain_word
