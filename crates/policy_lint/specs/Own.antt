-- The rules that a policy states of its own: those before the ones that its keys make and the defaults, whose names are none of theirs.
use Rattle.std.specs.Prelude.{ℕ, zero, suc, Bool, ◌||◌, if◌then◌else◌, List, [], ◌∷◌, nat_eq, codes}
use Rattle.std.specs.List.{starts_with}
use Rattle.hist_model.specs.declared.policy.Rule.{Rule}

-- the name is one of a rule that no policy states
abbrev pub is_taken : List ℕ → Bool
is_taken name = starts_with nat_eq name (codes "lxd.") || starts_with nat_eq name (codes "default.")

-- how many rules stand before the first of these
abbrev pub own_number : List Rule → ℕ
own_number [] = zero
own_number (rule ∷ rules) = if is_taken rule.name then zero else suc (own_number rules)
