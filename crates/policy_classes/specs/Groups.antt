-- Texts for which no atom asks, as the code has them: below these directories, or none.
use Rattle.std.specs.Prelude.{ℕ, Bool, List, Option}
use Rattle.std.specs.Option.{option_copied}
use Rattle.policy_classes.specs.declared.fresh.Group.{Group}
use Rattle.policy_classes.specs.Fresh.{fresh, is_fresh, least}
use Rattle.policy_classes.specs.Order.{comes_before}

-- a text is one of the group
abbrev pub accepts : Group → List ℕ → Bool
accepts g t = is_fresh g.limit g.asked.now g.dirs.now (option_copied g.at) t

-- the least of these texts that is one of the group, and of what was found before
abbrev pub least_of : Group → Option (List ℕ) → List (List ℕ) → Option (List ℕ)
least_of g best texts = least comes_before (accepts g) best texts

-- the least of the group
abbrev pub fresh_of : Group → List ℕ → Option (List ℕ)
fresh_of g plain = fresh g.limit plain g.asked.now g.dirs.now (option_copied g.at)
