-- Where the next component of a path begins and ends.
use Rattle.std.specs.Prelude.{ℕ, zero, suc, if◌then◌else◌, ◌==◌, List, [], ◌∷◌}

-- how many slashes a path begins with
abbrev pub leading_slashes : List ℕ → ℕ
leading_slashes [] = zero
leading_slashes (b ∷ bs) = if b == 47 then suc (leading_slashes bs) else zero

-- how many bytes stand before the first slash
abbrev pub name_length : List ℕ → ℕ
name_length [] = zero
name_length (b ∷ bs) = if b == 47 then zero else suc (name_length bs)
