-- The names of tasks, as the schedules of scripts have them.
use Rattle.std.specs.Prelude.{ℕ, ◌^◌, Bool, true, false, ◌&&◌, ◌==◌, nat_le, List, [], ◌∷◌, length, map, unwrap_or, pos}
use Rattle.std.specs.List.{list_all, slice_split}
use Rattle.lex_core.specs.Numbers as numbers
use Rattle.step_requests.specs.Numbers.{below}

abbrev pub is_dot : ℕ → Bool
is_dot b = b == 46

-- what stands between points
abbrev pub pieces : List ℕ → List (List ℕ)
pieces text = slice_split is_dot text

-- the number that a text is, and 0 where it isn't one of 32 bits
abbrev pub number_or_zero : List ℕ → ℕ
number_or_zero text = unwrap_or (below (2 ^ 32) (unwrap_or (numbers.number text) (pos 0))) 0

-- a digit that isn't 0 comes first
abbrev pub begins_plainly : List ℕ → Bool
begins_plainly [] = false
begins_plainly (b ∷ bs) = nat_le 49 b && nat_le b 57

-- the number of a child, from 1 to 100000, in decimal digits without leading zeros
abbrev pub is_child_text : List ℕ → Bool
is_child_text text = begins_plainly text && nat_le 1 (number_or_zero text) && nat_le (number_or_zero text) 100000

-- the numbers of at most 64 children, each behind a point
abbrev pub is_children_tail : List ℕ → Bool
is_children_tail [] = true
is_children_tail (b ∷ bs) = is_dot b && list_all is_child_text (pieces bs) && nat_le (length (pieces bs)) 64

-- the name of a task: `0`, and then the numbers of children
abbrev pub is_task_text : List ℕ → Bool
is_task_text [] = false
is_task_text (b ∷ bs) = (b == 48) && is_children_tail bs

-- the numbers of a task's name
abbrev pub task_numbers : List ℕ → List ℕ
task_numbers text = map number_or_zero (pieces text)
