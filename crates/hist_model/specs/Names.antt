-- The names that tasks have: the first task is 0, and the k-th child of a task has its parent's name and then k.
use Rattle.std.specs.Prelude.{ℕ, Bool, false, ◌&&◌, ◌==◌, nat_le, [], ◌∷◌, length}
use Rattle.std.specs.List.{list_all}
use Rattle.hist_model.specs.Look.{Name}

-- a task is its parent's first child, or a later one, up to the hundred thousandth
abbrev pub is_child_number : ℕ → Bool
is_child_number k = nat_le 1 k && nat_le k 100000

-- 0, and then the numbers of at most 64 children
abbrev pub is_task_name : Name → Bool
is_task_name [] = false
is_task_name (k ∷ children) = (k == 0) && (nat_le (length children) 64 && list_all is_child_number children)
