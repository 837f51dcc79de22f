-- Pairs of files, as words name them.
use Rattle.std.specs.Prelude.{ℕ, ◌&&◌, ◌%◌, ◌==◌, Bool, nat_le, List, [], ◌∷◌, map, String}
use Rattle.std.specs.String.{string_bytes}
use Rattle.std.specs.declared.alloc.Global.{Global}

-- the names of a policy's and a script's files
pub record FilePair : Type 0 where
  pub policy : List ℕ
  pub script : List ℕ

-- the names of 1 to 8 pairs of files
abbrev pub are_pairs : ℕ → Bool
are_pairs count = nat_le 2 count && nat_le count 16 && (count % 2 == 0)

-- names, two and two
abbrev pub in_pairs : List (List ℕ) → List FilePair
in_pairs (policy ∷ script ∷ more) = record { policy = policy; script = script } ∷ in_pairs more
in_pairs _ = []

-- the bytes of the words
abbrev pub texts : List (String Global) → List (List ℕ)
texts words = map (λ (w : String Global). string_bytes w) words
