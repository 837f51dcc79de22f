-- Pieces between commas, which are taken from the last one on: what a turn of each loop leaves.
-- By what a cut at the first comma gives, and by what the reverse of a list with one more is.
use Rattle.std.proofs.Common.{◌≡◌, ℕ, ◌+◌, ◌<◌, Bool, List, [], ◌∷◌, Option, take, length, get_or, refl}
use Rattle.std.specs.Prelude.{◌==◌, ◌||◌, bytes_eq}
use Rattle.std.specs.List.{list_any, slice_split}
use Rattle.std.proofs.lemmas.List.{take_more}
use Rattle.policy_reader.proofs.Cuts.{pieces_left, split_first}
use Rattle.policy_reader.proofs.Items.{one_more_held}
use Rattle.policy_reader.specs.NameSets.{holds, HoldsNames}
use Rattle.policy_reader.specs.Texts.{cut_at}
use Rattle.policy_reader.specs.declared.names.Names.{Names}

-- ---- Pieces

pub piece_first : (text front : List ℕ) (more : Option (List ℕ)) → front ≡ (cut_at 44 text).0 → more ≡ (cut_at 44 text).1 → slice_split (λ b. b == 44) text ≡ front ∷ pieces_left more
piece_first text front more f m = rw (f, m) (split_first text)

-- ---- Items

-- ---- Names

pub name_held : (old new : Names) (xs : List (List ℕ)) (i : ℕ) (x d : List ℕ) → i < length xs → x ≡ get_or xs i d → HoldsNames (λ name. name) old (take i xs) → ((q : List ℕ) → holds new q ≡ (bytes_eq x q || holds old q)) → HoldsNames (λ name. name) new (take (i + 1) xs)
name_held old new xs i x d l e h added = rw (take_more xs i d l, ← e) (one_more_held (λ name. name) old new (take i xs) x h added)

-- a test that is another one at each item
pub any_same : {A : Type 0} (p q : A → Bool) (xs : List A) → ((x : A) → p x ≡ q x) → list_any p xs ≡ list_any q xs
any_same p q [] h = refl
any_same p q (x ∷ xs) h = rw (h x, any_same p q xs h) refl
