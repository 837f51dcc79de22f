-- Texts are of bytes, since their elements are.
-- By the tests that are left.
use Rattle.std.proofs.Common.{◌≡◌, ℕ, ◌<◌, ◌≤◌, Bool, true, false, ◌&&◌, not, List, length, get_or, Fits, w8, refl, arith}
use Rattle.std.specs.Prelude.{◌==◌, All, nat_le, nat_lt}
use Rattle.std.specs.List.{list_any}
use Rattle.std.proofs.lemmas.Bool.{le-leb, lt-ltb}
use Rattle.std.proofs.lemmas.List.{get_or_default}
use Rattle.policy_classes.specs.Asked.{are_bytes, is_text_within, is_value_within}
use Rattle.policy_classes.proofs.Near.{all_pass}

pub bytes_are : (t : List ℕ) → All (λ b. b < 256) t → are_bytes t ≡ true
bytes_are t h = all_pass (λ b. nat_lt b 256) t (λ k d l. lt-ltb (get_or t k d) 256 (h k d l))

-- a text that is tested, whose elements are bytes
pub text_within : (most : ℕ) (t : List ℕ) → ((i : ℕ) → Fits w8 (get_or t i 0)) → length t ≤ most → not (list_any (λ b. b == 0) t) ≡ is_text_within most t
text_within most t fits l =
    rw (le-leb (length t) most l, bytes_are t (λ k d m. let f = fits k in let e = get_or_default t k 0 d m in omega arith)) (and_true (not (list_any (λ b. b == 0) t)))
  where
    and_true : (b : Bool) → b ≡ (b && true)
    and_true true = refl
    and_true false = refl

pub value_within : (most : ℕ) (t : List ℕ) → ((i : ℕ) → Fits w8 (get_or t i 0)) → nat_le (length t) most ≡ is_value_within most t
value_within most t fits =
    rw (bytes_are t (λ k d m. let f = fits k in let e = get_or_default t k 0 d m in omega arith)) (and_true (nat_le (length t) most))
  where
    and_true : (b : Bool) → b ≡ (b && true)
    and_true true = refl
    and_true false = refl
