-- A read of a task's memory gives at least one and at most as many bytes as it asks for, or EFAULT.
-- By induction on the number of bytes.
use Rattle.std.proofs.Common.{inl, inr, ◌≡◌, ℕ, zero, suc, ◌+◌, ◌≤◌, true, List, length, refl, Some, arith}
use Rattle.std.specs.Prelude.{nat_le}
use Rattle.std.proofs.lemmas.Bool.{cases_Bool, and_from}
use Rattle.std.proofs.lemmas.Bool.Decides.{nat_tests}
use Rattle.hist_model.specs.Copies.{fits_piece}
use Rattle.hist_model.specs.Memory.{bytes_read, mapped_bytes, is_mapped}
use Rattle.hist_model.specs.declared.event.Event.{Event}
use Rattle.hist_model.specs.declared.script.Script.{Script}

-- a read gives at most as many bytes as were asked for
pub at_most : (S : Script) (K : List Event) (m a n : ℕ) → length (mapped_bytes S K m a n) ≤ n
unfolding mapped_bytes
at_most S K m a zero = omega arith
at_most S K m a (suc n) = elim (cases_Bool (is_mapped S.map a)) [
  | inl h ↦ let g : length (mapped_bytes S K m (a + 1) n) ≤ n = at_most S K m (a + 1) n in rw h (omega arith)
  | inr h ↦ rw h (omega arith)
]

-- and at least one where the first is mapped
pub at_least : (S : Script) (K : List Event) (m a n : ℕ) → is_mapped S.map a ≡ true → 1 ≤ n → 1 ≤ length (mapped_bytes S K m a n)
unfolding mapped_bytes
at_least S K m a zero h l = absurd (omega arith)
at_least S K m a (suc n) h l = rw h (omega arith)

at-least-as-many : (a b : ℕ) → a ≤ b → nat_le a b ≡ true
at-least-as-many a b h = grind (arith, nat_tests)

-- so its answer is one to the piece that was asked for
pub bytes_fit : (S : Script) (K : List Event) (m a n : ℕ) → 1 ≤ n → fits_piece (Some (a, n)) (bytes_read S K m a n) ≡ true
bytes_fit S K m a n l = elim (cases_Bool (is_mapped S.map a)) [
  | inl h ↦ rw h (and_from (nat_le 1 (length (mapped_bytes S K m a n))) (nat_le (length (mapped_bytes S K m a n)) n) (at-least-as-many 1 _ (at_least S K m a n h l)) (at-least-as-many _ n (at_most S K m a n)))
  | inr h ↦ rw h refl
]
