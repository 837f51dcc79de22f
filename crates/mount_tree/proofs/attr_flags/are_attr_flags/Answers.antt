-- Flags are known exactly where they are below 4: the known bits are the two lowest.
-- By `and_mask`, which gives these by a remainder.
use Rattle.std.proofs.Common.{◌≡◌, ◌∙◌, inl, inr, ℕ, ◌%◌, ◌↔◌, Option, arith}
use Rattle.std.specs.Prelude.{is_some, nat_lt, IsSome, bit_and}
use Rattle.std.proofs.lemmas.Bool.{cases_lt, lt-ltb, le-ltb, false_from_ne_true}
use Rattle.std.proofs.lemmas.Nat.{and_mask}
use Rattle.bitflags.proofs.OnLiterals.{bitflags_on_literals}
use Rattle.sys_abi.specs.declared.flags.XattrFlags.{XattrFlags}
use Rattle.mount_tree.proofs.attr_flags.are_attr_flags.Goals as goal

known : (o : Option XattrFlags) (n : ℕ) → IsSome o ↔ (bit_and n 3 ≡ n) → is_some o ≡ nat_lt n 4
known o n h =
    let low : bit_and n 3 ≡ n % 4 = and_mask n 2 in
    elim (cases_lt n 4) [
      | inl l ↦ rw (lt-ltb n 4 l) (h.1 (omega (arith, low)))
      | inr g ↦ rw (le-ltb n 4 g) (false_from_ne_true (is_some o) (λ z. absurd (omega (arith, h.0 z, low))))
    ]

pub returns : goal.returns
unfolding bitflags_on_literals
returns c = c.is_some.ensures ∙ known c.from_bits.result c.args.flags (c.from_bits.ensures.known tt)
