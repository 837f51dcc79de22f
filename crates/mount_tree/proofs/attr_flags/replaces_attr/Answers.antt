-- The bit above the lowest is twice the half's remainder by 2.
use Rattle.std.proofs.Common.{◌≡◌, ◌∙◌, ℕ, zero, suc, ◌*◌, ◌/◌, ◌%◌, ◌<◌, ◌==◌, ap, refl, arith, bit_and}
use Rattle.std.proofs.lemmas.Nat.Bits.{and_high}
use Rattle.mount_tree.proofs.attr_flags.replaces_attr.Goals as goal

twice : (m : ℕ) → m < 2 → (m * 2 == 2) ≡ (m == 1)
twice zero l = refl
twice (suc zero) l = refl
twice (suc (suc m)) l = absurd (omega arith)

pub returns : goal.returns
returns c =
    let high : bit_and c.args.flags 2 ≡ (c.args.flags / 2 % 2) * 2 = and_high c.args.flags 1 1 in
    c.contains.ensures tt ∙ (ap (λ n. bit_and n 2 == 2) (c.from_bits_retain.ensures tt) ∙ (ap (λ n. n == 2) high ∙ twice (c.args.flags / 2 % 2) (omega arith)))
