-- The lowest bit is the remainder by 2.
use Rattle.std.proofs.Common.{◌≡◌, ◌∙◌, ◌%◌, ◌==◌, ap, bit_and}
use Rattle.std.proofs.lemmas.Nat.{and_mask}
use Rattle.mount_tree.proofs.attr_flags.creates_attr.Goals as goal

pub returns : goal.returns
returns c =
    let low : bit_and c.args.flags 1 ≡ c.args.flags % 2 = and_mask c.args.flags 1 in
    c.contains.ensures tt ∙ (ap (λ n. bit_and n 1 == 1) (c.from_bits_retain.ensures tt) ∙ ap (λ n. n == 1) low)
