-- Whether flags have O_CLOEXEC: what they share with the bit is the bit, or 0.
-- By `and_high`, which gives the bit by a quotient and a remainder.
use Rattle.std.proofs.Common.{◌≡◌, ℕ, zero, suc, ◌*◌, ◌/◌, ◌%◌, ◌<◌, ◌==◌, not, nat_eq, bit_and, refl, arith}
use Rattle.std.proofs.lemmas.Nat.Bits.{and_high}
use Rattle.sys_abi.proofs.wire.is_cloexec.Goals as goal

bit : (m : ℕ) → m < 2 → not (nat_eq (m * 524288) 0) ≡ (m == 1)
bit zero l = refl
bit (suc zero) l = refl
bit (suc (suc m)) l = absurd (omega arith)

pub returns : goal.returns
returns c =
    let e : bit_and c.args.flags 524288 ≡ (c.args.flags / 524288 % 2) * 524288 = and_high c.args.flags 1 19 in
    rw e (bit (c.args.flags / 524288 % 2) (omega arith))
