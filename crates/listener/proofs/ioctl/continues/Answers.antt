-- The flags are known exactly where they are 0 or 1: the known bit is the lowest one, which `and_mask` gives by a remainder.
use Rattle.std.proofs.Common.{◌≡◌, ◌∙◌, ◌==◌, if◌then◌else◌, true, false, Option, Some, None, Bool, ℕ, zero, suc, ◌<◌, ◌≤◌, ◌%◌, refl, ap, bit_and, arith}
use Rattle.std.proofs.lemmas.Bool.{both_ways, ne_eqb}
use Rattle.std.proofs.lemmas.Nat.{and_mask}
use Rattle.bitflags.proofs.OnLiterals.{bitflags_on_literals}
use Rattle.listener.proofs.ioctl.continues.Goals as goal

abbrev told : ℕ → Option Bool
told n = if n == 1 then Some true else (if n == 0 then Some false else None)

told-known : (n : ℕ) → n < 2 → Some (n == 1) ≡ told n
told-known zero l = refl
told-known (suc zero) l = refl
told-known (suc (suc n)) l = absurd (omega arith)

told-unknown : (n : ℕ) → 2 ≤ n → None ≡ told n
told-unknown n l =
    let one : (n == 1) ≡ false = ne_eqb n 1 (omega arith) in
    let none : (n == 0) ≡ false = ne_eqb n 0 (omega arith) in
    rw (one, none) refl

lowest : (n : ℕ) → bit_and n 1 ≡ n % 2
lowest n = and_mask n 1

pub returns-in-Some : goal.returns-in-Some
unfolding bitflags_on_literals
returns-in-Some c =
    let flags = c.args.flags in
    let known : bit_and flags 1 ≡ flags = (c.in-Some.ensures.known tt).0 refl in
    let low = lowest flags in
    ap Some (c.contains.ensures tt ∙ ap (λ f. bit_and f 1 == 1) (c.in-Some.ensures.value tt) ∙ ap (λ n. n == 1) known) ∙ told-known flags (omega (arith, low, known))

pub returns-in-None : goal.returns-in-None
unfolding bitflags_on_literals
returns-in-None c =
    let flags = c.args.flags in
    let low = lowest flags in
    let unknown : bit_and flags 1 ≡ flags → ⊥ = λ e. both_ways false refl ((c.in-None.ensures.known tt).1 e) in
    told-unknown flags (omega (arith, low, unknown))
