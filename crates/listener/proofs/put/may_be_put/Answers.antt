use Rattle.std.proofs.Common.{◌≡◌, true, false, refl, sym, ap, ◌∙◌, bit_and}
use Rattle.std.specs.Prelude.{◌==◌}
use Rattle.std.proofs.lemmas.Bool.{false_from_ne_true, both_ways, eqb-true, eq-eqb, ne_eqb}
use Rattle.bitflags.proofs.OnLiterals.{bitflags_on_literals}
use Rattle.listener.specs.Puts.{is_known, has_known_newfd_flags}
use Rattle.listener.proofs.put.may_be_put.Goals as goal

pub returns-in_default : goal.returns-in_default
unfolding bitflags_on_literals
returns-in_default c =
    let asked = c.args.asked.now in
    let k : is_known asked ≡ false = false_from_ne_true (is_known asked) (λ z. both_ways false refl ((c.in_default.ensures.known tt).1 (eqb-true (bit_and asked.flags 3) asked.flags z))) in
    rw k

pub returns-then-asked-eq0 : goal.returns-then-asked-eq0
unfolding bitflags_on_literals
returns-then-asked-eq0 c =
    let asked = c.args.asked.now in
    let k : is_known asked ≡ true = eq-eqb (bit_and asked.flags 3) asked.flags ((c.in-Some.ensures.known tt).0 refl) in
    let h : has_known_newfd_flags asked ≡ true = sym c.has_known_newfd_flags.ensures ∙ c.if-has_known_newfd_flags.true in
    let n : (asked.newfd == 0) ≡ true = eq-eqb asked.newfd 0 c.if-asked-eq0.true in
    rw (k, h, n)

pub returns-else-asked-eq0 : goal.returns-else-asked-eq0
unfolding bitflags_on_literals
returns-else-asked-eq0 c =
    let asked = c.args.asked.now in
    let k : is_known asked ≡ true = eq-eqb (bit_and asked.flags 3) asked.flags ((c.in-Some.ensures.known tt).0 refl) in
    let h : has_known_newfd_flags asked ≡ true = sym c.has_known_newfd_flags.ensures ∙ c.if-has_known_newfd_flags.true in
    let n : (asked.newfd == 0) ≡ false = ne_eqb asked.newfd 0 c.if-asked-eq0.false in
    rw (k, h, n) (c.contains.ensures tt ∙ ap (λ f. bit_and f 1 == 1) (c.in-Some.ensures.value tt))
