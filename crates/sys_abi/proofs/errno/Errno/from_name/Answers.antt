use Rattle.std.proofs.Common.{◌≡◌, ◌∙◌, ◌&&◌, IsSome, IfSome, Option, Some, None, ℕ, ap, sym, refl, nat_le, arith}
use Rattle.std.proofs.lemmas.Bool.{false≢true}
use Rattle.std.proofs.lemmas.Bool.Decides.{nat_tests}
use Rattle.sys_abi.specs.Errnos.{errnos}
use Rattle.sys_abi.proofs.Tables.{number_in_passes, if_numbered}
use Rattle.sys_abi.proofs.errno.Errno.from_name.Goals as goal

some_is : (r : Option ℕ) (n : ℕ) → IsSome r → IfSome r (λ e. e ≡ n) → r ≡ Some n
some_is None n found value = absurd (false≢true found)
some_is (Some e) n found value = ap Some value

pub returns-clause-numbered : goal.returns-clause-numbered
returns-clause-numbered c =
    let is_code = sym c.number_of.ensures ∙ c.in_ok-code.was in
    let within = number_in_passes (λ n. nat_le 1 n && nat_le n 4095) errnos c.args.name.now c.in_ok-code.code refl is_code in
    some_is _ _ (c.of.ensures.found.1 (grind (arith, nat_tests), grind (arith, nat_tests))) c.of.ensures.value ∙ sym is_code

pub returns-clause-back : goal.returns-clause-back
returns-clause-back c = if_numbered errnos c.of.result c.args.name.now refl (returns-clause-numbered c)
