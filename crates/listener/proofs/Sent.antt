-- A response has a structure that may be sent, and fits its bytes.
-- By cases on what the call gets back, with arithmetic and `resp_of_bytes`.
use Rattle.std.proofs.Common.{◌≡◌, ℕ, ◌<◌, ◌^◌, true, refl, arith}
use Rattle.std.specs.Prelude.{Ok}
use Rattle.std.proofs.lemmas.Int.{ints}
use Rattle.sys_abi.specs.Wire.{resp_of, resp_bytes}
use Rattle.sys_abi.proofs.Structures.{resp_of_bytes}
use Rattle.hist_model.specs.declared.event.Back.{Back}
use Rattle.hist_model.specs.declared.event.Back.TheVariants.{Value, Fail, Continue}
use Rattle.listener.specs.Answers.{may_be_sent, reading, response, IsBack}

pub sendable : (id : ℕ) (back : Back) → IsBack back → may_be_sent (response id back) ≡ true
sendable id (Value n) h = refl
sendable id (Fail errno) h = grind (arith, ints)
sendable id Continue h = refl

pub back-again : (id : ℕ) (back : Back) → id < 2 ^ 64 → IsBack back → resp_of (resp_bytes (response id back)) ≡ response id back
back-again id (Value n) l h = resp_of_bytes (response id (Value n)) l h (omega (arith, ints)) (omega arith)
back-again id (Fail errno) l h = resp_of_bytes (response id (Fail errno)) l (omega (arith, ints)) (omega (arith, ints)) (omega arith)
back-again id Continue l h = resp_of_bytes (response id Continue) l (omega (arith, ints)) (omega (arith, ints)) (omega arith)

pub parsed-back : (id : ℕ) (back : Back) → id < 2 ^ 64 → IsBack back → reading (resp_bytes (response id back)) ≡ Ok (response id back)
parsed-back id back l h = rw (back-again id back l h, sendable id back h)
