-- The ledger lacks the last answer alone, which is taken or doesn't fit.
use Rattle.std.proofs.Common.{◌≡◌, ◌+◌, ◌<◌, Some, refl, arith}
use Rattle.std.specs.Prelude.{◌^◌}
use Rattle.std.specs.Option.{option_map}
use Rattle.broker_core.specs.Answers.{told}
use Rattle.worker_ledger.proofs.Fitting.{comes_last, comes_unfit}
use Rattle.worker_ledger.proofs.successor.Successor.caught_up.Goals as goal

pub returns-then-branch : goal.returns-then-branch
returns-then-branch c = λ own r.
    let n : c.args.self.ledger.count ≡ c.args.taken → ⊥ = λ q. omega (arith, c.count-count.ensures) in
    let m : c.args.self.ledger.count + 1 ≡ c.args.taken = omega (arith, c.count-count.ensures) in
    let small : c.args.taken < 2 ^ 64 = omega arith in
    let e : option_map (λ g. told g.now) c.args.last ≡ Some (told c.in-Some.got.now) = rw c.in-Some.is refl in
    comes_last c.args.policy.now c.args.taken (option_map (λ g. told g.now) c.args.last) c.args.self own (told c.in-Some.got.now) c.in_ok-take_last.field-0 c.take_last.new.self n m small e c.if-branch.true (c.in_ok-take_last.ensures own r)

pub returns-else-branch : goal.returns-else-branch
returns-else-branch c = λ own r.
    let n : c.args.self.ledger.count ≡ c.args.taken → ⊥ = λ q. omega (arith, c.count-count.ensures) in
    let m : c.args.self.ledger.count + 1 ≡ c.args.taken = omega (arith, c.count-count.ensures) in
    let e : option_map (λ g. told g.now) c.args.last ≡ Some (told c.in-Some.got.now) = rw c.in-Some.is refl in
    comes_unfit c.args.policy.now c.args.taken (option_map (λ g. told g.now) c.args.last) c.args.self own (told c.in-Some.got.now) c.in_ok-take_last.field-0 c.take_last.new.self n m e c.if-branch.false (c.in_ok-take_last.ensures own r)
