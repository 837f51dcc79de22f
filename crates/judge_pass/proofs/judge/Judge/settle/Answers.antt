-- The row of the call with the id, if there is one.
use Rattle.std.proofs.Common.{arith, refl, sym, ◌∙◌}
use Rattle.judge_pass.proofs.WorkerEvents.{number-bound}
use Rattle.judge_pass.proofs.judge.Judge.settle.Goals as goal

pub index_mut-requires : goal.index_mut-requires
index_mut-requires c =
    let b = number-bound c.args.self.now.calls.first c.args.self.now.calls.rows.items c.args.id c.in-Some.call (sym c.named.ensures ∙ c.in-Some.is) in
    omega (arith, b)

pub returns-in-Some : goal.returns-in-Some
returns-in-Some c =
    let k = sym c.named.ensures ∙ c.in-Some.is in
    rw k (record {
      made = number-bound _ _ _ _ k;
      before = c.index_mut.result.now;
      before_is = c.index_mut.ensures.value;
      rows_are = refl;
      same = refl;
    })

pub returns-in_default : goal.returns-in_default
returns-in_default c = rw (sym c.named.ensures ∙ c.in_default.is) refl
