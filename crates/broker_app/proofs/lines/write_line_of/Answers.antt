use Rattle.std.proofs.Common.{rules, ◌≡◌, ◌++◌, decimal, codes, ℕ, List, Err}
use Rattle.broker_app.proofs.Saying.{writes_front, writes_more}
use Rattle.broker_app.proofs.lines.write_line_of.Goals as goal

-- what stands behind the line's beginning
rest : ℕ → List ℕ → List ℕ
rest number reason = decimal number ++ (codes ": " ++ (reason ++ codes "\n"))

pub returns-in_err-write : goal.returns-in_err-write
unfolding rest
returns-in_err-write g c =
    let stopped : c.from_residual.result ≡ Err c.in_err-write.field-0.0 = search rules in
    writes_front _ _ c.args.front.now (rest c.args.number c.args.reason.now) _ _ _ stopped c.in_err-write.ensures

pub returns : goal.returns
unfolding rest
returns g c = writes_more _ _ _ c.args.front.now (rest c.args.number c.args.reason.now) _ _ c.in_ok-write.ensures c.write_numbered.ensures
