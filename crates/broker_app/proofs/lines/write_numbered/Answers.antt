use Rattle.std.proofs.Common.{rules, ◌≡◌, ◌++◌, ◌∷◌, [], decimal}
use Rattle.broker_app.proofs.Saying.{writes_more}
use Rattle.broker_app.proofs.lines.write_numbered.Goals as goal

pub returns : goal.returns
returns g c =
    let digits : c.as_bytes.result.now ≡ decimal c.args.number = search rules in
    rw (← digits) (writes_more _ _ _ c.as_bytes.result.now (58 ∷ 32 ∷ (c.args.reason.now ++ 10 ∷ [])) _ _ c.in_ok-write.ensures c.write_ended.ensures)
