use Rattle.std.proofs.Common.{refl}
use Rattle.explorer.proofs.ToldAll.{told_all}
use Rattle.explorer.proofs.ends.Ends.told.Goals as goal

pub returns : goal.returns
returns c = λ P S W delays done t a.
    let s = c.in_ok-outcomes_of.ensures in
    told_all P S W delays done c.args.self t a s.0 s.1 _ refl refl refl refl s.2
