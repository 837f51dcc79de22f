use Rattle.std.proofs.Common.{◌≡◌, Some}
use Rattle.std.specs.List.{position}
use Rattle.explorer.specs.Ends.{has_text}
use Rattle.explorer.proofs.EndsNoted.{joined_there}
use Rattle.explorer.proofs.ends.join_to.Goals as goal

pub returns-in_ok-join-in-Some : goal.returns-in_ok-join-in-Some
returns-in_ok-join-in-Some c =
    let found : position (has_text c.args.end.text.items) c.args.ends.now.items ≡ Some c.in-Some.place = cc in
    joined_there c.args.end c.args.ends.now.items c.in-Some.place c.index_mut.result.now c.join.new.self found c.index_mut.ensures.value c.in_ok-join-in-Some.ensures
