use Rattle.broker_app.proofs.broker.answer.Goals as goal

pub returns-in-Some-Explore : goal.returns-in-Some-Explore
returns-in-Some-Explore g c =
    let of = rw c.in-Some-Explore.is at c.in-Some-Explore.field-0-is in
    rw (c.in-Some-Explore.is, of) c.explore_files.ensures

pub returns-in-Some-Compare : goal.returns-in-Some-Compare
returns-in-Some-Compare g c =
    let of = rw c.in-Some-Compare.is at c.in-Some-Compare.field-0-is in
    rw (c.in-Some-Compare.is, of) c.compare_files.ensures
