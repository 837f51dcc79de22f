use Rattle.broker_app.proofs.broker.answer_form.Goals as goal

pub returns-in-Some-Run : goal.returns-in-Some-Run
returns-in-Some-Run g c =
    let of = rw c.in-Some-Run.is at c.in-Some-Run.field-0-is in
    rw (c.in-Some-Run.is, of) c.run_files.ensures

pub returns-in-Some-Lanes : goal.returns-in-Some-Lanes
returns-in-Some-Lanes g c =
    let of = rw c.in-Some-Lanes.is at c.in-Some-Lanes.field-0-is in
    rw (c.in-Some-Lanes.is, of) c.run_files-in-Some-Lanes.ensures
