-- A value of size 0 is whole, and one that is too great has a fault.
use Rattle.std.proofs.Common.{rules, ◌≡◌, ◌∙◌, Some}
use Rattle.hist_model.specs.declared.copy.Part.TheVariants as part
use Rattle.arg_capture.specs.Plans.{first_part}
use Rattle.arg_capture.proofs.Steps.{settles_empty, settles_big}
use Rattle.arg_capture.proofs.reading.Reading.+settle.Goals as goal

pub returns-in-Some-Value-default-eq0-clause-same : goal.returns-in-Some-Value-default-eq0-clause-same
returns-in-Some-Value-default-eq0-clause-same t c = λ later.
    let e : first_part c.args.self.now.parts ≡ Some (part.Value c.in-Some-Value-default-eq0.field-0-0 0) = search rules in
    let m = c.finish_part.ensures in
    c.settle.ensures.same later ∙ settles_empty c.args.self.now c.finish_part.new.self c.in-Some-Value-default-eq0.field-0-0 later e m.texts m.taken m.parts

pub returns-in-Some-Value-clause-same : goal.returns-in-Some-Value-clause-same
returns-in-Some-Value-clause-same t c = λ later.
    let e : first_part c.args.self.now.parts ≡ Some (part.Value c.in-Some-Value.field-0-0 c.in-Some-Value.size) = search rules in
    settles_big c.args.self.now c.in-Some-Value.field-0-0 c.in-Some-Value.size later e c.if-size.true
