-- A capture that wants nothing and has no fault is complete.
use Rattle.std.proofs.Common.{◌∙◌}
use Rattle.arg_capture.specs.Captures.{Captured}
use Rattle.hist_model.specs.declared.request.ArgCopy.{ArgCopy}
use Rattle.arg_capture.proofs.Following.{follows_finishes}
use Rattle.arg_capture.proofs.Steps.{finishes}
use Rattle.arg_capture.proofs.capture.Capture.take_copy.Goals as goal

pub returns-in-None-clause-copy : goal.returns-in-None-clause-copy
returns-in-None-clause-copy c =
    let v : Captured = record { reached = c.self.inside.reading; fault = c.self.inside.fault } in
    let copy : ArgCopy = record { texts = c.new.result } in
    finishes c.args.self.now v copy c.self.view_is c.in-None.is c.self.invariant c.requires (c.new.ensures ∙ c.take_texts.ensures.texts)

pub returns-in-None-clause-follows : goal.returns-in-None-clause-follows
returns-in-None-clause-follows c = λ parts answers f. follows_finishes parts answers c.args.self.now _ (returns-in-None-clause-copy c) f
