-- The event is judged after those that the judge has heard.
use Rattle.std.proofs.Common.{sym, ◌∙◌}
use Rattle.model_kernel.specs.Kernels.{past}
use Rattle.judge_pass.proofs.Found.{none_found, watches_heard, watches_still}
use Rattle.judge_pass.proofs.watch.Watch.hear.Goals as goal

pub returns-then-is_some : goal.returns-then-is_some
returns-then-is_some c K e at =
    watches_still c.args.policy.now c.args.kernel.now.script K e c.args.self.now (sym c.is_some.ensures ∙ c.if-is_some.true) (c.requires.watches K e at)

pub judge-requires-clause-stands : goal.judge-requires-clause-stands
judge-requires-clause-stands c K e at = (c.requires.watches K e at).stands (none_found c.args.self.now.found (sym c.is_some.ensures ∙ c.if-is_some.false))

pub returns : goal.returns
returns c K e at =
    watches_heard c.args.policy.now c.args.kernel.now.script (past c.args.kernel.now) K e c.in-Some._event.now c.in-Some.before.now c.args.self.now c.in_ok-fault.fault c.judge.new.self c.found_at-self.result
    at c.in-Some.ensures.some (none_found c.args.self.now.found (sym c.is_some.ensures ∙ c.if-is_some.false)) (c.requires.watches K e at) (c.in_ok-fault.ensures K e at) c.found_at-self.ensures
