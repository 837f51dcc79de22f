-- The start is the event that is heard first.
use Rattle.std.proofs.Common.{◌≡◌, ap, sym, subst, ◌∙◌}
use Rattle.hist_model.specs.ScriptRules.{IsScript}
use Rattle.hist_model.specs.declared.script.Script.{Script}
use Rattle.model_kernel.specs.Kernels.{past}
use Rattle.judge_pass.proofs.Found.{watches_started}
use Rattle.judge_pass.proofs.watch.Watch.new.Goals as goal

pub hear-requires-clause-watches : goal.hear-requires-clause-watches
hear-requires-clause-watches c K e at =
    let k = c.args.kernel.now in
    let seen = c.behind-kernel.view_is ∙ c.script.ensures in
    let script : IsScript k.script = subst (λ (S : Script). IsScript S) seen c.behind-kernel.invariant in
    let first : k.script.firstid ≡ c.behind-kernel.inside.firstid = ap (λ (S : Script). S.firstid) (sym seen) in
    watches_started c.args.policy.now k.script (past k) K e c.in_ok-new.field-0 c.requires.started at (c.in_ok-new.ensures k.script script first)
