use Rattle.std.proofs.Common.{◌≡◌, ◌∙◌, sym, arith}
use Rattle.std.proofs.lemmas.Bool.Decides.{nat_tests}
use Rattle.hist_model.specs.Calls.{count}
use Rattle.explorer.specs.Runs.{story}
use Rattle.explorer.proofs.AbleRuns.{idle_unable}
use Rattle.explorer.proofs.run.Run.worker_may_be_able.Goals as goal

pub returns : goal.returns
returns c = λ P going none.
    let r = c.args.self.now in
    let counted : c.request_count.result ≡ count (story r) = (rw c.kernel.ensures at c.request_count.ensures) going.at.served.kernel in
    let zero : c.request_count.result ≡ 0 = grind (arith, nat_tests) in
    idle_unable P r c.args.worker (sym (c.is_full.ensures (story r) going.hands) ∙ c.if-is_full.false) (sym counted ∙ zero)
