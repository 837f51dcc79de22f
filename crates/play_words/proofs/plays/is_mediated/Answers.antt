use Rattle.std.proofs.Common.{subst}
use Rattle.hist_model.specs.Legal.{played}
use Rattle.hist_model.specs.Mediated.{Mediated}
use Rattle.hist_model.specs.declared.script.Script.{Script}
use Rattle.mediation.proofs.PlayedScripts.{played_is_mediated}
use Rattle.play_words.proofs.plays.is_mediated.Goals as goal

pub returns : goal.returns
returns c =
    let P = c.args.policy.now in
    subst (λ (S : Script). Mediated P S (played P S)) c.script.view_is (played_is_mediated P _ c.script.invariant)
