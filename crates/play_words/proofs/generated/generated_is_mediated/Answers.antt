use Rattle.mediation.proofs.PlayedScripts.{played_is_mediated}
use Rattle.generated_input.proofs.KeptRules.{script_kept}
use Rattle.generated_input.specs.GeneratedPolicy.{generated_policy}
use Rattle.generated_input.specs.GeneratedScript.{generated_script}
use Rattle.play_words.proofs.generated.generated_is_mediated.Goals as goal

pub returns : goal.returns
returns c = played_is_mediated generated_policy (generated_script c.args.from c.args.count) (script_kept c.args.from c.args.count c.requires)
