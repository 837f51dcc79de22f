use Rattle.std.proofs.Common.{rules, ◌≡◌, [], ◌∷◌}
use Rattle.generated_input.specs.GeneratedScript as definitions
use Rattle.generated_input.proofs.KeptRules.{made_kept}
use Rattle.generated_input.proofs.input_script.generated_script.Goals as goal

pub invariant_of-result : goal.invariant_of-result
invariant_of-result c =
    let tree : c.new-2.result ≡ [] = search rules in
    let broker : c.new-4.result ≡ [] = search rules in
    let map : c.new-5.result ≡ definitions.default_map = search rules in
    let filters : c.new-6.result ≡ definitions.listener_filter ∷ [] = search rules in
    let programs : c.in_ok-programs_of.field-0 ≡ definitions.programs_of c.args.from c.args.count = search rules in
    let schedule : c.in_ok-schedule_of.field-0 ≡ definitions.schedule_of c.args.from c.args.count = search rules in
    made_kept c.args.from c.args.count _ _ _ _ _ _ c.requires tree broker map filters programs schedule
