-- Each turn tries one more of the texts, and at the end all are tried.
use Rattle.std.proofs.Common.{arith, [], ◌∷◌, ap, ◌∙◌}
use Rattle.std.proofs.lemmas.List.{take_all}
use Rattle.std.specs.List.{flat_map, starts_with}
use Rattle.std.specs.Option.{option_copied}
use Rattle.std.specs.Prelude.{nat_eq}
use Rattle.policy_classes.specs.Fresh.{asked_at, start_at, with_bytes}
use Rattle.policy_classes.specs.Groups.{least_of}
use Rattle.policy_classes.proofs.Tried.{one_more_source}
use Rattle.policy_classes.proofs.fresh.Group.try_asked.Goals as goal

pub loop-text-preserved : goal.loop-text-preserved
loop-text-preserved c =
    one_more_source c.args.self.now (λ t. starts_with nat_eq t (start_at (option_copied c.args.self.now.at))) c.args.self.now.asked.now
    c.loop-text.text-index c.text-item.result c.args.best c.loop-text.found c.in_ok-found.found (omega arith) c.loop-text.invariant
    (c.in_ok-found.ensures ∙ ap (λ t. least_of c.args.self.now c.loop-text.found (flat_map with_bytes (asked_at (option_copied c.args.self.now.at) (t ∷ [])))) c.text-item.is)

pub returns : goal.returns
returns c =
    c.loop-text.invariant
    ∙ ap (λ ts. least_of c.args.self.now c.args.best (flat_map with_bytes (asked_at (option_copied c.args.self.now.at) ts)))
    (take_all c.loop-text.text-index c.args.self.now.asked.now (omega arith))
