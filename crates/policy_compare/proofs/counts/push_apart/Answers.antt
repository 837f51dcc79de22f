-- The line stands behind those that were there.
use Rattle.std.proofs.Common.{ap, ◌∙◌}
use Rattle.std.specs.Prelude.{codes}
use Rattle.std.specs.Option.{option_copied}
use Rattle.policy_compare.specs.Lines.{count_text}
use Rattle.policy_compare.proofs.Counted.{apart_told}
use Rattle.policy_compare.proofs.counts.push_apart.Goals as goal

pub returns : goal.returns
returns c =
    let f = c.in-Some.first.now in
    let d = c.args.class.now in
    let told = ap (count_text f d (codes " old=together new=apart")) c.are_notified-notified.ensures in
    rw c.in-Some.is
    (apart_told (option_copied c.args.filters) f d c.in_ok-count_line.field-0 c.args.lines.now.items c.push.new.self.items
    c.in_ok-push.ensures.items (c.in_ok-count_line.ensures ∙ told) c.if-first-class.false)
