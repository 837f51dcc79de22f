use Rattle.std.proofs.Common.{ap, ◌∙◌, ◌++◌}
use Rattle.std.specs.Option.{option_map}
use Rattle.judge_pass.specs.Finding.{as_finding}
use Rattle.judge_pass.specs.Heads.{numbers_text, or_mediated}
use Rattle.step_session.proofs.Telling.{served_judge}
use Rattle.step_session.proofs.Told.{on_ok}
use Rattle.step_session.proofs.judged.JudgedContainer.judge.Goals as goal

pub returns : goal.returns
returns c =
    let told = or_mediated (option_map as_finding c.found-found.result) in
    on_ok c.push_sized.result
    (served_judge c.args.origin.now c.args.self.now c.args.idle c.found-found.result c.heard-events.result c.args.line.now c.push_sized.new.line c.bytes.result.now
    c.found-found.ensures c.heard-events.ensures
    (c.bytes.ensures ∙ c.in_ok-push_head.ensures ∙ ap (λ text. text ++ told (numbers_text c.heard-events.result c.counts.result.calls c.counts.result.effects c.counts.result.answers)) c.new-head.ensures
    ∙ ap (λ n. told (numbers_text c.heard-events.result n.calls n.effects n.answers)) c.counts.ensures))
    c.push_sized.ensures
