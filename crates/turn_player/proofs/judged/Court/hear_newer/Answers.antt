-- The history has the events that were heard, or one more.
use Rattle.std.proofs.Common.{length, ap, refl, sym, ◌∙◌}
use Rattle.hist_model.specs.declared.history.History.{History}
use Rattle.model_kernel.specs.Kernels.{past}
use Rattle.turn_player.proofs.Judging.{closed_alike, few_events, heard_all, heard_before, heard_one}
use Rattle.turn_player.proofs.judged.Court.hear_newer.Goals as goal

pub returns-then-len-heard : goal.returns-then-len-heard
returns-then-len-heard c =
    let court = c.args.self.now in
    let number = sym (c.len.ensures ∙ ap (λ (h : History). length h.events) c.history.ensures) ∙ c.if-len-heard.true in
    record {
      watched = heard_all c.args.policy.now court c.args.heard c.requires.newer c.requires.kernel c.requires.begun c.requires.open_still c.requires.clean number;
      kernel = refl;
    }

pub hear-requires : goal.hear-requires
hear-requires c =
    let court = c.args.self.now in
    let number = c.len.ensures ∙ ap (λ (h : History). length h.events) c.history.ensures in
    record {
      kernel = c.requires.kernel;
      history = few_events court.kernel.script (past court.kernel) c.requires.begun c.has_few_events.ensures;
      goes_on = closed_alike (past court.kernel) ∙ c.requires.open_still;
      watches = heard_before c.args.policy.now court c.args.heard c.requires.newer (λ same. c.if-len-heard.false (number ∙ same));
    }

pub returns : goal.returns
returns c =
    let court = c.args.self.now in
    let number = c.len.ensures ∙ ap (λ (h : History). length h.events) c.history.ensures in
    record {
      watched = heard_one c.args.policy.now court c.args.heard c.requires.newer c.hear.new.self c.requires.kernel c.requires.begun c.requires.open_still c.requires.clean (λ same. c.if-len-heard.false (number ∙ same)) c.in_ok-hear.ensures;
      kernel = refl;
    }
