-- A script without requests was played with workers that are replaced.
-- By `handover_ends`: that it has none is what was looked at.
use Rattle.std.proofs.Common.{◌≡◌, List, length, sym, ap, ◌∙◌}
use Rattle.std.specs.Prelude.{true, ◌==◌}
use Rattle.std.proofs.lemmas.Bool.{eqb-true}
use Rattle.std.proofs.lemmas.List.{nil_from_length}
use Rattle.step_requests.specs.declared.request.Turn.{Turn}
use Rattle.play_words.proofs.Ends.{handover_ends}
use Rattle.play_words.proofs.handing_over.hand_over_files.Goals as goal

pub returns : goal.returns
returns g c =
    let file = c.in_ok-policy.field-0.file in
    let none : (length file.turns == 0) ≡ true = ap (λ (turns : List Turn). length turns == 0) (sym c.items.ensures) ∙ (sym c.is_empty.ensures ∙ c.if-not-is_empty.false) in
    handover_ends (g.F.Files.state c.args.files.now) (g.F.Files.state c.read_stated.new.files) (g.O.Sink.state c.args.out.now) (g.O.Sink.state c.print_handed_play.new.out)
    c.args.policy.now c.args.script.now c.args.every c.in_ok-policy.field-0.policy file c.print_handed_play.result c.in_ok-policy.ensures.policy c.in_ok-policy.ensures.file
    (record { turns = nil_from_length file.turns (eqb-true (length file.turns) 0 none); mediated = c.is_mediated.ensures }) c.print_handed_play.ensures
