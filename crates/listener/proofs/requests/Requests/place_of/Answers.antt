use Rattle.std.proofs.Common.{sym, ap, ◌∙◌}
use Rattle.std.specs.Prelude.{position}
use Rattle.std.proofs.lemmas.List.Quantifiers.{position-Some}
use Rattle.listener.specs.Requests.{is_of}
use Rattle.listener.proofs.Requesting.{placed}
use Rattle.listener.proofs.requests.Requests.place_of.Goals as goal

pub unreachable-requires : goal.unreachable-requires
unreachable-requires c =
    placed (is_of c.args.worker) c.args.self.now c.requires
    (ap (position (is_of c.args.worker)) (sym c.self.view_is ∙ sym c.deref.ensures.value) ∙ sym c.in_default.ensures)

pub returns-clause-is_its : goal.returns-clause-is_its
returns-clause-is_its c d =
    (position-Some (is_of c.args.worker) c.args.self.now c.in-Some.place d
    (ap (position (is_of c.args.worker)) (sym c.self.view_is ∙ sym c.deref.ensures.value) ∙ sym c.in-Some.ensures)).1
