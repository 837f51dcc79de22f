use Rattle.std.proofs.Common.{sym, ap, ◌∙◌}
use Rattle.std.specs.Prelude.{position}
use Rattle.listener.proofs.Requesting.{told-at, told-none}
use Rattle.listener.proofs.KeptLemmas.{kept-told}
use Rattle.listener.specs.Requests.{is_waiting}
use Rattle.listener.proofs.requests.Requests.done.Goals as goal

pub returns-in-Some : goal.returns-in-Some
returns-in-Some c =
    told-at c.args.id c.args.answer c.self.inside.requests.items c.args.self.now c.in-Some.place c.index_mut.result.now c.self.view_is c.index_mut.ensures.value
    (ap (position (is_waiting c.args.id)) (sym c.self.view_is ∙ sym c.deref.ensures.value) ∙ sym c.in-Some.ensures)

pub returns-in_default : goal.returns-in_default
returns-in_default c = sym (told-none c.args.id c.args.answer c.args.self.now (ap (position (is_waiting c.args.id)) (sym c.self.view_is ∙ sym c.deref.ensures.value) ∙ sym c.in_default.ensures))

pub invariant_of-self : goal.invariant_of-self
invariant_of-self c = rw (returns-in-Some c, ← c.self.view_is) (kept-told c.args.id c.args.answer _ _ c.self.invariant)
