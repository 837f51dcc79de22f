-- The deed that is due is that of the worker's steps; its answer is taken and noted.
use Rattle.std.proofs.Common.{◌∙◌, ap, sym, subst}
use Rattle.broker_core.specs.Answers.{is_let_go, told}
use Rattle.worker_ledger.proofs.Fitting.{due_is, taken_as}
use Rattle.worker_ledger.specs.Notes.{Notes}
use Rattle.worker_ledger.specs.Successors.{is_answer_to}
use Rattle.worker_ledger.proofs.successor.Successor.take_last.Goals as goal

pub returns-then-not-is_answer_to : goal.returns-then-not-is_answer_to
returns-then-not-is_answer_to c = λ own r.
    let k = c.in_ok-ready.ensures.known own r in
    let d = due_is c.args.policy.now c.args.self.now.worker.figures c.ready.new.self.figures own c.next-deed.result c.in_ok-ready.ensures.figures (c.next-deed.ensures.deed c.args.policy.now own k) in
    sym (ap (λ n. is_answer_to n (told c.args.got.now)) d) ∙ sym c.is_answer_to.ensures ∙ c.if-not-is_answer_to.true

pub returns : goal.returns
returns c = λ own r.
    let k = c.in_ok-ready.ensures.known own r in
    let d = due_is c.args.policy.now c.args.self.now.worker.figures c.ready.new.self.figures own c.next-deed.result c.in_ok-ready.ensures.figures (c.next-deed.ensures.deed c.args.policy.now own k) in (
      sym (ap (λ n. is_answer_to n (told c.args.got.now)) d) ∙ sym c.is_answer_to.ensures ∙ c.if-not-is_answer_to.false,
      taken_as c.args.policy.now c.args.self.now.worker.figures c.ready.new.self.figures own (told c.args.got.now) c.took.new.self c.in_ok-ready.ensures.figures (c.took.ensures.known c.args.policy.now own k),
      subst (λ g. Notes g (told c.args.got.now) c.args.self.now.ledger c.note.new.self) (c.is_let_go.ensures ∙ ap is_let_go d) c.in_ok-note.ensures.noted,
      c.took.ensures.figures ∙ c.in_ok-ready.ensures.figures,
      c.in_ok-note.ensures.no,
    )
