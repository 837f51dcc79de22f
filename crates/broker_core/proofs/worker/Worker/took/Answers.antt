use Rattle.std.proofs.Common.{◌≡◌, ◌∙◌, sym, Some}
use Rattle.hist_model.specs.Legal.{rules_of}
use Rattle.hist_model.specs.Sessions.{deed}
use Rattle.broker_core.specs.Answers.{shown, told}
use Rattle.broker_core.specs.Remembered.{KnowsIf}
use Rattle.broker_core.proofs.Answered.{not_yet, idle_after, one_more, fits_as}
use Rattle.broker_core.proofs.Dues.{can_take}
use Rattle.broker_core.proofs.Workers.{due_deed, receives_next}
use Rattle.broker_core.proofs.worker.Worker.took.Goals as goal

pub returns-then-is_not_yet-clause-known : goal.returns-then-is_not_yet-clause-known
returns-then-is_not_yet-clause-known c = λ P own r.
    rw (not_yet (deed (rules_of P c.args.self.now.figures) own) (told c.args.got.now) own (sym c.is_not_yet.ensures ∙ c.if-is_not_yet.true)) r

pub returns-then-is_let_go-clause-known : goal.returns-then-is_let_go-clause-known
returns-then-is_let_go-clause-known c = λ P own r.
    let d = deed (rules_of P c.args.self.now.figures) own in
    let e : c.args.next.now ≡ shown d = due_deed P own c.args.self.now c.args.next.now c.requires.due r in
    let f = fits_as c.args.next.now (shown d) (told c.args.got.now) e c.requires.fits in
    idle_after d (told c.args.got.now) own (rw e at (sym c.is_let_go.ensures ∙ c.if-is_let_go.true)) f

pub took-requires : goal.took-requires
took-requires c = can_take c.args.self.now c.in-Some.session c.args.next.now (told c.args.got.now) c.in-Some.is c.requires.due c.requires.ready c.requires.fits (sym c.is_let_go.ensures ∙ c.if-is_let_go.false)

pub returns-in-None-clause-known : goal.returns-in-None-clause-known
returns-in-None-clause-known c = λ P own r.
    rw (receives_next P c.args.self.now.figures own c.args.self.now.capture c.args.self.now.session c.in-None.is r) (c.receive.ensures.known P own r)

pub returns-in-Some-clause-known : goal.returns-in-Some-clause-known
returns-in-Some-clause-known c = λ P own r.
    let d = deed (rules_of P c.args.self.now.figures) own in
    let k : KnowsIf P.rules own c.args.self.now.capture (Some c.in-Some.session) = rw c.in-Some.is at r in
    let t = can_take c.args.self.now c.in-Some.session c.args.next.now (told c.args.got.now) c.in-Some.is c.requires.due c.requires.ready c.requires.fits (sym c.is_let_go.ensures ∙ c.if-is_let_go.false) in
    one_more P.rules own c.args.self.now.capture c.took.new.capture c.in-Some.session c.took.new.self d c.args.next.now (told c.args.got.now) (due_deed P own c.args.self.now c.args.next.now c.requires.due r)
    t c.requires.fits (sym c.is_not_yet.ensures ∙ c.if-is_not_yet.false) (λ q b. c.took.ensures P.rules own q b k) k
