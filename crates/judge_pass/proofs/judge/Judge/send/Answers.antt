-- What the answer tells is noted, then its call is answered, and then the seat has sent.
use Rattle.std.proofs.Common.{◌≡◌, List, reverse, ap, sym, subst, ◌∙◌, arith}
use Rattle.std.proofs.lemmas.List.{reverse-reverse}
use Rattle.hist_model.specs.Look.{ev}
use Rattle.hist_model.specs.declared.event.Actor.TheVariants.{Worker}
use Rattle.hist_model.specs.declared.event.Event.{Event}
use Rattle.hist_model.specs.declared.event.What.TheVariants.{Send}
use Rattle.judge_pass.specs.Stands.{Stands}
use Rattle.judge_pass.specs.Told.{NotesTold}
use Rattle.judge_pass.proofs.HandTests.{as-event}
use Rattle.judge_pass.proofs.SentAnswers.{kept-counts, kept-seats, stands-sent}
use Rattle.judge_pass.proofs.judge.Judge.send.Goals as goal

pub overflow_add-self : goal.overflow_add-self
overflow_add-self c =
    let same = kept-counts c.args.answer.now _ c.args.self.now c.note_answer_told.new.self c.settle_where_taken.new.self c.note_answer_told.ensures.rest c.settle_where_taken.ensures in
    rw same (omega (arith, c.requires.few))

pub index_mut-requires : goal.index_mut-requires
index_mut-requires c =
    let same = kept-seats c.args.answer.now _ c.args.self.now c.note_answer_told.new.self c.settle_where_taken.new.self c.note_answer_told.ensures.rest c.settle_where_taken.ensures in
    rw same (omega (arith, c.args.self.now.seats.ok.0, c.requires.within.seats_are, c.requires.worker))

pub returns : goal.returns
returns c P S K e s history kind =
    let back : reverse c.args.before.now ≡ K = ap reverse kind.1 ∙ reverse-reverse K in
    let sent = ev (Worker c.args.worker) (Send c.args.id c.args.back.now c.args.answer.now) in
    let stood : Stands P S (reverse c.args.before.now) c.args.self.now = subst (λ (H : List Event). Stands P S H c.args.self.now) (sym back) s in
    let noted : NotesTold K sent c.args.self.now c.note_answer_told.new.self =
    subst (λ (H : List Event). NotesTold H sent c.args.self.now c.note_answer_told.new.self) back (c.in_ok-note_answer_told.ensures.noted P S c.args.id stood) in
    as-event P S K e sent kind.0 history _ (λ h.
    stands-sent P S K c.args.worker c.args.id c.args.back.now c.args.self.now s (omega (arith, c.ranges.id.fits)) c.args.answer.now h c.requires.worker c.note_answer_told.new.self c.settle_where_taken.new.self noted
    c.settle_where_taken.ensures c.index_mut.result.now c.index_mut.ensures.value)
