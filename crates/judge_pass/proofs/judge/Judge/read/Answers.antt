use Rattle.std.proofs.Common.{arith, sym, ◌∙◌, ap, ◌<◌, length}
use Rattle.broker_judge.specs.Reads.{worth_of}
use Rattle.broker_verdict.specs.Seats.{worth_now}
use Rattle.judge_pass.specs.Stands.{place_of_call}
use Rattle.judge_pass.specs.declared.seats.Seat.{Seat}
use Rattle.judge_pass.proofs.WorkerEvents.{read-none, read-some}
use Rattle.judge_pass.proofs.HandTests.{as-event}
use Rattle.judge_pass.proofs.Rows.{same-item}
use Rattle.judge_pass.proofs.judge.Judge.read.Goals as goal

pub returns-in_default : goal.returns-in_default
returns-in_default c P S K e s history kind =
    as-event P S K e _ kind.0 history _ (λ h. read-none P S K c.args.worker c.args.self.now s c.requires.worker c.index.result.now c.index.ensures c.args.addr c.args.len c.args.answer.now h c.in_default.is)

pub returns : goal.returns
returns c P S K e s history kind =
    let j = c.args.self.now in
    let old = c.index_mut.result.now in
    let l : c.args.worker < length j.seats.items = omega (arith, c.requires.within.seats_are) in
    let one = same-item j.seats.items c.args.worker old c.index.result.now l c.index_mut.ensures.value c.index.ensures in
    let two = same-item j.seats.items c.args.worker old c.index-2.result.now l c.index_mut.ensures.value c.index-2.ensures in
    let item = rw c.in_ok-answer.ensures at c.new.ensures in
    as-event P S K e _ kind.0 history _ (λ h.
    read-some P S K c.args.worker j s c.requires.worker old c.index_mut.ensures.value c.args.addr c.args.len c.args.answer.now h c.in-Some.group (ap (λ (x : Seat). x.memory) one ∙ c.in-Some.is)
    c.read.new.self c.read.ensures.rest (worth_of c.worth_now-worth.result)
    (λ m at. c.worth_now-worth.ensures P S K m s at ∙ ap (λ (x : Seat). worth_now K (place_of_call K x.call) m) (sym two))
    (rw (← item) c.in_ok-read.ensures.reads) (rw kind.1 c.in_ok-read.ensures.read_at))
