-- Each kind of request is answered by its method.
use Rattle.step_session.proofs.Told.{answered_as, on_ok}
use Rattle.step_session.proofs.answering.answer_request.Goals as goal

pub returns-in-Able : goal.returns-in-Able
returns-in-Able c =
    on_ok c.able.result
    (λ answered. answered_as c.args.origin.now c.args.request.now _ c.args.container.now c.args.container.now c.args.answers.now c.able.new.line c.in-Able.is (answered c.args.origin.now))
    c.able.ensures

pub returns-in-Task : goal.returns-in-Task
returns-in-Task c =
    on_ok c.task.result
    (λ answered. answered_as c.args.origin.now c.args.request.now _ c.args.container.now c.task.new.self c.args.answers.now c.task.new.line c.in-Task.is (answered c.args.origin.now))
    c.task.ensures

pub returns-in-Worker : goal.returns-in-Worker
returns-in-Worker c =
    on_ok c.worker.result
    (λ answered. answered_as c.args.origin.now c.args.request.now _ c.args.container.now c.worker.new.self c.args.answers.now c.worker.new.line c.in-Worker.is (answered c.args.origin.now))
    c.worker.ensures

pub returns-in-Look : goal.returns-in-Look
returns-in-Look c =
    on_ok c.look.result
    (λ answered. answered_as c.args.origin.now c.args.request.now _ c.args.container.now c.args.container.now c.args.answers.now c.look.new.line c.in-Look.is (answered c.args.origin.now))
    c.look.ensures

pub returns-in-Report : goal.returns-in-Report
returns-in-Report c =
    on_ok c.report.result
    (λ answered. answered_as c.args.origin.now c.args.request.now _ c.args.container.now c.args.container.now c.args.answers.now c.report.new.line c.in-Report.is answered)
    c.report.ensures

pub returns-in-Script : goal.returns-in-Script
returns-in-Script c =
    on_ok c.script.result
    (λ answered. answered_as c.args.origin.now c.args.request.now _ c.args.container.now c.args.container.now c.args.answers.now c.script.new.line c.in-Script.is answered)
    c.script.ensures

pub returns-in-Close : goal.returns-in-Close
returns-in-Close c =
    on_ok c.close.result
    (λ answered. answered_as c.args.origin.now c.args.request.now _ c.args.container.now c.close.new.self c.args.answers.now c.close.new.line c.in-Close.is (answered c.args.origin.now))
    c.close.ensures
