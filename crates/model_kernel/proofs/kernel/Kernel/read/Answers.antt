use Rattle.std.proofs.Common.{refl, ap, ◌∙◌, ◌≡◌, Ok}
use Rattle.std.specs.Result.{result_and}
use Rattle.hist_model.specs.Steps.{mem, read_answer}
use Rattle.model_kernel.proofs.Words.{past, Read, system}
use Rattle.model_kernel.proofs.Workers.{idled}
use Rattle.model_kernel.proofs.kernel.Kernel.read.Goals as goal

-- what the step tells
told : (c : goal.After-note) → c.text_read-answer.result ≡ read_answer (system c.args.self.now) (past c.args.self.now) (mem (past c.args.self.now) c.args.worker) c.args.addr c.args.len
told c = c.text_read-answer.ensures _ c.peek-found.ensures.answer

pub returns-clause-deed : goal.returns-clause-deed
returns-clause-deed c = idled c.args.self.now c.note.new.self c.args.worker _ _ c.requires.kernel refl (ap (λ a. Read c.args.addr c.args.len a) (told c)) c.note.ensures.events c.note.ensures.same tt

pub returns-clause-answer : goal.returns-clause-answer
returns-clause-answer c = c.without_bytes-outcome.ensures ∙ ap (λ a. result_and a (Ok tt)) (told c)
