use Rattle.std.proofs.Common.{rules, refl, subst, ◌≡◌, ℤ, to_z, of_z, w32}
use Rattle.hist_model.specs.Steps.{base_answer}
use Rattle.hist_model.specs.Tasks.{holder}
use Rattle.model_kernel.proofs.Words.{ev, IsAfter, OpenBase, past, system, Worker}
use Rattle.model_kernel.proofs.Workers.{taken}
use Rattle.model_kernel.proofs.kernel.Kernel.open_base.Goals as goal

-- the descriptor, as the code passes it
abbrev passed : ℤ → ℤ
passed d = to_z w32 (of_z w32 d)

pub returns-clause-answer : goal.returns-clause-answer
returns-clause-answer c =
    let k = c.args.self.now in
    let same : passed c.args.dirfd ≡ c.args.dirfd = search rules in
    subst (λ d. c.based-answer.result ≡ base_answer (system k) (past k) (holder (past k) c.args.pid) d) same c.based-answer.ensures.answer

pub returns-clause-deed : goal.returns-clause-deed
returns-clause-deed c =
    let k = c.args.self.now in
    let same : passed c.args.dirfd ≡ c.args.dirfd = search rules in
    subst (λ d. IsAfter k (ev (Worker c.args.worker) (OpenBase c.args.pid d (base_answer (system k) (past k) (holder (past k) c.args.pid) d))) c.note.new.self) same
    (taken k _ c.note.new.self c.args.worker (λ a. OpenBase c.args.pid (passed c.args.dirfd) a) _ _ _ c.requires.kernel refl c.same-told.ensures c.based-answer.ensures.answer c.based-answer.ensures.served c.note.ensures.events c.note.ensures.same)
