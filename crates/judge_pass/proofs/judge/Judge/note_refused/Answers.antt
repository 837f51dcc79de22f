use Rattle.std.proofs.Common.{◌≡◌, sym, ◌∙◌, rules, to_z, of_z, w32}
use Rattle.judge_pass.proofs.HandTests.{as-event}
use Rattle.judge_pass.proofs.WorkerEvents.{base-refused, refused-now, refused-still}
use Rattle.judge_pass.proofs.judge.Judge.note_refused.Goals as goal

pub returns-then-is_refused : goal.returns-then-is_refused
returns-then-is_refused c pid P S K e s history kind =
    let same : to_z w32 (of_z w32 c.args.dirfd) ≡ c.args.dirfd = search rules in
    let said = rw (← kind.0) at (rw same at (c.is_refused.ensures P K (rw kind.0 at s))) in
    as-event P S K e _ kind.1 history _ (λ h.
    base-refused P S K c.args.worker c.args.self.now s c.requires.worker c.index_mut.result.now c.index_mut.ensures.value pid c.args.dirfd c.args.errno h _
    (refused-now S K c.args.worker pid c.args.dirfd c.args.errno _ (sym said ∙ c.if-is_refused.true)))

pub returns-else-is_refused : goal.returns-else-is_refused
returns-else-is_refused c pid P S K e s history kind =
    let same : to_z w32 (of_z w32 c.args.dirfd) ≡ c.args.dirfd = search rules in
    let said = rw (← kind.0) at (rw same at (c.is_refused.ensures P K (rw kind.0 at s))) in
    as-event P S K e _ kind.1 history _ (λ h.
    refused-still P S K c.args.worker c.args.self.now s c.requires.worker pid c.args.dirfd c.args.errno h (sym said ∙ c.if-is_refused.false))
