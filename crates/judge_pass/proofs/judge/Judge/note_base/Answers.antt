-- The directory is kept, and how far it can be relied on for the call in hand.
use Rattle.std.proofs.Common.{◌≡◌, refl, rules, sym, to_z, of_z, w32}
use Rattle.judge_pass.proofs.HandTests.{as-event}
use Rattle.judge_pass.proofs.WorkerEvents.{base-opened, base-held, some-below}
use Rattle.judge_pass.proofs.judge.Judge.note_base.Goals as goal

pub returns-in-Some : goal.returns-in-Some
returns-in-Some c pid P S K e s history kind =
    let same : to_z w32 (of_z w32 c.args.dirfd) ≡ c.args.dirfd = search rules in
    let based = rw (← kind.0) at (rw same at c.named-base.ensures) in
    let worth = rw (← kind.0) at (c.base_now-base_worth.ensures P K (rw kind.0 at s)) in
    as-event P S K e _ kind.1 history _ (λ h.
    base-opened P S K c.args.worker c.args.self.now s c.requires.worker c.index_mut-seat.result.now c.index_mut-seat.ensures.value pid c.args.dirfd h _ refl c.in-Some.group
    (rw c.in-Some.is at (c.group_of.ensures.group P S K pid s kind.2)) (some-below _ c.in-Some.group _ _ c.in-Some.is s.groups_are (c.group_of.ensures.made c.requires.within))
    based (sym worth))

pub returns-in_default : goal.returns-in_default
returns-in_default c pid P S K e s history kind =
    as-event P S K e _ kind.1 history _ (λ h. base-held P S K c.args.worker c.args.self.now pid c.args.dirfd h (rw c.in_default.is at (c.group_of.ensures.group P S K pid s kind.2)))
