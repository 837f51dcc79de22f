-- Small histories in which a worker is told what isn't so.
-- By computing: each breaks a clause at its wrong step.
use Rattle.std.proofs.Common.{ap, arith, get_or, inl, inr, List, refl, ℕ, ◌≡◌}
use Rattle.std.specs.Prelude.{Err, Ok, negsuc, Result}
use Rattle.hist_model.specs.Look.{event_at, newest, oldest}
use Rattle.hist_model.specs.Tasks.{ended, was_waited_for, reaped, holder, is_made}
use Rattle.hist_model.specs.Calls.{listed, fetched, named, queue}
use Rattle.hist_model.specs.Steps.{oldest_unfetched, task_place, group, mem, session_call, install_of, call_at, request_of, times_spent}
use Rattle.hist_model.specs.Memory.{byte, mapped_bytes}
use Rattle.hist_model.specs.Files.{files}
use Rattle.hist_model.specs.Trees.{row_in, entry_in, mount_on, top_through, target_of, up_through, with_lines}
use Rattle.hist_model.specs.Paths.{pieces, walk_parts, walk}
use Rattle.hist_model.specs.Mediated.{Each, LostIfGone, FetchesOldest, FindsNone, OpensMemory, OpensBase, ChecksOwn, ReadsMemory, ActsOnTree, PlantsWhereMapped, PutsOpen, TakesInstalled}
use Rattle.sys_abi.specs.declared.wire.Notif.{Notif}
use Rattle.mediation.proofs.Unmediated.{breaks}
use Rattle.mediation.specs.Unmediated.{container, Breaks, notified, file}
use Rattle.mediation.specs.Misled.{younger_fetched, altered_notification, blind_receive, blind_check, stray_check, late_check, unheld_memory, lost_root, other_bytes, other_outcome, unmapped_figures}
use Rattle.mediation.specs.Misled.{closed_descriptor, other_number_taken, early_take, of_child}

-- ---- receives

younger-fetched : Breaks (Each FetchesOldest) younger_fetched
unfolding oldest_unfetched fetched listed named oldest event_at
younger-fetched = breaks (Each FetchesOldest) younger_fetched (λ m. m.told.fetches_oldest) (λ h.
    let z = h.0 of_child refl in let c : z.call ≡ 3 = cc (z.oldest) in cc (ap (λ (n : Notif). n.id) (rw c at z.whole)))

altered-notification : Breaks (Each FetchesOldest) altered_notification
unfolding oldest_unfetched fetched listed named oldest event_at
altered-notification = breaks (Each FetchesOldest) altered_notification (λ m. m.told.fetches_oldest) (λ h.
    let z = h.0 (notified file 1) refl in
    let c : z.call ≡ 2 = cc (z.oldest) in
    let q : 4294967196 ≡ 65789 = ap (λ (n : Notif). get_or n.call.args 0 0) (rw c at z.whole) in
    absurd (omega arith))

blind-receive : Breaks (Each FindsNone) blind_receive
unfolding oldest_unfetched fetched listed oldest event_at
blind-receive = breaks (Each FindsNone) blind_receive (λ m. m.told.finds_none) (λ h. cc ((h.0 2 refl).none))

-- ---- checks

blind-check : Breaks (Each ChecksOwn) blind_check
unfolding session_call named fetched listed oldest event_at
blind-check = breaks (Each ChecksOwn) blind_check (λ m. m.told.checks_own) (λ h.
    let z = h.1.0 0 2 (Err 2) refl refl in let c : z.call ≡ 4 = cc (z.of_call) in cc (rw c at z.answer))

blind-loss : Breaks (Each LostIfGone) blind_check
unfolding session_call named fetched listed oldest event_at
blind-loss = breaks (Each LostIfGone) blind_check (λ m. m.told.lost) (λ h.
    let z = h.1.0 0 refl refl in let c : z.call ≡ 4 = cc (z.of_call) in cc (rw c at z.not_listed))

stray-check : Breaks (Each ChecksOwn) stray_check
unfolding session_call named fetched listed oldest event_at
stray-check = breaks (Each ChecksOwn) stray_check (λ m. m.told.checks_own) (λ h.
    let z = h.0 0 2 (Ok tt) refl refl in let c : z.call ≡ 2 = cc (z.of_call) in cc (rw c at z.id_is))

late-check : Breaks (Each ChecksOwn) late_check
unfolding session_call named fetched listed oldest event_at
late-check = breaks (Each ChecksOwn) late_check (λ m. m.told.checks_own) (λ h.
    let z = h.0 0 1 (Ok tt) refl refl in let c : z.call ≡ 2 = cc (z.of_call) in cc (rw c at z.answer))

-- ---- openings and reads

unheld-memory : Breaks (Each OpensMemory) unheld_memory
unfolding holder newest event_at reaped ended was_waited_for
unheld-memory = breaks (Each OpensMemory) unheld_memory (λ m. m.told.opens_memory) (λ h. cc (h.0 0 2 (Ok tt) refl refl))

lost-root : Breaks (Each (OpensBase container)) lost_root
unfolding holder newest event_at reaped ended was_waited_for
lost-root = breaks (Each (OpensBase container)) lost_root (λ m. m.told.opens_base) (λ h. cc (h.0 0 1 (negsuc 99) (Err 9) refl refl))

-- the second byte that was read
letter : Result (List ℕ) ℕ → ℕ
letter (Ok bytes) = get_or bytes 1 0
letter (Err e) = 0

other-bytes : Breaks (Each (ReadsMemory container)) other_bytes
unfolding mem holder newest oldest event_at reaped ended was_waited_for is_made task_place group byte mapped_bytes letter
other-bytes = breaks (Each (ReadsMemory container)) other_bytes (λ m. m.told.reads_memory) (λ h. let q : 97 ≡ 98 = ap letter (h.1.1.1.0 0 65789 3 0 _ refl refl refl) in absurd (omega arith))

-- ---- what is done

other-outcome : Breaks (Each (ActsOnTree container)) other_outcome
unfolding times_spent files task_place group holder newest oldest event_at reaped ended was_waited_for row_in entry_in mount_on top_through target_of up_through with_lines pieces walk_parts walk
other-outcome = breaks (Each (ActsOnTree container)) other_outcome (λ m. m.told.acts_on_tree) (λ h. cc (h.1.0 0 _ _ _ refl refl))

unmapped-figures : Breaks (Each (PlantsWhereMapped container)) unmapped_figures
unmapped-figures = breaks (Each (PlantsWhereMapped container)) unmapped_figures (λ m. m.told.plants_where_mapped) (λ h. cc (h.1.0 0 0 _ _ _ refl refl))

-- ---- descriptors

closed-descriptor : Breaks (Each (PutsOpen container)) closed_descriptor
unfolding session_call named fetched listed oldest event_at
closed-descriptor = breaks (Each (PutsOpen container)) closed_descriptor (λ m. m.told.puts_open) (λ h.
    let z = h.1.0 0 _ _ refl refl in let c : z.call ≡ 2 = cc (z.of_call) in cc (rw c at z.answer))

-- what was taken, by what was installed for the session's request
other-number-taken : Breaks (Each TakesInstalled) other_number_taken
unfolding request_of install_of call_at queue listed named oldest event_at
other-number-taken = breaks (Each TakesInstalled) other_number_taken (λ m. m.told.takes_installed) (λ h.
    let z = h.1.0 0 (Ok 4) refl refl in let r : z.request ≡ 9 = cc (z.put_by) in elim (rw r at z.answer) [ inl q ↦ cc q | inr q ↦ cc q.1 ])

early-take : Breaks (Each TakesInstalled) early_take
unfolding request_of install_of call_at queue listed named oldest event_at
early-take = breaks (Each TakesInstalled) early_take (λ m. m.told.takes_installed) (λ h.
    let z = h.1.0 0 (Ok 3) refl refl in let r : z.request ≡ 9 = cc (z.put_by) in elim (rw r at z.answer) [ inl q ↦ cc q | inr q ↦ cc q.1 ])

-- ---- all of them

pub misreceived : Breaks (Each FetchesOldest) younger_fetched × Breaks (Each FetchesOldest) altered_notification × Breaks (Each FindsNone) blind_receive
misreceived = (younger-fetched, altered-notification, blind-receive)

pub mischecked : Breaks (Each ChecksOwn) blind_check × Breaks (Each LostIfGone) blind_check × Breaks (Each ChecksOwn) stray_check × Breaks (Each ChecksOwn) late_check
mischecked = (blind-check, blind-loss, stray-check, late-check)

pub misread : Breaks (Each OpensMemory) unheld_memory × Breaks (Each (OpensBase container)) lost_root × Breaks (Each (ReadsMemory container)) other_bytes
misread = (unheld-memory, lost-root, other-bytes)

pub misdone : Breaks (Each (ActsOnTree container)) other_outcome × Breaks (Each (PlantsWhereMapped container)) unmapped_figures × Breaks (Each (PutsOpen container)) closed_descriptor
misdone = (other-outcome, unmapped-figures, closed-descriptor)

pub mistaken : Breaks (Each TakesInstalled) other_number_taken × Breaks (Each TakesInstalled) early_take
mistaken = (other-number-taken, early-take)
