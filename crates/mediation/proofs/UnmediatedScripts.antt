-- What two scripts play is mediated, and is not once an event is another one or left out.
-- By computing: the histories from their schedules, and then the clause that is broken.
use Rattle.std.proofs.Common.{arith, inl, inr, length, List, refl, Some, subst, sym, ℕ, ◌<◌, ◌^◌, ◌≡◌}
use Rattle.std.specs.Prelude.{Err, Ok, pos, Result}
use Rattle.sys_abi.specs.Errnos.{ebadf, enoent}
use Rattle.hist_model.specs.Calls.{calls, fetched, listed, named, queue, recvs, settled}
use Rattle.hist_model.specs.Copies.{copy_of, progress, read_text, read_value, text_from, value_from}
use Rattle.hist_model.specs.Decisions.{decide, decide_from, fits}
use Rattle.hist_model.specs.Files.{files}
use Rattle.hist_model.specs.Filters.{combine, run_from}
use Rattle.hist_model.specs.Legal.{rules_of, system_of, with_schedule, with_steps}
use Rattle.hist_model.specs.Look.{before, ev, event_at, newest, oldest}
use Rattle.hist_model.specs.Mediated.{Each, LetsGoAtEnd, Mediated}
use Rattle.hist_model.specs.Memory.{byte, last_call, mapped_bytes}
use Rattle.hist_model.specs.Paths.{pieces, walk, walk_parts}
use Rattle.hist_model.specs.Programs.{program}
use Rattle.hist_model.specs.Requests.{base_dirfd, request}
use Rattle.hist_model.specs.Sessions.{deed, session}
use Rattle.hist_model.specs.Signals.{call_of, next_signal}
use Rattle.hist_model.specs.Steps.{base, call_at, group, install_of, IsLegal, mem, oldest_unfetched, owes_native, reply, request_of, session_call, step, steps_of, task_place, task_step, times_spent, worker_step}
use Rattle.hist_model.specs.Tasks.{ended, free_from, holder, is_made, last_pid, disposition, next_pid, pending, reaped, was_waited_for}
use Rattle.hist_model.specs.Trees.{attr_replaced, entry_in, mount_on, row_in, target_of, top_through, up_through, with_lines}
use Rattle.mediation.proofs.Mediation.{mediated}
use Rattle.mediation.proofs.Played.{played_is_legal}
use Rattle.hist_model.specs.WorkedExample.{mknod_policy}
use Rattle.hist_model.specs.declared.event.Event.{Event}
use Rattle.hist_model.specs.declared.event.What.TheVariants.{Check, LetGo, OpenBase}
use Rattle.mediation.proofs.UnmediatedActs.{at-acts}
use Rattle.mediation.specs.Refused.{worker}
use Rattle.mediation.specs.Unmediated.{history, notified}
use Rattle.mediation.specs.UnmediatedActs.{AtActs}
use Rattle.mediation.specs.UnmediatedScripts.{BreaksOf, before_unbased_act, unopened_base, before_act, before_reused_act, from_directories, HasBase, interrupted, interrupted_turns, InterruptedIsPlayed, interrupting, LastAnswer, node_at_3, opening_root, other_base, own_base, OwnBaseIsPlayed, reused_base, with_directory, without}

pub own_base_is_played : OwnBaseIsPlayed
unfolding combine run_from step task_step worker_step event_at newest oldest ended was_waited_for reaped holder free_from last_pid next_pid is_made disposition pending next_signal listed fetched named settled queue calls recvs session deed program call_of steps_of reply oldest_unfetched task_place group mem base session_call install_of call_at request_of owes_native times_spent last_call byte mapped_bytes files row_in entry_in mount_on top_through target_of up_through attr_replaced with_lines pieces walk_parts walk text_from value_from copy_of read_text read_value progress request base_dirfd fits decide_from decide with_steps with_schedule
own_base_is_played = refl

pub own_base_is_mediated : Mediated from_directories with_directory own_base
own_base_is_mediated = mediated from_directories with_directory own_base
    (subst (IsLegal (system_of with_directory) (rules_of from_directories with_directory.figures)) own_base_is_played (played_is_legal from_directories with_directory (refl, (omega arith, (refl, tt))))) (omega arith)

pub interrupted_is_played : InterruptedIsPlayed
unfolding combine run_from step task_step worker_step event_at newest oldest ended was_waited_for reaped holder free_from last_pid next_pid is_made disposition pending next_signal listed fetched named settled queue calls recvs session deed program call_of steps_of reply oldest_unfetched task_place group mem base session_call install_of call_at request_of owes_native times_spent last_call byte mapped_bytes files row_in entry_in mount_on top_through target_of up_through attr_replaced with_lines pieces walk_parts walk text_from value_from copy_of read_text read_value progress request base_dirfd fits decide_from decide with_steps with_schedule
interrupted_is_played = refl

-- no such base was opened
other-opening : (place : ℕ) → event_at (history (before_act opening_root)) place ≡ Some (ev worker (OpenBase 1 (pos 3) (Ok tt))) → ⊥
unfolding event_at
other-opening place h = grind arith

other-base : AtActs HasBase other_base → ⊥
unfolding session session_call oldest_unfetched fetched listed named oldest event_at files holder reaped ended was_waited_for newest with_lines task_place group mem base_dirfd
other-base h =
    let z = h.1.1.1.1.0 0 _ _ _ refl refl in
    let n : z.1 ≡ notified node_at_3 1 = cc (z.3) in
    elim (rw n at z.4) [ inl r ↦ cc (r.no_base) | inr o ↦ other-opening o.place o.opening ]

-- and it was opened at one place, but the directory that it names there is another task's
reused-opening : (place : ℕ) → event_at (history before_reused_act) place ≡ Some (ev worker (OpenBase 2 (pos 3) (Ok tt))) → place ≡ 19
unfolding event_at
reused-opening place h = grind arith

reused-base : AtActs HasBase reused_base → ⊥
unfolding before session session_call oldest_unfetched fetched listed named newest oldest event_at holder reaped ended was_waited_for group task_place mem files last_call byte row_in entry_in mount_on top_through target_of up_through with_lines pieces walk_parts walk text_from value_from copy_of request base_dirfd
reused-base h =
    let z = h.0 0 _ _ _ refl refl in
    let c : z.0 ≡ 6 = cc (z.2) in
    let n : z.1 ≡ record (notified node_at_3 1) { pid = 2 } = cc (z.3) in
    elim (rw (c, n) at z.4) [
      | inl r ↦ cc (r.no_base)
      | inr o ↦ let p = reused-opening o.place o.opening in let g : o.group ≡ 4 = cc (o.of_caller) in cc (rw (p, g) at o.is_base)
    ]

-- where no base is asked for, none was refused and none was opened
never-opened : (place : ℕ) (a : Result (Unit {0}) ℕ) → event_at (history before_unbased_act) place ≡ Some (ev worker (OpenBase 1 (pos 3) a)) → ⊥
unfolding event_at
never-opened place a h = grind arith

unopened-base : AtActs HasBase unopened_base → ⊥
unfolding session session_call oldest_unfetched fetched listed named oldest event_at base_dirfd
unopened-base h =
    let z = h.1.0 0 _ _ _ refl refl in
    let n : z.1 ≡ notified node_at_3 1 = cc (z.3) in
    elim (rw n at z.4) [ inl r ↦ never-opened r.place (Err ebadf) r.opening | inr o ↦ never-opened o.place (Ok tt) o.opening ]

breaks-base : (K : List Event) → (AtActs HasBase K → ⊥) → BreaksOf from_directories with_directory (AtActs HasBase) K
breaks-base K refuted = (refuted, λ m. refuted (at-acts from_directories with_directory HasBase (λ L w c n i o b. (c, n, i.of_call, i.notif_is, b)) K m.effects.acts))

pub other_bases : BreaksOf from_directories with_directory (AtActs HasBase) other_base × BreaksOf from_directories with_directory (AtActs HasBase) reused_base
    × BreaksOf from_directories with_directory (AtActs HasBase) unopened_base
other_bases = (breaks-base other_base other-base, breaks-base reused_base reused-base, breaks-base unopened_base unopened-base)

pub interrupted_is_mediated : Mediated mknod_policy interrupting interrupted
interrupted_is_mediated = mediated mknod_policy interrupting interrupted (played_is_legal mknod_policy interrupting (refl, (refl, (omega arith, (refl, (refl, (omega arith, (refl, (refl, tt))))))))) (subst (λ K. length K < 2 ^ 64) (sym interrupted_is_played) (omega arith))

pub last_answer : LastAnswer
unfolding event_at
last_answer = subst (λ K. (event_at K 13 ≡ Some (ev worker (Check 1 (Err enoent)))) × (event_at K 14 ≡ Some (ev worker LetGo))) (sym interrupted_is_played) (refl, refl)

unanswered : Each LetsGoAtEnd (without 13 (history interrupted_turns)) → ⊥
unfolding session
unanswered h = cc (h.1.1.1.1.1.1.1.1.1.1.1.1.1.1.0 0 refl refl)

pub unanswered_is_refused : BreaksOf mknod_policy interrupting (Each LetsGoAtEnd) (without 13 interrupted)
unanswered_is_refused = subst (λ K. BreaksOf mknod_policy interrupting (Each LetsGoAtEnd) (without 13 K)) (sym interrupted_is_played) (unanswered, λ m. unanswered m.answers.lets_go)
