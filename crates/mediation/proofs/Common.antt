-- The words of the library, the kernel and the histories that the proofs speak of.
-- By taking them from other files under their own names: nothing is proved here.
pub use Rattle.std.proofs.Common.{[], add-one, ap, ap₂, arith, Bool, false, get_or, inl, inr, length, List, None, not, Option, refl, reverse, Some, subst, suc, sym, take, true, zero, ℕ, ◌%◌, ◌&&◌}
pub use Rattle.std.proofs.Common.{◌++◌, ◌+◌, ◌-◌, ◌<◌, ◌^◌, ◌||◌, ◌∙◌, ◌∷◌, ◌≡◌, ◌≤◌, ◌⊎◌}
pub use Rattle.std.proofs.lemmas.Bool.{and_from, and_parts, both_ways, cases_Bool, cases_order, eq-eqb, eqb-true, false_from_ne_true, le-leb, leb-true, lt-leb, ne_eqb, not-true, or_cases}
pub use Rattle.std.proofs.lemmas.Bool.{or_left, or_parts, or_right}
pub use Rattle.std.proofs.lemmas.List.{append-nil, append_assoc, append_cancel_left, append_cancel_right, reverse-append, take_more}
pub use Rattle.std.specs.List.{flat_map, list_any, starts_with}
pub use Rattle.std.specs.Prelude.{bytes_eq, codes, Err, filter, if◌then◌else◌, nat_eq, nat_le, Ok, pos, Result, ℤ, ◌==◌}
pub use Rattle.sys_abi.specs.declared.wire.Addfd.{Addfd}
pub use Rattle.sys_abi.specs.declared.wire.Notif.{Notif}
unfoldable pub use Rattle.hist_model.specs.Calls.{calls, fetched, listed, named, queue, recvs, settled}
pub use Rattle.hist_model.specs.Kinds.{closes, gave, has_send, is_install, leaves, notifies, is_passive, ends_work, is_accepted, is_busy, is_effect, is_known_error, is_lost, returns, is_good_check, is_opening, is_gone, checks, gives_up, is_letgo, opens, opens_base, skips, starts, ends, makes}
pub use Rattle.hist_model.specs.Calls.{answered, answers, caller, count, fetches, first_sends, id, installs_for, is_call, is_send, notify_id}
pub use Rattle.hist_model.specs.Calls.{puts_to, settles, some_sends, unlists, waiting}
pub use Rattle.hist_model.specs.Causes.{Cause, denied, done, faulty, is_acting, not_put, not_taken, passed}
unfoldable pub use Rattle.hist_model.specs.Copies.{copy_of, heard, progress}
pub use Rattle.hist_model.specs.Copies.{Complete, fits_piece, plan, Progress, wanted, with_heard}
unfoldable pub use Rattle.hist_model.specs.Files.{files}
pub use Rattle.hist_model.specs.Files.{after_native, files_after}
unfoldable pub use Rattle.hist_model.specs.Laws.{answers_to, count_below, empty_recvs, fetcher, last_own}
pub use Rattle.hist_model.specs.Laws.{AnsweredOnce, CallsAreLast, CountIs, IdsDiffer, PidsDiffer, worker_of}
pub use Rattle.hist_model.specs.Legal.{copied, decision, Finished, is_open_session, judged, outcome, played, read_answers, rules_of, started, system_of, with_step}
unfoldable pub use Rattle.hist_model.specs.Look.{before, event_at, newest, oldest}
pub use Rattle.hist_model.specs.Look.{ev, is_place, is_task, is_worker, Name, name_eq, task_name}
pub use Rattle.hist_model.specs.Mediated.{ActIsGranted, ActsAlone, ActsOnTree, Arrives, AuditNames, BaseIs, ChecksOwn, DeliversSent, Each, ends_with_check}
pub use Rattle.hist_model.specs.Mediated.{EntersAsFiltered, ErrorsKnown, FailsAlone, FetchesOldest, Finds, FindsNone, has_ended, HasCause, HasMemory}
pub use Rattle.hist_model.specs.Mediated.{InstallsAlone, InstallsThere, is_others_row, is_until_checked}
pub use Rattle.hist_model.specs.Mediated.{IsMediated, IsOldestUnfetched}
pub use Rattle.hist_model.specs.Mediated.{KeepsOrder, KeepsPrivileged, left_unfetched, LetsGoAtEnd, LostIfGone, Mediated, NamesOwn, NeverBusy, OneSession}
pub use Rattle.hist_model.specs.Mediated.{OpensBase, OpensMemory, PlantIsGranted, PlantsWhereMapped, PutIsInjected, PutsOpen, ReadsMemory}
pub use Rattle.hist_model.specs.Mediated.{ReadsOwn, ReceivesFor, ReceivesIdle, RunsNatively, slot_next, SpentExactly}
pub use Rattle.hist_model.specs.Mediated.{TakenByItsActor, takes, TakesInstalled, TimesKept, WaitedUntilChecked}
pub use Rattle.hist_model.specs.Natives.{base_of, call_natively, changed, Changes, close_natively, copied_natively, Fails, Files, Gives, has_base, native_step, NativeStep, Writes}
pub use Rattle.hist_model.specs.Orders.{InOrder}
pub use Rattle.hist_model.specs.ReportAudit.{checked_twice, finding, finding_of, judging_by, reads, session_step}
unfoldable pub use Rattle.hist_model.specs.Requests.{base_dirfd, request}
pub use Rattle.hist_model.specs.Deeds.{Deed}
unfoldable pub use Rattle.hist_model.specs.Sessions.{deed, session}
pub use Rattle.hist_model.specs.Sessions.{Acts, addfd_of, any_of, based_deed, checked_deed, Decision, fetched_by, first_some, Injects, joined, judged_deed, notif_of}
pub use Rattle.hist_model.specs.Sessions.{number_of, open_deed, outcome_in, Plants, put_in, reads_of, Rules, take_in}
unfoldable pub use Rattle.hist_model.specs.Signals.{call_of, next_signal}
pub use Rattle.hist_model.specs.Signals.{effect_on}
pub use Rattle.hist_model.specs.Filters.{verdict}
unfoldable pub use Rattle.hist_model.specs.Steps.{base, call_at, group, install_of, mem, oldest_unfetched, owes_native, reply, request_of, session_call, step, steps_of, task_place, task_step}
unfoldable pub use Rattle.hist_model.specs.Steps.{times_spent, worker_step}
pub use Rattle.hist_model.specs.Steps.{back_of, base_after, base_answer, call_after, check_answer, deed_step, entered, found, install_at, install_step, installed, instr_step, is_actor}
pub use Rattle.hist_model.specs.Steps.{is_child, is_ended_child, is_first, is_spawn, is_spent, is_start, IsLegal, IsStep, lives, makes_in, mem_after, next_child, next_instr, notif, number_entered}
pub use Rattle.hist_model.specs.Steps.{opened, pid_at, pid_named, pid_or, place_or, put_answer, read_answer, recv_answer, request_after, request_listed, send_answer, slot_answer, spawn_answer}
pub use Rattle.hist_model.specs.Steps.{spends, take_step, wait_step, with_id}
pub use Rattle.hist_model.specs.Systems.{System}
unfoldable pub use Rattle.hist_model.specs.Tasks.{ended, free_from, holder, is_made, last_pid, disposition, next_pid, pending, reaped, was_waited_for}
pub use Rattle.hist_model.specs.Tasks.{alive, child_of, given, given_in, holds, name_of, pid_of, reaps}
pub use Rattle.hist_model.specs.declared.event.Actor.{Actor}
pub use Rattle.hist_model.specs.declared.event.Actor.TheVariants.{Listener, Start, Task, Worker}
pub use Rattle.hist_model.specs.declared.event.Back.{Back}
pub use Rattle.hist_model.specs.declared.event.Entered.{Entered}
pub use Rattle.hist_model.specs.declared.event.Event.{Event}
pub use Rattle.hist_model.specs.declared.event.What.{What}
pub use Rattle.hist_model.specs.declared.event.What.TheVariants.{Act, AddfdPut, AddfdTake, Check, Close, Deliver, Enter, Exit, Handler, Install, LetGo, Native, OpenBase, OpenMem, Plant, Poke, Read}
pub use Rattle.hist_model.specs.declared.event.What.TheVariants.{Reap, Recv, Resume, Send, Signal, Skip, Spawn}
pub use Rattle.hist_model.specs.declared.policy.Policy.{Policy}
pub use Rattle.hist_model.specs.declared.script.Figures.{Figures}
pub use Rattle.hist_model.specs.declared.script.Script.{Script}
pub use Rattle.hist_model.proofs.Look.{below_or_last, event_at-below, event_at-here, event_at-older, name_eq-refl, name_eq-true, newest-found, newest-some, oldest-found, oldest-same}
pub use Rattle.hist_model.proofs.Look.{oldest-some}
pub use Rattle.mediation.specs.Facts.{CallIdsDiffer, changes_answered, changes_list, changes_tasks, Frame, NamesDiffer, SessionsSettle, StaysFinished}
pub use Rattle.mediation.specs.Journals.{actors, FixedByJournal, IsLegalByPlace}
