-- Small histories of the kernel, each with the clause that it breaks.
-- By computing.
use Rattle.std.proofs.Common.{refl}
use Rattle.hist_model.specs.Look.{event_at, before, newest, oldest}
use Rattle.hist_model.specs.Tasks.{ended, was_waited_for, reaped, holder, free_from, last_pid, next_pid, is_made, disposition, pending}
use Rattle.hist_model.specs.Signals.{call_of, next_signal}
use Rattle.hist_model.specs.Calls.{listed, fetched, named, settled, queue, calls, recvs}
use Rattle.hist_model.specs.Laws.{fetcher}
use Rattle.hist_model.specs.Steps.{task_step, steps_of, reply, oldest_unfetched, task_place, group, mem, session_call, install_of, call_at, request_of, owes_native, times_spent}
use Rattle.hist_model.specs.Programs.{program}
use Rattle.hist_model.specs.Memory.{last_call, byte, mapped_bytes}
use Rattle.hist_model.specs.Files.{files}
use Rattle.hist_model.specs.Trees.{row_in, entry_in, mount_on, top_through, target_of, up_through, attr_replaced, with_lines}
use Rattle.hist_model.specs.Paths.{pieces, walk_parts, walk}
use Rattle.hist_model.specs.Copies.{text_from, value_from, copy_of, read_text, read_value, progress}
use Rattle.hist_model.specs.Requests.{request, base_dirfd}
use Rattle.hist_model.specs.Decisions.{fits, decide_from, decide}
use Rattle.hist_model.specs.Filters.{combine, run_from}
use Rattle.hist_model.specs.Sysinfo.{container_sysinfo}
use Rattle.sys_abi.specs.Wire.{sysinfo_bytes}
use Rattle.broker_verdict.specs.Seats.{reads, is_checked, effect_of, has_sent, is_base_refused, base_worth}
use Rattle.broker_verdict.specs.SeatCopies.{text_seen, value_seen, newest_copy, planned_from}
use Rattle.broker_verdict.specs.Choices.{by_registers_from}
use Rattle.broker_verdict.specs.Effects.{done_by}
use Rattle.broker_verdict.specs.Answers.{is_told, only_enters_again}
use Rattle.broker_verdict.specs.Brokers.{after}
use Rattle.broker_verdict.specs.Trusted.{first_fault}
use Rattle.broker_verdict.specs.Mistakes.{Breaks, one_node, near_node, shut_node, two_figures, two_near, two_nodes, ran_on, reused, rewritten}
use Rattle.broker_verdict.specs.Mistakes.{acts_unasked, makes_other, reads_nothing, reads_another, reads_late, checks_before, tears, opens_no_base, opens_base_late, opens_memory_late, keeps_base, makes_denied}
use Rattle.broker_verdict.specs.Mistakes.{tells_too_often, makes_again, acts_late, answers_unasked, answers_another, passes_unread, denies_with_another, passes_denied}
use Rattle.broker_verdict.specs.Mistakes.{tells_undone, tells_of_old, hides_success, answers_twice, lets_go}
use Rattle.broker_verdict.specs.declared.clause.Clause.TheVariants.{EffectWithoutCall, OtherRequest, Unread, OtherMemory, StaleCopy, Unchecked, Torn, OtherBase, Ungranted, Spent, Again, AfterAnswer}
use Rattle.broker_verdict.specs.declared.clause.Clause.TheVariants.{AnswerWithoutCall, OtherAnswer, Uncaused, DeniedOtherwise, PassedOtherwise, GrantedNotDone, OtherOutcome, AnsweredAlready, Unanswered}

pub effects : Breaks one_node acts_unasked 3 EffectWithoutCall × Breaks one_node makes_other 7 OtherRequest
    × Breaks one_node reads_nothing 5 Unread × Breaks reused reads_another 12 OtherMemory × Breaks reused reads_late 10 StaleCopy
    × Breaks one_node checks_before 7 Unchecked × Breaks rewritten tears 10 Torn × Breaks near_node opens_no_base 7 OtherBase
    × Breaks shut_node makes_denied 7 Ungranted × Breaks two_figures tells_too_often 13 Spent × Breaks one_node makes_again 8 Again
    × Breaks two_nodes acts_late 17 AfterAnswer
unfolding first_fault after reads is_checked effect_of has_sent is_base_refused base_worth text_seen value_seen newest_copy planned_from by_registers_from done_by is_told only_enters_again fetcher container_sysinfo sysinfo_bytes before combine run_from task_step event_at newest oldest ended was_waited_for reaped holder free_from last_pid next_pid is_made disposition pending next_signal listed fetched named settled queue calls recvs program call_of steps_of reply oldest_unfetched task_place group mem session_call install_of call_at request_of owes_native times_spent last_call byte mapped_bytes files row_in entry_in mount_on top_through target_of up_through attr_replaced with_lines pieces walk_parts walk text_from value_from copy_of read_text read_value progress request base_dirfd fits decide_from decide
effects = (refl, refl, refl, refl, refl, refl, refl, refl, refl, refl, refl, refl)

pub answers : Breaks one_node answers_unasked 3 AnswerWithoutCall × Breaks one_node answers_another 8 OtherAnswer
    × Breaks one_node passes_unread 4 Uncaused × Breaks shut_node denies_with_another 7 DeniedOtherwise
    × Breaks shut_node passes_denied 7 PassedOtherwise × Breaks one_node tells_undone 7 GrantedNotDone
    × Breaks one_node hides_success 8 OtherOutcome × Breaks shut_node answers_twice 8 AnsweredAlready
unfolding first_fault after reads is_checked effect_of has_sent is_base_refused base_worth text_seen value_seen newest_copy planned_from by_registers_from done_by is_told only_enters_again fetcher container_sysinfo sysinfo_bytes before combine run_from task_step event_at newest oldest ended was_waited_for reaped holder free_from last_pid next_pid is_made disposition pending next_signal listed fetched named settled queue calls recvs program call_of steps_of reply oldest_unfetched task_place group mem session_call install_of call_at request_of owes_native times_spent last_call byte mapped_bytes files row_in entry_in mount_on top_through target_of up_through attr_replaced with_lines pieces walk_parts walk text_from value_from copy_of read_text read_value progress request base_dirfd fits decide_from decide
answers = (refl, refl, refl, refl, refl, refl, refl, refl)

pub unanswered : Breaks one_node lets_go 4 Unanswered
unfolding first_fault after reads is_checked effect_of has_sent is_base_refused base_worth text_seen value_seen newest_copy planned_from by_registers_from done_by is_told only_enters_again fetcher container_sysinfo sysinfo_bytes before combine run_from task_step event_at newest oldest ended was_waited_for reaped holder free_from last_pid next_pid is_made disposition pending next_signal listed fetched named settled queue calls recvs program call_of steps_of reply oldest_unfetched task_place group mem session_call install_of call_at request_of owes_native times_spent last_call byte mapped_bytes files row_in entry_in mount_on top_through target_of up_through attr_replaced with_lines pieces walk_parts walk text_from value_from copy_of read_text read_value progress request base_dirfd fits decide_from decide
unanswered = refl

pub kept_too_long : Breaks near_node opens_base_late 8 Unchecked × Breaks two_figures opens_memory_late 5 Unchecked
    × Breaks two_near keeps_base 15 OtherBase × Breaks ran_on tells_of_old 17 GrantedNotDone
unfolding first_fault after reads is_checked effect_of has_sent is_base_refused base_worth text_seen value_seen newest_copy planned_from by_registers_from done_by is_told only_enters_again fetcher container_sysinfo sysinfo_bytes before combine run_from task_step event_at newest oldest ended was_waited_for reaped holder free_from last_pid next_pid is_made disposition pending next_signal listed fetched named settled queue calls recvs program call_of steps_of reply oldest_unfetched task_place group mem session_call install_of call_at request_of owes_native times_spent last_call byte mapped_bytes files row_in entry_in mount_on top_through target_of up_through attr_replaced with_lines pieces walk_parts walk text_from value_from copy_of read_text read_value progress request base_dirfd fits decide_from decide
kept_too_long = (refl, refl, refl, refl)
