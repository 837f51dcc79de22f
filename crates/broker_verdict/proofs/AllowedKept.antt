-- Small histories of the kernel, in which no clause is broken.
-- By computing.
use Rattle.std.proofs.Common.{refl}
use Rattle.hist_model.specs.Look.{event_at, before, newest, oldest}
use Rattle.hist_model.specs.Tasks.{ended, was_waited_for, reaped, holder, free_from, last_pid, next_pid, is_made, disposition, pending}
use Rattle.hist_model.specs.Signals.{call_of, next_signal}
use Rattle.hist_model.specs.Calls.{listed, fetched, named, settled, queue, calls, recvs}
use Rattle.hist_model.specs.Laws.{fetcher}
use Rattle.hist_model.specs.Steps.{task_step, steps_of, reply, oldest_unfetched, task_place, group, mem, session_call, install_of, call_at, request_of, owes_native, times_spent}
use Rattle.hist_model.specs.Programs.{program}
use Rattle.hist_model.specs.Memory.{last_call, byte, mapped_bytes}
use Rattle.hist_model.specs.Files.{files}
use Rattle.hist_model.specs.Trees.{row_in, entry_in, mount_on, top_through, target_of, up_through, attr_replaced, with_lines}
use Rattle.hist_model.specs.Paths.{pieces, walk_parts, walk}
use Rattle.hist_model.specs.Copies.{text_from, value_from, copy_of, read_text, read_value, progress}
use Rattle.hist_model.specs.Requests.{request, base_dirfd}
use Rattle.hist_model.specs.Decisions.{fits, decide_from, decide}
use Rattle.hist_model.specs.Filters.{combine, run_from}
use Rattle.hist_model.specs.Sysinfo.{container_sysinfo}
use Rattle.sys_abi.specs.Wire.{sysinfo_bytes}
use Rattle.broker_verdict.specs.Seats.{reads, is_checked, effect_of, has_sent, is_base_refused, base_worth}
use Rattle.broker_verdict.specs.SeatCopies.{text_seen, value_seen, newest_copy, planned_from}
use Rattle.broker_verdict.specs.Choices.{by_registers_from}
use Rattle.broker_verdict.specs.Effects.{done_by}
use Rattle.broker_verdict.specs.Answers.{is_told, only_enters_again}
use Rattle.broker_verdict.specs.Brokers.{after}
use Rattle.broker_verdict.specs.Trusted.{first_fault}
use Rattle.broker_verdict.specs.Mistakes.{BreaksNone, one_node}
use Rattle.broker_verdict.specs.Allowed.{as_in_the_manual, checks_once, reads_largely, reads_in_pieces, reads_equally, holds_two, acts_for_the_dead, puts_and_sends, remembers_result, tells_of_no_base, reads_twice_there, injects_unread, puts_again, answers_the_dead}
use Rattle.broker_verdict.specs.Allowed.{full_table, killed_caller, no_directory, one_file, restarted, shared_texts, two_callers}

pub allowed : BreaksNone one_node as_in_the_manual × BreaksNone one_node checks_once × BreaksNone one_node reads_largely
    × BreaksNone one_node reads_in_pieces × BreaksNone one_node reads_equally × BreaksNone two_callers holds_two
    × BreaksNone killed_caller acts_for_the_dead × BreaksNone one_file puts_and_sends × BreaksNone restarted remembers_result
    × BreaksNone no_directory tells_of_no_base × BreaksNone shared_texts reads_twice_there × BreaksNone one_file injects_unread
    × BreaksNone full_table puts_again × BreaksNone killed_caller answers_the_dead
unfolding first_fault after reads is_checked effect_of has_sent is_base_refused base_worth text_seen value_seen newest_copy planned_from by_registers_from done_by is_told only_enters_again fetcher container_sysinfo sysinfo_bytes before combine run_from task_step event_at newest oldest ended was_waited_for reaped holder free_from last_pid next_pid is_made disposition pending next_signal listed fetched named settled queue calls recvs program call_of steps_of reply oldest_unfetched task_place group mem session_call install_of call_at request_of owes_native times_spent last_call byte mapped_bytes files row_in entry_in mount_on top_through target_of up_through attr_replaced with_lines pieces walk_parts walk text_from value_from copy_of read_text read_value progress request base_dirfd fits decide_from decide
allowed = (refl, refl, refl, refl, refl, refl, refl, refl, refl, refl, refl, refl, refl, refl)
