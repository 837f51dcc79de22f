-- The explored histories of a small script.
-- By `refl`: both sides of each equation compute to the same value.
use Rattle.std.proofs.Common.{refl}
use Rattle.hist_model.specs.Look.{event_at, newest, oldest}
use Rattle.hist_model.specs.Tasks.{ended, was_waited_for, reaped, holder, free_from, last_pid, next_pid, is_made, disposition, pending}
use Rattle.hist_model.specs.Signals.{call_of, next_signal}
use Rattle.hist_model.specs.Calls.{listed, fetched, named, settled, queue, calls, recvs}
use Rattle.hist_model.specs.Sessions.{session, deed}
use Rattle.hist_model.specs.Programs.{program}
use Rattle.hist_model.specs.Steps.{step, task_step, worker_step, steps_of, reply, oldest_unfetched, task_place, group, mem, base, session_call, install_of, call_at, request_of, owes_native, times_spent}
use Rattle.hist_model.specs.Memory.{last_call, byte, mapped_bytes}
use Rattle.hist_model.specs.Files.{files}
use Rattle.hist_model.specs.Trees.{row_in, entry_in, mount_on, top_through, target_of, up_through, attr_replaced, with_lines}
use Rattle.hist_model.specs.Paths.{pieces, walk_parts, walk}
use Rattle.hist_model.specs.Filters.{combine, run_from}
use Rattle.hist_model.specs.Copies.{text_from, value_from, copy_of, read_text, read_value, progress}
use Rattle.hist_model.specs.Requests.{request, base_dirfd}
use Rattle.hist_model.specs.Decisions.{decide, decide_from, fits}
use Rattle.history_frames.specs.Ordinals.{count_of, nth_of}
use Rattle.delay_bounded.specs.Circle.{able}
use Rattle.delay_bounded.specs.Explored.{explored, walks, with_delays}
use Rattle.delay_bounded.specs.Schedules.{schedule_of}
use Rattle.delay_bounded.specs.Examples.{WithOneDelay, WithoutDelays, passing, two_tasks}

pub without_delays : WithoutDelays
unfolding passing two_tasks schedule_of explored with_delays walks able count_of nth_of combine run_from step task_step worker_step event_at newest oldest ended was_waited_for reaped holder free_from last_pid next_pid is_made disposition pending next_signal listed fetched named settled queue calls recvs session deed program call_of steps_of reply oldest_unfetched task_place group mem base session_call install_of call_at request_of owes_native times_spent last_call byte mapped_bytes files row_in entry_in mount_on top_through target_of up_through attr_replaced with_lines pieces walk_parts walk text_from value_from copy_of read_text read_value progress request base_dirfd fits decide_from decide
without_delays = refl

pub with_one_delay : WithOneDelay
unfolding passing two_tasks schedule_of explored with_delays walks able count_of nth_of combine run_from step task_step worker_step event_at newest oldest ended was_waited_for reaped holder free_from last_pid next_pid is_made disposition pending next_signal listed fetched named settled queue calls recvs session deed program call_of steps_of reply oldest_unfetched task_place group mem base session_call install_of call_at request_of owes_native times_spent last_call byte mapped_bytes files row_in entry_in mount_on top_through target_of up_through attr_replaced with_lines pieces walk_parts walk text_from value_from copy_of read_text read_value progress request base_dirfd fits decide_from decide
with_one_delay = refl
