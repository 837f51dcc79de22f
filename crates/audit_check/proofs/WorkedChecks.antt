-- A report that is checked, the same with a fault in four ways, and its trail, computed by the definitions.
-- By `refl`: both sides of each equation compute to the same value.
use Rattle.std.proofs.Common.{◌≡◌, ℕ, ◌+◌, Bool, true, false, List, [], ◌∷◌, ◌++◌, take, drop, refl}
use Rattle.std.specs.Prelude.{codes}
use Rattle.std.specs.Fmt.{digits}
use Rattle.hist_model.specs.Look.{event_at, newest, oldest}
use Rattle.hist_model.specs.Tasks.{ended, was_waited_for, reaped, holder, free_from, last_pid, next_pid, is_made, disposition, pending}
use Rattle.hist_model.specs.Signals.{call_of, next_signal}
use Rattle.hist_model.specs.Calls.{listed, fetched, named, settled, queue, calls, recvs}
use Rattle.hist_model.specs.Sessions.{session, deed}
use Rattle.hist_model.specs.Programs.{program}
use Rattle.hist_model.specs.Steps.{step, task_step, worker_step, steps_of, reply, oldest_unfetched, task_place, group, mem, base, session_call, install_of, call_at, request_of, owes_native, times_spent}
use Rattle.hist_model.specs.Memory.{last_call, byte, mapped_bytes}
use Rattle.hist_model.specs.Files.{files}
use Rattle.hist_model.specs.Trees.{row_in, entry_in, mount_on, top_through, target_of, up_through, attr_replaced, with_lines as with_tree}
use Rattle.hist_model.specs.Paths.{pieces, walk_parts, walk}
use Rattle.hist_model.specs.Filters.{combine, run_from}
use Rattle.hist_model.specs.Copies.{text_from, value_from, copy_of, heard, read_text, read_value, progress}
use Rattle.hist_model.specs.Requests.{request, base_dirfd}
use Rattle.hist_model.specs.Decisions.{fits, decide_from, decide}
use Rattle.hist_model.specs.ReportAudit.{call_with_id, installed, judging_by, session_at}
use Rattle.hist_model.specs.ReportCalls.{first_pid, newest_call, outcome}
use Rattle.hist_model.specs.ReportJournal.{lines_of}
use Rattle.hist_model.specs.ReportRequests.{answer_count, requests}
use Rattle.hist_model.specs.Report.{audits, counts_text, findings_text}
use Rattle.hist_model.specs.Words.{number_after}
use Rattle.hist_model.specs.Legal.{with_steps, with_schedule, played}
use Rattle.hist_model.specs.WorkedExample.{mknod_policy, mknod_script}
use Rattle.audit_log.specs.SessionStages.{stages_at}
use Rattle.audit_check.specs.Actors.{actor_in}
use Rattle.audit_check.specs.Lines.{lines}
use Rattle.audit_check.specs.Reading.{Rest, is_fault, reached, with_lines}
use Rattle.audit_log.specs.Served.{session_for}
use Rattle.audit_check.specs.Trail.{installation, trail}

-- the lines before the effect, the line of the effect at a path, those behind it, and the last one
before : List ℕ
before =
    codes "journal 15\n"
    ++ codes "0 - spawn 0 pid=1 new\n"
    ++ codes "1 t0 poke 65536 2f6e756c6c00\n"
    ++ codes "2 t0 call mknod 65536 8630 259 0 0 0 notify id=1\n"
    ++ codes "3 w0 recv id=1 pid=1\n"
    ++ codes "4 w0 open-mem 1 ok\n"
    ++ codes "5 w0 open-base 1 -100 ok\n"
    ++ codes "6 w0 check 1 ok\n"
    ++ codes "7 w0 read 65536 256 2f6e756c6c\n"
    ++ codes "8 w0 check 1 ok\n"

effect : List ℕ → List ℕ
effect path = codes "9 w0 act mknod \"" ++ path ++ codes "\" chr 1:3 ok\n"

behind : List ℕ
behind =
    codes "10 w0 send 1 0 ok\n"
    ++ codes "11 w0 let-go\n"
    ++ codes "12 t0 resume 0\n"
    ++ codes "13 t0 exit\n"
    ++ codes "14 listener close\n"
    ++ codes "calls 1\n"
    ++ codes "2 t0 pid=1 mknod 0\n"
    ++ codes "audit 1\n"
    ++ codes "3 w0 id=1 mknod rule=lxd.mknod.1:3 verdict=grant answer=0 reply=sent\n"

last : List ℕ
last = codes "summary events=15 calls=1 notified=1 answered=1 granted=1 denied=0 passed=0 injected=0 faults=0 gone=0 lost=0\n"

whole : List ℕ
whole = before ++ effect (codes "/null") ++ behind ++ last

-- the pass finds no fault in the first n lines, and one in the next
fails_behind : ℕ → List ℕ → List Bool
fails_behind n text = is_fault (reached mknod_policy mknod_script (take n (lines text))) ∷ is_fault (reached mknod_policy mknod_script (take (n + 1) (lines text))) ∷ []

-- the report of the history that the script plays
is_checked : reached mknod_policy mknod_script (lines whole) ≡ Rest (played mknod_policy mknod_script) []
unfolding before effect behind last whole combine run_from step task_step worker_step event_at newest oldest ended was_waited_for reaped holder free_from last_pid next_pid is_made disposition pending next_signal listed fetched named settled queue calls recvs session deed program call_of steps_of reply oldest_unfetched task_place group mem base session_call install_of call_at request_of owes_native times_spent last_call byte mapped_bytes files row_in entry_in mount_on top_through target_of up_through attr_replaced with_tree pieces walk_parts walk text_from value_from copy_of heard read_text read_value progress request base_dirfd fits decide_from decide with_steps with_schedule lines with_lines actor_in number_after digits lines_of newest_call outcome first_pid session_at call_with_id installed requests answer_count audits counts_text findings_text
is_checked = refl

-- another path in the line of the effect, the 11th
is_changed : fails_behind 10 (before ++ effect (codes "/zero") ++ behind ++ last) ≡ false ∷ true ∷ []
unfolding fails_behind before effect behind last whole combine run_from step task_step worker_step event_at newest oldest ended was_waited_for reaped holder free_from last_pid next_pid is_made disposition pending next_signal listed fetched named settled queue calls recvs session deed program call_of steps_of reply oldest_unfetched task_place group mem base session_call install_of call_at request_of owes_native times_spent last_call byte mapped_bytes files row_in entry_in mount_on top_through target_of up_through attr_replaced with_tree pieces walk_parts walk text_from value_from copy_of heard read_text read_value progress request base_dirfd fits decide_from decide with_steps with_schedule lines with_lines actor_in number_after digits lines_of newest_call outcome first_pid session_at call_with_id installed requests answer_count audits counts_text findings_text
is_changed = refl

-- without its last line, the 21st
is_cut : reached mknod_policy mknod_script (lines (before ++ effect (codes "/null") ++ behind)) ≡ Rest (played mknod_policy mknod_script) (last ∷ [])
unfolding before effect behind last whole combine run_from step task_step worker_step event_at newest oldest ended was_waited_for reaped holder free_from last_pid next_pid is_made disposition pending next_signal listed fetched named settled queue calls recvs session deed program call_of steps_of reply oldest_unfetched task_place group mem base session_call install_of call_at request_of owes_native times_spent last_call byte mapped_bytes files row_in entry_in mount_on top_through target_of up_through attr_replaced with_tree pieces walk_parts walk text_from value_from copy_of heard read_text read_value progress request base_dirfd fits decide_from decide with_steps with_schedule lines with_lines actor_in number_after digits lines_of newest_call outcome first_pid session_at call_with_id installed requests answer_count audits counts_text findings_text
is_cut = refl

-- with a piece of a line more, the 22nd
is_longer : fails_behind 21 (whole ++ codes "0") ≡ false ∷ true ∷ []
unfolding fails_behind before effect behind last whole combine run_from step task_step worker_step event_at newest oldest ended was_waited_for reaped holder free_from last_pid next_pid is_made disposition pending next_signal listed fetched named settled queue calls recvs session deed program call_of steps_of reply oldest_unfetched task_place group mem base session_call install_of call_at request_of owes_native times_spent last_call byte mapped_bytes files row_in entry_in mount_on top_through target_of up_through attr_replaced with_tree pieces walk_parts walk text_from value_from copy_of heard read_text read_value progress request base_dirfd fits decide_from decide with_steps with_schedule lines with_lines actor_in number_after digits lines_of newest_call outcome first_pid session_at call_with_id installed requests answer_count audits counts_text findings_text
is_longer = refl

-- with a title that tells of one event more: no event follows the close, in the 16th line
is_closed : fails_behind 15 (codes "journal 16\n" ++ drop 11 whole) ≡ false ∷ true ∷ []
unfolding fails_behind before effect behind last whole combine run_from step task_step worker_step event_at newest oldest ended was_waited_for reaped holder free_from last_pid next_pid is_made disposition pending next_signal listed fetched named settled queue calls recvs session deed program call_of steps_of reply oldest_unfetched task_place group mem base session_call install_of call_at request_of owes_native times_spent last_call byte mapped_bytes files row_in entry_in mount_on top_through target_of up_through attr_replaced with_tree pieces walk_parts walk text_from value_from copy_of heard read_text read_value progress request base_dirfd fits decide_from decide with_steps with_schedule lines with_lines actor_in number_after digits lines_of newest_call outcome first_pid session_at call_with_id installed requests answer_count audits counts_text findings_text
is_closed = refl

-- the trail
is_traced : trail (judging_by mknod_policy.rules) (played mknod_policy mknod_script) ≡ codes "trail 2 recv=3 valid=8 effect=9 answer=10 rule=lxd.mknod.1:3\n"
unfolding stages_at session_for installation combine run_from step task_step worker_step event_at newest oldest ended was_waited_for reaped holder free_from last_pid next_pid is_made disposition pending next_signal listed fetched named settled queue calls recvs session deed program call_of steps_of reply oldest_unfetched task_place group mem base session_call install_of call_at request_of owes_native times_spent last_call byte mapped_bytes files row_in entry_in mount_on top_through target_of up_through attr_replaced with_tree pieces walk_parts walk text_from value_from copy_of heard read_text read_value progress request base_dirfd fits decide_from decide with_steps with_schedule lines with_lines actor_in number_after digits lines_of newest_call outcome first_pid session_at call_with_id installed requests answer_count audits counts_text findings_text
is_traced = refl
