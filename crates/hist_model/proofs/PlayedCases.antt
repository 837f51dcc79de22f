-- Histories that the definitions play, computed.
-- By `refl`: both sides of each equation compute to the same value.
use Rattle.std.proofs.Common.{◌≡◌, List, [], ◌∷◌, None, refl}
use Rattle.std.specs.Prelude.{Ok, pos, negsuc, codes, ◌++◌, replicate}
use Rattle.hist_model.specs.Look.{event_at, newest, oldest}
use Rattle.hist_model.specs.Tasks.{ended, was_waited_for, reaped, holder, free_from, last_pid, next_pid, is_made, disposition, pending}
use Rattle.hist_model.specs.Signals.{call_of, next_signal}
use Rattle.hist_model.specs.Calls.{listed, fetched, named, settled, queue, calls, recvs}
use Rattle.hist_model.specs.Sessions.{session, deed}
use Rattle.hist_model.specs.Programs.{program}
use Rattle.hist_model.specs.Steps.{step, task_step, worker_step, steps_of, reply, oldest_unfetched, task_place, group, mem, base, session_call, install_of, call_at, request_of, owes_native, times_spent}
use Rattle.hist_model.specs.Memory.{last_call, byte, mapped_bytes}
use Rattle.hist_model.specs.Files.{files}
use Rattle.hist_model.specs.Trees.{row_in, entry_in, mount_on, top_through, target_of, up_through, attr_replaced, with_lines}
use Rattle.hist_model.specs.Paths.{pieces, walk_parts, walk}
use Rattle.hist_model.specs.Filters.{combine, run_from}
use Rattle.hist_model.specs.Copies.{text_from, value_from, copy_of, read_text, read_value, progress}
use Rattle.hist_model.specs.Requests.{request, base_dirfd}
use Rattle.hist_model.specs.Decisions.{fits, decide_from, decide}
use Rattle.hist_model.specs.Legal.{with_steps, with_schedule, played}
use Rattle.hist_model.specs.WorkedExample.{mknod_policy, mknod_script}
use Rattle.hist_model.specs.declared.event.Event.{Event}
use Rattle.hist_model.specs.declared.event.What.{What}
use Rattle.hist_model.specs.declared.event.What.TheVariants.{Spawn, Poke, Enter, Resume, Exit, Recv, OpenMem, OpenBase, Check, Read, Act, Send, LetGo, Close}
use Rattle.hist_model.specs.declared.event.Entered.TheVariants.{Notify}
use Rattle.hist_model.specs.declared.event.Back.TheVariants.{Value}
use Rattle.hist_model.specs.declared.request.Request.TheVariants.{Mknod}
use Rattle.hist_model.specs.declared.event.SpawnKind.TheVariants.{New}

whats : List Event → List What
whats [] = []
whats (e ∷ K) = e.what ∷ whats K

-- one granted device node
granted_mknod : whats (played mknod_policy mknod_script)
    ≡ Close ∷ Exit ∷ Resume (Value (pos 0)) ∷ LetGo ∷ Send 1 (Value (pos 0)) (Ok tt) ∷ Act (Mknod None (codes "/null") 8630 259) None (Ok tt) ∷ Check 1 (Ok tt)
    ∷ Read 65536 256 (Ok (codes "/null" ++ replicate 251 0)) ∷ Check 1 (Ok tt) ∷ OpenBase 1 (negsuc 99) (Ok tt) ∷ OpenMem 1 (Ok tt)
    ∷ Recv (Ok (record { id = 1; pid = 1; flags = 0; call = record { nr = pos 133; arch = 0xc000003e; ip = 0; args = 65536 ∷ 8630 ∷ 259 ∷ 0 ∷ 0 ∷ 0 ∷ [] } }))
    ∷ Enter (pos 133) (65536 ∷ 8630 ∷ 259 ∷ 0 ∷ 0 ∷ 0 ∷ []) (Notify 1) ∷ Poke 65536 (codes "/null" ++ 0 ∷ []) ∷ Spawn (0 ∷ []) (Ok (1, New)) ∷ []
unfolding whats combine run_from step task_step worker_step event_at newest oldest ended was_waited_for reaped holder free_from last_pid next_pid is_made disposition pending next_signal listed fetched named settled queue calls recvs session deed program call_of steps_of reply oldest_unfetched task_place group mem base session_call install_of call_at request_of owes_native times_spent last_call byte mapped_bytes files row_in entry_in mount_on top_through target_of up_through attr_replaced with_lines pieces walk_parts walk text_from value_from copy_of read_text read_value progress request base_dirfd fits decide_from decide with_steps with_schedule
granted_mknod = refl
