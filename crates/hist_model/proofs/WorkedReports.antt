-- Worked examples of reports, computed by their definitions.
-- By `refl`: both sides of each equation compute to the same value.
use Rattle.std.proofs.Common.{◌≡◌, ℕ, true, List, [], ◌∷◌, ◌++◌, Some, None, refl}
use Rattle.std.specs.Prelude.{Ok, Err, Result, pos, negsuc, codes}
use Rattle.std.specs.Fmt.{digits}
use Rattle.hist_model.specs.Look.{ev, event_at}
use Rattle.hist_model.specs.ReportJournal.{lines_of, what_text}
use Rattle.hist_model.specs.ReportCalls.{newest_call, outcome, first_pid, calls}
use Rattle.hist_model.specs.ReportAudit.{Judging, session_at, call_with_id, installed, audit}
use Rattle.hist_model.specs.ReportRequests.{requests, answer_count}
use Rattle.hist_model.specs.Report.{report, audits, counts_text, findings_text, summary}
use Rattle.hist_model.specs.declared.event.Event.{Event}
use Rattle.hist_model.specs.declared.event.Actor.TheVariants.{Start, Task, Worker, Listener}
use Rattle.hist_model.specs.declared.event.What.{What}
use Rattle.hist_model.specs.declared.event.What.TheVariants.{Spawn, Poke, Handler, Enter, Native, Install, Resume, Signal, Deliver, Reap, Exit, Recv, OpenMem, OpenBase, Check, Read, Act, Plant, AddfdPut, AddfdTake, Send, LetGo, Skip, Close}
use Rattle.hist_model.specs.declared.event.SpawnKind.TheVariants.{New, Copied, Shared}
use Rattle.hist_model.specs.declared.event.Disposition.TheVariants.{Restart as RestartDisposition, Plain}
use Rattle.hist_model.specs.declared.event.Entered.{Entered}
use Rattle.hist_model.specs.declared.event.Entered.TheVariants.{Notify, Allow, Log, Fails, NoSys, Kill}
use Rattle.hist_model.specs.declared.event.Back.TheVariants.{Value, Fail, Continue}
use Rattle.hist_model.specs.declared.event.Delivered.TheVariants.{End, Run, Restart, Eintr}
use Rattle.hist_model.specs.declared.request.Request.{Request}
use Rattle.hist_model.specs.declared.request.Request.TheVariants.{Mknod, Mount, SetXattr}
use Rattle.hist_model.specs.declared.policy.Verdict.TheVariants.{Grant, Deny, Pass, Inject}
use Rattle.hist_model.specs.declared.report.Judged.{Judged}
use Rattle.hist_model.specs.declared.report.Judged.TheVariants.{Faulty, Decided}

-- the events, given the oldest first, as a history: the newest first
onto : List Event → List Event → List Event
onto K [] = K
onto K (e ∷ more) = onto (e ∷ K) more

history : List Event → List Event
history es = onto [] es

task : What → Event
task a = ev (Task (0 ∷ [])) a

child : What → Event
child a = ev (Task (0 ∷ 1 ∷ [])) a

worker : What → Event
worker a = ev (Worker 0) a

ok : Result (Unit {0}) ℕ
ok = Ok tt

-- "/null" and a zero byte, as it is stored, read and used
null : List ℕ
null = codes "/null"

read_null : Result (List ℕ) ℕ
read_null = Ok (codes "/null\0\0\0")

mknod : Entered → What
mknod verdict = Enter (pos 133) (65536 ∷ 8630 ∷ 259 ∷ 0 ∷ 0 ∷ 0 ∷ []) verdict

fetched : ℕ → ℕ → What
fetched x pid = Recv (Ok (record { id = x; pid = pid; flags = 0; call = record { nr = pos 133; arch = 0xc000003e; ip = 0; args = 65536 ∷ 8630 ∷ 259 ∷ 0 ∷ 0 ∷ 0 ∷ [] } }))

null_device : Request
null_device = Mknod None null 8630 259

first : What
first = Spawn (0 ∷ []) (Ok (1, New))

-- each session is decided so, at place 3 of a policy whose rules all have this name
always : Judged → List ℕ → Judging
always judged name = record { judge = λ notif answers. judged; name = λ i. name }

-- a device node that the policy grants
granted : List Event
granted = history (
    ev Start first ∷ task (Poke 65536 (47 ∷ 110 ∷ 117 ∷ 108 ∷ 108 ∷ 0 ∷ [])) ∷ task (mknod (Notify 1))
    ∷ worker (fetched 1 1) ∷ worker (OpenMem 1 ok) ∷ worker (OpenBase 1 (negsuc 99) ok) ∷ worker (Check 1 ok) ∷ worker (Read 65536 256 read_null)
    ∷ worker (Check 1 ok) ∷ worker (Act null_device None ok) ∷ worker (Send 1 (Value (pos 0)) ok) ∷ worker LetGo
    ∷ task (Resume (Value (pos 0))) ∷ task Exit ∷ ev Listener Close ∷ [])

granted_report : report (always (Decided 3 Grant) (codes "lxd.mknod.1:3")) granted
    ≡ codes "journal 15\n"
    ++ codes "0 - spawn 0 pid=1 new\n"
    ++ codes "1 t0 poke 65536 2f6e756c6c00\n"
    ++ codes "2 t0 call mknod 65536 8630 259 0 0 0 notify id=1\n"
    ++ codes "3 w0 recv id=1 pid=1\n"
    ++ codes "4 w0 open-mem 1 ok\n"
    ++ codes "5 w0 open-base 1 -100 ok\n"
    ++ codes "6 w0 check 1 ok\n"
    ++ codes "7 w0 read 65536 256 2f6e756c6c\n"
    ++ codes "8 w0 check 1 ok\n"
    ++ codes "9 w0 act mknod \"/null\" chr 1:3 ok\n"
    ++ codes "10 w0 send 1 0 ok\n"
    ++ codes "11 w0 let-go\n"
    ++ codes "12 t0 resume 0\n"
    ++ codes "13 t0 exit\n"
    ++ codes "14 listener close\n"
    ++ codes "calls 1\n"
    ++ codes "2 t0 pid=1 mknod 0\n"
    ++ codes "audit 1\n"
    ++ codes "3 w0 id=1 mknod rule=lxd.mknod.1:3 verdict=grant answer=0 reply=sent\n"
    ++ codes "summary events=15 calls=1 notified=1 answered=1 granted=1 denied=0 passed=0 injected=0 faults=0 gone=0 lost=0\n"
unfolding onto history task worker ok null read_null mknod fetched null_device first always granted event_at lines_of newest_call outcome first_pid session_at call_with_id installed requests answer_count audits counts_text findings_text digits
granted_report = refl

-- a call that is passed runs natively, with its caller's rights
passed : List Event
passed = history (
    ev Start first ∷ task (mknod (Notify 1)) ∷ worker (fetched 1 1) ∷ worker (OpenMem 1 ok) ∷ worker (Check 1 ok) ∷ worker (Read 65536 256 read_null)
    ∷ worker (Check 1 ok) ∷ worker (Send 1 Continue ok) ∷ worker Skip ∷ worker LetGo ∷ worker Skip ∷ task (Resume Continue) ∷ task (Native (Err 1)) ∷ [])

passed_parts : calls passed ++ audit (always (Decided 3 Pass) (codes "default.mknod")) passed ++ summary (always (Decided 3 Pass) []) passed
    ≡ codes "calls 1\n"
    ++ codes "1 t0 pid=1 mknod EPERM\n"
    ++ codes "audit 1\n"
    ++ codes "2 w0 id=1 mknod rule=default.mknod verdict=pass answer=continue reply=sent\n"
    ++ codes "summary events=13 calls=1 notified=1 answered=1 granted=0 denied=0 passed=1 injected=0 faults=0 gone=0 lost=0\n"
unfolding onto history task worker ok null read_null mknod fetched null_device first always passed event_at lines_of newest_call outcome first_pid session_at call_with_id installed requests answer_count audits counts_text findings_text digits
passed_parts = refl

-- a call that is denied, and one whose rule's times were spent; both count as denied
refused : List Event
refused = history (
    ev Start first ∷ task (mknod (Notify 1)) ∷ worker (fetched 1 1) ∷ worker (Check 1 ok) ∷ worker (Check 1 ok) ∷ worker (Send 1 (Fail 1) ok) ∷ worker LetGo
    ∷ task (Resume (Fail 1)) ∷ [])

refused_parts : audit (always (Decided 3 (Deny 1)) (codes "no-mem")) refused ++ summary (always (Decided 3 (Deny 1)) []) refused
    ≡ codes "audit 1\n"
    ++ codes "2 w0 id=1 mknod rule=no-mem verdict=deny answer=EPERM reply=sent\n"
    ++ codes "summary events=8 calls=1 notified=1 answered=1 granted=0 denied=1 passed=0 injected=0 faults=0 gone=0 lost=0\n"
unfolding onto history task worker ok null read_null mknod fetched null_device first always refused event_at lines_of newest_call outcome first_pid session_at call_with_id installed requests answer_count audits counts_text findings_text digits
refused_parts = refl

spent : List Event
spent = history (
    ev Start first ∷ task (mknod (Notify 2)) ∷ worker (fetched 2 1) ∷ worker (Check 2 ok) ∷ worker (Check 2 ok) ∷ worker (Act null_device None (Err 122)) ∷ worker (Send 2 (Fail 122) ok)
    ∷ worker LetGo ∷ [])

spent_parts : audit (always (Decided 3 Grant) (codes "one")) spent ++ summary (always (Decided 3 Grant) []) spent
    ≡ codes "audit 1\n"
    ++ codes "2 w0 id=2 mknod rule=one verdict=spent answer=EDQUOT reply=sent\n"
    ++ codes "summary events=8 calls=1 notified=1 answered=1 granted=0 denied=1 passed=0 injected=0 faults=0 gone=0 lost=0\n"
unfolding onto history task worker ok null read_null mknod fetched null_device first always spent event_at lines_of newest_call outcome first_pid session_at call_with_id installed requests answer_count audits counts_text findings_text digits
spent_parts = refl

-- a caller that a signal interrupted before the second check, and whose call is entered again; its second session finds a fault
restarted : List Event
restarted = history (
    ev Start first ∷ task (Spawn (0 ∷ 1 ∷ []) (Ok (2, Copied))) ∷ child (mknod (Notify 1)) ∷ worker (fetched 1 2) ∷ worker (OpenMem 2 ok) ∷ worker (Check 1 ok)
    ∷ worker (Read 65536 256 read_null) ∷ task (Signal 2 10 ok) ∷ child (Deliver 10 Restart) ∷ child (mknod (Notify 2)) ∷ worker (Check 1 (Err 2)) ∷ worker LetGo
    ∷ worker (fetched 2 2) ∷ worker (OpenMem 2 ok) ∷ worker (Check 2 ok) ∷ worker (Read 65536 256 (Err 14)) ∷ worker (Check 2 ok) ∷ worker (Send 2 (Fail 14) ok) ∷ worker LetGo
    ∷ child (Resume (Fail 14)) ∷ [])

restarted_parts : calls restarted ++ audit (always (Faulty 14) []) restarted ++ summary (always (Faulty 14) []) restarted
    ≡ codes "calls 2\n"
    ++ codes "2 t0.1 pid=2 mknod restarted\n"
    ++ codes "9 t0.1 pid=2 mknod EFAULT\n"
    ++ codes "audit 2\n"
    ++ codes "3 w0 id=1 mknod rule=- verdict=gone answer=- reply=none\n"
    ++ codes "12 w0 id=2 mknod rule=- verdict=fault answer=EFAULT reply=sent\n"
    ++ codes "summary events=20 calls=2 notified=2 answered=1 granted=0 denied=0 passed=0 injected=0 faults=1 gone=1 lost=0\n"
unfolding onto history task child worker ok null read_null mknod fetched null_device first always restarted event_at lines_of newest_call outcome first_pid session_at call_with_id installed requests answer_count audits counts_text findings_text digits
restarted_parts = refl

-- the caller ends between the second check and the effect: the answer reaches nobody
lost : List Event
lost = history (
    ev Start first ∷ task (Spawn (0 ∷ 1 ∷ []) (Ok (2, Copied))) ∷ child (mknod (Notify 1)) ∷ worker (fetched 1 2) ∷ worker (Check 1 ok) ∷ worker (Check 1 ok)
    ∷ task (Signal 2 9 ok) ∷ child (Deliver 9 End) ∷ worker (Act null_device None ok) ∷ worker (Send 1 (Value (pos 0)) (Err 2)) ∷ worker LetGo ∷ [])

lost_parts : calls lost ++ audit (always (Decided 3 Grant) (codes "lxd.mknod.1:3")) lost ++ summary (always (Decided 3 Grant) []) lost
    ≡ codes "calls 1\n"
    ++ codes "2 t0.1 pid=2 mknod ended\n"
    ++ codes "audit 1\n"
    ++ codes "3 w0 id=1 mknod rule=lxd.mknod.1:3 verdict=grant answer=0 reply=lost\n"
    ++ codes "summary events=11 calls=1 notified=1 answered=0 granted=1 denied=0 passed=0 injected=0 faults=0 gone=0 lost=1\n"
unfolding onto history task child worker ok null read_null mknod fetched null_device first always lost event_at lines_of newest_call outcome first_pid session_at call_with_id installed requests answer_count audits counts_text findings_text digits
lost_parts = refl

put : What
put = AddfdPut (record { id = 1; flags = 2; srcfd = 5; newfd = 0; newfd_flags = 0 }) ok

-- an injection: the number is told before the worker took it
injected : List Event
injected = history (
    ev Start first ∷ task (mknod (Notify 1)) ∷ worker (fetched 1 1) ∷ worker (Check 1 ok) ∷ worker (Check 1 ok) ∷ worker put ∷ task (Install (Ok 3)) ∷ [])

injected_parts : calls injected ++ audit (always (Decided 3 (Inject 5 None)) (codes "feed")) injected ++ summary (always (Decided 3 (Inject 5 None)) []) injected
    ≡ codes "calls 1\n"
    ++ codes "1 t0 pid=1 mknod open\n"
    ++ codes "audit 1\n"
    ++ codes "2 w0 id=1 mknod rule=feed verdict=inject answer=3 reply=sent\n"
    ++ codes "summary events=7 calls=1 notified=1 answered=1 granted=0 denied=0 passed=0 injected=1 faults=0 gone=0 lost=0\n"
unfolding onto history task child worker ok null read_null mknod fetched null_device first always put injected event_at lines_of newest_call outcome first_pid session_at call_with_id installed requests answer_count audits counts_text findings_text digits
injected_parts = refl

-- a descriptor goes to the session whose call was in hand: one before and one after an interrupted call are other sessions'
interrupted : List Event
interrupted = history (
    ev Start first ∷ task (mknod (Notify 7)) ∷ task (Install (Ok 3)) ∷ task (Resume (Value (pos 3)))
    ∷ task (mknod (Notify 1)) ∷ worker (fetched 1 1) ∷ worker (Check 1 ok) ∷ worker (Check 1 ok) ∷ worker put ∷ task (Deliver 10 Eintr)
    ∷ task (mknod (Notify 2)) ∷ task (Install (Ok 4)) ∷ worker (AddfdTake (Err 2)) ∷ worker LetGo ∷ [])

interrupted_parts : calls interrupted ++ audit (always (Decided 3 (Inject 5 None)) (codes "feed")) interrupted
    ≡ codes "calls 3\n"
    ++ codes "1 t0 pid=1 mknod 3\n"
    ++ codes "4 t0 pid=1 mknod EINTR\n"
    ++ codes "10 t0 pid=1 mknod open\n"
    ++ codes "audit 1\n"
    ++ codes "5 w0 id=1 mknod rule=feed verdict=inject answer=- reply=lost\n"
unfolding onto history task child worker ok null read_null mknod fetched null_device first always put interrupted event_at lines_of newest_call outcome first_pid session_at call_with_id installed requests answer_count audits digits
interrupted_parts = refl

-- a worker that receives again before it let go: its session ends there, and what it does later is the second one's
received_again : List Event
received_again = history (
    ev Start first ∷ task (mknod (Notify 1)) ∷ worker (fetched 1 1) ∷ worker (Check 1 ok) ∷ task (Deliver 10 Restart) ∷ task (mknod (Notify 2))
    ∷ worker (fetched 2 1) ∷ worker (Check 2 ok) ∷ worker (Check 2 ok) ∷ worker (Send 2 (Fail 1) ok) ∷ worker LetGo ∷ [])

received_again_parts : audit (always (Decided 3 (Deny 1)) (codes "no-mem")) received_again ++ summary (always (Decided 3 (Deny 1)) []) received_again
    ≡ codes "audit 2\n"
    ++ codes "2 w0 id=1 mknod rule=- verdict=open answer=- reply=none\n"
    ++ codes "6 w0 id=2 mknod rule=no-mem verdict=deny answer=EPERM reply=sent\n"
    ++ codes "summary events=11 calls=2 notified=2 answered=1 granted=0 denied=1 passed=0 injected=0 faults=0 gone=0 lost=0\n"
unfolding onto history task worker ok null read_null mknod fetched null_device first always received_again event_at lines_of newest_call outcome first_pid session_at call_with_id installed requests answer_count audits counts_text findings_text digits
received_again_parts = refl

-- a call whose task enters another one while it waits: it is over then, and the number that is installed later is not its answer
overtaken : List Event
overtaken = history (
    ev Start first ∷ task (mknod (Notify 1)) ∷ worker (fetched 1 1) ∷ worker (Check 1 ok) ∷ worker (Check 1 ok) ∷ worker put
    ∷ task (mknod Allow) ∷ task (Install (Ok 3)) ∷ task (Native (Ok 7)) ∷ task (Resume (Value (pos 3))) ∷ [])

overtaken_parts : calls overtaken ++ audit (always (Decided 3 (Inject 5 None)) (codes "feed")) overtaken ++ summary (always (Decided 3 (Inject 5 None)) []) overtaken
    ≡ codes "calls 2\n"
    ++ codes "1 t0 pid=1 mknod open\n"
    ++ codes "6 t0 pid=1 mknod 7\n"
    ++ codes "audit 1\n"
    ++ codes "2 w0 id=1 mknod rule=feed verdict=inject answer=- reply=none\n"
    ++ codes "summary events=10 calls=2 notified=1 answered=0 granted=0 denied=0 passed=0 injected=1 faults=0 gone=0 lost=0\n"
unfolding onto history task child worker ok null read_null mknod fetched null_device first always put overtaken event_at lines_of newest_call outcome first_pid session_at call_with_id installed requests answer_count audits counts_text findings_text digits
overtaken_parts = refl

-- a request without SEND: its descriptor is installed, and answers nothing
unsent : List Event
unsent = history (
    ev Start first ∷ task (mknod (Notify 1)) ∷ worker (fetched 1 1) ∷ worker (AddfdPut (record { id = 1; flags = 0; srcfd = 5; newfd = 0; newfd_flags = 0 }) ok) ∷ worker put
    ∷ task (Install (Ok 3)) ∷ task (Install (Ok 4)) ∷ [])

unsent_answers : summary (always (Decided 3 (Inject 5 None)) []) unsent
    ≡ codes "summary events=7 calls=1 notified=1 answered=1 granted=0 denied=0 passed=0 injected=0 faults=0 gone=0 lost=0\n"
unfolding onto history task child worker ok null read_null mknod fetched null_device first always put unsent event_at lines_of newest_call outcome first_pid session_at call_with_id installed requests answer_count audits counts_text findings_text digits
unsent_answers = refl

-- what the filters alone make of calls
filtered : List Event
filtered = history (
    ev Start first ∷ task (mknod Allow) ∷ task (Native (Ok 7)) ∷ task (mknod (Fails 0)) ∷ task (mknod (Fails 13)) ∷ task (mknod NoSys) ∷ task (mknod Log) ∷ task (mknod Kill) ∷ [])

filtered_calls : calls filtered
    ≡ codes "calls 6\n"
    ++ codes "1 t0 pid=1 mknod 7\n"
    ++ codes "3 t0 pid=1 mknod 0\n"
    ++ codes "4 t0 pid=1 mknod EACCES\n"
    ++ codes "5 t0 pid=1 mknod ENOSYS\n"
    ++ codes "6 t0 pid=1 mknod open\n"
    ++ codes "7 t0 pid=1 mknod ended\n"
unfolding onto history task child worker mknod first filtered lines_of newest_call outcome first_pid digits
filtered_calls = refl

each_line : List What → List (List ℕ)
each_line [] = []
each_line (a ∷ more) = what_text a ∷ each_line more

-- the words of each kind of event, beside those above
words : each_line (
    Spawn (0 ∷ 2 ∷ []) (Ok (4, Shared)) ∷ Spawn (0 ∷ 3 ∷ 11 ∷ []) (Err 11) ∷ Handler 10 RestartDisposition ∷ Handler 15 Plain
    ∷ Enter (pos 1000) (1 ∷ 2 ∷ 3 ∷ 4 ∷ 5 ∷ 18446744073709551615 ∷ []) Allow ∷ Enter (pos 39) [] (Fails 13) ∷ Native (Ok 3) ∷ Native (Err 38) ∷ Install (Ok 5) ∷ Install (Err 9)
    ∷ Resume (Fail 200) ∷ Resume (Value (negsuc 1)) ∷ Signal 7 15 (Err 3) ∷ Deliver 12 Run ∷ Reap (Ok (0 ∷ 1 ∷ [])) ∷ Reap (Err 10) ∷ Recv (Err 2) ∷ OpenMem 9 (Err 3)
    ∷ Read 0 4 (Ok (0 ∷ 255 ∷ 0 ∷ [])) ∷ Read 0 4 (Ok (0 ∷ 0 ∷ [])) ∷ Read 0 4 (Err 14)
    ∷ Act (Mknod (Some (negsuc 99)) (97 ∷ 34 ∷ 92 ∷ 10 ∷ 127 ∷ []) 4534 0) None (Err 17) ∷ Act (Mknod None [] 24576 1280) None ok
    ∷ Act (Mount (codes "/dev/sda1") (codes "/mnt") (codes "ext4") [] (codes "fuse2fs") 3 true) None ok ∷ Act (SetXattr (codes "/d") (codes "n") [] 1) None (Err 61)
    ∷ Plant 68096 [] None (Err 14) ∷ AddfdPut (record { id = 8; flags = 3; srcfd = 5; newfd = 6; newfd_flags = 0 }) (Err 9) ∷ AddfdPut (record { id = 8; flags = 2; srcfd = 5; newfd = 0; newfd_flags = 0 }) ok
    ∷ AddfdPut (record { id = 8; flags = 1; srcfd = 5; newfd = 6; newfd_flags = 0 }) ok
    ∷ AddfdTake (Ok 3) ∷ AddfdTake (Err 2) ∷ Send 4 Continue (Err 2) ∷ [])
    ≡ codes "spawn 0.2 pid=4 share" ∷ codes "spawn 0.3.11 EAGAIN" ∷ codes "handler 10 restart" ∷ codes "handler 15 plain"
    ∷ codes "call 1000 1 2 3 4 5 18446744073709551615 allow" ∷ codes "call getpid errno=13" ∷ codes "native 3" ∷ codes "native ENOSYS" ∷ codes "install 5" ∷ codes "install EBADF"
    ∷ codes "resume E200" ∷ codes "resume -2" ∷ codes "kill 7 15 ESRCH" ∷ codes "deliver 12 run" ∷ codes "wait 0.1" ∷ codes "wait ECHILD" ∷ codes "recv ENOENT" ∷ codes "open-mem 9 ESRCH"
    ∷ codes "read 0 4 00ff" ∷ codes "read 0 4 -" ∷ codes "read 0 4 EFAULT"
    ∷ codes "act mknodat -100 \"a\\\"\\\\\\x0a\\x7f\" fifo EEXIST" ∷ codes "act mknod \"\" blk 5:0 ok"
    ∷ codes "act mount \"/dev/sda1\" \"/mnt\" \"ext4\" flags=3 data=\"\" via=fuse2fs shift=1 ok" ∷ codes "act setxattr \"/d\" \"n\" - flags=1 ENODATA"
    ∷ codes "plant 68096 EFAULT" ∷ codes "addfd-put 8 src=5 at=6 EBADF" ∷ codes "addfd-put 8 src=5 at=- ok" ∷ codes "addfd-put 8 src=5 at=6 nosend ok"
    ∷ codes "addfd-take 3" ∷ codes "addfd-take ENOENT" ∷ codes "send 4 continue ENOENT" ∷ []
unfolding each_line ok digits
words = refl
