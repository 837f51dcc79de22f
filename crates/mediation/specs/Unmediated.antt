-- Small histories of one policy and one script that are not mediated: each breaks a clause, and is chosen to break few others.
-- They differ from the history that the script's schedule plays in a step or a few, and the same worker goes on behind them
-- where a wrong broker could hide its step so.
use Rattle.std.specs.Prelude.{◌≡◌, ℕ, ℤ, false, true, List, [], ◌∷◌, ◌++◌, Some, None, Ok, Err, pos, negsuc, codes}
use Rattle.hist_model.specs.Look.{ev}
use Rattle.hist_model.specs.Filters.{notify_filter}
use Rattle.hist_model.specs.Sysinfo.{no_figures}
use Rattle.hist_model.specs.WorkedExample.{three_turns}
use Rattle.hist_model.specs.Decisions.{plain_rule}
use Rattle.hist_model.specs.Legal.{played, rules_of}
use Rattle.hist_model.specs.Mediated.{Mediated, ReadsOwn}
use Rattle.hist_model.specs.declared.event.Actor.{Actor}
use Rattle.hist_model.specs.declared.event.Actor.TheVariants.{Start, Worker, Listener}
use Rattle.hist_model.specs.declared.event.Back.{Back}
use Rattle.hist_model.specs.declared.event.Back.TheVariants.{Value, Fail, Continue}
use Rattle.hist_model.specs.declared.event.Delivered.TheVariants.{Eintr, End, Run}
use Rattle.hist_model.specs.declared.event.Disposition.TheVariants.{Plain}
use Rattle.hist_model.specs.declared.event.Entered.TheVariants.{Allow, Notify}
use Rattle.hist_model.specs.declared.event.Event.{Event}
use Rattle.hist_model.specs.declared.event.SpawnKind.TheVariants.{New}
use Rattle.hist_model.specs.declared.event.What.{What}
use Rattle.hist_model.specs.declared.event.What.TheVariants.{Handler, Signal, Spawn, Poke, Enter, Native, Install, Resume}
use Rattle.hist_model.specs.declared.event.What.TheVariants.{Deliver, Recv, OpenMem, OpenBase, Check, Read, Act, Plant, AddfdPut}
use Rattle.hist_model.specs.declared.event.What.TheVariants.{AddfdTake, Send, LetGo, Close}
use Rattle.hist_model.specs.declared.policy.Calls.TheVariants.{Named}
use Rattle.hist_model.specs.declared.policy.Cap.{Cap}
use Rattle.hist_model.specs.declared.policy.Cond.TheVariants.{Path}
use Rattle.hist_model.specs.declared.policy.Policy.{Policy}
use Rattle.hist_model.specs.declared.policy.Verdict.TheVariants.{Grant, Deny, Pass, Inject}
use Rattle.hist_model.specs.declared.request.Request.TheVariants.{Mknod}
use Rattle.hist_model.specs.declared.script.Instr.TheVariants.{Poke as IPoke, Call as ICall}
use Rattle.hist_model.specs.declared.script.Script.{Script}
use Rattle.mediation.specs.Refused.{parent, child, worker}
use Rattle.sys_abi.specs.Calls.{nr_mknod, nr_openat, nr_sysinfo}
use Rattle.sys_abi.specs.Errnos.{eacces, ebadf, eperm, efault, enoent, einprogress, edquot}
use Rattle.sys_abi.specs.declared.wire.Addfd.{Addfd}
use Rattle.sys_abi.specs.declared.wire.Notif.{Notif}

-- ---- the policy and the script

-- the device node /a may be made once, and /b not; files are opened by the broker, the container's figures are told,
-- and other nodes are the caller's affair
abbrev pub rules : Policy
rules = record {
  rules = record (plain_rule (codes "once") (Named (pos nr_mknod ∷ [])) (Path (codes "/a") ∷ []) Grant) { times = Some 1 }
      ∷ plain_rule (codes "shut") (Named (pos nr_mknod ∷ [])) (Path (codes "/b") ∷ []) (Deny eacces)
      ∷ plain_rule (codes "file") (Named (pos nr_openat ∷ [])) [] (Inject 5 None)
      ∷ plain_rule (codes "figures") (Named (pos nr_sysinfo ∷ [])) [] Grant
      ∷ plain_rule (codes "rest") (Named (pos nr_mknod ∷ [])) [] Pass ∷ [];
}

-- a call: its number and its arguments
abbrev pub Made : Type 0
Made = ℤ × List ℕ

-- a node, by mknod: the null device, with the path in the last three bytes of a piece of memory
abbrev pub node : Made
node = (pos nr_mknod, 65789 ∷ 8630 ∷ 259 ∷ 0 ∷ 0 ∷ 0 ∷ [])

-- a file, by openat from the working directory, and the figures, by sysinfo
abbrev pub file : Made
file = (pos nr_openat, 4294967196 ∷ 65789 ∷ 0 ∷ 0 ∷ 0 ∷ 0 ∷ [])

abbrev pub figures : Made
figures = (pos nr_sysinfo, 65792 ∷ 0 ∷ 0 ∷ 0 ∷ 0 ∷ 0 ∷ [])

-- the path of one letter, with its zero
abbrev pub path : ℕ → List ℕ
path letter = 47 ∷ letter ∷ 0 ∷ []

-- one task makes /a by one call; it takes two steps, then the worker nine, then the task one
abbrev pub container : Script
container = record {
  pidbase = 0;
  pidmax = 2;
  firstid = 1;
  rlimit = 8;
  killable = false;
  root = record { ordinal = 0 };
  figures = no_figures;
  tree = [];
  broker = 5 ∷ [];
  map = record { start = 65536; pages = 1 } ∷ [];
  filters = record { insns = notify_filter (pos nr_mknod ∷ []); listener = true } ∷ [];
  programs = (IPoke 65789 (path 97) ∷ ICall node.0 node.1 ∷ []) ∷ [];
  schedule = three_turns 2 9 1;
}

-- ---- histories

-- actors and their steps, in turn
abbrev pub Turns : Type 0
Turns = List (Actor × List What)

-- the steps of an actor after a history, and of several actors in turn
abbrev pub taken : Actor → List What → List Event → List Event
taken a [] K = K
taken a (what ∷ more) K = taken a more (ev a what ∷ K)

abbrev pub turns : Turns → List Event → List Event
turns [] K = K
turns (t ∷ more) K = turns more (taken t.0 t.1 K)

-- the history that begins with the start and goes on with these turns
abbrev pub history : Turns → List Event
history steps = turns steps (ev Start (Spawn (0 ∷ []) (Ok (1, New))) ∷ [])

-- it breaks the clause, and so is not mediated
abbrev pub Breaks : (List Event → Type 0) → Turns → Type 0
Breaks Clause steps = (Clause (history steps) → ⊥) × (Mediated rules container (history steps) → ⊥)

-- each read is the next piece of its call's arguments
abbrev pub ReadsPlanned : List Event → Event → Type 0
ReadsPlanned K e = ReadsOwn (rules_of rules container.figures) K e

-- the notification of a call of the first task
abbrev pub notified : Made → ℕ → Notif
notified call x = record { id = x; pid = 1; flags = 0; call = record { nr = call.0; arch = 0xc000003e; ip = 0; args = call.1 } }

-- the first task stores a path and calls
abbrev pub calls : Made → ℕ → ℕ → Actor × List What
calls call letter x = (parent, Poke 65789 (path letter) ∷ Enter call.0 call.1 (Notify x) ∷ [])

-- a session for a call of a path: fetched, opened, checked, read, and checked again
abbrev pub fetching : Made → ℕ → List What
fetching call x = Recv (Ok (notified call x)) ∷ []

abbrev pub opening : Made → ℕ → List What
opening call x = fetching call x ++ OpenMem 1 (Ok tt) ∷ OpenBase 1 (negsuc 99) (Ok tt) ∷ []

abbrev pub checking : Made → ℕ → List What
checking call x = opening call x ++ Check x (Ok tt) ∷ []

abbrev pub reading : Made → ℕ → ℕ → List What
reading call letter x = checking call x ++ Read 65789 3 (Ok (path letter)) ∷ []

abbrev pub copying : Made → ℕ → ℕ → List What
copying call letter x = reading call letter x ++ Check x (Ok tt) ∷ []

-- what the first rule grants, and a session that ends with it
abbrev pub cap : Cap
cap = record { rule = 0; times = 1 }

abbrev pub making : What
making = Act (Mknod None (codes "/a") 8630 259) (Some cap) (Ok tt)

abbrev pub answering : ℕ → Back → List What
answering x back = Send x back (Ok tt) ∷ []

abbrev pub granting : ℕ → List What
granting x = copying node 97 x ++ making ∷ answering x (Value (pos 0))

-- the request for the broker's file, with SEND
abbrev pub asked : Addfd
asked = record { id = 1; flags = 2; srcfd = 5; newfd = 0; newfd_flags = 0 }

abbrev pub putting : List What
putting = copying file 97 1 ++ AddfdPut asked (Ok tt) ∷ []

-- the worker lets go, the call returns, the task makes it again, and the worker receives it
abbrev pub goes_on : Turns
goes_on = (worker, LetGo ∷ []) ∷ (parent, Resume (Value (pos 0)) ∷ []) ∷ calls node 97 2 ∷ (worker, fetching node 2) ∷ []

-- the history that the schedule plays has these turns, so they are mediated
abbrev pub granted : Turns
granted = calls node 97 1 ∷ (worker, granting 1 ++ LetGo ∷ []) ∷ (parent, Resume (Value (pos 0)) ∷ []) ∷ (Listener, Close ∷ []) ∷ []

abbrev pub GrantedIsPlayed : Type 0
GrantedIsPlayed = played rules container ≡ history granted

-- ---- each notification is answered at most once

-- a task does a worker's step
abbrev pub of_another : Turns
of_another = calls node 97 1 ∷ (parent, LetGo ∷ []) ∷ []

-- a second answer to the call is accepted
abbrev pub second_send : Turns
second_send = calls node 97 1 ∷ (worker, granting 1 ++ answering 1 (Value (pos 0))) ∷ []

-- another worker receives a fetched call
abbrev pub second_receive : Turns
second_receive = calls node 97 1 ∷ (worker, fetching node 1) ∷ (Worker 1, fetching node 1) ∷ []

-- ---- each reply or descriptor reaches the call it was meant for or nobody

-- the child calls too, and the answer for the parent's call is accepted for the child's
abbrev pub answer_to_another : Turns
answer_to_another = (parent, Spawn (0 ∷ 1 ∷ []) (Ok (2, New)) ∷ []) ∷ calls node 97 1 ∷ (child, Enter node.0 node.1 (Notify 2) ∷ [])
    ∷ (worker, copying node 97 1 ++ making ∷ answering 2 (Value (pos 0))) ∷ []

-- the call returns what was not sent
abbrev pub other_return : Turns
other_return = calls node 97 1 ∷ (worker, granting 1) ∷ (parent, Resume (Value (pos 1)) ∷ []) ∷ []

-- a number was installed for the call, and it returns another one
abbrev pub other_number : Turns
other_number = calls file 97 1 ∷ (worker, putting) ∷ (parent, Install (Ok 3) ∷ Resume (Value (pos 4)) ∷ []) ∷ []

-- the answer finds the call answered
abbrev pub busy_answer : Turns
busy_answer = calls node 97 1 ∷ (worker, copying node 97 1 ++ making ∷ Send 1 (Value (pos 0)) (Err einprogress) ∷ []) ∷ []

-- a check has an error of its own
abbrev pub other_error : Turns
other_error = calls node 97 1 ∷ (worker, opening node 1 ++ Check 1 (Err efault) ∷ []) ∷ []

-- the call is interrupted, and the descriptor is installed then
abbrev pub installation_after_end : Turns
installation_after_end = calls file 97 1 ∷ (worker, putting) ∷ (parent, Deliver 10 Eintr ∷ Install (Ok 3) ∷ []) ∷ []

-- the descriptor is installed over one that is open
abbrev pub other_slot : Turns
other_slot = calls file 97 1 ∷ (worker, putting) ∷ (parent, Install (Ok 2) ∷ []) ∷ []

-- an accepted reply doesn't arrive, since a signal takes its call off the list
abbrev pub lost_reply : Turns
lost_reply = calls node 97 1 ∷ (worker, granting 1) ∷ (parent, Deliver 10 Eintr ∷ []) ∷ []

-- ---- each effect is what the policy grants on one copy, found valid afterwards

-- the effect is done before the second check
abbrev pub effect_before_check : Turns
effect_before_check = calls node 97 1 ∷ (worker, reading node 97 1 ++ making ∷ []) ∷ []

-- the session makes another node than was asked for
abbrev pub other_effect : Turns
other_effect = calls node 97 1 ∷ (worker, copying node 97 1 ++ Act (Mknod None (codes "/c") 8630 259) (Some cap) (Ok tt) ∷ []) ∷ []

-- the host's figures are told for the container's
abbrev pub other_figures : Turns
other_figures = (parent, Enter figures.0 figures.1 (Notify 1) ∷ [])
    ∷ (worker, fetching figures 1 ++ OpenMem 1 (Ok tt) ∷ Check 1 (Ok tt) ∷ Check 1 (Ok tt) ∷ Plant 65792 (1 ∷ []) None (Ok tt) ∷ []) ∷ []

-- the descriptor is put in without SEND, to be answered later
abbrev pub put_without_send : Turns
put_without_send = calls file 97 1 ∷ (worker, copying file 97 1 ++ AddfdPut (record asked { flags = 0 }) (Ok tt) ∷ []) ∷ []

-- the worker reads where it has opened no memory
abbrev pub unopened_read : Turns
unopened_read = calls node 97 1 ∷ (worker, fetching node 1 ++ Check 1 (Ok tt) ∷ Read 65789 3 (Ok (path 97)) ∷ []) ∷ []

-- the argument is /b, which is denied; the worker reads /a, which stands elsewhere, and makes that
abbrev pub other_address : Turns
other_address = (parent, Poke 65600 (path 97) ∷ []) ∷ calls node 98 1
    ∷ (worker, checking node 1 ++ Read 65600 3 (Ok (path 97)) ∷ Check 1 (Ok tt) ∷ making ∷ answering 1 (Value (pos 0))) ∷ []

-- the copy is read in other pieces than the plan's
abbrev pub other_length : Turns
other_length = calls node 97 1
    ∷ (worker, checking node 1 ++ Read 65789 2 (Ok (47 ∷ 97 ∷ [])) ∷ Read 65791 1 (Ok (0 ∷ [])) ∷ Check 1 (Ok tt) ∷ making ∷ []) ∷ []

-- a second node is made by a rule that grants one
abbrev pub effect_too_many : Turns
effect_too_many = calls node 97 1 ∷ (worker, granting 1) ∷ goes_on
    ++ (
      worker,
      OpenMem 1 (Ok tt) ∷ OpenBase 1 (negsuc 99) (Ok tt) ∷ Check 2 (Ok tt) ∷ Read 65789 3 (Ok (path 97))
          ∷ Check 2 (Ok tt) ∷ making ∷ [],
    ) ∷ []

-- the first node is refused as if the rule's times were spent
abbrev pub spent_too_soon : Turns
spent_too_soon = calls node 97 1 ∷ (worker, copying node 97 1 ++ Act (Mknod None (codes "/a") 8630 259) (Some cap) (Err edquot) ∷ []) ∷ []

-- the arguments are read after both checks, and the worker goes on with another call
abbrev pub late_read : Turns
late_read = calls node 97 1
    ∷ (worker, checking node 1 ++ Check 1 (Ok tt) ∷ Read 65789 3 (Ok (path 97)) ∷ making ∷ answering 1 (Value (pos 0))) ∷ goes_on

-- the arguments are read again for the effect
abbrev pub second_read : Turns
second_read = calls node 97 1 ∷ (worker, copying node 97 1 ++ Read 65789 3 (Ok (path 97)) ∷ making ∷ answering 1 (Value (pos 0))) ∷ goes_on

-- the memory is opened after the last check
abbrev pub late_memory : Turns
late_memory = calls node 97 1 ∷ (worker, copying node 97 1 ++ OpenMem 1 (Ok tt) ∷ making ∷ answering 1 (Value (pos 0))) ∷ goes_on

-- ---- each answer has its cause

-- the call is passed before anything of it is read
abbrev pub unread_pass : Turns
unread_pass = calls node 98 1 ∷ (worker, checking node 1 ++ Check 1 (Ok tt) ∷ answering 1 Continue) ∷ []

-- a denial has the error of another rule than the one that decides
abbrev pub other_denial : Turns
other_denial = calls node 98 1 ∷ (worker, copying node 98 1 ++ answering 1 (Fail eperm)) ∷ []

-- no number was free for the descriptor, and the answer has the error of a broker without the file
abbrev pub other_failure : Turns
other_failure = calls file 97 1 ∷ (worker, putting) ∷ (parent, Install (Err ebadf) ∷ [])
    ∷ (worker, AddfdTake (Err ebadf) ∷ answering 1 (Fail ebadf)) ∷ []

-- a read gives more than it asked for, which is no copy of what was asked for
abbrev pub long_read : Turns
long_read =
    calls node 98 1 ∷ (worker, checking node 1 ++ Read 65789 3 (Ok (path 98 ++ 0 ∷ [])) ∷ Check 1 (Ok tt) ∷ answering 1 (Fail eacces)) ∷ []

-- ---- what is lost was gone, and a session ends for its reasons

-- a check finds nothing while the call is listed
abbrev pub lost_too_soon : Turns
lost_too_soon = calls node 97 1 ∷ (worker, opening node 1 ++ Check 1 (Err enoent) ∷ []) ∷ []

-- the worker lets go of the call and never answers
abbrev pub given_up : Turns
given_up = calls node 97 1 ∷ (worker, copying node 97 1 ++ LetGo ∷ []) ∷ []

-- it receives the next call without an answer to the one that it has
abbrev pub left_open : Turns
left_open = (parent, Spawn (0 ∷ 1 ∷ []) (Ok (2, New)) ∷ []) ∷ calls node 97 1 ∷ (worker, fetching node 1)
    ∷ (child, Enter node.0 node.1 (Notify 2) ∷ [])
    ∷ (worker, Recv (Ok (record (notified node 2) { pid = 2 })) ∷ []) ∷ []

-- a receive finds nothing, and no call has left
abbrev pub empty_receive : Turns
empty_receive = calls node 97 1 ∷ (worker, Recv (Err enoent) ∷ []) ∷ []

-- ---- nothing goes past the broker

-- a call of which the filter notifies is let through, and runs natively
abbrev pub unfiltered : Turns
unfiltered = (parent, Poke 65789 (path 97) ∷ Enter node.0 node.1 Allow ∷ Native (Err eperm) ∷ []) ∷ []

-- a signal that nobody sent ends the task
abbrev pub unsent_signal : Turns
unsent_signal = (parent, Deliver 10 End ∷ []) ∷ []

-- a signal that was sent once is delivered twice
abbrev pub second_delivery : Turns
second_delivery = (parent, Handler 10 Plain ∷ Signal 1 10 (Ok tt) ∷ Deliver 10 Run ∷ Deliver 10 Run ∷ []) ∷ []

-- a signal without a handler leaves the task alive
abbrev pub other_disposition : Turns
other_disposition = (parent, Signal 1 10 (Ok tt) ∷ Deliver 10 Run ∷ []) ∷ []

-- ---- a passed call runs without the broker's rights

-- the device /c is passed, and made
abbrev pub privileged_pass : Turns
privileged_pass =
    calls node 99 1 ∷ (worker, copying node 99 1 ++ answering 1 Continue) ∷ (parent, Resume Continue ∷ Native (Ok 0) ∷ []) ∷ []
