-- Two scripts of their own, the histories that they play, and others that are not mediated: an act goes from another base,
-- and a session ends without its last answer.
use Rattle.std.specs.Prelude.{◌≡◌, ℕ, ◌==◌, if◌then◌else◌, true, List, [], ◌∷◌, ◌++◌, length, replicate, Some, None, Ok}
use Rattle.std.specs.Prelude.{Err, pos, negsuc, codes}
use Rattle.hist_model.specs.Decisions.{plain_rule}
use Rattle.hist_model.specs.Filters.{notify_filter}
use Rattle.hist_model.specs.Legal.{played, rules_of}
use Rattle.hist_model.specs.Look.{ev, event_at}
use Rattle.hist_model.specs.Mediated.{BaseIs, Mediated}
use Rattle.hist_model.specs.Sessions.{session, notif_of}
use Rattle.hist_model.specs.Steps.{session_call}
use Rattle.hist_model.specs.WorkedExample.{mknod_args, mknod_policy, script_making, three_turns}
use Rattle.hist_model.specs.declared.event.Actor.TheVariants.{Listener}
use Rattle.hist_model.specs.declared.event.Back.TheVariants.{Fail, Value}
use Rattle.hist_model.specs.declared.event.Delivered.TheVariants.{Eintr, End}
use Rattle.hist_model.specs.declared.event.SpawnKind.TheVariants.{Copied}
use Rattle.hist_model.specs.declared.event.Entered.TheVariants.{Allow, Notify}
use Rattle.hist_model.specs.declared.event.Event.{Event}
use Rattle.hist_model.specs.declared.event.Disposition.TheVariants.{Plain}
use Rattle.hist_model.specs.declared.event.What.{What}
use Rattle.hist_model.specs.declared.event.What.TheVariants.{Spawn, Poke, Handler, Enter, Native, Resume, Signal, Deliver, Reap, Exit, Recv}
use Rattle.hist_model.specs.declared.event.What.TheVariants.{OpenMem, OpenBase, Check, Read, Act, Send, LetGo, Skip, Close}
use Rattle.hist_model.specs.declared.policy.Calls.TheVariants.{Named}
use Rattle.hist_model.specs.declared.policy.Policy.{Policy}
use Rattle.hist_model.specs.declared.policy.Verdict.TheVariants.{Grant}
use Rattle.hist_model.specs.declared.request.Node.TheVariants.{Dir}
use Rattle.hist_model.specs.declared.request.Request.TheVariants.{Mknod}
use Rattle.hist_model.specs.declared.script.Instr.TheVariants.{Poke as IPoke, Call as ICall}
use Rattle.hist_model.specs.declared.script.Instr.TheVariants.{Spawn as ISpawn, Kill as IKill, Handler as IHandler, Wait as IWait}
use Rattle.hist_model.specs.declared.script.Script.{Script}
use Rattle.hist_model.specs.declared.script.TreeLine.TheVariants.{Made}
use Rattle.hist_model.specs.declared.script.Whom.TheVariants.{Child}
use Rattle.mediation.specs.Refused.{parent, child, worker}
use Rattle.mediation.specs.Unmediated.{container, file, history, notified, path, Made as MadeCall, Turns}
use Rattle.mediation.specs.UnmediatedActs.{other_child}
use Rattle.sys_abi.specs.Calls.{nr_close, nr_mknod, nr_mknodat}
use Rattle.sys_abi.specs.Errnos.{ebadf, enoent}
use Rattle.sys_abi.specs.declared.wire.Notif.{Notif}

-- the history breaks the clause, and so is not mediated
abbrev pub BreaksOf : Policy → Script → (List Event → Type 0) → List Event → Type 0
BreaksOf P S Clause K = (Clause K → ⊥) × (Mediated P S K → ⊥)

-- ---- the base of an act

-- every node may be made from a directory
abbrev pub from_directories : Policy
from_directories = record { rules = plain_rule (codes "nodes") (Named (pos nr_mknodat ∷ [])) [] Grant ∷ [] }

-- the node a, by mknodat from the directory at number 3: the null device, with the path in the last two bytes of a piece of memory
abbrev pub node_at_3 : MadeCall
node_at_3 = (pos nr_mknodat, 3 ∷ 65790 ∷ 8630 ∷ 259 ∷ 0 ∷ 0 ∷ [])

-- a task opens the directory /d, which gets the number 3, and makes the node there. There is another one, /e
abbrev pub with_directory : Script
with_directory = record container {
  tree = Made (record { ordinal = 0 }) (codes "d") Dir ∷ Made (record { ordinal = 0 }) (codes "e") Dir ∷ [];
  filters = record { insns = notify_filter (pos nr_mknodat ∷ []); listener = true } ∷ [];
  programs = (IPoke 65789 (path 100) ∷ ICall file.0 file.1 ∷ IPoke 65790 (97 ∷ 0 ∷ []) ∷ ICall node_at_3.0 node_at_3.1 ∷ []) ∷ [];
  schedule = three_turns 5 9 1;
}

-- it opens the directory of one letter, and it calls
abbrev pub directory_opened : ℕ → List What
directory_opened letter = Poke 65789 (path letter) ∷ Enter file.0 file.1 Allow ∷ Native (Ok 3) ∷ []

abbrev pub node_called : List What
node_called = Poke 65790 (97 ∷ 0 ∷ []) ∷ Enter node_at_3.0 node_at_3.1 (Notify 1) ∷ []

-- a session for a task with this number, from its openings to its second check, and its act
abbrev pub copying_from : ℕ → What → List What
copying_from p opening = OpenMem p (Ok tt) ∷ opening ∷ Check 1 (Ok tt) ∷ Read 65790 2 (Ok (97 ∷ 0 ∷ [])) ∷ Check 1 (Ok tt) ∷ []

abbrev pub making_at_3 : What
making_at_3 = Act (Mknod (Some (pos 3)) (codes "a") 8630 259) None (Ok tt)

-- the history before the act, with this opening of its base, and what follows
abbrev pub before_act : What → Turns
before_act opening =
    (parent, directory_opened 100 ++ node_called) ∷ (worker, Recv (Ok (notified node_at_3 1)) ∷ copying_from 1 opening) ∷ []

abbrev pub with_base : What → Turns
with_base opening = before_act opening ++ (worker, making_at_3 ∷ Send 1 (Value (pos 0)) (Ok tt) ∷ LetGo ∷ [])
    ∷ (parent, Resume (Value (pos 0)) ∷ []) ∷ (Listener, Close ∷ []) ∷ []

-- this is what is played
abbrev pub own_base : List Event
own_base = history (with_base (OpenBase 1 (pos 3) (Ok tt)))

abbrev pub OwnBaseIsPlayed : Type 0
OwnBaseIsPlayed = played from_directories with_directory ≡ own_base

-- the worker opens the container's root for the directory that the call names
abbrev pub opening_root : What
opening_root = OpenBase 1 (negsuc 99) (Ok tt)

abbrev pub other_base : List Event
other_base = history (with_base opening_root)

-- the number 3 is closed
abbrev pub closing : MadeCall
closing = (pos nr_close, 3 ∷ 0 ∷ 0 ∷ 0 ∷ 0 ∷ 0 ∷ [])

-- a child has the directory too, and calls. Once it is received it is killed and waited for; its parent opens /e in the place of /d,
-- and makes another child, which gets its number.
-- So by this number the worker opens /e, and finds the notification good
abbrev pub before_reused_act : Turns
before_reused_act = (parent, directory_opened 100 ++ Spawn (0 ∷ 1 ∷ []) (Ok (2, Copied)) ∷ []) ∷ (child, node_called)
    ∷ (worker, Recv (Ok (record (notified node_at_3 1) { pid = 2 })) ∷ []) ∷ (parent, Signal 2 9 (Ok tt) ∷ []) ∷ (child, Deliver 9 End ∷ [])
    ∷ (
      parent,
      Reap (Ok (0 ∷ 1 ∷ [])) ∷ Enter closing.0 closing.1 Allow ∷ Native (Ok 0) ∷ directory_opened 101
          ++ Spawn (0 ∷ 2 ∷ []) (Ok (2, Copied)) ∷ [],
    )
    ∷ (other_child, Poke 65790 (97 ∷ 0 ∷ []) ∷ []) ∷ (worker, copying_from 2 (OpenBase 2 (pos 3) (Ok tt))) ∷ []

abbrev pub reused_base : List Event
reused_base = history (before_reused_act ++ (worker, making_at_3 ∷ []) ∷ [])

-- the worker opens no base at all, and is told that the path goes from nowhere
abbrev pub before_unbased_act : Turns
before_unbased_act = (parent, directory_opened 100 ++ node_called)
    ∷ (
      worker,
      Recv (Ok (notified node_at_3 1)) ∷ OpenMem 1 (Ok tt) ∷ Check 1 (Ok tt)
          ∷ Read 65790 2 (Ok (97 ∷ 0 ∷ [])) ∷ Check 1 (Ok tt) ∷ [],
    ) ∷ []

abbrev pub unopened_base : List Event
unopened_base = history (before_unbased_act
    ++ (worker, Act (Mknod (Some (pos 3)) (codes "a") 8630 259) None (Err ebadf) ∷ Send 1 (Fail ebadf) (Ok tt) ∷ []) ∷ [])

-- an act goes from the base of its session's call
abbrev pub HasBase : List Event → ℕ → Type 0
HasBase K w = (c : ℕ) × (n : Notif) × (session_call K w ≡ Some c) × (notif_of (session K w) ≡ Some n)
    × BaseIs with_directory K w c n ((rules_of from_directories with_directory.figures).dirfd n)

-- ---- an interrupted call

-- the null device at /null, by mknod
abbrev pub null_node : MadeCall
null_node = (pos nr_mknod, mknod_args 259)

-- the script of cases/call-interrupted-before-the-second-check: a signal interrupts a child's call after its arguments were read
abbrev pub interrupting : Script
interrupting = record (script_making [] 0 []) {
  programs = (IHandler 10 Plain ∷ IPoke 65536 (codes "/null" ++ 0 ∷ []) ∷ ICall null_node.0 null_node.1 ∷ [])
      ∷ (ISpawn 0 ∷ IKill (Child 1) 10 ∷ IWait ∷ []) ∷ [];
  schedule = record { who = parent; count = 1 } ∷ record { who = child; count = 3 } ∷ record { who = worker; count = 5 }
      ∷ record { who = parent; count = 1 } ∷ record { who = child; count = 2 } ∷ record { who = worker; count = 11 }
      ∷ record { who = child; count = 2 } ∷ record { who = parent; count = 2 } ∷ [];
}

-- what it plays where the policy has the switch for mknod
abbrev pub interrupted : List Event
interrupted = played mknod_policy interrupting

-- the history without its event at this place
abbrev pub without : ℕ → List Event → List Event
without p [] = []
without p (e ∷ K) = if length K == p then K else (e ∷ without p K)

-- the events are these, the oldest first
abbrev pub interrupted_turns : Turns
interrupted_turns = (parent, Spawn (0 ∷ 1 ∷ []) (Ok (2, Copied)) ∷ [])
    ∷ (child, Handler 10 Plain ∷ Poke 65536 (codes "/null" ++ 0 ∷ []) ∷ Enter null_node.0 null_node.1 (Notify 1) ∷ [])
    ∷ (
      worker,
      Recv (Ok (record (notified null_node 1) { pid = 2 })) ∷ OpenMem 2 (Ok tt) ∷ OpenBase 2 (negsuc 99) (Ok tt) ∷ Check 1 (Ok tt)
          ∷ Read 65536 256 (Ok (codes "/null" ++ replicate 251 0)) ∷ [],
    )
    ∷ (parent, Signal 2 10 (Ok tt) ∷ []) ∷ (child, Deliver 10 Eintr ∷ Exit ∷ []) ∷ (worker, Check 1 (Err enoent) ∷ LetGo ∷ replicate 9 Skip)
    ∷ (child, Skip ∷ Skip ∷ [])
    ∷ (parent, Reap (Ok (0 ∷ 1 ∷ [])) ∷ Exit ∷ []) ∷ (Listener, Close ∷ []) ∷ []

abbrev pub InterruptedIsPlayed : Type 0
InterruptedIsPlayed = interrupted ≡ history interrupted_turns

-- the last answer that the worker gets is that of its second check, which finds nothing; then it lets go
abbrev pub LastAnswer : Type 0
LastAnswer = (event_at interrupted 13 ≡ Some (ev worker (Check 1 (Err enoent)))) × (event_at interrupted 14 ≡ Some (ev worker LetGo))
