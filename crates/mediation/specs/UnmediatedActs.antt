-- Small histories with an act that rests on too little: each breaks one part of what an act rests on, and is refused if no more
-- than this part is asked of acts. They are of the policy and the script of the other small histories, and end with the act.
-- And histories with a use of the copy for which the audit names no rule.
use Rattle.std.specs.Prelude.{◌≡◌, ℕ, List, [], ◌∷◌, ◌++◌, Option, Some, None, Result, Ok, Err, pos, negsuc, codes}
use Rattle.hist_model.specs.Kinds.{is_good_check}
use Rattle.hist_model.specs.Laws.{fetcher}
use Rattle.hist_model.specs.Legal.{rules_of}
use Rattle.hist_model.specs.Mediated.{Each}
use Rattle.hist_model.specs.Sessions.{session, notif_of, reads_of, first_some, outcome_in, number_of}
use Rattle.hist_model.specs.Steps.{notif, session_call}
use Rattle.hist_model.specs.Sysinfo.{container_sysinfo}
use Rattle.hist_model.specs.declared.event.Actor.{Actor}
use Rattle.hist_model.specs.declared.event.Actor.TheVariants.{Task, Worker}
use Rattle.hist_model.specs.declared.event.Delivered.TheVariants.{Eintr, End}
use Rattle.hist_model.specs.declared.event.Event.{Event}
use Rattle.hist_model.specs.declared.event.SpawnKind.TheVariants.{New}
use Rattle.hist_model.specs.declared.event.Entered.TheVariants.{Notify}
use Rattle.hist_model.specs.declared.event.What.{What}
use Rattle.hist_model.specs.declared.event.What.TheVariants.{Spawn, Poke, Enter, Signal, Deliver, Reap, Recv, OpenMem, OpenBase, Check}
use Rattle.hist_model.specs.declared.event.What.TheVariants.{Read, Act, Plant, AddfdPut, LetGo}
use Rattle.hist_model.specs.declared.policy.Cap.{Cap}
use Rattle.hist_model.specs.declared.request.Request.{Request}
use Rattle.hist_model.specs.declared.request.Request.TheVariants.{Mknod}
use Rattle.mediation.specs.Refused.{parent, child, worker}
use Rattle.mediation.specs.Unmediated.{rules, container, Made, Turns, asked, cap, calls, checking, copying, fetching, figures, file, making}
use Rattle.mediation.specs.Unmediated.{node, notified, path, putting, reading}
use Rattle.sys_abi.specs.Calls.{nr_mknod}
use Rattle.sys_abi.specs.Errnos.{efault, enoent, edquot}
use Rattle.sys_abi.specs.declared.wire.Notif.{Notif}

-- ---- the parts

-- what is said of each act, by the events before it and its worker
abbrev pub AtActs : (List Event → ℕ → Type 0) → List Event → Type 0
AtActs Part =
    Each (λ K e. (w : ℕ) (q : Request) (cap : Option Cap) (a : Result (Unit {0}) ℕ) → e.who ≡ Worker w → e.what ≡ Act q cap a → Part K w)

-- its session has a call, of which this holds
abbrev pub OfCall : (List Event → ℕ → ℕ → Type 0) → List Event → ℕ → Type 0
OfCall Part K w = (c : ℕ) × (session_call K w ≡ Some c) × Part K w c

abbrev pub HasCall : List Event → ℕ → Type 0
HasCall K w = (c : ℕ) × (session_call K w ≡ Some c)

-- it is the one that fetched the call
abbrev pub IsFetcher : List Event → ℕ → ℕ → Type 0
IsFetcher K w c = fetcher K c ≡ Some w

-- its notification is the call's
abbrev pub HasNotification : List Event → ℕ → ℕ → Type 0
HasNotification K w c = notif_of (session K w) ≡ Some (notif K c)

-- it has the whole copy, and this has no fault
abbrev pub HasWhole : List Event → ℕ → Type 0
HasWhole K w =
    (n : Notif) × (notif_of (session K w) ≡ Some n) × ((rules_of rules container.figures).next_piece n (reads_of (session K w)) ≡ None)

abbrev pub HasNoFault : List Event → ℕ → Type 0
HasNoFault K w =
    (n : Notif) × (notif_of (session K w) ≡ Some n) × ((rules_of rules container.figures).fault n (reads_of (session K w)) ≡ None)

-- two checks of it were good
abbrev pub IsChecked : List Event → ℕ → Type 0
IsChecked K w = number_of is_good_check (session K w) ≡ 2

-- it is the session's first effect
abbrev pub IsFirst : List Event → ℕ → Type 0
IsFirst K w = first_some outcome_in (session K w) ≡ None

-- ---- the histories

-- the worker acts for a call that it has let go
abbrev pub act_without_call : Turns
act_without_call = calls node 97 1 ∷ (worker, copying node 97 1 ++ LetGo ∷ making ∷ []) ∷ []

-- it acts for a call that another worker has received in between
abbrev pub act_for_another : Turns
act_for_another = calls node 97 1 ∷ (worker, copying node 97 1) ∷ (Worker 1, fetching node 1) ∷ (worker, making ∷ []) ∷ []

-- the device 1:5
abbrev pub zero_node : Made
zero_node = (pos nr_mknod, 65789 ∷ 8630 ∷ 261 ∷ 0 ∷ 0 ∷ 0 ∷ [])

-- the call asks for it, its notification tells of 1:3, and this one is made
abbrev pub act_by_other_notification : Turns
act_by_other_notification = calls zero_node 97 1 ∷ (worker, copying node 97 1 ++ making ∷ []) ∷ []

-- the arguments are never read
abbrev pub act_unread : Turns
act_unread = calls node 97 1 ∷ (worker, checking node 1 ++ Check 1 (Ok tt) ∷ making ∷ []) ∷ []

-- they can't be read
abbrev pub act_on_fault : Turns
act_on_fault = calls node 97 1 ∷ (worker, checking node 1 ++ Read 65789 3 (Err efault) ∷ Check 1 (Ok tt) ∷ making ∷ []) ∷ []

-- a signal interrupts the call after its arguments were read, and the second check is good all the same
abbrev pub act_after_interrupt : Turns
act_after_interrupt =
    calls node 97 1 ∷ (worker, reading node 97 1) ∷ (parent, Deliver 10 Eintr ∷ []) ∷ (worker, Check 1 (Ok tt) ∷ making ∷ []) ∷ []

abbrev pub other_child : Actor
other_child = Task (0 ∷ 2 ∷ [])

-- a child calls and is received; it is killed and waited for, and another child gets its number and stores another path.
-- The worker opens the memory of this one by the number, finds the notification good, and makes what the other child has stored
abbrev pub act_by_reused_number : Turns
act_by_reused_number = (parent, Spawn (0 ∷ 1 ∷ []) (Ok (2, New)) ∷ []) ∷ (child, Poke 65789 (path 98) ∷ Enter node.0 node.1 (Notify 1) ∷ [])
    ∷ (worker, Recv (Ok (record (notified node 1) { pid = 2 })) ∷ []) ∷ (parent, Signal 2 9 (Ok tt) ∷ []) ∷ (child, Deliver 9 End ∷ [])
    ∷ (parent, Reap (Ok (0 ∷ 1 ∷ [])) ∷ Spawn (0 ∷ 2 ∷ []) (Ok (2, New)) ∷ []) ∷ (other_child, Poke 65789 (path 97) ∷ [])
    ∷ (
      worker,
      OpenMem 2 (Ok tt) ∷ OpenBase 2 (negsuc 99) (Ok tt) ∷ Check 1 (Ok tt) ∷ Read 65789 3 (Ok (path 97))
          ∷ Check 1 (Ok tt) ∷ making ∷ [],
    ) ∷ []

-- the node is made, and the session tries once more, which the rule's limit refuses
abbrev pub act_again : Turns
act_again =
    calls node 97 1 ∷ (worker, copying node 97 1 ++ making ∷ Act (Mknod None (codes "/a") 8630 259) (Some cap) (Err edquot) ∷ []) ∷ []

-- the figures are written twice, and a descriptor is asked for twice
abbrev pub planting : What
planting = Plant 65792 (container_sysinfo container.figures) None (Ok tt)

abbrev pub planted : Turns
planted = (parent, Enter figures.0 figures.1 (Notify 1) ∷ [])
    ∷ (worker, fetching figures 1 ++ OpenMem 1 (Ok tt) ∷ Check 1 (Ok tt) ∷ Check 1 (Ok tt) ∷ planting ∷ []) ∷ []

abbrev pub plant_again : Turns
plant_again = planted ++ (worker, planting ∷ []) ∷ []

abbrev pub put_again : Turns
put_again = calls file 97 1 ∷ (worker, putting ++ AddfdPut asked (Ok tt) ∷ []) ∷ []

-- ---- the audit of a use

-- the copy is used, a signal interrupts the call, and in place of an answer the worker asks once more whether its notification is valid.
-- So the audit says that the call was gone, and names no rule
abbrev pub asking_again : Turns
asking_again = (parent, Deliver 10 Eintr ∷ []) ∷ (worker, Check 1 (Err enoent) ∷ LetGo ∷ []) ∷ []

abbrev pub act_unnamed : Turns
act_unnamed = calls node 97 1 ∷ (worker, copying node 97 1 ++ making ∷ []) ∷ asking_again

abbrev pub put_unnamed : Turns
put_unnamed = calls file 97 1 ∷ (worker, putting) ∷ asking_again

abbrev pub plant_unnamed : Turns
plant_unnamed = planted ++ asking_again
