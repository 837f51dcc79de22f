-- Small histories in which a worker is told what isn't so: each breaks a clause, and is chosen to break few others. They are of the policy
-- and the script of the histories that are not mediated, and differ from the one that the schedule plays in a step or a few.
use Rattle.std.specs.Prelude.{[], ◌∷◌, ◌++◌, Some, None, Ok, Err, pos, negsuc, codes}
use Rattle.hist_model.specs.Sysinfo.{container_sysinfo, no_figures}
use Rattle.hist_model.specs.declared.event.Back.TheVariants.{Value, Fail}
use Rattle.hist_model.specs.declared.event.Delivered.TheVariants.{Eintr}
use Rattle.hist_model.specs.declared.event.Entered.TheVariants.{Notify}
use Rattle.hist_model.specs.declared.event.SpawnKind.TheVariants.{New}
use Rattle.hist_model.specs.declared.event.What.TheVariants.{Spawn, Enter, Install, Deliver, Recv, OpenMem, OpenBase, Check, Act}
use Rattle.hist_model.specs.declared.event.What.TheVariants.{Plant, AddfdPut, AddfdTake, LetGo}
use Rattle.hist_model.specs.declared.request.Request.TheVariants.{Mknod}
use Rattle.mediation.specs.Refused.{parent, child, worker}
use Rattle.mediation.specs.Unmediated.{Made, Turns, answering, asked, calls, cap, copying, fetching, file, granting}
use Rattle.mediation.specs.Unmediated.{node, notified, opening, putting}
use Rattle.sys_abi.specs.Calls.{nr_sysinfo}
use Rattle.sys_abi.specs.Errnos.{ebadf, eexist, enoent}
use Rattle.sys_abi.specs.declared.wire.Notif.{Notif}

-- ---- receives

-- the parent calls, and then its child, whose notification is received first
abbrev pub of_child : Notif
of_child = record (notified node 2) { pid = 2 }

abbrev pub younger_fetched : Turns
younger_fetched = (parent, Spawn (0 ∷ 1 ∷ []) (Ok (2, New)) ∷ []) ∷ calls node 97 1 ∷ (child, Enter node.0 node.1 (Notify 2) ∷ [])
    ∷ (worker, Recv (Ok of_child) ∷ []) ∷ []

-- a notification has other arguments than the call
abbrev pub altered_notification : Turns
altered_notification = calls node 97 1 ∷ (worker, fetching file 1) ∷ []

-- the parent's call is interrupted before it is received, and then a receive finds nothing, though the child's is there
abbrev pub blind_receive : Turns
blind_receive = (parent, Spawn (0 ∷ 1 ∷ []) (Ok (2, New)) ∷ []) ∷ calls node 97 1 ∷ (child, Enter node.0 node.1 (Notify 2) ∷ [])
    ∷ (parent, Deliver 10 Eintr ∷ []) ∷ (worker, Recv (Err enoent) ∷ []) ∷ []

-- ---- checks

-- the parent's call, the older one, is then interrupted, and a check of the child's, which waits, finds nothing; so the worker lets it go
abbrev pub blind_check : Turns
blind_check = younger_fetched ++ (parent, Deliver 10 Eintr ∷ []) ∷ (worker, Check 2 (Err enoent) ∷ LetGo ∷ []) ∷ []

-- a check of an id that no call has is good
abbrev pub stray_check : Turns
stray_check = calls node 97 1 ∷ (worker, opening node 1 ++ Check 2 (Ok tt) ∷ []) ∷ []

-- the call is interrupted, and a check is good after that
abbrev pub late_check : Turns
late_check = calls node 97 1 ∷ (worker, opening node 1) ∷ (parent, Deliver 10 Eintr ∷ []) ∷ (worker, Check 1 (Ok tt) ∷ []) ∷ []

-- ---- openings and reads

-- a memory is opened by a number that no task holds
abbrev pub unheld_memory : Turns
unheld_memory = calls node 97 1 ∷ (worker, fetching node 1 ++ OpenMem 2 (Ok tt) ∷ []) ∷ []

-- the container's root isn't found
abbrev pub lost_root : Turns
lost_root = calls node 97 1 ∷ (worker, fetching node 1 ++ OpenMem 1 (Ok tt) ∷ OpenBase 1 (negsuc 99) (Err ebadf) ∷ []) ∷ []

-- a read gives other bytes than were stored, so a path that is denied is taken for one that is granted
abbrev pub other_bytes : Turns
other_bytes = calls node 98 1 ∷ (worker, granting 1) ∷ []

-- ---- what is done

-- the node is refused as if it were there
abbrev pub other_outcome : Turns
other_outcome = calls node 97 1
    ∷ (worker, copying node 97 1 ++ Act (Mknod None (codes "/a") 8630 259) (Some cap) (Err eexist) ∷ answering 1 (Fail eexist)) ∷ []

-- figures are written at an address where nothing is mapped
abbrev pub unmapped : Made
unmapped = (pos nr_sysinfo, 0 ∷ 0 ∷ 0 ∷ 0 ∷ 0 ∷ 0 ∷ [])

abbrev pub unmapped_figures : Turns
unmapped_figures = (parent, Enter unmapped.0 unmapped.1 (Notify 1) ∷ [])
    ∷ (
      worker,
      fetching unmapped 1 ++ OpenMem 1 (Ok tt) ∷ Check 1 (Ok tt) ∷ Check 1 (Ok tt)
          ∷ Plant 0 (container_sysinfo no_figures) None (Ok tt) ∷ answering 1 (Value (pos 0)),
    ) ∷ []

-- ---- descriptors

-- the broker's open descriptor is refused as if it were closed
abbrev pub closed_descriptor : Turns
closed_descriptor = calls file 97 1 ∷ (worker, copying file 97 1 ++ AddfdPut asked (Err ebadf) ∷ answering 1 (Fail ebadf)) ∷ []

-- another number is taken than was installed
abbrev pub other_number_taken : Turns
other_number_taken = calls file 97 1 ∷ (worker, putting) ∷ (parent, Install (Ok 3) ∷ []) ∷ (worker, AddfdTake (Ok 4) ∷ LetGo ∷ []) ∷ []

-- a number is taken before any is installed
abbrev pub early_take : Turns
early_take = calls file 97 1 ∷ (worker, putting ++ AddfdTake (Ok 3) ∷ LetGo ∷ []) ∷ []
