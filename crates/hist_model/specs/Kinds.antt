-- Which kind of step an event is: each test looks at the step alone, and at nothing that came before it.
use Rattle.std.specs.Prelude.{Bool, true, false, ◌||◌, ◌==◌, nat_le, Ok, Err}
use Rattle.hist_model.specs.declared.event.Back.TheVariants.{Continue}
use Rattle.hist_model.specs.declared.event.Delivered.TheVariants.{End}
use Rattle.hist_model.specs.declared.event.Entered.TheVariants.{Notify, Allow, Log, Kill}
use Rattle.hist_model.specs.declared.event.SpawnKind.{SpawnKind}
use Rattle.hist_model.specs.declared.event.SpawnKind.TheVariants.{Copied, Shared}
use Rattle.hist_model.specs.declared.event.What.{What}
use Rattle.hist_model.specs.declared.event.What.TheVariants.{Spawn, Enter, Resume, Install, Deliver, Exit, Recv, OpenMem, OpenBase, Check}
use Rattle.hist_model.specs.declared.event.What.TheVariants.{Read, Act, Plant, AddfdPut, AddfdTake, Send, LetGo, Skip, Close}
use Rattle.sys_abi.specs.Errnos.{enoent, esrch, ebadf, ebusy, emfile, einprogress, edquot}
use Rattle.sys_abi.specs.declared.wire.Addfd.{Addfd}

-- ---- The steps of tasks

-- the step makes a task
abbrev pub makes : What → Bool
makes (Spawn m (Ok a)) = true
makes _ = false

abbrev pub is_shared : SpawnKind → Bool
is_shared Shared = true
is_shared _ = false

abbrev pub is_copied : SpawnKind → Bool
is_copied Copied = true
is_copied _ = false

-- the step makes a task that shares its parent's group
abbrev pub shares_now : What → Bool
shares_now (Spawn n (Ok a)) = is_shared a.1
shares_now _ = false

-- the step makes a task with a copy of its parent's group
abbrev pub copies : What → Bool
copies (Spawn n (Ok a)) = is_copied a.1
copies _ = false

-- the step ends the task that takes it
abbrev pub ends : What → Bool
ends Exit = true
ends (Deliver sig End) = true
ends (Enter nr args Kill) = true
ends _ = false

-- the step ends its task, and delivers no signal
abbrev pub exits : What → Bool
exits Exit = true
exits (Enter nr args Kill) = true
exits _ = false

-- the step enters a call
abbrev pub enters : What → Bool
enters (Enter nr args v) = true
enters _ = false

-- the step enters a call that is listed
abbrev pub notifies : What → Bool
notifies (Enter nr args (Notify id)) = true
notifies _ = false

-- the step leaves its task a native call to make
abbrev pub owes : What → Bool
owes (Enter nr args Allow) = true
owes (Enter nr args Log) = true
owes (Resume Continue) = true
owes _ = false

-- the step returns from a listed call
abbrev pub returns : What → Bool
returns (Resume b) = true
returns _ = false

-- the step takes its own task's call off the list
abbrev pub leaves : What → Bool
leaves (Resume back) = true
leaves (Deliver sig effect) = true
leaves _ = false

-- the step installs a descriptor, or answers why it doesn't
abbrev pub is_install : What → Bool
is_install (Install answer) = true
is_install _ = false

-- the step installs a descriptor
abbrev pub gave : What → Bool
gave (Install (Ok n)) = true
gave _ = false

-- the step leaves a call as it is
abbrev pub is_passive : What → Bool
is_passive (Install answer) = true
is_passive Skip = true
is_passive _ = false

-- ---- The listener

-- the step closes the listener
abbrev pub closes : What → Bool
closes Close = true
closes _ = false

-- ---- The steps of workers

-- the step is none
abbrev pub skips : What → Bool
skips Skip = true
skips _ = false

-- the step receives, or finds nothing to receive
abbrev pub receives : What → Bool
receives (Recv answer) = true
receives _ = false

-- the step receives a notification
abbrev pub starts : What → Bool
starts (Recv (Ok notif)) = true
starts _ = false

-- the step finds nothing to receive
abbrev pub gets_nothing : What → Bool
gets_nothing (Recv (Err e)) = true
gets_nothing _ = false

-- the step opens the caller's memory
abbrev pub opens : What → Bool
opens (OpenMem pid answer) = true
opens _ = false

-- the step opens the caller's base
abbrev pub opens_base : What → Bool
opens_base (OpenBase pid d answer) = true
opens_base _ = false

-- the step opens the caller's memory or its base
abbrev pub is_opening : What → Bool
is_opening (OpenMem p a) = true
is_opening (OpenBase p d a) = true
is_opening _ = false

-- the step asks whether the notification is valid
abbrev pub checks : What → Bool
checks (Check x answer) = true
checks _ = false

-- the step found the notification valid
abbrev pub is_good_check : What → Bool
is_good_check (Check x (Ok u)) = true
is_good_check _ = false

-- the step reads a piece of the arguments
abbrev pub is_read : What → Bool
is_read (Read a l answer) = true
is_read _ = false

-- the step uses the copy
abbrev pub uses_copy : What → Bool
uses_copy (Act q cap a) = true
uses_copy (Plant x b cap a) = true
uses_copy (AddfdPut q a) = true
uses_copy (Send x b a) = true
uses_copy _ = false

-- the step does what is granted in the container's tree
abbrev pub is_effect : What → Bool
is_effect (Act q cap a) = true
is_effect _ = false

-- the step was refused since its rule's times were spent
abbrev pub is_spent : What → Bool
is_spent (Act request cap (Err e)) = e == edquot
is_spent (Plant addr bytes cap (Err e)) = e == edquot
is_spent _ = false

-- the flag SECCOMP_ADDFD_FLAG_SEND is set; the only other flag is SECCOMP_ADDFD_FLAG_SETFD, of value 1
abbrev pub has_send_flag : Addfd → Bool
has_send_flag asked = nat_le 2 asked.flags

-- the step asks for a descriptor, with SEND
abbrev pub has_send : What → Bool
has_send (AddfdPut asked answer) = has_send_flag asked
has_send _ = false

-- the step sent an answer that was taken
abbrev pub is_sent : What → Bool
is_sent (Send id back (Ok u)) = true
is_sent _ = false

-- the step is an answer or a request for a descriptor that was accepted
abbrev pub is_accepted : What → Bool
is_accepted (Send x b (Ok u)) = true
is_accepted (AddfdPut q (Ok u)) = true
is_accepted _ = false

-- EINPROGRESS and EBUSY: the call is in the way of an answer or a request
abbrev pub is_busy : What → Bool
is_busy (Send x b (Err e)) = e == einprogress
is_busy (AddfdPut q (Err e)) = (e == einprogress) || (e == ebusy)
is_busy _ = false

-- of the errors of a worker's steps: ENOENT of a check and of an answer, EBADF too of a request for a descriptor,
-- and EMFILE too of its take
abbrev pub is_known_error : What → Bool
is_known_error (Check x (Err e)) = e == enoent
is_known_error (Send x b (Err e)) = e == enoent
is_known_error (AddfdPut q (Err e)) = (e == ebadf) || (e == enoent)
is_known_error (AddfdTake (Err e)) = (e == ebadf) || ((e == emfile) || (e == enoent))
is_known_error _ = true

-- the step shows that the caller, or its call, is gone
abbrev pub is_gone : What → Bool
is_gone (OpenMem pid (Err e)) = e == esrch
is_gone (OpenBase pid dirfd (Err e)) = e == esrch
is_gone (Check id (Err e)) = e == enoent
is_gone _ = false

-- the step should have reached a call, and its call is no longer listed
abbrev pub misses_call : What → Bool
misses_call (AddfdPut asked (Err e)) = e == enoent
misses_call (AddfdTake (Err e)) = e == enoent
misses_call (Send id back (Err e)) = e == enoent
misses_call _ = false

-- the step answers that the call, or its task, is not there
abbrev pub is_lost : What → Bool
is_lost (OpenMem p (Err e)) = e == esrch
is_lost (OpenBase p d (Err e)) = e == esrch
is_lost (Check x (Err e)) = e == enoent
is_lost (AddfdPut q (Err e)) = e == enoent
is_lost (AddfdTake (Err e)) = e == enoent
is_lost (Send x b (Err e)) = e == enoent
is_lost _ = false

-- the step ends the session's work: the worker then lets go
abbrev pub gives_up : What → Bool
gives_up (OpenMem pid (Err e)) = e == esrch
gives_up (OpenBase pid d (Err e)) = e == esrch
gives_up (Check x (Err e)) = true
gives_up (AddfdPut asked (Err e)) = e == enoent
gives_up (AddfdTake (Ok n)) = true
gives_up (AddfdTake (Err e)) = e == enoent
gives_up (Send x back answer) = true
gives_up _ = false

-- the step answered, took the number that its request got, or found the call or its task gone
abbrev pub ends_work : What → Bool
ends_work (Send x b a) = true
ends_work (AddfdTake (Ok n)) = true
ends_work what = is_lost what

-- the worker closes what it opened for its notification
abbrev pub is_letgo : What → Bool
is_letgo LetGo = true
is_letgo _ = false
