-- The lines of answers.
use Rattle.std.specs.Prelude.{ℕ, if◌then◌else◌, List, [], ◌∷◌, ◌++◌, length, Ok, codes, decimal}
use Rattle.std.specs.Fmt.{signed_decimal}
use Rattle.std.specs.List.{flat_map}
use Rattle.hist_model.specs.Kinds.{skips}
use Rattle.hist_model.specs.ReportJournal.{what_text}
use Rattle.hist_model.specs.ReportWords.{actor_text, hex_or_dash}
use Rattle.hist_model.specs.declared.event.Actor.{Actor}
use Rattle.hist_model.specs.declared.event.Event.{Event}
use Rattle.hist_model.specs.declared.event.What.{What}
use Rattle.hist_model.specs.declared.event.What.TheVariants.{Read, Recv}
use Rattle.step_requests.specs.declared.fault.LineFault.{LineFault}
use Rattle.step_requests.specs.declared.fault.LineFault.TheVariants as fault
use Rattle.sys_abi.specs.declared.wire.Notif.{Notif}
use Rattle.asked_steps.specs.declared.refusal.Refusal.{Refusal as RefusedAsked}
use Rattle.asked_steps.specs.declared.refusal.Refusal.TheVariants as asked
use Rattle.step_session.specs.declared.refusal.Refusal.{Refusal}
use Rattle.step_session.specs.declared.refusal.Refusal.TheVariants as refusal
use Rattle.step_session.specs.Reasons.{reason_text}

-- ---- events

-- numbers with commas between them
abbrev pub more_numbers : List ℕ → List ℕ
more_numbers numbers = flat_map (λ n. codes "," ++ decimal n) numbers

abbrev pub numbers_text : List ℕ → List ℕ
numbers_text [] = []
numbers_text (n ∷ numbers) = decimal n ++ more_numbers numbers

-- the fields of a notification that its line in a journal leaves out (seccomp_unotify(2), struct seccomp_notif)
abbrev pub notif_text : Notif → List ℕ
notif_text n =
    codes " flags=" ++ decimal n.flags ++ codes " nr=" ++ signed_decimal n.call.nr ++ codes " arch=" ++ decimal n.call.arch
    ++ codes " ip=" ++ decimal n.call.ip ++ codes " args=" ++ numbers_text n.call.args

-- what the worker was told that its line in a journal leaves out
abbrev pub told : What → List ℕ
told (Recv (Ok n)) = notif_text n
told (Read addr len (Ok bytes)) = codes " bytes=" ++ hex_or_dash bytes
told _ = []

-- the line that an event has in a journal, after so many others, but for its end
abbrev pub event_front : ℕ → Actor → What → List ℕ
event_front place who what = decimal place ++ codes " " ++ actor_text who ++ codes " " ++ what_text what

-- with what a worker was told, and its end
abbrev pub event_text : ℕ → Actor → What → List ℕ
event_text place who what = event_front place who what ++ told what ++ codes "\n"

-- the answer of an actor's step after K: the line of its event, or that it makes none
abbrev pub step_text : List Event → Actor → What → List ℕ
step_text K who what = if skips what then codes "skip\n" else event_text (length K) who what

-- ---- refusals

-- why what a worker asks for isn't done
abbrev pub asked_text : RefusedAsked → List ℕ
asked_text asked.NoMemoryIsOpen = codes "no memory is open"
asked_text asked.RequestIsPut = codes "request is put"
asked_text asked.NoRequest = codes "no request"

abbrev pub refusal_text : Refusal → List ℕ
refusal_text refusal.NoTask = codes "no task"
refusal_text (refusal.Asked why) = asked_text why
refusal_text refusal.Closed = codes "closed"
refusal_text refusal.Full = codes "full"

abbrev pub refused_text : Refusal → List ℕ
refused_text why = codes "refused " ++ refusal_text why ++ codes "\n"

-- what is said of a line that is no request
abbrev pub fault_text : LineFault → List ℕ
fault_text fault.Empty = codes "empty line"
fault_text fault.Worker = codes "worker"
fault_text (fault.Reason why) = codes "line: " ++ reason_text why

abbrev pub faulty_text : LineFault → List ℕ
faulty_text why = codes "refused " ++ fault_text why ++ codes "\n"

-- what is said of a structure that the listener refuses
abbrev pub invalid_text : List ℕ
invalid_text = codes "error EINVAL\n"

-- ---- texts of many lines

-- a text behind its word and its length
abbrev pub sized : List ℕ → List ℕ → List ℕ
sized word text = word ++ codes " " ++ decimal (length text) ++ codes "\n" ++ text
