-- The key of a listener: its numbers, and of each listed call and of each request its parts, one after another.
use Rattle.std.specs.Prelude.{◌≡◌, ℕ, ℤ, pos, List, ◌++◌, Result, Ok, Err}
use Rattle.hist_model.specs.Look.{Name}
use Rattle.hist_model.specs.declared.notification.Reply.{Reply}
use Rattle.hist_model.specs.declared.notification.Reply.TheVariants.{Continue, Fail, Installing, Value}
use Rattle.sys_abi.specs.declared.wire.Addfd.{Addfd}
use Rattle.key_bytes.specs.Parts.{list_part, number_part, option_part, signed_part}
use Rattle.listener.specs.Listeners.{view}
use Rattle.listener.specs.declared.listener.Listener.{Listener}
use Rattle.listener.specs.declared.order.Entry.{Entry}
use Rattle.listener.specs.declared.order.Order.{Order}
use Rattle.listener.specs.declared.queue.Queue.{Queue}
use Rattle.listener.specs.declared.requests.Request.{Request}

-- how a call will return: a number for each way, and what comes back
abbrev pub reply_code : Reply → ℕ
reply_code Continue = 0
reply_code Installing = 1
reply_code (Value n) = 2
reply_code (Fail errno) = 3

-- of a value and of an error; 0 of any other way
abbrev pub reply_number : Reply → ℤ
reply_number (Value n) = n
reply_number (Fail errno) = pos errno
reply_number _ = pos 0

abbrev pub reply_part : Reply → List ℕ
reply_part y = number_part (reply_code y) ++ signed_part (reply_number y)

-- a listed call, by the ordinal of its task
abbrev pub entry_part : Entry → List ℕ
entry_part e = number_part e.number ++ number_part e.owner.ordinal ++ option_part reply_part e.reply

abbrev pub order_part : Order → List ℕ
order_part o = number_part o.entered ++ list_part entry_part o.entries.items

abbrev pub queue_part : Queue → List ℕ
queue_part q = number_part q.first ++ number_part q.fetched ++ number_part q.received ++ order_part q.order

-- what was asked for
abbrev pub asked_part : Addfd → List ℕ
asked_part a = number_part a.id ++ number_part a.flags ++ number_part a.srcfd ++ number_part a.newfd ++ number_part a.newfd_flags

-- what an installation answered
abbrev pub answer_code : Result ℕ ℕ → ℕ
answer_code (Ok n) = 0
answer_code (Err errno) = 1

abbrev pub answer_number : Result ℕ ℕ → ℕ
answer_number (Ok n) = n
answer_number (Err errno) = errno

abbrev pub installed_part : Result ℕ ℕ → List ℕ
installed_part a = number_part (answer_code a) ++ number_part (answer_number a)

abbrev pub request_part : Request → List ℕ
request_part q = number_part q.worker ++ asked_part q.asked ++ option_part installed_part q.result

-- a whole listener
abbrev pub listener_part : Listener → List ℕ
listener_part L = queue_part L.queue ++ list_part request_part L.requests

-- where equal bytes begin with the keys of two listeners, these are the same state, and what comes after them is equal
abbrev pub TellStates : Type 0
TellStates = (a b : Listener) (r s : List ℕ) → listener_part a ++ r ≡ listener_part b ++ s
    → ((names : ℕ → Name) → view a names ≡ view b names) × (r ≡ s)
