-- The part of a key that tells what a worker was told in its session: with the policy that tells what it did.
use Rattle.std.specs.Prelude.{ℕ, true, false, List, [], ◌∷◌, ◌++◌}
use Rattle.sys_abi.specs.declared.wire.Notif.{Notif}
use Rattle.sys_abi.specs.declared.wire.SeccompData.{SeccompData}
use Rattle.hist_model.specs.declared.event.What.{What}
use Rattle.broker_core.specs.Answers.{Answer, Bytes, Done, Failed, NotYet, Number, Received, answer_of}
use Rattle.key_bytes.specs.Parts.{flag_part, list_part, number_part, signed_part, text_part}

abbrev pub call_part : SeccompData → List ℕ
call_part call = signed_part call.nr ++ (number_part call.arch ++ (number_part call.ip ++ list_part number_part call.args))

abbrev pub notif_part : Notif → List ℕ
notif_part n = number_part n.id ++ (number_part n.pid ++ (number_part n.flags ++ call_part n.call))

-- a number for each kind, and what it tells
abbrev pub answer_part : Answer → List ℕ
answer_part (Received notif) = number_part 0 ++ notif_part notif
answer_part Done = number_part 1
answer_part (Bytes bytes) = number_part 2 ++ text_part bytes
answer_part (Number n) = number_part 3 ++ number_part n
answer_part NotYet = number_part 4
answer_part (Failed e) = number_part 5 ++ number_part e

-- of a session's steps, the newest first
abbrev pub steps_part : List What → List ℕ
steps_part [] = flag_part false
steps_part (a ∷ own) = flag_part true ++ (answer_part (answer_of a) ++ steps_part own)

-- of one of them
abbrev pub step_part : What → List ℕ
step_part a = flag_part true ++ answer_part (answer_of a)
