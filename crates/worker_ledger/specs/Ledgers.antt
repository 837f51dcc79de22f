-- What a worker was told in its session, and the ledger that keeps it: one line of JSON.
use Rattle.std.specs.Prelude.{◌≡◌, ℕ, ◌<◌, ◌≤◌, ◌^◌, if◌then◌else◌, List, [], ◌∷◌, ◌++◌, length, codes, decimal}
use Rattle.std.specs.List.{join_by}
use Rattle.hex.specs.Hex.{IsBytes, encode_lower}
use Rattle.hist_model.specs.Kinds.{is_letgo}
use Rattle.hist_model.specs.Sessions.{any_of}
use Rattle.hist_model.specs.declared.event.What.{What}
use Rattle.sys_abi.specs.Wire.{notif_bytes, notif_of}
use Rattle.sys_abi.specs.declared.wire.Notif.{Notif}
use Rattle.broker_core.specs.Answers.{Answer, Received, Done, Bytes, Number, NotYet, Failed, answer_of}

-- ---- What a worker was told

-- the answers of steps that are given the newest first: the oldest first
abbrev pub answers_in : List What → List Answer
answers_in [] = []
answers_in (a ∷ own) = answers_in own ++ (answer_of a ∷ [])

-- what a worker was told in its session, by the session's steps: nothing once it has let go
abbrev pub own_answers : List What → List Answer
own_answers own = if any_of is_letgo own then [] else answers_in own

-- ---- The text

-- an object with one member, a text of digits of base 16 behind this front
abbrev pub hex_object : List ℕ → List ℕ → List ℕ
hex_object front bytes = front ++ (encode_lower bytes ++ codes "\"}")

-- an object with one member, a number behind this front
abbrev pub number_object : List ℕ → ℕ → List ℕ
number_object front n = front ++ (decimal n ++ codes "}")

-- an answer: `{"notif":"HEX"}` of the structure's bytes, `"ok"`, `{"bytes":"HEX"}`, `{"number":N}` or `{"fault":N}`
abbrev pub answer_text : Answer → List ℕ
answer_text (Received notif) = hex_object (codes "{\"notif\":\"") (notif_bytes notif)
answer_text Done = codes "\"ok\""
answer_text (Bytes bytes) = hex_object (codes "{\"bytes\":\"") bytes
answer_text (Number n) = number_object (codes "{\"number\":") n
answer_text (Failed e) = number_object (codes "{\"fault\":") e
answer_text NotYet = []

-- answers, with commas between them
abbrev pub answers_text : List Answer → List ℕ
answers_text own = join_by answer_text (codes ",") own

-- the ledger of a worker that has taken so many answers, and was told these in its session
abbrev pub ledger_text : ℕ → ℕ → List Answer → List ℕ
ledger_text worker count own =
    codes "{\"count\":"
    ++ (decimal count ++ (codes ",\"own\":[" ++ (answers_text own ++ (codes "],\"worker\":" ++ (decimal worker ++ codes "}")))))

-- ---- Answers that a ledger can have

-- the structure is that of its bytes: each of its fields fits the field's size
pub record IsWire (notif : Notif) : Type 0 where
  pub size : length (notif_bytes notif) ≡ 80
  pub bytes : IsBytes (notif_bytes notif)
  pub back : notif_of (notif_bytes notif) ≡ notif

-- an answer of the kernel: a structure, bytes, a descriptor's number below 2^32, or an error from 1 to 4095
abbrev pub IsAnswer : Answer → Type 0
IsAnswer (Received notif) = IsWire notif
IsAnswer Done = Unit {0}
IsAnswer (Bytes bytes) = IsBytes bytes
IsAnswer (Number n) = n < 2 ^ 32
IsAnswer (Failed e) = (1 ≤ e) × (e ≤ 4095)
IsAnswer NotYet = ⊥

abbrev pub AreAnswers : List Answer → Type 0
AreAnswers [] = Unit {0}
AreAnswers (a ∷ more) = IsAnswer a × AreAnswers more
