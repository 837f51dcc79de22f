-- A ledger as a value of JSON.
use Rattle.std.specs.Prelude.{ℕ, List, [], ◌∷◌, codes}
use Rattle.hex.specs.Hex.{encode_lower}
use Rattle.serde_json.specs.Data.{Data, Items, array, item, member, no_items, no_members, null, number, object, string, unsigned}
use Rattle.sys_abi.specs.Wire.{notif_bytes}
use Rattle.broker_core.specs.Answers.{Answer, Received, Done, Bytes, Number, NotYet, Failed}

abbrev pub one_member : List ℕ → Data → Data
one_member key d = object (member key d no_members)

abbrev pub answer_data : Answer → Data
answer_data (Received notif) = one_member (codes "notif") (string (encode_lower (notif_bytes notif)))
answer_data Done = string (codes "ok")
answer_data (Bytes bytes) = one_member (codes "bytes") (string (encode_lower bytes))
answer_data (Number n) = one_member (codes "number") (number (unsigned n))
answer_data (Failed e) = one_member (codes "fault") (number (unsigned e))
answer_data NotYet = null

abbrev pub answers_data : List Answer → Items
answers_data [] = no_items
answers_data (a ∷ own) = item (answer_data a) (answers_data own)

abbrev pub ledger_data : ℕ → ℕ → List Answer → Data
ledger_data worker count own =
    object (member (codes "count") (number (unsigned count)) (member (codes "own") (array (answers_data own))
    (member (codes "worker") (number (unsigned worker)) no_members)))
