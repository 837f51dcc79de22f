-- The parts of a listener's key end by themselves, and so they tell the calls and the requests, by which the state is known.
-- A record is told by its parts, which stand one after another; a way to return and an answer by the number of its kind and what it has.
use Rattle.std.proofs.Common.{◌≡◌, ℕ, ◌+◌, ◌%◌, ◌^◌, List, [], ◌∷◌, map, ◌++◌, Option, refl, sym, ap, ap₂, ◌∙◌}
use Rattle.std.specs.Prelude.{◌==◌, if◌then◌else◌, nat_lt, ℤ, pos, negsuc, Result, Ok, Err}
use Rattle.std.proofs.lemmas.List.{length-map}
use Rattle.std.proofs.lemmas.List.Folds.{flat_map-map}
use Rattle.hist_model.specs.Look.{Name}
use Rattle.hist_model.specs.declared.notification.Reply.{Reply}
use Rattle.hist_model.specs.declared.notification.Reply.TheVariants.{Continue, Fail, Installing, Value}
use Rattle.sys_abi.specs.declared.wire.Addfd.{Addfd}
use Rattle.key_bytes.specs.Parts.{Ends, list_part, number_part, option_part, pair_part, signed_part}
use Rattle.key_bytes.proofs.Ending.{list_ends, option_ends, pair_ends, signed_ends, told_ends}
use Rattle.key_bytes.proofs.Numbers.{number_ends}
use Rattle.listener.specs.Keys.{TellStates, answer_code, answer_number, asked_part, entry_part, installed_part, listener_part, reply_code, reply_number, reply_part, request_part}
use Rattle.listener.specs.Listeners.{view}
use Rattle.listener.specs.State.{Row, State}
use Rattle.listener.specs.Table.{row}
use Rattle.listener.specs.declared.listener.Listener.{Listener}
use Rattle.listener.specs.declared.order.Entry.{Entry}
use Rattle.listener.specs.declared.requests.Request.{Request}

-- ---- How a call returns

absolute : ℤ → ℕ
absolute (pos n) = n
absolute (negsuc n) = n

reply_with : ℕ × ℤ → Reply
reply_with p = if p.0 == 0 then Continue else (if p.0 == 1 then Installing else (if p.0 == 2 then Value p.1 else Fail (absolute p.1)))

same-reply : (y : Reply) → reply_with (reply_code y, reply_number y) ≡ y
unfolding reply_with absolute
same-reply Continue = refl
same-reply Installing = refl
same-reply (Value n) = refl
same-reply (Fail errno) = refl

reply_ends : Ends reply_part
reply_ends = told_ends (λ y. (reply_code y, reply_number y)) reply_with (pair_part number_part signed_part) same-reply
    (pair_ends number_part signed_part number_ends signed_ends)

-- ---- Listed calls, each told by its number, the ordinal of its task, and how it returns

abbrev Told : Type 0
Told = (ℕ × ℕ) × Option Reply

told_entry : Entry → Told
told_entry e = ((e.number, e.owner.ordinal), e.reply)

told_part : Told → List ℕ
told_part = pair_part (pair_part number_part number_part) (option_part reply_part)

told_end : Ends told_part
unfolding told_part
told_end = pair_ends (pair_part number_part number_part) (option_part reply_part) (pair_ends number_part number_part number_ends number_ends) (option_ends reply_part reply_ends)

entries-are : (es : List Entry) → list_part entry_part es ≡ list_part told_part (map told_entry es)
unfolding told_part told_entry
entries-are es = ap₂ (λ (n : ℕ) (more : List ℕ). number_part n ++ more) (sym (length-map es told_entry)) (sym (flat_map-map told_part told_entry es))

row_with : ℕ → ℕ → (ℕ → Name) → Told → Row
row_with first fetched names t = record { id = (first + t.0.0) % 2 ^ 64; task = names t.0.1; fetched = nat_lt t.0.0 fetched; reply = t.1 }

rows-are : (first fetched : ℕ) (names : ℕ → Name) (es : List Entry) → map (row_with first fetched names) (map told_entry es) ≡ map (row first fetched names) es
unfolding row_with told_entry
rows-are first fetched names [] = refl
rows-are first fetched names (e ∷ es) = ap (λ (rs : List Row). row first fetched names e ∷ rs) (rows-are first fetched names es)

-- ---- Requests

installed_with : ℕ × ℕ → Result ℕ ℕ
installed_with p = if p.0 == 0 then Ok p.1 else Err p.1

same-installed : (a : Result ℕ ℕ) → installed_with (answer_code a, answer_number a) ≡ a
unfolding installed_with
same-installed (Ok n) = refl
same-installed (Err errno) = refl

installed_ends : Ends installed_part
installed_ends = told_ends (λ a. (answer_code a, answer_number a)) installed_with (pair_part number_part number_part) same-installed
    (pair_ends number_part number_part number_ends number_ends)

-- five numbers
abbrev Five : Type 0
Five = (((ℕ × ℕ) × ℕ) × ℕ) × ℕ

five_part : Five → List ℕ
five_part = pair_part (pair_part (pair_part (pair_part number_part number_part) number_part) number_part) number_part

five_end : Ends five_part
unfolding five_part
five_end =
    pair_ends (pair_part (pair_part (pair_part number_part number_part) number_part) number_part) number_part
    (pair_ends (pair_part (pair_part number_part number_part) number_part) number_part
    (pair_ends (pair_part number_part number_part) number_part (pair_ends number_part number_part number_ends number_ends) number_ends) number_ends) number_ends

asked_ends : Ends asked_part
unfolding five_part
asked_ends = told_ends (λ (a : Addfd). ((((a.id, a.flags), a.srcfd), a.newfd), a.newfd_flags))
    (λ (p : Five). record { id = p.0.0.0.0; flags = p.0.0.0.1; srcfd = p.0.0.1; newfd = p.0.1; newfd_flags = p.1 }) five_part (λ a. refl) five_end

request_ends : Ends request_part
request_ends = told_ends (λ (q : Request). ((q.worker, q.asked), q.result))
    (λ (p : (ℕ × Addfd) × Option (Result ℕ ℕ)). record { worker = p.0.0; asked = p.0.1; result = p.1 })
    (pair_part (pair_part number_part asked_part) (option_part installed_part)) (λ q. refl)
    (pair_ends (pair_part number_part asked_part) (option_part installed_part) (pair_ends number_part asked_part number_ends asked_ends) (option_ends installed_part installed_ends))

-- ---- A listener

-- the first id, how many calls were fetched, received and entered, the calls, and the requests
abbrev Parts : Type 0
Parts = (((ℕ × ℕ) × ℕ) × (ℕ × List Told)) × List Request

parts_part : Parts → List ℕ
parts_part = pair_part (pair_part (pair_part (pair_part number_part number_part) number_part) (pair_part number_part (list_part told_part))) (list_part request_part)

parts_end : Ends parts_part
unfolding parts_part
parts_end =
    pair_ends (pair_part (pair_part (pair_part number_part number_part) number_part) (pair_part number_part (list_part told_part))) (list_part request_part)
    (pair_ends (pair_part (pair_part number_part number_part) number_part) (pair_part number_part (list_part told_part))
    (pair_ends (pair_part number_part number_part) number_part (pair_ends number_part number_part number_ends number_ends) number_ends)
    (pair_ends number_part (list_part told_part) number_ends (list_ends told_part told_end))) (list_ends request_part request_ends)

parts_of : Listener → Parts
parts_of L = ((((L.queue.first, L.queue.fetched), L.queue.received), (L.queue.order.entered, map told_entry L.queue.order.entries.items)), L.requests)

listener-is : (L : Listener) → listener_part L ≡ parts_part (parts_of L)
unfolding parts_part parts_of
listener-is L =
    ap (λ (calls : List ℕ). number_part L.queue.first ++ number_part L.queue.fetched ++ number_part L.queue.received ++ (number_part L.queue.order.entered ++ calls)
    ++ list_part request_part L.requests) (entries-are L.queue.order.entries.items)

state_with : (ℕ → Name) → Parts → State
state_with names p = record {
  first = p.0.0.0.0;
  entered = p.0.1.0;
  received = p.0.0.1;
  calls = map (row_with p.0.0.0.0 p.0.0.0.1 names) p.0.1.1;
  asks = p.1;
}

state-is : (names : ℕ → Name) (L : Listener) → state_with names (parts_of L) ≡ view L names
unfolding state_with parts_of
state-is names L = ap (λ (rows : List Row). record (view L names) { calls = rows }) (rows-are L.queue.first L.queue.fetched names L.queue.order.entries.items)

pub listeners_end : TellStates
listeners_end a b r s q =
    let z : parts_part (parts_of a) ++ r ≡ parts_part (parts_of b) ++ s =
    ap (λ (bytes : List ℕ). bytes ++ r) (sym (listener-is a)) ∙ (q ∙ ap (λ (bytes : List ℕ). bytes ++ s) (listener-is b)) in
    let p = parts_end (parts_of a) (parts_of b) r s z in
    (λ names. sym (state-is names a) ∙ (ap (state_with names) p.0 ∙ state-is names b), p.1)
