-- The values of answers, one by one, are the items of the list's value. None has a float.
-- By induction on the answers.
use Rattle.std.proofs.Common.{◌≡◌, ℕ, List, [], ◌∷◌, ◌++◌, length, false, refl, sym, ap, subst, ◌∙◌, arith, append_assoc, append-nil}
use Rattle.std.specs.Prelude.{map}
use Rattle.serde_json.specs.Data.{Data, item}
use Rattle.serde_json.specs.View.{items_of, items_view, view}
use Rattle.serde_json.specs.Written.{has_float, items_have_float}
use Rattle.serde_json.specs.declared.value.Value.{Value}
use Rattle.broker_core.specs.Answers.{Answer, Received, Done, Bytes, Number, NotYet, Failed}
use Rattle.worker_ledger.specs.Data.{answer_data, answers_data, ledger_data}
use Rattle.worker_ledger.specs.Heard.{all_heard, heard}
use Rattle.worker_ledger.specs.declared.heard.Heard.{Heard}

items_are : (own : List Answer) → items_of (map answer_data own) ≡ answers_data own
items_are [] = refl
items_are (a ∷ own) = ap (item (answer_data a)) (items_are own)

push_view : (values : List Value) (v : Value) → map view (values ++ (v ∷ [])) ≡ map view values ++ (view v ∷ [])
push_view [] v = refl
push_view (w ∷ values) v = ap (λ ds. view w ∷ ds) (push_view values v)

-- one more value is added
pub one_more : (all : List Data) (old new : List Value) (left rest : List Heard) (h : Heard) (v : Value) → left ≡ h ∷ rest → new ≡ old ++ (v ∷ []) → view v ≡ answer_data (heard h)
    → all ≡ map view old ++ map answer_data (all_heard left) → all ≡ map view new ++ map answer_data (all_heard rest)
one_more all old new left rest h v e n is w =
    let split : all ≡ map view old ++ (answer_data (heard h) ∷ map answer_data (all_heard rest)) = subst (λ hs. all ≡ map view old ++ map answer_data (all_heard hs)) e w in
    let joined : map view new ≡ map view old ++ (answer_data (heard h) ∷ []) = ap (map view) n ∙ push_view old v ∙ ap (λ d. map view old ++ (d ∷ [])) is in
    split ∙ sym (append_assoc (map view old) (answer_data (heard h) ∷ []) (map answer_data (all_heard rest))) ∙ ap (λ ds. ds ++ map answer_data (all_heard rest)) (sym joined)

-- where none is left, all were added
pub all_added : (own left : List Heard) (values : List Value) → length left ≡ 0 → map answer_data (all_heard own) ≡ map view values ++ map answer_data (all_heard left) → items_view values ≡ answers_data (all_heard own)
all_added own [] values none w = ap items_of (sym (w ∙ append-nil (map view values))) ∙ items_are (all_heard own)
all_added own (h ∷ left) values none w = absurd (omega arith)

answer_no_float : (a : Answer) → has_float (answer_data a) ≡ false
answer_no_float (Received notif) = refl
answer_no_float Done = refl
answer_no_float (Bytes bytes) = refl
answer_no_float (Number n) = refl
answer_no_float (Failed e) = refl
answer_no_float NotYet = refl

answers_no_float : (own : List Answer) → items_have_float (answers_data own) ≡ false
answers_no_float [] = refl
answers_no_float (a ∷ own) = rw (answer_no_float a, answers_no_float own) refl

pub no_float : (w count : ℕ) (own : List Answer) → has_float (ledger_data w count own) ≡ false
no_float w count own = rw (answers_no_float own) refl
