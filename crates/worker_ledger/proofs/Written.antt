-- The text of a ledger is the one that is written of its value, and is read as it.
-- By the kit's laws on what is written of a value and what is read of a text, by induction on the answers.
use Rattle.std.proofs.Common.{◌≡◌, ℕ, ◌<◌, ◌≤◌, ◌^◌, List, [], ◌∷◌, ◌++◌, true, false, Some, option_and_then, refl, sym, ap, ◌∙◌, arith, append_assoc, append-nil, codes}
use Rattle.std.specs.Prelude.{decimal, IsAscii, IsUtf8}
use Rattle.std.specs.List.{AllPass, flat_map}
use Rattle.std.proofs.lemmas.Fmt.{IsAscii-decimal}
use Rattle.std.proofs.lemmas.List.Elements.{All-head, All-tail}
use Rattle.std.proofs.lemmas.Str.{IsUtf8-append, IsUtf8-from_ascii, IsUtf8-nil}
use Rattle.std.proofs.lemmas.Str.Ascii.{IsAscii-cons, IsAscii-nil}
use Rattle.hex.specs.Hex.{IsBytes, encode_lower, is_hex_digit}
use Rattle.hex.proofs.HexLemmas.{decode_of-encode_lower, decode_of-ok}
use Rattle.json.specs.Json as json
use Rattle.json.specs.Lex.{tokens}
use Rattle.json.specs.Print.{escape, quoted}
use Rattle.json.specs.Tree as tree
use Rattle.json.proofs.Printed.Decimals.{IsNumber-decimal}
use Rattle.json.proofs.Printed.Strings.{escape_byte_plain}
use Rattle.json.proofs.Printed.Tokens.{tokens-print}
use Rattle.json.proofs.Printed.Utf8.{IsUtf8-are_ascii}
use Rattle.json.proofs.Printed.Trees.{ArePrintable-json_tokens, value-json_tokens}
use Rattle.serde_json.specs.Read.{max_depth, of_items, of_json, read}
use Rattle.serde_json.specs.Written.{compact_text, items_outline, items_text, outline}
use Rattle.serde_json.proofs.Numbers.{number_of-decimal}
use Rattle.serde_json.proofs.OnLiterals.{serde_json_on_literals}
use Rattle.serde_json.proofs.Texts.{print-outline}
use Rattle.sys_abi.specs.Wire.{notif_bytes}
use Rattle.broker_core.specs.Answers.{Answer, Received, Done, Bytes, Number, NotYet, Failed}
use Rattle.worker_ledger.specs.Data.{answer_data, answers_data, ledger_data}
use Rattle.worker_ledger.specs.Ledgers.{AreAnswers, IsAnswer, answer_text, answers_text, hex_object, ledger_text}

-- ---- Digits of base 16 are written as they are

abbrev digit_holds : ℕ → Type 0
digit_holds c = is_hex_digit c ≡ true

other-digit : (mark b : ℕ) → is_hex_digit mark ≡ false → is_hex_digit b ≡ true → b ≡ mark → ⊥
other-digit mark b h p q = true-false (sym (rw q at p) ∙ h)
  where
    true-false : true ≡ false → ⊥
    true-false e = cc

is-printable : (b : ℕ) → is_hex_digit b ≡ true → 32 ≤ b
is-printable b h = grind (arith)

escape-digits : (bytes : List ℕ) → AllPass is_hex_digit bytes → escape bytes ≡ bytes
escape-digits [] p = refl
escape-digits (b ∷ bytes) p =
    let h = All-head digit_holds b bytes p in
    rw (escape_byte_plain b (other-digit 34 b refl h) (other-digit 92 b refl h) (is-printable b h), escape-digits bytes (All-tail digit_holds b bytes p)) refl

quoted-digits : (bytes : List ℕ) → IsBytes bytes → quoted (encode_lower bytes) ≡ 34 ∷ (encode_lower bytes ++ (34 ∷ []))
quoted-digits bytes is =
    let p = decode_of-ok (encode_lower bytes) bytes (decode_of-encode_lower bytes is) in
    rw (escape-digits (encode_lower bytes) p.1) refl

-- ---- The text of a value

regroup-digits : (key digits : List ℕ) → 123 ∷ (key ++ (58 ∷ ((34 ∷ (digits ++ (34 ∷ []))) ++ (125 ∷ [])))) ≡ (123 ∷ (key ++ (58 ∷ (34 ∷ [])))) ++ (digits ++ (34 ∷ (125 ∷ [])))
regroup-digits key digits = simp append_assoc

regroup-number : (key digits : List ℕ) → 123 ∷ (key ++ (58 ∷ (digits ++ (125 ∷ [])))) ≡ (123 ∷ (key ++ (58 ∷ []))) ++ (digits ++ (125 ∷ []))
regroup-number key digits = simp append_assoc

written-digits : (key bytes : List ℕ) → IsBytes bytes → 123 ∷ (key ++ (58 ∷ (quoted (encode_lower bytes) ++ (125 ∷ [])))) ≡ hex_object (123 ∷ (key ++ (58 ∷ (34 ∷ [])))) bytes
written-digits key bytes is = ap (λ q. 123 ∷ (key ++ (58 ∷ (q ++ (125 ∷ []))))) (quoted-digits bytes is) ∙ regroup-digits key (encode_lower bytes)

answer-written : (a : Answer) → IsAnswer a → compact_text (answer_data a) ≡ answer_text a
unfolding serde_json_on_literals
answer-written (Received notif) is = written-digits (codes "\"notif\"") (notif_bytes notif) is.bytes
answer-written Done is = refl
answer-written (Bytes bytes) is = written-digits (codes "\"bytes\"") bytes is
answer-written (Number n) is = regroup-number (codes "\"number\"") (decimal n)
answer-written (Failed e) is = regroup-number (codes "\"fault\"") (decimal e)
answer-written NotYet is = absurd is

regroup-more : (one more : List ℕ) → 44 ∷ (one ++ (more ++ (93 ∷ []))) ≡ ((44 ∷ one) ++ more) ++ (93 ∷ [])
regroup-more one more = simp append_assoc

more-written : (more : List Answer) → AreAnswers more → items_text true (answers_data more) ≡ flat_map (λ a. codes "," ++ answer_text a) more ++ (93 ∷ [])
more-written [] told = refl
more-written (a ∷ more) told =
    ap (λ t. 44 ∷ (t ++ items_text true (answers_data more))) (answer-written a told.0)
    ∙ ap (λ t. 44 ∷ (answer_text a ++ t)) (more-written more told.1)
    ∙ regroup-more (answer_text a) (flat_map (λ b. codes "," ++ answer_text b) more)

answers-written : (own : List Answer) → AreAnswers own → items_text false (answers_data own) ≡ answers_text own ++ (93 ∷ [])
answers-written [] told = refl
answers-written (a ∷ more) told =
    ap (λ t. t ++ items_text true (answers_data more)) (answer-written a told.0)
    ∙ ap (λ t. answer_text a ++ t) (more-written more told.1)
    ∙ sym (append_assoc (answer_text a) (flat_map (λ b. codes "," ++ answer_text b) more) (93 ∷ []))

-- what the kit writes of a ledger's value
pub ledger-written : (w count : ℕ) (own : List Answer) → AreAnswers own → compact_text (ledger_data w count own) ≡ ledger_text w count own
unfolding serde_json_on_literals
ledger-written w count own told =
    ap (λ t. codes "{\"count\":" ++ (decimal count ++ (codes ",\"own\":[" ++ (t ++ (codes ",\"worker\":" ++ (decimal w ++ codes "}")))))) (answers-written own told)
    ∙ ap (λ t. codes "{\"count\":" ++ (decimal count ++ (codes ",\"own\":[" ++ t))) (append_assoc (answers_text own) (93 ∷ []) (codes ",\"worker\":" ++ (decimal w ++ codes "}")))

-- ---- What is read of it

answer-numbers : (a : Answer) → IsAnswer a → tree.HasNumbers (outline (answer_data a))
answer-numbers (Received notif) is = (tt, tt)
answer-numbers Done is = tt
answer-numbers (Bytes bytes) is = (tt, tt)
answer-numbers (Number n) is = (IsNumber-decimal n (omega (arith, is)), tt)
answer-numbers (Failed e) is = (IsNumber-decimal e (omega (arith, is.1)), tt)
answer-numbers NotYet is = absurd is

answers-numbers : (own : List Answer) → AreAnswers own → tree.ItemsHaveNumbers (items_outline (answers_data own))
answers-numbers [] told = tt
answers-numbers (a ∷ own) told = (answer-numbers a told.0, answers-numbers own told.1)

answer-depth : (a : Answer) → tree.depth (outline (answer_data a)) ≤ 1
answer-depth (Received notif) = omega arith
answer-depth Done = omega arith
answer-depth (Bytes bytes) = omega arith
answer-depth (Number n) = omega arith
answer-depth (Failed e) = omega arith
answer-depth NotYet = omega arith

answers-depth : (own : List Answer) → tree.items_depth (items_outline (answers_data own)) ≤ 1
answers-depth [] = omega arith
answers-depth (a ∷ own) = omega (arith, answer-depth a, answers-depth own)

answer-read : (a : Answer) → IsAnswer a → of_json (outline (answer_data a)) ≡ Some (answer_data a)
answer-read (Received notif) is = refl
answer-read Done is = refl
answer-read (Bytes bytes) is = refl
answer-read (Number n) is = rw (number_of-decimal n (omega (arith, is))) refl
answer-read (Failed e) is = rw (number_of-decimal e (omega (arith, is.1))) refl
answer-read NotYet is = absurd is

answers-read : (own : List Answer) → AreAnswers own → of_items (items_outline (answers_data own)) ≡ Some (answers_data own)
answers-read [] told = refl
answers-read (a ∷ own) told = rw (answer-read a told.0, answers-read own told.1) refl

value-read : (w count : ℕ) (own : List Answer) → w < 2 ^ 64 → count < 2 ^ 64 → AreAnswers own → of_json (outline (ledger_data w count own)) ≡ Some (ledger_data w count own)
value-read w count own lw lc told = rw (number_of-decimal count lc, answers-read own told, number_of-decimal w lw) refl

-- what a ledger's text is read as
pub ledger-read : (w count : ℕ) (own : List Answer) → w < 2 ^ 64 → count < 2 ^ 64 → AreAnswers own → read (ledger_text w count own) ≡ Some (ledger_data w count own)
ledger-read w count own lw lc told =
    let d = ledger_data w count own in
    let numbers : tree.HasNumbers (outline d) = (IsNumber-decimal count lc, (answers-numbers own told, (IsNumber-decimal w lw, tt))) in
    let shallow : tree.depth (outline d) ≤ max_depth = omega (arith, answers-depth own) in
    let known : tokens (ledger_text w count own) ≡ tree.json_tokens (outline d) =
    ap tokens (sym (ledger-written w count own told) ∙ sym (print-outline d)) ∙ tokens-print (tree.json_tokens (outline d)) (ArePrintable-json_tokens (outline d) numbers) in
    ap (λ o. option_and_then of_json (option_and_then (λ p. json.if_last p.0 p.1) o))
    (ap (json.value max_depth) (known ∙ sym (append-nil (tree.json_tokens (outline d)))) ∙ value-json_tokens (outline d) max_depth [] shallow)
    ∙ value-read w count own lw lc told

-- ---- It is UTF-8

is-ascii : (b : ℕ) → is_hex_digit b ≡ true → b < 128
is-ascii b h = grind (arith)

digits-ascii : (digits : List ℕ) → AllPass is_hex_digit digits → IsAscii digits
digits-ascii [] p = IsAscii-nil
digits-ascii (b ∷ digits) p = IsAscii-cons b digits (is-ascii b (All-head digit_holds b digits p)) (digits-ascii digits (All-tail digit_holds b digits p))

digits-utf8 : (bytes : List ℕ) → IsBytes bytes → IsUtf8 (encode_lower bytes)
digits-utf8 bytes is =
    let p = decode_of-ok (encode_lower bytes) bytes (decode_of-encode_lower bytes is) in
    IsUtf8-from_ascii _ (digits-ascii (encode_lower bytes) p.1)

answer-utf8 : (a : Answer) → IsAnswer a → IsUtf8 (answer_text a)
answer-utf8 (Received notif) is = IsUtf8-append _ _ (IsUtf8-are_ascii (codes "{\"notif\":\"") refl) (IsUtf8-append _ _ (digits-utf8 (notif_bytes notif) is.bytes) (IsUtf8-are_ascii (codes "\"}") refl))
answer-utf8 Done is = IsUtf8-are_ascii (codes "\"ok\"") refl
answer-utf8 (Bytes bytes) is = IsUtf8-append _ _ (IsUtf8-are_ascii (codes "{\"bytes\":\"") refl) (IsUtf8-append _ _ (digits-utf8 bytes is) (IsUtf8-are_ascii (codes "\"}") refl))
answer-utf8 (Number n) is = IsUtf8-append _ _ (IsUtf8-are_ascii (codes "{\"number\":") refl) (IsUtf8-append _ _ (IsUtf8-from_ascii _ (IsAscii-decimal n (omega (arith, is)))) (IsUtf8-are_ascii (codes "}") refl))
answer-utf8 (Failed e) is = IsUtf8-append _ _ (IsUtf8-are_ascii (codes "{\"fault\":") refl) (IsUtf8-append _ _ (IsUtf8-from_ascii _ (IsAscii-decimal e (omega (arith, is.1)))) (IsUtf8-are_ascii (codes "}") refl))
answer-utf8 NotYet is = absurd is

more-utf8 : (more : List Answer) → AreAnswers more → IsUtf8 (flat_map (λ a. codes "," ++ answer_text a) more)
more-utf8 [] told = IsUtf8-nil
more-utf8 (a ∷ more) told = IsUtf8-append _ _ (IsUtf8-append (codes ",") _ (IsUtf8-are_ascii (codes ",") refl) (answer-utf8 a told.0)) (more-utf8 more told.1)

answers-utf8 : (own : List Answer) → AreAnswers own → IsUtf8 (answers_text own)
answers-utf8 [] told = IsUtf8-nil
answers-utf8 (a ∷ more) told = IsUtf8-append _ _ (answer-utf8 a told.0) (more-utf8 more told.1)

pub ledger-utf8 : (w count : ℕ) (own : List Answer) → w < 2 ^ 64 → count < 2 ^ 64 → AreAnswers own → IsUtf8 (ledger_text w count own)
ledger-utf8 w count own lw lc told =
    IsUtf8-append _ _ (IsUtf8-are_ascii (codes "{\"count\":") refl)
    (IsUtf8-append _ _ (IsUtf8-from_ascii _ (IsAscii-decimal count lc))
    (IsUtf8-append _ _ (IsUtf8-are_ascii (codes ",\"own\":[") refl)
    (IsUtf8-append _ _ (answers-utf8 own told)
    (IsUtf8-append _ _ (IsUtf8-are_ascii (codes "],\"worker\":") refl)
    (IsUtf8-append _ _ (IsUtf8-from_ascii _ (IsAscii-decimal w lw)) (IsUtf8-are_ascii (codes "}") refl))))))
