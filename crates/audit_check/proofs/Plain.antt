-- Which bytes the words of a report lack: decimal numbers, the small ones; names, errors and quoted bytes, the byte 10.
-- By induction on the digits, the bytes and the tables of names.
use Rattle.std.proofs.Common.{inl, inr, ◌≡◌, ℕ, zero, suc, ◌+◌, ◌<◌, ◌≤◌, Bool, true, false, ◌||◌, ◌&&◌, List, [], ◌∷◌, Option, Some, None, refl, sym, subst, arith}
use Rattle.std.specs.Prelude.{if◌then◌else◌, ◌==◌, ◌/◌, ◌%◌, nat_lt, nat_le, Result, Ok, Err, ℤ, pos, negsuc, bytes_eq, decimal, codes}
use Rattle.std.specs.Fmt.{digit_glyph, digits, digits_onto, signed_decimal}
use Rattle.std.specs.List.{flat_map, list_all}
use Rattle.std.proofs.lemmas.Bool.{and_parts, cases_Bool, eqb-true, ne_eqb}
use Rattle.sys_abi.specs.Calls.{call_name_of, calls}
use Rattle.sys_abi.specs.Errnos.{errno_name, errnos}
use Rattle.sys_abi.specs.Names.{name_in}
use Rattle.hist_model.specs.Look.{Name}
use Rattle.hist_model.specs.ReportWords.{actor_text, back_text, call_text, errno_text, escaped_byte, escaped_or_dash, hex, hex_byte, hex_digit, hex_or_dash, name_text, number_text, program_text, quoted, quoted_byte, result_text}
use Rattle.hist_model.specs.ShortNames.{is_short_name_byte}
use Rattle.hist_model.specs.declared.event.Actor.{Actor}
use Rattle.hist_model.specs.declared.event.Actor.TheVariants.{Start, Task, Worker, Listener}
use Rattle.hist_model.specs.declared.event.Back.{Back}
use Rattle.hist_model.specs.declared.event.Back.TheVariants.{Value, Fail, Continue}
use Rattle.audit_check.proofs.Lines.{is_plain, lacks, lacks_append}

lacks-byte : (c b : ℕ) (bytes : List ℕ) → (b ≡ c → ⊥) → lacks c bytes ≡ true → lacks c (b ∷ bytes) ≡ true
lacks-byte c b bytes n h = rw (ne_eqb b c n) h

pub lacks_flat : {A : Type 0} (c : ℕ) (f : A → List ℕ) → ((x : A) → lacks c (f x) ≡ true) → (xs : List A) → lacks c (flat_map f xs) ≡ true
lacks_flat c f h [] = refl
lacks_flat c f h (x ∷ xs) = lacks_append c (f x) (flat_map f xs) (h x) (lacks_flat c f h xs)

-- ---- Numbers

-- a digit, of base 10 or 16, is above all that separates words
high : (d : ℕ) → 48 ≤ (if nat_lt d 10 then 48 + d else 87 + d)
high d = by (nat_lt d 10)
  where
    by : (t : Bool) → 48 ≤ (if t then 48 + d else 87 + d)
    by true = omega arith
    by false = omega arith

lacks-onto : (c : ℕ) → c < 48 → (k n : ℕ) (rest : List ℕ) → lacks c rest ≡ true → lacks c (digits_onto k 10 false n rest) ≡ true
lacks-onto c l zero n rest h = h
lacks-onto c l (suc k) n rest h =
    let g = high (n % 10) in
    let one = lacks-byte c (digit_glyph false (n % 10)) rest (λ q. omega arith) h in
    by (n / 10 == 0) one (lacks-onto c l k (n / 10) (digit_glyph false (n % 10) ∷ rest) one)
  where
    by : (t : Bool) → lacks c (digit_glyph false (n % 10) ∷ rest) ≡ true → lacks c (digits_onto k 10 false (n / 10) (digit_glyph false (n % 10) ∷ rest)) ≡ true
        → lacks c (if t then digit_glyph false (n % 10) ∷ rest else digits_onto k 10 false (n / 10) (digit_glyph false (n % 10) ∷ rest)) ≡ true
    by true one more = one
    by false one more = more

pub lacks_decimal : (c n : ℕ) → c < 48 → lacks c (decimal n) ≡ true
unfolding digits
lacks_decimal c n l = lacks-onto c l 64 n [] refl

pub plain_decimal : (n : ℕ) → is_plain (decimal n) ≡ true
plain_decimal n = lacks_decimal 10 n (omega arith)

pub plain_signed : (z : ℤ) → is_plain (signed_decimal z) ≡ true
plain_signed (pos n) = plain_decimal n
plain_signed (negsuc n) = plain_decimal (suc n)

-- ---- Bytes

hex_byte-plain : (b : ℕ) → is_plain (hex_byte b) ≡ true
hex_byte-plain b =
    let g = high (b / 16) in
    let h = high (b % 16) in
    lacks-byte 10 (hex_digit (b / 16)) (hex_digit (b % 16) ∷ []) (λ q. omega arith) (lacks-byte 10 (hex_digit (b % 16)) [] (λ q. omega arith) refl)

pub plain_hex : (bytes : List ℕ) → is_plain (hex bytes) ≡ true
plain_hex bytes = lacks_flat 10 hex_byte hex_byte-plain bytes

pub plain_hex_or_dash : (bytes : List ℕ) → is_plain (hex_or_dash bytes) ≡ true
plain_hex_or_dash [] = refl
plain_hex_or_dash (b ∷ bytes) = plain_hex (b ∷ bytes)

escaped_byte-plain : (b : ℕ) → is_plain (escaped_byte b) ≡ true
escaped_byte-plain b = elim (cases_Bool (b == 10)) [
  | inl h ↦ subst (λ c. is_plain (escaped_byte c) ≡ true) (sym (eqb-true b 10 h)) refl
  | inr h ↦ by h (is_short_name_byte b)
]
  where
    by : (b == 10) ≡ false → (s : Bool) → is_plain (if s then b ∷ [] else 92 ∷ 120 ∷ hex_byte b) ≡ true
    by h true = rw h refl
    by h false = hex_byte-plain b

plain-escaped_or_dash : (text : List ℕ) → is_plain (escaped_or_dash text) ≡ true
plain-escaped_or_dash [] = refl
plain-escaped_or_dash (b ∷ text) = lacks_flat 10 escaped_byte escaped_byte-plain (b ∷ text)

pub plain_program : (program : List ℕ) → is_plain (program_text program) ≡ true
plain_program program = by (bytes_eq program (codes "-"))
  where
    by : (t : Bool) → is_plain (if t then codes "\\x2d" else escaped_or_dash program) ≡ true
    by true = refl
    by false = plain-escaped_or_dash program

quoted_byte-plain : (b : ℕ) → is_plain (quoted_byte b) ≡ true
quoted_byte-plain b = elim (cases_Bool (b == 10)) [
  | inl h ↦ subst (λ c. is_plain (quoted_byte c) ≡ true) (sym (eqb-true b 10 h)) refl
  | inr h ↦ by h (b == 34 || b == 92) (nat_le 32 b && nat_le b 126)
]
  where
    by : (b == 10) ≡ false → (s t : Bool) → is_plain (if s then 92 ∷ b ∷ [] else (if t then b ∷ [] else 92 ∷ 120 ∷ hex_byte b)) ≡ true
    by h true t = rw h refl
    by h false true = rw h refl
    by h false false = hex_byte-plain b

pub plain_quoted : (text : List ℕ) → is_plain (quoted text) ≡ true
plain_quoted text = lacks_append 10 (flat_map quoted_byte text) (codes "\"") (lacks_flat 10 quoted_byte quoted_byte-plain text) refl

-- ---- Names

named-plain : (table : List (ℕ × List ℕ)) → list_all (λ row. is_plain row.1) table ≡ true → (n : ℕ) (name : List ℕ) → name_in table n ≡ Some name → is_plain name ≡ true
named-plain [] h n name q = cc
named-plain (row ∷ table) h n name q =
    let p = and_parts (is_plain row.1) (list_all (λ r. is_plain r.1) table) h in
    elim (cases_Bool (row.0 == n)) [
      | inl y ↦ let f : Some row.1 ≡ Some name = rw y at q in let e : row.1 ≡ name = cc in rw (← e) p.0
      | inr y ↦ let f : name_in table n ≡ Some name = rw y at q in named-plain table p.1 n name f
    ]

pub plain_errno : (e : ℕ) → is_plain (errno_text e) ≡ true
plain_errno e = by (errno_name e) refl
  where
    by : (o : Option (List ℕ)) → errno_name e ≡ o → is_plain (errno_text e) ≡ true
    by (Some name) q = rw q (named-plain errnos refl e name q)
    by None q = rw q (plain_decimal e)

pub plain_call : (nr : ℤ) → is_plain (call_text nr) ≡ true
plain_call nr = by (call_name_of nr) refl
  where
    named : (z : ℤ) (name : List ℕ) → call_name_of z ≡ Some name → is_plain name ≡ true
    named (pos n) name q = named-plain calls refl n name q
    named (negsuc n) name q = cc

    by : (o : Option (List ℕ)) → call_name_of nr ≡ o → is_plain (call_text nr) ≡ true
    by (Some name) q = rw q (named nr name q)
    by None q = rw q (plain_signed nr)

lacks-pointed : (c k : ℕ) → c < 46 → lacks c (46 ∷ decimal k) ≡ true
lacks-pointed c k l = lacks-byte c 46 (decimal k) (λ q. omega arith) (lacks_decimal c k (omega arith))

pub lacks_name : (c : ℕ) (n : Name) → c < 46 → lacks c (name_text n) ≡ true
lacks_name c [] l = refl
lacks_name c (k ∷ n) l =
    lacks_append c (decimal k) (flat_map (λ j. 46 ∷ decimal j) n) (lacks_decimal c k (omega arith)) (lacks_flat c (λ j. 46 ∷ decimal j) (λ j. lacks-pointed c j l) n)

pub plain_name : (n : Name) → is_plain (name_text n) ≡ true
plain_name n = lacks_name 10 n (omega arith)

pub plain_actor : (a : Actor) → is_plain (actor_text a) ≡ true
plain_actor Start = refl
plain_actor Listener = refl
plain_actor (Task n) = plain_name n
plain_actor (Worker w) = plain_decimal w

pub plain_result : (r : Result (Unit {0}) ℕ) → is_plain (result_text r) ≡ true
plain_result (Ok u) = refl
plain_result (Err e) = plain_errno e

pub plain_number : (r : Result ℕ ℕ) → is_plain (number_text r) ≡ true
plain_number (Ok n) = plain_decimal n
plain_number (Err e) = plain_errno e

pub plain_back : (b : Back) → is_plain (back_text b) ≡ true
plain_back (Value v) = plain_signed v
plain_back (Fail e) = plain_errno e
plain_back Continue = refl
