-- A line has one reading: that of its rules.
-- By induction on the rules used, and on a bound of the line's length with cases on its first byte, with `Readings`.
use Rattle.std.proofs.Common.{◌≡◌, ◌≢◌, ℕ, zero, suc, ◌<◌, ◌≤◌, List, [], ◌∷◌, ◌++◌, length, true, false, Option, Some, None, Result, Ok, Err, refl, inl, inr, ◌⊎◌, ap, sym, subst, ◌∙◌, arith, length-append}
use Rattle.std.specs.Prelude.{nat_lt, ◌==◌, ⊤}
use Rattle.std.proofs.lemmas.Bool.{cases_Bool}
use Rattle.std.proofs.lemmas.Bool.Decides.{nat_tests}
use Rattle.lex_core.specs.Lexical.{is_blank, is_bare, begins_token, escaped, hex_digit, hex_byte, fault_behind, tokens, bare, quoted, after, ended, begun, with_byte}
use Rattle.lex_core.specs.Steps.{with_bytes, with_tokens, EndsToken}
use Rattle.lex_core.specs.Grammar.{AreBare, Written, LacksDigits, LacksEscape, Breaks, Reads}
use Rattle.lex_core.specs.Grammar.Written.{nothing, itself, letter, digits}
use Rattle.lex_core.specs.Grammar.Reads.{at_end, blank, word, text, stray, word_touched, word_strays, text_touched, text_strays, text_broken}
use Rattle.lex_core.specs.declared.line.Token.{Token}
use Rattle.lex_core.specs.declared.line.Token.TheVariants.{Bare, Quoted}
use Rattle.lex_core.specs.declared.reason.Reason.{Reason}
use Rattle.lex_core.specs.declared.reason.Reason.TheVariants.{BadByte, BadQuote}
use Rattle.lex_core.proofs.Readings.{with_byte-bytes, with_bytes-none, bare-more, bare-ended, bare-stopped, tokens-blank, tokens-bare, tokens_of_quoted, begun_ended}

-- ---- what the rules give is what is read

bare-not-blank : (b : ℕ) → is_bare b ≡ true → is_blank b ≡ false
bare-not-blank b h = grind (arith, nat_tests)

bare-not-quote : (b : ℕ) → is_bare b ≡ true → (b == 34) ≡ false
bare-not-quote b h = grind (arith, nat_tests)

begins-not-blank : (b : ℕ) → begins_token b ≡ true → is_blank b ≡ false
begins-not-blank b h = grind (arith, nat_tests)

stray-not-bare : (b : ℕ) → begins_token b ≡ false → is_bare b ≡ false
stray-not-bare b h = grind (arith, nat_tests)

stray-not-quote : (b : ℕ) → begins_token b ≡ false → (b == 34) ≡ false
stray-not-quote b h = grind (arith, nat_tests)

begins-none : (b : ℕ) → is_bare b ≡ false → (b == 34) ≡ false → begins_token b ≡ false
begins-none b h q = rw (h, q) refl

after-blank : (b : ℕ) (rest : List ℕ) → is_blank b ≡ true → after (b ∷ rest) ≡ tokens (b ∷ rest)
unfolding tokens
after-blank b rest h = rw h refl

after-end : after [] ≡ tokens []
unfolding tokens
after-end = refl

after_ends : (rest : List ℕ) → EndsToken rest → after rest ≡ tokens rest
after_ends [] e = after-end
after_ends (b ∷ bs) e = after-blank b bs e

after_touched : (b : ℕ) (rest : List ℕ) → begins_token b ≡ true → after (b ∷ rest) ≡ Err BadQuote
unfolding tokens
after_touched b rest h = let k : is_blank b ≡ false = begins-not-blank b h in rw (k, h) refl

after_strays : (b : ℕ) (rest : List ℕ) → is_blank b ≡ false → begins_token b ≡ false → after (b ∷ rest) ≡ Err BadByte
unfolding tokens
after_strays b rest h k = rw (h, k) refl

bare_word : (front rest : List ℕ) → AreBare front → EndsToken rest → bare (front ++ rest) ≡ with_bytes front (ended (tokens rest))
bare_word [] rest a e = bare-ended rest e ∙ sym (with_bytes-none _)
bare_word (b ∷ bs) rest a e = bare-more b (bs ++ rest) a.0 ∙ ap (with_byte b) (bare_word bs rest a.1 e) ∙ with_byte-bytes b bs _

word_stopped : (front : List ℕ) (c : ℕ) (rest : List ℕ) → AreBare front → is_blank c ≡ false → is_bare c ≡ false → bare (front ++ c ∷ rest) ≡ Err (fault_behind c)
word_stopped [] c rest a h k = bare-stopped c rest k h
word_stopped (b ∷ bs) c rest a h k = bare-more b (bs ++ c ∷ rest) a.0 ∙ ap (with_byte b) (word_stopped bs c rest a.1 h k)

not-same : (b n : ℕ) → b ≢ n → (b == n) ≡ false
not-same b n h = grind (arith, nat_tests)

fault-stray : (c : ℕ) → begins_token c ≡ false → fault_behind c ≡ BadByte
fault-stray c k = rw k refl

quoted-itself : (b : ℕ) (bs : List ℕ) → (b == 34) ≡ false → (b == 92) ≡ false → nat_lt b 32 ≡ false → quoted (b ∷ bs) ≡ with_byte b (quoted bs)
unfolding tokens
quoted-itself b bs q s l = rw (q, s, l) refl

quoted-letter : (c b : ℕ) (bs : List ℕ) → (c == 120) ≡ false → escaped c ≡ Some b → quoted (92 ∷ c ∷ bs) ≡ with_byte b (quoted bs)
unfolding tokens
quoted-letter c b bs h e = rw (h, e) refl

quoted-digits : (high low b : ℕ) (bs : List ℕ) → hex_byte (hex_digit high) (hex_digit low) ≡ Some b → quoted (92 ∷ 120 ∷ high ∷ low ∷ bs) ≡ with_byte b (quoted bs)
unfolding tokens
quoted-digits high low b bs e = rw e refl

quoted-closed : (rest : List ℕ) → quoted (34 ∷ rest) ≡ ended (after rest)
unfolding tokens
quoted-closed rest = refl

quoted_written : (front bytes : List ℕ) → Written front bytes → (rest : List ℕ) → quoted (front ++ rest) ≡ with_bytes bytes (quoted rest)
quoted_written _ _ nothing rest = sym (with_bytes-none _)
quoted_written _ _ (itself b front bytes l q s w) rest =
    quoted-itself b (front ++ rest) (not-same b 34 q) (not-same b 92 s) (grind (arith, nat_tests)) ∙ ap (with_byte b) (quoted_written front bytes w rest) ∙ with_byte-bytes b bytes _
quoted_written _ _ (letter c b front bytes n e w) rest =
    quoted-letter c b (front ++ rest) (not-same c 120 n) e ∙ ap (with_byte b) (quoted_written front bytes w rest) ∙ with_byte-bytes b bytes _
quoted_written _ _ (digits high low b front bytes e w) rest =
    quoted-digits high low b (front ++ rest) e ∙ ap (with_byte b) (quoted_written front bytes w rest) ∙ with_byte-bytes b bytes _

quoted_followed : (front bytes rest : List ℕ) → Written front bytes → quoted (front ++ 34 ∷ rest) ≡ with_bytes bytes (ended (after rest))
quoted_followed front bytes rest w = quoted_written front bytes w (34 ∷ rest) ∙ ap (with_bytes bytes) (quoted-closed rest)

quoted-nothing : quoted [] ≡ Err BadQuote
unfolding tokens
quoted-nothing = refl

quoted-control : (b : ℕ) (bs : List ℕ) → b < 32 → quoted (b ∷ bs) ≡ Err BadQuote
unfolding tokens
quoted-control b bs l =
    let q : (b == 34) ≡ false = grind (arith, nat_tests) in
    let s : (b == 92) ≡ false = grind (arith, nat_tests) in
    let k : nat_lt b 32 ≡ true = grind (arith, nat_tests) in
    rw (q, s, k) refl

escape-letter : (c : ℕ) (rest : List ℕ) → (c == 120) ≡ false → escaped c ≡ None → quoted (92 ∷ c ∷ rest) ≡ Err BadQuote
unfolding tokens
escape-letter c rest h e = rw (h, e) refl

escape-end : quoted (92 ∷ []) ≡ Err BadQuote
unfolding tokens
escape-end = refl

escape-digits : (rest : List ℕ) → LacksDigits rest → quoted (92 ∷ 120 ∷ rest) ≡ Err BadQuote
unfolding tokens
escape-digits [] h = refl
escape-digits (high ∷ []) h = refl
escape-digits (high ∷ low ∷ rest) h = rw h refl

escape-broken : (rest : List ℕ) → LacksEscape rest → quoted (92 ∷ rest) ≡ Err BadQuote
escape-broken [] h = escape-end
escape-broken (c ∷ rest) (inl h) = ap (λ d. quoted (92 ∷ d ∷ rest)) h.0 ∙ escape-digits rest h.1
escape-broken (c ∷ rest) (inr h) = escape-letter c rest (not-same c 120 h.0) h.1

quoted_broken : (rest : List ℕ) → Breaks rest → quoted rest ≡ Err BadQuote
quoted_broken [] h = quoted-nothing
quoted_broken (b ∷ rest) (inl h) = quoted-control b rest h
quoted_broken (b ∷ rest) (inr h) = ap (λ c. quoted (c ∷ rest)) h.0 ∙ escape-broken rest h.1

tokens-nothing : tokens [] ≡ Ok []
unfolding tokens
tokens-nothing = refl

tokens-stray : (b : ℕ) (rest : List ℕ) → is_blank b ≡ false → begins_token b ≡ false → tokens (b ∷ rest) ≡ Err BadByte
unfolding tokens
tokens-stray b rest h k = let w : is_bare b ≡ false = stray-not-bare b k in let q : (b == 34) ≡ false = stray-not-quote b k in rw (h, w, q) refl

tokens-word : (b : ℕ) (rest : List ℕ) → is_bare b ≡ true → tokens (b ∷ rest) ≡ begun Bare (bare (b ∷ rest))
tokens-word b rest h = tokens-bare b rest (bare-not-blank b h) (bare-not-quote b h)

pub reads_only : (line : List ℕ) (reading : Result (List Token) Reason) → Reads line reading → tokens line ≡ reading
reads_only _ _ at_end = tokens-nothing
reads_only _ _ (blank b rest reading h d) = tokens-blank b rest h ∙ reads_only rest reading d
reads_only _ _ (word b front rest reading a e d) =
    tokens-word b (front ++ rest) a.0 ∙ ap (begun Bare) (bare_word (b ∷ front) rest a e) ∙ begun_ended Bare (b ∷ front) (tokens rest)
    ∙ ap (with_tokens (Bare (b ∷ front) ∷ [])) (reads_only rest reading d)
reads_only _ _ (text front bytes rest reading w e d) =
    tokens_of_quoted (front ++ 34 ∷ rest) ∙ ap (begun Quoted) (quoted_followed front bytes rest w ∙ ap (λ r. with_bytes bytes (ended r)) (after_ends rest e))
    ∙ begun_ended Quoted bytes (tokens rest) ∙ ap (with_tokens (Quoted bytes ∷ [])) (reads_only rest reading d)
reads_only _ _ (stray b rest h k) = tokens-stray b rest h k
reads_only _ _ (word_touched b front rest a) = tokens-word b (front ++ 34 ∷ rest) a.0 ∙ ap (begun Bare) (word_stopped (b ∷ front) 34 rest a refl refl)
reads_only _ _ (word_strays b c front rest a h k) =
    tokens-word b (front ++ c ∷ rest) a.0 ∙ ap (begun Bare) (word_stopped (b ∷ front) c rest a h (stray-not-bare c k)) ∙ ap Err (fault-stray c k)
reads_only _ _ (text_touched c front bytes rest w h) =
    tokens_of_quoted (front ++ 34 ∷ c ∷ rest) ∙ ap (begun Quoted) (quoted_followed front bytes (c ∷ rest) w ∙ ap (λ r. with_bytes bytes (ended r)) (after_touched c rest h))
reads_only _ _ (text_strays c front bytes rest w h k) =
    tokens_of_quoted (front ++ 34 ∷ c ∷ rest) ∙ ap (begun Quoted) (quoted_followed front bytes (c ∷ rest) w ∙ ap (λ r. with_bytes bytes (ended r)) (after_strays c rest h k))
reads_only _ _ (text_broken front bytes rest w b) =
    tokens_of_quoted (front ++ rest) ∙ ap (begun Quoted) (quoted_written front bytes w rest ∙ ap (with_bytes bytes) (quoted_broken rest b))

-- ---- the rules give something

-- the next byte stands in no bare token
abbrev NotBare : List ℕ → Type 0
NotBare [] = ⊤
NotBare (b ∷ bs) = is_bare b ≡ false

-- a text is a part of a bare token, and goes on with another byte
record Word (line : List ℕ) : Type 0 where
  front : List ℕ
  rest : List ℕ
  whole : front ++ rest ≡ line
  bytes : AreBare front
  stops : NotBare rest

word_of : (line : List ℕ) → Word line
word_of [] = record { front = []; rest = []; whole = refl; bytes = tt; stops = tt }
word_of (b ∷ bs) = elim (cases_Bool (is_bare b)) [
  | inl h ↦ let w = word_of bs in record { front = b ∷ w.front; rest = w.rest; whole = ap (λ t. b ∷ t) w.whole; bytes = (h, w.bytes); stops = w.stops }
  | inr h ↦ record { front = []; rest = b ∷ bs; whole = refl; bytes = tt; stops = h }
]

-- a text goes on between quotes up to the closing one, or to what can't stand there
abbrev Closes : List ℕ → Type 0
Closes rest = Breaks rest ⊎ ((more : List ℕ) × (rest ≡ 34 ∷ more))

record Text (line : List ℕ) : Type 0 where
  front : List ℕ
  bytes : List ℕ
  rest : List ℕ
  whole : front ++ rest ≡ line
  written : Written front bytes
  closes : Closes rest

text-stops : (line : List ℕ) → Closes line → Text line
text-stops line c = record { front = []; bytes = []; rest = line; whole = refl; written = nothing; closes = c }

text-letter : (c : ℕ) (rest : List ℕ) → c ≢ 120 → (o : Option ℕ) → escaped c ≡ o → Text rest → Text (92 ∷ c ∷ rest)
text-letter c rest n (Some b) e t = record { front = 92 ∷ c ∷ t.front; bytes = b ∷ t.bytes; rest = t.rest; whole = ap (λ s. 92 ∷ c ∷ s) t.whole; written = letter c b t.front t.bytes n e t.written; closes = t.closes }
text-letter c rest n None e t = text-stops (92 ∷ c ∷ rest) (inl (inr (refl, inr (n, e))))

text-digits : (high low : ℕ) (rest : List ℕ) (o : Option ℕ) → hex_byte (hex_digit high) (hex_digit low) ≡ o → Text rest → Text (92 ∷ 120 ∷ high ∷ low ∷ rest)
text-digits high low rest (Some b) e t = record { front = 92 ∷ 120 ∷ high ∷ low ∷ t.front; bytes = b ∷ t.bytes; rest = t.rest; whole = ap (λ s. 92 ∷ 120 ∷ high ∷ low ∷ s) t.whole; written = digits high low b t.front t.bytes e t.written; closes = t.closes }
text-digits high low rest None e t = text-stops (92 ∷ 120 ∷ high ∷ low ∷ rest) (inl (inr (refl, inl (refl, e))))

same : (b n : ℕ) → (b == n) ≡ true → b ≡ n
same b n h = grind (arith, nat_tests)

other : (b n : ℕ) → (b == n) ≡ false → b ≢ n
other b n h = grind (arith, nat_tests)

text-hex : (n : ℕ) → ((line : List ℕ) → length line ≤ n → Text line) → (rest : List ℕ) → length rest ≤ n → Text (92 ∷ 120 ∷ rest)
text-hex n later [] l = text-stops (92 ∷ 120 ∷ []) (inl (inr (refl, inl (refl, tt))))
text-hex n later (high ∷ []) l = text-stops (92 ∷ 120 ∷ high ∷ []) (inl (inr (refl, inl (refl, tt))))
text-hex n later (high ∷ low ∷ rest) l = text-digits high low rest _ refl (later rest (omega arith))

text-escape : (n : ℕ) → ((line : List ℕ) → length line ≤ n → Text line) → (rest : List ℕ) → length rest ≤ n → Text (92 ∷ rest)
text-escape n later [] l = text-stops (92 ∷ []) (inl (inr (refl, tt)))
text-escape n later (c ∷ rest) l = elim (cases_Bool (c == 120)) [
  | inl h ↦ subst (λ (d : ℕ). Text (92 ∷ d ∷ rest)) (sym (same c 120 h)) (text-hex n later rest (omega arith))
  | inr h ↦ text-letter c rest (other c 120 h) _ refl (later rest (omega arith))
]

text-itself : (b : ℕ) (rest : List ℕ) → 32 ≤ b → b ≢ 34 → b ≢ 92 → Text rest → Text (b ∷ rest)
text-itself b rest l q s t = record { front = b ∷ t.front; bytes = b ∷ t.bytes; rest = t.rest; whole = ap (λ r. b ∷ r) t.whole; written = itself b t.front t.bytes l q s t.written; closes = t.closes }

text_of : (n : ℕ) (line : List ℕ) → length line ≤ n → Text line
text_of n [] l = text-stops [] (inl tt)
text_of zero (b ∷ bs) l = absurd (omega arith)
text_of (suc n) (b ∷ bs) l = elim (cases_Bool (b == 34)) [
  | inl h ↦ text-stops (b ∷ bs) (inr (bs, ap (λ c. c ∷ bs) (same b 34 h)))
  | inr h ↦ elim (cases_Bool (b == 92)) [
    | inl k ↦ subst (λ (c : ℕ). Text (c ∷ bs)) (sym (same b 92 k)) (text-escape n (λ line m. text_of n line m) bs (omega arith))
    | inr k ↦ elim (cases_Bool (nat_lt b 32)) [
      | inl s ↦ text-stops (b ∷ bs) (inl (inl (grind (arith, nat_tests))))
      | inr s ↦ text-itself b bs (grind (arith, nat_tests)) (other b 34 h) (other b 92 k) (text_of n bs (omega arith))
    ]
  ]
]

abbrev Read : List ℕ → Type 0
Read line = (reading : Result (List Token) Reason) × Reads line reading

read-word : (b : ℕ) (front rest : List ℕ) → AreBare (b ∷ front) → NotBare rest → Read rest → Read (b ∷ front ++ rest)
read-word b front [] a s r = (_, word b front [] r.0 a tt r.1)
read-word b front (c ∷ rest) a s r = elim (cases_Bool (is_blank c)) [
  | inl h ↦ (_, word b front (c ∷ rest) r.0 a h r.1)
  | inr h ↦ elim (cases_Bool (c == 34)) [
    | inl q ↦ (_, subst (λ (d : ℕ). Reads (b ∷ front ++ d ∷ rest) (Err BadQuote)) (sym (same c 34 q)) (word_touched b front rest a))
    | inr q ↦ (_, word_strays b c front rest a h (begins-none c s q))
  ]
]

read-text : (front bytes rest : List ℕ) → Written front bytes → Read rest → Read (34 ∷ front ++ 34 ∷ rest)
read-text front bytes [] w r = (_, text front bytes [] r.0 w tt r.1)
read-text front bytes (c ∷ rest) w r = elim (cases_Bool (is_blank c)) [
  | inl h ↦ (_, text front bytes (c ∷ rest) r.0 w h r.1)
  | inr h ↦ elim (cases_Bool (begins_token c)) [
    | inl k ↦ (_, text_touched c front bytes rest w k)
    | inr k ↦ (_, text_strays c front bytes rest w h k)
  ]
]

read_quoted : (n : ℕ) → ((line : List ℕ) → length line ≤ n → Read line) → (rest : List ℕ) → length rest ≤ n → Text rest → Read (34 ∷ rest)
read_quoted n later rest l t = go t.closes
  where
    go : Closes t.rest → Read (34 ∷ rest)
    go (inl b) = subst (λ (s : List ℕ). Read (34 ∷ s)) t.whole (_, text_broken t.front t.bytes t.rest t.written b)
    go (inr m) =
        let e : t.front ++ 34 ∷ m.0 ≡ rest = ap (λ s. t.front ++ s) (sym m.1) ∙ t.whole in
        let k : length m.0 ≤ n = omega (arith, ap length e, length-append t.front (34 ∷ m.0)) in
        subst (λ (s : List ℕ). Read (34 ∷ s)) e (read-text t.front t.bytes m.0 t.written (later m.0 k))

read_bare : (n : ℕ) → ((line : List ℕ) → length line ≤ n → Read line) → (b : ℕ) (rest : List ℕ) → length rest ≤ n → is_bare b ≡ true → Word rest → Read (b ∷ rest)
read_bare n later b rest l h w =
    let k : length w.rest ≤ n = omega (arith, ap length w.whole, length-append w.front w.rest) in
    subst (λ (s : List ℕ). Read (b ∷ s)) w.whole (read-word b w.front w.rest (h, w.bytes) w.stops (later w.rest k))

read_of : (n : ℕ) (line : List ℕ) → length line ≤ n → Read line
read_of n [] l = (Ok [], at_end)
read_of zero (b ∷ bs) l = absurd (omega arith)
read_of (suc n) (b ∷ bs) l = elim (cases_Bool (is_blank b)) [
  | inl h ↦ let r = read_of n bs (omega arith) in (r.0, blank b bs r.0 h r.1)
  | inr h ↦ elim (cases_Bool (is_bare b)) [
    | inl k ↦ read_bare n (λ line m. read_of n line m) b bs (omega arith) k (word_of bs)
    | inr k ↦ elim (cases_Bool (b == 34)) [
      | inl q ↦ subst (λ (c : ℕ). Read (c ∷ bs)) (sym (same b 34 q)) (read_quoted n (λ line m. read_of n line m) bs (omega arith) (text_of (length bs) bs (omega arith)))
      | inr q ↦ (Err BadByte, stray b bs h (begins-none b k q))
    ]
  ]
]

pub reads_tokens : (line : List ℕ) → Reads line (tokens line)
reads_tokens line =
    let r = read_of (length line) line (omega arith) in
    subst (λ (reading : Result (List Token) Reason). Reads line reading) (sym (reads_only line r.0 r.1)) r.1
