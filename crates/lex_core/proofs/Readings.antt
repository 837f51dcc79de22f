-- Lemmas on how a line is read.
-- By induction on the bytes with cases on the first one (blank, quote or byte of a bare token), and by unfolding `tokens`.
use Rattle.std.proofs.Common.{◌≡◌, ◌≢◌, ℕ, zero, suc, ◌+◌, ◌<◌, ◌≤◌, List, [], ◌∷◌, ◌++◌, length, take, drop, Bool, true, false, Option, Some, None, Result, Ok, Err, refl, inl, inr, ap, sym, subst, ◌∙◌, arith, append-nil, append_assoc, length-drop}
use Rattle.std.specs.Prelude.{◌==◌, nat_lt}
use Rattle.std.specs.List.{prefix_len}
use Rattle.std.proofs.lemmas.Bool.{cases_Bool}
use Rattle.lex_core.specs.Lexical.{Within, is_blank, is_bare, fault_behind, tokens, bare, quoted, after, ended, begun, with_byte}
use Rattle.lex_core.specs.Lines.{is_skipped}
use Rattle.lex_core.specs.Steps.{past_blanks, is_plain, with_bytes, with_tokens, IsPastBlanks, EndsToken, Refuses, touching}
use Rattle.lex_core.specs.declared.line.Token.{Token}
use Rattle.lex_core.specs.declared.line.Token.TheVariants.{Bare, Quoted}
use Rattle.lex_core.specs.declared.reason.Reason.{Reason}
use Rattle.sys_abi.specs.declared.memory.OrNoMemory.{OrNoMemory}
use Rattle.sys_abi.specs.declared.memory.OrNoMemory.TheVariants.{Refused, NoMemory}
use Rattle.std.proofs.lemmas.Bool.Decides.{nat_tests}

past-blank : (b : ℕ) (bs : List ℕ) → is_blank b ≡ true → past_blanks (b ∷ bs) ≡ past_blanks bs
unfolding past_blanks
past-blank b bs h = rw h refl

past-other : (b : ℕ) (bs : List ℕ) → is_blank b ≡ false → past_blanks (b ∷ bs) ≡ b ∷ bs
unfolding past_blanks
past-other b bs h = rw h refl

past-end : past_blanks [] ≡ []
unfolding past_blanks
past-end = refl

pub tokens-blank : (b : ℕ) (bs : List ℕ) → is_blank b ≡ true → tokens (b ∷ bs) ≡ tokens bs
unfolding tokens
tokens-blank b bs h = rw h refl

-- blanks before the first token are of no account
pub tokens_past : (line : List ℕ) → tokens (past_blanks line) ≡ tokens line
tokens_past [] = ap tokens past-end
tokens_past (b ∷ bs) = elim (cases_Bool (is_blank b)) [
  | inl h ↦ ap tokens (past-blank b bs h) ∙ tokens_past bs ∙ sym (tokens-blank b bs h)
  | inr h ↦ ap tokens (past-other b bs h)
]

pub past_shorter : (line : List ℕ) → length (past_blanks line) ≤ length line
past_shorter [] = rw past-end (omega arith)
past_shorter (b ∷ bs) = elim (cases_Bool (is_blank b)) [
  | inl h ↦ let ih = past_shorter bs in rw (past-blank b bs h) (omega arith)
  | inr h ↦ rw (past-other b bs h) (omega arith)
]

pub begins_past : (line : List ℕ) → 0 < length (past_blanks line) → IsPastBlanks (past_blanks line)
begins_past [] l = let k : 0 < 0 = rw past-end at l in absurd (omega arith)
begins_past (b ∷ bs) l = elim (cases_Bool (is_blank b)) [
  | inl h ↦ let k : 0 < length (past_blanks bs) = rw (past-blank b bs h) at l in rw (past-blank b bs h) (begins_past bs k)
  | inr h ↦ rw (past-other b bs h) h
]

skipped-blank : (b : ℕ) (bs : List ℕ) → is_blank b ≡ true → is_skipped (b ∷ bs) ≡ is_skipped bs
unfolding is_skipped
skipped-blank b bs h = rw h refl

skipped-other : (b : ℕ) (bs : List ℕ) → is_blank b ≡ false → is_skipped (b ∷ bs) ≡ (b == 35)
unfolding is_skipped
skipped-other b bs h = rw h refl

skipped-end : is_skipped [] ≡ true
unfolding is_skipped
skipped-end = refl

-- a line with this byte behind its blanks
pub skips_byte : (line : List ℕ) (b : ℕ) (rest : List ℕ) → past_blanks line ≡ b ∷ rest → is_skipped line ≡ (b == 35)
skips_byte [] b rest e = let k : [] ≡ b ∷ rest = sym past-end ∙ e in absurd (cc)
skips_byte (c ∷ cs) b rest e = elim (cases_Bool (is_blank c)) [
  | inl h ↦ skipped-blank c cs h ∙ skips_byte cs b rest (sym (past-blank c cs h) ∙ e)
  | inr h ↦ let k : c ∷ cs ≡ b ∷ rest = sym (past-other c cs h) ∙ e in let q : c ≡ b = cc in skipped-other c cs h ∙ ap (λ d. d == 35) q
]

-- a line without any
pub skips_blanks : (line : List ℕ) → length (past_blanks line) ≡ 0 → is_skipped line ≡ true
skips_blanks [] e = skipped-end
skips_blanks (c ∷ cs) e = elim (cases_Bool (is_blank c)) [
  | inl h ↦ skipped-blank c cs h ∙ skips_blanks cs (ap length (sym (past-blank c cs h)) ∙ e)
  | inr h ↦ let k : length (c ∷ cs) ≡ 0 = ap length (sym (past-other c cs h)) ∙ e in absurd (omega arith)
]

-- ---- a bare token

take-next : (n b : ℕ) (bytes : List ℕ) → take (1 + n) (b ∷ bytes) ≡ b ∷ take n bytes
take-next n b bytes = let e : 1 + n ≡ suc n = omega arith in rw e refl

drop-next : (n b : ℕ) (bytes : List ℕ) → drop (1 + n) (b ∷ bytes) ≡ drop n bytes
drop-next n b bytes = let e : 1 + n ≡ suc n = omega arith in rw e refl

pub with_byte-bytes : (b : ℕ) (front : List ℕ) (left : Within) → with_byte b (with_bytes front left) ≡ with_bytes (b ∷ front) left
with_byte-bytes b front (Ok left) = refl
with_byte-bytes b front (Err reason) = refl

pub with_bytes-none : (left : Within) → with_bytes [] left ≡ left
with_bytes-none (Ok left) = refl
with_bytes-none (Err reason) = refl

pub bare-more : (b : ℕ) (bs : List ℕ) → is_bare b ≡ true → bare (b ∷ bs) ≡ with_byte b (bare bs)
unfolding tokens
bare-more b bs h = rw h refl

blank-not-bare : (b : ℕ) → is_blank b ≡ true → is_bare b ≡ false
blank-not-bare b h = grind (arith, nat_tests)

bare-end : bare [] ≡ ended (tokens [])
unfolding tokens
bare-end = refl

bare-blank : (b : ℕ) (bs : List ℕ) → is_blank b ≡ true → is_bare b ≡ false → bare (b ∷ bs) ≡ ended (tokens (b ∷ bs))
unfolding tokens
bare-blank b bs h k = rw (h, k) refl

pub bare-ended : (rest : List ℕ) → EndsToken rest → bare rest ≡ ended (tokens rest)
bare-ended [] e = bare-end
bare-ended (b ∷ bs) e = bare-blank b bs e (blank-not-bare b e)

pub bare-stopped : (b : ℕ) (bs : List ℕ) → is_bare b ≡ false → is_blank b ≡ false → bare (b ∷ bs) ≡ Err (fault_behind b)
unfolding tokens
bare-stopped b bs h k = rw (h, k) refl

-- a bare token has the bytes up to the first that can't stand in it
bare-taken : (text : List ℕ) → bare text ≡ with_bytes (take (prefix_len is_bare text) text) (bare (drop (prefix_len is_bare text) text))
bare-taken [] = sym (with_bytes-none _)
bare-taken (b ∷ bs) = elim (cases_Bool (is_bare b)) [
  | inl h ↦ rw h (rw (take-next, drop-next) (bare-more b bs h ∙ ap (with_byte b) (bare-taken bs) ∙ with_byte-bytes b _ _))
  | inr h ↦ rw h (sym (with_bytes-none _))
]

pub bare_taken : (text rest : List ℕ) → rest ≡ drop (prefix_len is_bare text) text → EndsToken rest → bare text ≡ with_bytes (take (prefix_len is_bare text) text) (ended (tokens rest))
bare_taken text rest q e = bare-taken text ∙ ap (λ r. with_bytes (take (prefix_len is_bare text) text) (bare r)) (sym q) ∙ ap (with_bytes (take (prefix_len is_bare text) text)) (bare-ended rest e)

pub prefix_within : (p : ℕ → Bool) (xs : List ℕ) → prefix_len p xs ≤ length xs
prefix_within p [] = omega arith
prefix_within p (x ∷ xs) = elim (cases_Bool (p x)) [
  | inl h ↦ let ih = prefix_within p xs in rw h (omega arith)
  | inr h ↦ rw h (omega arith)
]

-- ---- a quoted token

quoted-more : (b : ℕ) (bs : List ℕ) → is_plain b ≡ true → quoted (b ∷ bs) ≡ with_byte b (quoted bs)
unfolding tokens
quoted-more b bs h =
    let q : (b == 34) ≡ false = grind (arith, nat_tests) in
    let s : (b == 92) ≡ false = grind (arith, nat_tests) in
    let l : nat_lt b 32 ≡ false = grind (arith, nat_tests) in
    rw (q, s, l) refl

-- the bytes up to the first that doesn't stand for itself
pub quoted_taken : (text : List ℕ) → quoted text ≡ with_bytes (take (prefix_len is_plain text) text) (quoted (drop (prefix_len is_plain text) text))
quoted_taken [] = sym (with_bytes-none _)
quoted_taken (b ∷ bs) = elim (cases_Bool (is_plain b)) [
  | inl h ↦ rw h (rw (take-next, drop-next) (quoted-more b bs h ∙ ap (with_byte b) (quoted_taken bs) ∙ with_byte-bytes b _ _))
  | inr h ↦ rw h (sym (with_bytes-none _))
]

with_bytes-bytes : (front more : List ℕ) (left : Within) → with_bytes front (with_bytes more left) ≡ with_bytes (front ++ more) left
with_bytes-bytes front more (Ok left) = ap (λ bytes. Ok (bytes, left.1)) (sym (append_assoc front more left.0))
with_bytes-bytes front more (Err reason) = refl

with_byte-one : (b : ℕ) (left : Within) → with_byte b left ≡ with_bytes (b ∷ []) left
with_byte-one b (Ok left) = refl
with_byte-one b (Err reason) = refl

-- one more byte, and those behind it that stand for themselves
pub plain_added : (left : Within) (bytes plain rest next more : List ℕ) (b : ℕ) → left ≡ with_bytes bytes (quoted rest) → quoted rest ≡ with_byte b (quoted next)
    → quoted next ≡ with_bytes plain (quoted more) → left ≡ with_bytes ((bytes ++ b ∷ []) ++ plain) (quoted more)
plain_added left bytes plain rest next more b e h q =
    e ∙ ap (with_bytes bytes) (h ∙ ap (with_byte b) q ∙ with_byte-one b _) ∙ with_bytes-bytes bytes (b ∷ []) _ ∙ with_bytes-bytes (bytes ++ b ∷ []) plain _

quoted-closed : (behind : List ℕ) → quoted (34 ∷ behind) ≡ ended (after behind)
unfolding tokens
quoted-closed behind = refl

closed-quote : (rest behind : List ℕ) (b : ℕ) → rest ≡ b ∷ behind → b ≡ 34 → quoted rest ≡ ended (after behind)
closed-quote rest behind b e q = ap quoted (e ∙ ap (λ c. c ∷ behind) q) ∙ quoted-closed behind

-- a quoted token without an escape
pub plain_closed : (text plain rest behind : List ℕ) (b : ℕ) → quoted text ≡ with_bytes plain (quoted rest) → rest ≡ b ∷ behind → b ≡ 34 → after behind ≡ tokens behind
    → quoted text ≡ with_bytes plain (ended (tokens behind))
plain_closed text plain rest behind b e r q h = e ∙ ap (with_bytes plain) (closed-quote rest behind b r q) ∙ ap (λ later. with_bytes plain (ended later)) h

-- one that another token touches
pub plain_refused : (text plain rest behind : List ℕ) (b : ℕ) (e : OrNoMemory Reason) → quoted text ≡ with_bytes plain (quoted rest) → rest ≡ b ∷ behind → b ≡ 34 → Refuses e (after behind) → Refuses e (quoted text)
plain_refused text plain rest behind b NoMemory w r q h = tt
plain_refused text plain rest behind b (Refused reason) w r q h = w ∙ ap (with_bytes plain) (closed-quote rest behind b r q) ∙ ap (λ later. with_bytes plain (ended later)) h

touching-end : (b : ℕ) → touching [] ≡ Some b → ⊥
touching-end b e = cc

touching-blank : (b c : ℕ) (cs : List ℕ) → is_blank c ≡ true → touching (c ∷ cs) ≡ Some b → ⊥
touching-blank b c cs h e = let k : ◌≡◌ {A = Option ℕ} None (Some b) = rw h at e in cc

touching-byte : (b c : ℕ) (cs : List ℕ) → is_blank c ≡ false → touching (c ∷ cs) ≡ Some b → c ≡ b
touching-byte b c cs h e = let k : Some c ≡ Some b = rw h at e in cc

-- the byte that stops a bare token is no blank
pub bare_refused : (text : List ℕ) (b : ℕ) → touching (drop (prefix_len is_bare text) text) ≡ Some b → bare text ≡ Err (fault_behind b)
bare_refused [] b e = absurd (touching-end b e)
bare_refused (c ∷ cs) b e = elim (cases_Bool (is_bare c)) [
  | inl h ↦ bare-more c cs h ∙ ap (with_byte c) (bare_refused cs b (rw (h, drop-next) at e))
  | inr h ↦ elim (cases_Bool (is_blank c)) [
    | inl k ↦ absurd (touching-blank b c cs k (rw h at e))
    | inr k ↦ bare-stopped c cs h k ∙ ap (λ d. Err (fault_behind d)) (touching-byte b c cs k (rw h at e))
  ]
]

-- what ends a token doesn't begin one
pub token_is_some : (n : ℕ) (text : List ℕ) → IsPastBlanks text → EndsToken (drop n text) → n ≤ length text → length (drop n text) < length text
token_is_some n [] begins ends l = absurd begins
token_is_some zero (b ∷ bs) begins ends l = let k : true ≡ false = sym ends ∙ begins in absurd (cc)
token_is_some (suc n) (b ∷ bs) begins ends l = omega (arith, length-drop n bs)

pub tokens_of_quoted : (inner : List ℕ) → tokens (34 ∷ inner) ≡ begun Quoted (quoted inner)
unfolding tokens
tokens_of_quoted inner = refl

tokens_quoted : (text inner : List ℕ) (b : ℕ) → text ≡ b ∷ inner → b ≡ 34 → tokens text ≡ begun Quoted (quoted inner)
tokens_quoted text inner b e q = ap tokens (e ∙ ap (λ c. c ∷ inner) q) ∙ tokens_of_quoted inner

pub tokens-bare : (b : ℕ) (bs : List ℕ) → is_blank b ≡ false → (b == 34) ≡ false → tokens (b ∷ bs) ≡ begun Bare (bare (b ∷ bs))
unfolding tokens
tokens-bare b bs h q = elim (cases_Bool (is_bare b)) [
  | inl k ↦ rw (h, k) refl
  | inr k ↦ rw (h, k, q) refl
]

tokens_bare : (text inner : List ℕ) (b : ℕ) → text ≡ b ∷ inner → IsPastBlanks text → b ≢ 34 → tokens text ≡ begun Bare (bare text)
tokens_bare text inner b e h q =
    let k : is_blank b ≡ false = let P : List ℕ → Type 0 = IsPastBlanks in subst P e h in
    ap tokens e ∙ tokens-bare b inner k (grind (arith, nat_tests)) ∙ ap (λ t. begun Bare (bare t)) (sym e)

pub begun_ended : (kind : List ℕ → Token) (bytes : List ℕ) (later : Result (List Token) Reason) → begun kind (with_bytes bytes (ended later)) ≡ with_tokens (kind bytes ∷ []) later
begun_ended kind bytes (Ok more) = ap (λ bs. Ok (kind bs ∷ more)) (append-nil bytes)
begun_ended kind bytes (Err reason) = refl

begun_refused : (e : OrNoMemory Reason) (kind : List ℕ → Token) (left : Within) (reading : Result (List Token) Reason) → reading ≡ begun kind left → Refuses e left → Refuses e reading
begun_refused NoMemory kind left reading q h = tt
begun_refused (Refused reason) kind left reading q h = q ∙ ap (begun kind) h

pub quoted_read : (text inner bytes : List ℕ) (b : ℕ) (later : Result (List Token) Reason) → text ≡ b ∷ inner → b ≡ 34 → quoted inner ≡ with_bytes bytes (ended later) → tokens text ≡ with_tokens (Quoted bytes ∷ []) later
quoted_read text inner bytes b later e q h = tokens_quoted text inner b e q ∙ ap (begun Quoted) h ∙ begun_ended Quoted bytes later

pub quoted_refused : (text inner : List ℕ) (b : ℕ) (e : OrNoMemory Reason) → text ≡ b ∷ inner → b ≡ 34 → Refuses e (quoted inner) → Refuses e (tokens text)
quoted_refused text inner b e i q h = begun_refused e Quoted (quoted inner) (tokens text) (tokens_quoted text inner b i q) h

pub bare_read : (text inner bytes : List ℕ) (b : ℕ) (later : Result (List Token) Reason) → text ≡ b ∷ inner → IsPastBlanks text → b ≢ 34 → bare text ≡ with_bytes bytes (ended later) → tokens text ≡ with_tokens (Bare bytes ∷ []) later
bare_read text inner bytes b later e t q h = tokens_bare text inner b e t q ∙ ap (begun Bare) h ∙ begun_ended Bare bytes later

pub word_refused : (text inner : List ℕ) (b : ℕ) (reason : Reason) → text ≡ b ∷ inner → IsPastBlanks text → b ≢ 34 → bare text ≡ Err reason → tokens text ≡ Err reason
word_refused text inner b reason i t q h = tokens_bare text inner b i t q ∙ ap (begun Bare) h

-- ---- one token after another

with_tokens-tokens : (front more : List Token) (later : Result (List Token) Reason) → with_tokens front (with_tokens more later) ≡ with_tokens (front ++ more) later
with_tokens-tokens front more (Ok rest) = ap Ok (sym (append_assoc front more rest))
with_tokens-tokens front more (Err reason) = refl

pub token_added : (line rest more : List ℕ) (front : List Token) (token : Token) → tokens line ≡ with_tokens front (tokens rest) → tokens rest ≡ with_tokens (token ∷ []) (tokens more)
    → tokens line ≡ with_tokens (front ++ token ∷ []) (tokens (past_blanks more))
token_added line rest more front token e h =
    e ∙ ap (with_tokens front) h ∙ with_tokens-tokens front (token ∷ []) (tokens more) ∙ ap (with_tokens (front ++ token ∷ [])) (sym (tokens_past more))

pub tokens_refused : (line rest : List ℕ) (front : List Token) (e : OrNoMemory Reason) → tokens line ≡ with_tokens front (tokens rest) → Refuses e (tokens rest) → Refuses e (tokens line)
tokens_refused line rest front NoMemory q h = tt
tokens_refused line rest front (Refused reason) q h = q ∙ ap (with_tokens front) h

pub tokens_begin : (line : List ℕ) → tokens line ≡ with_tokens [] (tokens (past_blanks line))
tokens_begin line = sym (tokens_past line) ∙ sym (none (tokens (past_blanks line)))
  where
    none : (later : Result (List Token) Reason) → with_tokens [] later ≡ later
    none (Ok rest) = refl
    none (Err reason) = refl

tokens-end : tokens [] ≡ Ok []
unfolding tokens
tokens-end = refl

pub tokens_end : (line rest : List ℕ) (front : List Token) → tokens line ≡ with_tokens front (tokens rest) → length rest ≡ 0 → tokens line ≡ Ok front
tokens_end line [] front e l = e ∙ ap (with_tokens front) tokens-end ∙ ap Ok (append-nil front)
tokens_end line (b ∷ bs) front e l = absurd (omega arith)

-- ---- a line that isn't skipped has tokens

begun-some : (kind : List ℕ → Token) (left : Within) (found : List Token) → begun kind left ≡ Ok found → 0 < length found
begun-some kind (Ok left) found e = let q : found ≡ kind left.0 ∷ left.1 = cc in rw q (omega arith)
begun-some kind (Err reason) found e = absurd (cc)

pub tokens_some : (line : List ℕ) (found : List Token) → is_skipped line ≡ false → tokens line ≡ Ok found → 0 < length found
tokens_some [] found h e = let q : true ≡ false = sym skipped-end ∙ h in absurd (cc)
tokens_some (b ∷ bs) found h e = elim (cases_Bool (is_blank b)) [
  | inl k ↦ tokens_some bs found (sym (skipped-blank b bs k) ∙ h) (sym (tokens-blank b bs k) ∙ e)
  | inr k ↦ elim (cases_Bool (b == 34)) [
    | inl q ↦ let is : b ≡ 34 = grind (arith, nat_tests) in begun-some Quoted (quoted bs) found (sym (tokens_quoted (b ∷ bs) bs b refl is) ∙ e)
    | inr q ↦ begun-some Bare (bare (b ∷ bs)) found (sym (tokens-bare b bs k q) ∙ e)
  ]
]
