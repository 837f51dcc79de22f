-- A text is cut behind its first line, and at its first space.
-- By where the first such byte stands, and by induction on the text.
use Rattle.std.proofs.Common.{◌≡◌, ℕ, zero, suc, ◌+◌, ◌-◌, ◌<◌, ◌≤◌, Bool, true, false, Option, None, List, [], ◌∷◌, length, take, drop, get_or, Some, refl, sym, ap, ◌∙◌, inl, inr, arith, add-one, take_all, length-drop}
use Rattle.std.specs.Prelude.{not, nat_lt, position, ◌==◌}
use Rattle.std.specs.List.{onto_first, position_or_len, prefix_len, slice_split}
use Rattle.std.proofs.lemmas.Bool.{cases_Bool, eqb-true}
use Rattle.std.proofs.lemmas.Bool.Decides.{nat_tests}
use Rattle.std.proofs.lemmas.List.Quantifiers.{position-Some}
use Rattle.std.proofs.lemmas.List.Sums.{position_or_len_is}
use Rattle.memchr.specs.Find.{IsFirstByte, is_byte}
use Rattle.std.proofs.lemmas.List.Splits.{slice_split-cons_no, slice_split-cons_yes}
use Rattle.audit_check.specs.Lines.{before_lines, lines}

-- the first byte of this kind stands at n
record FirstAt (mark : ℕ) (text : List ℕ) (n : ℕ) : Type 0 where
  within : n < length text
  here : (get_or text n 0 == mark) ≡ true
  before : (k : ℕ) → k < n → (get_or text k 0 == mark) ≡ false

first-at : (mark : ℕ) (text : List ℕ) (n : ℕ) → position (λ b. b == mark) text ≡ Some n → FirstAt mark text n
first-at mark text n e = let p = position-Some (λ b. b == mark) text n 0 e in record { within = p.0; here = p.1; before = p.2 }

first-later : (mark b n : ℕ) (text : List ℕ) → FirstAt mark (b ∷ text) (suc n) → FirstAt mark text n
first-later mark b n text f = record { within = (let l = f.within in omega arith); here = f.here; before = λ k l. f.before (suc k) (omega arith) }

-- none of the bytes is of this kind
mark-len : ℕ → List ℕ → ℕ
mark-len mark text = prefix_len (λ b. not (b == mark)) text

none-here : (mark b : ℕ) (text : List ℕ) → length (b ∷ text) ≤ mark-len mark (b ∷ text) → ((b == mark) ≡ false) × (length text ≤ mark-len mark text)
unfolding mark-len
none-here mark b text l = elim (cases_Bool (b == mark)) [
  | inl h ↦ let e : mark-len mark (b ∷ text) ≡ 0 = rw h refl in absurd (omega arith)
  | inr h ↦ let e : mark-len mark (b ∷ text) ≡ 1 + mark-len mark text = rw h refl in (h, omega arith)
]

none-at : (mark : ℕ) (text : List ℕ) → position (λ b. b == mark) text ≡ None → length text ≤ mark-len mark text
unfolding mark-len
none-at mark text e = elim (cases_Bool (nat_lt (mark-len mark text) (length text))) [
  | inl h ↦ let no : Some (mark-len mark text) ≡ None = rw h at e in cc
  | inr h ↦ grind (arith, nat_tests)
]

-- ---- The first byte of a kind

fails : (b : Bool) → (b ≡ true → ⊥) → b ≡ false
fails true n = absurd (n refl)
fails false n = refl

-- it stands at the first place whose byte passes
pub first_place : (mark : ℕ) (text : List ℕ) (r : Option ℕ) → IsFirstByte (is_byte mark) text r → r ≡ position (λ b. b == mark) text
first_place mark text None h =
    let n : position_or_len (λ b. b == mark) text ≡ length text =
    position_or_len_is (λ b. b == mark) text (length text) 0 (omega arith) (λ k l. fails (get_or text k 0 == mark) (h k (omega arith) l)) (λ l. absurd (omega arith)) in
    let t : nat_lt (length text) (length text) ≡ false = grind (arith, nat_tests) in
    rw (n, t) refl
first_place mark text (Some k) h =
    let l = h.0.high in
    let n : position_or_len (λ b. b == mark) text ≡ k =
    position_or_len_is (λ b. b == mark) text k 0 (omega arith) (λ j m. fails (get_or text j 0 == mark) (h.0.before j (omega arith) m)) (λ m. h.1) in
    let t : nat_lt k (length text) ≡ true = grind (arith, nat_tests) in
    rw (n, t) refl

-- what stands behind a front, up to the text's end
pub rest_whole : (n : ℕ) (text : List ℕ) → take (length text - n) (drop n text) ≡ drop n text
rest_whole n text = take_all (length text - n) (drop n text) (omega (arith, length-drop n text))

pub empty_text : (text : List ℕ) → (length text == 0) ≡ true → text ≡ []
empty_text [] h = refl
empty_text (b ∷ text) h = let e = eqb-true (length (b ∷ text)) 0 h in absurd (omega arith)

-- ---- Lines

pub line_alone : (b : ℕ) (rows : List (List ℕ)) → (b == 10) ≡ true → before_lines b rows ≡ (b ∷ []) ∷ rows
line_alone b [] h = refl
line_alone b (line ∷ rows) h = rw h refl

line-longer : (b : ℕ) (line : List ℕ) (rows : List (List ℕ)) → (b == 10) ≡ false → before_lines b (line ∷ rows) ≡ (b ∷ line) ∷ rows
line-longer b line rows h = rw h refl

line-at : (text : List ℕ) (n : ℕ) → FirstAt 10 text n → lines text ≡ take (suc n) text ∷ lines (drop (suc n) text)
unfolding lines
line-at [] n f = absurd (let l = f.within in omega arith)
line-at (b ∷ text) zero f = line_alone b (lines text) f.here
line-at (b ∷ text) (suc n) f =
    ap (before_lines b) (line-at text n (first-later 10 b n text f)) ∙ line-longer b (take (suc n) text) (lines (drop (suc n) text)) (f.before 0 (omega arith))

pub line_ended : (text : List ℕ) (n : ℕ) → position (λ b. b == 10) text ≡ Some n → lines text ≡ take (n + 1) text ∷ lines (take (length text - (n + 1)) (drop (n + 1) text))
line_ended text n e = rw (rest_whole (n + 1) text, add-one) (line-at text n (first-at 10 text n e))

pub end_within : (text : List ℕ) (n : ℕ) → position (λ b. b == 10) text ≡ Some n → n < length text
end_within text n e = (first-at 10 text n e).within

pub no_lines : lines [] ≡ []
unfolding lines
no_lines = refl

line-whole : (b : ℕ) (text : List ℕ) → length (b ∷ text) ≤ mark-len 10 (b ∷ text) → lines (b ∷ text) ≡ (b ∷ text) ∷ []
unfolding lines
line-whole b [] l = refl
line-whole b (c ∷ text) l =
    let n = none-here 10 b (c ∷ text) l in
    ap (before_lines b) (line-whole c text n.1) ∙ line-longer b (c ∷ text) [] n.0

pub last_line : (text rest : List ℕ) → 0 < length text → position (λ b. b == 10) text ≡ None → rest ≡ [] → lines text ≡ text ∷ lines rest
last_line [] rest l e q = absurd (omega arith)
last_line (b ∷ text) rest l e q = rw (q, no_lines) (line-whole b text (none-at 10 (b ∷ text) e))

-- ---- Words

words : List ℕ → List (List ℕ)
words text = slice_split (λ b. b == 32) text

word-at : (text : List ℕ) (n : ℕ) → FirstAt 32 text n → words text ≡ take n text ∷ words (drop (suc n) text)
unfolding words
word-at [] n f = absurd (let l = f.within in omega arith)
word-at (b ∷ text) zero f = slice_split-cons_yes (λ b. b == 32) b text f.here
word-at (b ∷ text) (suc n) f = slice_split-cons_no (λ b. b == 32) b text (f.before 0 (omega arith)) ∙ ap (onto_first b) (word-at text n (first-later 32 b n text f))

word-whole : (text : List ℕ) → length text ≤ mark-len 32 text → words text ≡ text ∷ []
unfolding words
word-whole [] l = refl
word-whole (b ∷ text) l = let n = none-here 32 b text l in slice_split-cons_no (λ b. b == 32) b text n.0 ∙ ap (onto_first b) (word-whole text n.1)

pub space_within : (text : List ℕ) (n : ℕ) → position (λ b. b == 32) text ≡ Some n → n < length text
space_within text n e = (first-at 32 text n e).within

pub word_ended : (text : List ℕ) (n : ℕ) → position (λ b. b == 32) text ≡ Some n → take n text ≡ get_or (slice_split (λ b. b == 32) text) 0 []
unfolding words
word_ended text n e = sym (ap (λ parts. get_or parts 0 []) (word-at text n (first-at 32 text n e)))

pub last_word : (text : List ℕ) → position (λ b. b == 32) text ≡ None → text ≡ get_or (slice_split (λ b. b == 32) text) 0 []
unfolding words
last_word text e = sym (ap (λ parts. get_or parts 0 []) (word-whole text (none-at 32 text e)))

pub word_behind : (text : List ℕ) (n : ℕ) → position (λ b. b == 32) text ≡ Some n → get_or (slice_split (λ b. b == 32) (take (length text - (n + 1)) (drop (n + 1) text))) 0 [] ≡ get_or (slice_split (λ b. b == 32) text) 1 []
unfolding words
word_behind text n e =
    rw (rest_whole (n + 1) text, add-one) (sym (ap (λ parts. get_or parts 1 []) (word-at text n (first-at 32 text n e)) ∙ second (take n text) (words (drop (suc n) text))))
  where
    second : (word : List ℕ) (parts : List (List ℕ)) → get_or (word ∷ parts) 1 [] ≡ get_or parts 0 []
    second word parts = refl

pub no_word_behind : (text : List ℕ) → position (λ b. b == 32) text ≡ None → [] ≡ get_or (slice_split (λ b. b == 32) text) 1 []
unfolding words
no_word_behind text e = sym (ap (λ parts. get_or parts 1 []) (word-whole text (none-at 32 text e)))
