-- A text is cut at the first byte of a kind, and at each of them; the spaces at its ends are dropped. What a cut gives is found
-- by the place of the first such byte, and the rest by induction on the text.
use Rattle.std.proofs.Common.{◌≡◌, ℕ, suc, ◌+◌, ◌-◌, ◌<◌, ◌≤◌, true, false, cond, List, [], ◌∷◌, length, Bor, take, drop, map, filter, ◌++◌, Option, Some, None, ◌==◌, refl, ap, sym, ◌∙◌, inl, inr, arith, take_all, length-drop}
use Rattle.std.specs.Prelude.{not, nat_lt, position}
use Rattle.std.specs.List.{prefix_len, slice_split}
use Rattle.std.proofs.lemmas.Bool.{cases_Bool}
use Rattle.std.proofs.lemmas.Bool.Decides.{nat_tests}
use Rattle.hist_model.specs.RuleParts.{is_filled}
use Rattle.policy_reader.specs.Texts.{cut_at, trimmed, items_of}

take-next : (n b : ℕ) (bytes : List ℕ) → take (1 + n) (b ∷ bytes) ≡ b ∷ take n bytes
take-next n b bytes = let e : 1 + n ≡ suc n = omega arith in rw e refl

drop-next : (n b : ℕ) (bytes : List ℕ) → drop (1 + n + 1) (b ∷ bytes) ≡ drop (n + 1) bytes
drop-next n b bytes = let e : 1 + n + 1 ≡ suc (n + 1) = omega arith in rw e refl

-- how many bytes stand before the first one of the kind
mark_len : ℕ → List ℕ → ℕ
mark_len mark text = prefix_len (λ b. not (b == mark)) text

mark-here : (mark b : ℕ) (bs : List ℕ) → (b == mark) ≡ true → mark_len mark (b ∷ bs) ≡ 0
unfolding mark_len
mark-here mark b bs h = rw h refl

mark-later : (mark b : ℕ) (bs : List ℕ) → (b == mark) ≡ false → mark_len mark (b ∷ bs) ≡ 1 + mark_len mark bs
unfolding mark_len
mark-later mark b bs h = rw h refl

cut-here : (mark b : ℕ) (bs : List ℕ) → (b == mark) ≡ true → cut_at mark (b ∷ bs) ≡ ([], Some bs)
cut-here mark b bs h = rw h refl

cut-later : (mark b : ℕ) (bs front : List ℕ) (rest : Option (List ℕ)) → (b == mark) ≡ false → cut_at mark bs ≡ (front, rest) → cut_at mark (b ∷ bs) ≡ (b ∷ front, rest)
cut-later mark b bs front rest h e = rw (h, e) refl

cut-at : (mark : ℕ) (text : List ℕ) → mark_len mark text < length text → cut_at mark text ≡ (take (mark_len mark text) text, Some (drop (mark_len mark text + 1) text))
cut-at mark [] l = absurd (omega arith)
cut-at mark (b ∷ bs) l = elim (cases_Bool (b == mark)) [
  | inl h ↦ rw (mark-here mark b bs h) (cut-here mark b bs h)
  | inr h ↦
      let e = mark-later mark b bs h in
      let k : mark_len mark bs < length bs = omega arith in
      rw (e, take-next, drop-next) (cut-later mark b bs _ _ h (cut-at mark bs k))
]

cut-whole : (mark : ℕ) (text : List ℕ) → length text ≤ mark_len mark text → cut_at mark text ≡ (text, None)
cut-whole mark [] l = refl
cut-whole mark (b ∷ bs) l = elim (cases_Bool (b == mark)) [
  | inl h ↦ let e = mark-here mark b bs h in absurd (omega arith)
  | inr h ↦ let e = mark-later mark b bs h in cut-later mark b bs bs None h (cut-whole mark bs (omega arith))
]

some-same : {a b : ℕ} → Some a ≡ Some b → a ≡ b
some-same e = cc

none-not : {b : ℕ} → ◌≡◌ {A = Option ℕ} None (Some b) → ⊥
none-not e = cc

some-not : {b : ℕ} → ◌≡◌ {A = Option ℕ} (Some b) None → ⊥
some-not e = cc

place-cases : (mark : ℕ) (text : List ℕ) (n : ℕ) → position (λ b. b == mark) text ≡ Some n → (mark_len mark text ≡ n) × (n < length text)
unfolding mark_len
place-cases mark text n e = elim (cases_Bool (nat_lt (mark_len mark text) (length text))) [
  | inl h ↦ let q : mark_len mark text ≡ n = some-same (rw h at e) in (q, grind (arith, nat_tests))
  | inr h ↦ absurd (none-not (rw h at e))
]

place-none : (mark : ℕ) (text : List ℕ) → position (λ b. b == mark) text ≡ None → length text ≤ mark_len mark text
unfolding mark_len
place-none mark text e = elim (cases_Bool (nat_lt (mark_len mark text) (length text))) [
  | inl h ↦ absurd (some-not (rw h at e))
  | inr h ↦ grind (arith, nat_tests)
]

cut_found : (mark : ℕ) (text : List ℕ) (n : ℕ) → position (λ b. b == mark) text ≡ Some n → cut_at mark text ≡ (take n text, Some (take (length text - (n + 1)) (drop (n + 1) text)))
cut_found mark text n e =
    let w = place-cases mark text n e in
    let l : mark_len mark text < length text = omega arith in
    let whole : take (length text - (n + 1)) (drop (n + 1) text) ≡ drop (n + 1) text = take_all (length text - (n + 1)) (drop (n + 1) text) (omega (arith, length-drop (n + 1) text)) in
    rw (whole, ← w.0) (cut-at mark text l)

-- a text with such a byte
pub front_found : (mark : ℕ) (text : List ℕ) (n : ℕ) → position (λ b. b == mark) text ≡ Some n → take n text ≡ (cut_at mark text).0
front_found mark text n e = sym (ap (λ c. c.0) (cut_found mark text n e))

pub rest_found : (mark : ℕ) (text : List ℕ) (n : ℕ) → position (λ b. b == mark) text ≡ Some n → Some (take (length text - (n + 1)) (drop (n + 1) text)) ≡ (cut_at mark text).1
rest_found mark text n e = sym (ap (λ c. c.1) (cut_found mark text n e))

-- a text without one
cut_missing : (mark : ℕ) (text : List ℕ) → position (λ b. b == mark) text ≡ None → cut_at mark text ≡ (text, None)
cut_missing mark text e = cut-whole mark text (place-none mark text e)

pub front_missing : (mark : ℕ) (text : List ℕ) → position (λ b. b == mark) text ≡ None → text ≡ (cut_at mark text).0
front_missing mark text e = sym (ap (λ c. c.0) (cut_missing mark text e))

pub rest_missing : (mark : ℕ) (text : List ℕ) → position (λ b. b == mark) text ≡ None → ◌≡◌ {A = Option (List ℕ)} None (cut_at mark text).1
rest_missing mark text e = sym (ap (λ c. c.1) (cut_missing mark text e))

-- ---- items

-- an item that is taken from what is left stands behind those before it
pub one_item : (items : List (Bor (List ℕ))) (item : Bor (List ℕ)) (more left all : List (List ℕ)) → map (λ i. i.now) items ++ left ≡ all → left ≡ item.now ∷ more → map (λ i. i.now) (items ++ item ∷ []) ++ more ≡ all
one_item [] item more left all h e = sym e ∙ h
one_item (i ∷ items) item more left all h e = ap (λ rest. i.now ∷ rest) (one_item items item more left (map (λ j. j.now) items ++ left) refl e) ∙ h

-- the items of what is left of a list, where anything is
abbrev pub items_left : Option (List ℕ) → List (List ℕ)
items_left None = []
items_left (Some text) = items_of text

-- the pieces of what is left
abbrev pub pieces_left : Option (List ℕ) → List (List ℕ)
pieces_left None = []
pieces_left (Some text) = slice_split (λ b. b == 44) text

pub split_first : (text : List ℕ) → slice_split (λ b. b == 44) text ≡ (cut_at 44 text).0 ∷ pieces_left (cut_at 44 text).1
split_first [] = refl
split_first (b ∷ bs) = elim (cases_Bool (b == 44)) [
  | inl h ↦ rw h refl
  | inr h ↦ rw (h, split_first bs) refl
]

of-pieces : (rest : Option (List ℕ)) → filter is_filled (map trimmed (pieces_left rest)) ≡ items_left rest
of-pieces None = refl
of-pieces (Some text) = refl

items-first : (text : List ℕ) → items_of text ≡ cond (is_filled (trimmed (cut_at 44 text).0)) (trimmed (cut_at 44 text).0 ∷ items_left (cut_at 44 text).1) (items_left (cut_at 44 text).1)
items-first text = ap (λ pieces. filter is_filled (map trimmed pieces)) (split_first text) ∙ rw (of-pieces (cut_at 44 text).1) refl

filled : (bytes : List ℕ) → (length bytes ≡ 0 → ⊥) → is_filled bytes ≡ true
filled [] h = absurd (h refl)
filled (b ∷ bs) h = refl

empty : (bytes : List ℕ) → length bytes ≡ 0 → is_filled bytes ≡ false
empty [] h = refl
empty (b ∷ bs) h = absurd (omega arith)

-- an item that has bytes stands before those behind the comma
pub item_filled : (text front item : List ℕ) (more : Option (List ℕ)) → front ≡ (cut_at 44 text).0 → more ≡ (cut_at 44 text).1 → item ≡ trimmed front → (length item ≡ 0 → ⊥) → items_of text ≡ item ∷ items_left more
item_filled text front item more f m i h = rw (i, f, m) (items-first text ∙ rw (filled (trimmed (cut_at 44 text).0) (rw (i, f) at h)) refl)

-- an empty one is none
pub item_empty : (text front item : List ℕ) (more : Option (List ℕ)) → front ≡ (cut_at 44 text).0 → more ≡ (cut_at 44 text).1 → item ≡ trimmed front → length item ≡ 0 → items_of text ≡ items_left more
item_empty text front item more f m i h = rw m (items-first text ∙ rw (empty (trimmed (cut_at 44 text).0) (rw (i, f) at h)) refl)
