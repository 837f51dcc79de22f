-- The lines of a text: each ends where its byte 10 stands, and in a row they are the text.
-- By induction on the bytes, and by splitting a text behind its first line.
use Rattle.std.proofs.Common.{inl, inr, ◌≡◌, ℕ, zero, suc, ◌<◌, ◌≤◌, Bool, true, false, List, [], ◌∷◌, ◌++◌, length, take, drop, refl, sym, ap, subst, ◌∙◌, arith}
use Rattle.std.specs.Prelude.{if◌then◌else◌, ◌==◌}
use Rattle.std.specs.List.{flat_map, list_all}
use Rattle.std.proofs.lemmas.Bool.{and_parts, both_ways, cases_Bool, eqb-true}
use Rattle.std.proofs.lemmas.Grind.{flat_map-append}
use Rattle.std.proofs.lemmas.List.{append_assoc, length-take, take-append-drop, take_all}
use Rattle.audit_check.specs.Lines.{AgreeOn, AgreeingBegins, AgreeingPastIsSame, BeginningAgrees, before_lines, first_lines, is_ended, lines}

-- none of the bytes is c
abbrev pub lacks : ℕ → List ℕ → Bool
lacks c [] = true
lacks c (b ∷ bytes) = if b == c then false else lacks c bytes

-- none of them ends a line
abbrev pub is_plain : List ℕ → Bool
is_plain bytes = lacks 10 bytes

pub lacks_rest : (c b : ℕ) (bytes : List ℕ) → lacks c (b ∷ bytes) ≡ true → ((b == c) ≡ false) × (lacks c bytes ≡ true)
lacks_rest c b bytes h = by (b == c) h
  where
    by : (t : Bool) → (if t then false else lacks c bytes) ≡ true → (t ≡ false) × (lacks c bytes ≡ true)
    by true h = cc
    by false h = (refl, h)

pub lacks_append : (c : ℕ) (xs ys : List ℕ) → lacks c xs ≡ true → lacks c ys ≡ true → lacks c (xs ++ ys) ≡ true
lacks_append c [] ys h g = g
lacks_append c (x ∷ xs) ys h g = let p = lacks_rest c x xs h in rw p.0 (lacks_append c xs ys p.1 g)

-- ---- A line and what stands behind it

line-ends : (rest : List (List ℕ)) → before_lines 10 rest ≡ (10 ∷ []) ∷ rest
line-ends [] = refl
line-ends (line ∷ rest) = refl

pub line_first : (front text : List ℕ) → is_plain front ≡ true → lines (front ++ 10 ∷ text) ≡ (front ++ 10 ∷ []) ∷ lines text
unfolding lines
line_first [] text h = line-ends (lines text)
line_first (b ∷ front) text h = let p = lacks_rest 10 b front h in rw (line_first front text p.1, p.0) refl

-- ---- All lines in a row

in_a_row : List (List ℕ) → List ℕ
in_a_row rows = flat_map (λ line. line) rows

row-more : (b : ℕ) (rest : List (List ℕ)) → in_a_row (before_lines b rest) ≡ b ∷ in_a_row rest
unfolding in_a_row
row-more b [] = refl
row-more b (line ∷ rest) = by (b == 10)
  where
    by : (t : Bool) → flat_map (λ line. line) (if t then (b ∷ []) ∷ line ∷ rest else (b ∷ line) ∷ rest) ≡ b ∷ (line ++ flat_map (λ line. line) rest)
    by true = refl
    by false = refl

row-is : (text : List ℕ) → in_a_row (lines text) ≡ text
unfolding lines in_a_row
row-is [] = refl
row-is (b ∷ text) = row-more b (lines text) ∙ ap (λ bytes. b ∷ bytes) (row-is text)

-- texts with the same lines are one
pub same_lines : (text other : List ℕ) → lines text ≡ lines other → text ≡ other
same_lines text other h = sym (row-is text) ∙ (ap in_a_row h ∙ row-is other)

-- texts that agree on more lines than one of them has are one
pub agree_past : AgreeingPastIsSame
agree_past n text other l h =
    let whole : take n (lines text) ≡ lines text = take_all n (lines text) (omega arith) in
    let size : length (take n (lines other)) ≡ length (lines text) = ap length (sym h ∙ whole) in
    let few : length (lines other) < n = omega (arith, length-take n (lines other)) in
    same_lines text other (sym whole ∙ (h ∙ take_all n (lines other) (omega arith)))

-- ---- Agreeing is beginning

pub agree_begins : AgreeingBegins
unfolding in_a_row
agree_begins n text other h =
    let all : in_a_row (take n (lines other) ++ drop n (lines other)) ≡ other = ap in_a_row (take-append-drop n (lines other)) ∙ row-is other in
    (in_a_row (drop n (lines other)), sym all ∙ (flat_map-append (λ line. line) (take n (lines other)) (drop n (lines other)) ∙ ap (λ front. in_a_row front ++ in_a_row (drop n (lines other))) (sym h)))

-- a text is one line without its end, or begins with a line
data Split : List ℕ → Type 0 where
  unended : (text : List ℕ) → is_plain text ≡ true → Split text
  ended : (front text : List ℕ) → is_plain front ≡ true → Split (front ++ 10 ∷ text)

split : (text : List ℕ) → Split text
split [] = unended [] refl
split (b ∷ text) = elim (cases_Bool (b == 10)) [
  | inl y ↦ subst (λ c. Split (c ∷ text)) (sym (eqb-true b 10 y)) (ended [] text refl)
  | inr n ↦ more b n (split text)
]
  where
    more : {text : List ℕ} (b : ℕ) → (b == 10) ≡ false → Split text → Split (b ∷ text)
    more b n (unended text h) = unended (b ∷ text) (rw n h)
    more b n (ended front text h) = ended (b ∷ front) text (rw n h)

plain-line : (b : ℕ) (text : List ℕ) → is_plain (b ∷ text) ≡ true → lines (b ∷ text) ≡ (b ∷ text) ∷ []
unfolding lines
plain-line b [] h = refl
plain-line b (c ∷ text) h = let p = lacks_rest 10 b (c ∷ text) h in rw (plain-line c text p.1, p.0) refl

plain-unended : (text : List ℕ) → is_plain text ≡ true → is_ended text ≡ false
plain-unended [] h = refl
plain-unended (b ∷ []) h = (lacks_rest 10 b [] h).0
plain-unended (b ∷ c ∷ text) h = plain-unended (c ∷ text) (lacks_rest 10 b (c ∷ text) h).1

ended-more : (front text : List ℕ) (n : ℕ) → is_plain front ≡ true → lines (front ++ 10 ∷ text) ≡ (front ++ 10 ∷ []) ∷ lines text
    → first_lines (suc n) (front ++ 10 ∷ text) ≡ (front ++ 10 ∷ []) ++ first_lines n text
ended-more front text n h q = rw q refl

begins-by : (n : ℕ) (text rest : List ℕ) → Split text → n ≤ length (lines text) → list_all is_ended (take n (lines text)) ≡ true → AgreeOn n text (first_lines n text ++ rest)
begins-by zero text rest s l h = refl
begins-by (suc n) text rest (unended [] p) l h = unfold lines in absurd (omega arith)
begins-by (suc n) text rest (unended (b ∷ bytes) p) l h =
    let one : list_all is_ended ((b ∷ bytes) ∷ take n []) ≡ true = ap (λ rows. list_all is_ended (take (suc n) rows)) (sym (plain-line b bytes p)) ∙ h in
    let e = and_parts (is_ended (b ∷ bytes)) (list_all is_ended (take n [])) one in
    absurd (both_ways (is_ended (b ∷ bytes)) (plain-unended (b ∷ bytes) p) e.0)
begins-by (suc n) text rest (ended front more p) l h =
    let line = front ++ 10 ∷ [] in
    let first = line_first front more p in
    let tail : list_all is_ended (line ∷ take n (lines more)) ≡ true = ap (λ text. list_all is_ended (take (suc n) text)) (sym first) ∙ h in
    let e = and_parts (is_ended line) (list_all is_ended (take n (lines more))) tail in
    let size : length (lines (front ++ 10 ∷ more)) ≡ suc (length (lines more)) = ap length first in
    let ih = begins-by n more rest (split more) (omega arith) e.1 in
    let whole : first_lines (suc n) (front ++ 10 ∷ more) ++ rest ≡ front ++ 10 ∷ (first_lines n more ++ rest) =
    ap (λ text. text ++ rest) (ended-more front more n p first) ∙ (ap (λ text. text ++ rest) (append_assoc front (10 ∷ []) (first_lines n more)) ∙ append_assoc front (10 ∷ first_lines n more) rest) in
    ap (take (suc n)) first ∙ (ap (λ text. line ∷ text) ih ∙ sym (ap (take (suc n)) (ap lines whole ∙ line_first front (first_lines n more ++ rest) p)))

pub begins_agree : BeginningAgrees
begins_agree n text rest l h = begins-by n text rest (split text) l h
