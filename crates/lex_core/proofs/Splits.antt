-- Lemmas on where lines end.
-- By induction on the bytes with cases on whether the first one is 10, and by unfolding `split` and `numbered`.
use Rattle.std.proofs.Common.{◌≡◌, ℕ, suc, ◌+◌, ◌-◌, ◌<◌, ◌≤◌, List, [], ◌∷◌, ◌++◌, length, take, drop, true, false, Option, Some, None, refl, inl, inr, ap, sym, subst, Err, ◌∙◌, arith, take_all, length-drop}
use Rattle.std.specs.Prelude.{not, nat_lt, ◌==◌, position}
use Rattle.std.specs.List.{prefix_len}
use Rattle.std.proofs.lemmas.Bool.{cases_Bool}
use Rattle.std.proofs.lemmas.Bool.Decides.{nat_tests}
use Rattle.lex_core.specs.Lines.{split, without_return, numbered, lines_after, before_lines, is_skipped, unless_skipped, Numbered}
use Rattle.lex_core.specs.Lexical.{tokens}
use Rattle.lex_core.specs.Steps.{Refuses}
use Rattle.lex_core.specs.Given.{refused_at, RefusesFirst, FirstReads}
use Rattle.lex_core.specs.declared.reason.Reason.{Reason}
use Rattle.sys_abi.specs.declared.memory.OrNoMemory.{OrNoMemory}
use Rattle.sys_abi.specs.declared.memory.OrNoMemory.TheVariants.{Refused, NoMemory}

-- the last byte of a line
pub return_dropped : (front : List ℕ) → without_return (front ++ 13 ∷ []) ≡ front
unfolding without_return
return_dropped [] = refl
return_dropped (b ∷ []) = refl
return_dropped (b ∷ c ∷ bs) = ap (λ rest. b ∷ rest) (return_dropped (c ∷ bs))

pub return_missing : (front : List ℕ) (last : ℕ) → (last == 13) ≡ false → without_return (front ++ last ∷ []) ≡ front ++ last ∷ []
unfolding without_return
return_missing [] last h = rw h refl
return_missing (b ∷ []) last h = rw h refl
return_missing (b ∷ c ∷ bs) last h = ap (λ rest. b ∷ rest) (return_missing (c ∷ bs) last h)

pub return_empty : (line : List ℕ) → length line ≡ 0 → without_return line ≡ line
unfolding without_return
return_empty [] h = refl
return_empty (b ∷ bs) h = absurd (omega arith)

-- ---- the first line of a text

first-end : (b : ℕ) (bs : List ℕ) → (b == 10) ≡ true → split (b ∷ bs) ≡ [] ∷ split bs
unfolding split
first-end b bs h = rw h refl

first-byte : (b : ℕ) (bs line : List ℕ) (lines : List (List ℕ)) → (b == 10) ≡ false → split bs ≡ line ∷ lines → split (b ∷ bs) ≡ (b ∷ line) ∷ lines
unfolding split
first-byte b bs line lines h e = rw (h, e) refl

split-end : split [] ≡ []
unfolding split
split-end = refl

last-byte : (b : ℕ) → (b == 10) ≡ false → split (b ∷ []) ≡ (b ∷ []) ∷ []
unfolding split
last-byte b h = rw h refl

take-next : (n b : ℕ) (bytes : List ℕ) → take (1 + n) (b ∷ bytes) ≡ b ∷ take n bytes
take-next n b bytes = let e : 1 + n ≡ suc n = omega arith in rw e refl

drop-next : (n b : ℕ) (bytes : List ℕ) → drop (1 + n + 1) (b ∷ bytes) ≡ drop (n + 1) bytes
drop-next n b bytes = let e : 1 + n + 1 ≡ suc (n + 1) = omega arith in rw e refl

-- how many bytes stand before the first line end
end_len : List ℕ → ℕ
end_len text = prefix_len (λ b. not (b == 10)) text

end-here : (b : ℕ) (bs : List ℕ) → (b == 10) ≡ true → end_len (b ∷ bs) ≡ 0
unfolding end_len
end-here b bs h = rw h refl

end-later : (b : ℕ) (bs : List ℕ) → (b == 10) ≡ false → end_len (b ∷ bs) ≡ 1 + end_len bs
unfolding end_len
end-later b bs h = rw h refl

split-at : (text : List ℕ) → end_len text < length text → split text ≡ take (end_len text) text ∷ split (drop (end_len text + 1) text)
split-at [] l = absurd (omega arith)
split-at (b ∷ bs) l = elim (cases_Bool (b == 10)) [
  | inl h ↦ rw (end-here b bs h) (first-end b bs h)
  | inr h ↦
      let e = end-later b bs h in
      let k : end_len bs < length bs = omega arith in
      rw (e, take-next, drop-next) (first-byte b bs _ _ h (split-at bs k))
]

split-whole : (b : ℕ) (bs : List ℕ) → length (b ∷ bs) ≤ end_len (b ∷ bs) → split (b ∷ bs) ≡ (b ∷ bs) ∷ []
split-whole b [] l = elim (cases_Bool (b == 10)) [
  | inl h ↦ let e = end-here b [] h in absurd (omega arith)
  | inr h ↦ last-byte b h
]
split-whole b (c ∷ cs) l = elim (cases_Bool (b == 10)) [
  | inl h ↦ let e = end-here b (c ∷ cs) h in absurd (omega arith)
  | inr h ↦ let e = end-later b (c ∷ cs) h in first-byte b (c ∷ cs) (c ∷ cs) [] h (split-whole c cs (omega arith))
]

some-same : {a b : ℕ} → Some a ≡ Some b → a ≡ b
some-same e = cc

none-not : {b : ℕ} → ◌≡◌ {A = Option ℕ} None (Some b) → ⊥
none-not e = cc

some-not : {b : ℕ} → ◌≡◌ {A = Option ℕ} (Some b) None → ⊥
some-not e = cc

place-cases : (text : List ℕ) (n : ℕ) → position (λ b. b == 10) text ≡ Some n → (end_len text ≡ n) × (n < length text)
unfolding end_len
place-cases text n e = elim (cases_Bool (nat_lt (end_len text) (length text))) [
  | inl h ↦ let q : end_len text ≡ n = some-same (rw h at e) in (q, grind (arith, nat_tests))
  | inr h ↦ absurd (none-not (rw h at e))
]

place-none : (text : List ℕ) → position (λ b. b == 10) text ≡ None → length text ≤ end_len text
unfolding end_len
place-none text e = elim (cases_Bool (nat_lt (end_len text) (length text))) [
  | inl h ↦ absurd (some-not (rw h at e))
  | inr h ↦ grind (arith, nat_tests)
]

-- a text with a line end
pub split_place : (text : List ℕ) (n : ℕ) → position (λ b. b == 10) text ≡ Some n → split text ≡ take n text ∷ split (take (length text - (n + 1)) (drop (n + 1) text))
split_place text n e =
    let w = place-cases text n e in
    let l : end_len text < length text = omega arith in
    split-at text l ∙ ap (λ k. take k text ∷ split (drop (k + 1) text)) w.0 ∙ ap (λ rest. take n text ∷ split rest) (sym (take_all _ _ (omega (arith, length-drop (n + 1) text))))

pub place_within : (text : List ℕ) (n : ℕ) → position (λ b. b == 10) text ≡ Some n → n < length text
place_within text n e = (place-cases text n e).1

-- a text without one
pub split_last : (text rest : List ℕ) → 0 < length text → position (λ b. b == 10) text ≡ None → rest ≡ [] → split text ≡ text ∷ split rest
split_last [] rest l e q = absurd (omega arith)
split_last (b ∷ bs) rest l e q = rw (q, split-end) (split-whole b bs (place-none (b ∷ bs) e))

numbered-next : (n : ℕ) (text line rest : List ℕ) → split text ≡ line ∷ split rest → lines_after n text ≡ before_lines (n + 1) (without_return line) (lines_after (n + 1) rest)
unfolding numbered
numbered-next n text line rest e = rw e refl

-- a line that isn't skipped
pub line_kept : (n : ℕ) (text whole line rest : List ℕ) → split text ≡ whole ∷ split rest → line ≡ without_return whole → is_skipped line ≡ false
    → lines_after n text ≡ record { number = n + 1; bytes = line } ∷ lines_after (n + 1) rest
line_kept n text whole line rest e q h =
    numbered-next n text whole rest e
    ∙ ap (λ l. before_lines (n + 1) l (lines_after (n + 1) rest)) (sym q)
    ∙ ap (λ b. unless_skipped b (record { number = n + 1; bytes = line }) (lines_after (n + 1) rest)) h

-- a line that is skipped counts too
pub line_passed : (n : ℕ) (text whole line rest : List ℕ) → split text ≡ whole ∷ split rest → line ≡ without_return whole → is_skipped line ≡ true
    → lines_after n text ≡ lines_after (n + 1) rest
line_passed n text whole line rest e q h =
    numbered-next n text whole rest e
    ∙ ap (λ l. before_lines (n + 1) l (lines_after (n + 1) rest)) (sym q)
    ∙ ap (λ b. unless_skipped b (record { number = n + 1; bytes = line }) (lines_after (n + 1) rest)) h

pub numbered_end : (n : ℕ) (text : List ℕ) → length text ≡ 0 → lines_after n text ≡ []
unfolding numbered split
numbered_end n [] e = refl
numbered_end n (b ∷ bs) e = absurd (omega arith)

-- the first line has a fault
pub first_refused : (old more : List Numbered) (n : ℕ) (line : List ℕ) (cause : OrNoMemory Reason) → old ≡ record { number = n; bytes = line } ∷ more → Refuses cause (tokens line) → RefusesFirst old (refused_at n cause)
first_refused old more n line NoMemory e h = tt
first_refused old more n line (Refused reason) e h =
    let P : List Numbered → Type 0 = λ lines. FirstReads lines n (Err reason) in
    subst P (sym e) (refl, h)
