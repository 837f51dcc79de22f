-- A piece that is wanted has at least one byte.
-- By induction on the plan and on the answers: each part of a plan asks for some bytes, and a text goes on with what is left.
use Rattle.std.proofs.Common.{inl, inr, ◌≡◌, ℕ, ◌-◌, ◌<◌, ◌≤◌, Bool, true, false, List, [], ◌∷◌, length, refl, ap, sym, Option, Some, None, arith, lit<}
use Rattle.std.specs.Prelude.{Result, Ok, Err, ℤ, nat_le, nat_lt, ◌==◌}
use Rattle.std.proofs.lemmas.Bool.{cases_Bool}
use Rattle.std.proofs.lemmas.Bool.Decides.{nat_tests}
use Rattle.hist_model.specs.Copies.{Reading, Asks, Whole, Fails, Progress, Wants, Complete, Faulty, further, piece, has_zero, begun_with, text_goes_on, text_piece, read_text, value_piece, read_value, read_sized, read_part, progress_with, progress_after, progress, wanted, parts_for, plan, plan_by_row, option_at, arg}
use Rattle.hist_model.specs.declared.copy.Part.{Part}
use Rattle.hist_model.specs.declared.copy.Part.TheVariants.{Text, Value}
use Rattle.call_table.specs.declared.kinds.CallText.{CallText}
use Rattle.call_table.specs.declared.kinds.CallText.TheVariants.{Path, Source, Fstype, Data, Name, Program}
use Rattle.call_table.specs.Table.{Row, row_of}
use Rattle.call_table.specs.declared.kinds.CallText.TheVariants as call_text

abbrev IsAsking : Reading → Type 0
IsAsking (Asks a n) = 1 ≤ n
IsAsking _ = Unit {0}

abbrev pub IsWanting : Progress → Type 0
IsWanting (Wants a n) = 1 ≤ n
IsWanting _ = Unit {0}

abbrev IsSound : Part → Type 0
IsSound (Text a l f) = 0 < l
IsSound (Value a n) = Unit {0}

abbrev AllSound : List Part → Type 0
AllSound [] = Unit {0}
AllSound (p ∷ ps) = IsSound p × AllSound ps

piece-some : (a l : ℕ) → 0 < l → 1 ≤ piece a l
piece-some a l h = omega arith

begun-asks : (bytes : List ℕ) (r : Reading) → IsAsking r → IsAsking (begun_with bytes r)
begun-asks bytes (Asks a n) h = h
begun-asks bytes (Whole text later) h = tt
begun-asks bytes (Fails e) h = tt

less : (l k : ℕ) → nat_le l k ≡ false → 0 < l - k
less l k h = grind (arith, nat_tests)

positive : (n : ℕ) → (n == 0) ≡ false → 0 < n
positive n h = grind (arith, nat_tests)

text-by-left : (b : Bool) (f a l : ℕ) (bytes : List ℕ) (rest : ℕ → ℕ → Reading) → nat_le l (length bytes) ≡ b → ((a l : ℕ) → 0 < l → IsAsking (rest a l)) → IsAsking (text_goes_on b f bytes rest a l)
text-by-left true f a l bytes rest q h = tt
text-by-left false f a l bytes rest q h = begun-asks bytes (rest (further a (length bytes)) (l - length bytes)) (h (further a (length bytes)) (l - length bytes) (less l (length bytes) q))

text-by-zero : (b : Bool) (f a l : ℕ) (bytes : List ℕ) (later : List (Result (List ℕ) ℕ)) (rest : ℕ → ℕ → Reading) → ((a l : ℕ) → 0 < l → IsAsking (rest a l)) → IsAsking (text_piece b f bytes later rest a l)
text-by-zero true f a l bytes later rest h = tt
text-by-zero false f a l bytes later rest h = text-by-left (nat_le l (length bytes)) f a l bytes rest refl h

text-asks : (f : ℕ) (answers : List (Result (List ℕ) ℕ)) (a l : ℕ) → 0 < l → IsAsking (read_text f answers a l)
unfolding read_text
text-asks f [] a l h = piece-some a l h
text-asks f (Ok bytes ∷ later) a l h = text-by-zero (has_zero bytes) f a l bytes later (read_text f later) (text-asks f later)
text-asks f (Err e ∷ later) a l h = tt

value-by-left : (b : Bool) (a l : ℕ) (bytes : List ℕ) (later : List (Result (List ℕ) ℕ)) (rest : ℕ → ℕ → Reading) → nat_le l (length bytes) ≡ b → ((a l : ℕ) → 0 < l → IsAsking (rest a l)) → IsAsking (value_piece b bytes later rest a l)
value-by-left true a l bytes later rest q h = tt
value-by-left false a l bytes later rest q h = begun-asks bytes (rest (further a (length bytes)) (l - length bytes)) (h (further a (length bytes)) (l - length bytes) (less l (length bytes) q))

value-asks : (answers : List (Result (List ℕ) ℕ)) (a l : ℕ) → 0 < l → IsAsking (read_value answers a l)
unfolding read_value
value-asks [] a l h = piece-some a l h
value-asks (Ok bytes ∷ later) a l h = value-by-left (nat_le l (length bytes)) a l bytes later (read_value later) refl (value-asks later)
value-asks (Err e ∷ later) a l h = tt

sized-asks : (answers : List (Result (List ℕ) ℕ)) (a n : ℕ) (big : Bool) (empty : Bool) → (n == 0) ≡ empty → IsAsking (read_sized big empty answers a n)
sized-asks answers a n true empty q = tt
sized-asks answers a n false true q = tt
sized-asks answers a n false false q = value-asks answers a n (positive n q)

part-asks : (part : Part) (answers : List (Result (List ℕ) ℕ)) → IsSound part → IsAsking (read_part part answers)
part-asks (Text a l f) answers h = text-asks f answers a l h
part-asks (Value a n) answers h = sized-asks answers a n (nat_lt 4096 n) (n == 0) refl

text-before : (text : List ℕ) (p : Progress) → IsWanting p → IsWanting (progress_with text p)
text-before text (Wants a n) h = h
text-before text (Complete texts) h = tt
text-before text (Faulty e) h = tt

after-reading : (r : Reading) (rest : List (Result (List ℕ) ℕ) → Progress) → IsAsking r → ((later : List (Result (List ℕ) ℕ)) → IsWanting (rest later)) → IsWanting (progress_after r rest)
after-reading (Asks a n) rest h g = h
after-reading (Whole text later) rest h g = text-before text (rest later) (g later)
after-reading (Fails e) rest h g = tt

wants-some : (parts : List Part) (answers : List (Result (List ℕ) ℕ)) → AllSound parts → IsWanting (progress parts answers)
unfolding progress
wants-some [] answers h = tt
wants-some (part ∷ parts) answers h = after-reading (read_part part answers) (progress parts) (part-asks part answers h.0) (λ later. wants-some parts later h.1)

option-sound : (a : ℕ) → IsSound (option_at a)
option-sound a = elim (cases_Bool (a == 0)) [ inl h ↦ rw h tt | inr h ↦ rw h (lit< tt) ]

parts-sound : (texts : List CallText) (args : List ℕ) → AllSound (parts_for texts args)
parts-sound [] args = tt
parts-sound (Path r ∷ ts) args = (lit< tt, parts-sound ts args)
parts-sound (Source r ∷ ts) args = (option-sound (arg args r), parts-sound ts args)
parts-sound (Fstype r ∷ ts) args = (option-sound (arg args r), parts-sound ts args)
parts-sound (Data r ∷ ts) args = (option-sound (arg args r), parts-sound ts args)
parts-sound (Name r ∷ ts) args = (lit< tt, parts-sound ts args)
parts-sound (call_text.Value r size ∷ ts) args = (tt, parts-sound ts args)
parts-sound (Program ∷ ts) args = parts-sound ts args

plan-sound : (row : Option Row) (args : List ℕ) → AllSound (plan_by_row row args)
plan-sound None args = tt
plan-sound (Some row) args = parts-sound row.texts args

-- no piece of a call's arguments is empty
pub piece_wanted : (nr : ℤ) (args : List ℕ) (answers : List (Result (List ℕ) ℕ)) → IsWanting (progress (plan nr args) answers)
piece_wanted nr args answers = wants-some (plan nr args) answers (plan-sound (row_of nr) args)

-- the piece that is wanted, where none is empty
pub wanted_some : (p : Progress) (q : ℕ × ℕ) → IsWanting p → wanted p ≡ Some q → 1 ≤ q.1
wanted_some (Wants a n) q h e = let m : n ≡ q.1 = ap (λ (o : Option (ℕ × ℕ)). second o) e in rw (sym m) h
  where
    second : Option (ℕ × ℕ) → ℕ
    second (Some q) = q.1
    second None = 0
wanted_some (Complete texts) q h e = cc
wanted_some (Faulty x) q h e = cc
