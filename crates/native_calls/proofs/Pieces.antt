-- How many pieces a copy is made of: each takes at least one byte, so there are fewer than its texts have bytes.
-- By induction on the answers and on the parts.
use Rattle.std.proofs.Common.{inl, inr, ◌≡◌, ℕ, ◌+◌, ◌-◌, ◌<◌, ◌≤◌, Bool, true, false, List, [], ◌∷◌, length, refl, None, arith}
use Rattle.std.specs.Prelude.{Result, Ok, Err, ℤ, pos, negsuc, nat_le, nat_lt, ◌==◌, if◌then◌else◌, ⊤}
use Rattle.std.proofs.lemmas.Bool.{cases_Bool}
use Rattle.std.proofs.lemmas.Bool.Decides.{nat_tests}
use Rattle.hist_model.specs.Copies.{Reading, Asks, Whole, Fails, Progress, Wants, Complete, Faulty, further, has_zero, begun_with, text_goes_on, text_piece, read_text, value_piece, read_value, read_sized, read_part, progress_with, progress_after, progress, wanted, parts_for, plan, option_at, arg}
use Rattle.hist_model.specs.declared.copy.Part.{Part}
use Rattle.hist_model.specs.declared.copy.Part.TheVariants.{Text, Value}
use Rattle.arg_capture.specs.Moments.{IsPlaced, ArePlaced}
use Rattle.native_calls.specs.Copied.{AllGive}
use Rattle.call_table.proofs.AtRow.{at_row}
use Rattle.call_table.specs.Table.{mknod_row, mknodat_row, mount_row, openat_row, setxattr_row, table}
use Rattle.call_table.specs.declared.kinds.CallText.{CallText}
use Rattle.call_table.specs.declared.kinds.CallText.TheVariants.{Path, Source, Fstype, Data, Name, Program}
use Rattle.call_table.specs.declared.kinds.CallText.TheVariants as call_text

-- a reading of at most so many bytes asks after fewer answers, and is whole after as many
abbrev IsWithin : ℕ → ℕ → Reading → Type 0
IsWithin left count (Asks a n) = count < left
IsWithin left count (Whole text later) = (count ≤ left + length later) × AllGive later
IsWithin left count (Fails e) = ⊤

begun-within : (left count k : ℕ) (bytes : List ℕ) (r : Reading) → 1 ≤ k → k < left → IsWithin (left - k) count r → IsWithin left (count + 1) (begun_with bytes r)
begun-within left count k bytes (Asks a n) l m h = omega arith
begun-within left count k bytes (Whole text later) l m h = (omega (arith, h.0), h.1)
begun-within left count k bytes (Fails e) l m h = tt

text-by-left : (b : Bool) (f a left count : ℕ) (bytes : List ℕ) (rest : ℕ → ℕ → Reading) → nat_le left (length bytes) ≡ b → 1 ≤ length bytes
    → ((a left : ℕ) → 0 < left → IsWithin left count (rest a left)) → IsWithin left (count + 1) (text_goes_on b f bytes rest a left)
text-by-left true f a left count bytes rest q l h = tt
text-by-left false f a left count bytes rest q l h =
    let m : length bytes < left = grind (arith, nat_tests) in
    begun-within left count (length bytes) bytes (rest (further a (length bytes)) (left - length bytes)) l m (h (further a (length bytes)) (left - length bytes) (omega arith))

text-by-zero : (b : Bool) (f a left : ℕ) (bytes : List ℕ) (later : List (Result (List ℕ) ℕ)) (rest : ℕ → ℕ → Reading) → 0 < left → 1 ≤ length bytes → AllGive later
    → ((a left : ℕ) → 0 < left → IsWithin left (length later) (rest a left)) → IsWithin left (length later + 1) (text_piece b f bytes later rest a left)
text-by-zero true f a left bytes later rest p l g h = (omega arith, g)
text-by-zero false f a left bytes later rest p l g h = text-by-left (nat_le left (length bytes)) f a left (length later) bytes rest refl l h

text-within : (f : ℕ) (answers : List (Result (List ℕ) ℕ)) → AllGive answers → (a left : ℕ) → 0 < left → IsWithin left (length answers) (read_text f answers a left)
unfolding read_text
text-within f [] g a left h = omega arith
text-within f (Ok bytes ∷ later) g a left h =
    let i = text-by-zero (has_zero bytes) f a left bytes later (read_text f later) h g.0 g.1 (text-within f later g.1) in
    let e : length later + 1 ≡ length (Ok bytes ∷ later) = omega arith in
    rw e at i
text-within f (Err x ∷ later) g a left h = tt

value-by-left : (b : Bool) (a left : ℕ) (bytes : List ℕ) (later : List (Result (List ℕ) ℕ)) (rest : ℕ → ℕ → Reading) → nat_le left (length bytes) ≡ b → 0 < left → 1 ≤ length bytes → AllGive later
    → ((a left : ℕ) → 0 < left → IsWithin left (length later) (rest a left)) → IsWithin left (length later + 1) (value_piece b bytes later rest a left)
value-by-left true a left bytes later rest q p l g h = (omega arith, g)
value-by-left false a left bytes later rest q p l g h =
    let m : length bytes < left = grind (arith, nat_tests) in
    begun-within left (length later) (length bytes) bytes (rest (further a (length bytes)) (left - length bytes)) l m (h (further a (length bytes)) (left - length bytes) (omega arith))

value-within : (answers : List (Result (List ℕ) ℕ)) → AllGive answers → (a left : ℕ) → 0 < left → IsWithin left (length answers) (read_value answers a left)
unfolding read_value
value-within [] g a left h = omega arith
value-within (Ok bytes ∷ later) g a left h =
    let i = value-by-left (nat_le left (length bytes)) a left bytes later (read_value later) refl h g.0 g.1 (value-within later g.1) in
    let e : length later + 1 ≡ length (Ok bytes ∷ later) = omega arith in
    rw e at i
value-within (Err x ∷ later) g a left h = tt

-- the most bytes that are read for a part
abbrev most_of : Part → ℕ
most_of (Text a left f) = left
most_of (Value a size) = if nat_lt 4096 size then 0 else size

abbrev most_of_all : List Part → ℕ
most_of_all [] = 0
most_of_all (part ∷ parts) = most_of part + most_of_all parts

positive : (n : ℕ) → (n == 0) ≡ false → 0 < n
positive n h = grind (arith, nat_tests)

sized-within : (answers : List (Result (List ℕ) ℕ)) (a size : ℕ) (big empty : Bool) → (size == 0) ≡ empty → AllGive answers → IsWithin (if big then 0 else size) (length answers) (read_sized big empty answers a size)
sized-within answers a size true empty q g = tt
sized-within answers a size false true q g = (omega arith, g)
sized-within answers a size false false q g = value-within answers g a size (positive size q)

part-within : (part : Part) (answers : List (Result (List ℕ) ℕ)) → IsPlaced part → AllGive answers → IsWithin (most_of part) (length answers) (read_part part answers)
part-within (Text a left f) answers p g = text-within f answers g a left p.1
part-within (Value a size) answers p g = sized-within answers a size (nat_lt 4096 size) (size == 0) refl g

-- a copy wants a piece after fewer answers than so many
abbrev IsEarly : ℕ → ℕ → Progress → Type 0
IsEarly most count (Wants a n) = count < most
IsEarly most count _ = ⊤

text-early : (most more count later : ℕ) (text : List ℕ) (p : Progress) → count ≤ most + later → IsEarly more later p → IsEarly (most + more) count (progress_with text p)
text-early most more count later text (Wants a n) l h = omega arith
text-early most more count later text (Complete texts) l h = tt
text-early most more count later text (Faulty e) l h = tt

after-early : (most more count : ℕ) (r : Reading) (rest : List (Result (List ℕ) ℕ) → Progress) → IsWithin most count r
    → ((later : List (Result (List ℕ) ℕ)) → AllGive later → IsEarly more (length later) (rest later)) → IsEarly (most + more) count (progress_after r rest)
after-early most more count (Asks a n) rest h f = omega arith
after-early most more count (Whole text later) rest h f = text-early most more count (length later) text (rest later) h.0 (f later h.1)
after-early most more count (Fails e) rest h f = tt

copy-early : (parts : List Part) (answers : List (Result (List ℕ) ℕ)) → ArePlaced parts → AllGive answers → IsEarly (most_of_all parts) (length answers) (progress parts answers)
unfolding progress
copy-early [] answers p g = tt
copy-early (part ∷ parts) answers p g =
    after-early (most_of part) (most_of_all parts) (length answers) (read_part part answers) (progress parts) (part-within part answers p.0 g) (λ later i. copy-early parts later p.1 i)

option-most : (a : ℕ) → most_of (option_at a) ≤ 4096
option-most a = elim (cases_Bool (a == 0)) [ inl h ↦ rw h (omega arith) | inr h ↦ rw h (omega arith) ]

value-most : (a size : ℕ) → most_of (Value a size) ≤ 4096
value-most a size = elim (cases_Bool (nat_lt 4096 size)) [ inl h ↦ rw h (omega arith) | inr h ↦ rw h (grind (arith, nat_tests)) ]

-- the most bytes that are read for a text of a call
abbrev reads : CallText → ℕ
reads Program = 0
reads _ = 4096

abbrev reads_of : List CallText → ℕ
reads_of [] = 0
reads_of (t ∷ ts) = reads t + reads_of ts

parts-most : (texts : List CallText) (args : List ℕ) → most_of_all (parts_for texts args) ≤ reads_of texts
parts-most [] args = omega arith
parts-most (Path r ∷ ts) args = omega (arith, parts-most ts args)
parts-most (Source r ∷ ts) args = omega (arith, option-most (arg args r), parts-most ts args)
parts-most (Fstype r ∷ ts) args = omega (arith, option-most (arg args r), parts-most ts args)
parts-most (Data r ∷ ts) args = omega (arith, option-most (arg args r), parts-most ts args)
parts-most (Name r ∷ ts) args = omega (arith, parts-most ts args)
parts-most (call_text.Value r size ∷ ts) args = omega (arith, value-most (arg args r) (arg args size), parts-most ts args)
parts-most (Program ∷ ts) args = omega (arith, parts-most ts args)

row-most : (texts : List CallText) (args : List ℕ) → nat_le (reads_of texts) 16384 ≡ true → most_of_all (parts_for texts args) ≤ 16384
row-most texts args h = let m = parts-most texts args in grind (arith, nat_tests)

plan-most : (nr : ℤ) (args : List ℕ) → most_of_all (plan nr args) ≤ 16384
plan-most (pos nr) args = at_row (λ m. most_of_all (plan (pos m) args) ≤ 16384) table nr (
  omega arith,
  (
    omega arith,
    (
      omega arith,
      (
        row-most mknod_row.texts args refl,
        (
          row-most mount_row.texts args refl,
          (row-most setxattr_row.texts args refl, (row-most openat_row.texts args refl, (row-most mknodat_row.texts args refl, tt))),
        ),
      ),
    ),
  ),
)
    (λ h. rw h (omega arith))
plan-most (negsuc nr) args = omega arith

early-ends : (most count : ℕ) (p : Progress) → IsEarly most count p → most ≤ count → wanted p ≡ None
early-ends most count (Wants a n) h l = absurd (omega arith)
early-ends most count (Complete texts) h l = refl
early-ends most count (Faulty e) h l = refl

-- after so many answers no piece is wanted
pub copy-ends : (nr : ℤ) (args : List ℕ) (answers : List (Result (List ℕ) ℕ)) → ArePlaced (plan nr args) → AllGive answers → 16384 ≤ length answers → wanted (progress (plan nr args) answers) ≡ None
copy-ends nr args answers p g l =
    let m = plan-most nr args in
    early-ends (most_of_all (plan nr args)) (length answers) (progress (plan nr args) answers) (copy-early (plan nr args) answers p g) (omega arith)
