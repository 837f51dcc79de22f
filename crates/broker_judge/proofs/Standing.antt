-- Whether bytes stood so at some moment: noted from the oldest read on, byte by byte.
-- By induction over the reads, and over the bytes; one more read is laid over what those before it told.
use Rattle.std.proofs.Common.{◌≡◌, ◌≢◌, ℕ, zero, suc, ◌+◌, ◌^◌, ◌<◌, ◌≤◌, Bool, true, false, List, [], ◌∷◌, ◌++◌, length, get_or, refl, ap, ◌∙◌, sym, arith}
use Rattle.std.specs.Prelude.{◌||◌, ◌==◌, nat_le, reverse}
use Rattle.std.proofs.Math.ListN.{set}
use Rattle.std.proofs.lemmas.Bool.{eqb-false, eqb-true}
use Rattle.std.proofs.lemmas.List.{get_or-set_other, get_or-set_same, reverse-append}
use Rattle.std.proofs.lemmas.List.Elements.{filter-append}
use Rattle.hist_model.specs.Copies.{further}
use Rattle.broker_verdict.specs.SeatCopies.{Byte, is_byte, newest_at, or_seen, Seen, stand_now, stood, Unmapped, Unread, worth_least}
use Rattle.hist_model.specs.declared.copy.Part.TheVariants.{Text, Value}
use Rattle.broker_verdict.specs.Seats.{rank, SeatRead}
use Rattle.broker_judge.specs.Copied.{told_so, worth_so}
use Rattle.broker_judge.specs.Reads.{worth_of}
use Rattle.broker_judge.specs.Stood.{given, stood_from, wrong_in}
use Rattle.broker_judge.specs.declared.reads.Worth.{Worth}
use Rattle.broker_judge.proofs.Known.{further_later, further_none}

-- ---- one read more

worth_more : (least : Worth) (before : List SeatRead) (r : SeatRead) → worth_so least (before ++ r ∷ []) ≡ worth_least (worth_of least) (r ∷ reverse before)
worth_more least before r = ap (worth_least (worth_of least)) (reverse-append before (r ∷ []))

-- each byte that is known is that of the newest of the reads
abbrev pub AreGiven : List SeatRead → ℕ → List ℕ → List Bool → Type 0
AreGiven all x wanted right = (i : ℕ) → i < length wanted → get_or right i false ≡ is_byte (newest_at all (further x i)) (get_or wanted i 0)

given_over : (t s : Seen) (b : ℕ) → given t b (is_byte s b) ≡ is_byte (or_seen t s) b
given_over (Byte n) s b = refl
given_over Unmapped s b = refl
given_over Unread s b = refl

newest_more : (least : Worth) (before : List SeatRead) (r : SeatRead) (x : ℕ)
    → or_seen (told_so least r x) (newest_at (worth_so least before) x) ≡ newest_at (worth_so least (before ++ r ∷ [])) x
newest_more least before r x = by_worth (nat_le (rank (worth_of least)) (rank r.worth)) refl
  where
    by_worth : (b : Bool) → nat_le (rank (worth_of least)) (rank r.worth) ≡ b
        → or_seen (told_so least r x) (newest_at (worth_so least before) x) ≡ newest_at (worth_so least (before ++ r ∷ [])) x
    by_worth true q = rw (worth_more least before r, q) refl
    by_worth false q = rw (worth_more least before r, q) refl

pub given_more : (least : Worth) (before : List SeatRead) (r : SeatRead) (x : ℕ) (wanted : List ℕ) (old new : List Bool)
    → AreGiven (worth_so least before) x wanted old
    → ((i : ℕ) → i < length wanted → get_or new i false ≡ given (told_so least r (further x i)) (get_or wanted i 0) (get_or old i false))
    → AreGiven (worth_so least (before ++ r ∷ [])) x wanted new
given_more least before r x wanted old new are noted i low =
    noted i low ∙ ap (given (told_so least r (further x i)) (get_or wanted i 0)) (are i low) ∙ given_over (told_so least r (further x i)) (newest_at (worth_so least before) (further x i)) (get_or wanted i 0)
    ∙ ap (λ (s : Seen). is_byte s (get_or wanted i 0)) (newest_more least before r (further x i))

-- ---- all bytes

later_given : (all : List SeatRead) (x b : ℕ) (t : Bool) (wanted : List ℕ) (right : List Bool) → AreGiven all x (b ∷ wanted) (t ∷ right)
    → AreGiven all (further x 1) wanted right
later_given all x b t wanted right h i l = rw (further_later x i) (h (suc i) (omega arith))

first_given : (all : List SeatRead) (x b : ℕ) (t : Bool) (wanted : List ℕ) (right : List Bool) → x < 2 ^ 64 → AreGiven all x (b ∷ wanted) (t ∷ right)
    → t ≡ is_byte (newest_at all x) b
first_given all x b t wanted right low h = h 0 (omega arith) ∙ ap (λ (y : ℕ). is_byte (newest_at all y) b) (further_none x low)

some-wrong : (n : ℕ) → false ≡ (n + 1 == 0)
some-wrong n = grind arith

pub stand_is : (all : List SeatRead) (x : ℕ) (wanted : List ℕ) (right : List Bool) → x < 2 ^ 64 → length right ≡ length wanted → AreGiven all x wanted right
    → stand_now all x wanted ≡ (wrong_in right == 0)
stand_is all x [] [] low size h = refl
stand_is all x (b ∷ wanted) (true ∷ right) low size h =
    rw (← first_given all x b true wanted right low h) (stand_is all (further x 1) wanted right (omega arith) (omega arith) (later_given all x b true wanted right h))
stand_is all x (b ∷ wanted) (false ∷ right) low size h = rw (← first_given all x b false wanted right low h) (some-wrong (wrong_in right))
stand_is all x [] (t ∷ right) low size h = absurd (omega arith)
stand_is all x (b ∷ wanted) [] low size h = absurd (omega arith)

-- ---- at some moment

pub stood_later : (more all : List SeatRead) (x : ℕ) (wanted : List ℕ) → stood_from all x wanted ≡ true → stood_from (more ++ all) x wanted ≡ true
stood_later [] all x wanted h = h
stood_later (r ∷ more) all x wanted h = either (stand_now (r ∷ (more ++ all)) x wanted) _ (stood_later more all x wanted h)
  where
    either : (a b : Bool) → b ≡ true → (a || b) ≡ true
    either true b q = refl
    either false b q = q

stood_now : (all : List SeatRead) (x : ℕ) (wanted : List ℕ) → stand_now all x wanted ≡ true → stood_from all x wanted ≡ true
stood_now [] x wanted h = h
stood_now (r ∷ all) x wanted h = rw h refl

never : (r : SeatRead) (all : List SeatRead) (x : ℕ) (wanted : List ℕ) → stand_now (r ∷ all) x wanted ≡ false → stood_from all x wanted ≡ false
    → stood_from (r ∷ all) x wanted ≡ false
never r all x wanted now before = rw now before

worth_apart : (least : Worth) (before later : List SeatRead) → worth_so least (before ++ later) ≡ worth_so least later ++ worth_so least before
worth_apart least before later =
    ap (worth_least (worth_of least)) (reverse-append before later) ∙ filter-append _ (reverse later) (reverse before)

append_more : (before later : List SeatRead) (r : SeatRead) → (before ++ r ∷ []) ++ later ≡ before ++ r ∷ later
append_more [] later r = refl
append_more (b ∷ before) later r = ap (λ (l : List SeatRead). b ∷ l) (append_more before later r)

-- the reads before, one more, and those that are left
pub taken_one : (reads before rest later : List SeatRead) (r : SeatRead) → before ++ rest ≡ reads → rest ≡ r ∷ later → (before ++ r ∷ []) ++ later ≡ reads
taken_one reads before rest later r all first = append_more before later r ∙ sym (ap (λ (l : List SeatRead). before ++ l) first) ∙ all

pub found : (least : Worth) (reads before later : List SeatRead) (x : ℕ) (wanted : List ℕ) → before ++ later ≡ reads
    → stand_now (worth_so least before) x wanted ≡ true → stood_from (worth_so least reads) x wanted ≡ true
found least reads before later x wanted all h =
    ap (λ (l : List SeatRead). stood_from (worth_so least l) x wanted) (sym all) ∙ ap (λ (l : List SeatRead). stood_from l x wanted) (worth_apart least before later)
    ∙ stood_later (worth_so least later) (worth_so least before) x wanted (stood_now (worth_so least before) x wanted h)

pub not_yet : (least : Worth) (before : List SeatRead) (r : SeatRead) (x : ℕ) (wanted : List ℕ) → stood_from (worth_so least before) x wanted ≡ false
    → stand_now (worth_so least (before ++ r ∷ [])) x wanted ≡ false → stood_from (worth_so least (before ++ r ∷ [])) x wanted ≡ false
not_yet least before r x wanted old new = by_worth (nat_le (rank (worth_of least)) (rank r.worth)) refl
  where
    by_worth : (b : Bool) → nat_le (rank (worth_of least)) (rank r.worth) ≡ b → stood_from (worth_so least (before ++ r ∷ [])) x wanted ≡ false
    by_worth true q =
        let is : worth_so least (before ++ r ∷ []) ≡ r ∷ worth_so least before = rw (worth_more least before r, q) refl in
        rw is (never r (worth_so least before) x wanted (rw is at new) old)
    by_worth false q =
        let is : worth_so least (before ++ r ∷ []) ≡ worth_so least before = rw (worth_more least before r, q) refl in
        rw is old

-- no bytes stand so at once
pub none_wanted : (all : List SeatRead) (x : ℕ) (wanted : List ℕ) → length wanted ≡ 0 → stood_from all x wanted ≡ true
none_wanted [] x [] h = refl
none_wanted (r ∷ all) x [] h = refl
none_wanted all x (b ∷ wanted) h = absurd (omega arith)

-- and of some none is given before the first read
pub first_never : (x : ℕ) (wanted : List ℕ) → 0 < length wanted → stood_from [] x wanted ≡ false
first_never x [] h = absurd (omega arith)
first_never x (b ∷ wanted) h = refl

-- the text of a part
pub stood_as_text : (all : List SeatRead) (addr limit fault : ℕ) (text : List ℕ) → stood_from all addr (text ++ 0 ∷ []) ≡ stood all (Text addr limit fault) text
stood_as_text [] addr limit fault text = refl
stood_as_text (r ∷ all) addr limit fault text = ap (λ (b : Bool). stand_now (r ∷ all) addr (text ++ 0 ∷ []) || b) (stood_as_text all addr limit fault text)

pub stood_as_value : (all : List SeatRead) (addr size : ℕ) (text : List ℕ) → stood_from all addr text ≡ stood all (Value addr size) text
stood_as_value [] addr size text = refl
stood_as_value (r ∷ all) addr size text = ap (λ (b : Bool). stand_now (r ∷ all) addr text || b) (stood_as_value all addr size text)

-- ---- the beginning

pub wrong_all : (n : ℕ) (right : List Bool) → length right ≡ n → ((i : ℕ) → i < n → get_or right i false ≡ false) → wrong_in right ≡ n
wrong_all n [] size all = size
wrong_all n (true ∷ right) size all = let h = all 0 (omega arith) in cc
wrong_all n (false ∷ right) size all = let h = wrong_all (length right) right refl (λ i low. all (suc i) (omega arith)) in omega arith

pub none_given : (x : ℕ) (wanted : List ℕ) (right : List Bool) → ((i : ℕ) → i < length wanted → get_or right i false ≡ false) → AreGiven [] x wanted right
none_given x wanted right all i low = all i low

-- ---- the count

pub count_less : (right : List Bool) (i : ℕ) (d : Bool) → i < length right → get_or right i d ≡ false → wrong_in right ≡ wrong_in (set right i true) + 1
count_less [] i d low h = absurd (omega arith)
count_less (true ∷ right) zero d low h = absurd (cc)
count_less (false ∷ right) zero d low h = refl
count_less (true ∷ right) (suc i) d low h = count_less right i d (omega arith) h
count_less (false ∷ right) (suc i) d low h = ap (λ (n : ℕ). n + 1) (count_less right i d (omega arith) h)

pub count_more : (right : List Bool) (i : ℕ) (d : Bool) → i < length right → get_or right i d ≡ true → wrong_in right + 1 ≡ wrong_in (set right i false)
count_more [] i d low h = absurd (omega arith)
count_more (true ∷ right) zero d low h = refl
count_more (false ∷ right) zero d low h = absurd (cc)
count_more (true ∷ right) (suc i) d low h = count_more right i d (omega arith) h
count_more (false ∷ right) (suc i) d low h = ap (λ (n : ℕ). n + 1) (count_more right i d (omega arith) h)

pub most_wrong : (right : List Bool) → wrong_in right ≤ length right
most_wrong [] = omega arith
most_wrong (true ∷ right) = let h = most_wrong right in omega arith
most_wrong (false ∷ right) = let h = most_wrong right in omega arith

-- ---- steps of loops

any_number : (wanted : List ℕ) (i d e : ℕ) → i < length wanted → get_or wanted i d ≡ get_or wanted i e
any_number [] i d e low = absurd (omega arith)
any_number (t ∷ wanted) zero d e low = refl
any_number (t ∷ wanted) (suc i) d e low = any_number wanted i d e (omega arith)

any_bool : (right : List Bool) (i : ℕ) (d e : Bool) → i < length right → get_or right i d ≡ get_or right i e
any_bool [] i d e low = absurd (omega arith)
any_bool (t ∷ right) zero d e low = refl
any_bool (t ∷ right) (suc i) d e low = any_bool right i d e (omega arith)

-- the bytes before a place are noted, and then that one too
pub noted_on : (old right : List Bool) (place : ℕ) (is d : Bool) (told : ℕ → Seen) (wanted : List ℕ) (e z : ℕ) → place < length right
    → is ≡ given (told place) (get_or wanted place e) (get_or right place d) → place < length wanted
    → ((i : ℕ) → i < place → i < length right → get_or right i false ≡ given (told i) (get_or wanted i 0) (get_or old i false))
    → ((i : ℕ) → place ≤ i → get_or right i false ≡ get_or old i false)
    → (i : ℕ) → i < place + 1 → i < length right → get_or (set right place is) i false ≡ given (told i) (get_or wanted i 0) (get_or old i false)
noted_on old right place is d told wanted e z low h low-wanted before left i under within = by_place (i == place) refl
  where
    by_place : (t : Bool) → (i == place) ≡ t → get_or (set right place is) i false ≡ given (told i) (get_or wanted i 0) (get_or old i false)
    by_place true q =
        let same : i ≡ place = eqb-true i place q in
        rw same
        (get_or-set_same right place is false low ∙ h ∙ ap (λ (w : ℕ). given (told place) w (get_or right place d)) (any_number wanted place e 0 low-wanted)
        ∙ ap (given (told place) (get_or wanted place 0)) (any_bool right place d false low ∙ left place (omega arith)))
    by_place false q =
        get_or-set_other right place i is false (eqb-false i place q) ∙ before i (let ne : i ≢ place = eqb-false i place q in omega arith) within

pub left_on : (old right : List Bool) (place : ℕ) (is : Bool) → ((i : ℕ) → place ≤ i → get_or right i false ≡ get_or old i false)
    → (i : ℕ) → place + 1 ≤ i → get_or (set right place is) i false ≡ get_or old i false
left_on old right place is left i behind =
    get_or-set_other right place i is false (λ (q : i ≡ place). omega arith) ∙ left i (omega arith)

pub other_number : (n m : ℕ) → m ≡ n → m ≢ 0 → (n == 0) ≡ false
other_number zero m q h = absurd (h q)
other_number (suc n) m q h = grind arith

pub some_left : (wanted : List ℕ) → (length wanted == 0) ≡ false → 0 < length wanted
some_left [] h = absurd (cc)
some_left (b ∷ wanted) h = omega arith
