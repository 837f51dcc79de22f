-- How far bytes rest on reads: the best read of each, found from the oldest read on, and the worst of these.
-- By induction over the reads, and over the bytes.
use Rattle.std.proofs.Common.{◌≡◌, ℕ, suc, ◌^◌, ◌<◌, ◌≤◌, Bool, true, false, List, [], ◌∷◌, ◌++◌, length, get_or, refl, ap, ◌∙◌, sym, arith}
use Rattle.std.specs.Prelude.{◌||◌, nat_le, max}
use Rattle.std.specs.List.{list_all}
use Rattle.std.proofs.lemmas.Bool.Decides.{nat_tests}
use Rattle.std.proofs.lemmas.Grind.{reverse_onto}
use Rattle.std.proofs.lemmas.List.Elements.{filter-append}
use Rattle.broker_verdict.specs.SeatCopies.{gives_byte, gives_bytes, is_byte, told, worth_least}
use Rattle.broker_verdict.specs.Seats.{rank, SeatRead}
use Rattle.broker_judge.specs.Copied.{worth_so}
use Rattle.broker_judge.specs.Texts.{better}
use Rattle.broker_judge.specs.Reads.{worth_of}
use Rattle.broker_judge.specs.declared.reads.Worth.{Worth}
use Rattle.broker_judge.specs.declared.reads.Worth.TheVariants.{Foreign, Fresh, Stale, Valid}
use Rattle.broker_judge.proofs.Known.{further_later, further_none}
use Rattle.hist_model.specs.Copies.{further}

-- the best read, by its rank, that gives a byte at an address, and at least so much
unfoldable pub best_of : List SeatRead → ℕ → ℕ → ℕ → ℕ
best_of [] x b s = s
best_of (r ∷ later) x b s = best_of later x b (better r x b s)

pub best_first : (r : SeatRead) (later : List SeatRead) (x b s : ℕ) → best_of (r ∷ later) x b s ≡ best_of later x b (better r x b s)
unfolding best_of
best_first r later x b s = refl

pub best_none : (x b s : ℕ) → best_of [] x b s ≡ s
unfolding best_of
best_none x b s = refl

gives_also : (t : Bool) (r : SeatRead) (all more : List SeatRead) (x b : ℕ) → is_byte (told r.addr r.len r.answer x) b ≡ t
    → gives_byte (all ++ more) x b ≡ (gives_byte all x b || gives_byte more x b)
    → gives_byte ((r ∷ all) ++ more) x b ≡ (gives_byte (r ∷ all) x b || gives_byte more x b)
gives_also true r all more x b q h = rw q refl
gives_also false r all more x b q h = rw q h

gives_both : (all more : List SeatRead) (x b : ℕ) → gives_byte (all ++ more) x b ≡ (gives_byte all x b || gives_byte more x b)
gives_both [] more x b = refl
gives_both (r ∷ all) more x b = gives_also (is_byte (told r.addr r.len r.answer x) b) r all more x b refl (gives_both all more x b)

at_most : (k s n : ℕ) (t : Bool) → nat_le k n ≡ t → nat_le k (max s n) ≡ (t || nat_le k s)
at_most k s n true h = grind (arith, nat_tests)
at_most k s n false h = grind (arith, nat_tests)

one_best : (least : Worth) (r : SeatRead) (x b s : ℕ)
    → nat_le (rank (worth_of least)) (better r x b s) ≡ (gives_byte (worth_least (worth_of least) (r ∷ [])) x b || nat_le (rank (worth_of least)) s)
one_best least r x b s = by_byte (is_byte (told r.addr r.len r.answer x) b) (nat_le (rank (worth_of least)) (rank r.worth)) refl refl
  where
    by_byte : (t p : Bool) → is_byte (told r.addr r.len r.answer x) b ≡ t → nat_le (rank (worth_of least)) (rank r.worth) ≡ p
        → nat_le (rank (worth_of least)) (better r x b s) ≡ (gives_byte (worth_least (worth_of least) (r ∷ [])) x b || nat_le (rank (worth_of least)) s)
    by_byte true true q h = rw (q, h, q) (at_most _ s _ true h)
    by_byte true false q h = rw (q, h) (at_most _ s _ false h)
    by_byte false true q h = rw (q, h, q) refl
    by_byte false false q h = rw (q, h) refl

or_more : (a b c : Bool) → ((a || b) || c) ≡ (a || (b || c))
or_more true b c = refl
or_more false b c = refl

pub best_is : (least : Worth) (reads : List SeatRead) (x b s : ℕ)
    → nat_le (rank (worth_of least)) (best_of reads x b s) ≡ (gives_byte (worth_so least reads) x b || nat_le (rank (worth_of least)) s)
unfolding best_of
best_is least [] x b s = refl
best_is least (r ∷ later) x b s =
    rw (reverse_onto later r [], filter-append, gives_both, or_more, ← one_best least r x b s, best_is least later x b (better r x b s)) refl

-- ---- steps of loops

-- a read is noted
pub noted_over : (r : SeatRead) (rest later : List SeatRead) (x b known more all : ℕ) → rest ≡ r ∷ later
    → best_of rest x b known ≡ all → more ≡ better r x b known → best_of later x b more ≡ all
noted_over r rest later x b known more all first h new =
    ap (best_of later x b) new ∙ sym (best_first r later x b known) ∙ sym (ap (λ (l : List SeatRead). best_of l x b known) first) ∙ h

-- where no read is left
pub all_noted : (least : Worth) (reads rest : List SeatRead) (x b old best : ℕ) → length rest ≡ 0 → best_of rest x b best ≡ best_of reads x b old
    → nat_le (rank (worth_of least)) best ≡ (gives_byte (worth_so least reads) x b || nat_le (rank (worth_of least)) old)
all_noted least reads [] x b old best none h =
    ap (nat_le (rank (worth_of least))) (sym (best_none x b best) ∙ h) ∙ best_is least reads x b old
all_noted least reads (r ∷ rest) x b old best none h = absurd (omega arith)

-- ---- all bytes

-- where at first nothing is noted, a byte is noted as good as a read that gives it
no_rank : (least : Worth) → nat_le (rank (worth_of least)) 0 ≡ false
no_rank Foreign = refl
no_rank Stale = refl
no_rank Fresh = refl
no_rank Valid = refl

pub most_rank : (least : Worth) → rank (worth_of least) ≤ 4
most_rank Foreign = omega arith
most_rank Stale = omega arith
most_rank Fresh = omega arith
most_rank Valid = omega arith

or_false : (a b : Bool) → b ≡ false → (a || b) ≡ a
or_false true b h = refl
or_false false b h = h

pub noted_first : (least : Worth) (given : Bool) (old : ℕ) → old ≡ 0 → (given || nat_le (rank (worth_of least)) old) ≡ given
noted_first least given old h = or_false given _ (ap (nat_le (rank (worth_of least))) h ∙ no_rank least)

-- a number is at most the best read of each of these bytes, which stand from the address on, exactly where a read gives each
abbrev pub AreBest : ℕ → List SeatRead → ℕ → List ℕ → List ℕ → Type 0
AreBest k all x wanted best = (i : ℕ) → i < length wanted → nat_le k (get_or best i 0) ≡ gives_byte all (further x i) (get_or wanted i 0)

later_best : (k : ℕ) (all : List SeatRead) (x b n : ℕ) (wanted best : List ℕ) → AreBest k all x (b ∷ wanted) (n ∷ best) → AreBest k all (further x 1) wanted best
later_best k all x b n wanted best h i l = rw (further_later x i) (h (suc i) (omega arith))

first_best : (k : ℕ) (all : List SeatRead) (x b n : ℕ) (wanted best : List ℕ) → x < 2 ^ 64 → AreBest k all x (b ∷ wanted) (n ∷ best) → nat_le k n ≡ gives_byte all x b
first_best k all x b n wanted best low h = h 0 (omega arith) ∙ ap (λ (y : ℕ). gives_byte all y b) (further_none x low)

pub all_best : (k : ℕ) (all : List SeatRead) (x : ℕ) (wanted best : List ℕ) → x < 2 ^ 64 → length best ≡ length wanted → AreBest k all x wanted best
    → gives_bytes all x wanted ≡ list_all (nat_le k) best
all_best k all x [] [] low size h = refl
all_best k all x (b ∷ wanted) (n ∷ best) low size h =
    rw (
      first_best k all x b n wanted best low h,
      ← all_best k all (further x 1) wanted best (omega arith) (omega arith) (later_best k all x b n wanted best h),
    ) refl
all_best k all x [] (n ∷ best) low size h = absurd (omega arith)
all_best k all x (b ∷ wanted) [] low size h = absurd (omega arith)
