-- The newest bytes, found from the oldest read on: each read of the wanted worth is laid over what the ones before it told.
-- By induction over the reads; what is laid last stands first where they are reversed.
use Rattle.std.proofs.Common.{◌≡◌, ℕ, Bool, true, false, List, [], ◌∷◌, ◌++◌, length, refl, ap, ◌∙◌, sym, arith}
use Rattle.std.specs.Prelude.{nat_le, filter, reverse}
use Rattle.std.proofs.lemmas.Grind.{reverse_onto}
use Rattle.std.proofs.lemmas.List.{reverse-append}
use Rattle.std.proofs.lemmas.List.Elements.{filter-append}
use Rattle.broker_verdict.specs.SeatCopies.{Byte, newest_at, or_seen, Seen, told, Unmapped, Unread, worth_least}
use Rattle.broker_verdict.specs.Seats.{rank, SeatRead}
use Rattle.broker_judge.specs.Copied.{told_so, worth_so}
use Rattle.broker_judge.specs.Reads.{worth_of}
use Rattle.broker_judge.specs.declared.reads.Worth.{Worth}

-- what the reads tell of an address, the oldest first, over what is known of it already
unfoldable pub laid : Worth → List SeatRead → ℕ → Seen → Seen
laid least [] x s = s
laid least (r ∷ later) x s = laid least later x (or_seen (told_so least r x) s)

or_more : (a b c : Seen) → or_seen (or_seen a b) c ≡ or_seen a (or_seen b c)
or_more (Byte n) b c = refl
or_more Unmapped b c = refl
or_more Unread b c = refl

or_none : (a : Seen) → or_seen a Unread ≡ a
or_none (Byte n) = refl
or_none Unmapped = refl
or_none Unread = refl

newest_both : (all more : List SeatRead) (x : ℕ) → newest_at (all ++ more) x ≡ or_seen (newest_at all x) (newest_at more x)
newest_both [] more x = refl
newest_both (r ∷ all) more x = rw (newest_both all more x, or_more) refl

one_so : (least : Worth) (r : SeatRead) (x : ℕ) (s : Seen) → or_seen (newest_at (worth_least (worth_of least) (r ∷ [])) x) s ≡ or_seen (told_so least r x) s
one_so least r x s = by_worth (nat_le (rank (worth_of least)) (rank r.worth)) refl
  where
    by_worth : (b : Bool) → nat_le (rank (worth_of least)) (rank r.worth) ≡ b → or_seen (newest_at (worth_least (worth_of least) (r ∷ [])) x) s ≡ or_seen (told_so least r x) s
    by_worth true q = rw (q, or_none) refl
    by_worth false q = rw q refl

pub reversed : (r : SeatRead) (later : List SeatRead) → reverse (r ∷ later) ≡ reverse later ++ r ∷ []
reversed r later = reverse_onto later r []

laid_is : (least : Worth) (reads : List SeatRead) (x : ℕ) (s : Seen) → laid least reads x s ≡ or_seen (newest_at (worth_so least reads) x) s
unfolding laid
laid_is least [] x s = refl
laid_is least (r ∷ later) x s =
    rw (reversed r later, filter-append, newest_both, or_more, one_so least r x s, laid_is least later x (or_seen (told_so least r x) s)) refl

pub laid_first : (least : Worth) (r : SeatRead) (later : List SeatRead) (x : ℕ) (s : Seen) → laid least (r ∷ later) x s ≡ laid least later x (or_seen (told_so least r x) s)
unfolding laid
laid_first least r later x s = refl

pub laid_none : (least : Worth) (x : ℕ) (s : Seen) → laid least [] x s ≡ s
unfolding laid
laid_none least x s = refl

-- ---- the reads of a worth, in their order

kept : (p : SeatRead → Bool) (r : SeatRead) (later : List SeatRead) → filter p (r ∷ []) ++ filter p later ≡ filter p (r ∷ later)
kept p r later = by_test (p r) refl
  where
    by_test : (b : Bool) → p r ≡ b → filter p (r ∷ []) ++ filter p later ≡ filter p (r ∷ later)
    by_test true q = rw q refl
    by_test false q = rw q refl

alone : (p : SeatRead → Bool) (r : SeatRead) → reverse (filter p (r ∷ [])) ≡ filter p (r ∷ [])
alone p r = by_test (p r) refl
  where
    by_test : (b : Bool) → p r ≡ b → reverse (filter p (r ∷ [])) ≡ filter p (r ∷ [])
    by_test true q = rw q refl
    by_test false q = rw q refl

pub in_order : (p : SeatRead → Bool) (reads : List SeatRead) → reverse (filter p (reverse reads)) ≡ filter p reads
in_order p [] = refl
in_order p (r ∷ later) = rw (reversed r later, filter-append, reverse-append, alone, in_order p later) (kept p r later)

-- ---- steps of loops

-- a read that tells nothing is passed
pub passed : (least : Worth) (r : SeatRead) (rest later : List SeatRead) (x : ℕ) (all : Seen) → rest ≡ r ∷ later
    → laid least rest x Unread ≡ all → told_so least r x ≡ Unread → laid least later x Unread ≡ all
passed least r rest later x all first h quiet =
    ap (laid least later x) (sym (ap (λ (t : Seen). or_seen t Unread) quiet)) ∙ sym (laid_first least r later x Unread) ∙ sym (ap (λ (l : List SeatRead). laid least l x Unread) first) ∙ h

-- what a read tells is laid over what is known
pub laid_over : (least : Worth) (r : SeatRead) (rest later : List SeatRead) (x : ℕ) (known more all : Seen) → rest ≡ r ∷ later
    → laid least rest x known ≡ all → more ≡ or_seen (told_so least r x) known → laid least later x more ≡ all
laid_over least r rest later x known more all first h new =
    ap (laid least later x) new ∙ sym (laid_first least r later x known) ∙ sym (ap (λ (l : List SeatRead). laid least l x known) first) ∙ h

-- where no read is left
pub at_end : (least : Worth) (reads rest : List SeatRead) (x : ℕ) (old known : Seen) → length rest ≡ 0
    → laid least rest x known ≡ laid least reads x old → known ≡ or_seen (newest_at (worth_so least reads) x) old
at_end least reads [] x old known none h = sym (laid_none least x known) ∙ h ∙ laid_is least reads x old
at_end least reads (r ∷ rest) x old known none h = absurd (omega arith)

pub none_told : (least : Worth) (reads rest : List SeatRead) (x : ℕ) → length rest ≡ 0
    → laid least rest x Unread ≡ laid least reads x Unread → newest_at (worth_so least reads) x ≡ Unread
none_told least reads rest x none h = sym (at_end least reads rest x Unread Unread none h ∙ or_none _)

-- over a byte of which nothing was known
pub over_none : (told known old : Seen) → old ≡ Unread → known ≡ or_seen told old → known ≡ told
over_none told known old none h = h ∙ ap (or_seen told) none ∙ or_none told
