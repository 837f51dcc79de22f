-- Lists that are written to: a vector's items after its slice was written, and the bytes of which something is told.
-- By the laws of `take`, `set` and `get_or`.
use Rattle.std.proofs.Common.{◌≡◌, ◌≢◌, ℕ, ◌+◌, ◌<◌, ◌≤◌, Bool, true, false, List, ◌++◌, length, drop, get_or, take, refl, ap, ◌∙◌, sym, arith}
use Rattle.std.specs.Prelude.{◌==◌, nat_lt}
use Rattle.std.proofs.Math.ListN.{set}
use Rattle.std.proofs.Math.Seq.{take-append_seam}
use Rattle.std.proofs.lemmas.Bool.{eqb-false, eqb-true, ltb-false, ltb-true}
use Rattle.std.proofs.lemmas.List.{get_or-set_other, get_or-set_same, get_or_past, set-get_or}
use Rattle.broker_verdict.specs.SeatCopies.{or_seen, Seen, Unread}
use Rattle.broker_judge.specs.Copied.{seen_at}
use Rattle.broker_judge.specs.Reads.{seen_of}
use Rattle.broker_judge.specs.declared.reads.Seen.{Seen as ByteSeen}
use Rattle.broker_judge.specs.declared.reads.Seen.TheVariants.{Unread as ByteUnread}

pub written : {A : Type 0} (n : ℕ) (new old : List A) → length new ≡ n → take n (new ++ drop (length new) old) ≡ new
written n new old h = ap (λ (k : ℕ). take k (new ++ drop (length new) old)) (sym h) ∙ take-append_seam new (drop (length new) old)

-- of a place that there is, any value may stand for none
any_default : (seen : List ByteSeen) (i : ℕ) (d e : ByteSeen) → i < length seen → get_or seen i d ≡ get_or seen i e
any_default seen i d e low =
    sym (get_or-set_same seen i (get_or seen i d) e low) ∙ ap (λ (l : List ByteSeen). get_or l i e) (set-get_or seen i d)

other_place : (i place : ℕ) → place + 1 ≤ i → i ≢ place
other_place i place behind e = absurd (omega arith)

-- the bytes before a place are laid over, and then that one too
pub laid_on : (old seen : List ByteSeen) (place : ℕ) (v one d : ByteSeen) (told : ℕ → Seen) → place < length seen
    → seen_of one ≡ told place → seen_of v ≡ or_seen (seen_of one) (seen_of (get_or seen place d))
    → ((i : ℕ) → i < place → i < length seen → seen_at seen i ≡ or_seen (told i) (seen_at old i))
    → ((i : ℕ) → place ≤ i → seen_at seen i ≡ seen_at old i)
    → (i : ℕ) → i < place + 1 → i < length seen → seen_at (set seen place v) i ≡ or_seen (told i) (seen_at old i)
laid_on old seen place v one d told low t h before left i under within = by_place (i == place) refl
  where
    by_place : (b : Bool) → (i == place) ≡ b → seen_at (set seen place v) i ≡ or_seen (told i) (seen_at old i)
    by_place true q =
        let e : i ≡ place = eqb-true i place q in
        rw e
        (ap seen_of (get_or-set_same seen place v ByteUnread low) ∙ h
        ∙ ap (or_seen (seen_of one)) (ap seen_of (any_default seen place d ByteUnread low) ∙ left place (omega arith))
        ∙ ap (λ (s : Seen). or_seen s (seen_at old place)) t)
    by_place false q =
        ap seen_of (get_or-set_other seen place i v ByteUnread (eqb-false i place q))
        ∙ before i (let ne : i ≢ place = eqb-false i place q in omega arith) within

pub left_on : (old seen : List ByteSeen) (place : ℕ) (v : ByteSeen) → ((i : ℕ) → place ≤ i → seen_at seen i ≡ seen_at old i)
    → (i : ℕ) → place + 1 ≤ i → seen_at (set seen place v) i ≡ seen_at old i
left_on old seen place v left i behind = ap seen_of (get_or-set_other seen place i v ByteUnread (other_place i place behind)) ∙ left i (omega arith)

-- bytes before an end are known, and of those behind nothing is told
pub within_or_behind : (seen : List ByteSeen) (reached i : ℕ) (newest : Seen) → length seen ≡ reached → (i < reached → seen_at seen i ≡ newest)
    → (reached ≤ i → newest ≡ Unread) → seen_at seen i ≡ newest
within_or_behind seen reached i newest size within behind = by_reach (nat_lt i reached) refl
  where
    by_reach : (b : Bool) → nat_lt i reached ≡ b → seen_at seen i ≡ newest
    by_reach true q = within (ltb-true i reached q)
    by_reach false q =
        let past : reached ≤ i = ltb-false i reached q in
        ap seen_of (get_or_past seen i ByteUnread (omega arith)) ∙ sym (behind past)
