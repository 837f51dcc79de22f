-- The copy of a plan, part after part.
-- By the cases of what is known so far and of what comes of the parts that are left: the first fault is kept, else the first gap.
use Rattle.std.proofs.Common.{◌≡◌, List, [], ◌∷◌, ◌++◌, None, Some, refl, ap, ◌∙◌, sym, append_assoc}
use Rattle.arg_capture.specs.Plans.{first_part, rest_parts}
use Rattle.std.proofs.lemmas.List.{append-nil}
use Rattle.hist_model.specs.Copies.{Complete, Faulty, Progress, Wants}
use Rattle.hist_model.specs.declared.copy.Part.{Part}
use Rattle.broker_verdict.specs.SeatCopies.{Fails, Known, Misses, newest_at, newest_copy, part_seen, Whole, with_known}
use Rattle.broker_verdict.specs.Seats.{SeatRead}
use Rattle.broker_judge.specs.Copied.{with_more}

-- what is known so far, with what comes of the parts that are left
abbrev pub joined : Progress → Progress → Progress
joined (Faulty e) rest = Faulty e
joined (Wants x n) (Faulty e) = Faulty e
joined (Wants x n) _ = Wants x n
joined (Complete texts) (Complete more) = Complete (texts ++ more)
joined (Complete texts) (Faulty e) = Faulty e
joined (Complete texts) (Wants x n) = Wants x n

pub joined_more : (p : Progress) (known : Known) (rest : Progress) → joined (with_more p known) rest ≡ joined p (with_known known rest)
joined_more (Faulty e) known rest = refl
joined_more (Wants x n) (Fails e) rest = refl
joined_more (Wants x n) (Whole text) (Faulty e) = refl
joined_more (Wants x n) (Whole text) (Complete more) = refl
joined_more (Wants x n) (Whole text) (Wants y m) = refl
joined_more (Wants x n) (Misses y) (Faulty e) = refl
joined_more (Wants x n) (Misses y) (Complete more) = refl
joined_more (Wants x n) (Misses y) (Wants z m) = refl
joined_more (Complete texts) (Fails e) rest = refl
joined_more (Complete texts) (Whole text) (Faulty e) = refl
joined_more (Complete texts) (Whole text) (Complete more) = ap Complete (append_assoc texts (text ∷ []) more)
joined_more (Complete texts) (Whole text) (Wants x n) = refl
joined_more (Complete texts) (Misses x) (Faulty e) = refl
joined_more (Complete texts) (Misses x) (Complete more) = refl
joined_more (Complete texts) (Misses x) (Wants y n) = refl

pub joined_none : (p : Progress) → joined p (Complete []) ≡ p
joined_none (Faulty e) = refl
joined_none (Wants x n) = refl
joined_none (Complete texts) = ap Complete (append-nil texts)

pub joined_first : (rest : Progress) → joined (Complete []) rest ≡ rest
joined_first (Faulty e) = refl
joined_first (Wants x n) = refl
joined_first (Complete texts) = refl

-- ---- steps of the loop over the parts

pub copy_next : (all : List SeatRead) (parts : List Part) (part : Part) → Some part ≡ first_part parts
    → newest_copy all parts ≡ with_known (part_seen (newest_at all) part) (newest_copy all (rest_parts parts))
unfolding newest_copy
copy_next all [] part h = cc
copy_next all (first ∷ parts) part h = let e : first ≡ part = cc in ap (λ (p : Part). with_known (part_seen (newest_at all) p) (newest_copy all parts)) e

pub copy_ends : (all : List SeatRead) (parts : List Part) → None ≡ first_part parts → newest_copy all parts ≡ Complete []
unfolding newest_copy
copy_ends all [] h = refl
copy_ends all (first ∷ parts) h = cc

pub known_all : (all : List SeatRead) (parts : List Part) (known whole : Progress) → None ≡ first_part parts
    → joined known (newest_copy all parts) ≡ whole → known ≡ whole
known_all all parts known whole h e = sym (ap (joined known) (copy_ends all parts h) ∙ joined_none known) ∙ e

pub known_more : (all : List SeatRead) (parts later : List Part) (part : Part) (known whole : Progress) → Some part ≡ first_part parts
    → later ≡ rest_parts parts → joined known (newest_copy all parts) ≡ whole
    → joined (with_more known (part_seen (newest_at all) part)) (newest_copy all later) ≡ whole
known_more all parts later part known whole h l e =
    ap (λ (ps : List Part). joined (with_more known (part_seen (newest_at all) part)) (newest_copy all ps)) l
    ∙ joined_more known (part_seen (newest_at all) part) (newest_copy all (rest_parts parts))
    ∙ ap (joined known) (sym (copy_next all parts part h)) ∙ e
