-- Texts beside the parts of a plan, part after part.
-- By the definitions at the first part, which the plan gives.
use Rattle.std.proofs.Common.{◌≡◌, ℕ, Bool, true, false, List, [], ◌∷◌, Some, refl, ap, ◌∙◌, sym, arith}
use Rattle.std.specs.Prelude.{◌&&◌, min, nat_le}
use Rattle.std.proofs.lemmas.Bool.Decides.{nat_tests}
use Rattle.arg_capture.specs.Plans.{first_part, rest_parts}
use Rattle.hist_model.specs.declared.copy.Part.{Part}
use Rattle.broker_verdict.specs.SeatCopies.{fit_parts, fits_part, gives_text, gives_texts}
use Rattle.broker_verdict.specs.Seats.{SeatRead}

pub second : (a b : Bool) → (a && b) ≡ true → b ≡ true
second true b h = h
second false b h = cc

first_and : (a b c : Bool) → (a && (b && c)) ≡ ((a && b) && c)
first_and true b c = refl
first_and false b c = refl

-- the texts behind the first fit the parts behind the first
pub fit_next : (parts later : List Part) (part : Part) (texts behind : List (List ℕ)) (text : List ℕ) → Some part ≡ first_part parts
    → later ≡ rest_parts parts → texts ≡ text ∷ behind → fit_parts parts texts ≡ true → fit_parts later behind ≡ true
fit_next [] later part texts behind text p l t h = cc
fit_next (first ∷ parts) later part texts behind text p l t h =
    ap (λ (ps : List Part). fit_parts ps behind) l
    ∙ second (fits_part first text) (fit_parts parts behind) (sym (ap (fit_parts (first ∷ parts)) t) ∙ h)

pub gives_next : (all : List SeatRead) (parts later : List Part) (part : Part) (texts behind : List (List ℕ)) (text : List ℕ)
    → Some part ≡ first_part parts → later ≡ rest_parts parts → texts ≡ text ∷ behind
    → gives_texts all parts texts ≡ (gives_text all part text && gives_texts all later behind)
gives_next all [] later part texts behind text p l t = cc
gives_next all (first ∷ parts) later part texts behind text p l t =
    let e : first ≡ part = cc in rw (t, l) (ap (λ (q : Part). gives_text all q text && gives_texts all parts behind) e)

at_least : (k a b : ℕ) → nat_le k (min a b) ≡ (nat_le k a && nat_le k b)
at_least k a b = grind (arith, nat_tests)

-- the worst of the texts so far and of one more
pub rests_on : (k found more least : ℕ) (given left whole : Bool) → least ≡ min found more → given ≡ nat_le k more
    → (nat_le k found && (given && left)) ≡ whole → (nat_le k least && left) ≡ whole
rests_on k found more least given left whole l g h =
    ap (λ (n : ℕ). nat_le k n && left) l ∙ ap (λ (b : Bool). b && left) (at_least k found more ∙ ap (λ (b : Bool). nat_le k found && b) (sym g))
    ∙ sym (first_and (nat_le k found) given left) ∙ h
