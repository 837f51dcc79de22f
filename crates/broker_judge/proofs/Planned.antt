-- The copy in the plan's order, read after read.
-- By the definition at the first read that is left, if it is of the wanted worth.
use Rattle.std.proofs.Common.{◌≡◌, ℕ, Bool, true, false, List, [], ◌∷◌, ◌++◌, length, Some, refl, subst, ap, ◌∙◌, sym, arith}
use Rattle.std.specs.Prelude.{◌==◌, filter, nat_le, Result, Ok, Err, reverse, ℤ}
use Rattle.std.proofs.lemmas.Bool.{eqb-true}
use Rattle.arg_capture.specs.Captures.{Answers}
use Rattle.broker_judge.proofs.Fitted.{second}
use Rattle.hist_model.proofs.Pieces.{IsWanting, piece_wanted}
use Rattle.hist_model.specs.Copies.{Complete, Faulty, plan, Progress, progress, wanted, Wants}
use Rattle.hist_model.specs.declared.copy.Part.{Part}
use Rattle.broker_verdict.specs.SeatCopies.{is_wanted, planned_from, with_piece}
use Rattle.broker_verdict.specs.Seats.{rank, SeatRead}
use Rattle.broker_judge.proofs.Laid.{in_order}
use Rattle.broker_judge.specs.Copied.{HasPieces, IsAnswer, WantsSome, with_read, worth_so}
use Rattle.broker_judge.specs.Reads.{worth_of}
use Rattle.broker_judge.specs.declared.reads.Worth.{Worth}

-- the reads of this worth
abbrev pub of_worth : Worth → List SeatRead → List SeatRead
of_worth least reads = filter (λ r. nat_le (rank (worth_of least)) (rank r.worth)) reads

-- a read of the piece that is wanted is taken
pub taken : (parts : List Part) (answers : List (Result (List ℕ) ℕ)) (r : SeatRead) (answer : Result (List ℕ) ℕ)
    → is_wanted (wanted (progress parts answers)) r ≡ true → r.answer ≡ answer → with_piece parts answers r ≡ answers ++ answer ∷ []
taken parts answers r answer h e = rw (h, e) refl

-- it answers that piece
pub answers_piece : (p : Progress) (r : SeatRead) (answer : Result (List ℕ) ℕ) → WantsSome p → is_wanted (wanted p) r ≡ true → r.answer ≡ answer
    → IsAnswer r.len r.answer → Answers (wanted p) answer
answers_piece (Complete texts) r answer some w e h = cc
answers_piece (Faulty fault) r answer some w e h = cc
answers_piece (Wants x n) r answer some w e h =
    let len : r.len ≡ n = eqb-true r.len n (second (r.addr == x) (r.len == n) w) in
    fits answer (rw (len, e) at h)
  where
    fits : (answer : Result (List ℕ) ℕ) → IsAnswer n answer → Answers (Some (x, n)) answer
    fits (Err f) h = tt
    fits (Ok bytes) h = (h.0 some, h.1)

-- no piece of a call's arguments is empty
some_wanted : (p : Progress) → IsWanting p → WantsSome p
some_wanted (Wants x n) h = h
some_wanted (Complete texts) h = tt
some_wanted (Faulty fault) h = tt

pub has_pieces : (parts : List Part) (nr : ℤ) (args : List ℕ) → parts ≡ plan nr args → HasPieces parts
has_pieces parts nr args h = subst HasPieces (sym h) (λ answers. some_wanted (progress (plan nr args) answers) (piece_wanted nr args answers))

pub one_planned : (least : Worth) (parts : List Part) (answers : List (Result (List ℕ) ℕ)) (r : SeatRead) (later : List SeatRead)
    → planned_from parts answers (of_worth least (r ∷ later)) ≡ planned_from parts (with_read least parts answers r) (of_worth least later)
unfolding planned_from
one_planned least parts answers r later = by_worth (nat_le (rank (worth_of least)) (rank r.worth)) refl
  where
    by_worth : (b : Bool) → nat_le (rank (worth_of least)) (rank r.worth) ≡ b
        → planned_from parts answers (of_worth least (r ∷ later)) ≡ planned_from parts (with_read least parts answers r) (of_worth least later)
    by_worth true q = rw q refl
    by_worth false q = rw q refl

pub planned_on : (least : Worth) (parts : List Part) (answers : List (Result (List ℕ) ℕ)) (r : SeatRead) (rest later : List SeatRead) (whole : Progress)
    → rest ≡ r ∷ later → planned_from parts answers (of_worth least rest) ≡ whole
    → planned_from parts (with_read least parts answers r) (of_worth least later) ≡ whole
planned_on least parts answers r rest later whole first h =
    sym (one_planned least parts answers r later) ∙ sym (ap (λ (l : List SeatRead). planned_from parts answers (of_worth least l)) first) ∙ h

pub planned_all : (least : Worth) (parts : List Part) (answers : List (Result (List ℕ) ℕ)) (reads rest : List SeatRead) → length rest ≡ 0
    → planned_from parts answers (of_worth least rest) ≡ planned_from parts [] (of_worth least reads)
    → progress parts answers ≡ planned_from parts [] (reverse (worth_so least reads))
unfolding planned_from
planned_all least parts answers reads [] none h = h ∙ ap (planned_from parts []) (sym (in_order _ reads))
planned_all least parts answers reads (r ∷ rest) none h = absurd (omega arith)
