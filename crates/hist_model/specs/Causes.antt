-- Why a worker answers what it answers.
use Rattle.std.specs.Prelude.{◌≡◌, ℕ, ◌==◌, ◌||◌, Bool, true, false, List, Option, Some, None, Result, Err}
use Rattle.hist_model.specs.Sessions.{Rules, Decision, Denies, Passes, Acts, Plants, Injects, back_of_outcome, reads_of}
use Rattle.hist_model.specs.Sessions.{first_some, outcome_in, put_in, take_in}
use Rattle.hist_model.specs.declared.event.What.{What}
use Rattle.hist_model.specs.declared.event.Back.{Back}
use Rattle.hist_model.specs.declared.event.Back.TheVariants.{Fail, Continue}
use Rattle.sys_abi.specs.Errnos.{ebadf, emfile}
use Rattle.sys_abi.specs.declared.wire.Notif.{Notif}

abbrev pub is_acting : Decision → Bool
is_acting (Acts q cap) = true
is_acting (Plants a b cap) = true
is_acting _ = false

-- the answer's cause: the fault of the copy; else the errno of the rule that decided, CONTINUE where it passes,
-- the outcome of the one effect where it grants, and where it injects EBADF where the request answered that,
-- or EMFILE where there was no number for the descriptor, and the take answered EBADF or EMFILE
pub data Cause (R : Rules) (own : List What) (n : Notif) : Back → Type 0 where
  faulty : (f : ℕ) → R.fault n (reads_of own) ≡ Some f → Cause R own n (Fail f)
  denied : (e : ℕ) → R.fault n (reads_of own) ≡ None → R.decide n (reads_of own) ≡ Denies e → Cause R own n (Fail e)
  passed : R.fault n (reads_of own) ≡ None → R.decide n (reads_of own) ≡ Passes → Cause R own n Continue
  done : (r : Result (Unit {0}) ℕ) → R.fault n (reads_of own) ≡ None → is_acting (R.decide n (reads_of own)) ≡ true
      → first_some outcome_in own ≡ Some r → Cause R own n (back_of_outcome r)
  not_put : (src : ℕ) (at : Option ℕ) (flags : ℕ) → R.fault n (reads_of own) ≡ None
      → R.decide n (reads_of own) ≡ Injects src at flags → first_some put_in own ≡ Some (Err ebadf) → Cause R own n (Fail ebadf)
  not_taken : (e src : ℕ) (at : Option ℕ) (flags : ℕ) → R.fault n (reads_of own) ≡ None
      → R.decide n (reads_of own) ≡ Injects src at flags → first_some take_in own ≡ Some (Err e)
      → ((e == ebadf) || (e == emfile)) ≡ true → Cause R own n (Fail emfile)
