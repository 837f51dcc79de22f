-- What a call gave, by whether more was printed than there was room for.
-- By the test that settles the status: what is longer than the room isn't empty.
use Rattle.std.proofs.Common.{◌≡◌, ℕ, ◌<◌, ◌≤◌, Bool, true, false, List, [], length, ◌⊎◌, inl, inr, refl, arith}
use Rattle.std.specs.Prelude.{nat_lt}
use Rattle.std.proofs.lemmas.Bool.{ltb-true, ltb-false}
use Rattle.program_files.specs.declared.status.Status.{Status}
use Rattle.program_files.specs.declared.status.Status.TheVariants.{WriteFault}
use Rattle.broker_c.specs.Outcomes.{settled}

-- more was printed than there was room for
overfull : (Begins : List ℕ → Type 0) (room : ℕ) (printed : List ℕ) → room < length printed → (printed ≡ []) ⊎ Begins printed → Begins printed
overfull Begins room printed over begun = elim begun [ inl nothing ↦ absurd (grind (arith)) | inr part ↦ part ]

-- what is given of a beginning that is longer than the room, and else of the status that stays
pub by_room : (Gives : Status → Type 0) (Begins : List ℕ → Type 0) (room : ℕ) (failed : Bool) (printed : List ℕ) (status : Status) → (printed ≡ []) ⊎ Begins printed
    → (Begins printed → room < length printed → Gives WriteFault) → (length printed ≤ room → Gives (settled false failed status)) → Gives (settled (nat_lt room (length printed)) failed status)
by_room Gives Begins room failed printed status begun cut fits = by (nat_lt room (length printed)) refl
  where
    by : (over : Bool) → nat_lt room (length printed) ≡ over → Gives (settled over failed status)
    by true is = let over = ltb-true room (length printed) is in cut (overfull Begins room printed over begun) over
    by false is = fits (ltb-false room (length printed) is)
