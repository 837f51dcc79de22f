-- The line that is told of a settled status.
-- By cases on the status: where no write of the line failed, the whole line was said.
use Rattle.std.proofs.Common.{◌≡◌, Bool, true, false, inl, inr, refl, arith}
use Rattle.std.specs.Prelude.{nat_lt}
use Rattle.std.proofs.lemmas.Bool.{ltb-false}
use Rattle.io_edge.specs.SinkState.{SinkState}
use Rattle.broker_app.specs.Answers.{Said}
use Rattle.broker_app.specs.Lines.{line_of}
use Rattle.program_files.specs.declared.status.Status.{Status}
use Rattle.program_files.specs.declared.status.Status.TheVariants.{WriteFault, NoMemory}
use Rattle.broker_c.specs.Held.{empty_sink}
use Rattle.broker_c.specs.Outcomes.{Says, settled}

-- no write of the line failed
whole : (status : Status) (err : SinkState) → nat_lt 0 err.faults ≡ false → Said empty_sink (line_of status) err → err.taken ≡ line_of status
whole status err good said = let none = ltb-false 0 err.faults good in elim said.whole [ inl rose ↦ absurd (grind arith) | inr line ↦ line.0 refl ]

pub says_settled : (over failed : Bool) (status : Status) (err : SinkState) → nat_lt 0 err.faults ≡ failed → Said empty_sink (line_of status) err → Says (settled over failed status) err.taken
says_settled true failed status err is said = tt
says_settled false failed WriteFault err is said = tt
says_settled false true status err is said = tt
says_settled false false NoMemory err is said = tt
says_settled false false status err is said = whole status err is said
