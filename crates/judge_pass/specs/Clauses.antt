-- The clauses in parts: those of an effect about its reads, and of an answer about what the policy says and what came of an effect.
use Rattle.std.specs.Prelude.{List, [], ◌∷◌, ◌++◌}
use Rattle.broker_verdict.specs.Trusted.{later_clauses}
use Rattle.broker_verdict.specs.declared.clause.Clause.{Clause}
use Rattle.broker_verdict.specs.declared.clause.Clause.TheVariants.{OtherRequest, Unread, OtherMemory, StaleCopy, Unchecked}
use Rattle.broker_verdict.specs.declared.clause.Clause.TheVariants.{OtherAnswer, Uncaused, DeniedOtherwise, PassedOtherwise}
use Rattle.broker_verdict.specs.declared.clause.Clause.TheVariants.{GrantedNotDone, OtherOutcome, AnsweredAlready}

abbrev pub clauses_of_reads : List Clause
clauses_of_reads = Unread ∷ OtherMemory ∷ StaleCopy ∷ Unchecked ∷ []

-- of an effect for a call
abbrev pub clauses_of_effects : List Clause
clauses_of_effects = OtherRequest ∷ (clauses_of_reads ++ later_clauses)

-- without an effect, where a copy is known or the policy says something by registers
abbrev pub clauses_of_words : List Clause
clauses_of_words = DeniedOtherwise ∷ PassedOtherwise ∷ []

abbrev pub clauses_of_policy : List Clause
clauses_of_policy = Uncaused ∷ clauses_of_words

abbrev pub clauses_of_outcome : List Clause
clauses_of_outcome = GrantedNotDone ∷ OtherOutcome ∷ []

-- of an answer that its call was given
abbrev pub clauses_of_accepted : List Clause
clauses_of_accepted = clauses_of_policy ++ clauses_of_outcome

-- of an answer for a call
abbrev pub clauses_of_answers : List Clause
clauses_of_answers = OtherAnswer ∷ (clauses_of_accepted ++ AnsweredAlready ∷ [])
