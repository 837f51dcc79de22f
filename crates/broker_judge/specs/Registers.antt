-- What the rules that were seen so far say of a call, and what comes of it with the rules that are left.
use Rattle.std.specs.Prelude.{ℕ, if◌then◌else◌, Option, None}
use Rattle.hist_model.specs.declared.policy.Verdict.{Verdict}
use Rattle.broker_verdict.specs.Choices.{says_alike, where_alike}
use Rattle.broker_judge.specs.declared.registers.Said.{Said}
use Rattle.broker_judge.specs.declared.registers.Said.TheVariants.{Nothing, Alike, Unlike}

-- with one more rule that may decide
abbrev pub joined : Said → Verdict → Said
joined Nothing verdict = Alike verdict
joined (Alike first) verdict = if says_alike first verdict then Alike first else Unlike
joined Unlike verdict = Unlike

-- with what the rules that are left come to
abbrev pub led : Said → Option (ℕ × Verdict) → Option (ℕ × Verdict)
led Nothing later = later
led (Alike first) later = where_alike first later
led Unlike later = None
