-- What an instruction comes to in the program, as the effect that the definitions tell.
use Rattle.std.specs.Prelude.{ℕ}
use Rattle.hist_model.specs.declared.filter.Effect.{Effect}
use Rattle.hist_model.specs.declared.filter.Effect.TheVariants as effects
use Rattle.bpf_filter.specs.declared.machine.Outcome.{Outcome}
use Rattle.bpf_filter.specs.declared.machine.Outcome.TheVariants.{Answers, Computes, Skips}

-- the effect of an outcome, where the accumulator was `a`
abbrev pub effect : Outcome → ℕ → Effect
effect (Answers value) a = effects.Answers value
effect (Computes value) a = effects.Goes 0 value
effect (Skips count) a = effects.Goes count a
