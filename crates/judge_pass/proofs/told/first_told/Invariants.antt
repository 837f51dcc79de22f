-- None of the effects that were passed over can be told.
use Rattle.std.proofs.Common.{◌≡◌, ℕ, ◌<◌, length, reverse, Some, true}
use Rattle.std.specs.Prelude.{find}
use Rattle.std.specs.List.{AllByRecursion}
use Rattle.hist_model.specs.declared.policy.Policy.{Policy}
use Rattle.hist_model.specs.declared.script.Script.{Script}
use Rattle.broker_verdict.specs.Answers.{valid_texts}
use Rattle.judge_pass.specs.Stands.{place_of_call, Stands}
use Rattle.judge_pass.specs.Told.{can_be_told, effect_is_for, IsFirst}
use Rattle.judge_pass.specs.Within.{effects_kept}
use Rattle.judge_pass.proofs.told.first_told.Given as goal

abbrev pub invariant-loop-effect : goal.invariant-loop-effect
invariant-loop-effect l = record {
  low : AllByRecursion (λ n. n < effects_kept l.judge) l.rest;
  own : (c : ℕ) → AllByRecursion (λ n. effect_is_for (reverse l.before) c n ≡ true) l.untold → AllByRecursion (λ n. effect_is_for (reverse l.before) c n ≡ true) l.rest;
  found : (P : Policy) (S : Script) (w c : ℕ) → Stands P S (reverse l.before) l.judge → place_of_call (reverse l.before) (Some l.call) ≡ Some c
      → l.all ≡ valid_texts (reverse l.before) w c → IsFirst (reverse l.before) c l.first → AllByRecursion (λ n. effect_is_for (reverse l.before) c n ≡ true) l.untold
      → find (can_be_told (reverse l.before) w c) l.rest ≡ find (can_be_told (reverse l.before) w c) l.untold;
}

abbrev pub decreases-loop-effect : goal.decreases-loop-effect
decreases-loop-effect l = length l.rest
