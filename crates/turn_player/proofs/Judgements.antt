-- What is found of a play, and what is counted of it.
-- By what stays found in a history that goes on, and what the listener's end doesn't change.
use Rattle.std.proofs.Common.{◌≡◌, ◌+◌, List, [], ◌∷◌, ◌++◌, length, Option, Some, None, refl, sym, ap, subst, ◌∙◌, arith}
use Rattle.std.specs.Prelude.{IsSome}
use Rattle.std.specs.Option.{option_map}
use Rattle.hist_model.specs.Legal.{started, system_of}
use Rattle.hist_model.specs.Look.{ev}
use Rattle.hist_model.specs.Steps.{start}
use Rattle.hist_model.specs.declared.event.Actor.TheVariants.{Listener}
use Rattle.hist_model.specs.declared.event.Event.{Event}
use Rattle.hist_model.specs.declared.event.What.TheVariants.{Close}
use Rattle.hist_model.specs.declared.policy.Policy.{Policy}
use Rattle.hist_model.specs.declared.script.Script.{Script}
use Rattle.history_frames.specs.Ordinals.{count_of}
use Rattle.judge_pass.proofs.Found.{closes_faultless, finding_none, stays_found}
use Rattle.judge_pass.specs.Counted.{AreCounted}
use Rattle.judge_pass.specs.Finding.{as_finding, finding, Watches}
use Rattle.judge_pass.specs.declared.judge.Counts.{Counts}
use Rattle.judge_pass.specs.declared.watch.FirstFault.{FirstFault}
use Rattle.judge_pass.specs.declared.watch.Watch.{Watch}
use Rattle.model_kernel.specs.Kernels.{IsBegun, past}
use Rattle.model_kernel.specs.declared.kernel.Kernel.{Kernel}
use Rattle.step_requests.specs.declared.request.Turn.{Turn}
use Rattle.asked_steps.proofs.Kept.{started_begun}
use Rattle.turn_player.specs.Judged.{GoesOnFrom, IsPlayed, IsWatched, StopsAt}
use Rattle.turn_player.specs.Turns.{after_turns, turned}
use Rattle.turn_player.specs.declared.judged.Court.{Court}
use Rattle.turn_player.proofs.Judging.{stops_newest}

-- the listener's end isn't counted
counted-closed : (K : List Event) (counts : Counts) → AreCounted K counts → AreCounted (ev Listener Close ∷ K) counts
unfolding count_of
counted-closed K counts h = record { calls_are = omega (arith, h.calls_are); effects_are = omega (arith, h.effects_are); answers_are = omega (arith, h.answers_are) }

pub counted_whole : (K events : List Event) (counts kept : Counts) → events ≡ ev Listener Close ∷ K → counts ≡ kept → AreCounted K kept → AreCounted events counts
counted_whole K events counts kept whole same h = rw (whole, same) (counted-closed K kept h)

-- where something was found, the history ends there
pub stops_there : (K events : List Event) (found : Option FirstFault) → StopsAt K found → (IsSome found → events ≡ K) → StopsAt events found
stops_there K events None h stopped = tt
stops_there K events (Some f) h stopped = ap length (stopped refl) ∙ h

-- the judge of a script's start
pub watched_start : (P : Policy) (S : Script) (k : Kernel) (w : Watch) → IsBegun S k → Watches P k.script (past k) w → IsWatched P (record { kernel = k; watch = w })
watched_start P S k w begun watches = record {
  kernel = begun.kernel;
  begun = rw (begun.script, begun.events) (started_begun S);
  open_still = rw begun.events refl;
  watches = watches;
  stops = rw begun.events (stops_newest P k.script [] (start (system_of S)) w (finding_none P k.script) (rw begun.events at watches));
}

-- what was found before the end is found of the whole
module _ (P : Policy) (S : Script) (K H : List Event) (w : Watch) where
  pub found_whole : Watches P S H w → (w.found ≡ None → H ≡ K) → GoesOnFrom K H → option_map as_finding w.found ≡ finding P S (ev Listener Close ∷ K)
  found_whole watches whole from = by w.found refl ∙ sym (closes_faultless P S K)
    where
      by : (o : Option FirstFault) → w.found ≡ o → option_map as_finding w.found ≡ finding P S K
      by None q = watches.found_is ∙ ap (finding P S) (whole q)
      by (Some f) q =
          let here : option_map as_finding w.found ≡ Some (as_finding f) = ap (option_map as_finding) q in
          here ∙ sym (ap (finding P S) from.1 ∙ stays_found P S H from.0 (as_finding f) (sym watches.found_is ∙ here))

-- ---- a whole play

-- what the lines lead to from the start was played, unless a clause is broken
pub record PlayedAll (P : Policy) (S : Script) (turns : List Turn) (c : Court) : Type 0 where
  pub watches : Watches P S (past c.kernel) c.watch
  pub whole : c.watch.found ≡ None → past c.kernel ≡ after_turns P S (started S) turns
  pub begins : GoesOnFrom (after_turns P S (started S) turns) (past c.kernel)

pub played_all : (P : Policy) (S : Script) (turns : List Turn) (begun played : Court) → IsBegun S begun.kernel → IsPlayed P begun (after_turns P begun.kernel.script (past begun.kernel) turns) played → PlayedAll P S turns played
played_all P S turns begun played from step =
    let to : after_turns P begun.kernel.script (past begun.kernel) turns ≡ after_turns P S (started S) turns =
    ap (λ (X : Script). after_turns P X (past begun.kernel) turns) from.script ∙ ap (λ (K : List Event). after_turns P S K turns) from.events
    in
    record {
      watches = subst (λ (X : Script). Watches P X (past played.kernel) played.watch) (step.script ∙ from.script) step.watched.watches;
      whole = λ none. step.whole none ∙ to;
      begins = subst (λ (K : List Event). GoesOnFrom K (past played.kernel)) to step.begins;
    }

module _ (P : Policy) (S : Script) (turns : List Turn) (c : Court) (all : PlayedAll P S turns c) where
  pub found_turned : option_map as_finding c.watch.found ≡ finding P S (turned P S turns)
  found_turned = found_whole P S (after_turns P S (started S) turns) (past c.kernel) c.watch all.watches all.whole all.begins

  pub whole_turned : (events : List Event) → events ≡ ev Listener Close ∷ past c.kernel → c.watch.found ≡ None → events ≡ turned P S turns
  whole_turned events is none = is ∙ ap (λ (K : List Event). ev Listener Close ∷ K) (all.whole none)

  -- whether it came to its end or not
  pub begins_turned : (events : List Event) → (c.watch.found ≡ None → events ≡ ev Listener Close ∷ past c.kernel) → (IsSome c.watch.found → events ≡ past c.kernel) → GoesOnFrom (turned P S turns) events
  begins_turned events whole stopped = by c.watch.found refl
    where
      by : (o : Option FirstFault) → c.watch.found ≡ o → GoesOnFrom (turned P S turns) events
      by None q = ([], sym (whole_turned events (whole q) q))
      by (Some f) q =
          let from : after_turns P S (started S) turns ≡ all.begins.0 ++ events = all.begins.1 ∙ ap (λ (K : List Event). all.begins.0 ++ K) (sym (stopped (rw q refl))) in
          (ev Listener Close ∷ all.begins.0, ap (λ (K : List Event). ev Listener Close ∷ K) from)
