-- The lines of a play that is judged, one after another.
-- By one more line: what it leads to, where no clause is broken, is what it leads to without a judge.
use Rattle.std.proofs.Common.{◌≡◌, List, [], ◌∷◌, length, Option, Some, None, refl, ap, subst, ◌∙◌, arith}
use Rattle.broker_core.specs.declared.worker.Worker.{Worker}
use Rattle.hist_model.specs.declared.event.Event.{Event}
use Rattle.hist_model.specs.declared.policy.Policy.{Policy}
use Rattle.hist_model.specs.declared.script.Script.{Script}
use Rattle.judge_pass.specs.declared.watch.FirstFault.{FirstFault}
use Rattle.model_kernel.specs.Kernels.{past}
use Rattle.step_requests.specs.Turns.{AreApart}
use Rattle.step_requests.specs.declared.request.Turn.{Turn}
use Rattle.turn_player.specs.Judged.{IsPlayed, IsWatched, ServersStillKnow, ServerStillKnows}
use Rattle.turn_player.specs.Serving.{OthersAsBefore}
use Rattle.turn_player.specs.Turns.{after_turn, after_turns}
use Rattle.turn_player.specs.declared.judged.Court.{Court}
use Rattle.turn_player.proofs.Judging.{both-found, played_none, then_played, turn_goes_on}
use Rattle.turn_player.proofs.Lines.{knows_behind, no-turns}

-- the lines so far were played, unless a clause is broken, and the rest leads to where all lead
pub record PlayedSoFar (P : Policy) (old : Court) (turns rest : List Turn) (new : Court) : Type 0 where
  pub to : List Event
  pub played : IsPlayed P old to new
  pub leads : after_turns P old.kernel.script (past old.kernel) turns ≡ after_turns P old.kernel.script to rest

pub so_far_none : (P : Policy) (c : Court) (turns : List Turn) → IsWatched P c → PlayedSoFar P c turns turns c
so_far_none P c turns watched = record { to = past c.kernel; played = played_none P c watched; leads = refl }

one-line : (P : Policy) (S : Script) (K : List Event) (t : Turn) (turns : List Turn) → after_turns P S K (t ∷ turns) ≡ after_turns P S (after_turn P S K t) turns
unfolding after_turns
one-line P S K t turns = refl

pub all_played : (P : Policy) (old new : Court) (turns rest : List Turn) → PlayedSoFar P old turns rest new → length rest ≡ 0 → IsPlayed P old (after_turns P old.kernel.script (past old.kernel) turns) new
all_played P old new turns [] so none = rw (so.leads ∙ no-turns P old.kernel.script so.to) so.played
all_played P old new turns (t ∷ rest) so none = absurd (omega (arith, none))

module _ (P : Policy) (old mid new : Court) where
  pub so_far_more : (turns rest : List Turn) (t : Turn) (behind : List Turn) → rest ≡ t ∷ behind → PlayedSoFar P old turns rest mid → IsPlayed P mid (after_turn P mid.kernel.script (past mid.kernel) t) new
      → PlayedSoFar P old turns behind new
  so_far_more turns rest t behind first so step =
      let S : Script = old.kernel.script in
      let line : IsPlayed P mid (after_turn P S (past mid.kernel) t) new =
      subst (λ (X : Script). IsPlayed P mid (after_turn P X (past mid.kernel) t) new) so.played.script step
      in
      record {
        to = after_turn P S so.to t;
        played = then_played P old mid new so.to (λ K. after_turn P S K t) so.played line (turn_goes_on P S so.to t);
        leads = so.leads ∙ ap (after_turns P S so.to) first ∙ one-line P S so.to t behind;
      }

-- where no clause is broken after a line, none was before it
before-clean : (P : Policy) (old new : Court) (K : List Event) → IsPlayed P old K new → new.watch.found ≡ None → old.watch.found ≡ None
before-clean P old new K played none = by old.watch.found refl
  where
    by : (o : Option FirstFault) → old.watch.found ≡ o → old.watch.found ≡ None
    by None q = q
    by (Some f) q = both-found new.watch.found none (played.stays (rw q refl)).1

pub still_knows_behind : (P : Policy) (mid new : Court) (lines : List Turn) (t : Turn) (behind : List Turn) (ws xs : List Worker) → lines ≡ t ∷ behind → AreApart lines → ServersStillKnow P mid lines ws → length ws ≡ 16
    → length xs ≡ 16 → IsPlayed P mid (after_turn P mid.kernel.script (past mid.kernel) t) new → ServerStillKnows P new t xs → OthersAsBefore t ws xs → ServersStillKnow P new behind xs
still_knows_behind P mid new lines t behind ws xs first apart all n m step server others none =
    knows_behind P mid.kernel new.kernel lines t behind ws xs first apart (all (before-clean P mid new _ step none)) n m
    (record { kernel = step.watched.kernel; script = step.script; past = step.whole none }) (server none) others
