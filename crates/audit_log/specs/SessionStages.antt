-- Where the steps of a session stand in the history.
use Rattle.std.specs.Prelude.{ℕ, Bool, true, false, ◌&&◌, not, if◌then◌else◌, ◌==◌, List, [], ◌∷◌, length, Option, Some, None, Ok}
use Rattle.hist_model.specs.Kinds.{is_sent, skips}
use Rattle.hist_model.specs.Look.{is_worker, or_else}
use Rattle.hist_model.specs.ReportAudit.{checked_twice, is_shut, session_at}
use Rattle.hist_model.specs.declared.event.Event.{Event}
use Rattle.hist_model.specs.declared.event.What.{What}
use Rattle.hist_model.specs.declared.event.What.TheVariants.{Act, Plant}
use Rattle.audit_log.specs.declared.session_stages.Stages.{Stages}

-- the step is an effect that was done
abbrev pub is_done : What → Bool
is_done (Act q cap (Ok u)) = true
is_done (Plant addr bytes cap (Ok u)) = true
is_done _ = false

-- of a session that has just begun
abbrev pub no_stages : Stages
no_stages = record { valid = None; effect = None; sent = None }

-- the place, where it is one of these steps
abbrev pub place_if : Bool → ℕ → Option ℕ
place_if true place = Some place
place_if false place = None

-- with one more step of an open session, which has this place
abbrev pub with_stage : ℕ → List What → What → Stages → Stages
with_stage place own a s = record {
  valid = or_else s.valid (place_if (checked_twice (a ∷ own)) place);
  effect = or_else s.effect (place_if (is_done a) place);
  sent = or_else s.sent (place_if (is_sent a) place);
}

-- one more step of a session's worker: none counts before its first, and none after the one that ended it
abbrev pub stages_joined : ℕ → List What → What → Stages → Stages
stages_joined place own a s = if is_shut own then s else with_stage place own a s

-- one more step: whether it is the session's first, and whether it is its worker's
abbrev pub stages_step : Bool → Bool → ℕ → List What → What → Stages → Stages
stages_step true own place before a s = no_stages
stages_step false true place before a s = stages_joined place before a s
stages_step false false place before a s = s

-- of the session that worker w began at place r
unfoldable pub stages_at : ℕ → ℕ → List Event → Stages
stages_at w r [] = no_stages
stages_at w r (e ∷ K) =
    stages_step (length K == r) (is_worker e.who w && not (skips e.what)) (length K) (session_at w r K) e.what (stages_at w r K)
