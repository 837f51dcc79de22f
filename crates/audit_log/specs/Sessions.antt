-- The sessions of a history, each with its own steps, and what one more event makes of them.
use Rattle.std.specs.Prelude.{ℕ, false, ◌&&◌, not, List, [], ◌∷◌, ◌++◌, length, Ok, map}
use Rattle.hist_model.specs.Look.{is_worker}
use Rattle.hist_model.specs.Kinds.{skips}
use Rattle.hist_model.specs.ReportAudit.{session_at, session_step}
use Rattle.hist_model.specs.declared.event.Actor.{Actor}
use Rattle.hist_model.specs.declared.event.Actor.TheVariants.{Worker}
use Rattle.hist_model.specs.declared.event.Event.{Event}
use Rattle.hist_model.specs.declared.event.What.{What}
use Rattle.hist_model.specs.declared.event.What.TheVariants.{Recv}
use Rattle.audit_log.specs.Begun.{Begun}
use Rattle.audit_log.specs.SessionStages.{no_stages, stages_at, stages_step}

-- in the history H, the session that the step after K begins, if it begins one
abbrev pub begun_by : List Event → List Event → Actor → What → List Begun
begun_by H K (Worker w) (Recv (Ok notif)) =
    record { place = length K; worker = w; notif = notif; steps = session_at w (length K) H; stages = stages_at w (length K) H } ∷ []
begun_by H K _ _ = []

-- in the history H, the sessions that were begun in K, the oldest first
unfoldable pub begun : List Event → List Event → List Begun
begun H [] = []
begun H (e ∷ K) = begun H K ++ begun_by H K e.who e.what

-- ---- One more event

-- a session with one more event, which has this place and doesn't begin it
abbrev pub with_event : ℕ → Event → Begun → Begun
with_event place e s = record {
  place = s.place;
  worker = s.worker;
  notif = s.notif;
  steps = session_step false (is_worker e.who s.worker && not (skips e.what)) s.steps e.what;
  stages = stages_step false (is_worker e.who s.worker && not (skips e.what)) place s.steps e.what s.stages;
}

-- the session that a step at this place begins, if it begins one
abbrev pub started : ℕ → Actor → What → List Begun
started place (Worker w) (Recv (Ok notif)) =
    record { place = place; worker = w; notif = notif; steps = Recv (Ok notif) ∷ []; stages = no_stages } ∷ []
started place _ _ = []

-- all sessions with one more event, which has this place
abbrev pub after_event : ℕ → Event → List Begun → List Begun
after_event place e sessions = map (with_event place e) sessions ++ started place e.who e.what
