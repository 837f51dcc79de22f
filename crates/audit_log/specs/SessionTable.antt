-- The table of sessions stands for the sessions that were begun.
use Rattle.std.specs.Prelude.{◌≡◌, ℕ, ◌<◌, true, false, List, [], map, length, get_or, set, Option, Some, None, pos}
use Rattle.hist_model.specs.ReportAudit.{is_shut, judging_by}
use Rattle.hist_model.specs.declared.policy.Rule.{Rule}
use Rattle.audit_log.specs.Begun.{Begun, IsRead, told, with_step}
use Rattle.hist_model.specs.declared.event.What.{What}
use Rattle.sys_abi.specs.declared.wire.Notif.{Notif}
use Rattle.arg_capture.specs.Captures.{Captured}
use Rattle.audit_log.specs.SessionStages.{no_stages}
use Rattle.audit_log.specs.declared.session.SessionRecord.{SessionRecord}
use Rattle.audit_log.specs.declared.session_table.Current.{Current}
use Rattle.audit_log.specs.declared.session_table.SessionTable.{SessionTable}

-- what is found past the end of a list
abbrev pub no_session : Begun
no_session = record {
  place = 0;
  worker = 0;
  notif = record { id = 0; pid = 0; flags = 0; call = record { nr = pos 0; arch = 0; ip = 0; args = [] } };
  steps = [];
  stages = no_stages;
}

abbrev pub nobody : Current
nobody = record {
  row = None;
  notif = no_session.notif;
  capture = record { reached = record { texts = []; taken = []; parts = []; rooms = 0; places = 0 }; fault = None };
}

abbrev pub session_in : List Begun → ℕ → Begun
session_in S j = get_or S j no_session

abbrev pub current : SessionTable → ℕ → Current
current t w = get_or t.workers.items w nobody

-- what is found past the end of the rows
abbrev pub no_row : SessionRecord
no_row = told (judging_by []) no_session

-- one more step, which has this place, in the session of this row, if there is one, with the notification and the capture before and after
abbrev pub IsRowStepped : List Rule → ℕ → What → Notif → Notif → Captured
    → Captured → List SessionRecord → List SessionRecord → Option ℕ → Type 0
IsRowStepped rules place a n m c d before after None = after ≡ before
IsRowStepped rules place a n m c d before after (Some i) =
    i < length before → (s : Begun) → get_or before i no_row ≡ told (judging_by rules) s → IsRead s n c
    → (after ≡ set before i (told (judging_by rules) (with_step place a s))) × IsRead (with_step place a s) m d

-- one more step of a worker in the session that it is in
abbrev pub IsStepped : List Rule → ℕ → What → Current → Current → List SessionRecord → List SessionRecord → Type 0
IsStepped rules place a old new before after =
    (new.row ≡ old.row) × IsRowStepped rules place a old.notif new.notif old.capture new.capture before after old.row

-- an open session is its worker's current one, and what is read in it goes through that worker's capture
pub record StandsFor (rules : List Rule) (S : List Begun) (t : SessionTable) : Type 0 where
  pub rows : t.rows.items ≡ map (told (judging_by rules)) S
  pub newest : (j : ℕ) → j < length S → is_shut (session_in S j).steps ≡ false → (current t (session_in S j).worker).row ≡ Some j
  pub own : (w j : ℕ) → (current t w).row ≡ Some j → (j < length S) × ((session_in S j).worker ≡ w)
  pub read : (w j : ℕ) → (current t w).row ≡ Some j → IsRead (session_in S j) (current t w).notif (current t w).capture

-- all sessions of worker w are over
abbrev pub AllShut : ℕ → List Begun → Type 0
AllShut w S = (j : ℕ) → j < length S → (session_in S j).worker ≡ w → is_shut (session_in S j).steps ≡ true

-- the worker is in the same row, and where there is one, it has the same notification and capture
pub record IsSame (old new : Current) : Type 0 where
  pub row : new.row ≡ old.row
  pub same : (j : ℕ) → old.row ≡ Some j → new ≡ old

-- each worker is, and those that weren't there have no session
abbrev pub IsGrown : List Current → List Current → Type 0
IsGrown old new = (w : ℕ) → IsSame (get_or old w nobody) (get_or new w nobody)
