-- What a session has still to say, and what its calls do to that.
use Rattle.std.specs.Prelude.{◌≡◌, ℕ, ◌≤◌, true, List, [], ◌∷◌, ◌++◌, length}
use Rattle.hist_model.specs.Legal.{started}
use Rattle.hist_model.specs.declared.event.Event.{Event}
use Rattle.step_session.specs.declared.origin.Origin.{Origin}
use Rattle.hist_model.specs.declared.script.Script.{Script}
use Rattle.io_edge.specs.SinkState.{SinkState}
use Rattle.step_session.specs.Judged.{IsJudged}
use Rattle.step_session.specs.declared.judged.JudgedContainer.{JudgedContainer}
use Rattle.step_session.specs.Lines.{answers, line_answer, long_text, longest, request_lines}
use Rattle.step_session.specs.declared.begun.Begun.{Begun}
use Rattle.step_session.specs.declared.begun.Begun.TheVariants.{Line, TooLong}
use Rattle.step_session.specs.declared.session.Session.{Session}

-- ---- the line that is begun

-- bytes without a line's end, before lines: the first line goes on behind them
abbrev pub before_lines : List ℕ → List (List ℕ) → List (List ℕ)
before_lines [] lines = lines
before_lines (b ∷ bytes) [] = (b ∷ bytes) ∷ []
before_lines (b ∷ bytes) (line ∷ lines) = ((b ∷ bytes) ++ line) ∷ lines

abbrev pub behind_first : List (List ℕ) → List (List ℕ)
behind_first [] = []
behind_first (line ∷ lines) = lines

-- the answers to the line that is begun and to those behind it, where these bytes follow
abbrev pub rest_answers : Origin → Script → List Event → Begun → List ℕ → List ℕ
rest_answers P S K (Line kept) rest = answers P S K (before_lines kept.items (request_lines rest))
rest_answers P S K TooLong rest = long_text ++ answers P S K (behind_first (request_lines rest))

-- the line goes on with these bytes
abbrev pub GoesOn : Begun → List ℕ → Begun → Type 0
GoesOn old bytes new =
    (P : Origin) (S : Script) (K : List Event) (rest : List ℕ) → rest_answers P S K old (bytes ++ rest) ≡ rest_answers P S K new rest

-- no more is kept than a line has
abbrev pub IsBounded : Begun → Type 0
IsBounded (Line kept) = length kept.items ≤ longest
IsBounded TooLong = Unit {0}

-- no line is begun
abbrev pub IsFresh : Begun → Type 0
IsFresh (Line kept) = kept.items ≡ []
IsFresh TooLong = ⊥

-- ---- one line

-- the line was answered
abbrev pub IsLineAnswered : Origin → List ℕ → JudgedContainer → List ℕ → JudgedContainer → List ℕ → Type 0
IsLineAnswered P line old before new after =
    (S : Script) (K : List Event) → IsJudged P S K old
    → IsJudged P S (line_answer P S K line).0 new × (after ≡ before ++ (line_answer P S K line).1)

-- ---- sessions

-- the session of a container that was started, of which nothing was asked yet
pub record IsNew (P : Origin) (S : Script) (s : Session) : Type 0 where
  pub stands : IsJudged P S (started S) s.container
  pub begun : IsFresh s.begun
  pub answers : s.answers ≡ []

-- what a session has still to say, where these bytes follow: the answers that aren't written yet, and those to what follows
abbrev pub owed : Origin → Script → List Event → Session → List ℕ → List ℕ
owed P S K s rest = s.answers ++ rest_answers P S K s.begun rest

-- bytes begin with a front
abbrev pub Begins : List ℕ → List ℕ → Type 0
Begins bytes front = (more : List ℕ) × (bytes ≡ front ++ more)

-- A sink took something more, or nothing.
pub record Adds (old new : SinkState) : Type 0 where
  pub tells : new.tells ≡ old.tells
  pub faults : old.faults ≤ new.faults
  pub taken : old.tells ≡ true → Begins new.taken old.taken

-- with this history, what the sink has taken and the session has still to say is what it was in the end to be
pub record Says (P : Origin) (S : Script) (K : List Event) (old : Session) (out : SinkState) (bytes : List ℕ)
    (new : Session) (after : SinkState) (left : List ℕ) : Type 0 where
  pub history : List Event
  pub stands : IsJudged P S history new.container
  pub same : (rest : List ℕ) → out.tells ≡ true
      → out.taken ++ owed P S K old (bytes ++ rest) ≡ after.taken ++ owed P S history new (left ++ rest)

-- A session that had bytes before it has others left: all that the sink takes in the end stays the same.
pub record Continues (P : Origin) (old : Session) (out : SinkState) (bytes : List ℕ)
    (new : Session) (after : SinkState) (left : List ℕ) : Type 0 where
  pub adds : Adds out after
  pub says : (S : Script) (K : List Event) → IsJudged P S K old.container → Says P S K old out bytes new after left

-- the sink took all that a session had still to say, where these bytes were what followed
abbrev pub TookOwed : Origin → Session → List ℕ → SinkState → SinkState → Type 0
TookOwed P s bytes out after =
    (S : Script) (K : List Event) → IsJudged P S K s.container → out.tells ≡ true → after.taken ≡ out.taken ++ owed P S K s bytes

-- it took a front of that
abbrev pub TookFront : Origin → Session → List ℕ → SinkState → SinkState → Type 0
TookFront P s bytes out after =
    (S : Script) (K : List Event) → IsJudged P S K s.container → out.tells ≡ true → Begins (out.taken ++ owed P S K s bytes) after.taken

-- A session that had bytes before it stopped: the sink has a front of all that it would have taken, whatever had followed.
pub record Stops (P : Origin) (old : Session) (out : SinkState) (bytes : List ℕ) (after : SinkState) : Type 0 where
  pub adds : Adds out after
  pub front : (rest : List ℕ) → TookFront P old (bytes ++ rest) out after

-- nothing follows: all that is still to be said are the answers that aren't written yet
abbrev pub Ends : Origin → Session → Session → Type 0
Ends P old new = (S : Script) (K : List Event) → IsJudged P S K old.container → owed P S K old [] ≡ new.answers
