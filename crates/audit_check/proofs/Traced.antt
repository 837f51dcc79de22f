-- What is kept of the sessions and the installations gives the lines of a trail.
-- By induction on the events, with the row that is kept for each call's session (`session_row`).
use Rattle.std.proofs.Common.{◌≡◌, ℕ, ◌+◌, ◌<◌, Bool, List, [], ◌∷◌, ◌++◌, length, get_or, Option, Some, None, add-one, refl, sym, ap, ap₂, ◌∙◌, append_assoc, arith}
use Rattle.std.specs.Prelude.{if◌then◌else◌, map, option_map, replicate}
use Rattle.std.proofs.lemmas.List.{length-append, length-replicate}
use Rattle.hist_model.specs.Kinds.{notifies}
use Rattle.hist_model.specs.Look.{is_place, newest}
use Rattle.hist_model.specs.ReportAudit.{Judging}
use Rattle.hist_model.specs.ReportJournal.{lines_of}
use Rattle.hist_model.specs.declared.event.Event.{Event}
use Rattle.audit_log.specs.Begun.{Begun, told}
use Rattle.audit_log.specs.declared.session.SessionRecord.{SessionRecord}
use Rattle.audit_log.proofs.SessionFound.{finding_told}
use Rattle.audit_log.specs.Sessions.{begun}
use Rattle.audit_log.specs.Received.{TellsReceived}
use Rattle.audit_log.specs.Requests.{TellsInstalled}
use Rattle.audit_log.specs.Served.{TellsSessions, noted, row_at, session_for}
use Rattle.audit_log.proofs.ServedCalls.{length_noted, none_at, noted_at, session_row}
use Rattle.audit_check.specs.Trail.{installation, trace_text, traced, trail, trail_line}
use Rattle.audit_check.specs.Traced.{TellsAnswers, trace_of, traced_line}

-- ---- The loop

-- the events so far
abbrev pub answers : (ℕ → Option ℕ) → ℕ → ℕ → Bool
answers answered c j = is_place (answered j) c

pub record Answered (answered : ℕ → Option ℕ) (room i : ℕ) (found : List (Option ℕ)) : Type 0 where
  pub number : length found ≡ room
  pub tells : (c : ℕ) → c < room → get_or found c None ≡ newest (answers answered c) i

pub none_answered : (answered : ℕ → Option ℕ) (found : List (Option ℕ)) (room : ℕ) → found ≡ replicate room None → Answered answered room 0 found
unfolding newest
none_answered answered found room q = record { number = ap length q ∙ length-replicate room None; tells = λ c h. ap (λ xs. get_or xs c None) q ∙ none_at room c }

pub answered_more : (answered : ℕ → Option ℕ) (room i : ℕ) (found : List (Option ℕ)) → Answered answered room i found → Answered answered room (i + 1) (noted (answered i) i found)
unfolding newest
answered_more answered room i found h =
    let o = answered i in
    record {
      number = length_noted o i found ∙ h.number;
      tells = λ c k.
          let here : c < length found = omega (arith, h.number) in
          rw add-one (noted_at o i found c here ∙ ap (λ old. if is_place o c then Some i else old) (h.tells c k));
    }

-- the newest of all events
newest-is : (answered : ℕ → Option ℕ) (H later K : List Event) (c : ℕ) → H ≡ later ++ K → TellsInstalled H answered → newest (answers answered c) (length K) ≡ installation c K
unfolding newest installation
newest-is answered H later [] c q t = refl
newest-is answered H later (e ∷ K) c q t =
    let whole : H ≡ (later ++ e ∷ []) ++ K = q ∙ sym (append_assoc later (e ∷ []) K) in
    ap₂ (λ o old. if is_place o c then Some (length K) else old) (t later K e q) (newest-is answered H (later ++ e ∷ []) K c whole t)

pub all_answered : (answered : ℕ → Option ℕ) (room i : ℕ) (found : List (Option ℕ)) → i ≡ room → Answered answered room i found
    → (H : List Event) → length H ≡ room → TellsInstalled H answered → TellsAnswers H room found
all_answered answered room i found q h H l t c k = h.tells c k ∙ (ap (newest (answers answered c)) (q ∙ sym l) ∙ newest-is answered H [] H c refl t)

pub same_answers : (H : List Event) (room size : ℕ) (found same : List (Option ℕ)) → room ≡ size → found ≡ same → TellsAnswers H room found → TellsAnswers H size same
same_answers H room size found same q r h = rw (← q, ← r) h

-- ---- Lines

trace-same : (J : Judging) (s : Option Begun) (n : Option ℕ) → trace_of (option_map (told J) s) n ≡ traced J s n
trace-same J None n = refl
trace-same J (Some s) n = rw (finding_told J s) refl

module _ (J : Judging) (H : List Event) (rows : List SessionRecord) (calls : ℕ → Option ℕ) (served installed : List (Option ℕ)) (kept : rows ≡ map (told J) (begun H H)) (received : TellsReceived H calls)
    (sessions : TellsSessions calls rows (length H) served) (answers : TellsAnswers H (length H) installed) where
  line-same : (later K : List Event) (e : Event) → H ≡ later ++ e ∷ K → traced_line J rows served installed K e ≡ trail_line J H K e
  line-same later K e q =
      let size : length H ≡ length later + length (e ∷ K) = ap length q ∙ length-append later (e ∷ K) in
      let l : length K < length H = omega arith in
      let c = length K in
      let row : row_at rows (get_or served c None) ≡ option_map (told J) (session_for H c H) =
      session_row J calls H rows served kept received sessions c l in
      let trace : trace_of (row_at rows (get_or served c None)) (get_or installed c None) ≡ traced J (session_for H c H) (installation c H) =
      ap₂ trace_of row (answers c l) ∙ trace-same J (session_for H c H) (installation c H) in
      ap (λ t. if notifies e.what then trace_text J c t else []) trace

  lines-from : (later K : List Event) → H ≡ later ++ K → lines_of (traced_line J rows served installed) K ≡ lines_of (trail_line J H) K
  unfolding lines_of
  lines-from later [] q = refl
  lines-from later (e ∷ K) q =
      let whole : H ≡ (later ++ e ∷ []) ++ K = q ∙ sym (append_assoc later (e ∷ []) K) in
      ap₂ (λ text line. text ++ line) (lines-from (later ++ e ∷ []) K whole) (line-same later K e q)

  pub trail_same : lines_of (traced_line J rows served installed) H ≡ trail J H
  trail_same = lines-from [] H refl
