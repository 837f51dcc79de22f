-- What one more event makes of the sessions: a session whose worker took no step stays as it is, and so does one that is over.
-- By cases on whether the event is a step of the session's worker, and by induction on the events before.
use Rattle.std.proofs.Common.{inl, inr, ◌≡◌, ℕ, ◌<◌, ◌≤◌, Bool, true, false, ◌&&◌, not, List, [], ◌∷◌, length, Some, None, refl, sym, ap, ◌∙◌, append-nil, arith}
use Rattle.std.specs.Prelude.{Ok, map}
use Rattle.std.proofs.lemmas.Bool.{cases_Bool, eq-eqb, ne_eqb}
use Rattle.std.proofs.lemmas.List.{map-append}
use Rattle.hist_model.specs.Look.{ev, is_worker}
use Rattle.hist_model.specs.Kinds.{skips}
use Rattle.hist_model.specs.ReportAudit.{is_shut, joined, session_at, session_step}
use Rattle.hist_model.specs.Sessions.{fetched_by}
use Rattle.hist_model.specs.declared.event.Actor.{Actor}
use Rattle.hist_model.specs.declared.event.Actor.TheVariants.{Worker}
use Rattle.hist_model.specs.declared.event.Event.{Event}
use Rattle.hist_model.specs.declared.event.What.{What}
use Rattle.hist_model.specs.declared.event.What.TheVariants.{Recv}
use Rattle.sys_abi.specs.declared.wire.Notif.{Notif}
use Rattle.audit_log.specs.Begun.{Begun, with_step}
use Rattle.audit_log.specs.SessionStages.{stages_at, stages_step}
use Rattle.audit_log.specs.declared.session_stages.Stages.{Stages}
use Rattle.audit_log.proofs.SessionSteps.{shut_joined}
use Rattle.audit_log.specs.Sessions.{after_event, begun, begun_by, started, with_event}

-- ---- One session

-- its steps are as before
same_steps : (s : Begun) (own : List What) (t : Stages) → own ≡ s.steps → t ≡ s.stages → ◌≡◌ {A = Begun} (record { place = s.place; worker = s.worker; notif = s.notif; steps = own; stages = t }) s
same_steps s own t e f = rw (e, f) refl

not-joined : (b : Bool) (own : List What) (a : What) → is_shut own ≡ true → session_step false b own a ≡ own
not-joined true own a h = shut_joined own a h
not-joined false own a h = refl

not-staged : (b : Bool) (place : ℕ) (own : List What) (a : What) (t : Stages) → is_shut own ≡ true → stages_step false b place own a t ≡ t
not-staged true place own a t h = rw h refl
not-staged false place own a t h = refl

pub over_stays : (place : ℕ) (e : Event) (s : Begun) → is_shut s.steps ≡ true → with_event place e s ≡ s
over_stays place e s h =
    let b = is_worker e.who s.worker && not (skips e.what) in
    same_steps s (with_event place e s).steps (with_event place e s).stages (not-joined b s.steps e.what h) (not-staged b place s.steps e.what s.stages h)

not-own : (b : Bool) (own : List What) (a : What) → b ≡ false → session_step false b own a ≡ own
not-own b own a h = rw h refl

none-staged : (b : Bool) (place : ℕ) (own : List What) (a : What) (t : Stages) → b ≡ false → stages_step false b place own a t ≡ t
none-staged b place own a t h = rw h refl

idle-stays : (place : ℕ) (e : Event) (s : Begun) → (is_worker e.who s.worker && not (skips e.what)) ≡ false → with_event place e s ≡ s
idle-stays place e s h =
    let b = is_worker e.who s.worker && not (skips e.what) in
    same_steps s (with_event place e s).steps (with_event place e s).stages (not-own b s.steps e.what h) (none-staged b place s.steps e.what s.stages h)

left_false : (b t : Bool) → b ≡ false → (b && t) ≡ false
left_false b t h = rw h refl

right_false : (b t : Bool) → t ≡ false → (b && t) ≡ false
right_false true t h = h
right_false false t h = refl

pub other_stays : (place : ℕ) (e : Event) (s : Begun) → is_worker e.who s.worker ≡ false → with_event place e s ≡ s
other_stays place e s h = idle-stays place e s (left_false (is_worker e.who s.worker) (not (skips e.what)) h)

pub skip_stays : (place : ℕ) (e : Event) (s : Begun) → skips e.what ≡ true → with_event place e s ≡ s
skip_stays place e s h = idle-stays place e s (right_false (is_worker e.who s.worker) (not (skips e.what)) (ap not h))

pub own_step : (place w : ℕ) (a : What) (s : Begun) → s.worker ≡ w → skips a ≡ false → with_event place (ev (Worker w) a) s ≡ with_step place a s
own_step place w a s e h = rw (e, eq-eqb w w refl, h) refl

-- a session that isn't over wasn't
pub stays_open : (place : ℕ) (e : Event) (s : Begun) → is_shut (with_event place e s).steps ≡ false → is_shut s.steps ≡ false
stays_open place e s h = elim (cases_Bool (is_shut s.steps)) [
  | inl y ↦ let q : is_shut (with_event place e s).steps ≡ is_shut s.steps = ap (λ (t : Begun). is_shut t.steps) (over_stays place e s y) in cc (h, q, y)
  | inr n ↦ n
]

-- a received notification ends the worker's session before
pub receive_ends : (place w : ℕ) (n : Notif) (s : Begun) → s.worker ≡ w → is_shut (with_event place (ev (Worker w) (Recv (Ok n))) s).steps ≡ true
receive_ends place w n s e = ap (λ (t : Begun). is_shut t.steps) (own_step place w (Recv (Ok n)) s e refl) ∙ ends s.steps
  where
    ends : (own : List What) → is_shut (joined own (Recv (Ok n))) ≡ true
    ends [] = refl
    ends (b ∷ own) = by (is_shut (b ∷ own)) refl
      where
        by : (t : Bool) → is_shut (b ∷ own) ≡ t → is_shut (joined (b ∷ own) (Recv (Ok n))) ≡ true
        by true q = ap is_shut (shut_joined (b ∷ own) (Recv (Ok n)) q) ∙ q
        by false q = rw q refl

-- ---- All sessions

pub all_stay : (f : Begun → Begun) (S : List Begun) → ((s : Begun) → f s ≡ s) → map f S ≡ S
all_stay f [] h = refl
all_stay f (s ∷ S) h = rw (h s, all_stay f S h) refl

pub nothing_received : (place w : ℕ) (a : What) → fetched_by a ≡ None → started place (Worker w) a ≡ []
nothing_received place w (Recv (Ok n)) h = cc
nothing_received place w _ h = refl

pub was_received : (a : What) (n : Notif) → fetched_by a ≡ Some n → a ≡ Recv (Ok n)
was_received (Recv (Ok m)) n h = let q : m ≡ n = cc in ap (λ x. Recv (Ok x)) q
was_received _ n h = cc

skip-begins-none : (place w : ℕ) (a : What) → skips a ≡ true → started place (Worker w) a ≡ []
skip-begins-none place w (Recv (Ok n)) h = cc
skip-begins-none place w _ h = refl

-- a skip changes nothing
pub after_skip : (place w : ℕ) (a : What) (S : List Begun) → skips a ≡ true → after_event place (ev (Worker w) a) S ≡ S
after_skip place w a S h = rw (skip-begins-none place w a h, append-nil (map (with_event place (ev (Worker w) a)) S)) (all_stay (with_event place (ev (Worker w) a)) S (λ s. skip_stays place (ev (Worker w) a) s h))

no-worker : (who : Actor) (v : ℕ) → ((w : ℕ) → who ≡ Worker w → ⊥) → is_worker who v ≡ false
no-worker (Worker w) v h = absurd (h w refl)
no-worker _ v h = refl

begins-none : (place : ℕ) (who : Actor) (a : What) → ((w : ℕ) → who ≡ Worker w → ⊥) → started place who a ≡ []
begins-none place (Worker w) a h = absurd (h w refl)
begins-none place _ a h = refl

-- neither does an event of no worker
pub after_other : (place : ℕ) (e : Event) (S : List Begun) → ((w : ℕ) → e.who ≡ Worker w → ⊥) → after_event place e S ≡ S
after_other place e S h = rw (begins-none place e.who e.what h, append-nil (map (with_event place e) S)) (all_stay (with_event place e) S (λ s. other_stays place e s (no-worker e.who s.worker h)))

-- ---- The history

older-by : (e : Event) (H K : List Event) (who : Actor) (a : What) → length K < length H → begun_by (e ∷ H) K who a ≡ map (with_event (length H) e) (begun_by H K who a)
unfolding session_at stages_at
older-by e H K (Worker w) (Recv (Ok n)) l =
    let m : (length H ≡ length K → ⊥) = omega arith in
    rw (ne_eqb (length H) (length K) m) refl
older-by e H K _ _ l = refl

older : (e : Event) (H K : List Event) → length K ≤ length H → begun (e ∷ H) K ≡ map (with_event (length H) e) (begun H K)
unfolding begun
older e H [] l = refl
older e H (f ∷ K) l = rw (older e H K (omega arith), older-by e H K f.who f.what (omega arith)) (sym (map-append (with_event (length H) e) (begun H K) (begun_by H K f.who f.what)))

newest-by : (H : List Event) (who : Actor) (a : What) → begun_by (ev who a ∷ H) H who a ≡ started (length H) who a
unfolding session_at stages_at
newest-by H (Worker w) (Recv (Ok n)) = rw (eq-eqb (length H) (length H) refl) refl
newest-by H _ _ = refl

-- the sessions with one more event
pub begun_more : (e : Event) (H : List Event) → begun (e ∷ H) (e ∷ H) ≡ after_event (length H) e (begun H H)
unfolding begun
begun_more e H = rw (older e H H (omega arith), newest-by H e.who e.what) refl

pub begun_none : begun [] [] ≡ []
unfolding begun
begun_none = refl
