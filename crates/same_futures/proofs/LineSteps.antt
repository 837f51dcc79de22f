-- What one more event makes of the lines of a task: it moves the newest line of its own task, the line of its worker's session, and that of the call which it receives.
-- By what it makes of each call and of each session; which line that is, is told by numbers and names, and by no place.
use Rattle.std.proofs.Common.{◌≡◌, inl, inr, ℕ, suc, ◌+◌, ◌<◌, ◌≤◌, Bool, true, false, ◌&&◌, ◌||◌, not, ◌==◌, List, [], ◌∷◌, ◌++◌, length, map, Option, Some, None, refl, sym, ap, ap₂, ◌∙◌, subst, append_assoc, arith}
use Rattle.std.specs.Prelude.{cond, find, if◌then◌else◌, is_some, option_map, Ok}
use Rattle.std.specs.List.{list_any}
use Rattle.std.proofs.lemmas.Bool.{and_parts, both_ways, cases_order, eq-eqb, eqb-true, ne_eqb}
use Rattle.std.proofs.lemmas.List.{length-append, map-append}
use Rattle.sys_abi.specs.declared.wire.Notif.{Notif}
use Rattle.hist_model.specs.Calls.{actor_in, caller}
use Rattle.hist_model.specs.Kinds.{enters, is_letgo, is_sent, misses_call, skips, starts}
use Rattle.hist_model.specs.Legal.{is_open_session}
use Rattle.hist_model.specs.Look.{Name, ev, event_at, is_place, is_task, is_worker, name_eq, or_else}
use Rattle.hist_model.specs.ReportAudit.{Judging, call_with_id, finding, has_begun, installed, is_notified, is_shut, joined, number_given, session_at, session_step}
use Rattle.hist_model.specs.ReportCalls.{is_inside, is_pending, newest_call, outcome, outcome_at_entry, outcome_step}
use Rattle.hist_model.specs.Sessions.{any_of, fetched_by, notif_of, or_some, session}
use Rattle.hist_model.specs.declared.event.Actor.{Actor}
use Rattle.hist_model.specs.declared.event.Actor.TheVariants.{Worker}
use Rattle.hist_model.specs.declared.event.Event.{Event}
use Rattle.hist_model.specs.declared.event.What.{What}
use Rattle.hist_model.specs.declared.event.What.TheVariants.{Enter, Install, Recv}
use Rattle.hist_model.specs.declared.report.Finding.{Finding}
use Rattle.hist_model.specs.declared.report.Finding.TheVariants.{Open}
use Rattle.hist_model.specs.declared.script.Script.{Script}
use Rattle.hist_model.proofs.Look.{event_at-below, event_at-here, event_at-older, name_eq-refl, name_eq-true}
use Rattle.audit_log.specs.Begun.{Begun}
use Rattle.audit_log.specs.Served.{session_by, session_for}
use Rattle.audit_log.specs.Sessions.{with_event}
use Rattle.audit_log.specs.SessionStages.{is_done, no_stages, place_if, stages_at, stages_joined, stages_step, with_stage}
use Rattle.audit_log.specs.declared.session_stages.Stages.{Stages}
use Rattle.audit_log.proofs.Newest.{newest_not_past}
use Rattle.audit_log.proofs.Opened.{open_is_own}
use Rattle.audit_log.proofs.ReceivedCalls.{newest_named}
use Rattle.audit_log.proofs.Recorded.{not_yet, task_of}
use Rattle.audit_log.proofs.SessionSteps.{open_joined, shut_joined}
use Rattle.outcome_text.specs.Outcomes.{calls_of, did, is_call_of}
use Rattle.outcome_text.specs.Sight.{done_on, marked, marks}
use Rattle.outcome_text.specs.declared.mark.Mark.{Mark}
use Rattle.outcome_lines.specs.Lines.{gathered, has_place, in_hand_by, line_at, line_of, sight_by, sight_by_mark, sight_in, sight_of, told_if, told_of, unnamed}
use Rattle.outcome_lines.specs.declared.line.Line.{Line}
use Rattle.outcome_lines.specs.declared.line.Sight.{Sight}
use Rattle.outcome_lines.specs.declared.line.Told.{Told}
use Rattle.outcome_lines.proofs.Texts.{AreBelow, marks-below}

-- ---- What an event makes of a line

-- what is known beside a line: the judging, how many calls its task has entered, whose call is the next to be received, the steps of
-- the open session of the event's worker, and the node on which the event was done
pub record Known : Type 0 where
  pub judging : Judging
  pub calls : ℕ
  pub received : Option Name
  pub steps : List What
  pub node : Option ℕ

abbrev pub is_of : Option Name → Name → Bool
is_of (Some m) n = name_eq m n
is_of None n = false

-- the event is a step of the line's task in the line's call
abbrev pub is_own : Known → Actor → Line → Bool
is_own k who l = is_task who l.name && (l.number == k.calls)

-- a number was given before, or the step gives one
abbrev pub is_given : Bool → What → Bool → Bool
is_given true (Install (Ok n)) before = true
is_given _ _ before = before

abbrev pub finding_if : Judging → Option Notif → List What → Finding
finding_if J None own = Open
finding_if J (Some n) own = finding J n own

abbrev pub sight_on : What → Option ℕ → Option Sight
sight_on a None = None
sight_on a (Some n) = sight_of a n

-- the session in hand with one more step of its worker
abbrev pub told_next : Known → ℕ → What → Told → Told
told_next k w a t = record {
  worker = if is_shut (a ∷ k.steps) then None else Some w;
  finding = finding_if k.judging (notif_of k.steps) (a ∷ k.steps);
  sent = list_any is_sent (a ∷ k.steps);
  lost = list_any misses_call (a ∷ k.steps);
  did = did false (a ∷ k.steps);
  did_unseen = did true (a ∷ k.steps);
  sight = if is_done a && not (list_any is_done k.steps) then sight_on a k.node else t.sight;
}

abbrev pub told_by : Known → Actor → What → Told → Option ℕ → Told
told_by k who a t (Some w) = if is_worker who w && not (skips a) then told_next k w a t else t
told_by k who a t None = t

-- a session after an event
abbrev pub told_after : Known → Actor → What → Told → Told
told_after k who a t = told_by k who a t t.worker

-- a session that has just begun
abbrev pub first_told : Judging → ℕ → Notif → Told
first_told J w n = told_of J [] [] (record { place = 0; worker = w; notif = n; steps = Recv (Ok n) ∷ []; stages = no_stages })

-- the session that the event begins for the line's call, if it does
abbrev pub told_first : Known → Actor → What → Bool → Option Told
told_first k (Worker w) (Recv (Ok n)) own = if own then Some (first_told k.judging w n) else None
told_first k _ _ own = None

abbrev pub is_received : Known → Line → Bool
is_received k l = is_of k.received l.name && (l.number == k.calls)

abbrev pub line_after : Known → Actor → What → Line → Line
line_after k who a l = record {
  name = l.name;
  number = l.number;
  nr = l.nr;
  verdict = l.verdict;
  came = outcome_step false (is_own k who l) l.came a;
  installed = is_given (is_own k who l && is_pending l.came) a l.installed;
  session = or_some (told_first k who a (is_received k l)) (option_map (told_after k who a) l.session);
}

-- the line of a call that has just been entered, behind so many calls of its task
abbrev pub first_line : Name → ℕ → What → List Line
first_line n calls (Enter nr args verdict) = record {
  name = n;
  number = calls + 1;
  nr = nr;
  verdict = unnamed verdict;
  came = outcome_at_entry (Enter nr args verdict);
  installed = false;
  session = None;
} ∷ []
first_line n calls _ = []

abbrev pub new_line : Name → ℕ → Actor → What → List Line
new_line n calls who a = if is_call_of n (ev who a) then first_line n calls a else []

-- ---- Lists of marks

module _ (e : Event) (K : List Event) (o : Option ℕ) where
  -- what a mark of an event before shows is still there
  old-mark : (p : ℕ) → p < length K → (ms : List Mark) → AreBelow (length K) ms
      → sight_by_mark (e ∷ K) (find (has_place p) (ms ++ marked (length K) o)) ≡ sight_by_mark K (find (has_place p) ms)
  old-mark p l [] b = last o
    where
      last : (o : Option ℕ) → sight_by_mark (e ∷ K) (find (has_place p) (marked (length K) o)) ≡ None
      last None = refl
      last (Some x) = let z : (length K == p) ≡ false = ne_eqb (length K) p (λ q. omega arith) in rw z refl
  old-mark p l (m ∷ ms) b = by (m.place == p) (old-mark p l ms b.1)
    where
      by : (t : Bool) → sight_by_mark (e ∷ K) (find (has_place p) (ms ++ marked (length K) o)) ≡ sight_by_mark K (find (has_place p) ms)
          → sight_by_mark (e ∷ K) (cond t (Some m) (find (has_place p) (ms ++ marked (length K) o))) ≡ sight_by_mark K (cond t (Some m) (find (has_place p) ms))
      by true older = ap (λ (x : Option Event). sight_by x m.node.ordinal) (event_at-older e K m.place b.0)
      by false older = older

  new-mark : (ms : List Mark) → AreBelow (length K) ms → sight_by_mark (e ∷ K) (find (has_place (length K)) (ms ++ marked (length K) o)) ≡ sight_on e.what o
  new-mark [] b = last o
    where
      last : (o : Option ℕ) → sight_by_mark (e ∷ K) (find (has_place (length K)) (marked (length K) o)) ≡ sight_on e.what o
      last None = refl
      last (Some x) = rw (eq-eqb (length K) (length K) refl, event_at-here e K) refl
  new-mark (m ∷ ms) b = let z : (m.place == length K) ≡ false = ne_eqb m.place (length K) (λ q. omega (arith, q, b.0)) in rw z (new-mark ms b.1)

-- ---- A session

-- what is so of the steps of a session that began with this notification, and of the place of its effect
pub record IsSession (n : Notif) (own : List What) (effect : Option ℕ) (size : ℕ) : Type 0 where
  pub effect_is : is_some effect ≡ list_any is_done own
  pub below : (p : ℕ) → effect ≡ Some p → p < size
  pub open_is : is_shut own ≡ false → (notif_of own ≡ Some n) × (is_open_session own ≡ true)

session-first : (n : Notif) (size : ℕ) → IsSession n (Recv (Ok n) ∷ []) None size
session-first n size = record { effect_is = refl; below = λ p q. cc; open_is = λ q. (refl, refl) }

session-same : (n : Notif) (own : List What) (effect : Option ℕ) (size : ℕ) → IsSession n own effect size → IsSession n own effect (size + 1)
session-same n own effect size s = record { effect_is = s.effect_is; below = λ p q. let l = s.below p q in omega arith; open_is = s.open_is }

-- with one more step of an open session
module _ (n : Notif) (a : What) (own : List What) (effect : Option ℕ) (size : ℕ) (s : IsSession n own effect size) (u : is_shut own ≡ false) where
  effect-joined : (d : Bool) (o : Option ℕ) (t : Bool) → is_some o ≡ t → is_some (or_else o (place_if d size)) ≡ (d || t)
  effect-joined true None t q = refl
  effect-joined false None t q = q
  effect-joined true (Some p) t q = refl
  effect-joined false (Some p) t q = q

  below-joined : (d : Bool) (o : Option ℕ) → ((p : ℕ) → o ≡ Some p → p < size) → (p : ℕ) → or_else o (place_if d size) ≡ Some p → p < size + 1
  below-joined true None b p q = let z : size ≡ p = cc in omega arith
  below-joined false None b p q = cc
  below-joined d (Some x) b p q = let l = b p q in omega arith

  no-start : (w : What) → starts w ≡ false → fetched_by w ≡ None
  no-start (Recv (Ok m)) h = cc
  no-start w h = refl

  begun : (own : List What) → is_shut own ≡ false → has_begun own ≡ true
  begun [] h = cc
  begun (b ∷ more) h = refl

  open-joined : (x y z : Bool) → y ≡ true → (x || (z && y)) ≡ false → (x ≡ false) × (z ≡ false)
  open-joined true y z q h = cc
  open-joined false y true q h = let r : y ≡ false = h in absurd (both_ways y r q)
  open-joined false y false q h = (refl, refl)

  still-open : (own : List What) (x : Bool) → x ≡ false → is_open_session own ≡ true → not (x || any_of is_letgo own) ≡ true
  still-open [] x q h = cc
  still-open (b ∷ more) x q h = rw q h

  session-joined : IsSession n (a ∷ own) (or_else effect (place_if (is_done a) size)) (size + 1)
  session-joined = record {
    effect_is = effect-joined (is_done a) effect (list_any is_done own) s.effect_is;
    below = below-joined (is_done a) effect s.below;
    open_is = λ h.
        let p = open-joined (is_letgo a) (has_begun own) (starts a) (begun own u) h in
        let o = s.open_is u in
        (rw (no-start a p.1) o.0, still-open own (is_letgo a) p.0 o.1);
  }

-- with one more event
session-more : (n : Notif) (b : Bool) (a : What) (own : List What) (st : Stages) (size : ℕ) → IsSession n own st.effect size
    → IsSession n (session_step false b own a) (stages_step false b size own a st).effect (size + 1)
session-more n false a own st size s = session-same n own st.effect size s
session-more n true a own st size s = by (is_shut own) refl
  where
    by : (t : Bool) → is_shut own ≡ t → IsSession n (joined own a) (stages_joined size own a st).effect (size + 1)
    by true q = rw q (session-same n own st.effect size s)
    by false q = rw q (session-joined n a own st.effect size s q)

-- so it is of each session of a history
session-is : (w r : ℕ) (n : Notif) (K : List Event) → event_at K r ≡ Some (ev (Worker w) (Recv (Ok n))) → IsSession n (session_at w r K) (stages_at w r K).effect (length K)
unfolding session_at stages_at event_at
session-is w r n [] e = cc
session-is w r n (f ∷ K) e = elim (cases_order r (length K)) [
  | inl q ↦
      let s : Some f ≡ Some (ev (Worker w) (Recv (Ok n))) = sym (event_at-here f K) ∙ (ap (event_at (f ∷ K)) (sym q) ∙ e) in
      let z : f ≡ ev (Worker w) (Recv (Ok n)) = cc s in
      rw (z, q, eq-eqb (length K) (length K) refl) (session-first n (length (f ∷ K)))
  | inr o ↦ elim o [
    | inl l ↦
        let m : (length K ≡ r → ⊥) = (λ q. omega arith) in
        rw (ne_eqb (length K) r m) (more (session-is w r n K (sym (event_at-older f K r l) ∙ e)))
    | inr l ↦ let b = event_at-below (f ∷ K) r (ev (Worker w) (Recv (Ok n))) e in absurd (omega arith)
  ]
]
  where
    more : IsSession n (session_at w r K) (stages_at w r K).effect (length K)
        → IsSession n (session_step false (is_worker f.who w && not (skips f.what)) (session_at w r K) f.what) (stages_step false (is_worker f.who w && not (skips f.what)) (length K) (session_at w r K) f.what (stages_at w r K)).effect (suc (length K))
    more s = let z : length K + 1 ≡ suc (length K) = omega arith in
        subst (λ size. IsSession n (session_step false (is_worker f.who w && not (skips f.what)) (session_at w r K) f.what) (stages_step false (is_worker f.who w && not (skips f.what)) (length K) (session_at w r K) f.what (stages_at w r K)).effect size) z
        (session-more n (is_worker f.who w && not (skips f.what)) f.what (session_at w r K) (stages_at w r K) (length K) s)

-- ---- A session after an event

-- the session was begun in the history
pub record StandsIn (K : List Event) (s : Begun) : Type 0 where
  pub begun_at : event_at K s.place ≡ Some (ev (Worker s.worker) (Recv (Ok s.notif)))
  pub steps_are : s.steps ≡ session_at s.worker s.place K
  pub stages_are : s.stages ≡ stages_at s.worker s.place K

event-in : (later : List Event) (f : Event) (M : List Event) → event_at (later ++ f ∷ M) (length M) ≡ Some f
event-in [] f M = event_at-here f M
event-in (g ∷ later) f M = event_at-older g (later ++ f ∷ M) (length M) (omega (arith, length-append later (f ∷ M))) ∙ event-in later f M

-- a session that began with an event of the history K
abbrev begun_in : List Event → ℕ → ℕ → Notif → Begun
begun_in K r w n = record { place = r; worker = w; notif = n; steps = session_at w r K; stages = stages_at w r K }

-- the session that worker w begins with a step after K
abbrev one_step : List Event → ℕ → Notif → What → Begun
one_step K w m x = record { place = length K; worker = w; notif = m; steps = x ∷ []; stages = no_stages }

module _ (K : List Event) (c : ℕ) (s : Begun) where
  stands-by : (who : Actor) (a : What) (later M : List Event) → K ≡ later ++ ev who a ∷ M → session_by K c M who a ≡ Some s → StandsIn K s
  stands-by (Worker w) (Recv (Ok n)) later M q h = by (is_place (call_with_id n.id M) c) h
    where
      here : event_at K (length M) ≡ Some (ev (Worker w) (Recv (Ok n)))
      here = ap (λ L. event_at L (length M)) q ∙ event-in later (ev (Worker w) (Recv (Ok n))) M

      by : (b : Bool) → (if b then Some (begun_in K (length M) w n) else None) ≡ Some s → StandsIn K s
      by true h = let is : begun_in K (length M) w n ≡ s = cc in subst (λ (x : Begun). StandsIn K x) is (record { begun_at = here; steps_are = refl; stages_are = refl })
      by false h = cc
  stands-by _ _ later M q h = cc

  stands : (later M : List Event) → K ≡ later ++ M → session_for K c M ≡ Some s → StandsIn K s
  unfolding session_for
  stands later [] q h = cc
  stands later (f ∷ M) q h = by (session_by K c M f.who f.what) refl h (stands (later ++ f ∷ []) M (q ∙ sym (append_assoc later (f ∷ []) M)))
    where
      by : (o : Option Begun) → session_by K c M f.who f.what ≡ o → or_some o (session_for K c M) ≡ Some s → (session_for K c M ≡ Some s → StandsIn K s) → StandsIn K s
      by None r older rest = rest older
      by (Some t) r here rest = stands-by f.who f.what later M q (r ∙ here)

-- the steps of an open session, and none of another one
abbrev pub open_steps : List What → List What
open_steps own = if is_open_session own then own else []

abbrev pub steps_in : List Event → Actor → List What
steps_in K (Worker w) = open_steps (session K w)
steps_in K _ = []

own-steps : (K : List Event) (who : Actor) (v r : ℕ) (n : Notif) → event_at K r ≡ Some (ev (Worker v) (Recv (Ok n))) → is_shut (session_at v r K) ≡ false → is_worker who v ≡ true
    → steps_in K who ≡ session_at v r K
own-steps K (Worker w) v r n e h q =
    let i : w ≡ v = eqb-true w v q in
    let same : session_at v r K ≡ session K v = open_is_own v r n K e h in
    let on : is_open_session (session_at v r K) ≡ true = ((session-is v r n K e).open_is h).1 in
    rw (i, ← same, on) refl
own-steps K _ v r n e h q = cc

or-mapped : {A B : Type 0} (f : A → B) (x y : Option A) → or_some (option_map f x) (option_map f y) ≡ option_map f (or_some x y)
or-mapped f None y = refl
or-mapped f (Some x) y = refl

if-mapped : {A B : Type 0} (b : Bool) (f : A → B) (x : B) (y : A) → x ≡ f y → (if b then Some x else None) ≡ option_map f (if b then Some y else None)
if-mapped true f x y q = ap Some q
if-mapped false f x y q = refl

module _ (J : Judging) (S : Script) (who : Actor) (a : What) (K : List Event) where
  abbrev H : List Event
  H = ev who a ∷ K

  abbrev node : Option ℕ
  node = done_on S H who a

  -- ---- what is seen of its effect

  marks-more : marks S H ≡ marks S K ++ marked (length K) node
  unfolding marks
  marks-more = refl

  sight-old : (o : Option ℕ) → ((p : ℕ) → o ≡ Some p → p < length K) → sight_in H (marks S H) o ≡ sight_in K (marks S K) o
  sight-old None b = refl
  sight-old (Some p) b = ap (λ ms. sight_by_mark H (find (has_place p) ms)) marks-more ∙ old-mark (ev who a) K node p (b p refl) (marks S K) (marks-below S K)

  sight-new : sight_in H (marks S H) (Some (length K)) ≡ sight_on a node
  sight-new = ap (λ ms. sight_by_mark H (find (has_place (length K)) ms)) marks-more ∙ new-mark (ev who a) K node (marks S K) (marks-below S K)

  sight-joined : (o : Option ℕ) (t : Bool) → is_some o ≡ t → ((p : ℕ) → o ≡ Some p → p < length K) → (d : Bool)
      → sight_in H (marks S H) (or_else o (place_if d (length K))) ≡ (if d && not t then sight_on a node else sight_in K (marks S K) o)
  sight-joined (Some p) true q b true = sight-old (Some p) b
  sight-joined (Some p) true q b false = sight-old (Some p) b
  sight-joined None false q b true = sight-new
  sight-joined None false q b false = refl
  sight-joined (Some p) false q b d = cc
  sight-joined None true q b d = cc

  -- ---- what is told of it

  -- what is known beside the lines of task n
  abbrev pub known : Name → Option Name → Known
  known n received = record { judging = J; calls = calls_of n K; received = received; steps = steps_in K who; node = node }

  told-old : (s : Begun) → IsSession s.notif s.steps s.stages.effect (length K) → told_of J (marks S H) H s ≡ told_of J (marks S K) K s
  told-old s i = ap (λ (x : Option Sight). record {
    worker = in_hand_by s;
    finding = finding J s.notif s.steps;
    sent = list_any is_sent s.steps;
    lost = list_any misses_call s.steps;
    did = did false s.steps;
    did_unseen = did true s.steps;
    sight = x;
  }) (sight-old s.stages.effect i.below)

  module _ (n : Name) (received : Option Name) (s : Begun) where
    abbrev with_parts : List What → Stages → Begun
    with_parts own st = record { place = s.place; worker = s.worker; notif = s.notif; steps = own; stages = st }

    told-joined : IsSession s.notif s.steps s.stages.effect (length K) → is_shut s.steps ≡ false → steps_in K who ≡ s.steps
        → told_of J (marks S H) H (with_parts (a ∷ s.steps) (with_stage (length K) s.steps a s.stages))
        ≡ told_next (known n received) s.worker a (told_of J (marks S K) K s)
    told-joined i u q = rw (q, (i.open_is u).0, sight-joined s.stages.effect (list_any is_done s.steps) i.effect_is i.below (is_done a)) refl

    shut-stages : is_shut s.steps ≡ true → stages_joined (length K) s.steps a s.stages ≡ s.stages
    shut-stages u = rw u refl

    open-stages : is_shut s.steps ≡ false → stages_joined (length K) s.steps a s.stages ≡ with_stage (length K) s.steps a s.stages
    open-stages u = rw u refl

    moved-by : IsSession s.notif s.steps s.stages.effect (length K) → (is_shut s.steps ≡ false → is_worker who s.worker ≡ true → steps_in K who ≡ s.steps)
        → (t : Bool) → is_shut s.steps ≡ t → (b : Bool) → (is_worker who s.worker && not (skips a)) ≡ b
        → told_of J (marks S H) H (with_parts (session_step false b s.steps a) (stages_step false b (length K) s.steps a s.stages))
        ≡ told_by (known n received) who a (told_of J (marks S K) K s) (if t then None else Some s.worker)
    moved-by i own true u false q = told-old s i
    moved-by i own false u false q = rw q (told-old s i)
    moved-by i own true u true q = ap₂ (λ steps st. told_of J (marks S H) H (with_parts steps st)) (shut_joined s.steps a u) (shut-stages u) ∙ told-old s i
    moved-by i own false u true q =
        ap₂ (λ steps st. told_of J (marks S H) H (with_parts steps st)) (open_joined s.steps a u) (open-stages u)
        ∙ rw q (told-joined i u (own u (and_parts (is_worker who s.worker) (not (skips a)) q).0))

    told-moved : StandsIn K s → told_of J (marks S H) H (with_event (length K) (ev who a) s) ≡ told_after (known n received) who a (told_of J (marks S K) K s)
    told-moved t = moved-by is own (is_shut s.steps) refl (is_worker who s.worker && not (skips a)) refl
      where
        is : IsSession s.notif s.steps s.stages.effect (length K)
        is =
            subst (λ (steps : List What). IsSession s.notif steps s.stages.effect (length K)) (sym t.steps_are)
            (subst (λ (st : Stages). IsSession s.notif (session_at s.worker s.place K) st.effect (length K)) (sym t.stages_are)
            (session-is s.worker s.place s.notif K t.begun_at))

        own : is_shut s.steps ≡ false → is_worker who s.worker ≡ true → steps_in K who ≡ s.steps
        own u w = own-steps K who s.worker s.place s.notif t.begun_at (ap is_shut (sym t.steps_are) ∙ u) w ∙ sym t.steps_are

  -- ---- the sessions of a call

  older-by : (c : ℕ) (M : List Event) (v : Actor) (b : What) → length M < length K → session_by H c M v b ≡ option_map (with_event (length K) (ev who a)) (session_by K c M v b)
  unfolding session_at stages_at
  older-by c M (Worker w) (Recv (Ok n)) l =
      let m : (length K ≡ length M → ⊥) = (λ q. omega arith) in
      if-mapped (is_place (call_with_id n.id M) c) (with_event (length K) (ev who a)) (begun_in H (length M) w n) (begun_in K (length M) w n) (rw (ne_eqb (length K) (length M) m) refl)
  older-by c M _ _ l = refl

  session-older : (c : ℕ) (M : List Event) → length M ≤ length K → session_for H c M ≡ option_map (with_event (length K) (ev who a)) (session_for K c M)
  unfolding session_for
  session-older c [] l = refl
  session-older c (f ∷ M) l =
      ap₂ (λ x y. or_some x y) (older-by c M f.who f.what (omega arith)) (session-older c M (omega arith))
      ∙ or-mapped (with_event (length K) (ev who a)) (session_by K c M f.who f.what) (session_for K c M)

  module _ (n : Name) (received : Option Name) (c : ℕ) where
    told-older : told_if J (marks S H) H (session_for H c K) ≡ option_map (told_after (known n received) who a) (told_if J (marks S K) K (session_for K c K))
    told-older = ap (told_if J (marks S H) H) (session-older c K (omega arith)) ∙ by (session_for K c K) refl
      where
        by : (o : Option Begun) → session_for K c K ≡ o
            → told_if J (marks S H) H (option_map (with_event (length K) (ev who a)) o) ≡ option_map (told_after (known n received) who a) (told_if J (marks S K) K o)
        by None q = refl
        by (Some s) q = ap Some (told-moved n received s (stands K c s [] K refl q))

  first-by : (c : ℕ) (b : Bool) (v : Actor) (x : What) → v ≡ who → x ≡ a → ((w : ℕ) (m : Notif) → who ≡ Worker w → a ≡ Recv (Ok m) → is_place (call_with_id m.id K) c ≡ b) → (k : Known) → k.judging ≡ J
      → told_if J (marks S H) H (session_by H c K v x) ≡ told_first k v x b
  unfolding session_at stages_at
  first-by c b (Worker w) (Recv (Ok m)) p q named k j = rw (named w m (sym p) (sym q), eq-eqb (length K) (length K) refl) (last b)
    where
      first : told_of J (marks S H) H (one_step K w m a) ≡ first_told k.judging w m
      first = ap (λ (x : What). told_of J (marks S H) H (one_step K w m x)) (sym q) ∙ ap (λ (I : Judging). first_told I w m) (sym j)

      last : (b : Bool) → told_if J (marks S H) H (if b then Some (one_step K w m a) else None) ≡ (if b then Some (first_told k.judging w m) else None)
      last true = ap Some first
      last false = refl
  first-by c b _ _ p q named k j = refl

  told-joins : (x y : Option Begun) → told_if J (marks S H) H (or_some x y) ≡ or_some (told_if J (marks S H) H x) (told_if J (marks S H) H y)
  told-joins None y = refl
  told-joins (Some x) y = refl

  session-top : (c : ℕ) → session_for H c H ≡ or_some (session_by H c K who a) (session_for H c K)
  unfolding session_for
  session-top c = refl

  -- what is told of the session of a call
  told-next : (n : Name) (received : Option Name) (c : ℕ) (b : Bool) → ((w : ℕ) (m : Notif) → who ≡ Worker w → a ≡ Recv (Ok m) → is_place (call_with_id m.id K) c ≡ b)
      → told_if J (marks S H) H (session_for H c H)
      ≡ or_some (told_first (known n received) who a b) (option_map (told_after (known n received) who a) (told_if J (marks S K) K (session_for K c K)))
  told-next n received c b named =
      ap (told_if J (marks S H) H) (session-top c) ∙ (told-joins (session_by H c K who a) (session_for H c K)
      ∙ ap₂ (λ x y. or_some x y) (first-by c b who a refl refl named (known n received) refl) (told-older n received c))

-- ---- Which line is a call's

calls-grow : (n : Name) (later M : List Event) → calls_of n M ≤ calls_of n (later ++ M)
unfolding calls_of
calls-grow n [] M = omega arith
calls-grow n (f ∷ later) M = let h = calls-grow n later M in omega (arith, h)

-- a task's call is its newest one where it has as many calls as the call's number says
newest-is : (n : Name) (later M : List Event) (f : Event) → is_call_of n f ≡ true
    → is_place (newest_call n (later ++ f ∷ M)) (length M) ≡ ((calls_of n M + 1) == calls_of n (later ++ f ∷ M))
unfolding newest_call calls_of
newest-is n [] M f h = rw (h, eq-eqb (length M) (length M) refl, eq-eqb (calls_of n M + 1) (calls_of n M + 1) refl) refl
newest-is n (g ∷ later) M f h = by (is_call_of n g) (newest-is n later M f h)
  where
    long : length (later ++ f ∷ M) ≡ length later + length (f ∷ M)
    long = length-append later (f ∷ M)

    one : ◌≡◌ {A = ℕ} (if is_call_of n f then 1 else 0) 1
    one = rw h refl

    grown : calls_of n M + 1 ≤ calls_of n (later ++ f ∷ M)
    grown = let z : calls_of n (f ∷ M) ≡ calls_of n M + (if is_call_of n f then 1 else 0) = refl in let g = calls-grow n later (f ∷ M) in omega (arith, z, one, g)

    by : (b : Bool) → is_place (newest_call n (later ++ f ∷ M)) (length M) ≡ ((calls_of n M + 1) == calls_of n (later ++ f ∷ M))
        → is_place (if b then Some (length (later ++ f ∷ M)) else newest_call n (later ++ f ∷ M)) (length M) ≡ ((calls_of n M + 1) == (calls_of n (later ++ f ∷ M) + (if b then 1 else 0)))
    by true older = ne_eqb (length (later ++ f ∷ M)) (length M) (λ q. omega (arith, q, long)) ∙ sym (ne_eqb (calls_of n M + 1) (calls_of n (later ++ f ∷ M) + 1) (λ q. omega (arith, q, grown)))
    by false older = let z : calls_of n (later ++ f ∷ M) + 0 ≡ calls_of n (later ++ f ∷ M) = omega arith in rw z older

-- ---- The lines of a task

given-is : (b : Bool) (a : What) (g : Option ℕ) → is_some (number_given b a g) ≡ is_given b a (is_some g)
given-is true (Install (Ok n)) g = refl
given-is _ _ g = refl

-- whose call the next notification is of, where the event receives one
pub record Receives (K : List Event) (who : Actor) (a : What) (received : Option Name) : Type 0 where
  pub call_is : (w : ℕ) (m : Notif) → who ≡ Worker w → a ≡ Recv (Ok m)
      → (x : ℕ) × (received ≡ Some (caller K x)) × (call_with_id m.id K ≡ Some x) × (newest_call (caller K x) K ≡ Some x)

module _ (J : Judging) (S : Script) (who : Actor) (a : What) (K : List Event) (received : Option Name) (r : Receives K who a received) (n : Name) where
  abbrev next : List Event
  next = ev who a ∷ K

  abbrev here : Known
  here = known J S who a K n received

  module _ (later M : List Event) (f : Event) (q : K ≡ later ++ f ∷ M) (h : is_call_of n f ≡ true) where
    newest-here : is_place (newest_call n K) (length M) ≡ ((calls_of n M + 1) == calls_of n K)
    newest-here = rw q (newest-is n later M f h)

    older-place : length M < length K
    older-place = omega (arith, ap length q, length-append later (f ∷ M))

    caller-here : caller K (length M) ≡ n
    caller-here = ap (λ (L : List Event). caller L (length M)) q ∙ (ap actor_in (event-in later f M) ∙ task_of f.who n (and_parts (is_task f.who n) (enters f.what) h).0)

    -- the call that is received is the newest of its task
    received-is : (w : ℕ) (m : Notif) → who ≡ Worker w → a ≡ Recv (Ok m) → is_place (call_with_id m.id K) (length M) ≡ (is_of received n && ((calls_of n M + 1) == calls_of n K))
    received-is w m p t =
        let x = r.call_is w m p t in
        rw (x.1, x.2, ← newest-here) (by x.0 x.3 (name_eq (caller K x.0) n) refl)
      where
        by : (x : ℕ) → newest_call (caller K x) K ≡ Some x → (b : Bool) → name_eq (caller K x) n ≡ b → (x == length M) ≡ (b && is_place (newest_call n K) (length M))
        by x newest true e = let z : newest_call n K ≡ Some x = ap (λ m. newest_call m K) (sym (name_eq-true (caller K x) n e)) ∙ newest in rw z refl
        by x newest false e = ne_eqb x (length M) (λ z. both_ways (name_eq (caller K x) n) e (ap (λ (m : Name). name_eq m n) (ap (caller K) z ∙ caller-here) ∙ name_eq-refl n))

    came-is : outcome n (length M) next ≡ outcome_step false (is_task who n && ((calls_of n M + 1) == calls_of n K)) (outcome n (length M) K) a
    unfolding outcome
    came-is = rw (ne_eqb (length K) (length M) (λ z. omega (arith, z, older-place)), newest-here) refl

    given-here : is_some (installed n (length M) next)
        ≡ is_given ((is_task who n && ((calls_of n M + 1) == calls_of n K)) && is_pending (outcome n (length M) K)) a (is_some (installed n (length M) K))
    unfolding installed
    given-here = given-is (is_inside n (length M) K (ev who a)) a (installed n (length M) K) ∙ rw newest-here refl

    line-by : (b : What) → line_of J (marks S next) next n M b ≡ map (line_after here who a) (line_of J (marks S K) K n M b)
    line-by (Enter nr args verdict) = λ i. record {
      name = n;
      number = calls_of n M + 1;
      nr = nr;
      verdict = unnamed verdict;
      came = came-is i;
      installed = given-here i;
      session = told-next J S who a K n received (length M) (is_of received n && ((calls_of n M + 1) == calls_of n K)) received-is i;
    } ∷ []
    line-by _ = refl

  line-moved : (later M : List Event) (f : Event) → K ≡ later ++ f ∷ M → line_at J (marks S next) next n M f ≡ map (line_after here who a) (line_at J (marks S K) K n M f)
  line-moved later M f q = by (is_call_of n f) refl
    where
      by : (b : Bool) → is_call_of n f ≡ b → (if b then line_of J (marks S next) next n M f.what else []) ≡ map (line_after here who a) (if b then line_of J (marks S K) K n M f.what else [])
      by true h = line-by later M f q h f.what
      by false h = refl

  lines-moved : (later M : List Event) → K ≡ later ++ M → gathered (line_at J (marks S next) next n) M ≡ map (line_after here who a) (gathered (line_at J (marks S K) K n) M)
  unfolding gathered
  lines-moved later [] q = refl
  lines-moved later (f ∷ M) q =
      ap₂ (λ (x y : List Line). x ++ y) (lines-moved (later ++ f ∷ []) M (q ∙ sym (append_assoc later (f ∷ []) M))) (line-moved later M f q)
      ∙ sym (map-append (line_after here who a) (gathered (line_at J (marks S K) K n) M) (line_at J (marks S K) K n M f))

  -- ---- a new line

  none-given : (M : List Event) (c : ℕ) → length M ≤ c → installed n c M ≡ None
  unfolding installed
  none-given [] c l = refl
  none-given (f ∷ M) c l = rw (not_yet n c M (omega arith), none-given M c (omega arith)) (no-number (is_task f.who n) f.what)
    where
      no-number : (b : Bool) (x : What) → number_given ((b && false) && is_pending (outcome n c M)) x None ≡ None
      no-number true x = refl
      no-number false x = refl

  none-for : (I : List Event) (c : ℕ) (M : List Event) → length M ≤ c → session_for I c M ≡ None
  unfolding session_for
  none-for I c [] l = refl
  none-for I c (f ∷ M) l = rw (none-by f.who f.what, none-for I c M (omega arith)) refl
    where
      none-by : (v : Actor) (x : What) → session_by I c M v x ≡ None
      none-by (Worker w) (Recv (Ok m)) = rw (newest_not_past (λ e. is_notified e.what m.id) (call_with_id m.id) (newest_named m.id) c M (omega arith)) refl
      none-by _ _ = refl

  first-came : outcome n (length K) next ≡ outcome_at_entry a
  unfolding outcome
  first-came = rw (eq-eqb (length K) (length K) refl) refl

  first-given : is_some (installed n (length K) next) ≡ false
  unfolding installed
  first-given = rw (not_yet n (length K) K (omega arith), none-given K (length K) (omega arith)) (no-number (is_task who n) a)
    where
      no-number : (b : Bool) (x : What) → is_some (number_given ((b && false) && is_pending (outcome n (length K) K)) x None) ≡ false
      no-number true x = refl
      no-number false x = refl

  none-begun : (v : Actor) (x : What) → enters x ≡ true → session_by next (length K) K v x ≡ None
  none-begun (Worker w) (Recv (Ok m)) h = cc
  none-begun _ _ h = refl

  first-session : enters a ≡ true → session_for next (length K) next ≡ None
  first-session h = session-top J S who a K (length K) ∙ ap₂ (λ s t. or_some s t) (none-begun who a h) (none-for next (length K) K (omega arith))

  first-by-call : (b : What) → b ≡ a → enters a ≡ true → line_of J (marks S next) next n K b ≡ first_line n (calls_of n K) b
  first-by-call (Enter nr args verdict) q h = λ i. record {
    name = n;
    number = calls_of n K + 1;
    nr = nr;
    verdict = unnamed verdict;
    came = (first-came ∙ ap outcome_at_entry (sym q)) i;
    installed = first-given i;
    session = ap (told_if J (marks S next) next) (first-session h) i;
  } ∷ []
  first-by-call _ q h = refl

  line-new : line_at J (marks S next) next n K (ev who a) ≡ new_line n (calls_of n K) who a
  line-new = by (is_call_of n (ev who a)) refl
    where
      by : (b : Bool) → is_call_of n (ev who a) ≡ b → (if b then line_of J (marks S next) next n K a else []) ≡ (if b then first_line n (calls_of n K) a else [])
      by true h = first-by-call a refl (and_parts (is_task who n) (enters a) h).1
      by false h = refl

  -- the lines of a task after the event
  pub lines-after : gathered (line_at J (marks S next) next n) next ≡ map (line_after here who a) (gathered (line_at J (marks S K) K n) K) ++ new_line n (calls_of n K) who a
  unfolding gathered
  lines-after = ap₂ (λ (x y : List Line). x ++ y) (lines-moved [] K refl) line-new

-- a task has a line for each of its calls
module _ (J : Judging) (ms : List Mark) (H : List Event) (n : Name) where
  one-line : (M : List Event) (b : What) → enters b ≡ true → length (line_of J ms H n M b) ≡ 1
  one-line M (Enter nr args verdict) h = refl
  one-line M _ h = cc

  line-or-none : (M : List Event) (f : Event) → length (line_at J ms H n M f) ≡ (if is_call_of n f then 1 else 0)
  line-or-none M f = by (is_call_of n f) refl
    where
      by : (b : Bool) → is_call_of n f ≡ b → length (if b then line_of J ms H n M f.what else []) ≡ (if b then 1 else 0)
      by true h = one-line M f.what (and_parts (is_task f.who n) (enters f.what) h).1
      by false h = refl

  pub lines-counted : (M : List Event) → length (gathered (line_at J ms H n) M) ≡ calls_of n M
  unfolding gathered calls_of
  lines-counted [] = refl
  lines-counted (f ∷ M) = length-append (gathered (line_at J ms H n) M) (line_at J ms H n M f) ∙ ap₂ (λ (x y : ℕ). x + y) (lines-counted M) (line-or-none M f)
