-- The audit of a session that used its copy names the rule that decided.
-- By induction on the events since its receive, along which the audit's own steps of the session are those of the worker, and on those since the use, which change nothing of what it finds.
use Rattle.mediation.proofs.Common.{[], and_parts, answers, any_of, ap, append-nil, arith, AuditNames, before, below_or_last, Bool, cases_Bool, checked_twice, Complete, copied, decision}
use Rattle.mediation.proofs.Common.{eq-eqb, ev, Event, event_at, event_at-below, event_at-here, event_at-older, false, Figures, finding, finding_of, fits_piece, gives_up, heard, if◌then◌else◌, inl}
use Rattle.mediation.proofs.Common.{inr, is_acting, is_gone, is_good_check, is_letgo, is_worker, IsLegal, judging_by, length, List, list_any, mem, ne_eqb, not, not-true, Notif}
use Rattle.mediation.proofs.Common.{notif_of, number_of, Ok, Option, plan, Policy, progress, Read, read_answer, read_answers, reads, reads_of, Recv, refl, request, Result, reverse, reverse-append}
use Rattle.mediation.proofs.Common.{Rules, rules_of, Script, Send, session, session_call, session_step, skips, Some, starts, sym, System, system_of, true, wanted, What, with_heard, Worker, ℕ, ◌&&◌}
use Rattle.mediation.proofs.Common.{Act, AddfdPut, checks, Finds, first_some, None, or_right, outcome_in, Plant, Progress, ◌++◌, ◌<◌, ◌^◌, ◌∙◌, ◌∷◌, ◌≡◌, ◌≤◌}
use Rattle.history_frames.proofs.Queued.{worker-is}
use Rattle.hist_model.proofs.MappedBytes.{bytes_fit}
use Rattle.hist_model.proofs.Pieces.{piece_wanted, wanted_some}
use Rattle.hist_model.specs.Copies.{Wants, Faulty}
use Rattle.hist_model.specs.Decisions.{decide}
use Rattle.hist_model.specs.ReportAudit.{judged_after, judged_by, session_at}
use Rattle.hist_model.specs.declared.copy.Part.{Part}
use Rattle.hist_model.specs.declared.policy.Verdict.{Verdict}
use Rattle.hist_model.specs.declared.policy.Verdict.TheVariants.{Grant}
use Rattle.hist_model.specs.declared.request.Request.{Request}
use Rattle.mediation.proofs.Rows.{AtWork, HasCopied, Told, WorkerRow, Row, by-few-steps}
use Rattle.mediation.proofs.Tasks.{event_at-last}
use Rattle.mediation.proofs.Calls.{before-older, before-newest, length-before, legal_before}
use Rattle.mediation.proofs.Hands.{worker-row, still, session-grows, works-keep, in-hand, hand, FetchKept, WorkKept, StillKept, by-session}
use Rattle.mediation.proofs.Order.{Follows, IsInjection, IsOwn, Used, by-joins, is-own, by-own, spent-fixed, used-more, used-two, ordered}
use Rattle.hist_model.specs.Kinds.{is_read, is_spent, uses_copy}
use Rattle.hist_model.specs.ReportAudit.{joined as extended, is_shut, read_in}
use Rattle.hist_model.specs.Orders.{InOrder}

-- ---- what a session reads answers the piece that was wanted, so all of it is heard

-- a read's answer is one to the piece that it asks for
abbrev FitsRead : What → Type 0
FitsRead (Read x l a) = fits_piece (Some (x, l)) a ≡ true
FitsRead _ = Unit {0}

abbrev pub FitReads : List What → Type 0
FitReads [] = Unit {0}
FitReads (a ∷ own) = FitsRead a × FitReads own

read-fits : (S : Script) (K : List Event) (m : Option ℕ) (x l : ℕ) → 1 ≤ l → fits_piece (Some (x, l)) (read_answer (system_of S) K m x l) ≡ true
read-fits S K m x l h = grind (arith, bytes_fit)

step-fits : (P : Policy) (F : Figures) (S : Script) (K : List Event) (w : ℕ) (what : What) → WorkerRow (system_of S) (rules_of P F) K w what → FitsRead what
step-fits P F S K w (Read x l a) row =
    let n = row.0.0 in
    let answers = reverse (read_answers (reads_of (session K w))) in
    let g : 1 ≤ l = wanted_some (progress (plan n.call.nr n.call.args) answers) (x, l) (piece_wanted n.call.nr n.call.args answers) row.0.4 in
    ap (fits_piece (Some (x, l))) row.1 ∙ read-fits S K (mem K w) x l g
step-fits P F S K w what row = tt

fit-reads : (P : Policy) (F : Figures) (S : Script) (K : List Event) → IsLegal (system_of S) (rules_of P F) K → (w : ℕ) → FitReads (session K w)
fit-reads P F S = by-joins (system_of S) (rules_of P F) FitReads tt (λ K w what r z h. let s = step-fits P F S K w what r in grind arith)

-- what all its reads answered, the oldest first
abbrev all-reads : List What → List (Result (List ℕ) ℕ)
all-reads [] = []
all-reads (a ∷ own) = all-reads own ++ read_in a

reads-are : (own : List What) → all-reads own ≡ reverse (read_answers (reads_of own))
reads-are [] = refl
reads-are (Read x l a ∷ own) = ap (λ xs. xs ++ a ∷ []) (reads-are own) ∙ sym (reverse-append (a ∷ []) (read_answers (reads_of own)))
reads-are (a ∷ own) = append-nil (all-reads own) ∙ reads-are own

heard-more : (parts : List Part) (before answers : List (Result (List ℕ) ℕ)) (a : Result (List ℕ) ℕ) → heard parts before (answers ++ a ∷ []) ≡ with_heard parts (heard parts before answers) a
unfolding heard
heard-more parts before [] a = refl
heard-more parts before (b ∷ answers) a = heard-more parts (with_heard parts before b) answers a

-- the reads of a session are heard one and all
abbrev AllHeard : List What → Type 0
AllHeard own = (n : Notif) → notif_of own ≡ Some n → FitReads own → heard (plan n.call.nr n.call.args) [] (all-reads own) ≡ all-reads own

notif-before : (a : What) (own : List What) → starts a ≡ false → notif_of (a ∷ own) ≡ notif_of own
notif-before a own h = grind arith

heard-below : (P : Policy) (F : Figures) (own : List What) (a : What) (n : Notif) → Follows (rules_of P F) own a → notif_of (a ∷ own) ≡ Some n → FitReads own → AllHeard own
    → heard (plan n.call.nr n.call.args) [] (all-reads own) ≡ all-reads own
unfolding heard
heard-below P F own a n s m f ih = elim s [ inl q ↦ rw q.1 | inr t ↦ ih n (sym (notif-before a own t.0) ∙ m) f ]

heard-step : (P : Policy) (F : Figures) (own : List What) (a : What) → Follows (rules_of P F) own a → AllHeard own → AllHeard (a ∷ own)
heard-step P F own (Read x l y) (inl q) ih n m f = absurd (cc q.0)
heard-step P F own (Read x l y) (inr t) ih n m f =
    let parts = plan n.call.nr n.call.args in
    let q : t.1.0 ≡ n = cc (t.1.1.notif_is, m) in
    let g : wanted (copied n (reads_of own)) ≡ Some (x, l) = rw q at t.1.4 in
    let k : wanted (progress parts (all-reads own)) ≡ Some (x, l) = ap (λ xs. wanted (progress parts xs)) (reads-are own) ∙ g in
    let taken : with_heard parts (all-reads own) y ≡ all-reads own ++ y ∷ [] = rw (k, f.0) refl in
    heard-more parts [] (all-reads own) y ∙ (ap (λ xs. with_heard parts xs y) (ih n m f.1) ∙ taken)
heard-step P F own a s ih n m f = let e = append-nil (all-reads own) in ap (heard (plan n.call.nr n.call.args) []) e ∙ (heard-below P F own a n s m f.1 ih ∙ sym e)

all-heard : (P : Policy) (F : Figures) (own : List What) → IsOwn (rules_of P F) own → AllHeard own
all-heard P F = by-own (rules_of P F) AllHeard (λ n m. cc) (heard-step P F)

-- ---- a session's steps as the audit sees them

-- a session at work isn't over: it received once, and hasn't let go
at-work-open : (R : Rules) (own : List What) (n : Notif) → IsOwn R own → notif_of own ≡ Some n → any_of is_letgo own ≡ false → is_shut own ≡ false
at-work-open R [] n i h g = cc
at-work-open R (a ∷ own) n i h g = grind arith

-- one more step of an open session
extended-open : (own : List What) (a : What) → is_shut own ≡ false → extended own a ≡ a ∷ own
extended-open own a h = rw h refl

stepped : (b : Bool) (own : List What) (a : What) → session_step false b own a ≡ (if b then extended own a else own)
stepped b own a = grind arith

at-later : (e : Event) (K : List Event) (w r : ℕ) → r < length K → session_at w r (e ∷ K) ≡ (if is_worker e.who w && not (skips e.what) then extended (session_at w r K) e.what else session_at w r K)
unfolding session_at
at-later e K w r l = let n : (length K ≡ r → ⊥) = omega arith in rw (ne_eqb (length K) r n) (stepped (is_worker e.who w && not (skips e.what)) (session_at w r K) e.what)

none-gone : (own : List What) → any_of gives_up own ≡ false → list_any is_gone own ≡ false
none-gone [] h = refl
none-gone (a ∷ own) h = let ih = none-gone own in grind arith

none-valid : (own : List What) → number_of is_good_check own ≡ 0 → list_any is_good_check own ≡ false
none-valid [] h = refl
none-valid (a ∷ own) h = let ih = none-valid own in grind arith

some-valid : (own : List What) → 1 ≤ number_of is_good_check own → list_any is_good_check own ≡ true
some-valid [] h = absurd (omega arith)
some-valid (a ∷ own) h = let ih = some-valid own in grind arith

-- two good checks are a good check after a good one
twice-valid : (own : List What) → 2 ≤ number_of is_good_check own → checked_twice own ≡ true
twice-valid [] h = absurd (omega arith)
twice-valid (a ∷ own) h = let ih = twice-valid own in let v = some-valid own in grind arith

-- and no good check or one is not
not-twice : (own : List What) → number_of is_good_check own ≤ 1 → checked_twice own ≡ false
not-twice [] h = refl
not-twice (a ∷ own) h = let ih = not-twice own in let v = none-valid own in grind arith

-- in order nothing is read after the second good check, so the audit sees all reads
sees-all : (own : List What) → InOrder own → reads own ≡ all-reads own
sees-all [] i = refl
sees-all (a ∷ own) i = let ih = sees-all own i.3 in by-read a own i ih
  where
    by-read : (a : What) (own : List What) → InOrder (a ∷ own) → reads own ≡ all-reads own → reads (a ∷ own) ≡ all-reads (a ∷ own)
    by-read (Read x l y) own i ih = let one : number_of is_good_check own ≡ 1 = i.1 refl in rw (not-twice own (omega arith), ih) refl
    by-read a own i ih = elim (cases_Bool (checked_twice own)) [ inl h ↦ rw (h, append-nil) ih | inr h ↦ rw h (ap (λ xs. xs ++ read_in a) ih) ]

-- ---- after a use of the copy

-- the audit sees of a session what it saw of its first steps: its call wasn't gone, two checks were good, these were the reads, and times were spent or not
record Seen (first own : List What) : Type 0 where
  pub not_gone : list_any is_gone own ≡ false
  pub twice : checked_twice own ≡ true
  pub same_reads : reads own ≡ reads first
  pub same_spent : list_any is_spent own ≡ list_any is_spent first

seen-more : (first own : List What) (a : What) → is_gone a ≡ false → is_spent a ≡ false → Seen first own → Seen first (a ∷ own)
seen-more first own a g p s = record { not_gone = rw (g, s.not_gone) refl; twice = or_right _ (checked_twice own) s.twice; same_reads = rw s.twice s.same_reads; same_spent = rw (p, s.same_spent) refl }

-- a use is of no other kind
record IsUse (what : What) : Type 0 where
  pub no_start : starts what ≡ false
  pub no_skip : skips what ≡ false
  pub no_letgo : is_letgo what ≡ false
  pub no_gone : is_gone what ≡ false
  pub no_read : is_read what ≡ false

is-use : (what : What) → uses_copy what ≡ true → IsUse what
is-use what h = grind arith

-- a use comes after two good checks, so a session that used its copy made them
used-checked : (own : List What) → InOrder own → any_of uses_copy own ≡ true → 2 ≤ number_of is_good_check own
used-checked [] i u = cc
used-checked (a ∷ own) i u = let ih = used-checked own i.3 in let h = i.2 in grind arith

good-checks : (own : List What) → number_of is_good_check own ≤ number_of checks own
good-checks [] = omega arith
good-checks (a ∷ own) = let ih = good-checks own in grind arith

module _ (R : Rules) where
  -- a session that used its copy, had no outcome and has not given up asked for a descriptor
  injects-fixed : (own : List What) → IsOwn R own → (n : Notif) → notif_of own ≡ Some n → any_of uses_copy own ≡ true → first_some outcome_in own ≡ None → any_of gives_up own ≡ false → Used R IsInjection own n
  injects-fixed = by-own R (λ own. (n : Notif) → notif_of own ≡ Some n → any_of uses_copy own ≡ true → first_some outcome_in own ≡ None → any_of gives_up own ≡ false → Used R IsInjection own n)
      (λ n h u. cc) (λ own a s ih n h u o g. grind (arith, used-more R IsInjection own a n s))

  -- so none of its later steps is an effect, and none a check or an opening
  not-spent : (own : List What) (a : What) → Told R own a → IsOwn R own → any_of uses_copy own ≡ true → is_spent a ≡ false
  not-spent own (Act q cap y) t i u = let f = injects-fixed own i t.0 t.1.notif_is u t.5 t.1.no_end in absurd (cc (f.decided.3, t.4))
  not-spent own (Plant x bs cap y) t i u = let f = injects-fixed own i t.0 t.1.notif_is u t.5 t.1.no_end in absurd (cc (f.decided.3, t.4))
  not-spent own a t i u = refl

  not-gone : (own : List What) (a : What) → Follows R own a → IsOwn R own → any_of uses_copy own ≡ true → is_gone a ≡ false
  not-gone own a s i u =
      let o = ordered R (a ∷ own) (s, i) in
      let most = o.most in
      let opened = o.order.0 in
      let two = used-checked own o.order.3 u in
      let l = good-checks own in
      grind arith

-- the receive with which the open session began
record Began (K : List Event) (w : ℕ) : Type 0 where
  pub place : ℕ
  pub n : Notif
  pub receive : event_at K place ≡ Some (ev (Worker w) (Recv (Ok n)))
  pub notif_is : notif_of (session K w) ≡ Some n
  pub same : session_at w place K ≡ session K w

module _ (S : System) (R : Rules) where
  fetch-began : FetchKept S R (λ K w c. Began K w)
  unfolding session_at
  fetch-began K a w c n legal room q row o idle own =
      let e = ev a (Recv (Ok n)) in
      record { place = length K; n = n; receive = event_at-here e K ∙ ap (λ b. Some (ev b (Recv (Ok n)))) (worker-is a w q); notif_is = rw own; same = rw (eq-eqb (length K) (length K) refl) (sym own) }

  work-began : WorkKept S R (λ K w c. Began K w)
  work-began K a w c what legal room q row v i s own b =
      let l = event_at-below K b.place _ b.receive in
      let k = works-keep K what v in
      let joins : extended (session K w) what ≡ what ∷ session K w = extended-open (session K w) what (at-work-open R (session K w) i.n (is-own S R K legal.1 w) i.notif_is i.no_letgo) in
      record { place = b.place; n = b.n; receive = rw event_at-older b.receive; notif_is = rw (own, k.no_notif) b.notif_is; same = rw (at-later (ev a what) K w b.place l, q, k.no_skip, b.same) (joins ∙ sym own) }

  still-began : StillKept S R (λ K w c. Began K w)
  still-began K e w c legal room q i s own b =
      let l = event_at-below K b.place _ b.receive in
      record { place = b.place; n = b.n; receive = rw event_at-older b.receive; notif_is = rw own b.notif_is; same = rw (at-later e K w b.place l, q) (b.same ∙ sym own) }

  began : (K : List Event) → IsLegal S R K → length K < 2 ^ 64 → (w c : ℕ) → session_call K w ≡ Some c → Began K w
  began = by-session S R (λ K w c. Began K w) fetch-began work-began still-began

  -- one more step of a session that has a notification and has not let go
  step-told : (K : List Event) (w : ℕ) (what : What) (n : Notif) → notif_of (session K w) ≡ Some n → any_of is_letgo (session K w) ≡ false → WorkerRow S R K w what → skips what ≡ false
      → (starts what ≡ false) × Told R (session K w) what
  step-told K w what n h g row z = grind arith

  -- what the audit sees at last of a session that used its copy with the newest of its first steps: it is the worker's still, or has let go
  data Ends (H : List Event) (w r : ℕ) (n : Notif) (first : List What) : Type 0 where
    goes_on : session_at w r H ≡ session H w → notif_of (session H w) ≡ Some n → any_of is_letgo (session H w) ≡ false → any_of uses_copy (session H w) ≡ true → Seen first (session H w) → Ends H w r n first
    over : is_shut (session_at w r H) ≡ true → Seen first (session_at w r H) → Ends H w r n first

  ends-seen : (H : List Event) (w r : ℕ) (n : Notif) (first : List What) → Ends H w r n first → Seen first (session_at w r H)
  ends-seen H w r n first (goes_on same m g u s) = rw same s
  ends-seen H w r n first (over x s) = s

  shut-stays : (b : Bool) (own : List What) (a : What) → is_shut own ≡ true → (if b then extended own a else own) ≡ own
  shut-stays true own a h = rw h refl
  shut-stays false own a h = refl

  -- a step of the session: it lets go, or goes on
  ends-stepped : (K : List Event) (e : Event) (w r : ℕ) (n : Notif) (first : List What) → is_worker e.who w ≡ true → (starts e.what ≡ false) × Told R (session K w) e.what → skips e.what ≡ false
      → session_at w r (e ∷ K) ≡ e.what ∷ session K w → notif_of (session K w) ≡ Some n → any_of is_letgo (session K w) ≡ false → any_of uses_copy (session K w) ≡ true → Seen first (e.what ∷ session K w) → Ends (e ∷ K) w r n first
  ends-stepped K e w r n first q t z at m g u s =
      let own = session-grows e K w n q z t.0 m in
      elim (cases_Bool (is_letgo e.what)) [
        | inl l ↦ over (rw (at, l) refl) (rw at s)
        | inr l ↦ goes_on (at ∙ sym own) (rw own (notif-before e.what (session K w) t.0 ∙ m)) (rw (own, l) g) (rw own (or_right _ (any_of uses_copy (session K w)) u)) (rw own s)
      ]

  ends-later : (K : List Event) (e : Event) (w r : ℕ) (n : Notif) (first : List What) → IsLegal S R K → Row S R K e.who e.what → r < length K → Ends K w r n first → Ends (e ∷ K) w r n first
  ends-later K e w r n first legal row l (over x s) =
      let same = at-later e K w r l ∙ shut-stays (is_worker e.who w && not (skips e.what)) (session_at w r K) e.what x in
      over (rw same x) (rw same s)
  ends-later K e w r n first legal row l (goes_on same m g u s) = elim (cases_Bool (is_worker e.who w && not (skips e.what))) [
    | inl q ↦
        let p = and_parts (is_worker e.who w) (not (skips e.what)) q in
        let z = not-true (skips e.what) p.1 in
        let t = step-told K w e.what n m g (worker-row S R K e.who e.what w row p.0) z in
        let i = is-own S R K legal w in
        let at : session_at w r (e ∷ K) ≡ e.what ∷ session K w = rw (at-later e K w r l, q, same) (extended-open (session K w) e.what (at-work-open R (session K w) n i m g)) in
        ends-stepped K e w r n first p.0 t z at m g u (seen-more first (session K w) e.what (not-gone R (session K w) e.what (inr t) i u) (not-spent R (session K w) e.what t.1 i u) s)
    | inr q ↦ let own = (still e K w q).0 in goes_on (rw (at-later e K w r l, q) (same ∙ sym own)) (rw own m) (rw own g) (rw own u) (rw own s)
  ]

  -- the session of a use of its copy
  record Use (H : List Event) (s w : ℕ) (what : What) : Type 0 where
    pub place : ℕ
    pub n : Notif
    pub receive : event_at H place ≡ Some (ev (Worker w) (Recv (Ok n)))
    pub is_session : session_at w place (before H s) ≡ session (before H s) w
    pub work : AtWork (session (before H s) w) n
    pub told : Told R (session (before H s) w) what
    pub two : number_of is_good_check (session (before H s) w) ≡ 2
    pub whole : R.next_piece n (reads_of (session (before H s) w)) ≡ None
    pub ends : Ends H w place n (what ∷ session (before H s) w)

  -- what the row of a use tells
  use-row : (K : List Event) (w : ℕ) (what : What) → uses_copy what ≡ true → WorkerRow S R K w what → (n : Notif) × AtWork (session K w) n × HasCopied R (session K w) n × Told R (session K w) what
  use-row K w (Act q cap y) u r = (r.0.0, r.0.1, r.0.3, r.0)
  use-row K w (Plant x bs cap y) u r = (r.0.0, r.0.1, r.0.3, r.0)
  use-row K w (AddfdPut q y) u r = (r.0.0, r.0.1, r.0.3, r.0)
  use-row K w (Send x b y) u r = (r.0.0, r.0.1, r.0.3, r.0)
  use-row K w what u r = cc

  use-now : (K : List Event) (w : ℕ) (what : What) → IsLegal S R K → length K < 2 ^ 64 → uses_copy what ≡ true → WorkerRow S R K w what → Use (ev (Worker w) what ∷ K) (length K) w what
  use-now K w what legal room u r =
      let e = ev (Worker w) what in
      let t = use-row K w what u r in
      let k = is-use what u in
      let i = is-own S R K legal w in
      let j = in-hand K w (session_call K w) t.0 t.1 (hand S R K legal room w) in
      let g = began K legal room w j.0 j.1 in
      let l = event_at-below K g.place _ g.receive in
      let m : is_worker (Worker w) w ≡ true = eq-eqb w w refl in
      let v : g.n ≡ t.0 = cc (g.notif_is, t.1.notif_is) in
      let two = used-two R (session K w) t.0 t.1 t.2 (ordered R (session K w) i) in
      let gone : list_any is_gone (what ∷ session K w) ≡ false = rw (k.no_gone, none-gone (session K w) t.1.no_end) refl in
      let valid : checked_twice (what ∷ session K w) ≡ true = or_right _ (checked_twice (session K w)) (twice-valid (session K w) (omega (arith, two))) in
      let at : session_at w g.place (e ∷ K) ≡ what ∷ session K w = rw (at-later e K w g.place l, m, k.no_skip, g.same) (extended-open (session K w) what (at-work-open R (session K w) t.0 i t.1.notif_is t.1.no_letgo)) in
      let own = session-grows e K w t.0 m k.no_skip k.no_start t.1.notif_is in
      record {
        place = g.place;
        n = g.n;
        receive = rw event_at-older g.receive;
        is_session = rw (before-newest e K) g.same;
        work = rw (before-newest e K, v) t.1;
        told = rw (before-newest e K) t.3;
        two = rw (before-newest e K) two;
        whole = rw (before-newest e K, v) t.2.copied;
        ends = rw (before-newest e K) (goes_on (at ∙ sym own) (rw own (notif-before what (session K w) k.no_start ∙ g.notif_is)) (rw (own, k.no_letgo) t.1.no_letgo) (rw (own, u) refl)
            (rw own (record { not_gone = gone; twice = valid; same_reads = refl; same_spent = refl })));
      }

  use-later : (K : List Event) (e : Event) (s w : ℕ) (what : What) → IsLegal S R K → Row S R K e.who e.what → s < length K → Use K s w what → Use (e ∷ K) s w what
  use-later K e s w what legal r l t =
      let m = event_at-below K t.place _ t.receive in
      let q : before (e ∷ K) s ≡ before K s = before-older e K s (omega arith) in
      record {
        place = t.place;
        n = t.n;
        receive = rw event_at-older t.receive;
        is_session = rw q t.is_session;
        work = rw q t.work;
        told = rw q t.told;
        two = rw q t.two;
        whole = rw q t.whole;
        ends = rw q (ends-later K e w t.place t.n (what ∷ session (before K s) w) legal r m t.ends);
      }

  use-of : (H : List Event) → IsLegal S R H → length H < 2 ^ 64 → (s w : ℕ) (what : What) → event_at H s ≡ Some (ev (Worker w) what) → uses_copy what ≡ true → Use H s w what
  use-of = by-few-steps S R (λ H. (s w : ℕ) (what : What) → event_at H s ≡ Some (ev (Worker w) what) → uses_copy what ≡ true → Use H s w what)
      (λ s w what h u. absurd (omega (arith, event_at-below [] s _ h)))
      (λ K e legal room row ih s w what h u. elim (below_or_last s (length K) (event_at-below (e ∷ K) s (ev (Worker w) what) h)) [
        | inl l ↦ use-later K e s w what legal row l (ih s w what (sym (event_at-older e K s l) ∙ h) u)
        | inr q ↦ let z : e ≡ ev (Worker w) what = cc (event_at-last e K s q, h) in rw (q, z) (use-now K w what legal room u (rw z at row))
      ])

-- ---- what the audit makes of it

-- it judges the reads that stood there at the use
seen-finding : (P : Policy) (n : Notif) (first own : List What) → Seen first own → finding (judging_by P.rules) n own ≡ finding_of (judged_after P.rules n (reads first)) (list_any is_spent first)
seen-finding P n first own s = rw (s.not_gone, s.twice, s.same_reads, s.same_spent) refl

-- and these are the copy
judged-copy : (P : Policy) (n : Notif) (what : What) (own : List What) → number_of is_good_check own ≡ 2 → InOrder own → heard (plan n.call.nr n.call.args) [] (all-reads own) ≡ all-reads own
    → judged_after P.rules n (reads (what ∷ own)) ≡ judged_by P.rules n (copied n (reads_of own))
judged-copy P n what own two o v = rw (twice-valid own (omega (arith, two)), sees-all own o, v, reads-are own) refl

-- a decision that acts is a grant
acting-grants : (P : Policy) (F : Figures) (q : Request) (i : ℕ) (v : Verdict) → is_acting (decision P F q i v) ≡ true → v ≡ Grant
acting-grants P F q i v h = grind arith

pub audit-names : (P : Policy) (F : Figures) (T : Script) (H : List Event) → IsLegal (system_of T) (rules_of P F) H → length H < 2 ^ 64 → AuditNames P H
audit-names P F T H legal room s w what n h u m =
    let t = use-of S Q H legal room s w what h u in
    let q : t.n ≡ n = cc (t.work.notif_is, m) in
    let l = event_at-below H t.place _ t.receive in
    let z : length (before H t.place) ≡ t.place = (length-before H t.place).1 (omega arith) in
    record {
      place = t.place;
      receive = rw q at t.receive;
      is_session = t.is_session;
      finds = rw z (finds (copied n (reads_of own)) refl (session_at w t.place H) (ends-seen S Q H w t.place t.n (what ∷ own) t.ends) t.told t.two (rw q at t.whole));
    }
  where
    S : System
    S = system_of T

    Q : Rules
    Q = rules_of P F

    own : List What
    own = session (before H s) w

    steps : IsOwn Q own
    steps = is-own S Q (before H s) (legal_before S Q H s legal) w

    order : InOrder own
    order = (ordered Q own steps).order

    all-read : heard (plan n.call.nr n.call.args) [] (all-reads own) ≡ all-reads own
    all-read = all-heard P F own steps n m (fit-reads P F T (before H s) (legal_before S Q H s legal) w)

    grants : (texts : List (List ℕ)) → copied n (reads_of own) ≡ Complete texts → Told Q own what → list_any is_spent (what ∷ own) ≡ true → (decide P.rules (request n.call.nr n.call.args texts)).1 ≡ Grant
    grants texts k t e =
        let o = is-use what u in
        let f = spent-fixed Q (what ∷ own) (inr (o.no_start, t), steps) n (notif-before what own o.no_start ∙ m) e in
        acting-grants P F (request n.call.nr n.call.args texts) _ _ (rw (o.no_read, k) at f.decided)

    finds : (p : Progress) → copied n (reads_of own) ≡ p → (seen : List What) → Seen (what ∷ own) seen → Told Q own what → number_of is_good_check own ≡ 2 → wanted (copied n (reads_of own)) ≡ None
        → Finds P (what ∷ own) n (finding (judging_by P.rules) n seen) p
    finds (Wants y k) c seen x t two v = absurd (cc (rw c at v))
    finds (Complete texts) c seen x t two v =
        record { finding = seen-finding P n (what ∷ own) seen x ∙ rw (judged-copy P n what own two order all-read, c) refl; grants = grants texts c t }
    finds (Faulty e) c seen x t two v = seen-finding P n (what ∷ own) seen x ∙ rw (judged-copy P n what own two order all-read, c) refl
