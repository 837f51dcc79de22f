-- The copy that this project's own worker makes is one of those that its reads make.
-- By induction on the steps since the call was fetched: each read is of the piece that is wanted, in the caller's memory.
use Rattle.mediation.proofs.Common.{[], Actor, and_parts, ap, arith, Bool, caller, Check, copied, ev, Event, event_at-older, false}
use Rattle.mediation.proofs.Common.{if◌then◌else◌, inl, inr, is_good_check, is_worker, IsLegal, length, List, listed, not, number_of, Ok}
use Rattle.mediation.proofs.Common.{Policy, progress, Read, read_answers, reads_of, refl, Result, reverse, reverse-append, Rules, rules_of, session, session_call, skips}
use Rattle.mediation.proofs.Common.{Some, subst, sym, System, true, wanted, What, ℕ, ◌&&◌, ◌++◌, ◌<◌, ◌^◌, ◌∙◌, ◌∷◌, ◌≡◌, ◌⊎◌, eq-eqb, HasMemory, notif, append_assoc, append-nil}
use Rattle.std.proofs.Common.{map}
use Rattle.history_frames.proofs.Listed.{is_call-below}
use Rattle.hist_model.specs.declared.copy.Part.{Part}
use Rattle.hist_model.specs.declared.script.Figures.{Figures}
use Rattle.hist_model.specs.Memory.{group_named}
use Rattle.mediation.proofs.Handles.{check-listed, own-memory}
use Rattle.mediation.proofs.Hands.{by-session, FetchKept, InSession, StillKept, WorkKept, works}
use Rattle.mediation.proofs.Order.{goods, is-own, ordered}
use Rattle.mediation.proofs.Rows.{WorkerRow}
use Rattle.mediation.proofs.Tasks.{listed-was}
use Rattle.broker_verdict.proofs.LegalSeats.{own-check}
use Rattle.broker_verdict.specs.SeatCopies.{plan_of, planned_from, worth_least}
use Rattle.broker_verdict.specs.Seats.{confirmed, Foreign, Fresh, reads, reads_after, SeatRead, Stale, Valid, validated, Worth, worth_now}

-- ---- lists of reads

abbrev pub answers : List SeatRead → List (Result (List ℕ) ℕ)
answers [] = []
answers (r ∷ more) = r.answer ∷ answers more

-- each was made of the caller's memory while its call was listed
abbrev pub AllFresh : List SeatRead → Type 0
AllFresh [] = Unit {0}
AllFresh (r ∷ more) = ((r.worth ≡ Fresh) ⊎ (r.worth ≡ Valid)) × AllFresh more

-- and a good check followed
abbrev pub AllValid : List SeatRead → Type 0
AllValid [] = Unit {0}
AllValid (r ∷ more) = (r.worth ≡ Valid) × AllValid more

-- each is of the piece that was wanted then
abbrev pub InChain : List Part → List SeatRead → Type 0
InChain parts [] = Unit {0}
InChain parts (r ∷ more) = (wanted (progress parts (reverse (answers more))) ≡ Some (r.addr, r.len)) × InChain parts more

answers-confirmed : (all : List SeatRead) → answers (map (λ r. confirmed r) all) ≡ answers all
answers-confirmed [] = refl
answers-confirmed (r ∷ more) = rw (answers-confirmed more) refl

confirmed-valid : (v : Worth) → (v ≡ Fresh) ⊎ (v ≡ Valid) → validated v ≡ Valid
confirmed-valid Foreign h = elim h [ inl q ↦ cc | inr q ↦ cc ]
confirmed-valid Stale h = elim h [ inl q ↦ cc | inr q ↦ cc ]
confirmed-valid Fresh h = refl
confirmed-valid Valid h = refl

all-confirmed : (all : List SeatRead) → AllFresh all → AllValid (map (λ r. confirmed r) all)
all-confirmed [] h = tt
all-confirmed (r ∷ more) h = (confirmed-valid r.worth h.0, all-confirmed more h.1)

valid-fresh : (all : List SeatRead) → AllValid all → AllFresh all
valid-fresh [] h = tt
valid-fresh (r ∷ more) h = (inr h.0, valid-fresh more h.1)

chain-confirmed : (parts : List Part) (all : List SeatRead) → InChain parts all → InChain parts (map (λ r. confirmed r) all)
chain-confirmed parts [] h = tt
chain-confirmed parts (r ∷ more) h = (rw (answers-confirmed more) h.0, chain-confirmed parts more h.1)

least-all : (all : List SeatRead) → AllValid all → worth_least Valid all ≡ all
least-all [] h = refl
least-all (r ∷ more) h = rw (h.0, least-all more h.1) refl

-- a read of the piece that is wanted is taken
taken-one : (parts : List Part) (taken : List (Result (List ℕ) ℕ)) (r : SeatRead) (later : List SeatRead) → wanted (progress parts taken) ≡ Some (r.addr, r.len)
    → planned_from parts taken (r ∷ later) ≡ planned_from parts (taken ++ r.answer ∷ []) later
unfolding planned_from
taken-one parts taken r later h = rw (h, eq-eqb r.addr r.addr refl, eq-eqb r.len r.len refl) refl

-- the reads in the plan's order are the plan's
planned-more : (parts : List Part) (all later : List SeatRead) → InChain parts all → planned_from parts [] (reverse all ++ later) ≡ planned_from parts (reverse (answers all)) later
planned-more parts [] later h = refl
planned-more parts (r ∷ more) later h =
    let taken = reverse (answers more) in
    let a : reverse (r ∷ more) ≡ reverse more ++ r ∷ [] = reverse-append (r ∷ []) more in
    let b : reverse (r.answer ∷ answers more) ≡ reverse (answers more) ++ r.answer ∷ [] = reverse-append (r.answer ∷ []) (answers more) in
    rw (a, append_assoc (reverse more) (r ∷ []) later, b) (planned-more parts more (r ∷ later) h.1 ∙ taken-one parts taken r later h.0)

pub planned-all : (parts : List Part) (all : List SeatRead) → InChain parts all → planned_from parts [] (reverse all) ≡ progress parts (reverse (answers all))
unfolding planned_from
planned-all parts all h = let q = planned-more parts all [] h in rw (append-nil (reverse all)) at q

read-answers : (own : List What) → read_answers (reads_of own) ≡ read_answers own
read-answers [] = refl
read-answers (Read x l a ∷ own) = ap (λ (more : List (Result (List ℕ) ℕ)). a ∷ more) (read-answers own)
read-answers (what ∷ own) = read-answers own

-- ---- the reads of a session

module _ (S : System) (P : Policy) (F : Figures) where
  abbrev R : Rules
  R = rules_of P F

  pub record Copies (K : List Event) (w c : ℕ) : Type 0 where
    pub answered : answers (reads K w) ≡ read_answers (session K w)
    pub fresh : listed K c ≡ true → AllFresh (reads K w)
    pub valid : number_of is_good_check (session K w) ≡ 2 → AllValid (reads K w)
    pub chain : InChain (plan_of K c) (reads K w)

  copies-fetch : FetchKept S R Copies
  unfolding reads
  copies-fetch K a w c n legal room q row o idle own =
      record { answered = rw (q, own) refl; fresh = rw q (λ h. tt); valid = rw q (λ h. tt); chain = rw q tt }

  plan-older : (e : Event) (K : List Event) (c : ℕ) → c < length K → plan_of (e ∷ K) c ≡ plan_of K c
  plan-older e K c l = rw (event_at-older e K c l) refl

  -- what stays where the reads stay
  copies-same : (e : Event) (K : List Event) (w c : ℕ) (i : InSession K w c) → IsLegal S R (e ∷ K) → reads (e ∷ K) w ≡ reads K w → read_answers (session (e ∷ K) w) ≡ read_answers (session K w)
      → number_of is_good_check (session (e ∷ K) w) ≡ number_of is_good_check (session K w) → Copies K w c → Copies (e ∷ K) w c
  copies-same e K w c i legal same own number k =
      let l = is_call-below K c i.call in record {
        answered = rw (same, own) k.answered;
        fresh = λ h. rw same (k.fresh (listed-was e K c l h));
        valid = λ h. rw same (k.valid (sym number ∙ h));
        chain = rw (same, plan-older e K c l) k.chain;
      }

  reads-skip : (K : List Event) (w : ℕ) (what : What) (all : List SeatRead) → skips what ≡ true → reads_after K w what all ≡ all
  reads-skip K w what all h = grind arith

  reads-same : (e : Event) (K : List Event) (w : ℕ) → (is_worker e.who w && not (skips e.what)) ≡ false → reads (e ∷ K) w ≡ reads K w
  unfolding reads
  reads-same e K w q = grind (arith, reads-skip)

  copies-still : StillKept S R Copies
  copies-still K e w c legal room q i s own ih = copies-same e K w c i legal (reads-same e K w q) (ap read_answers own) (ap (number_of is_good_check) own) ih

  -- the worker's own step
  mine : (K : List Event) (a : Actor) (w : ℕ) (what : What) → is_worker a w ≡ true → reads (ev a what ∷ K) w ≡ reads_after K w what (reads K w)
  unfolding reads
  mine K a w what q = rw q refl

  -- it has read a piece: it is at its first check
  at-first : (K : List Event) (w x l : ℕ) (a : Result (List ℕ) ℕ) → IsLegal S R K → WorkerRow S R K w (Read x l a) → number_of is_good_check (session K w) ≡ 2 → ⊥
  at-first K w x l a legal row two =
      let o = ordered R (session K w) (is-own S R K legal w) in
      let g = goods (session K w) row.0.1.no_end in
      cc (o.complete row.0.0 row.0.1.notif_is (sym g ∙ two), row.0.4)

  own-worth : (K : List Event) (w c g : ℕ) → session_call K w ≡ Some c → group_named K (caller K c) ≡ Some g → worth_now K (session_call K w) g ≡ (if listed K c then Fresh else Stale)
  own-worth K w c g s m = rw (s, m, eq-eqb g g refl) refl

  fresh-where : (b : Bool) → b ≡ true → ((if b then Fresh else Stale) ≡ Fresh) ⊎ ((if b then Fresh else Stale) ≡ Valid)
  fresh-where true h = inl refl
  fresh-where false h = cc

  wanted-piece : (K : List Event) (w c x l : ℕ) (a : Result (List ℕ) ℕ) (i : InSession K w c) → WorkerRow S R K w (Read x l a) → wanted (progress (plan_of K c) (reverse (read_answers (session K w)))) ≡ Some (x, l)
  wanted-piece K w c x l a i row =
      let y : row.0.0 ≡ notif K c = cc (row.0.1.notif_is, i.notif_is, i.whole_is) in
      let z = rw (y, read-answers (session K w)) at row.0.4 in z

  copies-read : (K : List Event) (a : Actor) (w c x l : ℕ) (answer : Result (List ℕ) ℕ) → IsLegal S R (ev a (Read x l answer) ∷ K) → length (ev a (Read x l answer) ∷ K) < 2 ^ 64 → is_worker a w ≡ true
      → WorkerRow S R K w (Read x l answer) → (i : InSession K w c) → session_call K w ≡ Some c → session (ev a (Read x l answer) ∷ K) w ≡ Read x l answer ∷ session K w → Copies K w c
      → Copies (ev a (Read x l answer) ∷ K) w c
  copies-read K a w c x l answer legal room q row i s own ih =
      let e = ev a (Read x l answer) in
      let b = is_call-below K c i.call in
      let m : HasMemory K w c = own-memory S R K w c legal.1 (omega arith) s row.0.2.mem row.0.3 row.0.1.no_end in
      let new : SeatRead = record { addr = x; len = l; answer = answer; worth = (if listed K c then Fresh else Stale) } in
      let same : reads (e ∷ K) w ≡ new ∷ reads K w = rw (mine K a w (Read x l answer) q, m.opened_is, own-worth K w c m.group s m.of_caller) refl in
      record {
        answered = rw (same, own) (ap (λ (more : List (Result (List ℕ) ℕ)). answer ∷ more) ih.answered);
        fresh = λ h. let g = listed-was e K c b h in rw same (fresh-where (listed K c) g, ih.fresh g);
        valid = λ h. absurd (at-first K w x l answer legal.1 row (rw own at h));
        chain = rw same (subst (λ (parts : List Part). InChain parts (new ∷ reads K w)) (sym (plan-older e K c b)) (rw ih.answered (wanted-piece K w c x l answer i row), ih.chain));
      }

  copies-check : (K : List Event) (a : Actor) (w c x : ℕ) (u : Unit {0}) → IsLegal S R (ev a (Check x (Ok u)) ∷ K) → length (ev a (Check x (Ok u)) ∷ K) < 2 ^ 64 → is_worker a w ≡ true
      → WorkerRow S R K w (Check x (Ok u)) → (i : InSession K w c) → session_call K w ≡ Some c → session (ev a (Check x (Ok u)) ∷ K) w ≡ Check x (Ok u) ∷ session K w → Copies K w c
      → Copies (ev a (Check x (Ok u)) ∷ K) w c
  copies-check K a w c x u legal room q row i s own ih =
      let e = ev a (Check x (Ok u)) in
      let b = is_call-below K c i.call in
      let v = (and_parts (listed K c) _ (check-listed S R K w c x u legal.1 (omega arith) i row)).0 in
      let same : reads (e ∷ K) w ≡ map (λ r. confirmed r) (reads K w) = rw (mine K a w (Check x (Ok u)) q, own-check S R K w c x u i s row) refl in
      let all = all-confirmed (reads K w) (ih.fresh v) in
      record {
        answered = rw (same, own, answers-confirmed (reads K w)) ih.answered;
        fresh = λ h. rw same (valid-fresh (map (λ r. confirmed r) (reads K w)) all);
        valid = λ h. rw same all;
        chain = rw (same, plan-older e K c b) (chain-confirmed (plan_of K c) (reads K w) ih.chain);
      }

  -- a step that reads nothing, and is no good check
  abbrev is_quiet : What → Bool
  is_quiet (Read x l answer) = false
  is_quiet (Check x (Ok u)) = false
  is_quiet what = works what

  quiet-reads : (K : List Event) (w : ℕ) (what : What) (all : List SeatRead) → is_quiet what ≡ true → reads_after K w what all ≡ all
  quiet-reads K w what all h = grind arith

  quiet-answers : (what : What) (own : List What) → is_quiet what ≡ true → read_answers (what ∷ own) ≡ read_answers own
  quiet-answers what own h = grind arith

  quiet-checks : (what : What) (own : List What) → is_quiet what ≡ true → number_of is_good_check (what ∷ own) ≡ number_of is_good_check own
  quiet-checks what own h = grind arith

  copies-quiet : (K : List Event) (a : Actor) (w c : ℕ) (what : What) → is_quiet what ≡ true → IsLegal S R (ev a what ∷ K) → is_worker a w ≡ true → (i : InSession K w c)
      → session (ev a what ∷ K) w ≡ what ∷ session K w → Copies K w c → Copies (ev a what ∷ K) w c
  copies-quiet K a w c what h legal q i own ih =
      copies-same (ev a what) K w c i legal (mine K a w what q ∙ quiet-reads K w what (reads K w) h) (ap read_answers own ∙ quiet-answers what (session K w) h)
      (ap (number_of is_good_check) own ∙ quiet-checks what (session K w) h) ih

  copies-work : WorkKept S R Copies
  copies-work K a w c (Read x l answer) legal room q row v i s own ih = copies-read K a w c x l answer legal room q row i s own ih
  copies-work K a w c (Check x (Ok u)) legal room q row v i s own ih = copies-check K a w c x u legal room q row i s own ih
  copies-work K a w c what legal room q row v i s own ih = copies-quiet K a w c what v legal q i own ih

  pub copies : (K : List Event) → IsLegal S R K → length K < 2 ^ 64 → (w c : ℕ) → session_call K w ≡ Some c → Copies K w c
  copies = by-session S R Copies copies-fetch copies-work copies-still

  -- the copy in the plan's order is the worker's
  pub planned : (K : List Event) (w c : ℕ) → IsLegal S R K → length K < 2 ^ 64 → session_call K w ≡ Some c → number_of is_good_check (session K w) ≡ 2
      → planned_from (plan_of K c) [] (reverse (worth_least Valid (reads K w))) ≡ copied (notif K c) (reads_of (session K w))
  planned K w c legal room s two =
      let k = copies K legal room w c s in
      rw (least-all (reads K w) (k.valid two), read-answers (session K w), ← k.answered) (planned-all (plan_of K c) (reads K w) k.chain)
