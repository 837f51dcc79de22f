-- This project's own workers do no more by a rule than its times allow.
-- By induction: an effect that the judge counts is one that the kernel counted.
use Rattle.mediation.proofs.Common.{[], Act, Actor, Acts, ap, arith, Bool, cases_Bool, eq-eqb, eqb-true, Err, Event, false, if◌then◌else◌, inl, inr, is_spent, IsLegal, le-leb, leb-true, length, List}
use Rattle.mediation.proofs.Common.{Listener, nat_le, None, Ok, Option, Plant, Plants, Policy, refl, Result, Rules, rules_of, Script, session_call, Some, spends, Start, sym, System, system_of, Task, times_spent, true, What, Worker}
use Rattle.mediation.proofs.Common.{ℕ, ◌&&◌, ◌+◌, ◌<◌, ◌==◌, ◌^◌, ◌||◌, ◌∙◌, ◌≡◌, ◌≤◌}
use Rattle.std.specs.Prelude.{slice_get}
use Rattle.sys_abi.specs.Errnos.{edquot}
use Rattle.hist_model.specs.Decisions.{cap_of, times_of}
use Rattle.hist_model.specs.Legal.{Legal}
use Rattle.hist_model.specs.declared.policy.Cap.{Cap}
use Rattle.hist_model.specs.declared.request.Request.{Request}
use Rattle.mediation.proofs.Rows.{by-few-steps, Row, WorkerRow}
use Rattle.broker_verdict.proofs.LegalClauses.{keeps, none-some}
use Rattle.broker_verdict.proofs.LegalGrants.{act-is, plant-is, texts-granted, uses}
use Rattle.broker_verdict.specs.Choices.{decided}
use Rattle.broker_verdict.specs.Effects.{does_by, done_by, is_done, is_used_up, seat_call, texts_named, texts_of}
use Rattle.broker_verdict.specs.Seats.{of_call, request_with}
use Rattle.broker_verdict.specs.Trusted.{Keeps, seat_breaks}
use Rattle.broker_verdict.specs.declared.clause.Clause.TheVariants.{Spent}

-- the cap of a rule that is limited
cap-limited : (P : Policy) (i n : ℕ) → times_of (slice_get P.rules i) ≡ Some n → cap_of P.rules i ≡ Some (record { rule = i; times = n })
cap-limited P i n h = rw h refl

not-above : (n a b : ℕ) → nat_le n a ≡ false → b ≤ a → nat_le n b ≡ false
not-above n a b h l = elim (cases_Bool (nat_le n b)) [ inl t ↦ absurd (cc (le-leb n a (omega (arith, leb-true n b t)), h)) | inr f ↦ f ]

module _ (P : Policy) (S : Script) where
  abbrev R : Rules
  R = rules_of P S.figures

  abbrev T : System
  T = system_of S

  -- the rule by which an act or a plant is judged, and its cap
  record IsCapped (K : List Event) (w : ℕ) (what : What) (limit : Option Cap) : Type 0 where
    pub call : ℕ
    pub in_hand : session_call K w ≡ Some call
    pub cap_is : limit ≡ cap_of P.rules (decided P K call (texts_named what)).0

  act-capped : (K : List Event) (w : ℕ) (q : Request) (limit : Option Cap) (a : Result (Unit {0}) ℕ) → IsLegal T R K → length K < 2 ^ 64 → WorkerRow T R K w (Act q limit a) → IsCapped K w (Act q limit a) limit
  act-capped K w q limit a legal room row =
      let u = uses P S K w row.0.0 (Acts q limit) legal room row.0.1 row.0.3 row.0.6 row.0.4 in
      let i = act-is P S (request_with K u.call u.texts) q limit (decided P K u.call u.texts) u.decided_so in
      let t : texts_of q ≡ u.texts = ap texts_of i.is ∙ (texts-granted (slice_get P.rules (decided P K u.call u.texts).0) (request_with K u.call u.texts) ∙ u.named) in
      record { call = u.call; in_hand = u.in_hand; cap_is = rw t i.cap_is }

  plant-capped : (K : List Event) (w addr : ℕ) (bytes : List ℕ) (limit : Option Cap) (a : Result (Unit {0}) ℕ) → IsLegal T R K → length K < 2 ^ 64 → WorkerRow T R K w (Plant addr bytes limit a)
      → IsCapped K w (Plant addr bytes limit a) limit
  plant-capped K w addr bytes limit a legal room row =
      let u = uses P S K w row.0.0 (Plants addr bytes limit) legal room row.0.1 row.0.3 row.0.6 row.0.4 in
      let i = plant-is P S (request_with K u.call u.texts) addr bytes limit (decided P K u.call u.texts) u.decided_so in
      let t : u.texts ≡ [] = sym u.named ∙ i.of_sysinfo in
      record { call = u.call; in_hand = u.in_hand; cap_is = rw t at i.cap_is }

  -- what is counted here was counted by the kernel
  counted : (K : List Event) (w i n : ℕ) (what : What) (limit : Option Cap) (k : IsCapped K w what limit) → times_of (slice_get P.rules i) ≡ Some n
      → of_call (session_call K w) (λ c. (decided P K c (texts_named what)).0 == i) ≡ true → limit ≡ Some (record { rule = i; times = n })
  counted K w i n what limit k h d =
      let j : (decided P K k.call (texts_named what)).0 ≡ i = eqb-true (decided P K k.call (texts_named what)).0 i (rw k.in_hand at d) in
      k.cap_is ∙ (ap (cap_of P.rules) j ∙ cap-limited P i n h)

  worker-counts : (K : List Event) (w i n : ℕ) (what : What) → IsLegal T R K → length K < 2 ^ 64 → WorkerRow T R K w what → times_of (slice_get P.rules i) ≡ Some n
      → (is_done what && of_call (session_call K w) (λ c. (decided P K c (texts_named what)).0 == i)) ≡ true → spends what i ≡ true
  worker-counts K w i n (Act q limit (Ok u)) legal room row h d = rw (counted K w i n (Act q limit (Ok u)) limit (act-capped K w q limit (Ok u) legal room row) h d) (eq-eqb i i refl)
  worker-counts K w i n (Plant x b limit (Ok u)) legal room row h d = rw (counted K w i n (Plant x b limit (Ok u)) limit (plant-capped K w x b limit (Ok u) legal room row) h d) (eq-eqb i i refl)
  worker-counts K w i n what legal room row h d = cc

  never-done : (done : Bool) → (done && false) ≡ true → ⊥
  never-done true h = cc
  never-done false h = cc

  counts : (K : List Event) (a : Actor) (what : What) (i n : ℕ) → IsLegal T R K → length K < 2 ^ 64 → Row T R K a what → times_of (slice_get P.rules i) ≡ Some n
      → (is_done what && of_call (seat_call K a) (λ c. (decided P K c (texts_named what)).0 == i)) ≡ true → spends what i ≡ true
  counts K (Worker w) what i n legal room row h d = worker-counts K w i n what legal room row h d
  counts K Start what i n legal room row h d = absurd (never-done (is_done what) d)
  counts K (Task m) what i n legal room row h d = absurd (never-done (is_done what) d)
  counts K Listener what i n legal room row h d = absurd (never-done (is_done what) d)

  one-more : (a b : ℕ) (now there : Bool) → a ≤ b → (now ≡ true → there ≡ true) → a + (if now then 1 else 0) ≤ b + (if there then 1 else 0)
  one-more a b true there l h = let q = h refl in rw q (omega arith)
  one-more a b false true l h = omega arith
  one-more a b false false l h = omega arith

  few : (K : List Event) → IsLegal T R K → length K < 2 ^ 64 → (i n : ℕ) → times_of (slice_get P.rules i) ≡ Some n → done_by P K i ≤ times_spent K i
  unfolding done_by times_spent
  few = by-few-steps T R (λ K. (i n : ℕ) → times_of (slice_get P.rules i) ≡ Some n → done_by P K i ≤ times_spent K i) (λ i n h. omega arith)
      (λ K e legal room row ih i n h. one-more (done_by P K i) (times_spent K i) (does_by P K e i) (spends e.what i) (ih i n h) (counts K e.who e.what i n legal room row h))

  -- an effect that was done had times left
  left-over : (K : List Event) (i : ℕ) (limit : Option Cap) (u : Unit {0}) (other : Result (Unit {0}) ℕ) → IsLegal T R K → length K < 2 ^ 64 → limit ≡ cap_of P.rules i
      → ◌≡◌ {A = Result (Unit {0}) ℕ} (Ok u) (if is_spent K limit then Err edquot else other) → is_used_up P K i ≡ false
  left-over K i limit u other legal room c h = go (times_of (slice_get P.rules i)) refl
    where
      unspent : (b : Bool) → ◌≡◌ {A = Result (Unit {0}) ℕ} (Ok u) (if b then Err edquot else other) → b ≡ false
      unspent true z = cc
      unspent false z = refl

      go : (o : Option ℕ) → times_of (slice_get P.rules i) ≡ o → is_used_up P K i ≡ false
      go None q = rw q refl
      go (Some n) q =
          let l : limit ≡ Some (record { rule = i; times = n }) = c ∙ cap-limited P i n q in
          let z : nat_le n (times_spent K i) ≡ false = rw l at (unspent (is_spent K limit) h) in
          rw q (not-above n (times_spent K i) (done_by P K i) z (few K legal room i n q))

  both-false : (b : Bool) → b ≡ false → (b || false) ≡ false
  both-false b h = rw h refl

  within : (K : List Event) (w : ℕ) (what : What) → IsLegal T R K → length K < 2 ^ 64 → WorkerRow T R K w what → seat_breaks P S Spent K w what (session_call K w) ≡ false
  within K w (Act q limit (Ok u)) legal room row =
      let k = act-capped K w q limit (Ok u) legal room row in rw k.in_hand (both-false _ (left-over K (decided P K k.call (texts_of q)).0 limit u _ legal room k.cap_is row.1))
  within K w (Plant x b limit (Ok u)) legal room row =
      let k = plant-capped K w x b limit (Ok u) legal room row in rw k.in_hand (both-false _ (left-over K (decided P K k.call []).0 limit u _ legal room k.cap_is row.1))
  within K w what legal room row = none-some (seat_breaks P S Spent K w what) refl (λ c. refl) (session_call K w)

pub within_times : (P : Policy) (S : Script) (K : List Event) → Legal P S K → Keeps P S Spent K
within_times P S = keeps P S Spent (λ K e. refl) (within P S)
