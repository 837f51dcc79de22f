-- The steps of a session stand in order, and what it decided stays.
-- By induction on the session's steps, each of which answers the deed that was due.
use Rattle.mediation.proofs.Common.{[], and_parts, any_of, arith, Bool, cases_Bool, checks, Decision, Each, Event, false, first_some, gives_up, Injects, inl, InOrder, inr, is_acting}
use Rattle.mediation.proofs.Common.{is_good_check, is_letgo, is_worker, IsLegal, joined, KeepsOrder, List, list_any, nat_le, None, not, not-true, Notif, notif_of, number_of, Ok, opens, opens_base, Option, put_in}
use Rattle.mediation.proofs.Common.{reads_of, refl, Result, Rules, session, skips, Some, starts, System, take_in, true, What, ℕ, ◌&&◌, ◌<◌, ◌∷◌, ◌≡◌, ◌≤◌, ◌⊎◌}
use Rattle.mediation.proofs.Rows.{AtWork, HasCopied, Told, WorkerRow, by-steps}
use Rattle.mediation.proofs.Hands.{worker-row}
use Rattle.hist_model.specs.Kinds.{is_spent}

-- ---- a session by itself: each of its steps is one that may follow those before it

-- the step begins the session, or is told by the steps before it
abbrev pub Follows : Rules → List What → What → Type 0
Follows R own a = ((starts a ≡ true) × (own ≡ [])) ⊎ ((starts a ≡ false) × Told R own a)

-- the steps of a session, the newest first
abbrev pub IsOwn : Rules → List What → Type 0
IsOwn R [] = Unit {0}
IsOwn R (a ∷ own) = Follows R own a × IsOwn R own

joined-own : (R : Rules) (own : List What) (a : What) → IsOwn R own → Told R own a → IsOwn R (joined a own)
joined-own R own a i s = grind arith

-- what holds of no steps, and with a step of the worker still, holds of its session in each legal history
pub by-joins : (S : System) (R : Rules) (P : List What → Type 0) → P []
    → ((K : List Event) (w : ℕ) (what : What) → WorkerRow S R K w what → skips what ≡ false → P (session K w) → P (joined what (session K w)))
    → (K : List Event) → IsLegal S R K → (w : ℕ) → P (session K w)
unfolding session
by-joins S R P z f = by-steps S R (λ K. (w : ℕ) → P (session K w)) (λ w. z) (λ K e legal r ih w. elim (cases_Bool (is_worker e.who w && not (skips e.what))) [
  | inl q ↦ let p = and_parts (is_worker e.who w) (not (skips e.what)) q in rw q (f K w e.what (worker-row S R K e.who e.what w r p.0) (not-true (skips e.what) p.1) (ih w))
  | inr q ↦ rw q (ih w)
])

pub is-own : (S : System) (R : Rules) (K : List Event) → IsLegal S R K → (w : ℕ) → IsOwn R (session K w)
is-own S R = by-joins S R (IsOwn R) tt (λ K w what r h i. joined-own R (session K w) what i (grind arith))

-- what holds of no steps, and with one more step still, holds of each session
pub by-own : (R : Rules) (P : List What → Type 0) → P [] → ((own : List What) (a : What) → Follows R own a → P own → P (a ∷ own)) → (own : List What) → IsOwn R own → P own
by-own R P z f [] i = z
by-own R P z f (a ∷ own) i = f own a i.0 (by-own R P z f own i.1)

-- ---- what a session decided stays

-- the copy was used where the decision is of this form
pub record Used (R : Rules) (D : Decision → Type 0) (own : List What) (n : Notif) : Type 0 where
  pub copied : HasCopied R own n
  pub sound : R.fault n (reads_of own) ≡ None
  pub decided : D (R.decide n (reads_of own))

-- after the copy nothing is read or checked any more
no-more : (R : Rules) (own : List What) (a : What) (n : Notif) → Follows R own a → notif_of own ≡ Some n → HasCopied R own n
    → HasCopied R (a ∷ own) n × (reads_of (a ∷ own) ≡ reads_of own) × (notif_of (a ∷ own) ≡ Some n)
no-more R own a n s h c = grind arith

pub used-more : (R : Rules) (D : Decision → Type 0) (own : List What) (a : What) (n : Notif) → Follows R own a → notif_of own ≡ Some n → Used R D own n → Used R D (a ∷ own) n
used-more R D own a n s h u = let m = no-more R own a n s h u.copied in record { copied = m.0; sound = rw m.1 u.sound; decided = rw m.1 u.decided }

-- once something was put, the rule injects, and once an effect's times were spent, it grants
abbrev pub IsInjection : Decision → Type 0
IsInjection d = (src : ℕ) × (at : Option ℕ) × (flags : ℕ) × (d ≡ Injects src at flags)

abbrev pub IsGrant : Decision → Type 0
IsGrant d = is_acting d ≡ true

pub put-fixed : (R : Rules) (own : List What) → IsOwn R own → (n : Notif) (x : Result (Unit {0}) ℕ) → notif_of own ≡ Some n → first_some put_in own ≡ Some x → Used R IsInjection own n
put-fixed R = by-own R (λ own. (n : Notif) (x : Result (Unit {0}) ℕ) → notif_of own ≡ Some n → first_some put_in own ≡ Some x → Used R IsInjection own n) (λ n x h. cc)
    (λ own a s ih n x h p. grind (arith, used-more R IsInjection own a n s))

pub spent-fixed : (R : Rules) (own : List What) → IsOwn R own → (n : Notif) → notif_of own ≡ Some n → list_any is_spent own ≡ true → Used R IsGrant own n
spent-fixed R = by-own R (λ own. (n : Notif) → notif_of own ≡ Some n → list_any is_spent own ≡ true → Used R IsGrant own n) (λ n h. cc)
    (λ own a s ih n h p. grind (arith, used-more R IsGrant own a n s))

-- a take comes after a good put
pub take-after_put : (R : Rules) (own : List What) → IsOwn R own → (t : Result ℕ ℕ) → first_some take_in own ≡ Some t → first_some put_in own ≡ Some (Ok tt)
take-after_put R = by-own R (λ own. (t : Result ℕ ℕ) → first_some take_in own ≡ Some t → first_some put_in own ≡ Some (Ok tt)) (λ t h. cc) (λ own a s ih t h. grind arith)

-- ---- the steps of a session stand in order

-- before the end each check was good
pub goods : (own : List What) → any_of gives_up own ≡ false → number_of is_good_check own ≡ number_of checks own
goods [] h = refl
goods (a ∷ own) h = let ih = goods own in grind arith

-- some step passes a test where their number isn't 0
pub any-number : (test : What → Bool) (own : List What) → any_of test own ≡ nat_le 1 (number_of test own)
any-number test [] = refl
any-number test (a ∷ own) = let ih = any-number test own in grind arith

-- at most two checks, and after the second the copy is complete
pub record Checked (R : Rules) (own : List What) : Type 0 where
  pub most : number_of checks own ≤ 2
  pub complete : (n : Notif) → notif_of own ≡ Some n → number_of checks own ≡ 2 → R.next_piece n (reads_of own) ≡ None
  pub opened : (0 < number_of checks own) → any_of opens own ≡ true
  pub based : (n : Notif) → notif_of own ≡ Some n → (0 < number_of checks own) → (R.dirfd n ≡ None) ⊎ (any_of opens_base own ≡ true)
  pub order : InOrder own

pub used-two : (R : Rules) (own : List What) (n : Notif) → AtWork own n → HasCopied R own n → Checked R own → number_of is_good_check own ≡ 2
used-two R own n work c ih = grind (arith, goods, any-number)

pub ordered : (R : Rules) (own : List What) → IsOwn R own → Checked R own
ordered R = by-own R (Checked R) (record { most = omega arith; complete = λ n h. cc; opened = λ h. absurd (omega arith); based = λ n h. cc; order = tt }) (λ own a s ih. record {
  most = grind (arith, any-number);
  complete = λ n h q. grind (arith, any-number);
  opened = λ h. grind arith;
  based = λ n h q. grind arith;
  order = (λ h. grind (arith, goods), λ h. grind (arith, goods, any-number), λ h. grind (arith, used-two), ih.order);
})

-- a session that gave up, and has not let go, did so with its last step
pub gave-up-last : (R : Rules) (own : List What) (n : Notif) → IsOwn R own → notif_of own ≡ Some n → any_of is_letgo own ≡ false → any_of gives_up own ≡ true
    → (a : What) × (rest : List What) × (own ≡ a ∷ rest) × (gives_up a ≡ true)
gave-up-last R [] n i h l g = cc
gave-up-last R (a ∷ own) n i h l g = (a, own, refl, last a i.0 h l g)
  where
    last : (a : What) → Follows R own a → notif_of (a ∷ own) ≡ Some n → any_of is_letgo (a ∷ own) ≡ false → any_of gives_up (a ∷ own) ≡ true → gives_up a ≡ true
    last a s h l g = grind arith

-- a session that has a step has a notification
pub begun : (S : System) (R : Rules) (K : List Event) → IsLegal S R K → (w : ℕ) → notif_of (session K w) ≡ None → session K w ≡ []
begun S R = by-joins S R (λ own. notif_of own ≡ None → own ≡ []) (λ h. refl) (λ K w what r k ih h. more (session K w) what ih h)
  where
    more : (own : List What) (what : What) → (notif_of own ≡ None → own ≡ []) → notif_of (joined what own) ≡ None → joined what own ≡ []
    more own what ih h = grind arith

pub in_order : (S : System) (R : Rules) (K : List Event) → IsLegal S R K → (w : ℕ) → InOrder (session K w)
in_order S R K legal w = (ordered R (session K w) (is-own S R K legal w)).order

-- at each step too
pub keeps_order : (S : System) (R : Rules) (K : List Event) → IsLegal S R K → Each KeepsOrder K
keeps_order S R [] legal = tt
keeps_order S R (e ∷ K) legal = (λ w who. in_order S R (e ∷ K) legal w, keeps_order S R K legal.1)
