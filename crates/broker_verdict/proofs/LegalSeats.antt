-- What this project's own workers have sent, done and checked, by their sessions.
-- By induction on the steps since the call was fetched.
use Rattle.mediation.proofs.Common.{Actor, any_of, arith, Bool, Check, ev, Event, Notif, event_at, event_at-below, event_at-here, event_at-older, false, first_some, gives_up}
use Rattle.mediation.proofs.Common.{if◌then◌else◌, is_good_check, is_worker, IsLegal, length, List, None, not, Ok, Option, refl, Rules, session, skips, Some}
use Rattle.mediation.proofs.Common.{sym, System, true, What, Worker, ℕ, ◌&&◌, ◌<◌, ◌^◌, ◌∙◌, ◌∷◌, ◌≡◌, eq-eqb, id, ap, session_call}
use Rattle.mediation.proofs.Hands.{by-session, FetchKept, InSession, StillKept, WorkKept, works}
use Rattle.mediation.proofs.Order.{is-own, ordered}
use Rattle.mediation.proofs.Rows.{WorkerRow}
use Rattle.mediation.proofs.Common.{[], checks, number_of, OpenMem}
use Rattle.broker_verdict.proofs.SeatReads.{worker-is}
use Rattle.broker_verdict.specs.Seats.{checked_after, effect_after, effect_of, has_sent, is_checked, is_effect, is_own_id, sent_after}

-- an effect, and the effect at a place, which is the session's newest
abbrev pub effect_in : What → Option What
effect_in what = if is_effect what then Some what else None

abbrev pub EffectIs : List Event → ℕ → Option ℕ → Type 0
EffectIs K w None = first_some effect_in (session K w) ≡ None
EffectIs K w (Some p) = (a : What) × (event_at K p ≡ Some (ev (Worker w) a)) × (first_some effect_in (session K w) ≡ Some a)

module _ (S : System) (R : Rules) where
  -- ---- it has sent an answer only where it has given up

  abbrev pub Sent : List Event → ℕ → ℕ → Type 0
  Sent K w c = has_sent K w ≡ true → any_of gives_up (session K w) ≡ true

  sent-fetch : FetchKept S R Sent
  unfolding has_sent
  sent-fetch K a w c n legal room q row o idle own h = cc (rw q at h)

  sent-more : (what : What) (b : Bool) (own : List What) → works what ≡ true → (b ≡ true → any_of gives_up own ≡ true) → sent_after what b ≡ true → any_of gives_up (what ∷ own) ≡ true
  sent-more what b own v ih h = grind arith

  sent-work : WorkKept S R Sent
  unfolding has_sent
  sent-work K a w c what legal room q row v i s own ih h = rw own (sent-more what (has_sent K w) (session K w) v ih (rw q at h))

  sent-same : (what : What) (b : Bool) → skips what ≡ true → sent_after what b ≡ b
  sent-same what b h = grind arith

  -- a step of another, or a skip
  unsent : (e : Event) (K : List Event) (w : ℕ) → (is_worker e.who w && not (skips e.what)) ≡ false → has_sent (e ∷ K) w ≡ has_sent K w
  unfolding has_sent
  unsent e K w q = grind (arith, sent-same)

  sent-still : StillKept S R Sent
  sent-still K e w c legal room q i s own ih h = rw own (ih (sym (unsent e K w q) ∙ h))

  pub sent : (K : List Event) → IsLegal S R K → length K < 2 ^ 64 → (w c : ℕ) → session_call K w ≡ Some c → Sent K w c
  sent = by-session S R Sent sent-fetch sent-work sent-still

  -- ---- the seat's effect is its session's

  abbrev pub Effect : List Event → ℕ → ℕ → Type 0
  Effect K w c = EffectIs K w (effect_of K w)

  effect-fetch : FetchKept S R Effect
  unfolding effect_of
  effect-fetch K a w c n legal room q row o idle own = rw (q, own) refl

  effect-older : (e : Event) (K : List Event) (w : ℕ) (p : Option ℕ) → first_some effect_in (session (e ∷ K) w) ≡ first_some effect_in (session K w) → EffectIs K w p → EffectIs (e ∷ K) w p
  effect-older e K w None own i = own ∙ i
  effect-older e K w (Some p) own i = (i.0, event_at-older e K p (event_at-below K p _ i.1) ∙ i.1, own ∙ i.2)

  effect-here : (K : List Event) (a : Actor) (w : ℕ) (what : What) → is_worker a w ≡ true → session (ev a what ∷ K) w ≡ what ∷ session K w → is_effect what ≡ true → EffectIs (ev a what ∷ K) w (Some (length K))
  effect-here K a w what q own h =
      (what, event_at-here (ev a what) K ∙ ap (λ (b : Actor). Some (ev b what)) (worker-is a w q), rw (own, h) refl)

  pub effect-other : (place : ℕ) (what : What) (p : Option ℕ) → works what ≡ true → is_effect what ≡ false → effect_after place what p ≡ p
  effect-other place what p v h = grind arith

  pub effect-mine : (place : ℕ) (what : What) (p : Option ℕ) → is_effect what ≡ true → effect_after place what p ≡ Some place
  effect-mine place what p h = grind arith

  effect-work : WorkKept S R Effect
  unfolding effect_of
  effect-work K a w c what legal room q row v i s own ih = rw q (go (is_effect what) refl)
    where
      go : (b : Bool) → is_effect what ≡ b → EffectIs (ev a what ∷ K) w (effect_after (length K) what (effect_of K w))
      go true h = rw (effect-mine (length K) what (effect_of K w) h) (effect-here K a w what q own h)
      go false h = rw (effect-other (length K) what (effect_of K w) v h) (effect-older (ev a what) K w (effect_of K w) (rw (own, h) refl) ih)

  effect-skip : (place : ℕ) (what : What) (p : Option ℕ) → skips what ≡ true → effect_after place what p ≡ p
  effect-skip place what p h = grind arith

  pub effect-same : (e : Event) (K : List Event) (w : ℕ) → (is_worker e.who w && not (skips e.what)) ≡ false → effect_of (e ∷ K) w ≡ effect_of K w
  unfolding effect_of
  effect-same e K w q = grind (arith, effect-skip)

  effect-still : StillKept S R Effect
  effect-still K e w c legal room q i s own ih = rw (effect-same e K w q) (effect-older e K w (effect_of K w) (ap (first_some effect_in) own) ih)

  pub effect : (K : List Event) → IsLegal S R K → length K < 2 ^ 64 → (w c : ℕ) → session_call K w ≡ Some c → Effect K w c
  effect = by-session S R Effect effect-fetch effect-work effect-still

  -- ---- a good check is one of its call's id

  abbrev pub Checked : List Event → ℕ → ℕ → Type 0
  Checked K w c = any_of is_good_check (session K w) ≡ true → is_checked K w ≡ true

  checked-fetch : FetchKept S R Checked
  checked-fetch K a w c n legal room q row o idle own h = cc (rw own at h)

  pub own-check : (K : List Event) (w c x : ℕ) (u : Unit {0}) → InSession K w c → session_call K w ≡ Some c → WorkerRow S R K w (Check x (Ok u)) → is_own_id K w x ≡ true
  own-check K w c x u i s row =
      let y : row.0.0 ≡ i.n = cc (row.0.1.notif_is, i.notif_is) in
      let z : x ≡ id K c = row.0.3 ∙ (ap (λ (n : Notif). n.id) y ∙ i.id_is) in
      rw s (eq-eqb (id K c) x (sym z))

  good-checks : (own : List What) → any_of is_good_check own ≡ true → 0 < number_of checks own
  good-checks [] h = absurd (cc h)
  good-checks (b ∷ own) h = let ih = good-checks own in grind arith

  -- the memory is opened before the first check
  unopened-yet : (K : List Event) (w p : ℕ) (u : Unit {0}) → IsLegal S R K → WorkerRow S R K w (OpenMem p (Ok u)) → any_of is_good_check (session K w) ≡ true → ⊥
  unopened-yet K w p u legal row h = cc (row.0.2, (ordered R (session K w) (is-own S R K legal w)).opened (good-checks (session K w) h))

  checked-more : (K : List Event) (w c : ℕ) (what : What) → IsLegal S R K → InSession K w c → session_call K w ≡ Some c → WorkerRow S R K w what → works what ≡ true
      → (any_of is_good_check (session K w) ≡ true → is_checked K w ≡ true) → any_of is_good_check (what ∷ session K w) ≡ true → checked_after K w what (is_checked K w) ≡ true
  checked-more K w c (OpenMem p (Ok u)) legal i s row v ih h = absurd (unopened-yet K w p u legal row h)
  checked-more K w c (Check x (Ok u)) legal i s row v ih h = rw (own-check K w c x u i s row) refl
  checked-more K w c what legal i s row v ih h = grind arith

  checked-work : WorkKept S R Checked
  unfolding is_checked
  checked-work K a w c what legal room q row v i s own ih h = rw q (checked-more K w c what legal.1 i s row v ih (rw own at h))

  checked-skip : (K : List Event) (w : ℕ) (what : What) (b : Bool) → skips what ≡ true → checked_after K w what b ≡ b
  checked-skip K w what b h = grind arith

  checked-same : (e : Event) (K : List Event) (w : ℕ) → (is_worker e.who w && not (skips e.what)) ≡ false → is_checked (e ∷ K) w ≡ is_checked K w
  unfolding is_checked
  checked-same e K w q = grind (arith, checked-skip)

  checked-still : StillKept S R Checked
  checked-still K e w c legal room q i s own ih h = checked-same e K w q ∙ ih (rw own at h)

  pub checked : (K : List Event) → IsLegal S R K → length K < 2 ^ 64 → (w c : ℕ) → session_call K w ≡ Some c → Checked K w c
  checked = by-session S R Checked checked-fetch checked-work checked-still
