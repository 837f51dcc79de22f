-- In a legal history without a skip a worker receives where it has no session, and only there.
-- By the cases of the definition of a worker's next deed.
use Rattle.std.proofs.Common.{◌≡◌, ℕ, ◌⊎◌, inl, inr, not, Bool, true, false, List, [], ◌∷◌, Option, Some, None, Ok, refl, ap, ◌∙◌, arith}
use Rattle.std.proofs.lemmas.Bool.{cases_Bool}
use Rattle.hist_model.specs.Kinds.{is_letgo, receives, skips, starts}
use Rattle.hist_model.specs.Legal.{NoSkip, is_open_session}
use Rattle.hist_model.specs.Look.{is_worker}
use Rattle.hist_model.specs.Sessions.{Rules, any_of, based_deed, checked_deed, deed, deed_for, fetched_by, joined, judged_deed, notif_of, open_deed, or_notif, reads_of, session}
use Rattle.hist_model.specs.Steps.{IsLegal, deed_step, step, worker_step}
use Rattle.hist_model.specs.Systems.{System}
use Rattle.hist_model.specs.declared.event.Actor.{Actor}
use Rattle.hist_model.specs.declared.event.Actor.TheVariants.{Worker}
use Rattle.hist_model.specs.declared.event.Event.{Event}
use Rattle.hist_model.specs.declared.event.What.{What}
use Rattle.hist_model.specs.declared.event.What.TheVariants.{Recv}
use Rattle.lane_seats.specs.Lanes.{is_taken}
use Rattle.sys_abi.specs.declared.wire.Notif.{Notif}

-- the step of a worker with a session, or without one, isn't or is a receive
abbrev pub Fits : Bool → What → Type 0
Fits taken what = receives what ≡ not taken

-- each step of a worker does so
abbrev pub AllFit : List Event → Type 0
AllFit [] = Unit {0}
AllFit (e ∷ K) = ((seat : ℕ) → e.who ≡ Worker seat → Fits (is_taken K seat) e.what) × AllFit K

-- a session that has a step has a notification
abbrev HasNotif : List What → Type 0
HasNotif own = (own ≡ []) ⊎ ((n : Notif) × (notif_of own ≡ Some n))

started_has : (a : What) → starts a ≡ true → HasNotif (a ∷ [])
started_has (Recv (Ok n)) h = inr (n, refl)
started_has _ h = absurd cc

either_has : (o m : Option Notif) (n : Notif) → m ≡ Some n → (k : Notif) × (or_notif o m ≡ Some k)
either_has (Some k) m n q = (k, refl)
either_has None m n q = (n, q)

joined_has : (a : What) (own : List What) → (starts a ≡ true) ⊎ (starts a ≡ false) → HasNotif own → HasNotif (joined a own)
joined_has a [] (inl s) h = rw s (started_has a s)
joined_has a (b ∷ own) (inl s) h = rw s (started_has a s)
joined_has a [] (inr s) h = rw s (inl refl)
joined_has a (b ∷ own) (inr s) (inl q) = absurd cc
joined_has a (b ∷ own) (inr s) (inr q) = rw s (inr (either_has (fetched_by a) (notif_of (b ∷ own)) q.0 q.1))

has_notif : (K : List Event) (seat : ℕ) → HasNotif (session K seat)
unfolding session
has_notif [] seat = inl refl
has_notif (e ∷ K) seat = elim (cases_Bool (is_worker e.who seat)) [
  | inl mine ↦ elim (cases_Bool (skips e.what)) [
    | inl s ↦ rw (mine, s) (has_notif K seat)
    | inr s ↦ rw (mine, s) (joined_has e.what (session K seat) (cases_Bool (starts e.what)) (has_notif K seat))
  ]
  | inr other ↦ rw other (has_notif K seat)
]

module _ (S : System) (R : Rules) (K : List Event) (seat : ℕ) (own : List What) (n : Notif) where
  judged_works : receives (deed_step S K seat (judged_deed R n own (R.fault n (reads_of own)))) ≡ false
  judged_works = grind arith

  checked_works : receives (deed_step S K seat (checked_deed R n own)) ≡ false
  checked_works = grind (arith, judged_works)

  based_works : receives (deed_step S K seat (based_deed R n own (R.dirfd n))) ≡ false
  based_works = grind (arith, checked_works)

  open_works : any_of is_letgo own ≡ false → receives (deed_step S K seat (open_deed R n own)) ≡ false
  open_works h = grind (arith, based_works)

module _ (S : System) (R : Rules) (K : List Event) (seat : ℕ) where
  works : (own : List What) → HasNotif own → is_open_session own ≡ true → receives (deed_step S K seat (deed_for R (notif_of own) own)) ≡ false
  works own h o = grind (arith, open_works)

  idles : (own : List What) → is_open_session own ≡ false → skips (deed_step S K seat (deed_for R (notif_of own) own)) ≡ false → receives (deed_step S K seat (deed_for R (notif_of own) own)) ≡ true
  idles own o s = grind arith

  fits_step : (taken : Bool) → is_taken K seat ≡ taken → skips (worker_step S R K seat) ≡ false → Fits taken (worker_step S R K seat)
  unfolding worker_step deed
  fits_step true t s = works (session K seat) (has_notif K seat) t
  fits_step false t s = idles (session K seat) t s

fits_actor : (S : System) (R : Rules) (K : List Event) (a : Actor) (what : What) → what ≡ step S R K a → skips what ≡ false → (seat : ℕ) → a ≡ Worker seat → Fits (is_taken K seat) what
unfolding step
fits_actor S R K a what w s seat is =
    let mine : what ≡ worker_step S R K seat = w ∙ ap (step S R K) is in
    rw mine (fits_step S R K seat (is_taken K seat) refl (rw mine at s))

pub all_fit : (S : System) (R : Rules) (K : List Event) → IsLegal S R K → NoSkip K → AllFit K
all_fit S R [] legal none = tt
all_fit S R (e ∷ []) legal none = ((λ seat is. let start = legal.0 in absurd cc), tt)
all_fit S R (e ∷ f ∷ K) legal none = (fits_actor S R (f ∷ K) e.who e.what legal.0.2 none.0, all_fit S R (f ∷ K) legal.1 none.1)
