-- How far a call has come, by whether it was received and is valid.
-- By cases on both.
use Rattle.std.proofs.Common.{◌≡◌, ℕ, Bool, true, false, ◌&&◌, not, if◌then◌else◌, List, Option, Some, None, Ok, Err, Result, refl, sym, ap, ◌∙◌}
use Rattle.hist_model.specs.Calls.{answered, fetched, id, listed, named, state, state_at}
use Rattle.hist_model.specs.Look.{Name}
use Rattle.hist_model.specs.Signals.{call_of}
use Rattle.hist_model.specs.Steps.{check_answer}
use Rattle.hist_model.specs.declared.event.Event.{Event}
use Rattle.hist_model.specs.declared.notification.State.{State}
use Rattle.hist_model.specs.declared.notification.State.TheVariants.{Unfetched, Fetched, Answered}
use Rattle.listener.specs.Stands.{IsListedAs, StandsFor}
use Rattle.listener.specs.declared.listener.Listener.{Listener}
use Rattle.listener.proofs.Stand.{named-by}
use Rattle.sys_abi.specs.Errnos.{enoent}
use Rattle.tasks.specs.Fold.{id_at}

abbrev far : Bool → Bool → State
far f a = if not f then Unfetched else (if a then Answered else Fetched)

abbrev valid : Bool → Bool → Bool → Result (Unit {0}) ℕ
valid l f a = if l && (f && not a) then Ok tt else Err enoent

unfetched : (f a : Bool) → f ≡ false → Unfetched ≡ far f a
unfetched true a q = cc
unfetched false a q = refl

fetched-valid : (l f a : Bool) → l ≡ true → f ≡ true → Ok tt ≡ valid l f a → Fetched ≡ far f a
fetched-valid true true true on got h = cc
fetched-valid true true false on got h = refl
fetched-valid true false a on got h = cc
fetched-valid false f a on got h = cc

fetched-invalid : (l f a : Bool) (e : ℕ) → l ≡ true → f ≡ true → Err e ≡ valid l f a → Answered ≡ far f a
fetched-invalid true true true e on got h = refl
fetched-invalid true true false e on got h = cc
fetched-invalid true false a e on got h = cc
fetched-invalid false f a e on got h = cc

module _ (first : ℕ) (K : List Event) (L : Listener) (stands : StandsFor first K L) (c x : ℕ) (here : IsListedAs K c x) where
  named-here : named K x ≡ Some c
  named-here = ap (named K) (sym here.id_is) ∙ named-by first K L stands c here.on

  pub is_unfetched : fetched K c ≡ false → Unfetched ≡ state K c
  is_unfetched q = unfetched (fetched K c) (answered K c) q

  pub is_fetched : fetched K c ≡ true → Ok tt ≡ check_answer K (named K x) → Fetched ≡ state K c
  is_fetched got h = fetched-valid (listed K c) (fetched K c) (answered K c) here.on got (h ∙ ap (check_answer K) named-here)

  pub is_answered : (e : ℕ) → fetched K c ≡ true → Err e ≡ check_answer K (named K x) → Answered ≡ state K c
  is_answered e got h = fetched-invalid (listed K c) (fetched K c) (answered K c) e here.on got (h ∙ ap (check_answer K) named-here)

-- the call in which a task waits, by its id
pub no_call : (K : List Event) (n : Name) → None ≡ id_at K (call_of K n) → None ≡ state_at K (call_of K n)
no_call K n q = by (call_of K n) q
  where
    by : (call : Option ℕ) → None ≡ id_at K call → None ≡ state_at K call
    by None h = refl
    by (Some c) h = cc

pub some_call : (K : List Event) (n : Name) (x : ℕ) (s : State) → Some x ≡ id_at K (call_of K n) → ((c : ℕ) → call_of K n ≡ Some c → id K c ≡ x → s ≡ state K c) → Some s ≡ state_at K (call_of K n)
some_call K n x s q told = by (call_of K n) refl q
  where
    by : (call : Option ℕ) → call_of K n ≡ call → Some x ≡ id_at K call → Some s ≡ state_at K call
    by None at h = cc
    by (Some c) at h = let same : id K c ≡ x = cc in ap Some (told c at same)
