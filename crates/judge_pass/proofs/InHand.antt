-- The call that a seat has in hand, by what is kept of the seat and of the call.
-- By the number that is kept of it.
use Rattle.std.proofs.Common.{◌≡◌, ℕ, ◌<◌, List, get_or, Option, Some, None, refl, ap, ◌∙◌}
use Rattle.std.specs.Prelude.{is_some, option_map, IfSome}
use Rattle.hist_model.specs.Kinds.{notifies}
use Rattle.hist_model.specs.Steps.{session_call}
use Rattle.hist_model.specs.declared.event.Event.{Event}
use Rattle.hist_model.specs.declared.policy.Policy.{Policy}
use Rattle.hist_model.specs.declared.script.Script.{Script}
use Rattle.history_frames.specs.Ordinals.{count_of}
use Rattle.history_frames.proofs.Ordinals.{made-place}
use Rattle.broker_verdict.specs.Seats.{effect_of, is_effect}
use Rattle.judge_pass.specs.declared.calls.Call.{Call}
use Rattle.judge_pass.specs.declared.judge.Judge.{Judge}
use Rattle.judge_pass.specs.declared.seats.Seat.{Seat}
use Rattle.judge_pass.specs.Stands.{IsBelow, IsCall, IsSeat, place_of_call, place_of_effect, Stands}
use Rattle.judge_pass.specs.Within.{calls_kept, IsCallWithin, IsSeatWithin, IsWithin}
use Rattle.judge_pass.proofs.CallersGroup.{some_element}

-- what is found of the call with a number, if there is one
abbrev pub Finds : Judge → Option ℕ → Option Call → Type 0
Finds j number found = (d : Call) → found ≡ option_map (λ n. get_or j.calls.rows.items n d) number

-- the call is the one with a number that the seat has in hand
pub record IsInHand (j : Judge) (seat : Seat) (call : Call) : Type 0 where
  pub number : ℕ
  pub has : seat.call ≡ Some number
  pub kept : call ≡ get_or j.calls.rows.items number call

number_found : (j : Judge) (number : Option ℕ) (call : Call) → Finds j number (Some call) → (n : ℕ) × (number ≡ Some n) × (call ≡ get_or j.calls.rows.items n call)
number_found j None call h = let e = h call in absurd (cc)
number_found j (Some n) call h = let e = h call in (n, refl, cc)

pub in_hand : (j : Judge) (seat : Seat) (call : Call) → Finds j seat.call (Some call) → IsInHand j seat call
in_hand j seat call h = let (n, has, kept) = number_found j seat.call call h in record { number = n; has = has; kept = kept }

below_kept : (j : Judge) (number : Option ℕ) (n : ℕ) → IfSome number (λ m. m < calls_kept j) → number ≡ Some n → n < calls_kept j
below_kept j number n low is = rw is at low

pub hand_within : (j : Judge) (seat : Seat) (call : Call) → IsWithin j → IsSeatWithin j seat → IsInHand j seat call → IsCallWithin j call
hand_within j seat call within low hand = rw (← hand.kept) at (within.calls hand.number call (below_kept j seat.call hand.number low.call hand.has))

pub call_kept : (P : Policy) (S : Script) (K : List Event) (j : Judge) (w : ℕ) (seat : Seat) (call : Call) → Stands P S K j → IsSeat S K w seat
    → (hand : IsInHand j seat call) → IsCall S K hand.number call
call_kept P S K j w seat call h is hand =
    let made : hand.number < count_of notifies K = rw hand.has at is.call_made in
    rw (← hand.kept) at (h.calls hand.number call made)

-- the session has the call that stands at its place
pub hand_is : (P : Policy) (S : Script) (K : List Event) (j : Judge) (w : ℕ) (seat : Seat) (call : Call) → Stands P S K j → IsSeat S K w seat
    → IsInHand j seat call → session_call K w ≡ Some call.place
hand_is P S K j w seat call h is hand = is.call_is ∙ ap (place_of_call K) hand.has ∙ (call_kept P S K j w seat call h is hand).place_is

-- or none
pub nothing_found : (K : List Event) (j : Judge) (number : Option ℕ) → IfSome number (λ m. m < calls_kept j) → Finds j number None → place_of_call K number ≡ None
nothing_found K j None low h = refl
nothing_found K j (Some n) low h = let e = h (some_element j.calls.rows.items n low) in absurd (cc)

pub no_hand : (S : Script) (K : List Event) (j : Judge) (w : ℕ) (seat : Seat) → IsSeat S K w seat → IsSeatWithin j seat → Finds j seat.call None → session_call K w ≡ None
no_hand S K j w seat is low h = is.call_is ∙ nothing_found K j seat.call low.call h

-- ---- effects

some_place : (K : List Event) (number : Option ℕ) → IsBelow (count_of is_effect K) number → is_some (place_of_effect K number) ≡ is_some number
some_place K None low = refl
some_place K (Some n) low = ap is_some (made-place is_effect K n low).1

-- the seat has an effect exactly where one is kept
pub effect_known : (S : Script) (K : List Event) (w : ℕ) (seat : Seat) → IsSeat S K w seat → is_some (effect_of K w) ≡ is_some seat.effect
effect_known S K w seat is = ap is_some is.effect_is ∙ some_place K seat.effect is.effect_made
