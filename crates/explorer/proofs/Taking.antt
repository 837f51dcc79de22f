-- The first histories of a list, and those of two lists, one behind the other.
-- By induction on the first list.
use Rattle.std.proofs.Common.{◌≡◌, ℕ, zero, suc, ◌+◌, ◌-◌, ◌<◌, ◌≤◌, true, false, List, [], ◌∷◌, ◌++◌, length, map, filter, All, refl, arith, append-nil}
use Rattle.std.proofs.lemmas.List.Sums.{sum_by-cons}
use Rattle.std.proofs.lemmas.List.Elements.{All-append, All-cons, All-head, All-nil, All-tail}
use Rattle.hist_model.specs.declared.event.Event.{Event}
use Rattle.hist_model.specs.declared.policy.Policy.{Policy}
use Rattle.hist_model.specs.declared.script.Script.{Script}
use Rattle.delay_bounded.specs.Explored.{Walk, closed, explored, is_spent, walks_of, with_delays}
use Rattle.explorer.specs.Taken.{all_events, none_left, taken}

-- the first one
pub taken_first : (n : ℕ) (H : List Event) (more : List (List Event)) → 0 < n → taken n (H ∷ more) ≡ H ∷ taken (n - length H) more
unfolding taken
taken_first zero H more l = absurd (omega arith)
taken_first (suc n) H more l = refl

pub left_first : (n : ℕ) (H : List Event) (more : List (List Event)) → 0 < n → none_left n (H ∷ more) ≡ none_left (n - length H) more
unfolding none_left
left_first zero H more l = absurd (omega arith)
left_first (suc n) H more l = refl

-- ---- Where none of the first list is left

events_first : (H : List Event) (A : List (List Event)) → all_events (H ∷ A) ≡ length H + all_events A
events_first H A = sum_by-cons (λ (K : List Event). length K) H A

taken_here : (n : ℕ) (B : List (List Event)) → taken n B ≡ taken (n - 0) B
taken_here n B = let same : n - 0 ≡ n = omega arith in rw same refl

left_here : (n : ℕ) (B : List (List Event)) → none_left n B ≡ none_left (n - 0) B
left_here n B = let same : n - 0 ≡ n = omega arith in rw same refl

pub taken_all : (n : ℕ) (A B : List (List Event)) → none_left n A ≡ true → taken n (A ++ B) ≡ A ++ taken (n - all_events A) B
unfolding taken none_left
taken_all n [] B e = taken_here n B
taken_all zero (H ∷ A) B e = cc
taken_all (suc n) (H ∷ A) B e =
    let same : suc n - length H - all_events A ≡ suc n - all_events (H ∷ A) = omega (arith, events_first H A) in
    rw (taken_all (suc n - length H) A B e, same) refl

pub left_all : (n : ℕ) (A B : List (List Event)) → none_left n A ≡ true → none_left n (A ++ B) ≡ none_left (n - all_events A) B
unfolding none_left
left_all n [] B e = left_here n B
left_all zero (H ∷ A) B e = cc
left_all (suc n) (H ∷ A) B e =
    let same : suc n - length H - all_events A ≡ suc n - all_events (H ∷ A) = omega (arith, events_first H A) in
    rw (left_all (suc n - length H) A B e, same) refl

-- ---- And where one of it is

pub taken_some : (n : ℕ) (A B : List (List Event)) → none_left n A ≡ false → taken n (A ++ B) ≡ taken n A
unfolding taken none_left
taken_some n [] B e = cc
taken_some zero (H ∷ A) B e = refl
taken_some (suc n) (H ∷ A) B e = rw (taken_some (suc n - length H) A B e) refl

pub left_some : (n : ℕ) (A B : List (List Event)) → none_left n A ≡ false → none_left n (A ++ B) ≡ false
unfolding none_left
left_some n [] B e = cc
left_some zero (H ∷ A) B e = refl
left_some (suc n) (H ∷ A) B e = left_some (suc n - length H) A B e

-- ---- The whole list

pub taken_whole : (n : ℕ) (A : List (List Event)) → none_left n A ≡ true → taken n A ≡ A
unfolding taken
taken_whole n A e = let all = taken_all n A [] e in rw append-nil at all

-- there are fewer events
pub few_events : (n : ℕ) (A : List (List Event)) → all_events A < n → none_left n A ≡ true
unfolding none_left
few_events n [] l = refl
few_events zero (H ∷ A) l = absurd (omega arith)
few_events (suc n) (H ∷ A) l = few_events (suc n - length H) A (omega (arith, events_first H A))

abbrev HasBegun : List Event → Type 0
HasBegun H = 0 < length H

-- so there are no more histories, as each has an event
few_histories : (n : ℕ) (A : List (List Event)) → All HasBegun A → none_left n A ≡ true → length A ≤ n
unfolding none_left
few_histories n [] b e = omega arith
few_histories zero (H ∷ A) b e = cc
few_histories (suc n) (H ∷ A) b e = omega (arith, All-head HasBegun H A b, few_histories (suc n - length H) A (All-tail HasBegun H A b) e)

-- ---- Explored histories

pub has_begun : (P : Policy) (S : Script) (w : Walk) → 0 < length (closed P S w)
has_begun P S w = omega arith

all_closed : (P : Policy) (S : Script) (ws : List Walk) → All HasBegun (map (closed P S) ws)
all_closed P S [] = All-nil HasBegun
all_closed P S (w ∷ ws) = All-cons HasBegun (closed P S w) (map (closed P S) ws) (has_begun P S w) (all_closed P S ws)

all_begun : (P : Policy) (S : Script) (W d : ℕ) → All HasBegun (explored P S W d)
unfolding explored with_delays
all_begun P S W zero = all_closed P S (filter is_spent (walks_of P S W 0))
all_begun P S W (suc d) = All-append HasBegun (explored P S W d) (with_delays P S W (suc d)) (all_begun P S W d) (all_closed P S (filter is_spent (walks_of P S W (suc d))))

pub no_more_histories : (P : Policy) (S : Script) (W d n : ℕ) → none_left n (explored P S W d) ≡ true → length (explored P S W d) ≤ n
no_more_histories P S W d n e = few_histories n (explored P S W d) (all_begun P S W d) e
