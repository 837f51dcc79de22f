-- What a worker's step changes of what it has in hand.
-- By cases on the step, and on the numbers of the workers.
use Rattle.std.proofs.Common.{◌≡◌, ℕ, zero, suc, ◌<◌, Bool, true, false, ◌&&◌, ◌==◌, List, [], ◌∷◌, ◌++◌, length, take, get_or, set, Ok, Err, refl, sym, ◌∙◌, ap, arith, add-one, eq-eqb, eqb-true, replicate}
use Rattle.std.specs.List.{list_all}
use Rattle.std.proofs.lemmas.List.{get_or-replicate, get_or-set_other, get_or-set_same, take_more}
use Rattle.std.proofs.lemmas.List.Folds.{list_all-append}
use Rattle.hist_model.specs.Kinds.{skips}
use Rattle.hist_model.specs.Legal.{is_open_session, started}
use Rattle.hist_model.specs.Look.{ev}
use Rattle.hist_model.specs.Sessions.{joined, session}
use Rattle.hist_model.specs.declared.event.Actor.TheVariants.{Worker}
use Rattle.hist_model.specs.declared.event.Event.{Event}
use Rattle.hist_model.specs.declared.event.What.{What}
use Rattle.hist_model.specs.declared.event.What.TheVariants.{Recv}
use Rattle.hist_model.specs.declared.script.Script.{Script}
use Rattle.delay_bounded.specs.Circle.{all_in_hand, in_hand}
use Rattle.explorer.specs.InHand.{full_after}

-- nobody has anything in hand at first
pub none_at_first : (S : Script) (w : ℕ) → in_hand (started S) w ≡ false
unfolding session
none_at_first S w = refl

open_after : (own : List What) (a : What) → is_open_session (joined a own) ≡ full_after (is_open_session own) a
open_after [] (Recv (Ok n)) = refl
open_after [] (Recv (Err e)) = refl
open_after [] a = refl
open_after (b ∷ own) (Recv (Ok n)) = refl
open_after (b ∷ own) (Recv (Err e)) = refl
open_after (b ∷ own) a = refl

-- the worker's own step
pub own_after : (K : List Event) (w : ℕ) (a : What) → skips a ≡ false → in_hand (ev (Worker w) a ∷ K) w ≡ full_after (in_hand K w) a
unfolding session
own_after K w a s = rw (s, eq-eqb w w refl) (open_after (session K w) a)

-- and another's
pub other_after : (K : List Event) (v w : ℕ) (a : What) → (v == w) ≡ false → in_hand (ev (Worker v) a ∷ K) w ≡ in_hand K w
unfolding session
other_after K v w a e = rw e refl

all_and : (a b : Bool) → (a && (b && true)) ≡ (a && b)
all_and a true = refl
all_and a false = refl

-- whether all below have
pub all_below : (K : List Event) (xs : List Bool) → ((w : ℕ) → w < 16 → get_or xs w false ≡ in_hand K w) → length xs ≡ 16 → (w : ℕ) → w < 17 → list_all (λ (b : Bool). b) (take w xs) ≡ all_in_hand K w
all_below K xs h l zero lt = refl
all_below K xs h l (suc w) lt =
    let more : take (suc w) xs ≡ take w xs ++ get_or xs w false ∷ [] = rw (← add-one) (take_more xs w false (omega arith)) in
    rw (more, list_all-append (λ (b : Bool). b) (take w xs) (get_or xs w false ∷ []), all_below K xs h l w (omega arith), h w (omega arith)) (all_and (all_in_hand K w) (in_hand K w))

pub none_full : (w : ℕ) → w < 16 → get_or (replicate 16 false) w false ≡ false
none_full w lt = get_or-replicate 16 w false false lt

module _ (K : List Event) (xs : List Bool) (h : (w : ℕ) → w < 16 → get_or xs w false ≡ in_hand K w) (l : length xs ≡ 16) (v : ℕ) (a : What) (s : skips a ≡ false) where
  noted_as : (w : ℕ) → w < 16 → (b : Bool) → (v == w) ≡ b → get_or (set xs v (full_after (get_or xs v false) a)) w false ≡ in_hand (ev (Worker v) a ∷ K) w
  noted_as w lt true e =
      let same : v ≡ w = eqb-true v w e in
      rw same (get_or-set_same xs w (full_after (get_or xs w false) a) false (omega arith) ∙ (ap (λ (b : Bool). full_after b a) (h w lt) ∙ sym (own_after K w a s)))
  noted_as w lt false e =
      get_or-set_other xs v w (full_after (get_or xs v false) a) false (λ i. let t : (v == w) ≡ true = eq-eqb v w (sym i) in cc) ∙ (h w lt ∙ sym (other_after K v w a e))

  -- what is known after the step
  pub noted : (w : ℕ) → w < 16 → get_or (set xs v (full_after (get_or xs v false) a)) w false ≡ in_hand (ev (Worker v) a ∷ K) w
  noted w lt = noted_as w lt (v == w) refl
