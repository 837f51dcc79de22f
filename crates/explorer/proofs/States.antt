-- Histories of a state with one more turn are those of a state, and so are those of two states with one key.
-- By what one more turn, and what joining, changes of what is left, of the order, and of the counts.
use Rattle.std.proofs.Common.{◌≡◌, ℕ, ◌-◌, ◌≤◌, true, false, List, [], ◌∷◌, ◌++◌, length, map, sym, ◌∙◌}
use Rattle.std.specs.Prelude.{All, filter}
use Rattle.std.proofs.lemmas.Bool.{leb-true}
use Rattle.std.proofs.lemmas.List.{length-map, map-append}
use Rattle.std.proofs.lemmas.List.Elements.{All-append, All-filter, All-map, All-weaker, filter_passes}
use Rattle.hist_model.specs.declared.policy.Policy.{Policy}
use Rattle.hist_model.specs.declared.script.Script.{Script}
use Rattle.explorer.specs.Levels.{IsNoLater, left_to}
use Rattle.explorer.specs.Paths.{is_first, left_of}
use Rattle.explorer.specs.declared.frames.Frame.{Frame}
use Rattle.explorer.specs.declared.state.Bound.{Bound}
use Rattle.explorer.proofs.PathOrder.{first_more, no_later_ahead, no_later_behind}
use Rattle.explorer.proofs.PathSteps.{left_more}
use Rattle.explorer.proofs.PathSums.{all_longer, has_left, longer}

module _ (P : Policy) (S : Script) (W : ℕ) (b : Bound) where
  abbrev left : List Frame → ℕ
  left = left_to P S W b

  -- ---- With one more turn

  module _ (q n c : ℕ) where
    pub left_longer : (fs : List Frame) → left (longer P S W b q n c fs) ≡ left fs - c
    left_longer fs = left_more b.most fs (record { place = q; next = n; left = left fs - c })

    lefts_longer : (fs : List Frame) → map left_of (longer P S W b q n c fs) ≡ map left_of fs ++ (left fs - c) ∷ []
    lefts_longer fs = map-append left_of fs (record { place = q; next = n; left = left fs - c } ∷ [])

    -- the order stays
    pub no_later_longer : (fs gs : List Frame) → length fs ≡ length gs → c ≤ left fs → c ≤ left gs → IsNoLater P S W b fs gs
        → IsNoLater P S W b (longer P S W b q n c fs) (longer P S W b q n c gs)
    no_later_longer fs gs e k l p =
        let same : length (map left_of gs) ≡ length (map left_of fs) = length-map gs left_of ∙ (sym e ∙ sym (length-map fs left_of)) in
        rw (left_longer gs, lefts_longer gs, left_longer fs, lefts_longer fs)
        (first_more (left gs) (left fs) c (map left_of gs) (map left_of fs) l k same p)

    -- what is so of each, and stays so, is so of each with one more turn
    pub all_more : (Q R : List Frame → Type 0) → ((fs : List Frame) → c ≤ left fs → Q fs → R (longer P S W b q n c fs)) → (ms : List (List Frame))
        → All Q ms → All R (all_longer P S W b q n c ms)
    all_more Q R f ms a =
        All-map R (longer P S W b q n c) (filter (has_left P S W b c) ms)
        (λ i d l. f _ (leb-true c _ (filter_passes (has_left P S W b c) ms i d l)) (All-filter (has_left P S W b c) Q ms a i d l))

  -- ---- Joined

  -- the first of two states that are joined comes no later than any of both
  module _ (new old : List Frame) (ms more : List (List Frame)) (m : All (IsNoLater P S W b old) ms) (n : All (IsNoLater P S W b new) more) where
    -- it is that of those that come in addition
    pub ahead : is_first (left new) (map left_of new) (left old) (map left_of old) ≡ true → All (IsNoLater P S W b new) (ms ++ more)
    ahead h = All-append (IsNoLater P S W b new) ms more
        (All-weaker (IsNoLater P S W b old) (IsNoLater P S W b new)
        (λ fs k. no_later_ahead (left new) (left old) (left fs) (map left_of new) (map left_of old) (map left_of fs) h k) ms m) n

    -- or that of those that were there
    pub stays : is_first (left new) (map left_of new) (left old) (map left_of old) ≡ false → All (IsNoLater P S W b old) (ms ++ more)
    stays h = All-append (IsNoLater P S W b old) ms more m
        (All-weaker (IsNoLater P S W b new) (IsNoLater P S W b old)
        (λ fs k. no_later_behind (left new) (left old) (left fs) (map left_of new) (map left_of old) (map left_of fs) h k) more n)
