-- What a turn more, and a turn less, change of the walks that are pending.
-- By induction on the turns.
use Rattle.std.proofs.Common.{◌≡◌, ℕ, suc, ◌-◌, get_or, List, [], ◌∷◌, ◌++◌, refl, append_assoc, sym, append-nil, true, ◌<◌, ◌≤◌, ◌^◌, length, arith}
use Rattle.history_frames.specs.Ordinals.{count_of}
use Rattle.hist_model.specs.Legal.{started}
use Rattle.hist_model.specs.declared.event.Event.{Event}
use Rattle.hist_model.specs.declared.policy.Policy.{Policy}
use Rattle.hist_model.specs.declared.script.Script.{Script}
use Rattle.delay_bounded.specs.Circle.{able, at_place, is_able, places, with_turn}
use Rattle.delay_bounded.specs.Explored.{Walk, later, walks_on}
use Rattle.explorer.specs.Frames.{AreTurns, able_from, after, behind, last_place, later_from, left_from, pending}
use Rattle.delay_bounded.proofs.Walks.{first_turn, walks_step}
use Rattle.explorer.specs.declared.frames.Frame.{Frame}

module _ (P : Policy) (S : Script) (W : ℕ) where
  pub after_more : (K : List Event) (fs : List Frame) (f : Frame) → after P S K (fs ++ f ∷ []) ≡ with_turn P S (after P S K fs) f.place
  unfolding after
  after_more K [] f = refl
  after_more K (g ∷ fs) f = after_more (with_turn P S K g.place) fs f

  pub last_more : (p : ℕ) (fs : List Frame) (f : Frame) → last_place p (fs ++ f ∷ []) ≡ f.place
  unfolding last_place
  last_more p [] f = refl
  last_more p (g ∷ fs) f = last_more g.place fs f

  pub turns_more : (K : List Event) (fs : List Frame) (f : Frame) → AreTurns P S W K fs → f.place < places W (after P S K fs) → is_able P S (after P S K fs) (at_place (after P S K fs) f.place) ≡ true → AreTurns P S W K (fs ++ f ∷ [])
  unfolding AreTurns after
  turns_more K [] f t l a = (l, a, tt)
  turns_more K (g ∷ fs) f t l a = (t.0, t.1, turns_more (with_turn P S K g.place) fs f t.2 l a)

  pub pending_more : (K : List Event) (p : ℕ) (fs : List Frame) (f : Frame) → pending P S W K p (fs ++ f ∷ [])
      ≡ later (λ q r. walks_on P S W (with_turn P S (after P S K fs) q) q r) (able_from P S W (after P S K fs) (last_place p fs) f.next) f.left ++ pending P S W K p fs
  unfolding pending after last_place
  pending_more K p [] f = sym (append-nil _)
  pending_more K p (g ∷ fs) f = rw (pending_more (with_turn P S K g.place) g.place fs f, append_assoc) refl

  -- ---- What is left, turn by turn

  module _ (fs : List Frame) where
    -- the walks after the turn of an actor
    by_turn : ℕ → ℕ → List Walk
    by_turn q r = walks_on P S W (with_turn P S (after P S (started S) fs) q) q r

    abbrev with_frame : ℕ → ℕ → ℕ → List Frame
    with_frame q n d = fs ++ record { place = q; next = n; left = d } ∷ []

    pushed : (q n d : ℕ) → left_from P S W (with_frame q n d) d
        ≡ by_turn q d ++ (later by_turn (able_from P S W (after P S (started S) fs) (last_place 0 fs) n) d ++ behind P S W fs)
    unfolding by_turn
    pushed q n d =
        let f : Frame = record { place = q; next = n; left = d } in
        rw (after_more (started S) fs f, last_more 0 fs f, pending_more (started S) 0 fs f) refl

    -- the first of those that are able to step has its turn
    pub left_more : (q n d : ℕ) → length (after P S (started S) fs) < 2 ^ 64
        → able_from P S W (after P S (started S) fs) (last_place 0 fs) 0 ≡ q ∷ able_from P S W (after P S (started S) fs) (last_place 0 fs) n
        → left_from P S W fs d ≡ left_from P S W (with_frame q n d) d
    unfolding able by_turn
    left_more q n d few e =
        rw (walks_step P S W (after P S (started S) fs) (last_place 0 fs) d few, e, first_turn by_turn q (able_from P S W (after P S (started S) fs) (last_place 0 fs) n) d, append_assoc) (sym (pushed q n d))

    -- nobody is able to step
    pub left_end : (d : ℕ) → length (after P S (started S) fs) < 2 ^ 64 → able_from P S W (after P S (started S) fs) (last_place 0 fs) 0 ≡ []
        → left_from P S W fs d ≡ record { left = d; events = after P S (started S) fs } ∷ behind P S W fs
    unfolding able
    left_end d few e = rw (walks_step P S W (after P S (started S) fs) (last_place 0 fs) d few, e) refl

    -- a later one has its turn
    pub later_more : (t q n d : ℕ)
        → able_from P S W (after P S (started S) fs) (last_place 0 fs) t ≡ q ∷ able_from P S W (after P S (started S) fs) (last_place 0 fs) n
        → later_from P S W fs t d ++ behind P S W fs ≡ left_from P S W (with_frame q n d) d
    unfolding by_turn
    later_more t q n d e =
        rw (e, first_turn by_turn q (able_from P S W (after P S (started S) fs) (last_place 0 fs) n) d, append_assoc) (sym (pushed q n d))

  -- ---- A turn less

  pub turns_less : (K : List Event) (fs : List Frame) (f : Frame) → AreTurns P S W K (fs ++ f ∷ []) → AreTurns P S W K fs
  unfolding AreTurns
  turns_less K [] f t = tt
  turns_less K (g ∷ fs) f t = (t.0, t.1, turns_less (with_turn P S K g.place) fs f t.2)

  -- ---- The last place is one of the circle

  more_places : (K : List Event) (p : ℕ) → places W K ≤ places W (with_turn P S K p)
  unfolding count_of
  more_places K p = omega arith

  pub last_inside : (K : List Event) (p : ℕ) (fs : List Frame) → p < places W K → AreTurns P S W K fs → last_place p fs < places W (after P S K fs)
  unfolding AreTurns last_place after
  last_inside K p [] l t = l
  last_inside K p (f ∷ fs) l t = last_inside (with_turn P S K f.place) f.place fs (omega (arith, more_places K f.place)) t.2

-- the last turn's place is that of the last frame
pub last_is : (p : ℕ) (fs : List Frame) (f : Frame) → 0 < length fs → last_place p fs ≡ (get_or fs (length fs - 1) f).place
unfolding last_place
last_is p [] f l = absurd (omega arith)
last_is p (g ∷ []) f l = refl
last_is p (g ∷ h ∷ more) f l = let e : length (g ∷ h ∷ more) - 1 ≡ suc (length (h ∷ more) - 1) = omega arith in rw e (last_is g.place (h ∷ more) f (omega arith))

-- where there is none, it is the first one
pub last_none : (p : ℕ) (fs : List Frame) → length fs ≤ 0 → p ≡ last_place p fs
unfolding last_place
last_none p [] l = refl
last_none p (f ∷ fs) l = absurd (omega arith)
