-- What a turn that was found, or that was not, comes to for the walks that are left.
-- By what is found round the circle, and what a turn more changes of what is pending.
use Rattle.std.proofs.Common.{◌≡◌, ℕ, zero, suc, ◌+◌, ◌<◌, ◌≤◌, ◌^◌, true, List, [], ◌∷◌, ◌++◌, length, Option, Some, None, refl, sym, ◌∙◌, ap, arith, drop, get_or, add-one, drop-cons}
use Rattle.std.proofs.lemmas.List.{drop_all}
use Rattle.hist_model.specs.Legal.{started}
use Rattle.hist_model.specs.declared.event.Event.{Event}
use Rattle.hist_model.specs.declared.policy.Policy.{Policy}
use Rattle.hist_model.specs.declared.script.Script.{Script}
use Rattle.delay_bounded.specs.Circle.{at_place, is_able, places, with_turn}
use Rattle.delay_bounded.specs.Explored.{Walk}
use Rattle.explorer.specs.Frames.{AreTurns, able_from, after, behind, last_place, later_from, left_from, pending}
use Rattle.explorer.specs.Runs.{Finds, IsRun, story}
use Rattle.explorer.specs.Walking.{HasCome, IsAtEnd, TurnsLater}
use Rattle.explorer.specs.declared.frames.Frame.{Frame}
use Rattle.explorer.specs.declared.run.Run.{Run}
use Rattle.explorer.specs.declared.run.Turn.{Turn}
use Rattle.explorer.specs.declared.walk.Next.{Next}
use Rattle.explorer.specs.declared.walk.Next.TheVariants.{Over, Walks}
use Rattle.explorer.proofs.Pending.{after_more, last_inside, later_more, left_end, left_more, pending_more, turns_less, turns_more}

module _ (P : Policy) (S : Script) (W : ℕ) where
  -- a run has come to what has happened in it
  pub run_here : (K : List Event) (r : Run) → IsRun P S K r → IsRun P S (story r) r
  run_here K r i = record { at = record { served = i.at.served; script = i.at.script; events = refl }; hands = rw i.at.events i.hands; marks_are = rw i.at.events i.marks_are }

  -- and the same turns lead there
  pub same_turns : (fs gs : List Frame) (r : Run) → fs ≡ gs → HasCome P S W fs r → HasCome P S W gs r
  same_turns fs gs r e h = rw e at h

  -- the last place is one of the circle
  pub last_in : (fs : List Frame) (r : Run) → HasCome P S W fs r → (p : ℕ) → p ≡ last_place 0 fs → p < places W (story r)
  last_in fs r h p e = rw (e, h.run.at.events) (last_inside P S W (started S) 0 fs (omega arith) h.turns)

  module _ (fs : List Frame) (r new : Run) (h : HasCome P S W fs r) (p q : ℕ) (last : p ≡ last_place 0 fs) (o : Option Turn) (f : Finds P W r p q o new) where
    pub found_there : (t : Turn) → o ≡ Some t → IsRun P S (with_turn P S (after P S (started S) fs) t.place) new
        × (able_from P S W (after P S (started S) fs) (last_place 0 fs) q ≡ t.place ∷ able_from P S W (after P S (started S) fs) (last_place 0 fs) t.next)
        × (t.place < places W (after P S (started S) fs)) × (is_able P S (after P S (started S) fs) (at_place (after P S (started S) fs) t.place) ≡ true)
    found_there t e = let here = rw e at f in rw (h.run.at.script, h.run.at.events, last) at here

    pub none_there : o ≡ None → IsRun P S (after P S (started S) fs) new × (able_from P S W (after P S (started S) fs) (last_place 0 fs) q ≡ [])
    none_there e = let here = rw e at f in rw (h.run.at.script, h.run.at.events, last) at here

    -- the turn is one more
    pub come_more : (t : Turn) → o ≡ Some t → (d : ℕ) (gs : List Frame) → gs ≡ fs ++ record { place = t.place; next = t.next; left = d } ∷ [] → HasCome P S W gs new
    come_more t e d gs is =
        let here = found_there t e in
        let frame : Frame = record { place = t.place; next = t.next; left = d } in
        rw is (record { run = rw (after_more P S W (started S) fs frame) here.0; turns = turns_more P S W (started S) fs frame h.turns here.2 here.3 })

    pub later_walks : (t : Turn) → o ≡ Some t → (d : ℕ) (gs : List Frame) → gs ≡ fs ++ record { place = t.place; next = t.next; left = d } ∷ [] → later_from P S W fs q d ++ behind P S W fs ≡ left_from P S W gs d
    later_walks t e d gs is = rw is (later_more P S W fs q t.place t.next d (found_there t e).1)

    few_after : length (story r) < 2 ^ 62 → length (after P S (started S) fs) < 2 ^ 64
    few_after few = let n : length (story r) ≡ length (after P S (started S) fs) = ap length h.run.at.events in omega arith

    pub more_walks : length (story r) < 2 ^ 62 → q ≡ 0 → (t : Turn) → o ≡ Some t → (d : ℕ) (gs : List Frame) → gs ≡ fs ++ record { place = t.place; next = t.next; left = d } ∷ [] → left_from P S W fs d ≡ left_from P S W gs d
    more_walks few z t e d gs is =
        let able = (found_there t e).1 in
        rw is (left_more P S W fs t.place t.next d (few_after few) (rw z at able))

    pub at_end : length (story r) < 2 ^ 62 → q ≡ 0 → o ≡ None → (walks : List Walk) (d : ℕ) → walks ≡ left_from P S W fs d → IsAtEnd P S W walks d fs new
    at_end few z e walks d is =
        let here = none_there e in
        let able = here.1 in
        record {
          come = record { run = here.0; turns = h.turns };
          left = is ∙ (left_end P S W fs d (few_after few) (rw z at able) ∙ ap (λ (K : List Event). record { left = d; events = K } ∷ behind P S W fs) (sym here.0.at.events));
        }

  -- ---- The turns of a replay, one after another

  pub next_turns : (K : List Event) (fs : List Frame) (i : ℕ) (f : Frame) → i < length fs → AreTurns P S W K (drop i fs)
      → ((get_or fs i f).place < places W K) × (is_able P S K (at_place K (get_or fs i f).place) ≡ true) × AreTurns P S W (with_turn P S K (get_or fs i f).place) (drop (i + 1) fs)
  unfolding AreTurns
  next_turns K fs i f l t = let is : drop i fs ≡ get_or fs i f ∷ drop (i + 1) fs = rw (add-one, drop-cons fs i f l) refl in rw is at t

  pub next_after : (K : List Event) (fs : List Frame) (i : ℕ) (f : Frame) → i < length fs → after P S (with_turn P S K (get_or fs i f).place) (drop (i + 1) fs) ≡ after P S K (drop i fs)
  unfolding after
  next_after K fs i f l = let is : drop i fs ≡ get_or fs i f ∷ drop (i + 1) fs = rw (add-one, drop-cons fs i f l) refl in rw is refl

  pub all_after : (K : List Event) (fs : List Frame) (i : ℕ) → length fs ≤ i → after P S K (drop i fs) ≡ K
  unfolding after
  all_after K fs i l = rw (drop_all i fs l) refl

  pub replayed : (r : Run) (fs : List Frame) (i : ℕ) → length fs ≤ i → IsRun P S (story r) r → after P S (story r) (drop i fs) ≡ after P S (started S) fs → AreTurns P S W (started S) fs → HasCome P S W fs r
  replayed r fs i l at to t =
      let is : story r ≡ after P S (started S) fs = sym (all_after (story r) fs i l) ∙ to in
      record { run = record { at = record { served = at.at.served; script = at.at.script; events = is }; hands = rw (← is) at.hands; marks_are = rw (← is) at.marks_are }; turns = t }

  -- ---- The last turn is taken back

  pub turns_back : (all fs : List Frame) (f : Frame) → all ≡ fs ++ f ∷ [] → AreTurns P S W (started S) all → AreTurns P S W (started S) fs
  turns_back all fs f is t = turns_less P S W (started S) fs f (rw is at t)

  pub none_back : (all fs : List Frame) (f : Frame) → all ≡ fs ++ f ∷ [] → f.left ≡ 0 → behind P S W all ≡ behind P S W fs
  none_back all fs f is z = rw (is, pending_more P S W (started S) 0 fs f, z) refl

  pub some_back : (all fs : List Frame) (f : Frame) → all ≡ fs ++ f ∷ [] → (d : ℕ) → f.left ≡ suc d → behind P S W all ≡ later_from P S W fs f.next d ++ behind P S W fs
  some_back all fs f is d z = rw (is, pending_more P S W (started S) 0 fs f, z) refl

  pub nothing_left : (all : List Frame) → length all ≡ 0 → behind P S W all ≡ []
  unfolding pending
  nothing_left [] l = refl
  nothing_left (f ∷ fs) l = absurd (omega arith)

  -- what the search for a later turn comes to for all that was pending
  module _ (first all fs new : List Frame) (f : Frame) (is : all ≡ fs ++ f ∷ []) (rest : behind P S W first ≡ behind P S W all) (d : ℕ) (z : f.left ≡ suc d) (next : Next) (t : TurnsLater P S W fs f.next d new next) where
    pub goes_on : (r : Run) (left : ℕ) → next ≡ Walks r left → HasCome P S W new r × (behind P S W first ≡ left_from P S W new left)
    goes_on r left e = let came = rw e at t in (came.0, rest ∙ (some_back all fs f is d z ∙ came.1))

    pub goes_back : (script : Script) → next ≡ Over script → (script ≡ S) × (new ≡ fs) × (behind P S W first ≡ behind P S W new)
    goes_back script e =
        let came = rw e at t in
        let none = came.2 in
        (came.0, came.1, rest ∙ (some_back all fs f is d z ∙ rw (none, came.1) refl))

pub zero_left : (n : ℕ) → (1 ≤ n → ⊥) → n ≡ 0
zero_left zero h = refl
zero_left (suc n) h = absurd (h (omega arith))
