-- What one more walk of a pass changes of what is told, and what one pass after another comes to.
-- By the definition of what is taken of the histories: those with more delays stand behind those with fewer.
use Rattle.std.proofs.Common.{◌≡◌, ℕ, zero, suc, ◌+◌, ◌-◌, ◌<◌, ◌≤◌, Bool, true, false, List, [], ◌∷◌, ◌++◌, length, refl, sym, ◌∙◌, subst, arith, append-nil, append_assoc, leb-false, leb-true, length-append, nat_le}
use Rattle.hist_model.specs.declared.event.Event.{Event}
use Rattle.hist_model.specs.declared.policy.Policy.{Policy}
use Rattle.hist_model.specs.declared.script.Script.{Script}
use Rattle.delay_bounded.specs.Explored.{Walk, closed, explored, is_zero, walks_of, with_delays}
use Rattle.explorer.specs.Taken.{event_limit, none_left, taken}
use Rattle.explorer.specs.Telling.{Explores, IsSoFar, Notes, TellsFirst, TellsOf, histories_of, with_fewer}
use Rattle.explorer.specs.Walking.{EndsFirst, GoesThrough, walks_in}
use Rattle.explorer.specs.declared.one_by_one.Explored.{Explored}
use Rattle.explorer.specs.declared.tally.Tally.{Tally}
use Rattle.explorer.specs.declared.walker.Walker.{Walker}
use Rattle.explorer.proofs.Bounds.{told_first, told_left, told_no_more, told_whole}
use Rattle.explorer.proofs.ByDelays.{fewer_more}
use Rattle.explorer.proofs.Taking.{has_begun, left_all, left_first, taken_all, taken_first, taken_whole}

pub is_full : (b : Bool) (n : ℕ) → b ≡ nat_le event_limit n → b ≡ true → event_limit ≤ n
is_full b n e f = leb-true event_limit n (sym e ∙ f)

pub has_room : (b : Bool) (n : ℕ) → b ≡ nat_le event_limit n → b ≡ false → n < event_limit
has_room b n e f = leb-false event_limit n (sym e ∙ f)

-- ---- A walk more

-- no history is left
none_more : (P : Policy) (S : Script) (t : Tally) → Explores P S [] t true t
unfolding taken none_left
none_more P S t = record { tells = λ L h. rw append-nil h; whole_is = refl }

-- the limit was reached
none_taken : (P : Policy) (S : Script) (H : List Event) (more : List (List Event)) (t : Tally) → event_limit - t.events ≡ 0 → Explores P S (H ∷ more) t false t
unfolding taken none_left
none_taken P S H more t z = record { tells = λ L h. rw (z, append-nil) h; whole_is = rw z refl }

-- it was not, and a history more was noted
one_taken : (P : Policy) (S : Script) (H : List Event) (more : List (List Event)) (old new : Tally) → old.events < event_limit → ((L : List (List Event)) → TellsOf P S L old → TellsOf P S (L ++ H ∷ []) new) → new.events ≡ old.events + length H
    → (whole : Bool) (end : Tally) → Explores P S more new whole end → Explores P S (H ∷ more) old whole end
one_taken P S H more old new few tells events whole end e =
    let room : 0 < event_limit - old.events = omega arith in
    let left : event_limit - old.events - length H ≡ event_limit - new.events = omega (arith, events) in
    record {
      tells = λ L t.
          let told : TellsOf P S ((L ++ H ∷ []) ++ taken (event_limit - new.events) more) end = e.tells (L ++ H ∷ []) (tells L t) in
          rw (taken_first (event_limit - old.events) H more room, left) (rw append_assoc at told);
      whole_is = rw (left_first (event_limit - old.events) H more room, left) e.whole_is;
    }

not_zero : (n : ℕ) → 1 ≤ n → is_zero n ≡ false
not_zero zero h = absurd (omega arith)
not_zero (suc n) h = refl

module _ (P : Policy) (S : Script) (w : Walk) where
  pub full_notes : (t : Tally) → w.left ≡ 0 → event_limit ≤ t.events → Notes P S w t false t
  full_notes t z l whole end rest e n =
      let over = n refl in
      rw (over.0, over.1, z) (none_taken P S (closed P S w) (histories_of P S rest) t (omega arith))

  pub one_notes : (old new : Tally) → w.left ≡ 0 → old.events < event_limit → (H : List Event) → closed P S w ≡ H
      → ((L : List (List Event)) → TellsOf P S L old → TellsOf P S (L ++ H ∷ []) new) → new.events ≡ old.events + length H → Notes P S w old true new
  one_notes old new z few H is tells events whole end rest e n =
      let taken = one_taken P S H (histories_of P S rest) old new few tells events whole end (e refl) in
      rw z (subst (λ (K : List Event). Explores P S (K ∷ histories_of P S rest) old whole end) (sym is) taken)

  -- the walk could have had a delay more, so it is no history of the pass
  pub spare_notes : (t : Tally) → 1 ≤ w.left → Notes P S w t true t
  spare_notes t more whole end rest e n = rw (not_zero w.left more) (e refl)

-- ---- All walks of a pass

pub has_events : (P : Policy) (S : Script) (W : ℕ) (walks : List Walk) (left : ℕ) (history : List Event) (places : List ℕ) (rest : Walker) → EndsFirst P S W walks left history places rest
    → 0 < length history
has_events P S W walks left history places rest ended = subst (λ (H : List Event). 0 < length H) ended.history_is (has_begun P S ended.walk)

module _ (P : Policy) (S : Script) (W d : ℕ) (first : Tally) where
  -- what is told in the end is so of the pass, if it is so of the walks that are left
  abbrev pub IsUnderWay : Tally → Walker → Type 0
  IsUnderWay t w = (whole : Bool) (end : Tally) → Explores P S (histories_of P S (walks_in P W w)) t whole end → Explores P S (with_delays P S W d) first whole end

  pub begun : (w : Walker) → GoesThrough P S W (walks_of P S W d) w → IsUnderWay first w
  unfolding with_delays
  begun w g whole end e = subst (λ (ws : List Walk). Explores P S (histories_of P S ws) first whole end) (sym g.left) e

  module _ (t : Tally) (w : Walker) (so_far : IsUnderWay t w) where
    pub all_done : walks_in P W w ≡ [] → Explores P S (with_delays P S W d) first true t
    all_done none = so_far true t (subst (λ (ws : List Walk). Explores P S (histories_of P S ws) t true t) (sym none) (none_more P S t))

    module _ (left : ℕ) (history : List Event) (places : List ℕ) (rest : Walker) (ended : EndsFirst P S W (walks_in P W w) left history places rest) (new : Tally) (goes_on : Bool) (notes : Notes P S ended.walk t goes_on new) where
      one_more : (whole : Bool) (end : Tally) → Explores P S (histories_of P S (ended.walk ∷ ended.more)) t whole end → Explores P S (with_delays P S W d) first whole end
      one_more whole end e = so_far whole end (subst (λ (ws : List Walk). Explores P S (histories_of P S ws) t whole end) (sym ended.walks_are) e)

      pub stopped : goes_on ≡ false → Explores P S (with_delays P S W d) first false new
      stopped e = one_more false new (notes false new ended.more (λ t. cc) (λ f. (refl, refl)))

      pub went_on : goes_on ≡ true → IsUnderWay new rest
      went_on e whole end more =
          one_more whole end (notes whole end ended.more (λ t. subst (λ (ws : List Walk). Explores P S (histories_of P S ws) new whole end) (sym ended.goes_on.left) more) (λ f. cc))

-- ---- One pass after another

no_events : (A : List (List Event)) → length A ≡ 0 → A ≡ []
no_events [] e = refl
no_events (H ∷ A) e = absurd (omega arith)

module _ (P : Policy) (S : Script) (W : ℕ) where
  fewer_and : (d : ℕ) → with_fewer P S W d ++ with_delays P S W d ≡ explored P S W d
  unfolding explored
  fewer_and zero = refl
  fewer_and (suc d) = refl

  pub none_before : (t : Tally) → TellsOf P S [] t → IsSoFar P S W 0 t
  unfolding none_left
  none_before t tells = record { tells = tells; none_is_left = refl }

  module _ (d : ℕ) (old new : Tally) (so_far : IsSoFar P S W d old) (whole : Bool) (pass : Explores P S (with_delays P S W d) old whole new) where
    pub pass_tells : TellsOf P S (taken event_limit (explored P S W d)) new
    pass_tells =
        let tells = pass.tells (with_fewer P S W d) so_far.tells in
        let all = taken_all event_limit (with_fewer P S W d) (with_delays P S W d) so_far.none_is_left in
        rw (← fewer_and d, all, ← so_far.tells.events) tells

    pub pass_whole : whole ≡ none_left event_limit (explored P S W d)
    pass_whole =
        let all = left_all event_limit (with_fewer P S W d) (with_delays P S W d) so_far.none_is_left in
        rw (← fewer_and d, all, ← so_far.tells.events) pass.whole_is

    -- no history was found
    pub pass_none : whole ≡ true → new.histories ≡ old.histories → with_delays P S W d ≡ []
    pass_none w n =
        let tells = pass.tells (with_fewer P S W d) so_far.tells in
        let none : length (taken (event_limit - old.events) (with_delays P S W d)) ≡ 0 = omega (arith, n, tells.histories, so_far.tells.histories, length-append (with_fewer P S W d) (taken (event_limit - old.events) (with_delays P S W d))) in
        let all : none_left (event_limit - old.events) (with_delays P S W d) ≡ true = sym pass.whole_is ∙ w in
        no_events (with_delays P S W d) (rw (taken_whole (event_limit - old.events) (with_delays P S W d) all) at none)

    pub next_pass : whole ≡ true → IsSoFar P S W (d + 1) new
    next_pass w =
        let none : none_left event_limit (explored P S W d) ≡ true = sym pass_whole ∙ w in
        let list : with_fewer P S W (d + 1) ≡ explored P S W d = fewer_more P S W d ∙ fewer_and d in
        record {
          tells = rw (list, ← taken_whole event_limit (explored P S W d) none) pass_tells;
          none_is_left = rw list none;
        }

    module _ (x : Explored) (histories : x.histories ≡ new.histories) (events : x.events ≡ new.events) (longest : x.longest ≡ new.longest) (found : x.outcomes ≡ new.outcomes) (whole_is : x.whole ≡ whole) (D : ℕ) (within : d ≤ D) where
      told_here : TellsFirst P S (explored P S W d) x
      told_here = told_first P S W (explored P S W d) new x pass_tells histories events longest found (whole_is ∙ pass_whole)

      pub ends_left : whole ≡ false → TellsFirst P S (explored P S W D) x
      ends_left e = told_left P S W d D within (sym pass_whole ∙ e) x told_here

      pub ends_none : whole ≡ true → new.histories ≡ old.histories → TellsFirst P S (explored P S W D) x
      ends_none e same = told_no_more P S W d D within (pass_none e same) x told_here

  -- after the last pass
  pub ends_whole : (n d : ℕ) → n ≡ suc d → (t : Tally) → IsSoFar P S W n t → (x : Explored) → x.histories ≡ t.histories → x.events ≡ t.events → x.longest ≡ t.longest → x.outcomes ≡ t.outcomes → x.whole ≡ true → TellsFirst P S (explored P S W d) x
  ends_whole n d e t so_far x histories events longest found whole =
      let here = subst (λ n. IsSoFar P S W n t) e so_far in
      told_whole P S W (explored P S W d) t x here.none_is_left here.tells histories events longest found whole
