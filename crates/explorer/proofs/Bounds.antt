-- What is told within a bound, where a greater one is meant.
-- By induction on the delays: where there are no more histories than numbers of delays, no history has the last number.
use Rattle.std.proofs.Common.{◌≡◌, ℕ, zero, suc, ◌+◌, ◌-◌, ◌<◌, ◌≤◌, min, nat_le, leb-true, leb-false, Bool, true, false, List, [], ◌∷◌, ◌++◌, length, refl, sym, ◌∙◌, subst, arith, append-nil, append_assoc, length-append}
use Rattle.hist_model.specs.declared.event.Event.{Event}
use Rattle.hist_model.specs.declared.policy.Policy.{Policy}
use Rattle.hist_model.specs.declared.script.Script.{Script}
use Rattle.delay_bounded.specs.Explored.{explored, with_delays}
use Rattle.delay_bounded.proofs.Walks.{none_with_more, one_history}
use Rattle.explorer.specs.Taken.{event_limit, none_left, taken}
use Rattle.explorer.specs.Telling.{TellsFirst, TellsOf}
use Rattle.explorer.specs.declared.one_by_one.Explored.{Explored}
use Rattle.explorer.specs.declared.tally.Tally.{Tally}
use Rattle.explorer.proofs.Taking.{few_events, left_some, no_more_histories, taken_some, taken_whole}

no_more : {X : Type 0} (xs : List X) → length xs ≤ 0 → xs ≡ []
no_more [] l = refl
no_more (x ∷ xs) l = absurd (omega arith)

module _ (P : Policy) (S : Script) (W : ℕ) where
  -- a greater bound begins so
  begins : (d k : ℕ) → (B : List (List Event)) × (explored P S W (d + k) ≡ explored P S W d ++ B)
  unfolding explored
  begins d zero = let same : d + 0 ≡ d = omega arith in ([], rw (same, append-nil) refl)
  begins d (suc k) =
      let (B, e) = begins d k in
      let same : d + suc k ≡ suc (d + k) = omega arith in
      (B ++ with_delays P S W (suc (d + k)), rw (same, e, append_assoc) refl)

  none_any : (d k : ℕ) → with_delays P S W d ≡ [] → with_delays P S W (d + k) ≡ []
  none_any d zero e = let same : d + 0 ≡ d = omega arith in rw same e
  none_any d (suc k) e = let same : d + suc k ≡ suc (d + k) = omega arith in rw same (none_with_more P S W (d + k) (none_any d k e))

  nothing_more : (d k : ℕ) → with_delays P S W d ≡ [] → explored P S W (d + k) ≡ explored P S W d
  unfolding explored
  nothing_more d zero e = let same : d + 0 ≡ d = omega arith in rw same refl
  nothing_more d (suc k) e =
      let same : d + suc k ≡ suc (d + k) = omega arith in
      let none : with_delays P S W (suc (d + k)) ≡ [] = none_with_more P S W (d + k) (none_any d k e) in
      rw (same, none, append-nil) (nothing_more d k e)

  -- there are as few histories as numbers of delays, so none has the last number
  last_by : (d : ℕ) (b : Bool) → nat_le (length (explored P S W d)) d ≡ b → (length (explored P S W d) ≤ d → with_delays P S W d ≡ []) → length (explored P S W d ++ with_delays P S W (suc d)) ≤ suc d → with_delays P S W (suc d) ≡ []
  last_by d true e before l = none_with_more P S W d (before (leb-true (length (explored P S W d)) d e))
  last_by d false e before l =
      no_more (with_delays P S W (suc d)) (omega (arith, leb-false (length (explored P S W d)) d e, length-append (explored P S W d) (with_delays P S W (suc d))))

  none_last : (d : ℕ) → length (explored P S W d) ≤ d → with_delays P S W d ≡ []
  unfolding explored
  none_last zero l = absurd (omega (arith, one_history P S W))
  none_last (suc d) l = last_by d (nat_le (length (explored P S W d)) d) refl (none_last d) l

  -- ---- What is told of the first histories

  pub told_first : (L : List (List Event)) (t : Tally) (x : Explored) → TellsOf P S (taken event_limit L) t → x.histories ≡ t.histories → x.events ≡ t.events → x.longest ≡ t.longest → x.outcomes ≡ t.outcomes → x.whole ≡ none_left event_limit L → TellsFirst P S L x
  told_first L t x h a b c o w = record { histories = a ∙ h.histories; events = b ∙ h.events; longest_is = c ∙ h.longest_is; whole_is = w; outcomes_are = rw o h.outcomes_are }

  -- all are told
  pub told_whole : (L : List (List Event)) (t : Tally) (x : Explored) → none_left event_limit L ≡ true → TellsOf P S L t → x.histories ≡ t.histories → x.events ≡ t.events → x.longest ≡ t.longest → x.outcomes ≡ t.outcomes → x.whole ≡ true → TellsFirst P S L x
  told_whole L t x none h a b c o w = told_first L t x (rw (taken_whole event_limit L none) h) a b c o (w ∙ sym none)

  pub told_few : (d : ℕ) (t : Tally) (x : Explored) → TellsOf P S (explored P S W d) t → t.events < event_limit → x.histories ≡ t.histories → x.events ≡ t.events → x.longest ≡ t.longest → x.outcomes ≡ t.outcomes → x.whole ≡ true → TellsFirst P S (explored P S W d) x
  told_few d t x h few a b c o w = told_whole (explored P S W d) t x (few_events event_limit (explored P S W d) (omega (arith, h.events))) h a b c o w

  -- ---- Within a greater bound

  same_first : (L M : List (List Event)) (x : Explored) → taken event_limit M ≡ taken event_limit L → none_left event_limit M ≡ none_left event_limit L → TellsFirst P S L x → TellsFirst P S M x
  same_first L M x t n h = record { histories = rw t h.histories; events = rw t h.events; longest_is = rw t h.longest_is; whole_is = rw n h.whole_is; outcomes_are = rw t h.outcomes_are }

  -- a history is left, so none of those with more delays comes
  left_more : (d k : ℕ) (x : Explored) → none_left event_limit (explored P S W d) ≡ false → TellsFirst P S (explored P S W d) x → TellsFirst P S (explored P S W (d + k)) x
  left_more d k x e h =
      let (B, is) = begins d k in
      rw is (same_first (explored P S W d) (explored P S W d ++ B) x (taken_some event_limit (explored P S W d) B e) (left_some event_limit (explored P S W d) B e ∙ sym e) h)

  -- none is, and so no history has more delays
  whole_more : (d k : ℕ) (x : Explored) → event_limit ≤ d → none_left event_limit (explored P S W d) ≡ true → TellsFirst P S (explored P S W d) x → TellsFirst P S (explored P S W (d + k)) x
  whole_more d k x l e h =
      let none : with_delays P S W d ≡ [] = none_last d (omega (arith, no_more_histories P S W d event_limit e)) in
      rw (nothing_more d k none) h

  more_by : (d k : ℕ) (x : Explored) → event_limit ≤ d → (b : Bool) → none_left event_limit (explored P S W d) ≡ b → TellsFirst P S (explored P S W d) x → TellsFirst P S (explored P S W (d + k)) x
  more_by d k x l true e h = whole_more d k x l e h
  more_by d k x l false e h = left_more d k x e h

  -- no history has a number of delays, so none has more
  pub told_no_more : (d D : ℕ) → d ≤ D → with_delays P S W d ≡ [] → (x : Explored) → TellsFirst P S (explored P S W d) x → TellsFirst P S (explored P S W D) x
  told_no_more d D l none x h =
      let sum : d + (D - d) ≡ D = omega arith in
      subst (λ n. TellsFirst P S (explored P S W n) x) sum (rw (nothing_more d (D - d) none) h)

  pub told_left : (d D : ℕ) → d ≤ D → none_left event_limit (explored P S W d) ≡ false → (x : Explored) → TellsFirst P S (explored P S W d) x → TellsFirst P S (explored P S W D) x
  told_left d D l e x h =
      let sum : d + (D - d) ≡ D = omega arith in
      subst (λ n. TellsFirst P S (explored P S W n) x) sum (left_more d (D - d) x e h)

  told_from : (D : ℕ) (x : Explored) (b : Bool) → nat_le D event_limit ≡ b → TellsFirst P S (explored P S W (min D event_limit)) x → TellsFirst P S (explored P S W D) x
  told_from D x true e h =
      let least : min D event_limit ≡ D = omega (arith, leb-true D event_limit e) in
      subst (λ n. TellsFirst P S (explored P S W n) x) least h
  told_from D x false e h =
      let least : min D event_limit ≡ event_limit = omega (arith, leb-false D event_limit e) in
      let sum : event_limit + (D - event_limit) ≡ D = omega (arith, leb-false D event_limit e) in
      subst (λ n. TellsFirst P S (explored P S W n) x) sum
      (more_by event_limit (D - event_limit) x (omega arith) (none_left event_limit (explored P S W event_limit)) refl (subst (λ n. TellsFirst P S (explored P S W n) x) least h))

  -- the least of a bound and the limit tells all
  pub told_within : (d D : ℕ) → d ≡ min D event_limit → (x : Explored) → TellsFirst P S (explored P S W d) x → TellsFirst P S (explored P S W D) x
  told_within d D is x h = told_from D x (nat_le D event_limit) refl (subst (λ n. TellsFirst P S (explored P S W n) x) is h)
