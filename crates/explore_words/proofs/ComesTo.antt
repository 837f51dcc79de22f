-- Each legal and finished history has one of the outcomes of the explored histories, where there is no bound.
-- By induction on the histories: an outcome that is there stays there, and that of a history that is counted comes there; and receives that find nothing change none.
use Rattle.std.proofs.Common.{◌≡◌, ℕ, zero, suc, ◌≤◌, Bool, true, false, List, [], ◌∷◌, ◌⊎◌, inl, inr, refl, sym, ap, subst, ◌∙◌, arith}
use Rattle.std.specs.Prelude.{Err, Contains, Option, Some, None, bytes_eq, if◌then◌else◌, map}
use Rattle.std.proofs.lemmas.List.Elements.{Contains-append_cases, Contains-append_left, Contains-append_right, Contains-push, Contains-push_cases}
use Rattle.std.proofs.lemmas.Slice.Eq.{bytes_eq-Decides}
use Rattle.delay_bounded.specs.Explored.{bound_of, explored}
use Rattle.delay_bounded.specs.Laws.{IsCompleteOfFinished, with_empty_receives}
use Rattle.explorer.specs.Tallies.{CountedOutcome, added, of_one, outcomes, tallied, with_more}
use Rattle.hist_model.specs.Calls.{count}
use Rattle.hist_model.specs.Legal.{is_open_session, with_step}
use Rattle.hist_model.specs.Look.{ev}
use Rattle.hist_model.specs.ReportAudit.{Judging, judging_by}
use Rattle.hist_model.specs.Sessions.{session}
use Rattle.hist_model.specs.Steps.{step}
use Rattle.hist_model.specs.declared.event.Actor.TheVariants.{Listener, Worker}
use Rattle.hist_model.specs.declared.event.Event.{Event}
use Rattle.hist_model.specs.declared.event.What.TheVariants.{Close, Recv}
use Rattle.hist_model.specs.declared.policy.Policy.{Policy}
use Rattle.hist_model.specs.declared.script.Script.{Script}
use Rattle.outcome_text.proofs.Idle.{close_idle, comes_to_same, empty_idle, still_let_go}
use Rattle.outcome_text.specs.Outcomes.{result_of}
use Rattle.sys_abi.specs.Errnos.{enoent}
use Rattle.explore_words.specs.Explorations.{IsWhole}

-- ---- Elements of lists

module _ {X : Type 0} where
  here : (x : X) (xs : List X) → Contains (x ∷ xs) x
  here x xs = Contains-append_left (x ∷ []) xs x (Contains-push [] x)

  later : (y x : X) (xs : List X) → Contains xs x → Contains (y ∷ xs) x
  later y x xs h = Contains-append_right (y ∷ []) xs x h

  none : (x : X) → ¬ (Contains [] x)
  none x h = omega (arith, h.1)

  first_or_later : (y x : X) (xs : List X) → Contains (y ∷ xs) x → (y ≡ x) ⊎ Contains xs x
  first_or_later y x xs h =
      elim (Contains-append_cases (y ∷ []) xs x h) [ inl first ↦ elim (Contains-push_cases [] y x first) [ inl there ↦ absurd (none x there) | inr is ↦ inl is ] | inr there ↦ inr there ]

-- ---- Outcomes

-- the texts of outcomes
abbrev texts : List CountedOutcome → List (List ℕ)
texts os = map (λ (o : CountedOutcome). o.text) os

-- a text that is there stays there, whichever outcome is added
stays_there : (text : List ℕ) (o : CountedOutcome) (os : List CountedOutcome) → Contains (texts os) text → Contains (texts (added o os)) text
stays_there text o [] there = absurd (none text there)
stays_there text o (p ∷ os) there = by (bytes_eq p.text o.text) (stays_there text o os)
  where
    by : (same : Bool) → (Contains (texts os) text → Contains (texts (added o os)) text) → Contains (texts (if same then with_more p o.histories ∷ os else p ∷ added o os)) text
    by true stays = there
    by false stays =
        elim (first_or_later p.text text (texts os) there) [
          | inl is ↦ subst (λ t. Contains (p.text ∷ texts (added o os)) t) is (here p.text (texts (added o os)))
          | inr behind ↦ later p.text text (texts (added o os)) (stays behind)
        ]

-- the text of an outcome that is added comes there
comes_there : (o : CountedOutcome) (os : List CountedOutcome) → Contains (texts (added o os)) o.text
comes_there o [] = here o.text []
comes_there o (p ∷ os) = by (bytes_eq p.text o.text) refl (comes_there o os)
  where
    by : (same : Bool) → bytes_eq p.text o.text ≡ same → Contains (texts (added o os)) o.text → Contains (texts (if same then with_more p o.histories ∷ os else p ∷ added o os)) o.text
    by true is comes = subst (λ t. Contains (p.text ∷ texts os) t) ((bytes_eq-Decides p.text o.text).0 is) (here p.text (texts os))
    by false is comes = later p.text o.text (texts (added o os)) comes

-- ---- Histories

-- a text that is there stays there, whichever histories are counted
stays_counted : (S : Script) (J : Judging) (text : List ℕ) (os : List CountedOutcome) (L : List (List Event)) → Contains (texts os) text → Contains (texts (tallied S J os L)) text
unfolding tallied
stays_counted S J text os [] there = there
stays_counted S J text os (H ∷ more) there = stays_counted S J text (added (of_one S J H) os) more (stays_there text (of_one S J H) os there)

-- what a history of the list comes to is there
counted : (S : Script) (J : Judging) (H : List Event) (os : List CountedOutcome) (L : List (List Event)) → Contains L H → Contains (texts (tallied S J os L)) (result_of S J H)
unfolding tallied
counted S J H os [] there = absurd (none H there)
counted S J H os (G ∷ more) there =
    elim (first_or_later G H more there) [
      | inl is ↦ stays_counted S J (result_of S J H) (added (of_one S J G) os) more
          (subst (λ text. Contains (texts (added (of_one S J G) os)) text) (ap (result_of S J) is) (comes_there (of_one S J G) os))
      | inr behind ↦ counted S J H (added (of_one S J G) os) more behind
    ]

-- ---- What changes no outcome

module _ (S : Script) (J : Judging) where
  -- receives that find nothing
  receives_change_none : (n : ℕ) (K : List Event) → ((w : ℕ) → is_open_session (session K w) ≡ false) → result_of S J (with_empty_receives n K) ≡ result_of S J K
  unfolding with_empty_receives
  receives_change_none zero K let_go = refl
  receives_change_none (suc n) K let_go =
      receives_change_none n (ev (Worker 0) (Recv (Err enoent)) ∷ K) (still_let_go K 0 enoent let_go) ∙ comes_to_same S J K (ev (Worker 0) (Recv (Err enoent))) (empty_idle K 0 enoent let_go)

  close_changes_none : (K : List Event) → result_of S J (ev Listener Close ∷ K) ≡ result_of S J K
  close_changes_none K = comes_to_same S J K (ev Listener Close) (close_idle K)

  -- so what is explored comes to what the finished history came to
  same_outcome : (P : Policy) (n : ℕ) (K : List Event) → ((w : ℕ) → is_open_session (session K w) ≡ false)
      → result_of S J (with_step P S Listener (with_empty_receives n K)) ≡ result_of S J (with_step P S Listener K)
  unfolding step
  same_outcome P n K let_go = close_changes_none (with_empty_receives n K) ∙ (receives_change_none n K let_go ∙ sym (close_changes_none K))

-- ---- In all

-- without a bound each has its outcome
pub is_whole : (P : Policy) (S : Script) (W : ℕ) → W ≤ 16 → IsCompleteOfFinished → (delays : Option ℕ) → IsWhole W delays P S
is_whole P S W few complete (Some d) = tt
is_whole P S W few complete None = λ K counts walked finished.
    let L = explored P S W (bound_of None) in
    let J = judging_by P.rules in
    let H = with_step P S Listener (with_empty_receives (count K) K) in
    let there : Contains (texts (outcomes S J L)) (result_of S J H) = counted S J H [] L (complete P S W K few counts walked finished) in
    subst (λ text. Contains (texts (outcomes S J L)) text) (same_outcome S J P (count K) K finished.sessions) there
