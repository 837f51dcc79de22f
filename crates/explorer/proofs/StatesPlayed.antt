-- All histories of a state go on as the one that is played: the same places are able, and where nobody is, all end as it does.
-- By what all go on as, and by the counts of each number of delays.
use Rattle.std.proofs.Common.{◌≡◌, inl, inr, ℕ, zero, suc, ◌+◌, ◌<◌, ◌≤◌, ◌^◌, ◌==◌, true, false, bytes_eq, List, [], ◌∷◌, length, get_or, set, sum, Option, refl, sym, ap, ◌∙◌, subst, arith}
use Rattle.std.specs.Prelude.{All, Contains, count_by, option_map}
use Rattle.std.proofs.lemmas.Bool.{cases_eq}
use Rattle.std.proofs.lemmas.Bool.Decides.{nat_tests}
use Rattle.std.proofs.lemmas.List.{get_or-set_other, get_or-set_same}
use Rattle.std.proofs.lemmas.List.Elements.{All-contains, All-weaker}
use Rattle.std.proofs.lemmas.List.Sums.{sum_by-cons, sum_by-set}
use Rattle.hist_model.proofs.Look.{name_eq-refl}
use Rattle.hist_model.specs.Look.{ev}
use Rattle.hist_model.specs.ReportAudit.{judging_by}
use Rattle.hist_model.specs.Steps.{step}
use Rattle.hist_model.specs.declared.event.Actor.TheVariants.{Listener}
use Rattle.hist_model.specs.declared.event.Event.{Event}
use Rattle.hist_model.specs.declared.event.What.TheVariants.{Close}
use Rattle.hist_model.specs.declared.policy.Policy.{Policy}
use Rattle.hist_model.specs.declared.script.Script.{Script}
use Rattle.hist_model.specs.declared.script.Step.{Step}
use Rattle.delay_bounded.specs.Circle.{able}
use Rattle.delay_bounded.specs.Laws.{IsWalked}
use Rattle.outcome_text.proofs.Idle.{close_hides_none}
use Rattle.outcome_text.specs.Outcomes.{result_of, result_with}
use Rattle.outcome_text.specs.Sight.{hidden}
use Rattle.same_futures.specs.Kernels.{calls_of, tasks_of}
use Rattle.same_futures.proofs.Circles.{able-alike}
use Rattle.same_futures.proofs.KeptLines.{closed-same}
use Rattle.explorer.specs.Frames.{last_place}
use Rattle.explorer.specs.Keys.{GoesAlike}
use Rattle.explorer.specs.Levels.{EndAsOne, HasEnded, IsEnd, IsJoined, IsNoLater, IsState, able_after, closed_after, comes_to, events_of, left_to, schedule_after, slot_of, text_after}
use Rattle.explorer.specs.Runs.{IsRun, story}
use Rattle.explorer.specs.Tallies.{playing}
use Rattle.explorer.specs.declared.ends.End.{End}
use Rattle.explorer.specs.declared.frames.Frame.{Frame}
use Rattle.explorer.specs.declared.run.Run.{Run}
use Rattle.explorer.specs.declared.state.Bound.{Bound}
use Rattle.explorer.specs.declared.state.State.{State}
use Rattle.explorer.proofs.EndsNoted.{count_of_all}
use Rattle.explorer.proofs.Members.{all_go_on}
use Rattle.explorer.proofs.Played.{length_from_start, walked_from_start}
use Rattle.explorer.proofs.StateCounts.{count_cons}
use Rattle.explorer.proofs.Walked.{run_here}

-- ---- Counts by places are those of all

no_sum : (counts : List ℕ) → ((i : ℕ) → get_or counts i 0 ≡ 0) → sum counts ≡ 0
no_sum [] z = refl
no_sum (n ∷ counts) z =
    let all : sum (n ∷ counts) ≡ n + sum counts = sum_by-cons (λ x. x) n counts in
    let first : n ≡ 0 = z 0 in
    omega (arith, all, first, no_sum counts (λ i. z (suc i)))

inside : (counts : List ℕ) (i : ℕ) → 0 < get_or counts i 0 → i < length counts
inside [] i l = absurd (omega (arith, l))
inside (n ∷ counts) zero l = omega arith
inside (n ∷ counts) (suc i) l = omega (arith, inside counts i l)

pub sum_counted : {A : Type 0} (slot : A → ℕ) (xs : List A) (counts : List ℕ) → ((i : ℕ) → get_or counts i 0 ≡ count_by (λ x. slot x == i) xs) → sum counts ≡ length xs
sum_counted slot [] counts c = no_sum counts c
sum_counted {A} slot (x ∷ xs) counts c =
    let one : count_by (λ y. slot y == slot x) (x ∷ xs) ≡ 1 + count_by (λ y. slot y == slot x) xs =
    (let same : (slot x == slot x) ≡ true = grind (arith, nat_tests) in count_cons (λ y. slot y == slot x) x xs ∙ rw same refl) in
    let before : get_or counts (slot x) 0 ≡ 1 + count_by (λ y. slot y == slot x) xs = c (slot x) ∙ one in
    let there : slot x < length counts = inside counts (slot x) (omega (arith, before)) in
    let less : List ℕ = set counts (slot x) (count_by (λ y. slot y == slot x) xs) in
    let fewer : sum less ≡ length xs = sum_counted slot xs less (λ i. elim (cases_eq i (slot x)) [
      | inl e ↦ subst (λ (j : ℕ). get_or less j 0 ≡ count_by (λ y. slot y == j) xs) (sym e) (get_or-set_same counts (slot x) (count_by (λ y. slot y == slot x) xs) 0 there)
      | inr n ↦
          let other : (slot x == i) ≡ false = grind (arith, nat_tests) in
          let none : count_by (λ y. slot y == i) (x ∷ xs) ≡ 0 + count_by (λ y. slot y == i) xs = count_cons (λ y. slot y == i) x xs ∙ rw other refl in
          let still : get_or less i 0 ≡ get_or counts i 0 = get_or-set_other counts (slot x) i (count_by (λ y. slot y == slot x) xs) 0 n in
          omega (arith, still, c i, none)
    ]) in
    let both : sum less + get_or counts (slot x) 0 ≡ sum counts + count_by (λ y. slot y == slot x) xs = sum_by-set (λ n. n) counts (slot x) (count_by (λ y. slot y == slot x) xs) 0 there in
    omega (arith, before, fewer, both)

module _ (P : Policy) (S : Script) (W : ℕ) (limit : W ≤ 15) (b : Bound) (n : ℕ) (key : List ℕ) (ms : List (List Frame)) (state : State) (s : IsState P S W b n key ms state)
    (r : Run) (i : IsRun P S (events_of P S W b state.frames.items) r) (few : length (story r) < 2 ^ 62) where
  abbrev pub first : List Frame
  first = state.frames.items

  pub run_is : IsRun P S (story r) r
  run_is = run_here P S W (events_of P S W b first) r i

  first_joined : IsJoined P S W b n first
  first_joined = All-contains (IsJoined P S W b n) ms first s.joined s.first

  pub story_is : story r ≡ events_of P S W b first
  story_is = i.at.events

  pub walked : IsWalked P S W (story r)
  walked = subst (IsWalked P S W) (sym story_is) (walked_from_start P S W (omega (arith, limit)) first first_joined.turns)

  pub as_long : length (story r) ≡ suc n
  as_long = omega (arith, ap length story_is, length_from_start P S W first, first_joined.count)

  pub all_alike : All (λ fs. GoesAlike P S r (events_of P S W b fs) × (last_place 0 fs ≡ last_place 0 first)) ms
  all_alike = all_go_on P S W limit b n key first ms s.first s.alike r run_is story_is

  -- each can be counted
  pub long_all : All (λ fs. length (events_of P S W b fs) ≡ suc n) ms
  long_all = All-weaker (IsJoined P S W b n) (λ fs. length (events_of P S W b fs) ≡ suc n) (λ fs j. omega (arith, length_from_start P S W fs, j.count)) ms s.joined

  pub few_all : All (λ fs. length (events_of P S W b fs) < 2 ^ 64) ms
  few_all = All-weaker (λ fs. length (events_of P S W b fs) ≡ suc n) (λ fs. length (events_of P S W b fs) < 2 ^ 64) (λ fs l. omega (arith, l, as_long, few)) ms long_all

  -- the same places are able after each
  able_one : (fs : List Frame) → GoesAlike P S r (events_of P S W b fs) → last_place 0 fs ≡ last_place 0 first
      → able P S W (events_of P S W b fs) (last_place 0 fs) ≡ able P S W (events_of P S W b first) (last_place 0 first)
  able_one fs g l =
      ap (able P S W (events_of P S W b fs)) l
      ∙ (able-alike S (tasks_of r.machine.kernel) (calls_of r.machine.kernel) (story r) (events_of P S W b fs) g.same P W (last_place 0 first)
      ∙ ap (λ (K : List Event). able P S W K (last_place 0 first)) story_is)

  pub able_all : All (λ fs. (able P S W (events_of P S W b fs) (last_place 0 fs) ≡ able P S W (events_of P S W b first) (last_place 0 first)) × (length (events_of P S W b fs) < 2 ^ 64)) ms
  able_all = λ k d l. (able_one _ (all_alike k d l).0 (all_alike k d l).1, few_all k d l)

  pub able_is : (qs : List ℕ) → able_after P S W b first 0 ≡ qs → able P S W (events_of P S W b first) (last_place 0 first) ≡ qs
  unfolding able
  able_is qs e = e

  pub all_able : (qs : List ℕ) → able_after P S W b first 0 ≡ qs → All (λ fs. (able P S W (events_of P S W b fs) (last_place 0 fs) ≡ qs) × (length (events_of P S W b fs) < 2 ^ 64)) ms
  all_able qs e = λ k d l. ((able_all k d l).0 ∙ able_is qs e, (able_all k d l).1)

  -- ---- Nobody is able to step

  module _ (over : able_after P S W b first 0 ≡ []) where
    ended_all : All (HasEnded P S W b) ms
    ended_all = λ k d l. record { taken = (s.joined k d l).taken; over = (all_able [] over k d l).0; few = few_all k d l }

    closed_is : (fs : List Frame) → closed_after P S W b fs ≡ ev Listener Close ∷ events_of P S W b fs
    unfolding step
    closed_is fs = refl

    lengths_all : All (λ fs. length (closed_after P S W b fs) ≡ suc (suc n)) ms
    lengths_all = All-weaker (λ fs. length (events_of P S W b fs) ≡ suc n) (λ fs. length (closed_after P S W b fs) ≡ suc (suc n)) (λ fs l. omega (arith, l, ap length (closed_is fs))) ms long_all

    text_one : (fs : List Frame) → GoesAlike P S r (events_of P S W b fs) → text_after P S W b fs ≡ text_after P S W b first
    text_one fs g =
        closed-same P S (judging_by P.rules) (record { left = 0; events = story r }) (record { left = 0; events = events_of P S W b fs }) g.lines g.same.tree_is
        ∙ sym (closed-same P S (judging_by P.rules) (record { left = 0; events = story r }) (record { left = 0; events = events_of P S W b first }) first_goes.lines first_goes.same.tree_is)
      where
        first_goes : GoesAlike P S r (events_of P S W b first)
        first_goes = (All-contains (λ gs. GoesAlike P S r (events_of P S W b gs) × (last_place 0 gs ≡ last_place 0 first)) ms first all_alike s.first).0

    texts_all : All (λ fs. text_after P S W b fs ≡ text_after P S W b first) ms
    texts_all = λ k d l. text_one _ (all_alike k d l).0

    -- the history with the close, as it was played
    pub closed_here : (history : List Event) → history ≡ ev Listener Close ∷ story r → closed_after P S W b first ≡ history
    closed_here history e = closed_is first ∙ (ap (λ (K : List Event). ev Listener Close ∷ K) (sym story_is) ∙ sym e)

    -- what the played one comes to
    module _ (history : List Event) (e : history ≡ ev Listener Close ∷ story r) where
      pub text_here : (places text : List ℕ) → places ≡ hidden S (story r) → text ≡ result_with (judging_by P.rules) places history → text ≡ text_after P S W b first
      text_here places text p t =
          let seen : places ≡ hidden S history = p ∙ (sym (close_hides_none S (story r)) ∙ ap (hidden S) (sym e)) in
          t ∙ (ap (λ (ps : List ℕ). result_with (judging_by P.rules) ps history) seen ∙ ap (result_of S (judging_by P.rules)) (sym (closed_here history e)))

      pub schedule_here : (schedule : Option (List Step)) → schedule ≡ playing history → schedule ≡ schedule_after P S W b first
      schedule_here schedule s = s ∙ ap playing (sym (closed_here history e))

      pub length_here : length history ≡ suc (suc n)
      length_here = omega (arith, ap length e, as_long)

    module _ (end : End) (frames : end.frames.items ≡ first) (text : end.text.items ≡ text_after P S W b first) (left : end.left ≡ state.left) (count : end.count ≡ sum state.counts.items)
        (schedule : option_map (λ steps. steps.items) end.schedule ≡ schedule_after P S W b first) where
      pub end_as_one : (length_is : ℕ) → length_is ≡ suc (suc n) → EndAsOne P S W b length_is end.text.items ms
      end_as_one length_is e = record {
        ended = ended_all;
        lengths = λ k d l. lengths_all k d l ∙ sym e;
        texts = λ k d l. texts_all k d l ∙ sym text;
      }

      come_all : All (λ fs. comes_to P S W b end.text.items fs ≡ true) ms
      come_all = λ k d l. subst (λ (t : List ℕ). bytes_eq end.text.items t ≡ true) (text ∙ sym (texts_all k d l)) (name_eq-refl end.text.items)

      pub is_end : IsEnd P S W b ms end
      is_end = record {
        first = subst (Contains ms) (sym frames) s.first;
        text_is = ap (text_after P S W b) frames ∙ sym text;
        left_is = left ∙ (s.left_is ∙ ap (left_to P S W b) (sym frames));
        schedule_is = schedule ∙ ap (schedule_after P S W b) (sym frames);
        none_before = λ k d l q. subst (λ (fs : List Frame). IsNoLater P S W b fs (get_or ms k d)) (sym frames) (s.none_before k d l);
        count_is = count ∙ (sum_counted (slot_of P S W b) ms state.counts.items s.counts ∙ sym (count_of_all (comes_to P S W b end.text.items) ms come_all));
      }
