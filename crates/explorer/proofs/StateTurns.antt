-- A state is gone on from by one turn more: its histories with the turn are joined to the next level, and go on as runs with one key.
-- By the run that had the turn, which all its histories follow.
use Rattle.std.proofs.Common.{◌≡◌, inl, inr, ℕ, zero, suc, ◌+◌, ◌-◌, ◌<◌, ◌≤◌, ◌^◌, ◌%◌, Bool, true, false, List, [], ◌∷◌, ◌++◌, length, map, drop, Option, Some, None, refl, sym, ap, ◌∙◌, subst, arith}
use Rattle.std.specs.Prelude.{All, filter, get_or, if◌then◌else◌, slice_get}
use Rattle.std.proofs.lemmas.Bool.Decides.{nat_tests}
use Rattle.std.proofs.lemmas.List.{length-append, length-map, length-set}
use Rattle.std.proofs.lemmas.List.Elements.{All-filter, All-head, All-tail, All-weaker, filter_passes}
use Rattle.std.proofs.lemmas.List.FromFn.{length-map-range_with_len}
use Rattle.hist_model.specs.Kinds.{makes}
use Rattle.hist_model.specs.Legal.{started}
use Rattle.hist_model.specs.declared.event.Event.{Event}
use Rattle.hist_model.specs.declared.policy.Policy.{Policy}
use Rattle.hist_model.specs.declared.script.Script.{Script}
use Rattle.history_frames.specs.Ordinals.{count_of, tasks_made}
use Rattle.delay_bounded.proofs.LegalWalks.{walked_on}
use Rattle.delay_bounded.proofs.Rounds.{round_inside}
use Rattle.delay_bounded.specs.Circle.{able, at_place, is_able, places, round, with_turn}
use Rattle.delay_bounded.specs.Laws.{IsWalked}
use Rattle.explorer.specs.Bounds.{HasRoom}
use Rattle.explorer.specs.Frames.{able_from, last_place}
use Rattle.explorer.specs.Joining.{JoinsIn, keys_in, turns_behind}
use Rattle.explorer.specs.Keys.{GoesAlike, key_of}
use Rattle.explorer.specs.Levels.{EndsSo, FindsNext, GoesOn, HasKey, HasTurned, IsNoLater, IsState, able_after, events_of, left_to}
use Rattle.explorer.specs.Paths.{is_first, left_of}
use Rattle.explorer.specs.Runs.{Finds, IsRun, able_in, script_in, story}
use Rattle.explorer.specs.Walking.{HasCome}
use Rattle.explorer.specs.declared.by_states.Found.{Found}
use Rattle.explorer.specs.declared.ends.Ends.{Ends}
use Rattle.explorer.specs.declared.frames.Frame.{Frame}
use Rattle.explorer.specs.declared.level.Level.{Level}
use Rattle.explorer.specs.declared.run.Run.{Run}
use Rattle.explorer.specs.declared.run.Turn.{Turn}
use Rattle.explorer.specs.declared.state.Bound.{Bound}
use Rattle.explorer.specs.declared.state.State.{State}
use Rattle.explorer.proofs.LevelJoins.{joined_in}
use Rattle.explorer.proofs.Members.{turn_goes_on}
use Rattle.explorer.proofs.PathSums.{all_longer, longer}
use Rattle.explorer.proofs.Pending.{after_more, last_more}
use Rattle.explorer.proofs.StateJoins.{IsAbleAt}
use Rattle.explorer.proofs.States.{all_more}
use Rattle.explorer.proofs.StatesPlayed.{able_is, all_able, all_alike, as_long, run_is, walked}
use Rattle.explorer.proofs.TurnByTurn.{GoneOn, ended_all, lacks_none, no_turn, one_turn, turned_all, turned_enough}
use Rattle.explorer.proofs.Walked.{found_there, none_there, run_here}

-- ---- Places of those that are able

all_at : {A : Type 0} (Q : A → Type 0) (xs : List A) (c : ℕ) (x : A) → All Q xs → slice_get xs c ≡ Some x → Q x
all_at Q [] c x a e = absurd cc
all_at {A} Q (y ∷ ys) zero x a e = let same : y ≡ x = cc in subst Q same (All-head Q y ys a)
all_at Q (y ∷ ys) (suc c) x a e = all_at Q ys c x (All-tail Q y ys a) e

-- what is left begins with the next one
drop_found : (xs : List ℕ) (c q : ℕ) (ys : List ℕ) → drop c xs ≡ q ∷ ys → (slice_get xs c ≡ Some q) × (drop (suc c) xs ≡ ys) × (c < length xs)
drop_found [] zero q ys e = absurd cc
drop_found [] (suc c) q ys e = absurd cc
drop_found (x ∷ xs) zero q ys e = (cc, cc, omega arith)
drop_found (x ∷ xs) (suc c) q ys e = let d = drop_found xs c q ys e in (d.0, d.1, omega (arith, d.2))

count_most_of : (p : ℕ → Bool) (xs : List ℕ) → length (filter p xs) ≤ length xs
count_most_of p [] = omega arith
count_most_of p (x ∷ xs) = by (count_most_of p xs) (p x) refl
  where
    by : length (filter p xs) ≤ length xs → (b : Bool) → p x ≡ b → length (filter p (x ∷ xs)) ≤ length (x ∷ xs)
    by ih true e = rw e (omega (arith, ih))
    by ih false e = rw e (omega (arith, ih))

at_most_one : (b : Bool) → (if b then 1 else 0) ≤ 1
at_most_one true = omega arith
at_most_one false = omega arith

most_tasks : (K : List Event) → tasks_made K ≤ length K
unfolding count_of
most_tasks [] = omega arith
most_tasks (e ∷ K) = omega (arith, most_tasks K, at_most_one (makes e.what))

-- what doesn't come before the other has no more left
no_more_left : (a b : ℕ) (xs ys : List ℕ) → is_first a xs b ys ≡ false → a ≤ b
no_more_left a b xs ys e = grind (arith, nat_tests)

module _ (P : Policy) (S : Script) (W : ℕ) where
  able_member : (K : List Event) (p c q : ℕ) → slice_get (able P S W K p) c ≡ Some q → (q < places W K) × (is_able P S K (at_place K q) ≡ true)
  unfolding able
  able_member K p c q e =
      let t = λ (r : ℕ). is_able P S K (at_place K r) in
      let some : 0 < places W K = omega arith in (
        all_at (λ r. r < places W K) (filter t (round p (places W K))) c q (All-filter t (λ r. r < places W K) (round p (places W K)) (round_inside p (places W K) some)) e,
        all_at (λ r. t r ≡ true) (filter t (round p (places W K))) c q (filter_passes t (round p (places W K))) e,
      )

  able_few : (K : List Event) (p : ℕ) → length (able_from P S W K p 0) ≤ length K + (W + 1)
  able_few K p =
      let most : length (able_from P S W K p 0) ≤ length (drop 0 (round p (places W K))) = count_most_of (λ r. is_able P S K (at_place K r)) (drop 0 (round p (places W K))) in
      let all : length (drop 0 (round p (places W K))) ≡ tasks_made K + (W + 1) = length-map-range_with_len (λ (q : ℕ). (p + q) % places W K) 0 (places W K) in
      omega (arith, most, all, most_tasks K)

  -- where no place from one of them on is that of an actor that is able, none is from a later one on
  none_filtered : (t : ℕ → Bool) (xs : List ℕ) (e q : ℕ) → e ≤ q → filter t (drop e xs) ≡ [] → filter t (drop q xs) ≡ []
  none_filtered t [] e zero l n = refl
  none_filtered t [] e (suc q) l n = refl
  none_filtered t (x ∷ xs) zero zero l n = n
  none_filtered t (x ∷ xs) zero (suc q) l n = by (λ m. none_filtered t xs 0 q (omega arith) m) (t x) refl
    where
      by : (filter t xs ≡ [] → filter t (drop q xs) ≡ []) → (b : Bool) → t x ≡ b → filter t (drop q xs) ≡ []
      by more true h = let some : x ∷ filter t xs ≡ [] = rw h at n in absurd cc
      by more false h = let none : filter t xs ≡ [] = rw h at n in more none
  none_filtered t (x ∷ xs) (suc e) zero l n = absurd (omega (arith, l))
  none_filtered t (x ∷ xs) (suc e) (suc q) l n = none_filtered t xs e q (omega (arith, l)) n

  module _ (b : Bound) where
    pub none_later : (fs : List Frame) (e q : ℕ) → e ≤ q → able_after P S W b fs e ≡ [] → able_after P S W b fs q ≡ []
    none_later fs e q l n = none_filtered (λ r. is_able P S (events_of P S W b fs) (at_place (events_of P S W b fs) r)) (round (last_place 0 fs) (places W (events_of P S W b fs))) e q l n

    -- ---- What was found

    turned : (fs : List Frame) (r new : Run) (h : HasCome P S W fs r) (p q : ℕ) (last : p ≡ last_place 0 fs) (o : Option Turn) → Finds P W r p q o new → HasTurned P S W b fs q new o
    turned fs r new h p q last None f = none_there P S W fs r new h p q last None f refl
    turned fs r new h p q last (Some t) f = found_there P S W fs r new h p q last (Some t) f t refl

    pub found_next : (fs : List Frame) (r : Run) (h : HasCome P S W fs r) (p q : ℕ) → p ≡ last_place 0 fs → length (story r) < 2 ^ 62 → (f : Found) → Finds P W r p q f.turn f.run
        → able_in P W r p f.end ≡ [] → FindsNext P S W b fs q f
    found_next fs r h p q last few f found end = record {
      before = r;
      come = h.run;
      turn = turned fs r f.run h p q last f.turn found;
      few = subst (λ (K : List Event). length K < 2 ^ 62) h.run.at.events few;
      end = ap (λ (K : List Event). able_from P S W K (last_place 0 fs) f.end) (sym h.run.at.events) ∙ (ap (λ (l : ℕ). able_from P S W (story r) l f.end) (sym last) ∙ subst (λ (T : Script). able_from P T W (story r) p f.end ≡ []) h.run.at.script end);
    }

    -- ---- Turns of a state

    -- so many delays were had, and so many places were tried: what is left is open there
    pub record HasTurns (state : State) (c tried : ℕ) (old new : Level) : Type 0 where
      pub one_each : length new.keys.items ≡ length new.states.items
      pub begun : c ≡ 0 → (tried ≡ 0) × (new ≡ old)
      pub rest : able_after P S W b state.frames.items tried ≡ drop c (able_after P S W b state.frames.items 0)
      pub going : 0 < c → (n : ℕ) (key : List ℕ) (ms : List (List Frame)) → IsState P S W b n key ms state
          → GoneOn P S W b n ms c (able_after P S W b state.frames.items tried) old new

    joined_each : (c : ℕ) (frame : Frame) (from : State) (key : List ℕ) (old new : Level) → length old.keys.items ≡ length old.states.items → JoinsIn b c frame from key old new
        → length new.keys.items ≡ length new.states.items
    joined_each c frame from key old new e (inl j) =
        omega (arith, e, ap length j.keys_are, ap length j.states_are, length-map new.keys.items (λ key. key.items), length-map old.keys.items (λ key. key.items), length-set old.states.items j.place j.joined)
    joined_each c frame from key old new e (inr j) =
        omega (
          arith,
          e,
          ap length j.keys_are,
          ap length j.states_are,
          length-map new.keys.items (λ key. key.items),
          length-map old.keys.items (λ key. key.items),
          length-append (keys_in old) (key ∷ []),
          length-append old.states.items (j.state ∷ []),
        )

    -- the turn leads from the run of the first history to another one
    module _ (limit : W ≤ 15) (state : State) (before new : Run) (come : IsRun P S (events_of P S W b state.frames.items) before) (few : length (events_of P S W b state.frames.items) < 2 ^ 62)
        (q nx c : ℕ) (at : slice_get (able_after P S W b state.frames.items 0) c ≡ Some q) (came : IsRun P S (with_turn P S (events_of P S W b state.frames.items) q) new) where
      abbrev first : List Frame
      first = state.frames.items

      few_here : length (story before) < 2 ^ 62
      few_here = subst (λ (K : List Event). length K < 2 ^ 62) (sym come.at.events) few

      module _ (n : ℕ) (key : List ℕ) (ms : List (List Frame)) (s : IsState P S W b n key ms state) where
        able_at : All (IsAbleAt P S W b q c) ms
        able_at = λ k d l.
            let same = (all_able P S W limit b n key ms state s before come few_here (able_after P S W b first 0) refl k d l).0 in
            let there : slice_get (able P S W (events_of P S W b (get_or ms k d)) (last_place 0 (get_or ms k d))) c ≡ Some q = ap (λ (qs : List ℕ). slice_get qs c) same ∙ at in
            let m = able_member (events_of P S W b (get_or ms k d)) (last_place 0 (get_or ms k d)) c q there in
            (m.0, m.1, there)

        here : IsRun P S (story before) before
        here = run_is P S W limit b n key ms state s before come few_here

        is_walked : IsWalked P S W (story before)
        is_walked = walked P S W limit b n key ms state s before come few_here

        able_here : (q < places W (story before)) × (is_able P S (story before) (at_place (story before) q) ≡ true)
        able_here =
            let m : (q < places W (events_of P S W b first)) × (is_able P S (events_of P S W b first) (at_place (events_of P S W b first) q) ≡ true) =
            able_member (events_of P S W b first) (last_place 0 first) c q (ap (λ (qs : List ℕ). slice_get qs c) (able_is P S W limit b n key ms state s before come few_here (able_after P S W b first 0) refl) ∙ at) in
            subst (λ (K : List Event). (q < places W K) × (is_able P S K (at_place K q) ≡ true)) (sym come.at.events) m

        turned_here : IsRun P S (with_turn P S (story before) q) new
        turned_here = subst (λ (K : List Event). IsRun P S (with_turn P S K q) new) (sym come.at.events) came

        -- each goes on as the run with the turn
        has_key : (other : List ℕ) → other ≡ key_of P q new → (fs : List Frame) → GoesAlike P S before (events_of P S W b fs) → HasKey P S W b (suc n) other (longer P S W b q nx c fs)
        has_key other e fs g =
            let frame : Frame = record { place = q; next = nx; left = left_to P S W b fs - c } in
            let last : last_place 0 (fs ++ frame ∷ []) ≡ q = last_more P S W 0 fs frame in
            let few64 : length (story before) < 2 ^ 64 = omega (arith, few_here) in
            let goes : GoesAlike P S new (with_turn P S (events_of P S W b fs) q) = turn_goes_on P S W before new (events_of P S W b fs) here is_walked few64 q able_here.1 turned_here g in
            record {
              run = new;
              at = run_here P S W (with_turn P S (story before) q) new turned_here;
              walked = subst (IsWalked P S W) (sym turned_here.at.events) (walked_on P S W (omega (arith, limit)) (story before) q able_here.0 able_here.1 is_walked);
              as_long = omega (arith, ap length turned_here.at.events, as_long P S W limit b n key ms state s before come few_here);
              key_is = e ∙ ap (λ (p : ℕ). key_of P p new) (sym last);
              alike = subst (λ (K : List Event). GoesAlike P S new K) (sym (after_more P S W (started S) fs frame)) goes;
            }

        have_key : (other : List ℕ) → other ≡ key_of P q new → All (HasKey P S W b (suc n) other) (all_longer P S W b q nx c ms)
        have_key other e = all_more P S W b q nx c (λ fs. GoesAlike P S before (events_of P S W b fs)) (HasKey P S W b (suc n) other) (λ fs l g. has_key other e fs g) ms
            (λ k d l. (all_alike P S W limit b n key ms state s before come few_here k d l).0)

        few_delays : c < 2 ^ 63
        few_delays =
            let there : c < length (able_from P S W (events_of P S W b first) (last_place 0 first) 0) = slice_within (able_after P S W b first 0) c q at in
            omega (arith, there, able_few (events_of P S W b first) (last_place 0 first), few, limit)
          where
            slice_within : (xs : List ℕ) (k x : ℕ) → slice_get xs k ≡ Some x → k < length xs
            slice_within [] k x e = absurd cc
            slice_within (y ∷ ys) zero x e = omega arith
            slice_within (y ∷ ys) (suc k) x e = omega (arith, slice_within ys k x e)

        module _ (within : c ≤ state.left) (room : HasRoom b state.least) (key_now : List ℕ) (key_is : key_now ≡ key_of P q new) (old mid next : Level)
            (joins : JoinsIn b c (record { place = q; next = nx; left = state.left - c }) state key_now mid next) where
          roomy : b.is_meant ≡ false → All (λ fs. c ≤ left_to P S W b fs) ms
          roomy e = All-weaker (λ fs. state.least ≤ left_to P S W b fs) (λ fs. c ≤ left_to P S W b fs) (λ fs l. let most : 2 ^ 63 ≤ state.least = room e in omega (arith, l, most, few_delays)) ms s.least

          pub turn_joined : (qs : List ℕ) → GoneOn P S W b n ms c (q ∷ qs) old mid → GoneOn P S W b n ms (c + 1) qs old next
          turn_joined qs g = one_turn P S W b n ms c q nx qs old mid next g (lacks_none P S W b n key ms state s room c few_delays)
              (λ groups l. let j = joined_in P S W b n key ms state s q nx c within able_at roomy key_now (have_key key_now key_is) groups mid next l joins in (j.more, j.level, j.adds))

          pub first_turn : (qs : List ℕ) → able_after P S W b first 0 ≡ q ∷ qs → c ≡ 0 → mid ≡ old → GoneOn P S W b n ms c (q ∷ qs) old mid
          first_turn qs e z same =
              let a = all_able P S W limit b n key ms state s before come few_here (q ∷ qs) e in
              subst (λ (x : ℕ). GoneOn P S W b n ms x (q ∷ qs) old mid) (sym z)
              (subst (λ (level : Level). GoneOn P S W b n ms 0 (q ∷ qs) old level) (sym same) (no_turn P S W b n q qs ms old a))

    -- one more turn was had
    module _ (limit : W ≤ 15) (state : State) (c tried : ℕ) (old mid next : Level) (had : HasTurns state c tried old mid) (found : Found) (f : FindsNext P S W b state.frames.items tried found)
        (t : Turn) (some : found.turn ≡ Some t) where
      abbrev is_turned : HasTurned P S W b state.frames.items tried found.run (Some t)
      is_turned = subst (HasTurned P S W b state.frames.items tried found.run) some f.turn

      next_here : (slice_get (able_after P S W b state.frames.items 0) c ≡ Some t.place) × (drop (suc c) (able_after P S W b state.frames.items 0) ≡ able_after P S W b state.frames.items t.next)
          × (c < length (able_after P S W b state.frames.items 0))
      next_here = drop_found (able_after P S W b state.frames.items 0) c t.place (able_after P S W b state.frames.items t.next) (sym had.rest ∙ is_turned.1)

      pub few_had : c < 2 ^ 63
      few_had =
          let there : c < length (able_from P S W (events_of P S W b state.frames.items) (last_place 0 state.frames.items) 0) = next_here.2 in
          omega (arith, there, able_few (events_of P S W b state.frames.items) (last_place 0 state.frames.items), f.few, limit)

      pub run_there : (frame : Frame) → frame.place ≡ t.place → IsRun P S (events_of P S W b (turns_behind state frame)) found.run
      run_there frame e =
          subst (λ (K : List Event). IsRun P S K found.run) (ap (λ (q : ℕ). with_turn P S (events_of P S W b state.frames.items) q) (sym e) ∙ sym (after_more P S W (started S) state.frames.items frame)) is_turned.0

      module _ (within : c ≤ state.left) (room : HasRoom b state.least) (key_now : List ℕ) (key_is : key_now ≡ key_of P t.place found.run)
          (joins : JoinsIn b c (record { place = t.place; next = t.next; left = state.left - c }) state key_now mid next) where
        before_turn : (n : ℕ) (key : List ℕ) (ms : List (List Frame)) → IsState P S W b n key ms state → (x : ℕ) → c ≡ x
            → GoneOn P S W b n ms c (t.place ∷ able_after P S W b state.frames.items t.next) old mid
        before_turn n key ms s zero z =
            let b0 = had.begun z in
            let all : able_after P S W b state.frames.items 0 ≡ t.place ∷ able_after P S W b state.frames.items t.next = ap (λ (x : ℕ). able_after P S W b state.frames.items x) (sym b0.0) ∙ is_turned.1 in
            first_turn limit state f.before found.run f.come f.few t.place t.next c next_here.0 is_turned.0 n key ms s within room key_now key_is old mid next joins
            (able_after P S W b state.frames.items t.next) all z b0.1
        before_turn n key ms s (suc x) z =
            subst (λ (qs : List ℕ). GoneOn P S W b n ms c qs old mid) is_turned.1 (had.going (omega (arith, z)) n key ms s)

        pub one_more_had : HasTurns state (c + 1) t.next old next
        one_more_had = record {
          one_each = joined_each c (record { place = t.place; next = t.next; left = state.left - c }) state key_now mid next had.one_each joins;
          begun = λ z. absurd (omega (arith, z));
          rest = let one : suc c ≡ c + 1 = omega arith in sym next_here.1 ∙ ap (λ (k : ℕ). drop k (able_after P S W b state.frames.items 0)) one;
          going = λ l n key ms s.
              turn_joined limit state f.before found.run f.come f.few t.place t.next c next_here.0 is_turned.0 n key ms s within room key_now key_is old mid next joins
              (able_after P S W b state.frames.items t.next) (before_turn n key ms s c refl);
        }

    -- ---- No turn is found

    pub over_found : (fs : List Frame) (q : ℕ) (found : Found) → FindsNext P S W b fs q found → found.turn ≡ None → IsRun P S (events_of P S W b fs) found.run × (able_after P S W b fs q ≡ [])
    over_found fs q found f e = subst (HasTurned P S W b fs q found.run) e f.turn

    -- of a run's own script
    pub own_run : (fs : List Frame) (r : Run) → IsRun P S (events_of P S W b fs) r → IsRun P (script_in r) (events_of P (script_in r) W b fs) r
    own_run fs r i = subst (λ (T : Script). IsRun P T (events_of P T W b fs) r) (sym i.at.script) i

    -- ---- No turn is left

    module _ (state : State) (c tried : ℕ) (old new : Level) (had : HasTurns state c tried old new) (e : Ends) (n : ℕ) (key : List ℕ) (ms : List (List Frame)) (s : IsState P S W b n key ms state)
        (some : 0 < c) where
      pub all_had : able_after P S W b state.frames.items tried ≡ [] → GoesOn P S W b n ms e e old new
      all_had none = turned_all P S W b n ms e old new c (subst (λ (qs : List ℕ). GoneOn P S W b n ms c qs old new) none (had.going some n key ms s))

      -- no delay is left to any history, since the first has the most
      none_has : state.left < c → All (λ fs. left_to P S W b fs < c) ms
      none_has l = All-weaker (IsNoLater P S W b state.frames.items) (λ fs. left_to P S W b fs < c)
          (λ fs late. omega (arith, no_more_left (left_to P S W b fs) (left_to P S W b state.frames.items) (map left_of fs) (map left_of state.frames.items) late, l, s.left_is)) ms s.none_before

      pub enough_had : state.left < c → GoesOn P S W b n ms e e old new
      enough_had l = turned_enough P S W b n ms e old new c (able_after P S W b state.frames.items tried) (had.going some n key ms s) (none_has l)

    -- nobody is able to step after the state
    pub none_able : W ≤ 15 → (state : State) (tried : ℕ) (old new : Level) → HasTurns state 0 tried old new → (found : Found) → FindsNext P S W b state.frames.items tried found → able_after P S W b state.frames.items tried ≡ []
        → (old_ends new_ends : Ends) (n : ℕ) (key : List ℕ) (ms : List (List Frame)) → IsState P S W b n key ms state → EndsSo P S W b ms old_ends new_ends → GoesOn P S W b n ms old_ends new_ends old new
    none_able limit state tried old new had found f none old_ends new_ends n key ms s ends =
        let b0 = had.begun refl in
        let all : able_after P S W b state.frames.items 0 ≡ [] = ap (λ (x : ℕ). able_after P S W b state.frames.items x) (sym b0.0) ∙ none in
        let few : length (story f.before) < 2 ^ 62 = subst (λ (K : List Event). length K < 2 ^ 62) (sym f.come.at.events) f.few in
        subst (λ (level : Level). GoesOn P S W b n ms old_ends new_ends old level) (sym b0.1)
        (ended_all P S W b n ms old_ends new_ends old (all_able P S W limit b n key ms state s f.before f.come few [] all) ends)
