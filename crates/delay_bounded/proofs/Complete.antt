-- Each history that is taken turn by turn by actors that are able to step, up to where nobody is, is explored where there is no bound.
-- By induction on its events: what holds of all walks from before a turn with its delays more holds of those after it.
use Rattle.std.proofs.Common.{◌≡◌, ℕ, zero, suc, ◌+◌, ◌-◌, ◌*◌, ◌<◌, ◌≤◌, ◌^◌, Bool, true, false, cond, if◌then◌else◌, List, [], ◌∷◌, ◌++◌, length, map, filter, All, Contains, refl, arith}
use Rattle.std.proofs.lemmas.List.Elements.{All-cons, All-contains_itself, All-head, All-nil, All-tail, All-weaker}
use Rattle.hist_model.specs.Kinds.{makes}
use Rattle.hist_model.specs.declared.event.Event.{Event}
use Rattle.hist_model.specs.declared.policy.Policy.{Policy}
use Rattle.hist_model.specs.declared.script.Script.{Script}
use Rattle.history_frames.specs.Ordinals.{count_of, tasks_made}
use Rattle.delay_bounded.specs.Circle.{able, at_place, is_able, places, round, with_turn}
use Rattle.delay_bounded.specs.Explored.{Walk, by_delays, closed, explored, is_spent, or_over, unbounded, walks_of, walks_on, with_delays}
use Rattle.delay_bounded.specs.Laws.{IsOver, IsTurnByTurn}
use Rattle.delay_bounded.proofs.Rounds.{Split, round_inside, round_splits}
use Rattle.delay_bounded.proofs.Walks.{walks_step}

-- ---- What holds of all elements of a list

all_left : {X : Type 0} (Q : X → Type 0) (xs ys : List X) → All Q (xs ++ ys) → All Q xs
all_left Q [] ys h = All-nil Q
all_left Q (x ∷ xs) ys h = All-cons Q x xs (All-head Q x (xs ++ ys) h) (all_left Q xs ys (All-tail Q x (xs ++ ys) h))

all_right : {X : Type 0} (Q : X → Type 0) (xs ys : List X) → All Q (xs ++ ys) → All Q ys
all_right Q [] ys h = h
all_right Q (x ∷ xs) ys h = all_right Q xs ys (All-tail Q x (xs ++ ys) h)

all_spent : (Q : List Event → Type 0) (f : Walk → List Event) (ws : List Walk) → All Q (map f (filter is_spent ws)) → All (λ w. is_spent w ≡ true → Q (f w)) ws
all_spent Q f [] h = All-nil (λ w. is_spent w ≡ true → Q (f w))
all_spent Q f (w ∷ ws) h = with_spent (is_spent w) refl h (all_spent Q f ws)
  where
    with_spent : (b : Bool) → is_spent w ≡ b → All Q (map f (cond b (w ∷ filter is_spent ws) (filter is_spent ws))) → (All Q (map f (filter is_spent ws)) → All (λ w. is_spent w ≡ true → Q (f w)) ws) → All (λ w. is_spent w ≡ true → Q (f w)) (w ∷ ws)
    with_spent true e h rest = All-cons (λ w. is_spent w ≡ true → Q (f w)) w ws (λ t. All-head Q (f w) (map f (filter is_spent ws)) h) (rest (All-tail Q (f w) (map f (filter is_spent ws)) h))
    with_spent false e h rest = All-cons (λ w. is_spent w ≡ true → Q (f w)) w ws (λ t. cc) (rest h)

none_pass : (f : ℕ → Bool) (xs : List ℕ) → All (λ q. f q ≡ false) xs → filter f xs ≡ []
none_pass f [] h = refl
none_pass f (x ∷ xs) h = let not : f x ≡ false = All-head (λ q. f q ≡ false) x xs h in rw not (none_pass f xs (All-tail (λ q. f q ≡ false) x xs h))

-- ---- A turn

-- the turn after as many delays as there are places before its own
picked : (Q : Walk → Type 0) (f : ℕ → ℕ → List Walk) (before : List ℕ) (q : ℕ) (more : List ℕ) (m d : ℕ) → m ≡ length before + d → All Q (by_delays f (before ++ q ∷ more) m) → All Q (f q d)
picked Q f [] q more zero d e h = let none : d ≡ 0 = omega arith in rw none h
picked Q f [] q more (suc m) d e h = let all : d ≡ suc m = omega arith in rw all (all_left Q (f q (suc m)) (by_delays f more m) h)
picked Q f (b ∷ before) q more zero d e h = absurd (omega arith)
picked Q f (b ∷ before) q more (suc m) d e h = picked Q f before q more m d (omega arith) (all_right Q (f b (suc m)) (by_delays f (before ++ q ∷ more) m) h)

over_some : (Q : Walk → Type 0) (before : List ℕ) (q : ℕ) (more : List ℕ) (over : Walk) (ws : List Walk) → All Q (or_over (before ++ q ∷ more) over ws) → All Q ws
over_some Q [] q more over ws h = h
over_some Q (b ∷ before) q more over ws h = h

one_or_none : (b : Bool) → (if b then 1 else 0) ≤ 1
one_or_none true = omega arith
one_or_none false = omega arith

module _ (P : Policy) (S : Script) (W : ℕ) where
  after_turn : (Q : Walk → Type 0) (K : List Event) (p q d : ℕ) (s : Split (able P S W K p) q (places W K)) → length K < 2 ^ 64 → All Q (walks_on P S W K p (length s.before + d)) → All Q (walks_on P S W (with_turn P S K q) q d)
  after_turn Q K p q d s few h =
      let step = rw (walks_step P S W K p (length s.before + d) few) at h in
      let there = rw s.whole at step in
      picked Q (λ q r. walks_on P S W (with_turn P S K q) q r) s.before q s.behind (length s.before + d) d refl
      (over_some Q s.before q s.behind (record { left = length s.before + d; events = K }) (by_delays (λ q r. walks_on P S W (with_turn P S K q) q r) (s.before ++ q ∷ s.behind) (length s.before + d)) there)

  splits : (K : List Event) (p q : ℕ) → p < places W K → q < places W K → is_able P S K (at_place K q) ≡ true → Split (able P S W K p) q (places W K)
  unfolding able
  splits K p q l m a = round_splits (λ q. is_able P S K (at_place K q)) p q (places W K) l m a

  -- ---- Where a history's turns have led

  -- the walks from K on are among all walks with c more delays
  record Reached (K : List Event) : Type 1 where
    pub place : ℕ
    pub delays : ℕ
    pub inside : place < places W K
    pub few : delays ≤ length K * 2 ^ 65
    pub among : (Q : Walk → Type 0) (d : ℕ) → All Q (walks_of P S W (delays + d)) → All Q (walks_on P S W K place d)

  few_tasks : (K : List Event) → tasks_made K ≤ length K
  unfolding count_of
  few_tasks [] = omega arith
  few_tasks (e ∷ K) = omega (arith, few_tasks K, one_or_none (makes e.what))

  more_places : (K : List Event) (q : ℕ) → places W K ≤ places W (with_turn P S K q)
  unfolding count_of
  more_places K q = omega arith

  reached : (K : List Event) → W ≤ 16 → length K < 2 ^ 64 → IsTurnByTurn P S W K → Reached K
  reached [] w few t = absurd t
  reached (e ∷ []) w few t = rw t (record { place = 0; delays = 0; inside = omega arith; few = omega arith; among = λ Q d h. let same : 0 + d ≡ d = omega arith in rw same at h })
  reached (e ∷ f ∷ K) w few (q, l, a, is, t) =
      let r = reached (f ∷ K) w (omega arith) t in
      let s = splits (f ∷ K) r.place q r.inside l a in
      rw is (record {
        place = q;
        delays = r.delays + length s.before;
        inside = omega (arith, more_places (f ∷ K) q);
        few = omega (arith, r.few, s.short, few_tasks (f ∷ K));
        among = λ Q d h.
            let same : r.delays + length s.before + d ≡ r.delays + (length s.before + d) = omega arith in
            after_turn Q (f ∷ K) r.place q d s (omega arith) (r.among Q (length s.before + d) (rw same at h));
      })

  none_able : (K : List Event) (p : ℕ) → IsOver P S W K → able P S W K p ≡ []
  unfolding able
  none_able K p over = none_pass (λ q. is_able P S K (at_place K q)) (round p (places W K))
      (All-weaker (λ q. q < places W K) (λ q. is_able P S K (at_place K q) ≡ false) over (round p (places W K)) (round_inside p (places W K) (omega arith)))

  -- the history is among those with some number of delays
  ends_among : (K : List Event) (r : Reached K) → length K < 2 ^ 64 → IsOver P S W K → (Q : List Event → Type 0) → All Q (with_delays P S W r.delays) → Q (closed P S (record { left = 0; events = K }))
  unfolding with_delays
  ends_among K r few over Q h =
      let same : r.delays + 0 ≡ r.delays = omega arith in
      let spent = all_spent Q (closed P S) (walks_of P S W r.delays) h in
      let here = r.among (λ w. is_spent w ≡ true → Q (closed P S w)) 0 (rw same spent) in
      let one = rw (walks_step P S W K r.place 0 few, none_able K r.place over) at here in
      All-head (λ w. is_spent w ≡ true → Q (closed P S w)) (record { left = 0; events = K }) [] one refl

-- ---- The law

module _ (P : Policy) (S : Script) (W : ℕ) where
  -- a list for a smaller number of delays is part of the one for no bound
  all_below : (Q : List Event → Type 0) (d k : ℕ) → All Q (explored P S W (d + k)) → All Q (explored P S W d)
  unfolding explored
  all_below Q d zero h = let same : d + 0 ≡ d = omega arith in rw same at h
  all_below Q d (suc k) h =
      let same : d + suc k ≡ suc (d + k) = omega arith in
      all_below Q d k (all_left Q (explored P S W (d + k)) (with_delays P S W (suc (d + k))) (rw same at h))

  all_with : (Q : List Event → Type 0) (d : ℕ) → All Q (explored P S W d) → All Q (with_delays P S W d)
  unfolding explored
  all_with Q zero h = h
  all_with Q (suc d) h = all_right Q (explored P S W d) (with_delays P S W (suc d)) h

  pub holds_of_all : (K : List Event) → W ≤ 16 → length K < 2 ^ 64 → IsTurnByTurn P S W K → IsOver P S W K → (Q : List Event → Type 0) → All Q (explored P S W unbounded) → Q (closed P S (record { left = 0; events = K }))
  holds_of_all K w few t over Q h =
      let r = reached P S W K w few t in
      let below : r.delays + (unbounded - r.delays) ≡ unbounded = omega (arith, r.few) in
      ends_among P S W K r few over Q (all_with Q r.delays (all_below Q r.delays (unbounded - r.delays) (rw below h)))

  pub is_explored : (K : List Event) → W ≤ 16 → length K < 2 ^ 64 → IsTurnByTurn P S W K → IsOver P S W K → Contains (explored P S W unbounded) (closed P S (record { left = 0; events = K }))
  is_explored K w few t over = holds_of_all K w few t over (Contains (explored P S W unbounded)) (All-contains_itself (explored P S W unbounded))
