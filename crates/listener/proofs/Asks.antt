-- The requests of a history after one more event.
-- By whether the event puts, installs or takes one, with the lemmas of `history_frames`.
use Rattle.std.proofs.Common.{◌≡◌, inl, inr, ℕ, ◌<◌, Bool, true, false, ◌&&◌, not, List, [], ◌∷◌, ◌++◌, length, Option, Some, None, refl, sym, ap, ◌∙◌, arith, append-nil}
use Rattle.std.specs.Prelude.{map, filter, find, All, Ok, Result, ◌==◌, is_none, if◌then◌else◌, slice_index_or}
use Rattle.std.specs.Option.{option_or}
use Rattle.std.proofs.lemmas.Bool.{cases_Bool, cases_eq, eq-eqb, eqb-true, ne_eqb, and_parts, both_ways, false_from_ne_true, not-true}
use Rattle.std.proofs.lemmas.List.{map-append}
use Rattle.std.proofs.lemmas.List.Elements.{All-nil, All-head, All-tail, All-filter, All-weaker, All-push, filter-append, filter_passes}
use Rattle.std.proofs.lemmas.List.Folds.{find-append}
use Rattle.hist_model.specs.Look.{event_at, is_worker}
use Rattle.hist_model.specs.Kinds.{notifies, is_install}
use Rattle.hist_model.specs.Calls.{listed, id, is_call, named, queue, puts_to, installs_for, notify_id, rest_of}
use Rattle.hist_model.specs.Steps.{request_of, request_after, call_at, install_of, installed, is_first, call_listed}
use Rattle.hist_model.specs.Files.{asked_in, asked_by}
use Rattle.hist_model.specs.declared.event.Event.{Event}
use Rattle.hist_model.specs.declared.event.Actor.{Actor}
use Rattle.hist_model.specs.declared.event.Actor.TheVariants.{Worker}
use Rattle.hist_model.specs.declared.event.What.{What}
use Rattle.hist_model.specs.declared.event.What.TheVariants.{AddfdPut, AddfdTake, Install}
use Rattle.hist_model.proofs.Look.{event_at-here, event_at-older}
use Rattle.sys_abi.specs.declared.wire.Addfd.{Addfd}
use Rattle.history_frames.proofs.Listed.{listed-cases, listed-is_call, id-older, named-listed, place-is}
use Rattle.history_frames.proofs.Queued.{request-same, request-more, call-older, call-here}
use Rattle.listener.proofs.Queues.{is-place, queue-same, queue-put, queue-rest, queue-new}
use Rattle.listener.proofs.Installs.{request-left, call-id, install-here, install-same, install-left, install-new, first-for}
use Rattle.listener.specs.Requests.{is_waiting, new_request}
use Rattle.listener.specs.declared.requests.Request.{Request as Ask}
use Rattle.listener.specs.State.{told}
use Rattle.hist_model.specs.Laws.{worker_of}
use Rattle.listener.specs.Fold.{ask_places, ask_at, asks, number_or, worker_at, is_put, is_take, takes}
use Rattle.listener.specs.Sound.{Differ, AreAsked, IdsDiffer}
use Rattle.listener.proofs.Lists.{map-same, filter-all, filter-map, filter-same, find-same}

-- ---- an event that puts, installs and takes none

pub record IsIdle (w : What) : Type 0 where
  pub no_put : is_put w ≡ false
  pub no_install : is_install w ≡ false
  pub no_take : is_take w ≡ false

idle-left : (w : What) → IsIdle w → ((K : List Event) (c : ℕ) → puts_to K w c ≡ false) × ((p : ℕ) (o : Option ℕ) → request_after p w o ≡ o)
idle-left (AddfdPut a (Ok u)) i = let n = i.no_put in cc
idle-left (AddfdTake a) i = let n = i.no_take in cc
idle-left w i = ((λ K c. refl), (λ p o. refl))

idle-places : (e : Event) (K : List Event) → IsIdle e.what → ask_places (e ∷ K) ≡ ask_places K
unfolding ask_places
idle-places e K i = let p = i.no_put in let t = i.no_take in rw (filter-all (λ r. not (takes e (worker_at K r))) (ask_places K) (λ r. rw t), p) (append-nil (ask_places K))

ask-left : (e : Event) (K : List Event) (r : ℕ) → is_install e.what ≡ false → r < length K → ask_at (e ∷ K) r ≡ ask_at K r
ask-left e K r n l = rw (event_at-older e K r l, install-left e K r n)

pub asks-idle : (e : Event) (K : List Event) → AreAsked K → IsIdle e.what → asks (e ∷ K) ≡ asks K
unfolding asks
asks-idle e K A i = rw (idle-places e K i) (map-same (ask_at (e ∷ K)) (ask_at K) (ask_places K) (All-weaker (λ r. r < length K) (λ r. ask_at (e ∷ K) r ≡ ask_at K r) (λ r l. ask-left e K r i.no_install l) (ask_places K) A.below))

-- the id that a request names is its call's
ask-id : (K : List Event) (r c : ℕ) → IdsDiffer K → (d : ℕ) × (call_at K r ≡ Some d) → is_call K c ≡ true → is_waiting (id K c) (ask_at K r) ≡ true → call_at K r ≡ Some c
ask-id K r c ids d h w =
    let i = call-id K r d.0 d.1 in
    d.1 ∙ ap Some (ids d.0 c i.0 h (i.1 ∙ eqb-true (asked_in (event_at K r)).id (id K c) (and_parts ((asked_in (event_at K r)).id == id K c) (is_none (install_of K r)) w).0))

none-waits : (K : List Event) (x : ℕ) (rs : List ℕ) → ((c : ℕ) → is_call K c ≡ true → id K c ≡ x → ⊥) → All (λ r. (c : ℕ) × (call_at K r ≡ Some c)) rs → filter (λ r. is_waiting x (ask_at K r)) rs ≡ []
none-waits K x [] f h = refl
none-waits K x (r ∷ rs) f h =
    let d = All-head (λ r. (c : ℕ) × (call_at K r ≡ Some c)) r rs h in
    let i = call-id K r d.0 d.1 in
    let n : is_waiting x (ask_at K r) ≡ false = false_from_ne_true (is_waiting x (ask_at K r)) (λ w. f d.0 i.0 (i.1 ∙ eqb-true (asked_in (event_at K r)).id x (and_parts ((asked_in (event_at K r)).id == x) (is_none (install_of K r)) w).0)) in
    rw n (none-waits K x rs f (All-tail (λ r. (c : ℕ) × (call_at K r ≡ Some c)) r rs h))

calls-older : (e : Event) (K : List Event) (rs : List ℕ) → All (λ r. r < length K) rs → All (λ r. (c : ℕ) × (call_at K r ≡ Some c)) rs → All (λ r. (c : ℕ) × (call_at (e ∷ K) r ≡ Some c)) rs
calls-older e K rs b h k d l = let c = h k d l in (c.0, call-older e K _ (b k d l) ∙ c.1)

-- what waits among places that stand below, where nothing is installed
waits-left : (e : Event) (K : List Event) (x : ℕ) (rs : List ℕ) → is_install e.what ≡ false → All (λ r. r < length K) rs → filter (λ r. is_waiting x (ask_at (e ∷ K) r)) rs ≡ filter (λ r. is_waiting x (ask_at K r)) rs
waits-left e K x rs n b = filter-same (λ r. is_waiting x (ask_at (e ∷ K) r)) (λ r. is_waiting x (ask_at K r)) rs (λ k d l. ap (is_waiting x) (ask-left e K _ n (b k d l)))

own-left : (e : Event) (K : List Event) (w : ℕ) (rs : List ℕ) → All (λ r. r < length K) rs → find (λ r. worker_at (e ∷ K) r == w) rs ≡ find (λ r. worker_at K r == w) rs
own-left e K w rs b = find-same (λ r. worker_at (e ∷ K) r == w) (λ r. worker_at K r == w) rs (λ k d l. rw (event_at-older e K _ (b k d l)))

pub asked-idle : (e : Event) (K : List Event) → AreAsked K → IsIdle e.what → (notifies e.what ≡ true → (c : ℕ) → is_call K c ≡ true → id K c ≡ notify_id e.what → ⊥) → AreAsked (e ∷ K)
asked-idle e K A i fresh = rw (idle-places e K i) (record {
  below = All-weaker (λ r. r < length K) (λ r. r < length (e ∷ K)) (λ r l. omega arith) (ask_places K) A.below;
  differ = A.differ;
  calls = calls-older e K (ask_places K) A.below A.calls;
  own = λ w. request-left e K w (z.1 (length K)) ∙ (A.own w ∙ sym (own-left e K w (ask_places K) A.below));
  alone = λ k d l. rw (event_at-older e K _ (A.below k d l)) (request-left e K _ (z.1 (length K)) ∙ A.alone k d l);
  queues = λ c h. elim (listed-cases e K c h) [
    | inl p ↦ rw p.0 (queue-new e K ∙ sym (rw (event_at-here e K) (waits-left e K (notify_id e.what) (ask_places K) i.no_install A.below ∙ none-waits K (notify_id e.what) (ask_places K) (fresh p.1) A.calls)))
    | inr p ↦ let n = i.no_install in rw (id-older e K c p.0) (queue-same e K c (z.0 K c) (rw n) ∙ (A.queues c p.1 ∙ sym (waits-left e K (id K c) (ask_places K) i.no_install A.below)))
  ];
})
  where
    z : ((K : List Event) (c : ℕ) → puts_to K e.what c ≡ false) × ((p : ℕ) (o : Option ℕ) → request_after p e.what o ≡ o)
    z = idle-left e.what i

-- ---- one is put

worker-is : (a : Actor) (w v : ℕ) → a ≡ Worker w → is_worker a v ≡ (w == v)
worker-is a w v q = rw q

put-places : (e : Event) (K : List Event) (a : Addfd) → e.what ≡ AddfdPut a (Ok tt) → ask_places (e ∷ K) ≡ ask_places K ++ length K ∷ []
unfolding ask_places
put-places e K a q = rw (filter-all (λ r. not (takes e (worker_at K r))) (ask_places K) (λ r. rw q), q)

ask-new : (e : Event) (K : List Event) (w : ℕ) (a : Addfd) → e.who ≡ Worker w → e.what ≡ AddfdPut a (Ok tt) → ask_at (e ∷ K) (length K) ≡ new_request w a
ask-new e K w a v q = rw (event_at-here e K, install-new e K, v, q)

pub asks-put : (e : Event) (K : List Event) (w : ℕ) (a : Addfd) → AreAsked K → e.who ≡ Worker w → e.what ≡ AddfdPut a (Ok tt) → asks (e ∷ K) ≡ asks K ++ new_request w a ∷ []
unfolding asks
asks-put e K w a A v q =
    rw (
      put-places e K a q,
      map-append (ask_at (e ∷ K)) (ask_places K) (length K ∷ []),
      ask-new e K w a v q,
      map-same (ask_at (e ∷ K)) (ask_at K) (ask_places K) (All-weaker (λ r. r < length K) (λ r. ask_at (e ∷ K) r ≡ ask_at K r) (λ r l. ask-left e K r (rw q) l) (ask_places K) A.below),
    ) refl

differ-push : (n : ℕ) (rs : List ℕ) → All (λ r. r < n) rs → Differ rs → Differ (rs ++ n ∷ [])
differ-push n [] b d = (All-nil (λ y. (y == n) ≡ false), tt)
differ-push n (r ∷ rs) b d =
    let l = All-head (λ r. r < n) r rs b in
    (All-push (λ y. (y == r) ≡ false) rs n d.0 (ne_eqb n r (omega arith)), differ-push n rs (All-tail (λ r. r < n) r rs b) d.1)

pub asked-put : (e : Event) (K : List Event) (w c : ℕ) (a : Addfd) → AreAsked K → IdsDiffer K → e.who ≡ Worker w → e.what ≡ AddfdPut a (Ok tt) → named K a.id ≡ Some c → request_of K w ≡ None → AreAsked (e ∷ K)
asked-put e K w c a A ids v q n f = rw (put-places e K a q) (record {
  below = All-push (λ r. r < length (e ∷ K)) (ask_places K) (length K) (All-weaker (λ r. r < length K) (λ r. r < length (e ∷ K)) (λ r l. omega arith) (ask_places K) A.below) (omega arith);
  differ = differ-push (length K) (ask_places K) A.below A.differ;
  calls = All-push (λ r. (c : ℕ) × (call_at (e ∷ K) r ≡ Some c)) (ask_places K) (length K) (calls-older e K (ask_places K) A.below A.calls) (c, rw (call-here e K, q) n);
  own = λ u.
      rw (find-append (λ r. worker_at (e ∷ K) r == u) (ask_places K) (length K ∷ []), own-left e K u (ask_places K) A.below, ← A.own u)
      (elim (cases_eq w u) [
        | inl p ↦ request-more e K u (worker-is e.who w u v ∙ eq-eqb w u p) ∙ rw (event_at-here e K, v, q, ← p, f, eq-eqb w w refl) refl
        | inr p ↦ request-same e K u (worker-is e.who w u v ∙ ne_eqb w u p) ∙ rw (event_at-here e K, v, ne_eqb w u p) (or-none (request_of K u))
      ]);
  alone = All-push (λ r. request_of (e ∷ K) (worker_at (e ∷ K) r) ≡ Some r) (ask_places K) (length K)
      (λ k x l. rw (event_at-older e K _ (A.below k x l)) (request-same e K _ (worker-is e.who w _ v ∙ ne_eqb w _ (λ z. let t = A.alone k x l in cc (ap (request_of K) z, f, t))) ∙ A.alone k x l))
      (rw (event_at-here e K) (ap (λ u. request_of (e ∷ K) (number_or (worker_of u))) v ∙ (request-more e K w (worker-is e.who w w v ∙ eq-eqb w w refl) ∙ ap (λ y. request_after (length K) y (request_of K w)) q)));
  queues = λ d h. elim (listed-cases e K d h) [
    | inl p ↦ let z : notifies e.what ≡ false = rw q in absurd (both_ways (notifies e.what) z p.1)
    | inr p ↦
        rw (id-older e K d p.0, filter-append (λ r. is_waiting (id K d) (ask_at (e ∷ K) r)) (ask_places K) (length K ∷ []), waits-left e K (id K d) (ask_places K) (rw q) A.below, ← A.queues d p.1, event_at-here e K, install-new e K, ap asked_by q)
        (elim (cases_eq a.id (id K d)) [
          | inl i ↦
              let l = named-listed K a.id c n in
              let s : c ≡ d = ids c d (listed-is_call K c l.0) (listed-is_call K d p.1) (l.1 ∙ i) in
              rw (queue-put e K d (rw q (is-place (named K a.id) d (n ∙ ap Some s))), eq-eqb a.id (id K d) i) refl
          | inr i ↦
              let z : puts_to K e.what d ≡ false = false_from_ne_true (puts_to K e.what d) (λ y. i (sym (named-listed K a.id d (place-is (named K a.id) d (rw q at y))).1)) in
              rw (queue-same e K d z (rw q), ne_eqb a.id (id K d) i) (sym (append-nil (queue K d)))
        ])
  ];
})
  where
    or-none : (o : Option ℕ) → o ≡ option_or o None
    or-none None = refl
    or-none (Some x) = refl

-- ---- one is taken

take-places : (e : Event) (K : List Event) (w : ℕ) (a : Result ℕ ℕ) → e.who ≡ Worker w → e.what ≡ AddfdTake a → ask_places (e ∷ K) ≡ filter (λ r. not (worker_at K r == w)) (ask_places K)
unfolding ask_places
take-places e K w a v q =
    rw q (append-nil _) ∙ filter-same (λ r. not (takes e (worker_at K r))) (λ r. not (worker_at K r == w)) (ask_places K) (λ k d l. rw (q, v) (ap not (flip w (worker_at K (slice_index_or (ask_places K) k d)))))
  where
    flip : (u v : ℕ) → (u == v) ≡ (v == u)
    flip u v = elim (cases_eq u v) [ inl p ↦ eq-eqb u v p ∙ sym (eq-eqb v u (sym p)) | inr p ↦ ne_eqb u v p ∙ sym (ne_eqb v u (λ z. p (sym z))) ]

pub asks-take : (e : Event) (K : List Event) (w : ℕ) (a : Result ℕ ℕ) → AreAsked K → e.who ≡ Worker w → e.what ≡ AddfdTake a → asks (e ∷ K) ≡ filter (λ (q : Ask). not (q.worker == w)) (asks K)
unfolding asks
asks-take e K w a A v q =
    rw (take-places e K w a v q, filter-map (λ (q : Ask). not (q.worker == w)) (ask_at K) (ask_places K))
    (map-same (ask_at (e ∷ K)) (ask_at K) (filter (λ r. not (worker_at K r == w)) (ask_places K))
    (All-filter (λ r. not (worker_at K r == w)) (λ r. ask_at (e ∷ K) r ≡ ask_at K r) (ask_places K) (All-weaker (λ r. r < length K) (λ r. ask_at (e ∷ K) r ≡ ask_at K r) (λ r l. ask-left e K r (rw q) l) (ask_places K) A.below)))

differ-filter : (p : ℕ → Bool) (rs : List ℕ) → Differ rs → Differ (filter p rs)
differ-filter p [] d = tt
differ-filter p (r ∷ rs) d = elim (cases_Bool (p r)) [
  | inl b ↦ rw b (All-filter p (λ y. (y == r) ≡ false) rs d.0, differ-filter p rs d.1)
  | inr b ↦ rw b (differ-filter p rs d.1)
]

-- what isn't taken is found as before, and what is taken isn't
find-taken : (f : ℕ → ℕ) (w u : ℕ) (rs : List ℕ) → find (λ r. f r == u) (filter (λ r. not (f r == w)) rs) ≡ (if w == u then None else find (λ r. f r == u) rs)
find-taken f w u [] = elim (cases_Bool (w == u)) [ inl b ↦ rw b | inr b ↦ rw b ]
find-taken f w u (r ∷ rs) = elim (cases_eq (f r) w) [
  | inl p ↦ rw (eq-eqb (f r) w p, find-taken f w u rs) (elim (cases_eq w u) [ inl b ↦ rw (eq-eqb w u b) refl | inr b ↦ rw (ne_eqb w u b, p, ne_eqb w u b) refl ])
  | inr p ↦ rw (ne_eqb (f r) w p) (elim (cases_eq (f r) u) [
    | inl b ↦ let n : (w ≡ u → ⊥) = λ z. p (b ∙ sym z) in rw (eq-eqb (f r) u b, ne_eqb w u n) refl
    | inr b ↦ rw (ne_eqb (f r) u b) (find-taken f w u rs)
  ])
]

filter-twice : (p q : ℕ → Bool) (rs : List ℕ) → All (λ r. q r ≡ true → p r ≡ true) rs → filter q (filter p rs) ≡ filter q rs
filter-twice p q [] h = refl
filter-twice p q (r ∷ rs) h =
    let t = filter-twice p q rs (All-tail (λ r. q r ≡ true → p r ≡ true) r rs h) in
    elim (cases_Bool (p r)) [
      | inl b ↦ rw (b, t) refl
      | inr b ↦ let n : q r ≡ false = false_from_ne_true (q r) (λ z. both_ways (p r) b (All-head (λ r. q r ≡ true → p r ≡ true) r rs h z)) in rw (b, n) t
    ]

-- the worker's request has an answer, or its call isn't listed
pub asked-take : (e : Event) (K : List Event) (w : ℕ) (a : Result ℕ ℕ) → AreAsked K → IdsDiffer K → e.who ≡ Worker w → e.what ≡ AddfdTake a
    → ((r : ℕ) → request_of K w ≡ Some r → is_none (install_of K r) ≡ true → call_listed K (call_at K r) ≡ false) → AreAsked (e ∷ K)
asked-take e K w a A ids v q gone = rw (take-places e K w a v q) (record {
  below = kept (λ r. r < length (e ∷ K)) (All-weaker (λ r. r < length K) (λ r. r < length (e ∷ K)) (λ r l. omega arith) (ask_places K) A.below);
  differ = differ-filter (λ r. not (worker_at K r == w)) (ask_places K) A.differ;
  calls = kept (λ r. (c : ℕ) × (call_at (e ∷ K) r ≡ Some c)) (calls-older e K (ask_places K) A.below A.calls);
  own = λ u. rw (own-left e K u (filter (λ r. not (worker_at K r == w)) (ask_places K)) (kept (λ r. r < length K) A.below), find-taken (worker_at K) w u (ask_places K), ← A.own u) (elim (cases_eq w u) [
    | inl p ↦ request-more e K u (worker-is e.who w u v ∙ eq-eqb w u p) ∙ rw (q, eq-eqb w u p) refl
    | inr p ↦ request-same e K u (worker-is e.who w u v ∙ ne_eqb w u p) ∙ rw (ne_eqb w u p) refl
  ]);
  alone = λ k d l. rw (event_at-older e K _ (kept (λ r. r < length K) A.below k d l))
      (request-same e K _ (worker-is e.who w _ v ∙ ne_eqb w _ (λ z. both_ways _ (not-true _ (filter_passes (λ r. not (worker_at K r == w)) (ask_places K) k d l)) (eq-eqb _ w (sym z)))) ∙ kept (λ r. request_of K (worker_at K r) ≡ Some r) A.alone k d l);
  queues = λ d h. elim (listed-cases e K d h) [
    | inl p ↦ let z : notifies e.what ≡ false = rw q in absurd (both_ways (notifies e.what) z p.1)
    | inr p ↦
        rw (id-older e K d p.0, queue-same e K d (rw q) (rw q), waits-left e K (id K d) (filter (λ r. not (worker_at K r == w)) (ask_places K)) (rw q) (kept (λ r. r < length K) A.below))
        (A.queues d p.1 ∙ sym (filter-twice (λ r. not (worker_at K r == w)) (λ r. is_waiting (id K d) (ask_at K r)) (ask_places K) (λ k x l y. other d p.1 _ (A.calls k x l) (A.alone k x l) y)))
  ];
})
  where
    kept : (P : ℕ → Type 0) → All P (ask_places K) → All P (filter (λ r. not (worker_at K r == w)) (ask_places K))
    kept P h = All-filter (λ r. not (worker_at K r == w)) P (ask_places K) h

    other : (d : ℕ) → listed K d ≡ true → (r : ℕ) → (c : ℕ) × (call_at K r ≡ Some c) → request_of K (worker_at K r) ≡ Some r → is_waiting (id K d) (ask_at K r) ≡ true → not (worker_at K r == w) ≡ true
    other d l r c own y = ap not (false_from_ne_true (worker_at K r == w) (λ z.
        let n = (and_parts ((asked_in (event_at K r)).id == id K d) (is_none (install_of K r)) y).1 in
        both_ways (call_listed K (call_at K r)) (gone r (ap (request_of K) (sym (eqb-true (worker_at K r) w z)) ∙ own) n) (ap (call_listed K) (ask-id K r d ids c (listed-is_call K d l) y) ∙ l)))

-- ---- the oldest of a call is installed

told-is : (e : Event) (K : List Event) (x q : ℕ) (a : Result ℕ ℕ) (rs more : List ℕ) → filter (λ r. is_waiting x (ask_at K r)) rs ≡ q ∷ more → Differ rs → All (λ r. r < length K) rs
    → All (λ r. install_of (e ∷ K) r ≡ (if r == q then Some a else install_of K r)) rs → (map (ask_at (e ∷ K)) rs ≡ told x a (map (ask_at K) rs)) × (filter (λ r. is_waiting x (ask_at (e ∷ K) r)) rs ≡ more)
told-is e K x q a [] more f d b h = cc
told-is e K x q a (r ∷ rs) more f d b h =
    let P : ℕ → Type 0 = λ r. install_of (e ∷ K) r ≡ (if r == q then Some a else install_of K r) in
    let i = All-head P r rs h in
    let l = All-head (λ r. r < length K) r rs b in
    elim (cases_Bool (is_waiting x (ask_at K r))) [
      | inl w ↦
          let z : r ∷ filter (λ r. is_waiting x (ask_at K r)) rs ≡ q ∷ more = rw w at f in
          let s : r ≡ q = cc in
          let m : filter (λ r. is_waiting x (ask_at K r)) rs ≡ more = cc in
          let n : install_of (e ∷ K) r ≡ Some a = i ∙ rw (eq-eqb r q s) refl in
          let same : All (λ y. ask_at (e ∷ K) y ≡ ask_at K y) rs = λ k c g. rw (event_at-older e K _ (All-tail (λ r. r < length K) r rs b k c g), All-tail P r rs h k c g, ← s, d.0 k c g) refl in (
            rw (w, event_at-older e K r l, n, map-same (ask_at (e ∷ K)) (ask_at K) rs same) refl,
            rw (n, and-false ((asked_in (event_at (e ∷ K) r)).id == x), filter-same (λ r. is_waiting x (ask_at (e ∷ K) r)) (λ r. is_waiting x (ask_at K r)) rs (λ k c g. ap (is_waiting x) (same k c g))) m,
          )
      | inr w ↦
          let t = told-is e K x q a rs more (rw w at f) d.1 (All-tail (λ r. r < length K) r rs b) (All-tail P r rs h) in
          let y : is_waiting x (ask_at K q) ≡ true = All-head (λ r. is_waiting x (ask_at K r) ≡ true) q more (rw f at (filter_passes (λ r. is_waiting x (ask_at K r)) (r ∷ rs))) in
          let n : (r ≡ q → ⊥) = λ z. both_ways (is_waiting x (ask_at K r)) w (ap (λ r. is_waiting x (ask_at K r)) z ∙ y) in
          let o : ask_at (e ∷ K) r ≡ ask_at K r = rw (event_at-older e K r l, i, ne_eqb r q n) refl in
          (ap (λ z. z ∷ map (ask_at (e ∷ K)) rs) o ∙ rw (w, t.0) refl, rw (ap (is_waiting x) o, w) t.1)
    ]
  where
    and-false : (b : Bool) → (b && false) ≡ false
    and-false true = refl
    and-false false = refl

module _ (e : Event) (K : List Event) (c q : ℕ) (a : Result ℕ ℕ) (more : List ℕ) (A : AreAsked K) (ids : IdsDiffer K) (l : listed K c ≡ true) (for : installs_for K e c ≡ true) (one : (d : ℕ) → installs_for K e d ≡ true → d ≡ c) (w : e.what ≡ Install a) (f : queue K c ≡ q ∷ more) where
  same-places : ask_places (e ∷ K) ≡ ask_places K
  unfolding ask_places
  same-places = rw (filter-all (λ r. not (takes e (worker_at K r))) (ask_places K) (λ r. rw w), w) (append-nil (ask_places K))

  result : (r : ℕ) → (d : ℕ) × (call_at K r ≡ Some d) → install_of (e ∷ K) r ≡ (if r == q then Some a else install_of K r)
  result r d = elim (cases_eq r q) [
    | inl s ↦ rw (eq-eqb r q s, s) (install-here e K c q more (first-for K c q more f).1 for f ∙ ap installed w)
    | inr n ↦ rw (ne_eqb r q n) (install-same e K d.0 r d.1 (false_from_ne_true _ (λ z.
        let p = and_parts (installs_for K e d.0) (is_first (queue K d.0) r) z in
        n (sym (eqb-true q r (rw (one d.0 p.0, f) at p.1))))))
  ]

  both : (map (ask_at (e ∷ K)) (ask_places K) ≡ told (id K c) a (map (ask_at K) (ask_places K))) × (filter (λ r. is_waiting (id K c) (ask_at (e ∷ K) r)) (ask_places K) ≡ more)
  both = told-is e K (id K c) q a (ask_places K) more (sym (A.queues c l) ∙ f) A.differ A.below (λ k d g. result _ (A.calls k d g))

  pub asks-install : asks (e ∷ K) ≡ told (id K c) a (asks K)
  unfolding asks
  asks-install = rw same-places both.0

  -- where another call is concerned, what waits stays
  other : (d : ℕ) → listed K d ≡ true → (d ≡ c → ⊥) → filter (λ r. is_waiting (id K d) (ask_at (e ∷ K) r)) (ask_places K) ≡ filter (λ r. is_waiting (id K d) (ask_at K r)) (ask_places K)
  other d g n = filter-same (λ r. is_waiting (id K d) (ask_at (e ∷ K) r)) (λ r. is_waiting (id K d) (ask_at K r)) (ask_places K) (λ k x m. by _ (A.below k x m) (A.calls k x m))
    where
      by : (r : ℕ) → r < length K → (d : ℕ) × (call_at K r ≡ Some d) → is_waiting (id K d) (ask_at (e ∷ K) r) ≡ is_waiting (id K d) (ask_at K r)
      by r b h = elim (cases_eq r q) [
        | inl s ↦
            let i = call-id K r c (ap (call_at K) s ∙ (first-for K c q more f).1) in
            let z : ((asked_in (event_at K r)).id ≡ id K d → ⊥) = λ z. n (ids d c (listed-is_call K d g) i.0 (sym (i.1 ∙ z))) in
            rw (event_at-older e K r b, ne_eqb (asked_in (event_at K r)).id (id K d) z) refl
        | inr s ↦ rw (event_at-older e K r b, result r h, ne_eqb r q s) refl
      ]

  pub asked-install : AreAsked (e ∷ K)
  asked-install = rw same-places (record {
    below = All-weaker (λ r. r < length K) (λ r. r < length (e ∷ K)) (λ r l. omega arith) (ask_places K) A.below;
    differ = A.differ;
    calls = calls-older e K (ask_places K) A.below A.calls;
    own = λ u. request-left e K u (λ r. rw w) ∙ (A.own u ∙ sym (own-left e K u (ask_places K) A.below));
    alone = λ k d g. rw (event_at-older e K _ (A.below k d g)) (request-left e K _ (λ r. rw w) ∙ A.alone k d g);
    queues = λ d h. elim (listed-cases e K d h) [
      | inl p ↦ let z : notifies e.what ≡ false = rw w in absurd (both_ways (notifies e.what) z p.1)
      | inr p ↦ rw (id-older e K d p.0) (elim (cases_eq d c) [
        | inl s ↦ rw s (queue-rest e K c (rw w) for ∙ (ap rest_of f ∙ sym both.1))
        | inr s ↦ queue-same e K d (rw w) (false_from_ne_true (installs_for K e d) (λ z. s (one d z))) ∙ (A.queues d p.1 ∙ sym (other d p.1 s))
      ])
    ];
  })
