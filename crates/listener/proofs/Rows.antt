-- The listed calls of a history after one more event.
-- By what the event changes of each row, with the lemmas of `history_frames`.
use Rattle.std.proofs.Common.{◌≡◌, inl, inr, ℕ, Bool, true, false, ◌&&◌, ◌||◌, not, List, [], ◌∷◌, ◌++◌, length, Option, Some, refl, sym, ap, ◌∙◌, arith}
use Rattle.std.specs.Prelude.{map, filter, All, Ok, Err, Result, ◌==◌, if◌then◌else◌, ℤ}
use Rattle.std.proofs.lemmas.Bool.{cases_Bool, cases_eq, eq-eqb, ne_eqb, or_parts, false_from_ne_true, not-true}
use Rattle.std.proofs.lemmas.List.{map-append, append-nil}
use Rattle.std.proofs.lemmas.List.Elements.{All-nil, All-cons, All-filter, All-weaker, All-append, filter_passes}
use Rattle.hist_model.specs.Look.{Name, name_eq, is_task, task_name, is_place}
use Rattle.hist_model.specs.Kinds.{notifies, leaves, closes, has_send_flag, has_send, gave}
use Rattle.hist_model.specs.Calls.{listed, caller, id, fetched, fetches, settled, settles, queue, some_sends, first_sends, is_send, rest_of, unlists, named, puts_to, installs_for, notify_id, answered}
use Rattle.hist_model.specs.Steps.{reply}
use Rattle.hist_model.specs.declared.event.Back.{Back}
use Rattle.hist_model.specs.declared.event.Event.{Event}
use Rattle.hist_model.specs.declared.event.Actor.{Actor}
use Rattle.hist_model.specs.declared.event.Actor.TheVariants.{Task}
use Rattle.hist_model.specs.declared.event.Entered.TheVariants.{Notify}
use Rattle.hist_model.specs.declared.event.What.{What}
use Rattle.hist_model.specs.declared.event.What.TheVariants.{Enter, Recv, Send, AddfdPut, Install, Resume, Deliver, Close}
use Rattle.hist_model.specs.declared.notification.Reply.{Reply}
use Rattle.hist_model.specs.declared.notification.Reply.TheVariants.{Installing}
use Rattle.hist_model.proofs.Look.{event_at-here, event_at-older, name_eq-true, name_eq-refl}
use Rattle.sys_abi.specs.declared.wire.Addfd.{Addfd}
use Rattle.sys_abi.specs.declared.wire.Notif.{Notif}
use Rattle.history_frames.proofs.Listed.{listed-below, listed-here, listed-stays, fetched-new, named-listed, named-is, place-is}
use Rattle.listener.proofs.Queues.{fetched-same, is-place, queue-below, below-rest, sends-older, sends-push, IsCalm, queue-same, queue-put, queue-rest, settled-same, settled-now, reply-same, reply-now, calm-settles, queue-new, settled-new}
use Rattle.listener.specs.State.{Row, new_row, fetch, answer, reply_of, result_reply}
use Rattle.listener.specs.Fold.{places, reply_by, row_at, rows}
use Rattle.listener.specs.Sound.{SendsOnce}
use Rattle.listener.proofs.Lists.{map-same, map-map, map-kept, filter-map, filter-all, filter-none}

abbrev stays : List Event → Event → ℕ → Bool
stays K e c = not (unlists e (caller K c))

-- ---- the places are those of the listed calls

pub places-listed : (K : List Event) → All (λ c. listed K c ≡ true) (places K)
unfolding places
places-listed [] = All-nil (λ c. listed [] c ≡ true)
places-listed (e ∷ K) =
    let P : ℕ → Type 0 = λ c. listed (e ∷ K) c ≡ true in
    All-append P (filter (stays K e) (places K)) _
    (λ k d l. listed-stays e K _ (All-filter (stays K e) (λ c. listed K c ≡ true) (places K) (places-listed K) k d l) (not-true _ (filter_passes (stays K e) (places K) k d l)))
    (elim (cases_Bool (notifies e.what)) [
      | inl b ↦ rw b (All-cons P (length K) [] (listed-here e K ∙ b) (All-nil P))
      | inr b ↦ rw b (All-nil P)
    ])

-- ---- one row

row-new : (e : Event) (K : List Event) → row_at (e ∷ K) (length K) ≡ new_row (notify_id e.what) (task_name e.who)
row-new e K = rw (event_at-here e K, fetched-new e K, settled-new e K, queue-new e K)

abbrev seen : Event → Row → Row
seen e r = record r { fetched = fetches e.what r.id || r.fetched }

-- a row whose answer stays, and whether a request with SEND waits for it
row-same : (e : Event) (K : List Event) (c : ℕ) → listed K c ≡ true → settles K e c ≡ false → some_sends (e ∷ K) (queue (e ∷ K) c) ≡ some_sends K (queue K c) → row_at (e ∷ K) c ≡ seen e (row_at K c)
unfolding fetched
row-same e K c h s q = rw (event_at-older e K c (listed-below K c h), settled-same e K c s, q, reply-same e K c s, h) (grind arith)

row-calm : (e : Event) (K : List Event) (c : ℕ) → listed K c ≡ true → IsCalm K e c → row_at (e ∷ K) c ≡ seen e (row_at K c)
row-calm e K c h i = row-same e K c h (calm-settles e K c i) (rw (queue-same e K c i.no_put i.no_install) (sends-older e K (queue K c) (queue-below K c)))

-- ---- all rows

rows-by : (e : Event) (K : List Event) (f : Row → Row) → All (λ c. row_at (e ∷ K) c ≡ f (row_at K c)) (places K)
    → rows (e ∷ K) ≡ map f (filter (λ r. not (unlists e r.task)) (rows K)) ++ (if notifies e.what then new_row (notify_id e.what) (task_name e.who) ∷ [] else [])
unfolding places rows
rows-by e K f h =
    map-append (row_at (e ∷ K)) (filter (stays K e) (places K)) _
    ∙ rw (
      map-same (row_at (e ∷ K)) (λ c. f (row_at K c)) (filter (stays K e) (places K)) (All-filter (stays K e) (λ c. row_at (e ∷ K) c ≡ f (row_at K c)) (places K) h),
      filter-map (λ (r : Row). not (unlists e r.task)) (row_at K) (places K),
      map-map f (row_at K) (filter (stays K e) (places K)),
    ) (new _)
  where
    new : (xs : List Row) → xs ++ map (row_at (e ∷ K)) (if notifies e.what then length K ∷ [] else []) ≡ xs ++ (if notifies e.what then new_row (notify_id e.what) (task_name e.who) ∷ [] else [])
    new xs = elim (cases_Bool (notifies e.what)) [ inl b ↦ rw (b, row-new e K) refl | inr b ↦ rw b refl ]

-- ---- by events

-- no call comes or goes
pub record IsInner (e : Event) : Type 0 where
  pub no_enter : notifies e.what ≡ false
  pub no_leave : leaves e.what ≡ false
  pub no_close : closes e.what ≡ false

rows-inner : (e : Event) (K : List Event) (f : Row → Row) → IsInner e → All (λ c. row_at (e ∷ K) c ≡ f (row_at K c)) (places K) → rows (e ∷ K) ≡ map f (rows K)
rows-inner e K f i h =
    let n = i.no_enter in let l = i.no_leave in let c = i.no_close in
    rows-by e K f h ∙ rw (n, filter-all (λ (r : Row). not (unlists e r.task)) (rows K) (λ r. rw (l, c))) (append-nil (map f (rows K)))

-- every row is calm
rows-calm : (e : Event) (K : List Event) → ((c : ℕ) → IsCalm K e c) → All (λ c. row_at (e ∷ K) c ≡ seen e (row_at K c)) (places K)
rows-calm e K h = All-weaker (λ c. listed K c ≡ true) (λ c. row_at (e ∷ K) c ≡ seen e (row_at K c)) (λ c l. row-calm e K c l (h c)) (places K) (places-listed K)

pub rows-enter : (e : Event) (K : List Event) (nr : ℤ) (args : List ℕ) (x : ℕ) → e.what ≡ Enter nr args (Notify x) → rows (e ∷ K) ≡ rows K ++ new_row x (task_name e.who) ∷ []
rows-enter e K nr args x q =
    rows-by e K (seen e) (rows-calm e K (λ c. record { no_send = rw q; no_put = rw q; no_install = rw q }))
    ∙ rw (filter-all (λ (r : Row). not (unlists e r.task)) (rows K) (λ r. rw q), q) (rw (map-kept (λ (r : Row). r) (rows K) (λ r. refl)))

pub rows-fetch : (e : Event) (K : List Event) (notif : Notif) → e.what ≡ Recv (Ok notif) → rows (e ∷ K) ≡ map (fetch notif.id) (rows K)
rows-fetch e K notif q =
    rows-inner e K (seen e) (record { no_enter = rw q; no_leave = rw q; no_close = rw q }) (rows-calm e K (λ c. record { no_send = rw q; no_put = rw q; no_install = rw q }))
    ∙ rw q

pub rows-close : (e : Event) (K : List Event) → e.what ≡ Close → rows (e ∷ K) ≡ []
rows-close e K q =
    rows-by e K (seen e) (rows-calm e K (λ c. record { no_send = rw q; no_put = rw q; no_install = rw q }))
    ∙ rw (filter-none (λ (r : Row). not (unlists e r.task)) (rows K) (λ r. rw q), q)

-- the rows of other tasks
pub rows-leave : (e : Event) (K : List Event) (n : Name) → e.who ≡ Task n → leaves e.what ≡ true → rows (e ∷ K) ≡ filter (λ r. not (name_eq n r.task)) (rows K)
rows-leave e K n w q = go e.what refl q
  where
    go : (v : What) → e.what ≡ v → leaves v ≡ true → rows (e ∷ K) ≡ filter (λ r. not (name_eq n r.task)) (rows K)
    go (Resume back) h q =
        rows-by e K (seen e) (rows-calm e K (λ c. record { no_send = rw h; no_put = rw h; no_install = rw h }))
        ∙ rw (h, w) (append-nil _ ∙ map-kept (λ (r : Row). r) _ (λ r. refl))
    go (Deliver s f) h q =
        rows-by e K (seen e) (rows-calm e K (λ c. record { no_send = rw h; no_put = rw h; no_install = rw h }))
        ∙ rw (h, w) (append-nil _ ∙ map-kept (λ (r : Row). r) _ (λ r. refl))
    go v h q = cc

-- ---- answers and requests

-- a call that an id names is the one that has it
abbrev pub Apart : List Event → Type 0
Apart K = (c d : ℕ) → listed K c ≡ true → listed K d ≡ true → id K c ≡ id K d → c ≡ d

named-has : (K : List Event) (x c : ℕ) → Apart K → listed K c ≡ true → is_place (named K x) c ≡ (id K c == x)
named-has K x c a h = elim (cases_eq (id K c) x) [
  | inl q ↦ is-place (named K x) c (named-is K x c h q (λ d l e. a d c l h (e ∙ sym q))) ∙ sym (eq-eqb (id K c) x q)
  | inr q ↦ false_from_ne_true (is_place (named K x) c) (λ z. q (named-listed K x c (place-is (named K x) c z)).1) ∙ sym (ne_eqb (id K c) x q)
]

-- the rows stay but for this one, which has another reply
rows-answer : (e : Event) (K : List Event) (x : ℕ) (y : Option Reply) → IsInner e → ((z : ℕ) → fetches e.what z ≡ false)
    → ((c : ℕ) → listed K c ≡ true → id K c ≡ x → reply_by (settled (e ∷ K) c) (some_sends (e ∷ K) (queue (e ∷ K) c)) (reply (e ∷ K) c) ≡ y)
    → ((c : ℕ) → listed K c ≡ true → (id K c ≡ x → ⊥) → IsCalm K e c) → rows (e ∷ K) ≡ map (answer x y) (rows K)
rows-answer e K x y i f here others = rows-inner e K (answer x y) i (All-weaker (λ c. listed K c ≡ true) (λ c. row_at (e ∷ K) c ≡ answer x y (row_at K c)) one (places K) (places-listed K))
  where
    one : (c : ℕ) → listed K c ≡ true → row_at (e ∷ K) c ≡ answer x y (row_at K c)
    one c h = elim (cases_eq (id K c) x) [
      | inl q ↦ rw (here c h q, event_at-older e K c (listed-below K c h), fetched-same e K c (f (id K c)), eq-eqb (id K c) x q)
      | inr q ↦ row-calm e K c h (others c h q) ∙ rw (f (id K c), ne_eqb (id K c) x q)
    ]

pub rows-send : (e : Event) (K : List Event) (x : ℕ) (back : Back) → Apart K → e.what ≡ Send x back (Ok tt) → rows (e ∷ K) ≡ map (answer x (Some (reply_of back))) (rows K)
rows-send e K x back a q = rows-answer e K x (Some (reply_of back)) (record { no_enter = rw q; no_leave = rw q; no_close = rw q }) (λ z. rw q) here others
  where
    here : (c : ℕ) → listed K c ≡ true → id K c ≡ x → reply_by (settled (e ∷ K) c) (some_sends (e ∷ K) (queue (e ∷ K) c)) (reply (e ∷ K) c) ≡ Some (reply_of back)
    here c h i =
        let s : settles K e c ≡ true = rw (q, named-has K x c a h, eq-eqb (id K c) x i) in
        rw (settled-now e K c s, reply-now e K c s, q)

    others : (c : ℕ) → listed K c ≡ true → (id K c ≡ x → ⊥) → IsCalm K e c
    others c h n = record { no_send = rw (q, named-has K x c a h, ne_eqb (id K c) x n); no_put = rw q; no_install = rw q }

-- a request of a call that isn't answered
pub rows-put : (e : Event) (K : List Event) (a : Addfd) → Apart K → e.what ≡ AddfdPut a (Ok tt) → ((c : ℕ) → named K a.id ≡ Some c → answered K c ≡ false)
    → rows (e ∷ K) ≡ (if has_send_flag a then map (answer a.id (Some Installing)) (rows K) else rows K)
rows-put e K a p q o = elim (cases_Bool (has_send_flag a)) [
  | inl f ↦ rw f (rows-answer e K a.id (Some Installing) inner (λ z. rw q) (λ c h i. let t = (open' c h i).0 in rw (settled-same e K c (rw q), t, pushed c h i, q, f)) others)
  | inr f ↦ rw f (rows-inner e K (seen e) inner (All-weaker (λ c. listed K c ≡ true) (λ c. row_at (e ∷ K) c ≡ seen e (row_at K c)) (plain f) (places K) (places-listed K)) ∙ map-kept (seen e) (rows K) (λ r. rw q))
]
  where
    inner : IsInner e
    inner = record { no_enter = rw q; no_leave = rw q; no_close = rw q }

    put : (c : ℕ) → listed K c ≡ true → puts_to K e.what c ≡ (id K c == a.id)
    put c h = rw q (named-has K a.id c p h)

    others : (c : ℕ) → listed K c ≡ true → (id K c ≡ a.id → ⊥) → IsCalm K e c
    others c h n = record { no_send = rw q; no_put = put c h ∙ ne_eqb (id K c) a.id n; no_install = rw q }

    open' : (c : ℕ) → listed K c ≡ true → id K c ≡ a.id → (settled K c ≡ false) × (some_sends K (queue K c) ≡ false)
    open' c h i = or_parts (settled K c) (some_sends K (queue K c)) (o c (named-is K a.id c h i (λ d l g. p d c l h (g ∙ sym i))))

    pushed : (c : ℕ) → listed K c ≡ true → id K c ≡ a.id → some_sends (e ∷ K) (queue (e ∷ K) c) ≡ has_send e.what
    pushed c h i = let t = (open' c h i).1 in rw (queue-put e K c (put c h ∙ eq-eqb (id K c) a.id i), sends-push e K (queue K c) (queue-below K c), t)

    plain : has_send_flag a ≡ false → (c : ℕ) → listed K c ≡ true → row_at (e ∷ K) c ≡ seen e (row_at K c)
    plain f c h = elim (cases_eq (id K c) a.id) [
      | inl i ↦ row-same e K c h (rw q) (pushed c h i ∙ (rw (q, f) (sym (open' c h i).1)))
      | inr n ↦ row-calm e K c h (others c h n)
    ]

-- ---- installations

pub one-task : (a : Actor) (n m : Name) → is_task a n ≡ true → is_task a m ≡ true → n ≡ m
one-task (Task k) n m h g = sym (name_eq-true k n h) ∙ name_eq-true k m g
one-task a n m h g = cc

and-true : (b : Bool) → (b && true) ≡ b
and-true true = refl
and-true false = refl

and-false : (b : Bool) → (b && false) ≡ false
and-false true = refl
and-false false = refl

-- where the first has it, no other has; where the first hasn't, it makes no difference
rest-sends : (K : List Event) (rs : List ℕ) → SendsOnce K rs → some_sends K (rest_of rs) ≡ (some_sends K rs && not (first_sends K rs))
rest-sends K [] h = refl
rest-sends K (r ∷ rs) h = elim (cases_Bool (is_send K r)) [ inl b ↦ rw (b, h.0 b) | inr b ↦ rw b (sym (and-true (some_sends K rs))) ]

first-some : (K : List Event) (rs : List ℕ) → first_sends K rs ≡ true → some_sends K rs ≡ true
first-some K [] q = cc
first-some K (r ∷ rs) q = rw q

-- the oldest request of this call, which isn't settled, is installed by its task
pub rows-install : (e : Event) (K : List Event) (c : ℕ) (a : Result ℕ ℕ) → Apart K → ((d : ℕ) → listed K d ≡ true → caller K d ≡ caller K c → d ≡ c) → SendsOnce K (queue K c)
    → listed K c ≡ true → settled K c ≡ false → e.who ≡ Task (caller K c) → e.what ≡ Install a
    → rows (e ∷ K) ≡ (if first_sends K (queue K c) then map (answer (id K c) (result_reply a)) (rows K) else rows K)
rows-install e K c a p alone once l u w q = elim (cases_Bool (first_sends K (queue K c))) [
  | inl f ↦ rw f (rows-answer e K (id K c) (result_reply a) inner (λ z. rw q) (λ d h i. answers f a q d (p d c h l i)) (λ d h n. others d h (λ z. n (ap (id K) z))))
  | inr f ↦ rw f (rows-inner e K (seen e) inner (All-weaker (λ c. listed K c ≡ true) (λ c. row_at (e ∷ K) c ≡ seen e (row_at K c)) (plain f) (places K) (places-listed K)) ∙ map-kept (seen e) (rows K) (λ r. rw q))
]
  where
    inner : IsInner e
    inner = record { no_enter = rw q; no_leave = rw q; no_close = rw q }

    installs : installs_for K e c ≡ true
    installs = rw (q, w, l, name_eq-refl (caller K c))

    others : (d : ℕ) → listed K d ≡ true → (d ≡ c → ⊥) → IsCalm K e d
    others d h n = record { no_send = rw q; no_put = rw q; no_install = false_from_ne_true (installs_for K e d) (λ z. n (alone d h (one-task e.who (caller K d) (caller K c) (grind arith) (rw w (name_eq-refl (caller K c)))))) }

    rest : some_sends (e ∷ K) (queue (e ∷ K) c) ≡ (some_sends K (queue K c) && not (first_sends K (queue K c)))
    rest = rw (queue-rest e K c (rw q) installs) (sends-older e K (rest_of (queue K c)) (below-rest (length K) (queue K c) (queue-below K c)) ∙ rest-sends K (queue K c) once)

    settles-is : settles K e c ≡ (gave e.what && first_sends K (queue K c))
    settles-is = rw (installs, q)

    answers : first_sends K (queue K c) ≡ true → (a : Result ℕ ℕ) → e.what ≡ Install a → (d : ℕ) → d ≡ c → reply_by (settled (e ∷ K) d) (some_sends (e ∷ K) (queue (e ∷ K) d)) (reply (e ∷ K) d) ≡ result_reply a
    answers f (Ok n) q d z = let s = settles-is ∙ rw (q, f) in rw (z, settled-now e K c s, reply-now e K c s, q)
    answers f (Err x) q d z = let s = settles-is ∙ rw q in rw (z, settled-same e K c s, u, rest, f, first-some K (queue K c) f)

    plain : first_sends K (queue K c) ≡ false → (d : ℕ) → listed K d ≡ true → row_at (e ∷ K) d ≡ seen e (row_at K d)
    plain f d h = elim (cases_eq d c) [
      | inl z ↦ rw z (row-same e K c l (settles-is ∙ rw f (and-false (gave e.what))) (rest ∙ rw f (and-true (some_sends K (queue K c)))))
      | inr n ↦ row-calm e K d h (others d h n)
    ]

-- no row changes
pub rows-other : (e : Event) (K : List Event) → IsInner e → ((z : ℕ) → fetches e.what z ≡ false) → ((c : ℕ) → IsCalm K e c) → rows (e ∷ K) ≡ rows K
rows-other e K i f h = rows-inner e K (seen e) i (rows-calm e K h) ∙ map-kept (seen e) (rows K) (λ r. rw (f r.id))
