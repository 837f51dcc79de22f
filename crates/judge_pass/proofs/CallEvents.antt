-- What events make of the calls that are kept.
-- Each moves at most one call: that of its task, or that which its id names.
use Rattle.std.proofs.Common.{◌≡◌, ℕ, ◌+◌, ◌%◌, ◌^◌, ◌<◌, ◌≤◌, Bool, true, false, ◌&&◌, ◌||◌, not, List, [], ◌∷◌, ◌++◌, length, refl, sym, ap, ◌∙◌, arith, inl, inr, Some, None}
use Rattle.std.specs.Prelude.{get_or}
use Rattle.std.proofs.Math.ListN.{set}
use Rattle.std.proofs.lemmas.Bool.{and_parts, both_ways, cases_Bool}
use Rattle.std.proofs.lemmas.List.{length-append, length-set}
use Rattle.hist_model.specs.Calls.{answers, caller, calls, fetches, id, installs_for, is_call, listed, notify_id, puts_to}
use Rattle.hist_model.specs.Kinds.{closes, leaves, makes, notifies}
use Rattle.hist_model.specs.Laws.{fetcher}
use Rattle.hist_model.specs.Legal.{system_of}
use Rattle.hist_model.specs.Look.{Name, name_eq, task_name}
use Rattle.hist_model.specs.Signals.{call_of}
use Rattle.hist_model.specs.Steps.{entered, IsOfKernel, number_entered}
use Rattle.hist_model.specs.declared.event.Actor.{Actor}
use Rattle.hist_model.specs.declared.event.Actor.TheVariants.{Task}
use Rattle.hist_model.specs.declared.event.Event.{Event}
use Rattle.hist_model.specs.declared.event.What.{What}
use Rattle.hist_model.specs.declared.script.Script.{Script}
use Rattle.hist_model.proofs.Look.{event_at-here, event_at-older, name_eq-refl, name_eq-true}
use Rattle.history_frames.specs.Ordinals.{count_of, nth_of, task_name_of, tasks_made}
use Rattle.history_frames.proofs.Listed.{fetched-new, listed-below, listed-here, listed-older}
use Rattle.history_frames.proofs.Ordinals.{made-more, made-same, place-below, place-cases, place-new, place-one}
use Rattle.mediation.proofs.KernelRows.{kernel-row-of, KernelRow}
use Rattle.mediation.proofs.KernelTasks.{waits-here, waits-in-call}
use Rattle.listener.proofs.Counts.{calls-count}
use Rattle.listener.proofs.Queues.{queue-above, settled-new}
use Rattle.tasks.proofs.Named.{name-kept}
use Rattle.judge_pass.specs.Stands.{AreQueued, IsCall, IsHistory}
use Rattle.judge_pass.specs.declared.calls.Call.{Call}
use Rattle.judge_pass.proofs.CallRows.{call-row, fetched-same, now-still, call-row-kept, LeavesCall, moves_calls, queue-same, quiet-call, quiet-fetch, quiet-install, quiet-put, settles-none}
use Rattle.judge_pass.proofs.NamedCalls.{AreCalls}
use Rattle.judge_pass.proofs.Rows.{count-least, rows-push, rows-set}

-- a call with a number is one
pub nth-is_call : (K : List Event) (n c : ℕ) → nth_of notifies K n ≡ Some c → is_call K c ≡ true
nth-is_call [] n c h = let l = place-below notifies [] n c h in absurd (omega (arith, l.1))
nth-is_call (e ∷ K) n c h = let ih = nth-is_call K n c in elim (place-cases notifies e K n c h) [
  | inl x ↦ rw (← x.2, event_at-here) x.0
  | inr x ↦ let l = place-below notifies K n c x in rw (event_at-older e K c l.1) (ih x)
]

-- ---- one call at most

module _ (S : Script) (e : Event) (K : List Event) (rows : List Call) (all : AreCalls S K rows) where
  -- no call is entered, and none is moved
  pub calls-same : notifies e.what ≡ false → ((c : ℕ) → is_call K c ≡ true → c < length K → LeavesCall e K c) → AreCalls S (e ∷ K) rows
  calls-same f leave =
      let m = made-same notifies e K f in
      record {
        number = all.number ∙ sym m;
        each = λ n d l.
            let b : n < count_of notifies K = rw m at l in
            let h = all.each n d b in
            let p = place-below notifies K n (get_or rows n d).place h.place_is in
            call-row-kept S e K n (get_or rows n d) h (leave (get_or rows n d).place (nth-is_call K n (get_or rows n d).place h.place_is) p.1);
      }

  -- no call is entered, and one is moved
  pub calls-moved : notifies e.what ≡ false → (k c : ℕ) (new : Call) → nth_of notifies K k ≡ Some c → IsCall S (e ∷ K) k new → ((d : ℕ) → is_call K d ≡ true → d < length K → (d ≡ c → ⊥) → LeavesCall e K d)
      → (rows' : List Call) → rows' ≡ set rows k new → AreCalls S (e ∷ K) rows'
  calls-moved f k c new at now leave rows' q =
      let m = made-same notifies e K f in
      record {
        number = rw q (length-set rows k new) ∙ (all.number ∙ sym m);
        each = λ n d l.
            let b : n < length rows = omega (arith, l, m, all.number) in
            rows-set (IsCall S (e ∷ K)) rows rows' k new q (λ i x il a. other i x (omega (arith, il, all.number)) a) now n d b;
      }
    where
      other : (i : ℕ) (x : Call) → i < count_of notifies K → (i ≡ k → ⊥) → IsCall S (e ∷ K) i (get_or rows i x)
      other i x l a =
          let h = all.each i x l in
          let p = place-below notifies K i (get_or rows i x).place h.place_is in
          call-row-kept S e K i (get_or rows i x) h
          (leave (get_or rows i x).place (nth-is_call K i (get_or rows i x).place h.place_is) p.1
          (λ z. a (place-one notifies K i k c (h.place_is ∙ ap (λ (y : ℕ). Some y) z) at)))

-- ---- a call is entered

fetcher-above : (K : List Event) (c : ℕ) → length K ≤ c → fetcher K c ≡ None
unfolding fetcher
fetcher-above [] c l = refl
fetcher-above (e ∷ K) c l =
    let ih = fetcher-above K c (omega (arith, l)) in
    elim (cases_Bool (fetches e.what (id K c) && listed K c)) [
      | inl q ↦ let p = listed-below K c (and_parts (fetches e.what (id K c)) (listed K c) q).1 in absurd (omega (arith, p, l))
      | inr q ↦ rw q ih
    ]

entering-quiet : (w : What) → notifies w ≡ true → moves_calls w ≡ false
entering-quiet w h = grind arith

-- the entry's id is the next one
entry-id : (S : Script) (K : List Event) (a : Actor) (w : What) → KernelRow (system_of S) K a w → notifies w ≡ true → notify_id w ≡ (S.firstid + calls K) % 2 ^ 64
entry-id S K a w r h = grind arith

pub calls-entered : (S : Script) (e : Event) (K : List Event) (rows : List Call) → AreCalls S K rows → IsHistory S (e ∷ K) → notifies e.what ≡ true → (new : Call) (o : ℕ)
    → o < tasks_made K → task_name_of K o ≡ task_name e.who → new.place ≡ length K → new.caller ≡ o → new.called.id ≡ notify_id e.what → new.called.nr ≡ number_entered e.what → new.called.args ≡ entered e.what
    → new.is_listed ≡ true → new.is_settled ≡ false → new.fetcher ≡ None → new.queue.items ≡ []
    → (rows' : List Call) → rows' ≡ rows ++ new ∷ [] → AreCalls S (e ∷ K) rows'
unfolding AreQueued
calls-entered S e K rows all history h new o made name place caller_is number_is nr args on unsettled unfetched queue_is rows' q =
    let m = made-more notifies e K h in
    let old = λ (n : ℕ) (d : Call) (l : n < length rows).
    let x = all.each n d (omega (arith, l, all.number)) in
    let p = place-below notifies K n (get_or rows n d).place x.place_is in
    call-row-kept S e K n (get_or rows n d) x (quiet-call e K (get_or rows n d).place p.1 (entering-quiet e.what h)) in
    record {
      number = rw q (length-append rows (new ∷ [])) ∙ (ap (λ (n : ℕ). n + 1) all.number ∙ sym m);
      each = λ n d l. rows-push (IsCall S (e ∷ K)) rows rows' new q old here n d (omega (arith, l, m, all.number));
    }
  where
    here : IsCall S (e ∷ K) (length rows) new
    here =
        let at = event_at-here e K in
        let row = kernel-row-of (system_of S) K e history.of_kernel.0 in
        let less = count-least makes e K in
        record {
          place_is = rw (all.number, place) (place-new notifies e K h);
          called = rw place (record { id_is = rw at (sym number_is); nr_is = rw at (sym nr); args_are = rw at (sym args) });
          id_is = rw number_is (entry-id S K e.who e.what row h ∙ ap (λ (n : ℕ). (S.firstid + n) % 2 ^ 64) (sym (calls-count K) ∙ sym all.number));
          caller_is = rw (place, caller_is, at) (sym name ∙ sym (name-kept e K o made));
          caller_made = rw caller_is (omega (arith, made, less));
          listed_is = rw (place, on) (listed-here e K ∙ h);
          settled_is = rw (place, unsettled) (settled-new e K);
          fetched_is = rw (place, unfetched) (fetched-new e K);
          fetcher_is = rw (place, unfetched) ((fetched-same e K (length K) (rw (quiet-fetch K e.who e.what (entering-quiet e.what h) (id K (length K))) refl)).1 ∙ fetcher-above K (length K) (omega arith));
          fetcher_seat = rw unfetched tt;
          queue_is = rw (place, queue_is) (rw (queue-same e K (length K) (quiet-put K e.who e.what (entering-quiet e.what h) (length K)) (quiet-install K e.who e.what (entering-quiet e.what h) (length K)), queue-above K (length K) (omega arith)) tt);
        }

-- ---- a call is left

leaving : (K : List Event) (a : Actor) (w : What) → leaves w ≡ true
    → ((c : ℕ) → answers K w c ≡ false) × ((c : ℕ) → puts_to K w c ≡ false) × ((x : ℕ) → fetches w x ≡ false) × ((c : ℕ) → installs_for K (record { who = a; what = w }) c ≡ false) × (closes w ≡ false) × (notifies w ≡ false)
leaving K a w h = (λ c. grind arith, λ c. grind arith, λ x. grind arith, λ c. grind arith, grind arith, grind arith)

-- no listed call of the task
pub unlisted-none : (S : Script) (K : List Event) (n : Name) (c : ℕ) → IsOfKernel (system_of S) K → (call_of K n ≡ Some c → ⊥) → (listed K c && name_eq (caller K c) n) ≡ false
unlisted-none S K n c history a = elim (cases_Bool (listed K c && name_eq (caller K c) n)) [
  | inr q ↦ q
  | inl q ↦
      let p = and_parts (listed K c) (name_eq (caller K c) n) q in
      absurd (a (rw (← name_eq-true (caller K c) n p.1) (waits-here (system_of S) K c history p.0)))
]

-- a call that isn't the task's stays as it was
pub other-left : (S : Script) (e : Event) (K : List Event) (n : Name) (c : ℕ) → IsOfKernel (system_of S) K → e.who ≡ Task n → leaves e.what ≡ true → c < length K → (call_of K n ≡ Some c → ⊥) → LeavesCall e K c
other-left S e K n c history who h l a =
    let q = leaving K e.who e.what h in
    record {
      listed_same = listed-older e K c l ∙ rw (q.4, h, who) (same (listed K c) (name_eq n (caller K c)) (other (unlisted-none S K n c history a)));
      unsettled = settles-none e K c (q.0 c) (q.3 c);
      unfetched = rw (q.2 (id K c)) refl;
      queue_same = queue-same e K c (q.1 c) (q.3 c);
    }
  where
    same : (a b : Bool) → (a && b) ≡ false → (a && not b) ≡ a
    same a b z = grind arith

    swapped : name_eq (caller K c) n ≡ name_eq n (caller K c)
    swapped = elim (cases_Bool (name_eq (caller K c) n)) [
      | inl t ↦ let k = name_eq-true (caller K c) n t in rw k refl
      | inr f ↦ elim (cases_Bool (name_eq n (caller K c))) [
        | inr g ↦ f ∙ sym g
        | inl t ↦ let k = name_eq-true n (caller K c) t in absurd (both_ways (name_eq (caller K c) n) f (rw (← k) (name_eq-refl n)))
      ]
    ]

    other : (listed K c && name_eq (caller K c) n) ≡ false → (listed K c && name_eq n (caller K c)) ≡ false
    other z = rw (← swapped) z

pub calls-outside : (S : Script) (e : Event) (K : List Event) (rows : List Call) (n : Name) → AreCalls S K rows → IsOfKernel (system_of S) K → e.who ≡ Task n → leaves e.what ≡ true → call_of K n ≡ None → AreCalls S (e ∷ K) rows
calls-outside S e K rows n all history who h none =
    calls-same S e K rows all (leaving K e.who e.what h).5 (λ c is l. other-left S e K n c history who h l (λ z. cc (none, z)))

never-left : (a b : Bool) → (b && not (a || true)) ≡ false
never-left true true = refl
never-left true false = refl
never-left false true = refl
never-left false false = refl

pub calls-left : (S : Script) (e : Event) (K : List Event) (rows : List Call) (n : Name) (k c : ℕ) (row : Call) → AreCalls S K rows → IsOfKernel (system_of S) K → e.who ≡ Task n → leaves e.what ≡ true
    → call_of K n ≡ Some c → nth_of notifies K k ≡ Some c → IsCall S K k row → (rows' : List Call) → rows' ≡ set rows k (record row { is_listed = false }) → AreCalls S (e ∷ K) rows'
calls-left S e K rows n k c row all history who h at number now rows' q =
    let z = leaving K e.who e.what h in
    calls-moved S e K rows all z.5 k c (record row { is_listed = false }) number
    (call-row S e K k row (record row { is_listed = false }) now refl refl refl
    (now-still S e K k row false now (settles-none e K row.place (z.0 row.place) (z.3 row.place)) (rw (z.2 (id K row.place)) refl) (queue-same e K row.place (z.1 row.place) (z.3 row.place)) gone))
    (λ d is l a. other-left S e K n d history who h l (λ y. a (cc (at, y)))) rows' q
  where
    place : row.place ≡ c
    place = cc (now.place_is, number)

    w : (listed K c ≡ true) × (caller K c ≡ n)
    w = waits-in-call K n c at

    gone : listed (e ∷ K) row.place ≡ false
    gone =
        let l = (place-below notifies K k c number).1 in
        rw (place, listed-older e K c l, h, who, w.1, name_eq-refl n) (never-left (closes e.what) (listed K c))
