-- What receives, answers, requests for descriptors and installations make of the calls that are kept.
-- Each moves at most one call: that which its id names, or that of its task.
use Rattle.std.proofs.Common.{◌≡◌, ℕ, ◌<◌, Bool, true, false, ◌&&◌, ◌||◌, List, [], ◌∷◌, ◌++◌, length, refl, sym, ap, ◌∙◌, inl, inr, Option, Some, None}
use Rattle.std.specs.Prelude.{is_some, Ok, Result, ◌==◌}
use Rattle.std.proofs.Math.ListN.{set}
use Rattle.std.proofs.lemmas.Bool.{and_from, and_parts, both_ways, cases_Bool, eq-eqb, eqb-true}
use Rattle.broker_verdict.specs.Seats.{is_effect}
use Rattle.hist_model.specs.Calls.{caller, fetched, fetches, first_sends, id, installs_for, listed, named, puts_to, queue, rest_of, settled, settles}
use Rattle.hist_model.specs.Kinds.{gave, has_send_flag, notifies}
use Rattle.hist_model.specs.Laws.{fetcher, worker_of}
use Rattle.hist_model.specs.Legal.{system_of}
use Rattle.hist_model.specs.Look.{ev, is_place, Name, name_eq}
use Rattle.hist_model.specs.Signals.{call_of}
use Rattle.hist_model.specs.Steps.{IsOfKernel}
use Rattle.hist_model.specs.declared.event.Actor.TheVariants.{Task, Worker}
use Rattle.hist_model.specs.declared.event.Back.{Back}
use Rattle.hist_model.specs.declared.event.Event.{Event}
use Rattle.hist_model.specs.declared.event.What.TheVariants.{AddfdPut, Install, Recv, Send}
use Rattle.hist_model.specs.declared.script.Script.{Script}
use Rattle.hist_model.proofs.Look.{event_at-here, name_eq-refl, name_eq-true, oldest-found}
use Rattle.history_frames.specs.Ordinals.{count_of, nth_of}
use Rattle.history_frames.proofs.Listed.{listed-below, named-listed}
use Rattle.history_frames.proofs.Ordinals.{place-below, place-new}
use Rattle.mediation.proofs.KernelCalls.{ids_differ}
use Rattle.mediation.proofs.KernelTasks.{waits-in-call}
use Rattle.sys_abi.specs.declared.wire.Addfd.{Addfd}
use Rattle.sys_abi.specs.declared.wire.Notif.{Notif}
use Rattle.judge_pass.specs.Stands.{AreQueued, IsCall, IsHistory}
use Rattle.judge_pass.specs.Tables.{behind_first, first_sends as first_queued_sends}
use Rattle.judge_pass.specs.declared.calls.Call.{Call}
use Rattle.judge_pass.specs.declared.calls.Queued.{Queued}
use Rattle.judge_pass.proofs.CallRows.{are-queued-older, call-row, fetched-same, listed-same, LeavesCall, queued-more, queue-same, settled-same, settles-none}
use Rattle.judge_pass.proofs.CallEvents.{calls-moved, calls-same, unlisted-none}
use Rattle.judge_pass.proofs.NamedCalls.{AreCalls}

-- the place of a call with another one than the id names
other-named : (o : Option ℕ) (c d : ℕ) → o ≡ Some c → (d ≡ c → ⊥) → is_place o d ≡ false
other-named None c d q a = cc
other-named (Some b) c d q a = let e : b ≡ c = cc in elim (cases_Bool (b == d)) [ inr f ↦ f | inl t ↦ absurd (a (sym (eqb-true b d t) ∙ e)) ]

none-named : (o : Option ℕ) (d : ℕ) → o ≡ None → is_place o d ≡ false
none-named None d q = refl
none-named (Some c) d q = cc

some-named : (K : List Event) (x d : ℕ) → listed K d ≡ true → id K d ≡ x → named K x ≡ None → ⊥
unfolding named
some-named K x d on q none = let f = oldest-found (λ c. listed K c && (id K c == x)) (length K) d (listed-below K d on) (and_from (listed K d) (id K d == x) on (eq-eqb (id K d) x q)) in cc (f.1, none)

fetched-now : (e : Event) (K : List Event) (c w : ℕ) → (fetches e.what (id K c) && listed K c) ≡ true → worker_of e.who ≡ Some w → (fetched (e ∷ K) c ≡ true) × (fetcher (e ∷ K) c ≡ Some w)
unfolding fetched fetcher
fetched-now e K c w h q = (rw h refl, rw h q)

settled-now : (e : Event) (K : List Event) (c : ℕ) → settles K e c ≡ true → settled (e ∷ K) c ≡ true
unfolding settled
settled-now e K c h = rw h refl

settled-more : (e : Event) (K : List Event) (c : ℕ) → settled (e ∷ K) c ≡ (settles K e c || settled K c)
unfolding settled
settled-more e K c = refl

queue-put : (e : Event) (K : List Event) (c : ℕ) → puts_to K e.what c ≡ true → queue (e ∷ K) c ≡ queue K c ++ length K ∷ []
unfolding queue
queue-put e K c h = rw h refl

queue-installed : (e : Event) (K : List Event) (c : ℕ) → puts_to K e.what c ≡ false → installs_for K e c ≡ true → queue (e ∷ K) c ≡ rest_of (queue K c)
unfolding queue
queue-installed e K c p h = rw (p, h) refl

-- the first request, and those behind it
firsts : (K : List Event) (rs : List ℕ) (qs : List Queued) → AreQueued K rs qs → first_sends K rs ≡ first_queued_sends qs
unfolding AreQueued
firsts K [] [] h = refl
firsts K [] (q ∷ qs) h = absurd h
firsts K (r ∷ rs) [] h = absurd h
firsts K (r ∷ rs) (q ∷ qs) h = h.0.send_is

behind : (K : List Event) (rs : List ℕ) (qs : List Queued) → AreQueued K rs qs → AreQueued K (rest_of rs) (behind_first qs)
unfolding AreQueued
behind K [] [] h = tt
behind K [] (q ∷ qs) h = absurd h
behind K (r ∷ rs) [] h = absurd h
behind K (r ∷ rs) (q ∷ qs) h = h.1

swapped : (n m : Name) (b : Bool) → (b && name_eq m n) ≡ false → (name_eq n m && b) ≡ false
swapped n m false h = elim (cases_Bool (name_eq n m)) [ inl t ↦ rw t refl | inr f ↦ rw f refl ]
swapped n m true h = elim (cases_Bool (name_eq n m)) [
  | inr f ↦ rw f refl
  | inl t ↦ let k = name_eq-true n m t in absurd (both_ways (name_eq m n) h (rw (← k) (name_eq-refl n)))
]

module _ (S : Script) (K : List Event) (rows : List Call) (all : AreCalls S K rows) where
  -- ---- receives

  module _ (w : ℕ) (notif : Notif) where
    abbrev received : Event
    received = ev (Worker w) (Recv (Ok notif))

    unreceived : (d : ℕ) → d < length K → ((notif.id == id K d) && listed K d) ≡ false → LeavesCall received K d
    unreceived d l h = record { listed_same = listed-same received K d l refl; unsettled = refl; unfetched = h; queue_same = queue-same received K d refl refl }

    pub none-received : named K notif.id ≡ None → AreCalls S (received ∷ K) rows
    none-received none = calls-same S received K rows all refl (λ d is l. unreceived d l (unnamed d))
      where
        unnamed : (d : ℕ) → ((notif.id == id K d) && listed K d) ≡ false
        unnamed d = elim (cases_Bool ((notif.id == id K d) && listed K d)) [
          | inr q ↦ q
          | inl q ↦
              let p = and_parts (notif.id == id K d) (listed K d) q in
              absurd (some-named K notif.id d p.1 (sym (eqb-true notif.id (id K d) p.0)) none)
        ]

    pub one-received : (history : IsHistory S K) (k c : ℕ) (row : Call) → named K notif.id ≡ Some c → nth_of notifies K k ≡ Some c → IsCall S K k row → w < 17
        → (rows' : List Call) → rows' ≡ set rows k (record row { fetcher = Some w }) → AreCalls S (received ∷ K) rows'
    one-received history k c row at number now fits rows' q =
        calls-moved S received K rows all refl k c (record row { fetcher = Some w }) number
        (call-row S received K k row (record row { fetcher = Some w }) now refl refl refl (record {
          listed_is = listed-same received K row.place l refl ∙ now.listed_is;
          settled_is = settled-same received K row.place refl ∙ now.settled_is;
          fetched_is = (fetched-now received K row.place w mine refl).0;
          fetcher_is = (fetched-now received K row.place w mine refl).1;
          fetcher_seat = fits;
          queue_is = rw (queue-same received K row.place refl refl) (are-queued-older received K (queue K row.place) row.queue.items now.queue_is);
        }))
        (λ d is l a. unreceived d l (apart d a)) rows' q
      where
        place : row.place ≡ c
        place = cc (now.place_is, number)

        l : row.place < length K
        l = (place-below notifies K k row.place now.place_is).1

        p : (listed K c ≡ true) × (id K c ≡ notif.id)
        p = named-listed K notif.id c at

        mine : ((notif.id == id K row.place) && listed K row.place) ≡ true
        mine = rw (place, p.0, p.1, eq-eqb notif.id notif.id refl) refl

        apart : (d : ℕ) → (d ≡ c → ⊥) → ((notif.id == id K d) && listed K d) ≡ false
        apart d a = elim (cases_Bool ((notif.id == id K d) && listed K d)) [
          | inr q ↦ q
          | inl q ↦
              let y = and_parts (notif.id == id K d) (listed K d) q in
              absurd (a (ids_differ (system_of S) K history.of_kernel history.fits d c y.1 p.0 (sym (eqb-true notif.id (id K d) y.0) ∙ sym p.1)))
        ]

  -- ---- answers

  module _ (w x : ℕ) (back : Back) where
    abbrev sent : Event
    sent = ev (Worker w) (Send x back (Ok tt))

    unanswered : (d : ℕ) → d < length K → is_place (named K x) d ≡ false → LeavesCall sent K d
    unanswered d l h = record { listed_same = listed-same sent K d l refl; unsettled = rw h refl; unfetched = refl; queue_same = queue-same sent K d refl refl }

    pub none-sent : named K x ≡ None → AreCalls S (sent ∷ K) rows
    none-sent none = calls-same S sent K rows all refl (λ d is l. unanswered d l (none-named (named K x) d none))

    pub one-sent : (k c : ℕ) (row : Call) → named K x ≡ Some c → nth_of notifies K k ≡ Some c → IsCall S K k row
        → (rows' : List Call) → rows' ≡ set rows k (record row { is_settled = true }) → AreCalls S (sent ∷ K) rows'
    one-sent k c row at number now rows' q =
        calls-moved S sent K rows all refl k c (record row { is_settled = true }) number
        (call-row S sent K k row (record row { is_settled = true }) now refl refl refl (record {
          listed_is = listed-same sent K row.place l refl ∙ now.listed_is;
          settled_is = settled-now sent K row.place mine;
          fetched_is = (fetched-same sent K row.place refl).0 ∙ now.fetched_is;
          fetcher_is = (fetched-same sent K row.place refl).1 ∙ now.fetcher_is;
          fetcher_seat = now.fetcher_seat;
          queue_is = rw (queue-same sent K row.place refl refl) (are-queued-older sent K (queue K row.place) row.queue.items now.queue_is);
        }))
        (λ d is m a. unanswered d m (other-named (named K x) c d at a)) rows' q
      where
        place : row.place ≡ c
        place = cc (now.place_is, number)

        l : row.place < length K
        l = (place-below notifies K k row.place now.place_is).1

        mine : settles K sent row.place ≡ true
        mine = rw (place, at, eq-eqb c c refl) refl

  -- ---- requests for descriptors

  module _ (w : ℕ) (asked : Addfd) where
    abbrev put : Event
    put = ev (Worker w) (AddfdPut asked (Ok tt))

    unasked : (d : ℕ) → d < length K → is_place (named K asked.id) d ≡ false → LeavesCall put K d
    unasked d l h = record { listed_same = listed-same put K d l refl; unsettled = refl; unfetched = refl; queue_same = queue-same put K d h refl }

    pub none-put : named K asked.id ≡ None → AreCalls S (put ∷ K) rows
    none-put none = calls-same S put K rows all refl (λ d is l. unasked d l (none-named (named K asked.id) d none))

    pub one-put : (k c : ℕ) (row new : Call) → named K asked.id ≡ Some c → nth_of notifies K k ≡ Some c → IsCall S K k row
        → new.place ≡ row.place → new.called ≡ row.called → new.caller ≡ row.caller → new.is_listed ≡ row.is_listed → new.is_settled ≡ row.is_settled → new.fetcher ≡ row.fetcher
        → new.queue.items ≡ row.queue.items ++ record { effect = count_of is_effect K; has_send = has_send_flag asked } ∷ []
        → (rows' : List Call) → rows' ≡ set rows k new → AreCalls S (put ∷ K) rows'
    one-put k c row new at number now p1 p2 p3 p4 p5 p6 items rows' q =
        calls-moved S put K rows all refl k c new number
        (call-row S put K k row new now p1 p2 p3 (record {
          listed_is = listed-same put K row.place l refl ∙ (now.listed_is ∙ sym p4);
          settled_is = settled-same put K row.place refl ∙ (now.settled_is ∙ sym p5);
          fetched_is = (fetched-same put K row.place refl).0 ∙ rw p6 now.fetched_is;
          fetcher_is = (fetched-same put K row.place refl).1 ∙ (now.fetcher_is ∙ sym p6);
          fetcher_seat = rw p6 now.fetcher_seat;
          queue_is = rw (queue-put put K row.place mine, items)
              (queued-more (put ∷ K) (queue K row.place) row.queue.items (length K) (record { effect = count_of is_effect K; has_send = has_send_flag asked })
              (are-queued-older put K (queue K row.place) row.queue.items now.queue_is)
              (record { place_is = place-new is_effect put K refl; send_is = rw (event_at-here put K) refl }));
        }))
        (λ d is m a. unasked d m (other-named (named K asked.id) c d at a)) rows' q
      where
        place : row.place ≡ c
        place = cc (now.place_is, number)

        l : row.place < length K
        l = (place-below notifies K k row.place now.place_is).1

        mine : puts_to K put.what row.place ≡ true
        mine = rw (place, at, eq-eqb c c refl) refl

  -- ---- installations

  module _ (n : Name) (answer : Result ℕ ℕ) (history : IsOfKernel (system_of S) K) where
    abbrev installing : Event
    installing = ev (Task n) (Install answer)

    pub not-installed : (d : ℕ) → (call_of K n ≡ Some d → ⊥) → installs_for K installing d ≡ false
    not-installed d a = swapped n (caller K d) (listed K d) (unlisted-none S K n d history a)

    uninstalled : (d : ℕ) → d < length K → (call_of K n ≡ Some d → ⊥) → LeavesCall installing K d
    uninstalled d l a =
        let i = not-installed d a in
        record { listed_same = listed-same installing K d l refl; unsettled = settles-none installing K d refl i; unfetched = refl; queue_same = queue-same installing K d refl i }

    pub one-installed : (k c : ℕ) (row new : Call) → call_of K n ≡ Some c → nth_of notifies K k ≡ Some c → IsCall S K k row
        → new.queue.items ≡ behind_first row.queue.items → new.is_settled ≡ ((gave (Install answer) && first_queued_sends row.queue.items) || row.is_settled)
        → new ≡ record row { queue = new.queue; is_settled = new.is_settled }
        → (rows' : List Call) → rows' ≡ set rows k new → AreCalls S (installing ∷ K) rows'
    one-installed k c row new at number now items settling rest rows' q =
        calls-moved S installing K rows all refl k c new number
        (call-row S installing K k row new now (ap (λ (x : Call). x.place) rest) (ap (λ (x : Call). x.called) rest) (ap (λ (x : Call). x.caller) rest) (record {
          listed_is = listed-same installing K row.place l refl ∙ (now.listed_is ∙ sym (ap (λ (x : Call). x.is_listed) rest));
          settled_is = settled-more installing K row.place ∙ rw (mine, settling, firsts K (queue K row.place) row.queue.items now.queue_is, now.settled_is) refl;
          fetched_is = (fetched-same installing K row.place refl).0 ∙ (now.fetched_is ∙ ap (λ (x : Call). is_some x.fetcher) (sym rest));
          fetcher_is = (fetched-same installing K row.place refl).1 ∙ (now.fetcher_is ∙ ap (λ (x : Call). x.fetcher) (sym rest));
          fetcher_seat = rw (ap (λ (x : Call). x.fetcher) rest) now.fetcher_seat;
          queue_is = rw (queue-installed installing K row.place refl mine, items)
              (behind (installing ∷ K) (queue K row.place) row.queue.items (are-queued-older installing K (queue K row.place) row.queue.items now.queue_is));
        }))
        (λ d is m a. uninstalled d m (λ z. a (cc (at, z)))) rows' q
      where
        place : row.place ≡ c
        place = cc (now.place_is, number)

        l : row.place < length K
        l = (place-below notifies K k row.place now.place_is).1

        h : (listed K c ≡ true) × (caller K c ≡ n)
        h = waits-in-call K n c at

        mine : installs_for K installing row.place ≡ true
        mine = rw (place, h.0, h.1, name_eq-refl n) refl
