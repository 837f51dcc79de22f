-- What is kept of a call, when one more event comes.
-- By what the event leaves of the look-backs for the call's place.
use Rattle.std.proofs.Common.{◌≡◌, ℕ, ◌<◌, Bool, true, false, ◌&&◌, ◌||◌, List, [], ◌∷◌, ◌++◌, length, refl, sym, ◌∙◌, arith}
use Rattle.std.specs.Prelude.{is_some, Ok}
use Rattle.broker_verdict.specs.Seats.{is_effect}
use Rattle.hist_model.specs.Calls.{answers, caller, fetched, fetches, id, installs_for, listed, puts_to, queue, settled, settles, unlists}
use Rattle.hist_model.specs.Kinds.{closes, is_install, leaves, makes, notifies}
use Rattle.hist_model.specs.Laws.{fetcher}
use Rattle.hist_model.specs.Look.{Name}
use Rattle.hist_model.specs.declared.event.Actor.{Actor}
use Rattle.hist_model.specs.declared.event.Event.{Event}
use Rattle.hist_model.specs.declared.event.What.{What}
use Rattle.hist_model.specs.declared.event.What.TheVariants.{AddfdPut, Recv, Send}
use Rattle.hist_model.specs.declared.script.Script.{Script}
use Rattle.hist_model.proofs.Look.{event_at-older}
use Rattle.history_frames.specs.Ordinals.{tasks_made}
use Rattle.history_frames.proofs.Listed.{caller-older, id-older, listed-older}
use Rattle.history_frames.proofs.Ordinals.{place-below, place-old}
use Rattle.tasks.proofs.Named.{name-kept}
use Rattle.judge_pass.specs.Stands.{AreQueued, IsBelow, IsCall, IsQueued}
use Rattle.judge_pass.specs.declared.calls.Call.{Call}
use Rattle.judge_pass.specs.declared.calls.Queued.{Queued}
use Rattle.judge_pass.proofs.Rows.{count-least}

-- ---- requests

queued-older : (e : Event) (K : List Event) (r : ℕ) (q : Queued) → IsQueued K r q → IsQueued (e ∷ K) r q
queued-older e K r q h =
    let b = place-below is_effect K q.effect r h.place_is in
    record { place_is = place-old is_effect e K q.effect b.0 ∙ h.place_is; send_is = rw (event_at-older e K r b.1) h.send_is }

pub are-queued-older : (e : Event) (K : List Event) (rs : List ℕ) (qs : List Queued) → AreQueued K rs qs → AreQueued (e ∷ K) rs qs
unfolding AreQueued
are-queued-older e K [] [] h = tt
are-queued-older e K [] (q ∷ qs) h = absurd h
are-queued-older e K (r ∷ rs) [] h = absurd h
are-queued-older e K (r ∷ rs) (q ∷ qs) h = (queued-older e K r q h.0, are-queued-older e K rs qs h.1)

pub queued-more : (K : List Event) (rs : List ℕ) (qs : List Queued) (r : ℕ) (q : Queued) → AreQueued K rs qs → IsQueued K r q → AreQueued K (rs ++ r ∷ []) (qs ++ q ∷ [])
unfolding AreQueued
queued-more K [] [] r q h k = (k, tt)
queued-more K [] (p ∷ qs) r q h k = absurd h
queued-more K (s ∷ rs) [] r q h k = absurd h
queued-more K (s ∷ rs) (p ∷ qs) r q h k = (h.0, queued-more K rs qs r q h.1 k)

-- ---- what stays of a call

-- nothing changes of the call at a place
pub record LeavesCall (e : Event) (K : List Event) (c : ℕ) : Type 0 where
  pub listed_same : listed (e ∷ K) c ≡ listed K c
  pub unsettled : settles K e c ≡ false
  pub unfetched : (fetches e.what (id K c) && listed K c) ≡ false
  pub queue_same : queue (e ∷ K) c ≡ queue K c

pub record IsNow (K : List Event) (c : ℕ) (call : Call) : Type 0 where
  pub listed_is : listed K c ≡ call.is_listed
  pub settled_is : settled K c ≡ call.is_settled
  pub fetched_is : fetched K c ≡ is_some call.fetcher
  pub fetcher_is : fetcher K c ≡ call.fetcher
  pub fetcher_seat : IsBelow 17 call.fetcher
  pub queue_is : AreQueued K (queue K c) call.queue.items

pub call-row : (S : Script) (e : Event) (K : List Event) (n : ℕ) (old new : Call) → IsCall S K n old → new.place ≡ old.place → new.called ≡ old.called → new.caller ≡ old.caller
    → IsNow (e ∷ K) old.place new → IsCall S (e ∷ K) n new
call-row S e K n old new h p c o now =
    let b = place-below notifies K n old.place h.place_is in
    let at = event_at-older e K old.place b.1 in
    record {
      place_is = rw p (place-old notifies e K n b.0 ∙ h.place_is);
      called = rw (p, c) (record {
        id_is = id-older e K old.place b.1 ∙ h.called.id_is;
        nr_is = rw at h.called.nr_is;
        args_are = rw at h.called.args_are;
      });
      id_is = rw c h.id_is;
      caller_is = rw (p, o) (caller-older e K old.place b.1 ∙ (h.caller_is ∙ sym (name-kept e K old.caller h.caller_made)));
      caller_made = rw o (made-still e K old.caller h.caller_made);
      listed_is = rw p now.listed_is;
      settled_is = rw p now.settled_is;
      fetched_is = rw p now.fetched_is;
      fetcher_is = rw p now.fetcher_is;
      fetcher_seat = now.fetcher_seat;
      queue_is = rw p now.queue_is;
    }
  where
    made-still : (e : Event) (K : List Event) (o : ℕ) → o < tasks_made K → o < tasks_made (e ∷ K)
    made-still e K o l = let k = count-least makes e K in omega (arith, l, k)

pub settled-same : (e : Event) (K : List Event) (c : ℕ) → settles K e c ≡ false → settled (e ∷ K) c ≡ settled K c
unfolding settled
settled-same e K c h = rw h refl

pub fetched-same : (e : Event) (K : List Event) (c : ℕ) → (fetches e.what (id K c) && listed K c) ≡ false → (fetched (e ∷ K) c ≡ fetched K c) × (fetcher (e ∷ K) c ≡ fetcher K c)
unfolding fetched fetcher
fetched-same e K c h = (rw h refl, rw h refl)

pub now-still : (S : Script) (e : Event) (K : List Event) (n : ℕ) (call : Call) (on : Bool) → IsCall S K n call → settles K e call.place ≡ false → (fetches e.what (id K call.place) && listed K call.place) ≡ false
    → queue (e ∷ K) call.place ≡ queue K call.place → listed (e ∷ K) call.place ≡ on → IsNow (e ∷ K) call.place (record call { is_listed = on })
now-still S e K n call on h s f q l =
    let g = fetched-same e K call.place f in
    record {
      listed_is = l;
      settled_is = settled-same e K call.place s ∙ h.settled_is;
      fetched_is = g.0 ∙ h.fetched_is;
      fetcher_is = g.1 ∙ h.fetcher_is;
      fetcher_seat = h.fetcher_seat;
      queue_is = rw q (are-queued-older e K (queue K call.place) call.queue.items h.queue_is);
    }

pub now-kept : (S : Script) (e : Event) (K : List Event) (n : ℕ) (call : Call) → IsCall S K n call → LeavesCall e K call.place → IsNow (e ∷ K) call.place call
now-kept S e K n call h l = now-still S e K n call call.is_listed h l.unsettled l.unfetched l.queue_same (l.listed_same ∙ h.listed_is)

pub call-row-kept : (S : Script) (e : Event) (K : List Event) (n : ℕ) (call : Call) → IsCall S K n call → LeavesCall e K call.place → IsCall S (e ∷ K) n call
call-row-kept S e K n call h l = call-row S e K n call call h refl refl refl (now-kept S e K n call h l)

-- ---- steps that leave all calls

-- the step takes a call off the list, receives or answers one, or asks for or installs a descriptor
abbrev pub moves_calls : What → Bool
moves_calls (Recv (Ok notif)) = true
moves_calls (Send x back (Ok u)) = true
moves_calls (AddfdPut asked (Ok u)) = true
moves_calls what = leaves what || (closes what || is_install what)

module _ (K : List Event) (a : Actor) (w : What) (h : moves_calls w ≡ false) where
  pub quiet-listed : (n : Name) → unlists (record { who = a; what = w }) n ≡ false
  quiet-listed n = grind arith

  pub quiet-install : (c : ℕ) → installs_for K (record { who = a; what = w }) c ≡ false
  quiet-install c = grind arith

  pub quiet-answer : (c : ℕ) → answers K w c ≡ false
  quiet-answer c = grind arith

  pub quiet-put : (c : ℕ) → puts_to K w c ≡ false
  quiet-put c = grind arith

  pub quiet-fetch : (x : ℕ) → fetches w x ≡ false
  quiet-fetch x = grind arith

pub queue-same : (e : Event) (K : List Event) (c : ℕ) → puts_to K e.what c ≡ false → installs_for K e c ≡ false → queue (e ∷ K) c ≡ queue K c
unfolding queue
queue-same e K c p i = rw (p, i) refl

pub settles-none : (e : Event) (K : List Event) (c : ℕ) → answers K e.what c ≡ false → installs_for K e c ≡ false → settles K e c ≡ false
settles-none e K c a i = rw (a, i) refl

pub listed-same : (e : Event) (K : List Event) (c : ℕ) → c < length K → unlists e (caller K c) ≡ false → listed (e ∷ K) c ≡ listed K c
listed-same e K c l u = listed-older e K c l ∙ rw u (right (listed K c))
  where
    right : (b : Bool) → (b && true) ≡ b
    right true = refl
    right false = refl

pub quiet-call : (e : Event) (K : List Event) (c : ℕ) → c < length K → moves_calls e.what ≡ false → LeavesCall e K c
quiet-call e K c l h =
    let i = quiet-install K e.who e.what h c in
    record {
      listed_same = listed-same e K c l (quiet-listed K e.who e.what h (caller K c));
      unsettled = settles-none e K c (quiet-answer K e.who e.what h c) i;
      unfetched = rw (quiet-fetch K e.who e.what h (id K c)) refl;
      queue_same = queue-same e K c (quiet-put K e.who e.what h c) i;
    }
