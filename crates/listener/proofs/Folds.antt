-- The state of a history follows its events.
-- By cases on the step, with the lemmas of `Rows`, `Asks`, `Sounds` and `Answers`.
use Rattle.std.proofs.Common.{◌≡◌, inl, inr, ℕ, ◌+◌, Bool, true, false, ◌&&◌, not, List, ◌∷◌, length, Option, Some, None, refl, sym, ap, ◌∙◌, subst}
use Rattle.std.specs.Prelude.{map, filter, option_map, Ok, Err, Result, ◌==◌, if◌then◌else◌}
use Rattle.std.proofs.lemmas.Bool.{cases_eq, eq-eqb, ne_eqb, and_parts, false_from_ne_true}
use Rattle.std.proofs.lemmas.List.Elements.{All-weaker}
use Rattle.hist_model.specs.Look.{Name, name_eq, event_at, is_task, task_name}
use Rattle.hist_model.specs.Kinds.{notifies, leaves, is_install, has_send, has_send_flag}
use Rattle.hist_model.specs.Calls.{listed, caller, id, queue, first_sends, has_send_in, installs_for, calls, recvs, notify_id, answered}
use Rattle.hist_model.specs.Signals.{call_of}
use Rattle.hist_model.specs.Files.{asked_in, asked_by}
use Rattle.hist_model.specs.declared.event.Event.{Event}
use Rattle.hist_model.specs.declared.event.Actor.TheVariants.{Task}
use Rattle.hist_model.specs.declared.event.What.{What}
use Rattle.hist_model.specs.declared.event.What.TheVariants.{Enter, Recv, Send, AddfdPut, AddfdTake, Install, Resume, Deliver, Close}
use Rattle.hist_model.specs.declared.event.Entered.TheVariants.{Notify}
use Rattle.hist_model.specs.declared.notification.Reply.TheVariants.{Installing}
use Rattle.hist_model.proofs.Look.{name_eq-true, name_eq-refl, newest-some, newest-found}
use Rattle.history_frames.proofs.Listed.{listed-below, listed-is_call}
use Rattle.listener.proofs.Counts.{calls-more, calls-same, recvs-more, recvs-same}
use Rattle.listener.specs.Requests.{is_waiting}
use Rattle.listener.specs.State.{State, Row, row_of, queue as asks_for, after, after_step, after_leave, after_put, after_take, after_install, after_install_by, with_ask, without_ask, with_reply, with_told, told, answer, result_reply, has_id}
use Rattle.listener.specs.Fold.{places, row_at, rows, ask_at, ask_places, asks, Looks}
use Rattle.listener.specs.Sound.{IsSound, AreAsked, IsStep, Installs}
use Rattle.listener.proofs.Lists.{filter-map, filter-same, filter-all}
use Rattle.listener.proofs.Rows.{one-task, places-listed, rows-enter, rows-fetch, rows-close, rows-leave, rows-send, rows-put, rows-install, rows-other}
use Rattle.listener.proofs.Asks.{IsIdle, asks-idle, asked-idle, asks-put, asked-put, asks-take, asked-take, asks-install, asked-install}
use Rattle.listener.proofs.Sounds.{ids-differ, id-fresh, sound-more}
use Rattle.listener.proofs.Answers.{waits-in}

sends-by : (w : What) → has_send w ≡ has_send_flag (asked_by w)
sends-by (AddfdPut asked answer) = refl
sends-by w = refl

pub sends-in : (o : Option Event) → has_send_in o ≡ has_send_flag (asked_in o)
sends-in None = refl
sends-in (Some e) = sends-by e.what

pub call-is : (K : List Event) (n : Name) (c : ℕ) → call_of K n ≡ Some c → (listed K c ≡ true) × (caller K c ≡ n)
unfolding call_of
call-is K n c q =
    let p = and_parts (listed K c) (name_eq (caller K c) n) (newest-some (λ c. listed K c && name_eq (caller K c) n) (length K) c q).0 in
    (p.0, name_eq-true (caller K c) n p.1)

pub call-here : (K : List Event) (c : ℕ) → ((d : ℕ) → listed K d ≡ true → caller K d ≡ caller K c → d ≡ c) → listed K c ≡ true → call_of K (caller K c) ≡ Some c
unfolding call_of
call-here K c alone l = go (call_of K (caller K c)) refl
  where
    go : (o : Option ℕ) → call_of K (caller K c) ≡ o → call_of K (caller K c) ≡ Some c
    go (Some d) q = let p = call-is K (caller K c) d q in q ∙ ap Some (alone d p.0 p.1)
    go None q = absurd (newest-found (λ d. listed K d && name_eq (caller K d) (caller K c)) (length K) c (listed-below K c l) (rw (l, name_eq-refl (caller K c)) refl) q)

-- rows that pass tests which agree on listed calls
filter-rows : (K : List Event) (p q : Row → Bool) → ((c : ℕ) → listed K c ≡ true → p (row_at K c) ≡ q (row_at K c)) → filter p (rows K) ≡ filter q (rows K)
unfolding rows
filter-rows K p q h = rw (filter-map p (row_at K) (places K), filter-map q (row_at K) (places K)) (ap (map (row_at K)) (filter-same (λ c. p (row_at K c)) (λ c. q (row_at K c)) (places K) (All-weaker (λ c. listed K c ≡ true) (λ c. p (row_at K c) ≡ q (row_at K c)) h (places K) (places-listed K))))

-- the requests that wait for a listed call
pub asks-waiting : (K : List Event) (s : State) (c : ℕ) → AreAsked K → listed K c ≡ true → s.asks ≡ asks K → asks_for (id K c) s ≡ map (ask_at K) (queue K c)
unfolding asks
asks-waiting K s c A l h = rw (h, filter-map (is_waiting (id K c)) (ask_at K) (ask_places K), ← A.queues c l) refl

-- the step counts none, and the rows and the requests are these
looks-by : (first : ℕ) (K : List Event) (e : Event) (s : State) → Looks first K s → (t : State) → t.first ≡ s.first → t.entered ≡ s.entered → t.received ≡ s.received → calls (e ∷ K) ≡ calls K → recvs (e ∷ K) ≡ recvs K → t.calls ≡ rows (e ∷ K) → t.asks ≡ asks (e ∷ K) → Looks first (e ∷ K) t
looks-by first K e s L t f n r c d x y = record { first_is = f ∙ L.first_is; entered_is = n ∙ (L.entered_is ∙ sym c); received_is = r ∙ (L.received_is ∙ sym d); calls_are = x; asks_are = y }

module _ (first : ℕ) (K : List Event) (e : Event) (s : State) (L : Looks first K s) (S : IsSound first K) (A : AreAsked K) where
  apart : (c d : ℕ) → listed K c ≡ true → listed K d ≡ true → id K c ≡ id K d → c ≡ d
  apart c d h g q = ids-differ first K S c d (listed-is_call K c h) (listed-is_call K d g) q

  other : calls (e ∷ K) ≡ calls K → recvs (e ∷ K) ≡ recvs K → rows (e ∷ K) ≡ rows K → IsIdle e.what → Looks first (e ∷ K) s
  other c d r i = looks-by first K e s L s refl refl refl c d (L.calls_are ∙ sym r) (L.asks_are ∙ sym (asks-idle e K A i))

  leave : (n : Name) → e.who ≡ Task n → (w : What) → e.what ≡ w → leaves w ≡ true → IsIdle w → calls (e ∷ K) ≡ calls K → recvs (e ∷ K) ≡ recvs K → Looks first (e ∷ K) (after_leave (row_of (task_name e.who) s) s)
  leave n v w q h i c d = subst (λ o. Looks first (e ∷ K) (after_leave o s)) (sym (ap (λ a. row_of (task_name a) s) v ∙ waits-in first K s L S.callers n)) (go (call_of K n) refl)
    where
      left : rows (e ∷ K) ≡ filter (λ r. not (name_eq n r.task)) (rows K)
      left = rows-leave e K n v (rw q h)

      idle : asks (e ∷ K) ≡ asks K
      idle = asks-idle e K A (rw q i)

      go : (o : Option ℕ) → call_of K n ≡ o → Looks first (e ∷ K) (after_leave (option_map (row_at K) o) s)
      go None z = looks-by first K e s L s refl refl refl c d (L.calls_are ∙ sym (left ∙ (filter-rows K (λ r. not (name_eq n r.task)) (λ r. true) (λ b l. ap not (nobody b l)) ∙ filter-all (λ r. true) (rows K) (λ r. refl)))) (L.asks_are ∙ sym idle)
        where
          nobody : (b : ℕ) → listed K b ≡ true → name_eq n (caller K b) ≡ false
          nobody b l = false_from_ne_true (name_eq n (caller K b)) (λ y. let x : n ≡ caller K b = name_eq-true n (caller K b) y in let o : call_of K n ≡ Some b = ap (call_of K) x ∙ call-here K b (λ d g w. S.callers d b g l w) l in absurd (cc (z, o)))
      go (Some a) z = looks-by first K e s L _ refl refl refl c d (ap (filter (λ r. not (has_id (id K a) r))) L.calls_are ∙ (filter-rows K (λ r. not (has_id (id K a) r)) (λ r. not (name_eq n r.task)) (λ b l. ap not (own b l)) ∙ sym left)) (L.asks_are ∙ sym idle)
        where
          own : (b : ℕ) → listed K b ≡ true → (id K b == id K a) ≡ name_eq n (caller K b)
          own b l = let y = call-is K n a z in elim (cases_eq (id K b) (id K a)) [
            | inl x ↦ eq-eqb (id K b) (id K a) x ∙ sym (rw (apart b a l y.0 x, y.1) (name_eq-refl n))
            | inr x ↦ ne_eqb (id K b) (id K a) x ∙ sym (false_from_ne_true (name_eq n (caller K b)) (λ w. x (ap (id K) (S.callers b a l y.0 (sym (name_eq-true n (caller K b) w) ∙ sym y.1)))))
          ]

  install-for : (p : Installs K e) (a : Result ℕ ℕ) → e.what ≡ Install a → installs_for K e p.call ≡ true
  install-for p a q = rw (q, ap (λ w. is_task w (caller K p.call)) p.who, name_eq-refl (caller K p.call), p.on) refl

  install-one : (p : Installs K e) (d : ℕ) → installs_for K e d ≡ true → d ≡ p.call
  install-one p d z =
      let x = and_parts (is_install e.what) (is_task e.who (caller K d) && listed K d) z in let y = and_parts (is_task e.who (caller K d)) (listed K d) x.1 in
      S.callers d p.call y.1 p.on (one-task e.who (caller K d) (caller K p.call) y.0 (ap (λ w. is_task w (caller K p.call)) p.who ∙ name_eq-refl (caller K p.call)))

  follows-by : (w : What) → e.what ≡ w → IsStep first K e w → Looks first (e ∷ K) (after_step e.who w s)
  follows-by (Enter nr args (Notify x)) q p = record {
    first_is = L.first_is;
    entered_is = ap (λ k. k + 1) L.entered_is ∙ sym (calls-more e K (rw q refl));
    received_is = L.received_is ∙ sym (recvs-same e K (rw q refl));
    calls_are = rw (rows-enter e K nr args x q, L.calls_are, L.first_is, L.entered_is, p.id_is) refl;
    asks_are = L.asks_are ∙ sym (asks-idle e K A (rw q (record { no_put = refl; no_install = refl; no_take = refl })));
  }
  follows-by (Recv (Ok notif)) q p = record {
    first_is = L.first_is;
    entered_is = L.entered_is ∙ sym (calls-same e K (rw q refl));
    received_is = ap (λ k. k + 1) L.received_is ∙ sym (recvs-more e K (rw q refl));
    calls_are = rw (rows-fetch e K notif q, L.calls_are) refl;
    asks_are = L.asks_are ∙ sym (asks-idle e K A (rw q (record { no_put = refl; no_install = refl; no_take = refl })));
  }
  follows-by (Recv (Err x)) q p = record {
    first_is = L.first_is;
    entered_is = L.entered_is ∙ sym (calls-same e K (rw q refl));
    received_is = ap (λ k. k + 1) L.received_is ∙ sym (recvs-more e K (rw q refl));
    calls_are = L.calls_are ∙ sym (rows-other e K (record { no_enter = rw q refl; no_leave = rw q refl; no_close = rw q refl }) (λ z. rw q refl) (λ c. record { no_send = rw q refl; no_put = rw q refl; no_install = rw q refl }));
    asks_are = L.asks_are ∙ sym (asks-idle e K A (rw q (record { no_put = refl; no_install = refl; no_take = refl })));
  }
  follows-by (Send x back (Ok u)) q p = looks-by first K e s L _ refl refl refl (calls-same e K (rw q refl)) (recvs-same e K (rw q refl)) (rw (rows-send e K x back apart q, L.calls_are) refl) (L.asks_are ∙ sym (asks-idle e K A (rw q (record { no_put = refl; no_install = refl; no_take = refl }))))
  follows-by (AddfdPut a (Ok u)) q p = subst (λ w. Looks first (e ∷ K) (after_put w a s)) (sym p.who) (go (has_send_flag a) refl)
    where
      put : (t : State) → t.first ≡ s.first → t.entered ≡ s.entered → t.received ≡ s.received → t.asks ≡ s.asks → t.calls ≡ rows (e ∷ K) → Looks first (e ∷ K) (with_ask p.worker a t)
      put t f n r o c = looks-by first K e s L (with_ask p.worker a t) f n r (calls-same e K (rw q refl)) (recvs-same e K (rw q refl)) c (rw (asks-put e K p.worker a A p.who q, o, L.asks_are) refl)

      changed : rows (e ∷ K) ≡ (if has_send_flag a then map (answer a.id (Some Installing)) (rows K) else rows K)
      changed = rows-put e K a apart q (λ c n. let z : Some p.call ≡ Some c = sym p.call_is ∙ n in let y : p.call ≡ c = cc in ap (answered K) (sym y) ∙ p.open_is)

      go : (b : Bool) → has_send_flag a ≡ b → Looks first (e ∷ K) (with_ask p.worker a (if has_send_flag a then with_reply a.id (Some Installing) s else s))
      go true f = rw f (put (with_reply a.id (Some Installing) s) refl refl refl refl (rw (changed, f, L.calls_are) refl))
      go false f = rw f (put s refl refl refl refl (rw (changed, f, L.calls_are) refl))
  follows-by (AddfdTake a) q p = subst (λ w. Looks first (e ∷ K) (after_take w s)) (sym p.who) (looks-by first K e s L (without_ask p.worker s) refl refl refl (calls-same e K (rw q refl)) (recvs-same e K (rw q refl))
      (L.calls_are ∙ sym (rows-other e K (record { no_enter = rw q refl; no_leave = rw q refl; no_close = rw q refl }) (λ z. rw q refl) (λ c. record { no_send = rw q refl; no_put = rw q refl; no_install = rw q refl })))
      (rw (asks-take e K p.worker a A p.who q, L.asks_are) refl))
  follows-by (Install a) q p = subst (λ o. Looks first (e ∷ K) (after_install_by a o s)) (sym (ap (λ w. row_of (task_name w) s) p.who ∙ (waits-in first K s L S.callers (caller K p.call) ∙ ap (option_map (row_at K)) (call-here K p.call alone p.on))))
      (subst (λ qs. Looks first (e ∷ K) (after_install (id K p.call) a qs s)) (sym waiting) (go (first_sends K (queue K p.call)) refl))
    where
      alone : (d : ℕ) → listed K d ≡ true → caller K d ≡ caller K p.call → d ≡ p.call
      alone d l y = S.callers d p.call l p.on y

      waiting : asks_for (id K p.call) s ≡ ask_at K p.first ∷ map (ask_at K) p.rest
      waiting = asks-waiting K s p.call A p.on L.asks_are ∙ ap (map (ask_at K)) p.queue_is

      sends : has_send_flag (ask_at K p.first).asked ≡ first_sends K (queue K p.call)
      sends = rw p.queue_is (sym (sends-in (event_at K p.first)))

      changed : rows (e ∷ K) ≡ (if first_sends K (queue K p.call) then map (answer (id K p.call) (result_reply a)) (rows K) else rows K)
      changed = rows-install e K p.call a apart alone (S.sends p.call p.on) p.on p.unsettled p.who q

      told-now : asks (e ∷ K) ≡ told (id K p.call) a (asks K)
      told-now = asks-install e K p.call p.first a p.rest A (ids-differ first K S) p.on (install-for p a q) (install-one p) q p.queue_is

      go : (b : Bool) → first_sends K (queue K p.call) ≡ b → Looks first (e ∷ K) (with_told (id K p.call) a (if has_send_flag (ask_at K p.first).asked then with_reply (id K p.call) (result_reply a) s else s))
      go true f = rw (sends, f) (looks-by first K e s L _ refl refl refl (calls-same e K (rw q refl)) (recvs-same e K (rw q refl)) (rw (changed, f, L.calls_are) refl) (rw (told-now, L.asks_are) refl))
      go false f = rw (sends, f) (looks-by first K e s L _ refl refl refl (calls-same e K (rw q refl)) (recvs-same e K (rw q refl)) (rw (changed, f, L.calls_are) refl) (rw (told-now, L.asks_are) refl))
  follows-by (Resume back) q p = leave p.0 p.1 (Resume back) q refl (record { no_put = refl; no_install = refl; no_take = refl }) (calls-same e K (rw q refl)) (recvs-same e K (rw q refl))
  follows-by (Deliver sig effect) q p = leave p.0 p.1 (Deliver sig effect) q refl (record { no_put = refl; no_install = refl; no_take = refl }) (calls-same e K (rw q refl)) (recvs-same e K (rw q refl))
  follows-by Close q p = looks-by first K e s L _ refl refl refl (calls-same e K (rw q refl)) (recvs-same e K (rw q refl)) (sym (rows-close e K q)) (L.asks_are ∙ sym (asks-idle e K A (rw q (record { no_put = refl; no_install = refl; no_take = refl }))))
  follows-by w q p = other (calls-same e K (rw q refl)) (recvs-same e K (rw q refl)) (rows-other e K (record { no_enter = rw q refl; no_leave = rw q refl; no_close = rw q refl }) (λ z. rw q refl) (λ c. record { no_send = rw q refl; no_put = rw q refl; no_install = rw q refl })) (rw q (record { no_put = refl; no_install = refl; no_take = refl }))

  asked-by : (w : What) → e.what ≡ w → IsStep first K e w → AreAsked (e ∷ K)
  asked-by (Enter nr args (Notify x)) q p = asked-idle e K A (rw q (record { no_put = refl; no_install = refl; no_take = refl })) (λ n c h z. id-fresh first K c S h (z ∙ (ap notify_id q ∙ p.id_is)))
  asked-by (AddfdPut a (Ok u)) q p = asked-put e K p.worker p.call a A (ids-differ first K S) p.who q p.call_is p.free
  asked-by (AddfdTake a) q p = asked-take e K p.worker a A (ids-differ first K S) p.who q p.over
  asked-by (Install a) q p = asked-install e K p.call p.first a p.rest A (ids-differ first K S) p.on (install-for p a q) (install-one p) q p.queue_is
  asked-by w q p = asked-idle e K A (rw q (record { no_put = refl; no_install = refl; no_take = refl })) (λ n c h z. let y : notifies w ≡ true = sym (ap notifies q) ∙ n in cc)

  pub follows : IsStep first K e e.what → Looks first (e ∷ K) (after s e) × IsSound first (e ∷ K) × AreAsked (e ∷ K)
  follows p = (follows-by e.what refl p, sound-more first K e S p, asked-by e.what refl p)
