-- Whether a call waits that no seat has in hand, by what is kept of it and of the seats.
-- By what the tables stand for.
use Rattle.std.proofs.Common.{◌≡◌, ℕ, ◌<◌, Bool, true, false, ◌&&◌, ◌||◌, not, List, [], ◌∷◌, length, refl, sym, ap, ◌∙◌, subst, arith, inl, inr, Option, Some, None}
use Rattle.std.specs.Prelude.{get_or, IfSome, ◌==◌}
use Rattle.std.specs.List.{list_any}
use Rattle.std.proofs.lemmas.Bool.{cases_eq, eq-eqb, eqb-true}
use Rattle.std.proofs.lemmas.Option.{get_or_from_slice_get}
use Rattle.broker_verdict.specs.Seats.{of_call}
use Rattle.broker_verdict.specs.Trusted.{is_in_hand_of, is_left}
use Rattle.hist_model.specs.Calls.{is_send, queue, some_sends, waiting}
use Rattle.hist_model.specs.Kinds.{notifies}
use Rattle.hist_model.specs.Laws.{fetcher}
use Rattle.hist_model.specs.Look.{is_place}
use Rattle.hist_model.specs.declared.event.Event.{Event}
use Rattle.hist_model.specs.declared.policy.Policy.{Policy}
use Rattle.hist_model.specs.declared.script.Script.{Script}
use Rattle.history_frames.specs.Ordinals.{count_of, nth_of}
use Rattle.history_frames.proofs.Ordinals.{place-one}
use Rattle.tasks.proofs.Listed.{get-within}
use Rattle.judge_pass.specs.Stands.{AreQueued, IsBelow, IsCall, IsSeat, place_of_call, Stands}
use Rattle.judge_pass.specs.Tables.{holds_call, waits}
use Rattle.judge_pass.specs.declared.calls.Call.{Call}
use Rattle.judge_pass.specs.declared.calls.Queued.{Queued}
use Rattle.judge_pass.specs.declared.judge.Judge.{Judge}
use Rattle.judge_pass.proofs.Rows.{place-there}

step : (a b c d : Bool) → a ≡ b → c ≡ d → (a || c) ≡ (b || d)
step a b c d p q = rw (p, q) refl

any-sends : (K : List Event) (rs : List ℕ) (qs : List Queued) → AreQueued K rs qs → some_sends K rs ≡ list_any (λ q. q.has_send) qs
unfolding AreQueued
any-sends K [] [] h = refl
any-sends K [] (q ∷ qs) h = absurd h
any-sends K (r ∷ rs) [] h = absurd h
any-sends K (r ∷ rs) (q ∷ qs) h = let a = h.0.send_is in let b = any-sends K rs qs h.1 in step (is_send K r) q.has_send (some_sends K rs) (list_any (λ (p : Queued). p.has_send) qs) a b

waits-same : (S : Script) (K : List Event) (k c : ℕ) (row : Call) → IsCall S K k row → row.place ≡ c → waiting K c ≡ waits row
waits-same S K k c row h p =
    let q = any-sends K (queue K row.place) row.queue.items h.queue_is in
    rw (← p, h.listed_is, h.fetched_is, h.settled_is, q) refl

-- a number is the call's exactly where its place is
same-place : (K : List Event) (o : Option ℕ) (k c : ℕ) → nth_of notifies K k ≡ Some c → IsBelow (count_of notifies K) o → is_place (place_of_call K o) c ≡ is_place o k
same-place K None k c h b = refl
same-place K (Some m) k c h b =
    let t = place-there notifies K m b in
    elim (cases_eq m k) [
      | inl x ↦ rw (x, h, eq-eqb c c refl, eq-eqb k k refl) refl
      | inr x ↦ rw t.1 (apart (t.0 == c) refl (m == k) refl x (λ y. place-one notifies K m k c (t.1 ∙ ap (λ (z : ℕ). Some z) y) h))
    ]
  where
    apart : {a : ℕ} (p : Bool) → (a == c) ≡ p → (q : Bool) → (m == k) ≡ q → (m ≡ k → ⊥) → (a ≡ c → m ≡ k) → (a == c) ≡ (m == k)
    apart {a} true x q y f g = absurd (f (g (eqb-true a c x)))
    apart {a} false x true y f g = absurd (f (eqb-true m k y))
    apart {a} false x false y f g = x ∙ sym y

held-same : (P : Policy) (S : Script) (K : List Event) (j : Judge) (k c : ℕ) → Stands P S K j → nth_of notifies K k ≡ Some c → (o : Option ℕ) → IsBelow 17 o → is_in_hand_of K o c ≡ holds_call j.seats.items o k
held-same P S K j k c s h None b = refl
held-same P S K j k c s h (Some w) b =
    let r = get-within j.seats.items w (omega (arith, b, s.seats_are)) in
    let seat : IsSeat S K w r.0 = rw (← get_or_from_slice_get j.seats.items w r.0 r.0 r.1) (s.seats w r.0 b) in
    rw (r.1, seat.call_is) (same-place K r.0.call k c h seat.call_made)

pub left-same : (P : Policy) (S : Script) (K : List Event) (j : Judge) (k c : ℕ) (row : Call) → Stands P S K j → place_of_call K (Some k) ≡ Some c → k < length j.calls.rows.items → row ≡ get_or j.calls.rows.items k row
    → (waits row && not (holds_call j.seats.items row.fetcher k)) ≡ is_left K c
left-same P S K j k c row s at l q =
    let h : IsCall S K k row = subst (λ (x : Call). IsCall S K k x) (sym q) (s.calls k row (omega (arith, l, s.calls_are))) in
    let p : row.place ≡ c = cc (h.place_is, at) in
    let f : fetcher K c ≡ row.fetcher = ap (fetcher K) (sym p) ∙ h.fetcher_is in
    rw (waits-same S K k c row h p, f, held-same P S K j k c s at row.fetcher h.fetcher_seat) refl

pub left-there : (P : Policy) (S : Script) (K : List Event) (j : Judge) (k : ℕ) → Stands P S K j → k < length j.calls.rows.items → (c : ℕ) × (place_of_call K (Some k) ≡ Some c)
left-there P S K j k s l = let t = place-there notifies K k (omega (arith, l, s.calls_are)) in (t.0, t.1)

pub left-some : (P : Policy) (S : Script) (K : List Event) (j : Judge) (o : Option ℕ) (k : ℕ) (b : Bool) → Stands P S K j → o ≡ Some k → IfSome o (λ n. n < length j.calls.rows.items)
    → ((c : ℕ) → place_of_call K (Some k) ≡ Some c → b ≡ is_left K c) → b ≡ of_call (place_of_call K o) (is_left K)
left-some P S K j o k b s q l f =
    let m : k < length j.calls.rows.items = rw q at l in
    let t = left-there P S K j k s m in
    rw (q, t.1) (f t.0 t.1)
