-- The oldest call without an answer is the first row of one that has none.
-- By the places of the rows, which rise, and of which each listed call has one.
use Rattle.std.proofs.Common.{◌≡◌, ℕ, ◌-◌, ◌<◌, Bool, true, false, List, [], ◌∷◌, length, refl, sym, ap, ◌∙◌, arith, inl, inr, Option, Some, None}
use Rattle.std.specs.Prelude.{◌&&◌, not, get_or, is_some}
use Rattle.std.specs.List.{list_any}
use Rattle.std.specs.Option.{option_map}
use Rattle.std.proofs.lemmas.Bool.{and_parts, both_ways, cases_order}
use Rattle.broker_verdict.specs.Trusted.{left_waiting}
use Rattle.hist_model.proofs.Look.{oldest-found, oldest-some}
use Rattle.hist_model.specs.Calls.{answered, listed, queue, some_sends}
use Rattle.hist_model.specs.Kinds.{notifies}
use Rattle.hist_model.specs.Look.{oldest}
use Rattle.hist_model.specs.declared.event.Event.{Event}
use Rattle.hist_model.specs.declared.policy.Policy.{Policy}
use Rattle.hist_model.specs.declared.script.Script.{Script}
use Rattle.history_frames.proofs.Held.{oldest-least}
use Rattle.history_frames.proofs.Listed.{listed-is_call}
use Rattle.history_frames.proofs.Ordinals.{place-below, place-order}
use Rattle.history_frames.specs.Ordinals.{nth_of}
use Rattle.judge_pass.proofs.NamedCalls.{has-number}
use Rattle.judge_pass.specs.Closed.{is_closed}
use Rattle.judge_pass.specs.Finding.{Watches, as_finding, finding, or_here}
use Rattle.judge_pass.specs.Idle.{finding_idle, found_left, unanswered_at}
use Rattle.judge_pass.specs.Stands.{AreQueued, IsCall, Stands, place_of_call}
use Rattle.judge_pass.specs.Tables.{is_unanswered}
use Rattle.judge_pass.specs.declared.calls.Call.{Call}
use Rattle.judge_pass.specs.declared.calls.Queued.{Queued}
use Rattle.judge_pass.specs.declared.judge.Judge.{Judge}
use Rattle.judge_pass.specs.declared.watch.Watch.{Watch}

sends-same : (K : List Event) (rs : List ℕ) (qs : List Queued) → AreQueued K rs qs → some_sends K rs ≡ list_any (λ (q : Queued). q.has_send) qs
unfolding AreQueued
sends-same K [] [] h = refl
sends-same K [] (q ∷ qs) h = absurd h
sends-same K (r ∷ rs) [] h = absurd h
sends-same K (r ∷ rs) (q ∷ qs) h = rw (h.0.send_is, sends-same K rs qs h.1) refl

-- the call at a place is listed and has no answer
abbrev unanswered : List Event → ℕ → Bool
unanswered K c = listed K c && not (answered K c)

-- a row says whether its call has an answer
row-waits : (S : Script) (K : List Event) (n : ℕ) (call : Call) → IsCall S K n call → is_unanswered call ≡ unanswered K call.place
row-waits S K n call h = rw (h.listed_is, h.settled_is, sends-same K (queue K call.place) call.queue.items h.queue_is) refl

abbrev pub AreIdleBefore : List Call → ℕ → Type 0
AreIdleBefore rows n = (m : ℕ) (d : Call) → m < n → is_unanswered (get_or rows m d) ≡ false

-- a call without an answer has a row that says so
waiting-row : (P : Policy) (S : Script) (K : List Event) (j : Judge) (c : ℕ) (d : Call) → Stands P S K j → unanswered K c ≡ true
    → (n : ℕ) × ((nth_of notifies K n ≡ Some c) × (is_unanswered (get_or j.calls.rows.items n d) ≡ true))
waiting-row P S K j c d stands h =
    let number = has-number K c (listed-is_call K c (and_parts _ _ h).0) in
    let row = stands.calls number.0 d (place-below notifies K number.0 c number.1).0 in
    let at : (get_or j.calls.rows.items number.0 d).place ≡ c = some-same (sym row.place_is ∙ number.1) in
    (number.0, (number.1, row-waits S K number.0 _ row ∙ ap (unanswered K) at ∙ h))
  where
    some-same : {a b : ℕ} → Some a ≡ Some b → a ≡ b
    some-same q = cc

-- the first row of a call without an answer
pub first_waits : (P : Policy) (S : Script) (K : List Event) (j : Judge) (n : ℕ) (call : Call) → Stands P S K j → n < length j.calls.rows.items → call ≡ get_or j.calls.rows.items n call
    → is_unanswered call ≡ true → AreIdleBefore j.calls.rows.items n → place_of_call K (Some n) ≡ left_waiting K
first_waits P S K j n call stands within is here idle =
    let row : IsCall S K n call = rw is (stands.calls n call (omega (arith, within, stands.calls_are))) in
    let waits-now : unanswered K call.place ≡ true = sym (row-waits S K n call row) ∙ here in
    let low = place-below notifies K n call.place row.place_is in
    let found = oldest-found (unanswered K) (length K) call.place low.1 waits-now in
    let first = oldest-some (unanswered K) (length K) found.0 found.1 in
    row.place_is ∙ ap Some (by found.0 found.1 first.0 row.place_is waits-now) ∙ sym found.1
  where
    by : (s : ℕ) → oldest (unanswered K) (length K) ≡ Some s → unanswered K s ≡ true → nth_of notifies K n ≡ Some call.place → unanswered K call.place ≡ true → call.place ≡ s
    by s least waits-s at now =
        elim (cases_order call.place s) [
          | inl q ↦ q
          | inr m ↦ elim m [ inl l ↦ absurd (oldest-least (unanswered K) (length K) s call.place least now l) | inr l ↦ absurd (before l) ]
        ]
      where
        before : s < call.place → ⊥
        before l =
            let older = waiting-row P S K j s call stands waits-s in
            elim (cases_order older.0 n) [
              | inl k ↦ let q : Some s ≡ Some call.place = sym older.1.0 ∙ ap (nth_of notifies K) k ∙ at in let same : s ≡ call.place = cc in omega (arith, l, same)
              | inr m ↦ elim m [
                | inl k ↦ both_ways _ (idle older.0 call k) older.1.1
                | inr k ↦ omega (arith, l, place-order notifies K n older.0 call.place s at older.1.0 k)
              ]
            ]

-- no row of one
pub none_waits : (P : Policy) (S : Script) (K : List Event) (j : Judge) (n : ℕ) → Stands P S K j → n ≡ length j.calls.rows.items → AreIdleBefore j.calls.rows.items n → left_waiting K ≡ None
none_waits P S K j n stands all idle = by (left_waiting K) refl
  where
    some-call : (rows : List Call) (m : ℕ) → m < length rows → Call
    some-call [] m l = absurd (omega (arith, l))
    some-call (call ∷ rows) m l = call

    by : (o : Option ℕ) → left_waiting K ≡ o → o ≡ None
    by None q = refl
    by (Some c) q =
        let h : unanswered K c ≡ true = (oldest-some (unanswered K) (length K) c q).0 in
        let number = has-number K c (listed-is_call K c (and_parts _ _ h).0) in
        let within : number.0 < length j.calls.rows.items = omega (arith, stands.calls_are, (place-below notifies K number.0 c number.1).0) in
        let d = some-call j.calls.rows.items number.0 within in
        let row = waiting-row P S K j c d stands h in
        let low : row.0 < n = omega (arith, all, stands.calls_are, (place-below notifies K row.0 c row.1.0).0) in
        absurd (both_ways _ (idle row.0 d low) row.1.1)

pub some_waits : (P : Policy) (S : Script) (K : List Event) (j : Judge) (n : ℕ) (call : Call) → Stands P S K j → n < length j.calls.rows.items → place_of_call K (Some n) ≡ left_waiting K
    → is_some (left_waiting K) ≡ true
some_waits P S K j n call stands within is =
    ap is_some (sym is ∙ (stands.calls n call (omega (arith, within, stands.calls_are))).place_is)

unanswered-some : (place : ℕ) (o p : Option ℕ) → is_some o ≡ is_some p → unanswered_at place o ≡ unanswered_at place p
unanswered-some place None None q = refl
unanswered-some place (Some c) (Some d) q = refl
unanswered-some place None (Some d) q = cc
unanswered-some place (Some c) None q = cc

-- where nothing was found, what is left is found
pub left_found : (P : Policy) (S : Script) (K : List Event) (w : Watch) (events : ℕ) (o : Option ℕ) → Watches P S K w → w.found ≡ None → length K ≡ events → is_closed K ≡ false
    → is_some o ≡ is_some (left_waiting K) → unanswered_at (events - 1) o ≡ finding_idle P S K
left_found P S K w events o watches nothing all open-still same =
    let none : finding P S K ≡ None = sym watches.found_is ∙ ap (option_map as_finding) nothing in
    let left : found_left K ≡ unanswered_at (events - 1) (left_waiting K) = rw (open-still, sym all) refl in
    unanswered-some (events - 1) o (left_waiting K) same ∙ sym left ∙ sym (ap (λ f. or_here f (found_left K)) none)
