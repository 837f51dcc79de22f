-- The calls of received notifications are kept, and so is the number that was installed for each.
-- By cases on whether the event is the last one, and by the record of the call that an id names (`Tells`).
use Rattle.std.proofs.Common.{◌≡◌, inl, inr, ℕ, ◌<◌, true, List, [], ◌∷◌, ◌++◌, length, Option, Some, None, refl, sym, ap, ◌∙◌, subst, append_assoc, arith}
use Rattle.std.specs.Prelude.{◌==◌, if◌then◌else◌}
use Rattle.std.proofs.lemmas.Bool.{cases_order}
use Rattle.hist_model.specs.Kinds.{enters}
use Rattle.hist_model.specs.Look.{event_at, task_name}
use Rattle.hist_model.specs.Calls.{actor_in, caller}
use Rattle.hist_model.specs.ReportAudit.{call_with_id, installed, installed_at, is_notified}
use Rattle.hist_model.specs.declared.event.Event.{Event}
use Rattle.hist_model.specs.declared.event.What.{What}
use Rattle.hist_model.specs.declared.event.What.TheVariants.{Enter}
use Rattle.hist_model.proofs.Look.{event_at-here, event_at-older}
use Rattle.audit_log.specs.CallTable.{TellsCalls, TellsNumbers}
use Rattle.audit_log.specs.declared.kept_calls.CallTable.{CallTable}
use Rattle.audit_log.specs.Places.{call_in}
use Rattle.audit_log.specs.Received.{Names, TellsReceived, place_in, received_by}
use Rattle.audit_log.specs.Records.{Tells, number_at, record_in}
use Rattle.audit_log.specs.declared.received.Ids.{Ids}
use Rattle.audit_log.specs.declared.records.CallRecord.{CallRecord}
use Rattle.audit_log.proofs.ByPlace.{by_place_more, none_by_place}
use Rattle.audit_log.proofs.Newest.{FindsNewest, newest_below, newest_passes}

-- of no event
pub none_received : (calls : ℕ → Option ℕ) (H : List Event) → H ≡ [] → TellsReceived H calls
none_received = none_by_place (λ K e. received_by (λ x. call_with_id x K) e.what)

pub none_named : (x : ℕ) → call_with_id x [] ≡ None
unfolding call_with_id
none_named x = refl

named-step : (x : ℕ) (e : Event) (K : List Event) → call_with_id x (e ∷ K) ≡ (if is_notified e.what x then Some (length K) else call_with_id x K)
unfolding call_with_id
named-step x e K = refl

-- the ids with one more event, which has this place
pub names_more : (K : List Event) (e : Event) (old new : Ids) → Names K old
    → ((x : ℕ) → place_in new x ≡ (if is_notified e.what x then Some (length K) else place_in old x)) → Names (e ∷ K) new
names_more K e old new k h = λ x. h x ∙ ap (λ o. if is_notified e.what x then Some (length K) else o) (k x) ∙ sym (named-step x e K)

-- the calls of what was received, with one more event
pub received_more : (K : List Event) (e : Event) (ids : Ids) (before after : ℕ → Option ℕ) → TellsReceived K before → Names K ids
    → ((p : ℕ) → after p ≡ (if length K == p then received_by (place_in ids) e.what else before p)) → TellsReceived (e ∷ K) after
received_more K e ids before after t k h =
    let f : place_in ids ≡ (λ x. call_with_id x K) = λ i. λ x. k x i in
    by_place_more (λ K e. received_by (λ x. call_with_id x K) e.what) K e (received_by (place_in ids) e.what) before after t (ap (λ call. received_by call e.what) f) h

-- an id names the newest event that is listed with it
pub newest_named : (x : ℕ) → FindsNewest (λ e. is_notified e.what x) (call_with_id x)
newest_named x = (none_named x, named-step x)

-- the events at a place below the last one
pub at_place : (K : List Event) (c : ℕ) → c < length K → (l : List Event) × (f : Event) × (M : List Event) × (K ≡ l ++ f ∷ M) × (length M ≡ c) × (event_at K c ≡ Some f)
at_place [] c l = absurd (omega arith)
at_place (e ∷ K) c l = elim (cases_order c (length K)) [
  | inl q ↦ ([], e, K, refl, sym q, ap (event_at (e ∷ K)) q ∙ event_at-here e K)
  | inr o ↦ elim o [
    | inl m ↦ let (later, f, M, p, n, v) = at_place K c m in (e ∷ later, f, M, ap (λ x. e ∷ x) p, n, event_at-older e K c m ∙ v)
    | inr m ↦ absurd (omega arith)
  ]
]

-- a step that is listed enters a call
pub notified_enters : (a : What) (x : ℕ) → is_notified a x ≡ true → enters a ≡ true
notified_enters (Enter nr args verdict) x h = refl
notified_enters _ x h = cc

-- the number that was installed for the call that an id names is in that call's record
pub number_told : (H : List Event) (kept : ℕ → CallRecord) → Tells H kept → (later K : List Event) (x : ℕ) → H ≡ later ++ K
    → number_at kept (call_with_id x K) ≡ installed_at H K (call_with_id x K)
number_told H kept t later K x h = by (call_with_id x K) refl
  where
    by : (o : Option ℕ) → call_with_id x K ≡ o → number_at kept o ≡ installed_at H K o
    by None q = refl
    by (Some c) q =
        let (l, f, M, p, n, v) = at_place K c (newest_below (λ e. is_notified e.what x) (call_with_id x) (newest_named x) c K q) in
        let whole : H ≡ (later ++ l) ++ f ∷ M = h ∙ ap (λ y. later ++ y) p ∙ sym (append_assoc later l (f ∷ M)) in
        let listed : is_notified f.what x ≡ true = newest_passes (λ e. is_notified e.what x) (call_with_id x) (newest_named x) l M f (ap (call_with_id x) (sym p) ∙ q ∙ ap Some (sym n)) in
        let told : (kept (length M)).number ≡ installed (task_name f.who) (length M) H = ap (λ r. r.number) (t (later ++ l) M f whole (notified_enters f.what x listed)) in
        let who : task_name f.who ≡ caller K c = sym (ap actor_in v) in
        subst (λ y. (kept y).number ≡ installed (caller K c) y H) n (subst (λ y. (kept (length M)).number ≡ installed y (length M) H) who told)

pub numbers_told : (n : CallTable) (H : List Event) → TellsCalls H n → TellsNumbers H n
numbers_told n H t later K e notif h q =
    let named : call_in n.received (length K) ≡ call_with_id notif.id K = t.received later K e h ∙ ap (received_by (λ x. call_with_id x K)) q in
    let whole : H ≡ (later ++ e ∷ []) ++ K = h ∙ sym (append_assoc later (e ∷ []) K) in
    ap (number_at (record_in n.entered)) named ∙ number_told H (record_in n.entered) t.records (later ++ e ∷ []) K notif.id whole
