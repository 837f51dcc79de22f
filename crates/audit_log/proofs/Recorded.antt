-- The records of a history tell of its calls: one more event changes the record of its task's newest call alone, or adds its own.
-- By cases on whether the event is the last one, and by `newest_own`: the newest call of a task is its own.
use Rattle.std.proofs.Common.{◌≡◌, inl, inr, ℕ, suc, ◌+◌, ◌<◌, ◌≤◌, Bool, true, false, ◌&&◌, cond, List, [], ◌∷◌, ◌++◌, length, get_or, Option, Some, None, refl, sym, ap, ap₂, ◌∙◌, subst, append_assoc, append-nil, arith}
use Rattle.std.specs.Prelude.{◌==◌, if◌then◌else◌, Result, Ok, Err, OnOk, codes, count_by}
use Rattle.std.specs.List.{flat_map}
use Rattle.sys_abi.specs.declared.memory.NoMemory.{NoMemory}
use Rattle.std.proofs.lemmas.Bool.{and_parts, cases_Bool, eqb-true, eq-eqb, ne_eqb}
use Rattle.std.proofs.lemmas.List.{length-append, get_or_at, get_or_append_left, get_or-set_other}
use Rattle.std.proofs.Math.ListN.{length-set}
use Rattle.std.proofs.lemmas.Grind.{flat_map-append, get_or-set_at}
use Rattle.std.proofs.lemmas.List.Recursion.{is_count_by}
use Rattle.hist_model.specs.Look.{Name, event_at, name_eq, is_task, is_place, task_name}
use Rattle.hist_model.specs.Kinds.{enters}
use Rattle.hist_model.specs.ReportJournal.{lines_of, title}
use Rattle.hist_model.specs.ReportAudit.{installed, number_given}
use Rattle.hist_model.specs.ReportCalls.{calls, is_pending, call_line, call_line_by, first_pid, newest_call, outcome, outcome_by, outcome_next, outcome_step}
use Rattle.hist_model.specs.declared.event.Actor.{Actor}
use Rattle.hist_model.specs.declared.event.Actor.TheVariants.{Start, Task, Worker, Listener}
use Rattle.hist_model.specs.declared.event.Event.{Event}
use Rattle.hist_model.specs.declared.event.What.{What}
use Rattle.hist_model.specs.declared.event.What.TheVariants.{Deliver, Enter, Install, Native, Resume}
use Rattle.hist_model.specs.declared.report.Outcome.{Outcome}
use Rattle.hist_model.specs.declared.report.Outcome.TheVariants.{Open}
use Rattle.hist_model.proofs.Look.{event_at-above, event_at-here, event_at-older, name_eq-true, name_eq-refl}
use Rattle.audit_log.specs.Tasks.{Knows, call_of, facts_in, facts_of, task_facts, task_after}
use Rattle.audit_log.specs.Places.{AreOrdered, Rise, row_in}
use Rattle.audit_log.specs.Records.{HasEntries, Tells, advanced, entries, first_record, line_at, line_of, moves, no_record, placed, record_after, record_in, record_of, record_of_row, recorded, recorded_by, recorded_line, row_at}
use Rattle.audit_log.specs.declared.records.CallRecord.{CallRecord}
use Rattle.audit_log.specs.declared.records.CallRecords.{CallRecords}
use Rattle.audit_log.specs.declared.tasks.TaskFacts.{TaskFacts}
use Rattle.audit_log.specs.declared.tasks.TaskRecords.{TaskRecords}
use Rattle.audit_log.proofs.PlaceRows.{found_row, none_ordered, ordered_more, ordered_push, past_row, row_has, row_kept, row_last}
use Rattle.audit_log.proofs.Newest.{FindsNewest, elsewhere, newest_not_past, newest_passes}

-- what is kept of a task, with one more event
pub known_more : (n : Name) (e : Event) (K : List Event) → task_facts (e ∷ K) n ≡ task_after (length K) e n (task_facts K n)
unfolding first_pid newest_call
known_more n e K = refl

pub known_none : (n : Name) → task_facts [] n ≡ record { pid = None; newest = None }
unfolding first_pid newest_call
known_none n = refl

-- a newest call is the newest event with which its task enters a call
pub newest_entered : (n : Name) → FindsNewest (λ e. is_task e.who n && enters e.what) (newest_call n)
unfolding newest_call
newest_entered n = (refl, λ e K. refl)

-- the event at the place of a task's newest call is its own
pub newest_own : (n : Name) (later K : List Event) (f : Event) → newest_call n (later ++ f ∷ K) ≡ Some (length K) → is_task f.who n ≡ true
newest_own n later K f h = (and_parts (is_task f.who n) (enters f.what) (newest_passes (λ e. is_task e.who n && enters e.what) (newest_call n) (newest_entered n) later K f h)).0

-- and enters a call
pub newest_enters : (n : Name) (later K : List Event) (f : Event) → newest_call n (later ++ f ∷ K) ≡ Some (length K) → enters f.what ≡ true
newest_enters n later K f h = (and_parts (is_task f.who n) (enters f.what) (newest_passes (λ e. is_task e.who n && enters e.what) (newest_call n) (newest_entered n) later K f h)).1

-- an actor that is the task of a name has this name
pub task_of : (who : Actor) (n : Name) → is_task who n ≡ true → task_name who ≡ n
task_of (Task m) n h = name_eq-true m n h
task_of Start n h = cc
task_of (Worker w) n h = cc
task_of Listener n h = cc

-- a step is in the call at a place where that is its actor's newest call
pub in_call : (who : Actor) (n : Name) (c : ℕ) (K : List Event) → (newest_call (task_name who) K ≡ Some c → n ≡ task_name who)
    → (is_task who n && is_place (newest_call n K) c) ≡ is_place (call_of who (task_facts K)) c
in_call Start n c K own = refl
in_call (Worker w) n c K own = refl
in_call Listener n c K own = refl
in_call (Task m) n c K own = elim (cases_Bool (name_eq m n)) [
  | inl h ↦ rw (h, name_eq-true m n h) refl
  | inr h ↦ rw h (sym (elsewhere (newest_call m K) c (λ p. other (own p) h)))
]
  where
    other : n ≡ m → name_eq m n ≡ false → ⊥
    other same h = let y : name_eq m n ≡ true = rw same (name_eq-refl m) in cc (h, y)

-- a record with one more step, which may be its task's
abbrev with_step : Bool → What → CallRecord → CallRecord
with_step true a r = record_after a r
with_step false a r = r

-- a step that moves no call
idle-outcome : (o : Outcome) (a : What) → moves a ≡ false → outcome_next o a ≡ o
idle-outcome Open a h = pending a h
  where
    pending : (a : What) → moves a ≡ false → outcome_by a ≡ Open
    pending (Native answer) h = cc
    pending (Resume back) h = cc
    pending (Deliver sig effect) h = cc
    pending (Install answer) h = cc
    pending _ h = refl
idle-outcome _ a h = refl

idle-number : (b : Bool) (a : What) (n : Option ℕ) → moves a ≡ false → number_given b a n ≡ n
idle-number true (Install answer) n h = cc
idle-number true _ n h = refl
idle-number false a n h = refl

idle-step : (b : Bool) (a : What) (r : CallRecord) → moves a ≡ false → with_step b a r ≡ r
idle-step true a r h = rw (idle-outcome r.outcome a h, idle-number (is_pending r.outcome) a r.number h) refl
idle-step false a r h = refl

-- in the row of a call
advanced_at : (places : List ℕ) (records : List CallRecord) (o : Option ℕ) (a : What) (c i : ℕ) → row_in places c ≡ Some i → i < length records
    → get_or (advanced (row_at places o) a records) i no_record ≡ with_step (is_place o c) a (get_or records i no_record)
advanced_at places records None a c i r l = refl
advanced_at places records (Some k) a c i r l = elim (cases_Bool (k == c)) [
  | inl h ↦
      let q : k ≡ c = eqb-true k c h in
      rw (h, q, r) (get_or-set_at records i i (with_step true a (get_or records i no_record)) no_record refl l)
  | inr h ↦ rw h (other (row_in places k) refl h)
]
  where
    other : (row : Option ℕ) → row_in places k ≡ row → (k == c) ≡ false → get_or (advanced row a records) i no_record ≡ get_or records i no_record
    other None q h = refl
    other (Some j) q h =
        let there : get_or places j 0 ≡ k = (row_has places k j q).1 in
        let here : get_or places i 0 ≡ c = (row_has places c i r).1 in
        let n : (i ≡ j → ⊥) = (λ s. let t : k ≡ c = sym there ∙ ap (λ x. get_or places x 0) (sym s) ∙ here in cc (h, eq-eqb k c t)) in
        get_or-set_other records j i (with_step true a (get_or records j no_record)) no_record n

length-advanced : (row : Option ℕ) (a : What) (records : List CallRecord) → length (advanced row a records) ≡ length records
length-advanced None a records = refl
length-advanced (Some i) a records = length-set records i (with_step true a (get_or records i no_record))

-- a test that is joined to false is false
pub and_false : (b : Bool) → (b && false) ≡ false
and_false true = refl
and_false false = refl

-- no call is at a place past the events
pub not_yet : (n : Name) (c : ℕ) (K : List Event) → length K ≤ c → is_place (newest_call n K) c ≡ false
not_yet n c K l = newest_not_past (λ e. is_task e.who n && enters e.what) (newest_call n) (newest_entered n) c K l

-- and nothing is installed for it
no_number : (n : Name) (c : ℕ) (K : List Event) → length K ≤ c → installed n c K ≡ None
unfolding installed
no_number n c [] l = refl
no_number n c (e ∷ K) l = rw (not_yet n c K (omega arith), and_false (is_task e.who n), no_number n c K (omega arith)) refl

-- the record of the newest event
here : (e : Event) (K : List Event) → first_record e.what (facts_of e.who (task_facts K)) ≡ record_of (e ∷ K) K e
unfolding outcome installed
here e K =
    let n = task_name e.who in
    rw (eq-eqb (length K) (length K) refl, not_yet n (length K) K (omega arith), and_false (is_task e.who n), no_number n (length K) K (omega arith)) refl

stepped : (b : Bool) (r : CallRecord) (a : What)
    → with_step b a r ≡ record { pid = r.pid; outcome = outcome_step false b r.outcome a; number = number_given (b && is_pending r.outcome) a r.number }
stepped true r a = refl
stepped false r a = refl

-- the record of an earlier one, f
earlier : (later K : List Event) (f e : Event) → let H = later ++ f ∷ K in
    with_step (is_place (call_of e.who (task_facts H)) (length K)) e.what (record_of H K f) ≡ record_of (e ∷ H) K f
unfolding outcome installed
earlier later K f e =
    let H = later ++ f ∷ K in
    let l : length H ≡ length later + length (f ∷ K) = length-append later (f ∷ K) in
    let n : (length H ≡ length K → ⊥) = (λ q. omega arith) in
    let own = in_call e.who (task_name f.who) (length K) H (λ q. task_of f.who (task_name e.who) (newest_own (task_name e.who) later K f q)) in
    rw (ne_eqb (length H) (length K) n, own) (stepped (is_place (call_of e.who (task_facts H)) (length K)) (record_of H K f) e.what)

-- ---- Entries

-- the rows of the events that enter a call
pub entries_ordered : (K : List Event) → AreOrdered (length K) (entries K) (length (entries K))
unfolding entries
entries_ordered [] = none_ordered
entries_ordered (e ∷ K) = by (enters e.what) (entries_ordered K)
  where
    by : (b : Bool) → AreOrdered (length K) (entries K) (length (entries K)) → AreOrdered (suc (length K)) (if b then entries K ++ length K ∷ [] else entries K) (length (if b then entries K ++ length K ∷ [] else entries K))
    by true o =
        let size : suc (length (entries K)) ≡ length (entries K ++ length K ∷ []) = (let s : length (entries K ++ length K ∷ []) ≡ length (entries K) + 1 = length-append (entries K) (length K ∷ []) in omega arith) in
        subst (AreOrdered (suc (length K)) (entries K ++ length K ∷ [])) size (ordered_push (length K) (entries K) (length (entries K)) o)
    by false o = ordered_more (length K) (entries K) (length (entries K)) o

-- an event that enters a call has a row
pub entry_row : (later M : List Event) (f : Event) → enters f.what ≡ true → (i : ℕ) × (row_in (entries (later ++ f ∷ M)) (length M) ≡ Some i)
unfolding entries
entry_row [] M f h =
    (length (entries M), ap (λ b. row_in (if b then entries M ++ length M ∷ [] else entries M) (length M)) h ∙ row_last (entries M) (length M) (past_row (length M) (entries M) (length (entries M)) (entries_ordered M)))
entry_row (e ∷ later) M f h =
    let t = entry_row later M f h in
    (t.0, by (enters e.what) t.0 t.1)
  where
    by : (b : Bool) (i : ℕ) → row_in (entries (later ++ f ∷ M)) (length M) ≡ Some i
        → row_in (if b then entries (later ++ f ∷ M) ++ length (later ++ f ∷ M) ∷ [] else entries (later ++ f ∷ M)) (length M) ≡ Some i
    by true i h = row_kept (entries (later ++ f ∷ M)) (length (later ++ f ∷ M)) (length M) i h
    by false i h = h

-- the places rise
pub entries_rise : (K : List Event) (t : CallRecords) → HasEntries K t → Rise t.places.items
entries_rise K t h = subst Rise (sym h.places) (entries_ordered K).rise

-- ---- One more event

-- in the row of an event, what one more event makes of its record
record-more : (a : What) (facts : TaskFacts) (places : List ℕ) (records : List CallRecord) (c i n : ℕ) → row_in places c ≡ Some i → i < length records
    → record_of_row (recorded a facts (row_at places facts.newest) records) (row_in (placed a n places) c) ≡ with_step (is_place facts.newest c) a (get_or records i no_record)
record-more a facts places records c i n r l = by (enters a) (moves a) refl refl
  where
    none-enters : (a : What) → enters a ≡ true → moves a ≡ false
    none-enters (Enter nr args verdict) h = refl
    none-enters _ h = cc

    by : (b m : Bool) → enters a ≡ b → moves a ≡ m
        → record_of_row (if b then records ++ first_record a facts ∷ [] else (if m then advanced (row_at places facts.newest) a records else records)) (row_in (if b then places ++ n ∷ [] else places) c)
        ≡ with_step (is_place facts.newest c) a (get_or records i no_record)
    by true m e q =
        ap (record_of_row (records ++ first_record a facts ∷ [])) (row_kept places n c i r)
        ∙ get_or_append_left records (first_record a facts ∷ []) no_record i l
        ∙ sym (idle-step (is_place facts.newest c) a (get_or records i no_record) (none-enters a e))
    by false true e q = ap (record_of_row (advanced (row_at places facts.newest) a records)) r ∙ advanced_at places records facts.newest a c i r l
    by false false e q = ap (record_of_row records) r ∙ sym (idle-step (is_place facts.newest c) a (get_or records i no_record) q)

-- the rows with one more event
pub entries_more : (K : List Event) (e : Event) (facts : TaskFacts) (old new : CallRecords) → HasEntries K old → new.places.items ≡ placed e.what (length K) old.places.items
    → new.records.items ≡ recorded e.what facts (row_at old.places.items facts.newest) old.records.items → HasEntries (e ∷ K) new
unfolding entries
entries_more K e facts old new h p r = record {
  places = p ∙ ap (placed e.what (length K)) h.places;
  whole = ap length r ∙ by (enters e.what) (moves e.what) ∙ sym (ap length p);
}
  where
    by : (b m : Bool)
        → length (if b then old.records.items ++ first_record e.what facts ∷ [] else (if m then advanced (row_at old.places.items facts.newest) e.what old.records.items else old.records.items))
        ≡ length (if b then old.places.items ++ length K ∷ [] else old.places.items)
    by true m =
        let a : length (old.records.items ++ first_record e.what facts ∷ []) ≡ length old.records.items + 1 = length-append old.records.items (first_record e.what facts ∷ []) in
        let b : length (old.places.items ++ length K ∷ []) ≡ length old.places.items + 1 = length-append old.places.items (length K ∷ []) in
        let w = h.whole in
        omega (arith, a, b, w)
    by false true = length-advanced (row_at old.places.items facts.newest) e.what old.records.items ∙ h.whole
    by false false = h.whole

pub tells_more : (K : List Event) (e : Event) (old new : CallRecords) → HasEntries K old → Tells K (record_in old) → new.places.items ≡ placed e.what (length K) old.places.items
    → new.records.items ≡ recorded e.what (facts_of e.who (task_facts K)) (row_at old.places.items (call_of e.who (task_facts K))) old.records.items → Tells (e ∷ K) (record_in new)
tells_more K e old new h t p r [] M f q enter =
    let s : f ≡ e = cc in
    let m : M ≡ K = cc in
    let facts = facts_of e.who (task_facts K) in
    let entering : enters e.what ≡ true = subst (λ g. enters g.what ≡ true) s enter in
    let none : row_in old.places.items (length K) ≡ None = subst (λ xs. row_in xs (length K) ≡ None) (sym h.places) (past_row (length K) (entries K) (length (entries K)) (entries_ordered K)) in
    let places : new.places.items ≡ old.places.items ++ length K ∷ [] = p ∙ ap (λ b. if b then old.places.items ++ length K ∷ [] else old.places.items) entering in
    let records : new.records.items ≡ old.records.items ++ first_record e.what facts ∷ [] =
    r ∙ ap (λ b. if b then old.records.items ++ first_record e.what facts ∷ [] else (if moves e.what then advanced (row_at old.places.items facts.newest) e.what old.records.items else old.records.items)) entering in
    let row : row_in new.places.items (length K) ≡ Some (length old.places.items) = ap (λ xs. row_in xs (length K)) places ∙ row_last old.places.items (length K) none in
    let found : record_in new (length K) ≡ record_of (e ∷ K) K e =
    ap (record_of_row new.records.items) row ∙ ap (λ xs. get_or xs (length old.places.items) no_record) records
    ∙ get_or_at old.records.items (first_record e.what facts) [] no_record (length old.places.items) h.whole
    ∙ here e K in
    subst (λ x. record_in new (length x) ≡ record_of (e ∷ K) x f) (sym m) (subst (λ g. record_in new (length K) ≡ record_of (e ∷ K) K g) (sym s) found)
tells_more K e old new h t p r (x ∷ later) M f q enter =
    let s : K ≡ later ++ f ∷ M = cc in
    let facts = facts_of e.who (task_facts K) in
    let c = length M in
    let there = entry_row later M f enter in
    let row : row_in old.places.items c ≡ Some there.0 = ap (λ xs. row_in xs c) (h.places ∙ ap entries s) ∙ there.1 in
    let w = h.whole in
    let b = (row_has old.places.items c there.0 row).0 in
    let l : there.0 < length old.records.items = omega (arith, w, b) in
    let before : get_or old.records.items there.0 no_record ≡ record_of K M f = sym (ap (record_of_row old.records.items) row) ∙ t later M f s enter in
    ap (record_of_row new.records.items) (ap (λ xs. row_in xs c) p)
    ∙ ap (λ xs. record_of_row xs (row_in (placed e.what (length K) old.places.items) c)) r
    ∙ record-more e.what facts old.places.items old.records.items c there.0 (length K) row l
    ∙ ap (with_step (is_place facts.newest c) e.what) before
    ∙ subst (λ H. with_step (is_place (call_of e.who (task_facts H)) c) e.what (record_of H M f) ≡ record_of (e ∷ H) M f) (sym s) (earlier later M f e)

-- the line of an event, by its record
line_told : (H K : List Event) (who : Actor) (a : What) → recorded_by (record_of H K (record { who = who; what = a })) (length K) who a ≡ call_line_by H K who a
line_told H K who (Enter nr args verdict) = refl
line_told H K who _ = refl

line-same : (t : CallRecords) (H K : List Event) (e : Event) → (enters e.what ≡ true → record_in t (length K) ≡ record_of H K e) → recorded_line t K e ≡ call_line H K e
line-same t H K e kept = by e.what refl
  where
    by : (a : What) → e.what ≡ a → recorded_by (record_in t (length K)) (length K) e.who a ≡ call_line_by H K e.who a
    by (Enter nr args verdict) q =
        ap (λ r. recorded_by r (length K) e.who (Enter nr args verdict)) (kept (ap enters q)) ∙ line_told H K e.who (Enter nr args verdict)
    by _ q = refl

pub lines_told : (t : CallRecords) (H later K : List Event) → Tells H (record_in t) → H ≡ later ++ K → lines_of (recorded_line t) K ≡ lines_of (call_line H) K
unfolding lines_of
lines_told t H later [] tells h = refl
lines_told t H later (e ∷ K) tells h =
    let q : H ≡ (later ++ e ∷ []) ++ K = h ∙ sym (append_assoc later (e ∷ []) K) in
    ap₂ (λ text line. text ++ line) (lines_told t H (later ++ e ∷ []) K tells q) (line-same t H K e (tells later K e h))

lines_same : (t : CallRecords) (H : List Event) → Tells H (record_in t) → lines_of (recorded_line t) H ≡ lines_of (call_line H) H
lines_same t H tells = lines_told t H [] H tells refl

-- of no event
pub none_told : (kept : ℕ → CallRecord) (H : List Event) → H ≡ [] → Tells H kept
none_told kept H q [] K e h enter = let n : [] ≡ e ∷ K = sym q ∙ h in cc
none_told kept H q (x ∷ later) K e h enter = let n : [] ≡ x ∷ (later ++ e ∷ K) = sym q ∙ h in cc

pub none_entered : entries [] ≡ []
unfolding entries
none_entered = refl

-- what is kept of tasks with one more event, which has this place
pub knows_more : (K : List Event) (e : Event) (old new : TaskRecords) → Knows K old → ((n : Name) → facts_in new n ≡ task_after (length K) e n (facts_in old n)) → Knows (e ∷ K) new
knows_more K e old new k h = λ n. h n ∙ ap (task_after (length K) e n) (k n) ∙ sym (known_more n e K)

-- what holds where there was memory for a step, by what the step made
pub where_ok : {A B : Type 0} (r : Result (Unit {0}) NoMemory) → (A → B) → OnOk r A → OnOk r B
where_ok (Err e) f a = tt
where_ok (Ok u) f a = f a

-- ---- The calls that were entered

-- as many as events enter one
entries-more : (e : Event) (K : List Event) → length (entries (e ∷ K)) ≡ cond (enters e.what) (1 + length (entries K)) (length (entries K))
unfolding entries
entries-more e K = by (enters e.what)
  where
    by : (b : Bool) → length (if b then entries K ++ length K ∷ [] else entries K) ≡ cond b (1 + length (entries K)) (length (entries K))
    by true = let s : length (entries K ++ length K ∷ []) ≡ length (entries K) + 1 = length-append (entries K) (length K ∷ []) in omega arith
    by false = refl

entries-count : (K : List Event) → length (entries K) ≡ count_by (λ e. enters e.what) K
entries-count K = is_count_by (λ K. length (entries K)) (λ (e : Event). enters e.what) (ap length none_entered) entries-more K

pub entries_counted : (K : List Event) (t : CallRecords) → HasEntries K t → length t.places.items ≡ count_by (λ e. enters e.what) K
entries_counted K t h = ap length h.places ∙ entries-count K

-- an event that enters no call has no line
no-line : (r : CallRecord) (place : ℕ) (who : Actor) (a : What) → enters a ≡ false → recorded_by r place who a ≡ []
no-line r place who (Enter nr args verdict) h = cc
no-line r place who _ h = refl

event-there : (later K : List Event) (e : Event) → event_at (later ++ e ∷ K) (length K) ≡ Some e
event-there [] K e = event_at-here e K
event-there (x ∷ later) K e =
    let l : length (later ++ e ∷ K) ≡ length later + length (e ∷ K) = length-append later (e ∷ K) in
    event_at-older x (later ++ e ∷ K) (length K) (omega arith) ∙ event-there later K e

lines-entered : (t : CallRecords) (H later K : List Event) → H ≡ later ++ K → lines_of (recorded_line t) K ≡ flat_map (line_at t H) (entries K)
unfolding lines_of entries
lines-entered t H later [] h = refl
lines-entered t H later (e ∷ K) h =
    let q : H ≡ (later ++ e ∷ []) ++ K = h ∙ sym (append_assoc later (e ∷ []) K) in
    let there : line_at t H (length K) ≡ recorded_line t K e = ap (line_of t (length K)) (ap (λ x. event_at x (length K)) h ∙ event-there later K e) in
    ap (λ xs. xs ++ recorded_line t K e) (lines-entered t H (later ++ e ∷ []) K q) ∙ by (enters e.what) refl there
  where
    by : (b : Bool) → enters e.what ≡ b → line_at t H (length K) ≡ recorded_line t K e
        → flat_map (line_at t H) (entries K) ++ recorded_line t K e ≡ flat_map (line_at t H) (if b then entries K ++ length K ∷ [] else entries K)
    by true q there =
        ap (λ xs. flat_map (line_at t H) (entries K) ++ xs) (sym there ∙ sym (append-nil (line_at t H (length K))))
        ∙ sym (flat_map-append (line_at t H) (entries K) (length K ∷ []))
    by false q there =
        ap (λ xs. flat_map (line_at t H) (entries K) ++ xs) (no-line (record_in t (length K)) (length K) e.who e.what q)
        ∙ append-nil (flat_map (line_at t H) (entries K))

-- the title and the lines of the rows are the calls
pub calls_whole : (t : CallRecords) (H : List Event) (count : ℕ) → HasEntries H t → Tells H (record_in t) → count ≡ length t.places.items
    → title (codes "calls") count ++ flat_map (line_at t H) t.places.items ≡ calls H
calls_whole t H count h tells c =
    ap₂ (λ n text. title (codes "calls") n ++ text) (c ∙ entries_counted H t h)
    (ap (flat_map (line_at t H)) h.places ∙ sym (lines-entered t H [] H refl) ∙ lines_same t H tells)

-- the line of the call in a row
pub row_line : (t : CallRecords) (H : List Event) (row : ℕ) (e : Event) (r : CallRecord) → Rise t.places.items → row < length t.places.items
    → event_at H (get_or t.places.items row 0) ≡ Some e → r ≡ record_of_row t.records.items (Some row)
    → recorded_by r (get_or t.places.items row 0) e.who e.what ≡ line_at t H (get_or t.places.items row 0)
row_line t H row e r rise l at is =
    let place = get_or t.places.items row 0 in
    ap (λ x. recorded_by x place e.who e.what) (is ∙ ap (record_of_row t.records.items) (sym (found_row t.places.items place row rise l refl)))
    ∙ sym (ap (line_of t place) at)

-- there is none past the history
pub no_row_line : (t : CallRecords) (H : List Event) (row : ℕ) (line : List ℕ) → length H ≤ get_or t.places.items row 0 → line ≡ line ++ line_at t H (get_or t.places.items row 0)
no_row_line t H row line l =
    let place = get_or t.places.items row 0 in
    sym (ap (λ xs. line ++ xs) (ap (line_of t place) (event_at-above H place l)) ∙ append-nil line)
