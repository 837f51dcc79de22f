-- What is kept of the sessions gives the session of each call.
-- By induction on the events: each session that was begun is for the call that its notification's id names, and the newest for a call is the last.
use Rattle.std.proofs.Common.{inl, inr, ◌≡◌, ℕ, zero, suc, ◌+◌, ◌<◌, ◌≤◌, Bool, true, false, List, [], ◌∷◌, ◌++◌, length, get_or, take, Option, Some, None, refl, sym, ap, ap₂, ◌∙◌, append_assoc, arith}
use Rattle.std.specs.Prelude.{if◌then◌else◌, ◌==◌, map, option_map, replicate, slice_get, Ok}
use Rattle.std.proofs.lemmas.Bool.{cases_Bool, eqb-true, eq-eqb}
use Rattle.std.proofs.lemmas.Grind.{get_or-set_at}
use Rattle.std.proofs.lemmas.List.{get_or-set_other, length-replicate, length-set, map-append, take_all, take_more}
use Rattle.std.proofs.lemmas.Option.{slice_get-get_or}
use Rattle.hist_model.specs.Look.{is_place}
use Rattle.hist_model.specs.ReportAudit.{Judging, call_with_id, session_at}
use Rattle.hist_model.specs.Sessions.{or_some}
use Rattle.hist_model.specs.declared.event.Actor.{Actor}
use Rattle.hist_model.specs.declared.event.Actor.TheVariants.{Worker}
use Rattle.hist_model.specs.declared.event.Event.{Event}
use Rattle.hist_model.specs.declared.event.What.{What}
use Rattle.hist_model.specs.declared.event.What.TheVariants.{Recv}
use Rattle.sys_abi.specs.declared.wire.Notif.{Notif}
use Rattle.audit_log.specs.Begun.{Begun, told}
use Rattle.audit_log.specs.SessionStages.{stages_at}
use Rattle.audit_log.specs.declared.session.SessionRecord.{SessionRecord}
use Rattle.audit_log.specs.Sessions.{begun, begun_by}
use Rattle.audit_log.specs.Received.{TellsReceived, received_by}
use Rattle.audit_log.specs.Served.{TellsSessions, is_for, latest, noted, row_at, session_by, session_for}

-- ---- Noting

pub length_noted : (o : Option ℕ) (n : ℕ) (found : List (Option ℕ)) → length (noted o n found) ≡ length found
length_noted None n found = refl
length_noted (Some c) n found = length-set found c (Some n)

pub noted_at : (o : Option ℕ) (n : ℕ) (found : List (Option ℕ)) (c : ℕ) → c < length found → get_or (noted o n found) c None ≡ (if is_place o c then Some n else get_or found c None)
noted_at None n found c l = refl
noted_at (Some k) n found c l = elim (cases_Bool (k == c)) [
  | inl y ↦ let q : k ≡ c = eqb-true k c y in rw (y, q) (get_or-set_at found c c (Some n) None refl l)
  | inr f ↦ let d : (c ≡ k → ⊥) = (λ q. cc (f, eq-eqb k c (sym q))) in rw f (get_or-set_other found k c (Some n) None d)
]

pub none_at : (room c : ℕ) → ◌≡◌ {A = Option ℕ} (get_or (replicate room None) c None) None
none_at zero c = refl
none_at (suc room) zero = refl
none_at (suc room) (suc c) = none_at room c

-- ---- The last of some

or-none : {A : Type 0} (o : Option A) → or_some o None ≡ o
or-none None = refl
or-none (Some a) = refl

or-or : {A : Type 0} (a b c : Option A) → or_some (or_some a b) c ≡ or_some a (or_some b c)
or-or None b c = refl
or-or (Some a) b c = refl

latest-append : {A : Type 0} (test : A → Bool) (xs ys : List A) → latest test (xs ++ ys) ≡ or_some (latest test ys) (latest test xs)
latest-append test [] ys = sym (or-none (latest test ys))
latest-append test (x ∷ xs) ys = ap (λ o. or_some o (if test x then Some x else None)) (latest-append test xs ys) ∙ or-or (latest test ys) (latest test xs) (if test x then Some x else None)

latest-push : {A : Type 0} (test : A → Bool) (xs : List A) (x : A) → latest test (xs ++ x ∷ []) ≡ (if test x then Some x else latest test xs)
latest-push test xs x = latest-append test xs (x ∷ []) ∙ by (test x)
  where
    by : (b : Bool) → or_some (or_some None (if b then Some x else None)) (latest test xs) ≡ (if b then Some x else latest test xs)
    by true = refl
    by false = refl

-- ---- The loop

-- the rows so far
pub record Served (calls : ℕ → Option ℕ) (rows : List SessionRecord) (room i : ℕ) (found : List (Option ℕ)) : Type 0 where
  pub number : length found ≡ room
  pub tells : (c : ℕ) → c < room → row_at rows (get_or found c None) ≡ latest (is_for calls c) (take i rows)

pub none_served : (calls : ℕ → Option ℕ) (rows : List SessionRecord) (room : ℕ) (found : List (Option ℕ)) → found ≡ replicate room None → Served calls rows room 0 found
none_served calls rows room found q = record { number = ap length q ∙ length-replicate room None; tells = λ c h. ap (λ xs. row_at rows (get_or xs c None)) q ∙ ap (row_at rows) (none_at room c) }

pub served_more : (calls : ℕ → Option ℕ) (rows : List SessionRecord) (room i : ℕ) (found : List (Option ℕ)) (d : SessionRecord) → i < length rows → Served calls rows room i found
    → Served calls rows room (i + 1) (noted (calls (get_or rows i d).place) i found)
served_more calls rows room i found d l h =
    let x = get_or rows i d in
    let o = calls x.place in
    record {
      number = length_noted o i found ∙ h.number;
      tells = λ c k.
          let here : c < length found = omega (arith, h.number) in
          ap (row_at rows) (noted_at o i found c here) ∙ (by o c (is_place o c) x (slice_get-get_or rows i d l) (h.tells c k)
          ∙ sym (ap (latest (is_for calls c)) (take_more rows i d l) ∙ latest-push (is_for calls c) (take i rows) x));
    }
  where
    by : (o : Option ℕ) (c : ℕ) (b : Bool) (x : SessionRecord) → slice_get rows i ≡ Some x → row_at rows (get_or found c None) ≡ latest (is_for calls c) (take i rows)
        → row_at rows (if b then Some i else get_or found c None) ≡ (if b then Some x else latest (is_for calls c) (take i rows))
    by o c true x q old = q
    by o c false x q old = old

pub all_served : (calls : ℕ → Option ℕ) (rows : List SessionRecord) (room i : ℕ) (found : List (Option ℕ)) → length rows ≤ i → Served calls rows room i found → TellsSessions calls rows room found
all_served calls rows room i found l h c k = h.tells c k ∙ ap (latest (is_for calls c)) (take_all i rows l)

pub same_sessions : (calls : ℕ → Option ℕ) (rows others : List SessionRecord) (room size : ℕ) (found same : List (Option ℕ)) → rows ≡ others → room ≡ size → found ≡ same
    → TellsSessions calls rows room found → TellsSessions calls others size same
same_sessions calls rows others room size found same p q r h = rw (← p, ← q, ← r) h

-- ---- Sessions

-- what is kept of the session that a step begins, where that is for the call
one-begun : (J : Judging) (calls : ℕ → Option ℕ) (H K : List Event) (c : ℕ) (who : Actor) (a : What) → ((notif : Notif) → a ≡ Recv (Ok notif) → calls (length K) ≡ call_with_id notif.id K)
    → latest (is_for calls c) (map (told J) (begun_by H K who a)) ≡ option_map (told J) (session_by H c K who a)
one-begun J calls H K c (Worker w) (Recv (Ok notif)) named =
    let s : Begun = record { place = length K; worker = w; notif = notif; steps = session_at w (length K) H; stages = stages_at w (length K) H } in
    ap (λ o. or_some None (if is_place o c then Some (told J s) else None)) (named notif refl) ∙ by s (is_place (call_with_id notif.id K) c)
  where
    by : (s : Begun) (b : Bool) → or_some None (if b then Some (told J s) else None) ≡ option_map (told J) (if b then Some s else None)
    by s true = refl
    by s false = refl
one-begun J calls H K c _ _ named = refl

or-map : {A B : Type 0} (f : A → B) (a b : Option A) → or_some (option_map f a) (option_map f b) ≡ option_map f (or_some a b)
or-map f None b = refl
or-map f (Some a) b = refl

pub sessions_are : (J : Judging) (calls : ℕ → Option ℕ) (H later K : List Event) (c : ℕ) → H ≡ later ++ K → TellsReceived H calls
    → latest (is_for calls c) (map (told J) (begun H K)) ≡ option_map (told J) (session_for H c K)
unfolding begun session_for
sessions_are J calls H later [] c q t = refl
sessions_are J calls H later (e ∷ K) c q t =
    let whole : H ≡ (later ++ e ∷ []) ++ K = q ∙ sym (append_assoc later (e ∷ []) K) in
    let here = one-begun J calls H K c e.who e.what (λ notif is. t later K e q ∙ ap (received_by (λ x. call_with_id x K)) is) in
    ap (latest (is_for calls c)) (map-append (told J) (begun H K) (begun_by H K e.who e.what))
    ∙ (latest-append (is_for calls c) (map (told J) (begun H K)) (map (told J) (begun_by H K e.who e.what))
    ∙ (ap₂ or_some here (sessions_are J calls H (later ++ e ∷ []) K c whole t) ∙ or-map (told J) (session_by H c K e.who e.what) (session_for H c K)))

-- by the row that is kept for the call at a place
pub session_row : (J : Judging) (calls : ℕ → Option ℕ) (H : List Event) (rows : List SessionRecord) (served : List (Option ℕ)) → rows ≡ map (told J) (begun H H) → TellsReceived H calls
    → TellsSessions calls rows (length H) served → (c : ℕ) → c < length H → row_at rows (get_or served c None) ≡ option_map (told J) (session_for H c H)
session_row J calls H rows served kept received sessions c l = sessions c l ∙ (ap (latest (is_for calls c)) kept ∙ sessions_are J calls H [] H c refl received)
