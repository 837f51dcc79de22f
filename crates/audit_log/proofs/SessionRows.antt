-- A table of sessions stands for them with one more step of a worker, with one more session, and with more workers.
-- By cases on whether a worker, or a session, is the one that the step is of.
use Rattle.std.proofs.Common.{inl, inr, ◌≡◌, ℕ, ℤ, zero, suc, ◌+◌, ◌<◌, ◌≤◌, true, false, List, [], ◌∷◌, ◌++◌, length, get_or, set, Option, Some, None, refl, sym, ap, subst, ◌∙◌, append-nil, arith}
use Rattle.std.specs.Prelude.{◌==◌, Result, Ok, Err, OnOk, map}
use Rattle.std.proofs.lemmas.Bool.{cases_Bool, cases_order, eqb-true, eq-eqb, ne_eqb}
use Rattle.std.proofs.lemmas.List.{length-append, length-map, get_or-map, get_or_at, get_or_append_left, get_or_past, get_or-set_other, map-append, map-set}
use Rattle.std.proofs.lemmas.Grind.{get_or-set_at}
use Rattle.hist_model.specs.Look.{ev}
use Rattle.hist_model.specs.Kinds.{skips}
use Rattle.hist_model.specs.Copies.{heard, plan}
use Rattle.hist_model.specs.ReportAudit.{is_shut, judging_by}
use Rattle.hist_model.specs.declared.event.Actor.TheVariants.{Worker}
use Rattle.hist_model.specs.Sessions.{fetched_by}
use Rattle.hist_model.specs.declared.event.Event.{Event}
use Rattle.hist_model.specs.declared.event.What.{What}
use Rattle.hist_model.specs.declared.event.What.TheVariants.{Recv}
use Rattle.hist_model.specs.declared.policy.Rule.{Rule}
use Rattle.hist_model.specs.declared.report.Finding.TheVariants.{Open}
use Rattle.sys_abi.specs.declared.memory.NoMemory.{NoMemory}
use Rattle.sys_abi.specs.declared.wire.Notif.{Notif}
use Rattle.arg_capture.specs.Captures.{Captured, Follows}
use Rattle.audit_log.specs.Begun.{Begun, IsRead, told, with_step}
use Rattle.audit_log.specs.SessionFacts.{facts_of}
use Rattle.audit_log.specs.SessionStages.{no_stages}
use Rattle.audit_log.specs.Sessions.{after_event, begun, started, with_event}
use Rattle.audit_log.specs.SessionTable.{AllShut, IsGrown, IsRowStepped, IsStepped, StandsFor, current, no_row, no_session, nobody, session_in}
use Rattle.audit_log.specs.declared.session.SessionRecord.{SessionRecord}
use Rattle.audit_log.specs.declared.session_table.Current.{Current}
use Rattle.audit_log.specs.declared.session_table.SessionTable.{SessionTable}
use Rattle.audit_log.proofs.SessionEvents.{begun_none, nothing_received, own_step, other_stays, over_stays, receive_ends, stays_open, was_received}

-- ---- Lists that change at one place

map_fixed : (f : Begun → Begun) (S : List Begun) → ((j : ℕ) → j < length S → f (session_in S j) ≡ session_in S j) → map f S ≡ S
map_fixed f [] h = refl
map_fixed f (s ∷ S) h =
    let first : f s ≡ s = h 0 (omega arith) in
    rw (first, map_fixed f S (λ j l. h (suc j) (omega arith))) refl

map_set : (f : Begun → Begun) (S : List Begun) (i : ℕ) → i < length S → ((j : ℕ) → j < length S → (j ≡ i → ⊥) → f (session_in S j) ≡ session_in S j)
    → map f S ≡ set S i (f (session_in S i))
map_set f [] i l h = absurd (omega arith)
map_set f (s ∷ S) zero l h = ap (λ t. f s ∷ t) (map_fixed f S (λ j m. h (suc j) (omega arith) (λ q. cc)))
map_set f (s ∷ S) (suc i) l h =
    let first : f s ≡ s = h 0 (omega arith) (λ q. cc) in
    rw (first, map_set f S i (omega arith) (λ j m n. h (suc j) (omega arith) (λ q. n (omega arith)))) refl

-- ---- One more step of a worker

-- a session that isn't the worker's current one stays
stays_other : (rules : List Rule) (S : List Begun) (t : SessionTable) (place w : ℕ) (a : What) → StandsFor rules S t → (j : ℕ) → j < length S → ((current t w).row ≡ Some j → ⊥)
    → with_event place (ev (Worker w) a) (session_in S j) ≡ session_in S j
stays_other rules S t place w a k j l n = elim (cases_Bool (is_shut (session_in S j).steps)) [
  | inl y ↦ over_stays place (ev (Worker w) a) (session_in S j) y
  | inr o ↦ elim (cases_Bool (w == (session_in S j).worker)) [
    | inl y ↦
        let e : w ≡ (session_in S j).worker = eqb-true w (session_in S j).worker y in
        absurd (n (ap (λ v. (current t v).row) e ∙ k.newest j l o))
    | inr m ↦ other_stays place (ev (Worker w) a) (session_in S j) m
  ]
]

-- a worker that began no session has none
pub idle_ok : (rules : List Rule) (S : List Begun) (t : SessionTable) (place w number : ℕ) (a : What) → StandsFor rules S t → number ≡ w → length t.workers.items ≤ number
    → StandsFor rules (map (with_event place (ev (Worker w) a)) S) t
idle_ok rules S t place w number a k e past =
    let idle : current t w ≡ nobody = get_or_past t.workers.items w nobody (omega arith) in
    let none : (j : ℕ) → (current t w).row ≡ Some j → ⊥ = (λ j p. let q : None ≡ Some j = ap (λ (c : Current). c.row) (sym idle) ∙ p in cc q) in
    subst (λ xs. StandsFor rules xs t) (sym (map_fixed (with_event place (ev (Worker w) a)) S (λ j l. stays_other rules S t place w a k j l (none j)))) k

module _ (rules : List Rule) (S : List Begun) (t u : SessionTable) (place w : ℕ) (a : What) (x : Current)
    (k : StandsFor rules S t) (inside : w < length t.workers.items) (runs : skips a ≡ false)
    (g : IsStepped rules place a (current t w) x t.rows.items u.rows.items) (ws : u.workers.items ≡ set t.workers.items w x) where
  abbrev pub f : Begun → Begun
  f = with_event place (ev (Worker w) a)

  at-own : current u w ≡ x
  at-own = ap (λ xs. get_or xs w nobody) ws ∙ get_or-set_at t.workers.items w w x nobody refl inside

  at-other : (v : ℕ) → (v ≡ w → ⊥) → current u v ≡ current t v
  at-other v n = ap (λ xs. get_or xs v nobody) ws ∙ get_or-set_other t.workers.items w v x nobody n

  same-row : (v : ℕ) → (current u v).row ≡ (current t v).row
  same-row v = elim (cases_Bool (v == w)) [
    | inl y ↦ let e : v ≡ w = eqb-true v w y in subst (λ z. (current u z).row ≡ (current t z).row) (sym e) (ap (λ (c : Current). c.row) at-own ∙ g.0)
    | inr n ↦ ap (λ (c : Current). c.row) (at-other v (λ e. cc (n, eq-eqb v w e)))
  ]

  stays : (j : ℕ) → j < length S → ((current t w).row ≡ Some j → ⊥) → f (session_in S j) ≡ session_in S j
  stays j l n = stays_other rules S t place w a k j l n

  after-at : (j : ℕ) → j < length S → session_in (map f S) j ≡ f (session_in S j)
  after-at j l = get_or-map f S j no_session no_session l

  rows-none : (current t w).row ≡ None → u.rows.items ≡ map (told (judging_by rules)) (map f S)
  rows-none o =
      let h : u.rows.items ≡ t.rows.items = subst (λ z. IsRowStepped rules place a (current t w).notif x.notif (current t w).capture x.capture t.rows.items u.rows.items z) o g.1 in
      h ∙ k.rows ∙ ap (map (told (judging_by rules))) (sym (map_fixed f S (λ j l. stays j l (λ q. cc (q, o)))))

  stepped : (i : ℕ) → (current t w).row ≡ Some i → (u.rows.items ≡ set t.rows.items i (told (judging_by rules) (with_step place a (session_in S i)))) × IsRead (with_step place a (session_in S i)) x.notif x.capture
  stepped i o =
      let own = k.own w i o in
      let long : length t.rows.items ≡ length S = ap length k.rows ∙ length-map S (told (judging_by rules)) in
      let l : i < length t.rows.items = omega (arith, own.0) in
      let is : get_or t.rows.items i no_row ≡ told (judging_by rules) (session_in S i) = ap (λ xs. get_or xs i no_row) k.rows ∙ get_or-map (told (judging_by rules)) S i no_session no_row own.0 in
      subst (λ z. IsRowStepped rules place a (current t w).notif x.notif (current t w).capture x.capture t.rows.items u.rows.items z) o g.1 l (session_in S i) is (k.read w i o)

  own-is : (i : ℕ) → (current t w).row ≡ Some i → f (session_in S i) ≡ with_step place a (session_in S i)
  own-is i o = let own = k.own w i o in own_step place w a (session_in S i) own.1 runs

  rows-some : (i : ℕ) → (current t w).row ≡ Some i → u.rows.items ≡ map (told (judging_by rules)) (map f S)
  rows-some i o =
      let own = k.own w i o in
      let q : map f S ≡ set S i (f (session_in S i)) = map_set f S i own.0 (λ j l n. stays j l (λ p. n (let z : Some i ≡ Some j = sym o ∙ p in cc z))) in
      let st = stepped i o in
      st.0 ∙ ap (λ xs. set xs i (told (judging_by rules) (with_step place a (session_in S i)))) k.rows
      ∙ sym (map-set (told (judging_by rules)) S i (with_step place a (session_in S i)))
      ∙ ap (λ s. map (told (judging_by rules)) (set S i s)) (sym (own-is i o))
      ∙ ap (map (told (judging_by rules))) (sym q)

  rows-after : (o : Option ℕ) → (current t w).row ≡ o → u.rows.items ≡ map (told (judging_by rules)) (map f S)
  rows-after None o = rows-none o
  rows-after (Some i) o = rows-some i o

  read-after : (v j : ℕ) → (current u v).row ≡ Some j → IsRead (session_in (map f S) j) (current u v).notif (current u v).capture
  read-after v j o =
      let old : (current t v).row ≡ Some j = sym (same-row v) ∙ o in
      let own = k.own v j old in
      elim (cases_Bool (v == w)) [
        | inl y ↦
            let e : v ≡ w = eqb-true v w y in
            let mine : (current t w).row ≡ Some j = ap (λ z. (current t z).row) (sym e) ∙ old in
            let st = stepped j mine in
            let is : session_in (map f S) j ≡ with_step place a (session_in S j) = after-at j own.0 ∙ own-is j mine in
            let c : current u v ≡ x = ap (current u) e ∙ at-own in
            subst (λ s. IsRead s (current u v).notif (current u v).capture) (sym is) (subst (λ (z : Current). IsRead (with_step place a (session_in S j)) z.notif z.capture) (sym c) st.1)
        | inr n ↦
            let d : (v ≡ w → ⊥) = (λ e. cc (n, eq-eqb v w e)) in
            let m : (w ≡ (session_in S j).worker → ⊥) = (λ e. d (sym own.1 ∙ sym e)) in
            let is : session_in (map f S) j ≡ session_in S j = after-at j own.0 ∙ other_stays place (ev (Worker w) a) (session_in S j) (ne_eqb w (session_in S j).worker m) in
            subst (λ s. IsRead s (current u v).notif (current u v).capture) (sym is) (subst (λ (z : Current). IsRead (session_in S j) z.notif z.capture) (sym (at-other v d)) (k.read v j old))
      ]

  pub advanced : StandsFor rules (map f S) u
  advanced = record {
    rows = rows-after (current t w).row refl;
    newest = λ j l o.
        let m : j < length S = omega (arith, length-map S f) in
        let is = after-at j m in
        let stay : is_shut (f (session_in S j)).steps ≡ false = subst (λ (s : Begun). is_shut s.steps ≡ false) is o in
        let old = k.newest j m (stays_open place (ev (Worker w) a) (session_in S j) stay) in
        subst (λ (s : Begun). (current u s.worker).row ≡ Some j) (sym is) (same-row (session_in S j).worker ∙ old);
    own = λ v j o.
        let own = k.own v j (sym (same-row v) ∙ o) in
        (omega (arith, own.0, length-map S f), subst (λ (s : Begun). s.worker ≡ v) (sym (after-at j own.0)) own.1);
    read = read-after;
  }

-- ---- One more session

module _ (rules : List Rule) (S : List Begun) (t u : SessionTable) (place w : ℕ) (n : Notif) (x : Current)
    (k : StandsFor rules S t) (over : AllShut w S) (inside : w < length t.workers.items) where
  abbrev pub started-one : Begun
  started-one = record { place = place; worker = w; notif = n; steps = Recv (Ok n) ∷ []; stages = no_stages }

  pub joined_by : u.rows.items ≡ t.rows.items ++ told (judging_by rules) started-one ∷ [] → u.workers.items ≡ set t.workers.items w x
      → x.row ≡ Some (length t.rows.items) → x.notif ≡ n → Follows (plan n.call.nr n.call.args) [] x.capture → StandsFor rules (S ++ started-one ∷ []) u
  unfolding heard
  joined_by rs ws row named fresh =
      let one = started-one in
      let long : length t.rows.items ≡ length S = ap length k.rows ∙ length-map S (told (judging_by rules)) in
      let mine : x.row ≡ Some (length S) = row ∙ ap Some long in
      let at-own : current u w ≡ x = ap (λ xs. get_or xs w nobody) ws ∙ get_or-set_at t.workers.items w w x nobody refl inside in
      let at-other : (v : ℕ) → (v ≡ w → ⊥) → current u v ≡ current t v = (λ v d. ap (λ xs. get_or xs v nobody) ws ∙ get_or-set_other t.workers.items w v x nobody d) in
      let last : session_in (S ++ one ∷ []) (length S) ≡ one = get_or_at S one [] no_session (length S) refl in
      let older : (j : ℕ) → j < length S → session_in (S ++ one ∷ []) j ≡ session_in S j = (λ j l. get_or_append_left S (one ∷ []) no_session j l) in
      let size : length (S ++ one ∷ []) ≡ length S + 1 = length-append S (one ∷ []) in
      let own-row : (j : ℕ) → (current u w).row ≡ Some j → j ≡ length S =
      (λ j o. let z : Some (length S) ≡ Some j = sym mine ∙ ap (λ (c : Current). c.row) (sym at-own) ∙ o in cc z) in
      record {
        rows = rs ∙ ap (λ xs. xs ++ told (judging_by rules) one ∷ []) k.rows ∙ sym (map-append (told (judging_by rules)) S (one ∷ []));
        newest = λ j l o. elim (cases_order j (length S)) [
          | inl q ↦
              let is : session_in (S ++ one ∷ []) j ≡ one = ap (session_in (S ++ one ∷ [])) q ∙ last in
              subst (λ (s : Begun). (current u s.worker).row ≡ Some j) (sym is) (ap (λ (c : Current). c.row) at-own ∙ mine ∙ ap Some (sym q))
          | inr z ↦ elim z [
            | inl m ↦
                let is = older j m in
                let stay : is_shut (session_in S j).steps ≡ false = subst (λ (s : Begun). is_shut s.steps ≡ false) is o in
                let d : ((session_in S j).worker ≡ w → ⊥) = (λ e. cc (over j m e, stay)) in
                subst (λ (s : Begun). (current u s.worker).row ≡ Some j) (sym is) (ap (λ (c : Current). c.row) (at-other (session_in S j).worker d) ∙ k.newest j m stay)
            | inr m ↦ absurd (omega arith)
          ]
        ];
        own = λ v j o. elim (cases_Bool (v == w)) [
          | inl y ↦
              let e : v ≡ w = eqb-true v w y in
              let q : j ≡ length S = own-row j (ap (λ z. (current u z).row) (sym e) ∙ o) in
              (omega arith, subst (λ (s : Begun). s.worker ≡ v) (sym (ap (session_in (S ++ one ∷ [])) q ∙ last)) (sym e))
          | inr m ↦
              let own = k.own v j (ap (λ (c : Current). c.row) (sym (at-other v (λ e. cc (m, eq-eqb v w e)))) ∙ o) in
              (omega (arith, own.0), subst (λ (s : Begun). s.worker ≡ v) (sym (older j own.0)) own.1)
        ];
        read = λ v j o. elim (cases_Bool (v == w)) [
          | inl y ↦
              let e : v ≡ w = eqb-true v w y in
              let q : j ≡ length S = own-row j (ap (λ z. (current u z).row) (sym e) ∙ o) in
              let is : session_in (S ++ one ∷ []) j ≡ one = ap (session_in (S ++ one ∷ [])) q ∙ last in
              let c : current u v ≡ x = ap (current u) e ∙ at-own in
              let read-one : IsRead one x.notif x.capture = subst (λ m. IsRead one m x.capture) (sym named) (refl, λ h. fresh) in
              subst (λ s. IsRead s (current u v).notif (current u v).capture) (sym is) (subst (λ (z : Current). IsRead one z.notif z.capture) (sym c) read-one)
          | inr m ↦
              let other = at-other v (λ e. cc (m, eq-eqb v w e)) in
              let old : (current t v).row ≡ Some j = ap (λ (c : Current). c.row) (sym other) ∙ o in
              let own = k.own v j old in
              subst (λ s. IsRead s (current u v).notif (current u v).capture) (sym (older j own.0)) (subst (λ (z : Current). IsRead (session_in S j) z.notif z.capture) (sym other) (k.read v j old))
        ];
      }

-- ---- One more event of a worker

-- a worker that receives has no open session
pub all_over : (place w : ℕ) (n : Notif) (S : List Begun) → AllShut w (map (with_event place (ev (Worker w) (Recv (Ok n)))) S)
all_over place w n S j l e =
    let f : Begun → Begun = with_event place (ev (Worker w) (Recv (Ok n))) in
    let m : j < length S = omega (arith, length-map S f) in
    let is : session_in (map f S) j ≡ f (session_in S j) = get_or-map f S j no_session no_session m in
    let mine : (session_in S j).worker ≡ w = subst (λ (s : Begun). s.worker ≡ w) is e in
    subst (λ (s : Begun). is_shut s.steps ≡ true) (sym is) (receive_ends place w n (session_in S j) mine)

any_default : {A : Type 0} (xs : List A) (i : ℕ) (d e : A) → i < length xs → get_or xs i d ≡ get_or xs i e
any_default [] i d e l = absurd (omega arith)
any_default (x ∷ xs) zero d e l = refl
any_default (x ∷ xs) (suc i) d e l = any_default xs i d e (omega arith)

-- one more step of the session in a row, where there was memory for it
pub row_ok : (r : Result (Unit {0}) NoMemory) (rules : List Rule) (rows : List SessionRecord) (i place : ℕ) (a : What) (n : Notif) (c after : Captured) (old new d : SessionRecord) → old ≡ get_or rows i d
    → OnOk r ((s : Begun) → old ≡ told (judging_by rules) s → IsRead s n c → (new ≡ told (judging_by rules) (with_step place a s)) × IsRead (with_step place a s) n after)
    → OnOk r (IsRowStepped rules place a n n c after rows (set rows i new) (Some i))
row_ok (Err e) rules rows i place a n c after old new d is g = tt
row_ok (Ok v) rules rows i place a n c after old new d is g = λ l s p q.
    let st = g s (is ∙ any_default rows i d no_row l ∙ p) q in
    (ap (set rows i) st.0, st.1)

-- the table with one more step of a worker, where there was memory for it
pub advanced_ok : (r : Result (Unit {0}) NoMemory) (rules : List Rule) (S : List Begun) (t u : SessionTable) (place w number : ℕ) (a : What) (old x d : Current)
    → StandsFor rules S t → number < length t.workers.items → number ≡ w → skips a ≡ false → old ≡ get_or t.workers.items number d
    → OnOk r (IsStepped rules place a old x t.rows.items u.rows.items) → u.workers.items ≡ set t.workers.items number x → OnOk r (StandsFor rules (map (with_event place (ev (Worker w) a)) S) u)
advanced_ok (Err e) rules S t u place w number a old x d k small e1 runs is g ws = tt
advanced_ok (Ok v) rules S t u place w number a old x d k small e1 runs is g ws =
    let l : w < length t.workers.items = omega arith in
    let q : old ≡ current t w = is ∙ ap (λ i. get_or t.workers.items i d) e1 ∙ any_default t.workers.items w d nobody l in
    advanced rules S t u place w a x k l runs (subst (λ o. IsStepped rules place a o x t.rows.items u.rows.items) q g) (ws ∙ ap (λ i. set t.workers.items i x) e1)

-- the row of a session that has just begun, where this is the number of its call
abbrev pub first_row : ℕ → ℕ → Notif → ℤ → SessionRecord
first_row place w n nr = record { place = place; worker = w; id = n.id; nr = nr; facts = facts_of (Recv (Ok n) ∷ []); back = None; found = Open; stages = no_stages }

-- and with one more session
pub begun_ok : (r : Result (Unit {0}) NoMemory) (rules : List Rule) (S : List Begun) (t u : SessionTable) (place w number row : ℕ) (n : Notif) (x : Current)
    → StandsFor rules S t → AllShut w S → number < length t.workers.items → number ≡ w → row ≡ length t.rows.items
    → u.rows.items ≡ t.rows.items ++ told (judging_by rules) (record { place = place; worker = w; notif = n; steps = Recv (Ok n) ∷ []; stages = no_stages }) ∷ [] → u.workers.items ≡ set t.workers.items number x
    → OnOk r (x.row ≡ Some row) → OnOk r (x.notif ≡ n) → OnOk r (Follows (plan n.call.nr n.call.args) [] x.capture)
    → OnOk r (StandsFor rules (S ++ (record { place = place; worker = w; notif = n; steps = Recv (Ok n) ∷ []; stages = no_stages }) ∷ []) u)
begun_ok (Err e) rules S t u place w number row n x k over small e1 e2 rs ws o named f = tt
begun_ok (Ok v) rules S t u place w number row n x k over small e1 e2 rs ws o named f =
    let l : w < length t.workers.items = omega arith in
    joined_by rules S t u place w n x k over l rs (ws ∙ ap (λ i. set t.workers.items i x) e1) (o ∙ ap Some e2) named f

-- ---- More workers

-- the table with more workers
pub grown_stands : (rules : List Rule) (S : List Begun) (t u : SessionTable) → StandsFor rules S t → u.rows.items ≡ t.rows.items → IsGrown t.workers.items u.workers.items → StandsFor rules S u
grown_stands rules S t u k rs g = record {
  rows = rs ∙ k.rows;
  newest = λ j l o. (g (session_in S j).worker).row ∙ k.newest j l o;
  own = λ w j o. k.own w j (sym (g w).row ∙ o);
  read = λ w j o.
      let old : (current t w).row ≡ Some j = sym (g w).row ∙ o in
      subst (λ (z : Current). IsRead (session_in S j) z.notif z.capture) (sym ((g w).same j old)) (k.read w j old);
}

-- a worker that received, and begins a session
pub received_ok : (r : Result (Unit {0}) NoMemory) (rules : List Rule) (S : List Begun) (mid new : SessionTable) (place w : ℕ) (a : What) (n : Notif) → fetched_by a ≡ Some n
    → StandsFor rules (map (with_event place (ev (Worker w) a)) S) mid
    → ((T : List Begun) → StandsFor rules T mid → AllShut w T → OnOk r (StandsFor rules (T ++ started place (Worker w) (Recv (Ok n))) new))
    → OnOk r (StandsFor rules (after_event place (ev (Worker w) a) S) new)
received_ok r rules S mid new place w a n h k begins =
    let q : a ≡ Recv (Ok n) = was_received a n h in
    let T = map (with_event place (ev (Worker w) (Recv (Ok n)))) S in
    let at : StandsFor rules T mid = subst (λ b. StandsFor rules (map (with_event place (ev (Worker w) b)) S) mid) q k in
    subst (λ b. OnOk r (StandsFor rules (after_event place (ev (Worker w) b) S) new)) (sym q) (begins T at (all_over place w n S))

pub nothing_ok : (rules : List Rule) (S : List Begun) (new : SessionTable) (place w : ℕ) (a : What) → fetched_by a ≡ None
    → StandsFor rules (map (with_event place (ev (Worker w) a)) S) new → StandsFor rules (after_event place (ev (Worker w) a) S) new
nothing_ok rules S new place w a h k = rw (nothing_received place w a h, append-nil (map (with_event place (ev (Worker w) a)) S)) k

-- before all events
pub none_stand : (rules : List Rule) (H : List Event) (t : SessionTable) → H ≡ [] → StandsFor rules [] t → StandsFor rules (begun H H) t
none_stand rules H t q k = rw (q, begun_none) k
