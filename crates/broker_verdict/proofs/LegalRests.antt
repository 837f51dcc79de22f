-- No legal history breaks the clauses of an effect's copy: it was read, in the caller's memory, while the call waited, and then found valid.
-- By the copy in the plan's order, which gives each byte (`LegalCopies`).
use Rattle.mediation.proofs.Common.{name_eq-refl}
use Rattle.mediation.proofs.Common.{[], Act, Acts, AddfdPut, and_parts, ap, Bool, Complete, Decision, eq-eqb, Event, false, Injects, is_good_check, is_place, IsLegal, length}
use Rattle.mediation.proofs.Common.{List, nat_le, None, not, Option, Plant, Plants, Policy, progress, refl, Result, reverse, Rules, rules_of, Script, session, session_call, Some, sym, System, system_of, true}
use Rattle.mediation.proofs.Common.{wanted, What, ℕ, ◌&&◌, ◌++◌, ◌<◌, ◌^◌, ◌||◌, ◌∙◌, ◌∷◌, ◌≡◌, ◌≤◌}
use Rattle.std.specs.Prelude.{slice_get}
use Rattle.std.specs.List.{list_all, list_any}
use Rattle.std.proofs.lemmas.Bool.{leb-true}
use Rattle.sys_abi.specs.declared.wire.Addfd.{Addfd}
use Rattle.hist_model.specs.Copies.{Wants}
use Rattle.hist_model.specs.Legal.{Legal}
use Rattle.hist_model.specs.Ranges.{end_of, is_page_address, is_range}
use Rattle.hist_model.specs.ScriptRules.{IsScript}
use Rattle.hist_model.specs.declared.policy.Cap.{Cap}
use Rattle.hist_model.specs.declared.request.Request.{Request}
use Rattle.hist_model.specs.declared.script.MapRange.{MapRange}
use Rattle.hist_model.proofs.Pieces.{piece_wanted, wanted_some}
use Rattle.mediation.proofs.KernelClauses.{reads_memory}
use Rattle.mediation.proofs.Order.{any-number}
use Rattle.mediation.proofs.Rows.{of-kernel, WorkerRow}
use Rattle.broker_verdict.proofs.CopyGiven.{plan_given}
use Rattle.broker_verdict.proofs.LegalBases.{base_checked}
use Rattle.broker_verdict.proofs.LegalClauses.{keeps, none-some}
use Rattle.broker_verdict.proofs.LegalCopies.{chain-given, EndLow, least-any, sound, texts-given}
use Rattle.broker_verdict.proofs.LegalGrants.{act-is, texts-granted, Uses, uses}
use Rattle.broker_verdict.proofs.LegalReads.{answers, copies, planned-all}
use Rattle.broker_verdict.proofs.LegalSeats.{checked}
use Rattle.broker_verdict.specs.Choices.{decided, injects_by_registers}
use Rattle.broker_verdict.specs.Effects.{base_is_unchecked, can_have, is_empty_list, is_torn, is_unchecked, rests_on, rests_on_nothing, rests_on_others, rests_on_stale, texts_eq, texts_of, writes_elsewhere}
use Rattle.broker_verdict.specs.SeatCopies.{copies_of, fit_parts, gives_texts, newest_copy, plan_of, planned_from, texts_in, whole_in, worth_least}
use Rattle.broker_verdict.specs.Seats.{args_of, Foreign, Fresh, is_checked, is_effect, nr_of, reads, Stale, Valid, Worth, request_with}
use Rattle.broker_verdict.specs.Trusted.{Keeps, seat_breaks}
use Rattle.broker_verdict.specs.declared.clause.Clause.{Clause}
use Rattle.broker_verdict.specs.declared.clause.Clause.TheVariants.{OtherMemory, StaleCopy, Torn, Unchecked, Unread}

module _ (P : Policy) (S : Script) where
  abbrev pub R : Rules
  R = rules_of P S.figures

  abbrev pub T : System
  T = system_of S

  -- the copy by which a worker acts, however far its reads have to be relied on
  pub record Rests (K : List Event) (w c : ℕ) (texts : List (List ℕ)) : Type 0 where
    pub given : (least : Worth) → gives_texts (worth_least least (reads K w)) (plan_of K c) texts ≡ true
    pub fits : fit_parts (plan_of K c) texts ≡ true
    pub is_planned : (least : Worth) → planned_from (plan_of K c) [] (reverse (worth_least least (reads K w))) ≡ Complete texts
    pub is_checked : is_checked K w ≡ true

  wants-some : (K : List Event) (c : ℕ) (taken : List (Result (List ℕ) ℕ)) (a n : ℕ) → progress (plan_of K c) taken ≡ Wants a n → 1 ≤ n
  wants-some K c taken a n h = wanted_some (progress (plan_of K c) taken) (a, n) (piece_wanted (nr_of K c) (args_of K c) taken) (ap wanted h)

  pub rests : (K : List Event) (w : ℕ) (decision : Decision) → EndLow S.map → IsLegal T R K → length K < 2 ^ 64 → (u : Uses P S K w decision) → Rests K w u.call u.texts
  rests K w decision low legal room u =
      let k = copies T P S.figures K legal room w u.call u.in_hand in
      let valid = k.valid u.checked_twice in
      let all : (least : Worth) → worth_least least (reads K w) ≡ reads K w = λ least. least-any least (reads K w) valid in
      let planned : planned_from (plan_of K u.call) [] (reverse (reads K w)) ≡ Complete u.texts = rw (all Valid) at u.is_planned in
      let given = chain-given (plan_of K u.call) (reads K w) k.chain (sound S K low (reads_memory S K (of-kernel T R K legal) room) w) (wants-some K u.call) in
      let read = plan_given _ (plan_of K u.call) (reverse (answers (reads K w))) u.texts given (sym (planned-all (plan_of K u.call) (reads K w) k.chain) ∙ planned) in
      record {
        given = λ least. rw (all least) (texts-given (reads K w) (plan_of K u.call) u.texts read.given);
        fits = read.fits;
        is_planned = λ least. rw (all least) planned;
        is_checked = checked T R K legal room w u.call u.in_hand (any-number is_good_check (session K w) ∙ ap (nat_le 1) u.checked_twice);
      }

  not-true : (b : Bool) → b ≡ true → not b ≡ false
  not-true true h = refl
  not-true false h = cc

  -- ---- of an act

  act-texts : (K : List Event) (w : ℕ) (q : Request) (cap : Option Cap) (u : Uses P S K w (Acts q cap)) → texts_of q ≡ u.texts
  act-texts K w q cap u =
      let i = act-is P S (request_with K u.call u.texts) q cap (decided P K u.call u.texts) u.decided_so in
      ap texts_of i.is ∙ (texts-granted (slice_get P.rules (decided P K u.call u.texts).0) (request_with K u.call u.texts) ∙ u.named)

  act-rests : (least : Worth) (K : List Event) (w : ℕ) (q : Request) (cap : Option Cap) (a : Result (Unit {0}) ℕ) (u : Uses P S K w (Acts q cap)) → Rests K w u.call u.texts
      → rests_on P least K w u.call (Act q cap a) ≡ true
  act-rests least K w q cap a u r = rw (act-texts K w q cap u) (r.given least)

  act-fits : (K : List Event) (w : ℕ) (q : Request) (cap : Option Cap) (a : Result (Unit {0}) ℕ) (u : Uses P S K w (Acts q cap)) → Rests K w u.call u.texts → can_have K u.call (Act q cap a) ≡ true
  act-fits K w q cap a u r = rw (act-texts K w q cap u) r.fits

  -- ---- of a request for a descriptor

  not-empty : (all : List (List (List ℕ))) (texts : List (List ℕ)) → not (is_empty_list (all ++ texts ∷ [])) ≡ true
  not-empty [] texts = refl
  not-empty (t ∷ all) texts = refl

  or-second : (a b : Bool) → b ≡ true → (a || b) ≡ true
  or-second true b h = refl
  or-second false b h = h

  put-rests : (least : Worth) (K : List Event) (w c : ℕ) (q : Addfd) (a : Result (Unit {0}) ℕ) (texts : List (List ℕ)) → Rests K w c texts → rests_on P least K w c (AddfdPut q a) ≡ true
  put-rests least K w c q a texts r =
      let all = texts_in (newest_copy (worth_least least (reads K w)) (plan_of K c)) in
      let v : whole_in (copies_of least K w c) ≡ all ++ texts ∷ [] = rw (r.is_planned least) refl in
      rw v (or-second (injects_by_registers P K c) _ (not-empty all texts))

  -- ---- of each effect of a worker

  pub record Founded (K : List Event) (w c : ℕ) (what : What) : Type 0 where
    pub in_hand : session_call K w ≡ Some c
    pub can : can_have K c what ≡ true
    pub on : (least : Worth) → rests_on P least K w c what ≡ true
    pub own : writes_elsewhere K w c what ≡ false
    pub is_checked : is_checked K w ≡ true
    pub from_checked : base_is_unchecked S K w what ≡ false
    pub untorn : is_torn K w c what ≡ false

  texts-same : (t : List (List ℕ)) → texts_eq t t ≡ true
  texts-same [] = refl
  texts-same (a ∷ more) = rw (name_eq-refl a, texts-same more) refl

  last-any : (f : List (List ℕ) → Bool) (more : List (List (List ℕ))) (t : List (List ℕ)) → f t ≡ true → list_any f (more ++ t ∷ []) ≡ true
  last-any f [] t h = rw h refl
  last-any f (s ∷ more) t h = let ih = last-any f more t h in go (f s) refl ih
    where
      go : (b : Bool) → f s ≡ b → list_any f (more ++ t ∷ []) ≡ true → list_any f (s ∷ (more ++ t ∷ [])) ≡ true
      go true q i = rw q refl
      go false q i = rw (q, i) refl

  either-so : (f a b c : Bool) → a ≡ true → (f && not ((a || b) || c)) ≡ false
  either-so true true b c h = refl
  either-so false true b c h = refl
  either-so f false b c h = cc

  -- its copy in the plan's order has the texts that an act names
  act-so : (K : List Event) (w : ℕ) (q : Request) (cap : Option Cap) (a : Result (Unit {0}) ℕ) (u : Uses P S K w (Acts q cap)) → Rests K w u.call u.texts → is_torn K w u.call (Act q cap a) ≡ false
  act-so K w q cap a u r =
      let all = texts_in (newest_copy (worth_least Valid (reads K w)) (plan_of K u.call)) in
      let v : whole_in (copies_of Valid K w u.call) ≡ all ++ u.texts ∷ [] = rw (r.is_planned Valid) refl in
      let s : list_any (texts_eq u.texts) (whole_in (copies_of Valid K w u.call)) ≡ true = rw v (last-any (texts_eq u.texts) all u.texts (texts-same u.texts)) in
      rw (act-texts K w q cap u) (either-so _ _ _ _ s)

  -- the worker's row of an effect tells by which copy it is done
  founded-act : (K : List Event) (w : ℕ) (q : Request) (cap : Option Cap) (a : Result (Unit {0}) ℕ) → EndLow S.map → IsLegal T R K → length K < 2 ^ 64 → (u : Uses P S K w (Acts q cap)) → base_is_unchecked S K w (Act q cap a) ≡ false → Founded K w u.call (Act q cap a)
  founded-act K w q cap a low legal room u b =
      let r = rests K w (Acts q cap) low legal room u in
      record { in_hand = u.in_hand; can = act-fits K w q cap a u r; on = λ least. act-rests least K w q cap a u r; own = refl; is_checked = r.is_checked; from_checked = b; untorn = act-so K w q cap a u r }

  own-place : (g : ℕ) → is_place (Some g) g ≡ true
  own-place g = eq-eqb g g refl

  founded-plant : (K : List Event) (w addr : ℕ) (bytes : List ℕ) (cap : Option Cap) (a : Result (Unit {0}) ℕ) → EndLow S.map → IsLegal T R K → length K < 2 ^ 64 → (u : Uses P S K w (Plants addr bytes cap))
      → Founded K w u.call (Plant addr bytes cap a)
  founded-plant K w addr bytes cap a low legal room u =
      let r = rests K w (Plants addr bytes cap) low legal room u in
      record {
        in_hand = u.in_hand;
        can = refl;
        on = λ least. refl;
        own = rw (u.memory.opened_is, u.memory.of_caller) (not-true _ (own-place u.memory.group));
        is_checked = r.is_checked;
        from_checked = refl;
        untorn = refl;
      }

  founded-put : (K : List Event) (w : ℕ) (q : Addfd) (a : Result (Unit {0}) ℕ) (decision : Decision) → EndLow S.map → IsLegal T R K → length K < 2 ^ 64 → (u : Uses P S K w decision) → Founded K w u.call (AddfdPut q a)
  founded-put K w q a decision low legal room u =
      let r = rests K w decision low legal room u in
      record { in_hand = u.in_hand; can = refl; on = λ least. put-rests least K w u.call q a u.texts r; own = refl; is_checked = r.is_checked; from_checked = refl; untorn = refl }

  -- ---- the clauses

  abbrev IsOfCopy : (List Event → ℕ → ℕ → What → Bool) → Type 0
  IsOfCopy broken = (K : List Event) (w c : ℕ) (what : What) → Founded K w c what → broken K w c what ≡ false

  or-none : (b : Bool) → b ≡ false → (b || false) ≡ false
  or-none b h = rw h refl

  -- a clause of the copy, by what it says of an effect
  copy-keeps : (clause : Clause) (broken : List Event → ℕ → ℕ → What → Bool) → EndLow S.map → IsOfCopy broken
      → ((K : List Event) (w c : ℕ) (what : What) → seat_breaks P S clause K w what (Some c) ≡ ((is_effect what && broken K w c what) || false)) → ((K : List Event) (w : ℕ) (what : What) → seat_breaks P S clause K w what None ≡ false)
      → (K : List Event) (w : ℕ) (what : What) → IsLegal T R K → length K < 2 ^ 64 → WorkerRow T R K w what → seat_breaks P S clause K w what (session_call K w) ≡ false
  copy-keeps clause broken low kept some none K w (Act q cap a) legal room row =
      let u = uses P S K w row.0.0 (Acts q cap) legal room row.0.1 row.0.3 row.0.6 row.0.4 in
      rw u.in_hand (some K w u.call (Act q cap a) ∙ or-none _ (kept K w u.call (Act q cap a) (founded-act K w q cap a low legal room u (base_checked P S K w q cap a legal room row))))
  copy-keeps clause broken low kept some none K w (Plant addr bytes cap a) legal room row =
      let u = uses P S K w row.0.0 (Plants addr bytes cap) legal room row.0.1 row.0.3 row.0.6 row.0.4 in
      rw u.in_hand (some K w u.call (Plant addr bytes cap a) ∙ or-none _ (kept K w u.call (Plant addr bytes cap a) (founded-plant K w addr bytes cap a low legal room u)))
  copy-keeps clause broken low kept some none K w (AddfdPut q a) legal room row =
      let t = row.0 in
      let d = Injects t.4.src t.4.place t.4.flags in
      let u = uses P S K w t.0 d legal room t.1 t.3 t.4.sound t.4.decided in
      rw u.in_hand (some K w u.call (AddfdPut q a) ∙ or-none _ (kept K w u.call (AddfdPut q a) (founded-put K w q a d low legal room u)))
  copy-keeps clause broken low kept some none K w what legal room row = none-some (seat_breaks P S clause K w what) (none K w what) (λ c. some K w c what) (session_call K w)

  read-kept : IsOfCopy (rests_on_nothing P)
  read-kept K w c what f = rw (f.can, f.on Foreign) refl

  memory-kept : IsOfCopy (rests_on_others P)
  memory-kept K w c what f = rw (f.on Stale, f.own) refl

  fresh-kept : IsOfCopy (rests_on_stale P)
  fresh-kept K w c what f = rw (f.on Fresh) refl

  and-not : (a b : Bool) → b ≡ true → (a && not b) ≡ false
  and-not true b h = rw h refl
  and-not false b h = refl

  checked-kept : IsOfCopy (is_unchecked P S)
  checked-kept K w c what f = rw (f.on Valid, and-not (is_empty_list (plan_of K c)) (is_checked K w) f.is_checked, f.from_checked) refl

  untorn-kept : IsOfCopy is_torn
  untorn-kept K w c what f = f.untorn

-- ---- each range of a script's map ends low

end-low : (map : List MapRange) → list_all is_range map ≡ true → EndLow map
end-low [] h = tt
end-low (r ∷ more) h =
    let q = and_parts (is_range r) (list_all is_range more) h in
    let l = and_parts (is_page_address r.start && nat_le 1 r.pages && nat_le r.pages 64) (nat_le (end_of r) (2 ^ 47)) q.0 in
    (leb-true (end_of r) (2 ^ 47) l.1, end-low more q.1)

script-low : (S : Script) → IsScript S → EndLow S.map
script-low S h = end-low S.map h.map

pub was_read : (P : Policy) (S : Script) (K : List Event) → IsScript S → Legal P S K → Keeps P S Unread K
was_read P S K script = keeps P S Unread (λ K e. refl) (copy-keeps P S Unread (rests_on_nothing P) (script-low S script) (read-kept P S) (λ K w c what. refl) (λ K w what. refl)) K

pub own_memory : (P : Policy) (S : Script) (K : List Event) → IsScript S → Legal P S K → Keeps P S OtherMemory K
own_memory P S K script = keeps P S OtherMemory (λ K e. refl) (copy-keeps P S OtherMemory (rests_on_others P) (script-low S script) (memory-kept P S) (λ K w c what. refl) (λ K w what. refl)) K

pub read_in_time : (P : Policy) (S : Script) (K : List Event) → IsScript S → Legal P S K → Keeps P S StaleCopy K
read_in_time P S K script = keeps P S StaleCopy (λ K e. refl) (copy-keeps P S StaleCopy (rests_on_stale P) (script-low S script) (fresh-kept P S) (λ K w c what. refl) (λ K w what. refl)) K

pub checked_after : (P : Policy) (S : Script) (K : List Event) → IsScript S → Legal P S K → Keeps P S Unchecked K
checked_after P S K script = keeps P S Unchecked (λ K e. refl) (copy-keeps P S Unchecked (is_unchecked P S) (script-low S script) (checked-kept P S) (λ K w c what. refl) (λ K w what. refl)) K

pub untorn_so : (P : Policy) (S : Script) (K : List Event) → IsScript S → Legal P S K → Keeps P S Torn K
untorn_so P S K script = keeps P S Torn (λ K e. refl) (copy-keeps P S Torn is_torn (script-low S script) (untorn-kept P S) (λ K w c what. refl) (λ K w what. refl)) K
