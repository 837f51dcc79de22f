-- What this project's own workers do is what the policy grants, and no more often than it may.
-- By the decision for the copy in the plan's order, whose texts are those that an act names.
use Rattle.mediation.proofs.Common.{[], Act, Acts, any_of, checks, HasMemory, AddfdPut, addfd_of, ap, arith, Bool, Complete, copied, Decision, eq-eqb, Event, false, get_or, if◌then◌else◌}
use Rattle.mediation.proofs.Common.{Injects, IsLegal, length, List, name_eq-refl, nat_le, None, not, Notif, notif, number_of, Option, plan, Plant, Plants, Policy, pos, Progress, progress}
use Rattle.mediation.proofs.Common.{reads_of, refl, request, Result, Rules, rules_of, Script, session, session_call, Some, suc, sym, System, system_of, true, wanted, What, ℕ, ℤ, is_good_check, ◌∙◌}
use Rattle.mediation.proofs.Common.{◌<◌, ◌^◌, ◌||◌, ◌∷◌, ◌≡◌, ◌++◌, reverse}
use Rattle.std.specs.List.{list_any}
use Rattle.std.specs.Prelude.{negsuc, slice_get}
use Rattle.hist_model.specs.Copies.{Asks, Fails, Faulty, progress_after, progress_with, read_part, Reading, Wants, Whole}
use Rattle.hist_model.specs.Decisions.{cap_of, granted_by, granted_where}
use Rattle.hist_model.specs.Legal.{copy_fault, decided as decision_of, judged as judged_copy, Legal}
use Rattle.hist_model.specs.Sysinfo.{container_sysinfo}
use Rattle.hist_model.specs.declared.copy.Part.{Part}
use Rattle.hist_model.specs.declared.policy.Cap.{Cap}
use Rattle.hist_model.specs.declared.policy.Rule.{Rule}
use Rattle.hist_model.specs.declared.policy.Verdict.{Verdict}
use Rattle.hist_model.specs.declared.policy.Verdict.TheVariants.{Deny, Grant, Inject, Pass}
use Rattle.hist_model.specs.declared.request.Request.{Request}
use Rattle.hist_model.specs.declared.request.Request.TheVariants.{Mknod, Mount, OpenAt, Other, SetXattr, Sysinfo}
use Rattle.mediation.proofs.Hands.{hand, in-hand}
use Rattle.mediation.proofs.Handles.{own-memory}
use Rattle.mediation.proofs.Order.{any-number, goods, is-own, ordered, used-two}
use Rattle.mediation.proofs.Rows.{AtWork, HasCopied, WorkerRow}
use Rattle.broker_verdict.proofs.CallNumbers.{by_number, IsOther}
use Rattle.broker_verdict.proofs.LegalClauses.{keeps, none-some}
use Rattle.broker_verdict.proofs.LegalReads.{planned}
use Rattle.broker_verdict.specs.Choices.{decided}
use Rattle.broker_verdict.specs.Effects.{grants_just, is_granted, is_made_so, is_put_of, is_ungranted, texts_copied, texts_of, texts_or}
use Rattle.broker_verdict.specs.SeatCopies.{copies_of, newest_copy, plan_of, planned_from, texts_in, whole_in, worth_least}
use Rattle.broker_verdict.specs.Seats.{reads, request_with, Valid}
use Rattle.broker_verdict.specs.Trusted.{Keeps, seat_breaks}
use Rattle.broker_verdict.specs.declared.clause.Clause.TheVariants.{Ungranted}

-- ---- the texts of a whole copy

-- of a plan the rest of which is known to give a text for each part
WholeLength : List Part → Type 0
WholeLength parts = (later : List (Result (List ℕ) ℕ)) (texts : List (List ℕ)) → progress parts later ≡ Complete texts → length texts ≡ length parts

length-with : (parts : List Part) (text : List ℕ) (later : List (Result (List ℕ) ℕ)) (texts : List (List ℕ)) (p : Progress) → WholeLength parts → progress parts later ≡ p
    → progress_with text p ≡ Complete texts → length texts ≡ suc (length parts)
unfolding WholeLength
length-with parts text later texts (Wants a n) ih q z = cc
length-with parts text later texts (Faulty e) ih q z = cc
length-with parts text later texts (Complete us) ih q z = let y : text ∷ us ≡ texts = cc in ap length (sym y) ∙ ap suc (ih later us q)

length-after : (parts : List Part) (r : Reading) (texts : List (List ℕ)) → WholeLength parts → progress_after r (progress parts) ≡ Complete texts → length texts ≡ suc (length parts)
length-after parts (Asks a n) texts ih z = cc
length-after parts (Fails e) texts ih z = cc
length-after parts (Whole text later) texts ih z = length-with parts text later texts (progress parts later) ih refl z

complete-length : (parts : List Part) (answers : List (Result (List ℕ) ℕ)) (texts : List (List ℕ)) → progress parts answers ≡ Complete texts → length texts ≡ length parts
unfolding progress WholeLength
complete-length [] answers texts h = let q : [] ≡ texts = cc in ap length (sym q)
complete-length (part ∷ parts) answers texts h = length-after parts (read_part part answers) texts (complete-length parts) h

one : (texts : List (List ℕ)) → length texts ≡ 1 → get_or texts 0 [] ∷ [] ≡ texts
one [] h = absurd (omega arith)
one (a ∷ []) h = refl
one (a ∷ b ∷ more) h = absurd (omega arith)

three : (texts : List (List ℕ)) → length texts ≡ 3 → get_or texts 0 [] ∷ get_or texts 1 [] ∷ get_or texts 2 [] ∷ [] ≡ texts
three [] h = absurd (omega arith)
three (a ∷ []) h = absurd (omega arith)
three (a ∷ b ∷ []) h = absurd (omega arith)
three (a ∷ b ∷ c ∷ []) h = refl
three (a ∷ b ∷ c ∷ d ∷ more) h = absurd (omega arith)

four : (texts : List (List ℕ)) → length texts ≡ 4 → get_or texts 0 [] ∷ get_or texts 1 [] ∷ get_or texts 2 [] ∷ get_or texts 3 [] ∷ [] ≡ texts
four [] h = absurd (omega arith)
four (a ∷ []) h = absurd (omega arith)
four (a ∷ b ∷ []) h = absurd (omega arith)
four (a ∷ b ∷ c ∷ []) h = absurd (omega arith)
four (a ∷ b ∷ c ∷ d ∷ []) h = refl
four (a ∷ b ∷ c ∷ d ∷ e ∷ more) h = absurd (omega arith)

none : (texts : List (List ℕ)) → length texts ≡ 0 → [] ≡ texts
none [] h = refl
none (a ∷ more) h = absurd (omega arith)

-- a request names the texts of its call's plan
texts-other : (args : List ℕ) (texts : List (List ℕ)) (m : ℕ) → IsOther m → length texts ≡ length (plan (pos m) args) → texts_of (request (pos m) args texts) ≡ texts
texts-other args texts m o l = rw (o.request_is args texts) (none texts (l ∙ ap length (o.plan_is args)))

texts-at : (nr : ℕ) (args : List ℕ) (texts : List (List ℕ)) → length texts ≡ length (plan (pos nr) args) → texts_of (request (pos nr) args texts) ≡ texts
unfolding request
texts-at nr args texts = by_number (λ (m : ℕ). length texts ≡ length (plan (pos m) args) → texts_of (request (pos m) args texts) ≡ texts)
    (none texts) (one texts) (four texts) (three texts) (one texts) (one texts)
    (texts-other args texts) nr

texts-of-call : (nr : ℤ) (args : List ℕ) (texts : List (List ℕ)) → length texts ≡ length (plan nr args) → texts_of (request nr args texts) ≡ texts
unfolding request
texts-of-call (pos nr) args texts l = texts-at nr args texts l
texts-of-call (negsuc nr) args texts l = none texts l

-- a rule grants a request with its texts, and as it makes it
pub texts-granted : (o : Option Rule) (q : Request) → texts_of (granted_where o q) ≡ texts_of q
texts-granted None q = refl
texts-granted (Some rule) (Mount source target fstype options via flags shift) = refl
texts-granted (Some rule) q = refl

flag-same : (b : Bool) → (if b then b else not b) ≡ true
flag-same true = refl
flag-same false = refl

made-so : (q : Request) → is_made_so q q ≡ true
made-so (Mount source target fstype options via flags shift) = rw (name_eq-refl via, flag-same shift) refl
made-so (Mknod dirfd path mode dev) = refl
made-so (SetXattr path name value flags) = refl
made-so (OpenAt dirfd path flags) = refl
made-so (Sysinfo addr) = refl
made-so (Other nr) = refl

complete-of : (copy : Progress) → wanted copy ≡ None → copy_fault copy ≡ None → (texts : List (List ℕ)) × (copy ≡ Complete texts)
complete-of (Wants a n) w f = absurd (cc w)
complete-of (Faulty e) w f = absurd (cc f)
complete-of (Complete texts) w f = (texts, refl)

-- ---- what a decision is

pub record IsAct (P : Policy) (q0 : Request) (d : ℕ × Verdict) (q : Request) (cap : Option Cap) : Type 0 where
  pub grants : d ≡ (d.0, Grant)
  pub is : q ≡ granted_by P.rules d.0 q0
  pub cap_is : cap ≡ cap_of P.rules d.0

module _ (P : Policy) (S : Script) where
  abbrev pub R : Rules
  R = rules_of P S.figures

  abbrev pub T : System
  T = system_of S

  pub act-is : (q0 q : Request) (cap : Option Cap) (d : ℕ × Verdict) → decision_of P S.figures q0 d ≡ Acts q cap → IsAct P q0 d q cap
  act-is q0 q cap (i, Deny e) h = absurd (cc h)
  act-is q0 q cap (i, Pass) h = absurd (cc h)
  act-is q0 q cap (i, Inject src at) h = absurd (cc h)
  act-is (Sysinfo addr) q cap (i, Grant) h = absurd (cc h)
  act-is (Mknod dirfd path mode dev) q cap (i, Grant) h = record { grants = refl; is = cc; cap_is = cc }
  act-is (Mount source target fstype options via flags shift) q cap (i, Grant) h = record { grants = refl; is = cc; cap_is = cc }
  act-is (SetXattr path name value flags) q cap (i, Grant) h = record { grants = refl; is = cc; cap_is = cc }
  act-is (OpenAt dirfd path flags) q cap (i, Grant) h = record { grants = refl; is = cc; cap_is = cc }
  act-is (Other nr) q cap (i, Grant) h = record { grants = refl; is = cc; cap_is = cc }

  pub record IsPlant (q0 : Request) (d : ℕ × Verdict) (addr : ℕ) (bytes : List ℕ) (cap : Option Cap) : Type 0 where
    pub grants : d ≡ (d.0, Grant)
    pub of_sysinfo : texts_of q0 ≡ []
    pub is : bytes ≡ container_sysinfo S.figures
    pub cap_is : cap ≡ cap_of P.rules d.0

  pub plant-is : (q0 : Request) (addr : ℕ) (bytes : List ℕ) (cap : Option Cap) (d : ℕ × Verdict) → decision_of P S.figures q0 d ≡ Plants addr bytes cap → IsPlant q0 d addr bytes cap
  plant-is q0 addr bytes cap (i, Deny e) h = absurd (cc h)
  plant-is q0 addr bytes cap (i, Pass) h = absurd (cc h)
  plant-is q0 addr bytes cap (i, Inject src at) h = absurd (cc h)
  plant-is (Sysinfo x) addr bytes cap (i, Grant) h = record { grants = refl; of_sysinfo = refl; is = cc; cap_is = cc }
  plant-is (Mknod dirfd path mode dev) addr bytes cap (i, Grant) h = absurd (cc h)
  plant-is (Mount source target fstype options via flags shift) addr bytes cap (i, Grant) h = absurd (cc h)
  plant-is (SetXattr path name value flags) addr bytes cap (i, Grant) h = absurd (cc h)
  plant-is (OpenAt dirfd path flags) addr bytes cap (i, Grant) h = absurd (cc h)
  plant-is (Other nr) addr bytes cap (i, Grant) h = absurd (cc h)

  pub put-is : (q0 : Request) (src : ℕ) (at : Option ℕ) (flags : ℕ) (d : ℕ × Verdict) → decision_of P S.figures q0 d ≡ Injects src at flags → d ≡ (d.0, Inject src at)
  put-is q0 src at flags (i, Deny e) h = absurd (cc h)
  put-is q0 src at flags (i, Pass) h = absurd (cc h)
  put-is q0 src at flags (i, Inject s a) h = let y : s ≡ src = cc in let z : a ≡ at = cc in cc
  put-is (Sysinfo addr) src at flags (i, Grant) h = absurd (cc h)
  put-is (Mknod dirfd path mode dev) src at flags (i, Grant) h = absurd (cc h)
  put-is (Mount source target fstype options via f shift) src at flags (i, Grant) h = absurd (cc h)
  put-is (SetXattr path name value f) src at flags (i, Grant) h = absurd (cc h)
  put-is (OpenAt dirfd path f) src at flags (i, Grant) h = absurd (cc h)
  put-is (Other nr) src at flags (i, Grant) h = absurd (cc h)

  put-of : (x src : ℕ) (at : Option ℕ) (flags : ℕ) → is_put_of src at (addfd_of x src at flags) ≡ true
  put-of x src None flags = rw (eq-eqb src src refl) refl
  put-of x src (Some at) flags = rw (eq-eqb src src refl, eq-eqb at at refl) refl

  -- ---- the copy by which a worker acts

  pub record Uses (K : List Event) (w : ℕ) (decision : Decision) : Type 0 where
    pub call : ℕ
    pub in_hand : session_call K w ≡ Some call
    pub texts : List (List ℕ)
    pub is_planned : planned_from (plan_of K call) [] (reverse (worth_least Valid (reads K w))) ≡ Complete texts
    pub decided_so : decision_of P S.figures (request_with K call texts) (decided P K call texts) ≡ decision
    pub named : texts_of (request_with K call texts) ≡ texts
    pub checked_twice : number_of is_good_check (session K w) ≡ 2
    pub memory : HasMemory K w call

  pub uses : (K : List Event) (w : ℕ) (n : Notif) (decision : Decision) → IsLegal T R K → length K < 2 ^ 64 → AtWork (session K w) n → HasCopied R (session K w) n → R.fault n (reads_of (session K w)) ≡ None
      → R.decide n (reads_of (session K w)) ≡ decision → Uses K w decision
  uses K w n decision legal room work copy sound d =
      let own = session K w in
      let j = in-hand K w (session_call K w) n work (hand T R K legal room w) in
      let y : n ≡ notif K j.0 = sym j.3 ∙ j.2.whole_is in
      let order = ordered R own (is-own T R K legal w) in
      let two = used-two R own n work copy order in
      let checks_two : number_of checks own ≡ 2 = sym (goods own work.no_end) ∙ two in
      let some : any_of checks own ≡ true = any-number checks own ∙ ap (nat_le 1) checks_two in
      let c = copied (notif K j.0) (reads_of own) in
      let q : copied n (reads_of own) ≡ c = ap (λ (m : Notif). copied m (reads_of own)) y in
      let t = complete-of c (ap wanted (sym q) ∙ copy.copied) (ap copy_fault (sym q) ∙ sound) in
      let z : judged_copy P S.figures (notif K j.0) (Complete t.0) ≡ decision =
      sym (ap (judged_copy P S.figures (notif K j.0)) t.1) ∙ (sym (ap (λ (m : Notif). judged_copy P S.figures m (copied m (reads_of own))) y) ∙ d) in
      record {
        call = j.0;
        in_hand = j.1;
        texts = t.0;
        is_planned = planned T P S.figures K w j.0 legal room j.1 two ∙ t.1;
        decided_so = z;
        checked_twice = two;
        memory = own-memory T R K w j.0 legal room j.1 (order.opened (omega (arith, checks_two))) some work.no_end;
        named = texts-of-call (notif K j.0).call.nr (notif K j.0).call.args t.0 (complete-length (plan_of K j.0) _ t.0 t.1);
      }

  -- ---- it is granted

  one-any : (f : List (List ℕ) → Bool) (t : List (List ℕ)) → f t ≡ true → list_any f (t ∷ []) ≡ true
  one-any f t h = rw h refl

  last-any : (f : List (List ℕ) → Bool) (more : List (List (List ℕ))) (t : List (List ℕ)) → f t ≡ true → list_any f (more ++ (t ∷ [])) ≡ true
  last-any f [] t h = one-any f t h
  last-any f (s ∷ more) t h = let ih = last-any f more t h in go (f s) refl ih
    where
      go : (b : Bool) → f s ≡ b → list_any f (more ++ (t ∷ [])) ≡ true → list_any f (s ∷ (more ++ (t ∷ []))) ≡ true
      go true q i = rw q refl
      go false q i = rw (q, i) refl

  first-texts : (xs : List (List (List ℕ))) (t : List (List ℕ)) (more : List (List (List ℕ))) → texts_or (xs ++ (t ∷ [])) more ≡ xs ++ (t ∷ [])
  first-texts [] t more = refl
  first-texts (x ∷ xs) t more = refl

  granted-some : (K : List Event) (c : ℕ) (what : What) (all : List (List (List ℕ))) (t : List (List ℕ)) → list_any (λ texts. grants_just P S K c what texts (decided P K c texts)) (all ++ (t ∷ [])) ≡ true
      → is_granted P S K c what (all ++ (t ∷ [])) ≡ true
  granted-some K c what [] t h = h
  granted-some K c what (x ∷ all) t h = h

  act-grants : (K : List Event) (c : ℕ) (q : Request) (cap : Option Cap) (a : Result (Unit {0}) ℕ) (texts : List (List ℕ)) (d : ℕ × Verdict) → d ≡ (d.0, Grant)
      → q ≡ granted_by P.rules d.0 (request_with K c texts) → grants_just P S K c (Act q cap a) texts d ≡ true
  act-grants K c q cap a texts d g z = rw g (rw z (made-so (granted_by P.rules d.0 (request_with K c texts))))

  ungranted-false : (b : Bool) → b ≡ true → not b ≡ false
  ungranted-false true h = refl
  ungranted-false false h = cc

  granted-act : (K : List Event) (w : ℕ) (q : Request) (cap : Option Cap) (a : Result (Unit {0}) ℕ) (u : Uses K w (Acts q cap)) → is_ungranted P S K w u.call (Act q cap a) ≡ false
  granted-act K w q cap a u =
      let i = act-is (request_with K u.call u.texts) q cap (decided P K u.call u.texts) u.decided_so in
      let t : texts_of q ≡ u.texts = ap texts_of i.is ∙ (texts-granted (slice_get P.rules (decided P K u.call u.texts).0) (request_with K u.call u.texts) ∙ u.named) in
      ungranted-false _ (rw t (one-any (λ texts. grants_just P S K u.call (Act q cap a) texts (decided P K u.call texts)) u.texts (act-grants K u.call q cap a u.texts (decided P K u.call u.texts) i.grants i.is)))

  plant-grants : (K : List Event) (c addr : ℕ) (bytes : List ℕ) (cap : Option Cap) (a : Result (Unit {0}) ℕ) (texts : List (List ℕ)) (d : ℕ × Verdict) → d ≡ (d.0, Grant)
      → bytes ≡ container_sysinfo S.figures → grants_just P S K c (Plant addr bytes cap a) texts d ≡ true
  plant-grants K c addr bytes cap a texts d g z = rw g (rw z (name_eq-refl (container_sysinfo S.figures)))

  granted-plant : (K : List Event) (w addr : ℕ) (bytes : List ℕ) (cap : Option Cap) (a : Result (Unit {0}) ℕ) (u : Uses K w (Plants addr bytes cap)) → is_ungranted P S K w u.call (Plant addr bytes cap a) ≡ false
  granted-plant K w addr bytes cap a u =
      let i = plant-is (request_with K u.call u.texts) addr bytes cap (decided P K u.call u.texts) u.decided_so in
      let t : u.texts ≡ [] = sym u.named ∙ i.of_sysinfo in
      let g : decided P K u.call [] ≡ ((decided P K u.call []).0, Grant) = rw t at i.grants in
      ungranted-false _ (one-any (λ texts. grants_just P S K u.call (Plant addr bytes cap a) texts (decided P K u.call texts)) [] (plant-grants K u.call addr bytes cap a [] (decided P K u.call []) g i.is))

  put-grants : (K : List Event) (c x src : ℕ) (at : Option ℕ) (flags : ℕ) (a : Result (Unit {0}) ℕ) (texts : List (List ℕ)) (d : ℕ × Verdict) → d ≡ (d.0, Inject src at)
      → grants_just P S K c (AddfdPut (addfd_of x src at flags) a) texts d ≡ true
  put-grants K c x src at flags a texts d g = rw g (put-of x src at flags)

  granted-put : (K : List Event) (w x src : ℕ) (at : Option ℕ) (flags : ℕ) (a : Result (Unit {0}) ℕ) (u : Uses K w (Injects src at flags)) → is_ungranted P S K w u.call (AddfdPut (addfd_of x src at flags) a) ≡ false
  granted-put K w x src at flags a u =
      let g = put-is (request_with K u.call u.texts) src at flags (decided P K u.call u.texts) u.decided_so in
      let all = texts_in (newest_copy (worth_least Valid (reads K w)) (plan_of K u.call)) in
      let v : whole_in (copies_of Valid K w u.call) ≡ all ++ (u.texts ∷ []) = rw u.is_planned refl in
      let t : texts_copied K w u.call ≡ all ++ (u.texts ∷ []) = rw v (first-texts all u.texts _) in
      ungranted-false _ (rw t (granted-some K u.call (AddfdPut (addfd_of x src at flags) a) all u.texts
      (last-any (λ texts. grants_just P S K u.call (AddfdPut (addfd_of x src at flags) a) texts (decided P K u.call texts)) all u.texts
      (put-grants K u.call x src at flags a u.texts (decided P K u.call u.texts) g))))

  both-false : (b : Bool) → b ≡ false → (b || false) ≡ false
  both-false b h = rw h refl

  granted : (K : List Event) (w : ℕ) (what : What) → IsLegal T R K → length K < 2 ^ 64 → WorkerRow T R K w what → seat_breaks P S Ungranted K w what (session_call K w) ≡ false
  granted K w (Act q cap a) legal room row =
      let u = uses K w row.0.0 (Acts q cap) legal room row.0.1 row.0.3 row.0.6 row.0.4 in rw u.in_hand (both-false _ (granted-act K w q cap a u))
  granted K w (Plant addr bytes cap a) legal room row =
      let u = uses K w row.0.0 (Plants addr bytes cap) legal room row.0.1 row.0.3 row.0.6 row.0.4 in rw u.in_hand (both-false _ (granted-plant K w addr bytes cap a u))
  granted K w (AddfdPut q a) legal room row =
      let t = row.0 in
      let u = uses K w t.0 (Injects t.4.src t.4.place t.4.flags) legal room t.1 t.3 t.4.sound t.4.decided in
      rw u.in_hand (both-false _ (rw t.4.is (granted-put K w t.0.id t.4.src t.4.place t.4.flags a u)))
  granted K w what legal room row = none-some (seat_breaks P S Ungranted K w what) refl (λ c. refl) (session_call K w)

pub granted_so : (P : Policy) (S : Script) (K : List Event) → Legal P S K → Keeps P S Ungranted K
granted_so P S = keeps P S Ungranted (λ K e. refl) (granted P S)
