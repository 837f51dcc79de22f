-- No legal history has an effect that asks for something else than its call: whatever the texts are, the numbers are the call's.
-- By what a request is made of, and the rules of a policy, of which those that inject are for openat alone.
use Rattle.mediation.proofs.Common.{[], Act, Acts, AddfdPut, addfd_of, and_parts, ap, arith, Bool, cases_Bool, eq-eqb, false, id, Injects, inl, inr, IsLegal, length, List, None, not}
use Rattle.mediation.proofs.Common.{Option, Plant, Plants, Policy, pos, refl, request, Result, Rules, rules_of, Script, session, session_call, Some, sym, System, system_of, true, What, ℕ, ℤ, ◌&&◌, ◌+◌, ◌++◌, ◌<◌, ◌^◌, ◌||◌, ◌∙◌, ◌∷◌, ◌≡◌}
use Rattle.std.specs.List.{flat_map, list_all}
use Rattle.std.specs.Ordering.{int_eq}
use Rattle.std.specs.Prelude.{All, map, negsuc, slice_get}
use Rattle.std.proofs.Common.{suc}
use Rattle.std.proofs.lemmas.Bool.{or_cases}
use Rattle.std.proofs.lemmas.Bool.Decides.{Decides-int_eq}
use Rattle.hist_model.specs.declared.request.Request.{Request}
use Rattle.hist_model.specs.declared.request.Request.TheVariants.{Mknod, Mount, OpenAt, Other, SetXattr, Sysinfo}
use Rattle.broker_verdict.specs.Effects.{asks_other, has_numbers, opens_with}
use Rattle.hist_model.specs.Decisions.{covers, decide, decide_from, default_rules, fits, dirfd_or_cwd, granted_where, in_profile, meets, is_among, lxd_grants, lxd_mknod_rule, lxd_mknod_rules, lxd_mount_rules}
use Rattle.hist_model.specs.Decisions.{lxd_reasons, lxd_rules, lxd_setxattr_rule, lxd_sysinfo_rule, mknod_reasons, mount_reasons, pair_rules, safe_devices, setxattr_reasons, Switches, type_rules, where_on}
use Rattle.hist_model.specs.Legal.{cloexec_of, decided as decision_of, Legal}
use Rattle.hist_model.specs.PolicyRules.{IsOwnRule, IsPolicy}
use Rattle.hist_model.specs.RuleParts.{each_call, may_answer}
use Rattle.hist_model.specs.declared.policy.Calls.{Calls}
use Rattle.hist_model.specs.declared.policy.Calls.TheVariants.{Named, Other as OtherCalls}
use Rattle.hist_model.specs.declared.policy.Profile.{Profile}
use Rattle.hist_model.specs.declared.policy.Profile.TheVariants.{Lxd, Plain}
use Rattle.hist_model.specs.declared.policy.Rule.{Rule}
use Rattle.hist_model.specs.declared.policy.Verdict.{Verdict}
use Rattle.hist_model.specs.declared.policy.Verdict.TheVariants.{Deny, Grant, Inject, Pass}
use Rattle.hist_model.specs.Requests.{argument, call_of_request, low_16, low_32, signed_32, text_at}
use Rattle.hist_model.specs.Decisions.{cap_of}
use Rattle.hist_model.specs.Sysinfo.{container_sysinfo}
use Rattle.hist_model.specs.declared.policy.Cap.{Cap}
use Rattle.mediation.proofs.Common.{Event, Notif}
use Rattle.mediation.proofs.Hands.{hand, in-hand}
use Rattle.mediation.proofs.Rows.{AtWork, WorkerRow}
use Rattle.broker_verdict.proofs.CallNumbers.{by_number, IsOther}
use Rattle.broker_verdict.proofs.LegalClauses.{keeps, none-some}
use Rattle.broker_verdict.proofs.LegalGrants.{act-is, put-is, Uses, uses}
use Rattle.broker_verdict.specs.Choices.{decided}
use Rattle.broker_verdict.specs.Seats.{args_of, nr_of, request_with}
use Rattle.broker_verdict.specs.Trusted.{Keeps, seat_breaks}
use Rattle.broker_verdict.specs.declared.clause.Clause.TheVariants.{OtherRequest}
use Rattle.sys_abi.specs.Calls.{nr_openat}

-- ---- rules that inject are for openat

abbrev pub injects : Verdict → Bool
injects (Inject src at) = true
injects verdict = false

-- a rule that doesn't inject, or whose calls are openat alone
abbrev pub is_right : Rule → Bool
is_right rule = not (injects rule.verdict) || each_call (is_among (pos nr_openat ∷ [])) rule.calls

abbrev pub are_right : List Rule → Bool
are_right rules = list_all is_right rules

right-append : (xs ys : List Rule) → are_right xs ≡ true → are_right ys ≡ true → are_right (xs ++ ys) ≡ true
right-append [] ys h g = g
right-append (x ∷ xs) ys h g = let q = and_parts (is_right x) (are_right xs) h in rw (q.0, right-append xs ys q.1 g) refl

right-map : {A : Type 0} (f : A → Rule) (xs : List A) → ((x : A) → is_right (f x) ≡ true) → are_right (map f xs) ≡ true
right-map f [] h = refl
right-map f (x ∷ xs) h = rw (h x, right-map f xs h) refl

right-flat : {A : Type 0} (f : A → List Rule) (xs : List A) → ((x : A) → are_right (f x) ≡ true) → are_right (flat_map f xs) ≡ true
right-flat f [] h = refl
right-flat f (x ∷ xs) h = right-append (f x) (flat_map f xs) (h x) (right-flat f xs h)

right-on : (b : Bool) (rules : List Rule) → are_right rules ≡ true → are_right (where_on b rules) ≡ true
right-on true rules h = h
right-on false rules h = refl

right-in : (profile : Profile) (rules : List Rule) → are_right rules ≡ true → are_right (in_profile profile rules) ≡ true
right-in Plain rules h = refl
right-in Lxd rules h = h

right-type : (profile : Profile) (shift : Bool) (fstype : List ℕ) → are_right (type_rules profile shift fstype) ≡ true
right-type profile shift fstype = grind arith

right-pair : (profile : Profile) (shift : Bool) (pair : List ℕ × List ℕ) → are_right (pair_rules profile shift pair) ≡ true
right-pair profile shift (fstype, []) = right-type profile shift fstype
right-pair profile shift (fstype, b ∷ program) = refl

right-mounts : (s : Switches) → are_right (lxd_mount_rules s) ≡ true
right-mounts s = right-append (flat_map (pair_rules s.profile s.shift) s.fuse) (flat_map (type_rules s.profile s.shift) s.allowed) (right-flat (pair_rules s.profile s.shift) s.fuse (right-pair s.profile s.shift))
    (right-flat (type_rules s.profile s.shift) s.allowed (right-type s.profile s.shift))

right-grants : (s : Switches) → are_right (lxd_grants s) ≡ true
right-grants s = right-append (where_on s.mknod (lxd_mknod_rules s.profile)) _ (right-on s.mknod _ (right-map (λ p. lxd_mknod_rule s.profile p) safe_devices (λ p. refl)))
    (right-append (where_on s.mount (lxd_mount_rules s)) _ (right-on s.mount _ (right-mounts s))
    (right-append (where_on s.setxattr (lxd_setxattr_rule s.profile ∷ [])) _ (right-on s.setxattr _ refl) (right-on s.sysinfo (lxd_sysinfo_rule ∷ []) refl)))

right-reasons : (s : Switches) → are_right (lxd_reasons s) ≡ true
right-reasons s = right-in s.profile _ (right-append (where_on s.mknod mknod_reasons) _ (right-on s.mknod _ refl)
    (right-append (where_on s.mount mount_reasons) _ (right-on s.mount _ refl) (right-on s.setxattr setxattr_reasons refl)))

own-right : (rule : Rule) → each_call (may_answer rule.verdict) rule.calls ≡ true → is_right rule ≡ true
own-right rule h = by rule.verdict rule.calls h
  where
    by : (verdict : Verdict) (calls : Calls) → each_call (may_answer verdict) calls ≡ true → (not (injects verdict) || each_call (is_among (pos nr_openat ∷ [])) calls) ≡ true
    by Grant calls h = refl
    by (Deny error) calls h = refl
    by Pass calls h = refl
    by (Inject src at) (Named numbers) h = h
    by (Inject src at) OtherCalls h = h

all-right : (own : List Rule) → All IsOwnRule own → are_right own ≡ true
all-right [] h = refl
all-right (r ∷ more) h = rw (own-right r (h 0 r (omega arith)).granted, all-right more (λ k d l. h (suc k) d (omega arith))) refl

policy-right : (P : Policy) → IsPolicy (record { rules = P.rules }) → are_right P.rules ≡ true
policy-right P h = rw h.order (right-append h.own (lxd_rules h.switches ++ default_rules) (all-right h.own h.stated.rules)
    (right-append (lxd_rules h.switches) default_rules (right-append (lxd_grants h.switches) (lxd_reasons h.switches) (right-grants h.switches) (right-reasons h.switches)) refl))

int-true : (x y : ℤ) → int_eq x y ≡ true → x ≡ y
int-true x y h = grind (arith, Decides-int_eq)

int-same : (x : ℤ) → int_eq x x ≡ true
int-same x = grind (arith, Decides-int_eq)

among-one : (n nr : ℤ) → is_among (n ∷ []) nr ≡ true → nr ≡ n
among-one n nr h = elim (or_cases (int_eq n nr) false h) [ inl q ↦ sym (int-true n nr q) | inr q ↦ cc ]

-- each call that is among some numbers is openat where these are
among-openat : (numbers : List ℤ) (nr : ℤ) → list_all (is_among (pos nr_openat ∷ [])) numbers ≡ true → is_among numbers nr ≡ true → nr ≡ pos nr_openat
among-openat [] nr h g = cc
among-openat (n ∷ numbers) nr h g =
    let q = and_parts (is_among (pos nr_openat ∷ []) n) (list_all (is_among (pos nr_openat ∷ [])) numbers) h in
    elim (or_cases (int_eq n nr) (is_among numbers nr) g) [ inl t ↦ sym (int-true n nr t) ∙ among-one (pos nr_openat) n q.0 | inr t ↦ among-openat numbers nr q.1 t ]

calls-openat : (calls : Calls) (nr : ℤ) → each_call (is_among (pos nr_openat ∷ [])) calls ≡ true → covers calls nr ≡ true → nr ≡ pos nr_openat
calls-openat (Named numbers) nr h g = among-openat numbers nr h g
calls-openat OtherCalls nr h g = cc

covers-openat : (rule : Rule) (nr : ℤ) (src : ℕ) (at : Option ℕ) → is_right rule ≡ true → rule.verdict ≡ Inject src at → covers rule.calls nr ≡ true → nr ≡ pos nr_openat
covers-openat rule nr src at h v g = calls-openat rule.calls nr (rw v at h) g

-- where the deciding rule injects, the call is openat
decided-openat : (rules : List Rule) (n : ℕ) (q : Request) (src : ℕ) (at : Option ℕ) → are_right rules ≡ true → (decide_from n rules q).1 ≡ Inject src at → call_of_request q ≡ pos nr_openat
unfolding decide_from fits
decided-openat [] n q src at h v = cc
decided-openat (rule ∷ rules) n q src at h v =
    let r = and_parts (is_right rule) (are_right rules) h in
    elim (cases_Bool (covers rule.calls (call_of_request q) && list_all (λ c. meets c q) rule.conds)) [
      | inl f ↦ covers-openat rule (call_of_request q) src at r.0 (rw f at v) (and_parts (covers rule.calls (call_of_request q)) (list_all (λ c. meets c q) rule.conds) f).0
      | inr f ↦ decided-openat rules (n + 1) q src at r.1 (rw f at v)
    ]

-- ---- the numbers of a request

of-mknod : (d : Option ℤ) (p other : List ℕ) (m v : ℕ) → has_numbers (Mknod d p m v) (Mknod d other m v) ≡ true
of-mknod d p other m v = rw (int-same (dirfd_or_cwd d), eq-eqb (low_16 m) (low_16 m) refl, eq-eqb (low_32 v) (low_32 v) refl) refl

of-openat : (d : ℤ) (p other : List ℕ) (f : ℕ) → has_numbers (OpenAt d p f) (OpenAt d other f) ≡ true
of-openat d p other f = rw (int-same d, eq-eqb f f refl) refl

same-other : (args : List ℕ) (texts : List (List ℕ)) (m : ℕ) → IsOther m → has_numbers (request (pos m) args []) (request (pos m) args texts) ≡ true
same-other args texts m o = rw (o.request_is args [], o.request_is args texts) (int-same (pos m))

same-at : (nr : ℕ) (args : List ℕ) (texts : List (List ℕ)) → has_numbers (request (pos nr) args []) (request (pos nr) args texts) ≡ true
unfolding request
same-at nr args texts = by_number (λ (m : ℕ). has_numbers (request (pos m) args []) (request (pos m) args texts) ≡ true)
    (eq-eqb _ _ refl) (of-mknod None (text_at [] 0) (text_at texts 0) (low_16 (argument args 1)) (argument args 2)) (eq-eqb _ _ refl) (eq-eqb _ _ refl)
    (of-openat (signed_32 (argument args 0)) (text_at [] 0) (text_at texts 0) (low_32 (argument args 2)))
    (of-mknod (Some (signed_32 (argument args 0))) (text_at [] 0) (text_at texts 0) (low_16 (argument args 2)) (argument args 3))
    (same-other args texts) nr

same-numbers : (nr : ℤ) (args : List ℕ) (texts : List (List ℕ)) → has_numbers (request nr args []) (request nr args texts) ≡ true
unfolding request
same-numbers (pos nr) args texts = same-at nr args texts
same-numbers (negsuc nr) args texts = int-same (negsuc nr)

-- a call of openat has its flag O_CLOEXEC whatever its path is
opens-other : (args : List ℕ) (texts : List (List ℕ)) (m : ℕ) → IsOther m → call_of_request (request (pos m) args texts) ≡ pos nr_openat
    → opens_with (request (pos m) args []) (cloexec_of (request (pos m) args texts)) ≡ true
opens-other args texts m o h =
    let q : pos m ≡ pos nr_openat = rw (o.request_is args texts) at h in
    let n : m ≡ nr_openat = cc in
    absurd (cc (o.not_openat, eq-eqb m nr_openat n))

opens-at : (nr : ℕ) (args : List ℕ) (texts : List (List ℕ)) → call_of_request (request (pos nr) args texts) ≡ pos nr_openat → opens_with (request (pos nr) args []) (cloexec_of (request (pos nr) args texts)) ≡ true
unfolding request
opens-at nr args texts = by_number (λ (m : ℕ). call_of_request (request (pos m) args texts) ≡ pos nr_openat → opens_with (request (pos m) args []) (cloexec_of (request (pos m) args texts)) ≡ true)
    (λ h. cc) (λ h. cc) (λ h. cc) (λ h. cc) (λ h. eq-eqb _ _ refl) (λ h. cc) (opens-other args texts) nr

opens-numbered : (nr : ℤ) (args : List ℕ) (texts : List (List ℕ)) → call_of_request (request nr args texts) ≡ pos nr_openat → opens_with (request nr args []) (cloexec_of (request nr args texts)) ≡ true
unfolding request
opens-numbered (pos nr) args texts h = opens-at nr args texts h
opens-numbered (negsuc nr) args texts h = cc

granted-numbers : (o : Option Rule) (q0 q : Request) → has_numbers q0 q ≡ true → has_numbers q0 (granted_where o q) ≡ true
granted-numbers None q0 q h = h
granted-numbers (Some rule) q0 (Mknod dirfd path mode dev) h = h
granted-numbers (Some rule) (Mount source target fstype options via flags shift) (Mount s t f o v n b) h = h
granted-numbers (Some rule) (Mknod dirfd path mode dev) (Mount s t f o v n b) h = h
granted-numbers (Some rule) (SetXattr path name value flags) (Mount s t f o v n b) h = h
granted-numbers (Some rule) (OpenAt dirfd path flags) (Mount s t f o v n b) h = h
granted-numbers (Some rule) (Sysinfo addr) (Mount s t f o v n b) h = h
granted-numbers (Some rule) (Other nr) (Mount s t f o v n b) h = h
granted-numbers (Some rule) q0 (SetXattr path name value flags) h = h
granted-numbers (Some rule) q0 (OpenAt dirfd path flags) h = h
granted-numbers (Some rule) q0 (Sysinfo addr) h = h
granted-numbers (Some rule) q0 (Other nr) h = h

-- ---- what an effect asks for

module _ (P : Policy) (S : Script) where
  abbrev pub R : Rules
  R = rules_of P S.figures

  abbrev pub T : System
  T = system_of S

  not-false : (b : Bool) → b ≡ true → not b ≡ false
  not-false true h = refl
  not-false false h = cc

  or-none : (b : Bool) → b ≡ false → (b || false) ≡ false
  or-none b h = rw h refl

  -- the request of a plant, and the flag of an injection
  plant-address : (q0 : Request) (addr : ℕ) (bytes : List ℕ) (cap : Option Cap) (d : ℕ × Verdict) → decision_of P S.figures q0 d ≡ Plants addr bytes cap → q0 ≡ Sysinfo addr
  plant-address q0 addr bytes cap (i, Deny e) h = absurd (cc h)
  plant-address q0 addr bytes cap (i, Pass) h = absurd (cc h)
  plant-address q0 addr bytes cap (i, Inject src at) h = absurd (cc h)
  plant-address (Sysinfo x) addr bytes cap (i, Grant) h = ap Sysinfo (by h)
    where
      by : Plants x (container_sysinfo S.figures) (cap_of P.rules i) ≡ Plants addr bytes cap → x ≡ addr
      by q = cc
  plant-address (Mknod dirfd path mode dev) addr bytes cap (i, Grant) h = absurd (cc h)
  plant-address (Mount source target fstype options via flags shift) addr bytes cap (i, Grant) h = absurd (cc h)
  plant-address (SetXattr path name value flags) addr bytes cap (i, Grant) h = absurd (cc h)
  plant-address (OpenAt dirfd path flags) addr bytes cap (i, Grant) h = absurd (cc h)
  plant-address (Other nr) addr bytes cap (i, Grant) h = absurd (cc h)

  put-flags : (q0 : Request) (src : ℕ) (at : Option ℕ) (flags : ℕ) (d : ℕ × Verdict) → d ≡ (d.0, Inject src at) → decision_of P S.figures q0 d ≡ Injects src at flags → flags ≡ cloexec_of q0
  put-flags q0 src at flags d g h = let q : Injects src at (cloexec_of q0) ≡ Injects src at flags = rw g at h in cc

  asks-act : (K : List Event) (w : ℕ) (q : Request) (cap : Option Cap) (a : Result (Unit {0}) ℕ) (u : Uses P S K w (Acts q cap)) → asks_other K u.call (Act q cap a) ≡ false
  asks-act K w q cap a u =
      let i = act-is P S (request_with K u.call u.texts) q cap (decided P K u.call u.texts) u.decided_so in
      not-false _ (rw i.is (granted-numbers (slice_get P.rules (decided P K u.call u.texts).0) (request_with K u.call []) (request_with K u.call u.texts) (same-numbers (nr_of K u.call) (args_of K u.call) u.texts)))

  asks-plant : (K : List Event) (w addr : ℕ) (bytes : List ℕ) (cap : Option Cap) (a : Result (Unit {0}) ℕ) (u : Uses P S K w (Plants addr bytes cap)) → asks_other K u.call (Plant addr bytes cap a) ≡ false
  asks-plant K w addr bytes cap a u =
      not-false _ (rw (← plant-address (request_with K u.call u.texts) addr bytes cap (decided P K u.call u.texts) u.decided_so) (same-numbers (nr_of K u.call) (args_of K u.call) u.texts))

  -- the structure of a request for a descriptor
  id-of : (x src : ℕ) (at : Option ℕ) (flags : ℕ) → (addfd_of x src at flags).id ≡ x
  id-of x src None flags = refl
  id-of x src (Some at) flags = refl

  flags-of : (x src : ℕ) (at : Option ℕ) (flags : ℕ) → (addfd_of x src at flags).newfd_flags ≡ flags
  flags-of x src None flags = refl
  flags-of x src (Some at) flags = refl

  asks-put : (K : List Event) (w x src : ℕ) (at : Option ℕ) (flags : ℕ) (a : Result (Unit {0}) ℕ) → are_right P.rules ≡ true → (u : Uses P S K w (Injects src at flags)) → x ≡ id K u.call
      → asks_other K u.call (AddfdPut (addfd_of x src at flags) a) ≡ false
  unfolding decide
  asks-put K w x src at flags a right u own =
      let q0 = request_with K u.call u.texts in
      let g = put-is P S q0 src at flags (decided P K u.call u.texts) u.decided_so in
      let v : (decide_from 0 P.rules q0).1 ≡ Inject src at = ap (λ (d : ℕ × Verdict). d.1) g in
      let o = opens-numbered (nr_of K u.call) (args_of K u.call) u.texts (decided-openat P.rules 0 q0 src at right v) in
      let f = put-flags q0 src at flags (decided P K u.call u.texts) g u.decided_so in
      not-false _ (rw (flags-of x src at flags, id-of x src at flags, f, o, eq-eqb x (id K u.call) own) refl)

  own-id : (K : List Event) (w : ℕ) (n : Notif) (c : ℕ) → IsLegal T R K → length K < 2 ^ 64 → AtWork (session K w) n → session_call K w ≡ Some c → n.id ≡ id K c
  own-id K w n c legal room work s =
      let j = in-hand K w (session_call K w) n work (hand T R K legal room w) in
      let d : j.0 ≡ c = cc (j.1, s) in
      ap (λ (m : Notif). m.id) (sym j.3) ∙ (j.2.id_is ∙ ap (id K) d)

  asked_so : are_right P.rules ≡ true → (K : List Event) (w : ℕ) (what : What) → IsLegal T R K → length K < 2 ^ 64 → WorkerRow T R K w what → seat_breaks P S OtherRequest K w what (session_call K w) ≡ false
  asked_so right K w (Act q cap a) legal room row =
      let u = uses P S K w row.0.0 (Acts q cap) legal room row.0.1 row.0.3 row.0.6 row.0.4 in rw u.in_hand (or-none _ (asks-act K w q cap a u))
  asked_so right K w (Plant addr bytes cap a) legal room row =
      let u = uses P S K w row.0.0 (Plants addr bytes cap) legal room row.0.1 row.0.3 row.0.6 row.0.4 in rw u.in_hand (or-none _ (asks-plant K w addr bytes cap a u))
  asked_so right K w (AddfdPut q a) legal room row =
      let t = row.0 in
      let u = uses P S K w t.0 (Injects t.4.src t.4.place t.4.flags) legal room t.1 t.3 t.4.sound t.4.decided in
      rw u.in_hand (or-none _ (rw t.4.is (asks-put K w t.0.id t.4.src t.4.place t.4.flags a right u (own-id K w t.0 u.call legal room t.1 u.in_hand))))
  asked_so right K w what legal room row = none-some (seat_breaks P S OtherRequest K w what) refl (λ c. refl) (session_call K w)

pub same_request : (P : Policy) (S : Script) (K : List Event) → IsPolicy (record { rules = P.rules }) → Legal P S K → Keeps P S OtherRequest K
same_request P S K policy = keeps P S OtherRequest (λ K e. refl) (asked_so P S (policy-right P policy)) K
