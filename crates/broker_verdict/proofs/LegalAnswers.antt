-- What this project's own workers answer breaks no clause.
-- By what the step of a worker tells of its session, and the copy in the plan's order, which is the worker's.
use Rattle.mediation.proofs.Common.{[], Act, Acts, AddfdPut, any_of, ap, arith, Bool, Complete, copied, Decision, Deed, Err, Event, false, first_some}
use Rattle.hist_model.specs.Sessions.{addfd_of, after_act, decided_deed, inject_deed}
use Rattle.mediation.proofs.Common.{id, inl, inr, Injects, is_acting, IsLegal, judged_deed, length, List, None, not, Notif, notif, notif_of, Ok, Option}
use Rattle.mediation.proofs.Common.{outcome_in, Plant, Plants, Policy, pos, Progress, put_in, reads_of, refl, Result, Rules, rules_of, Script, Send, session, session_call, Some, subst, sym, system_of, take_in, true, wanted, What}
use Rattle.mediation.proofs.Common.{ℕ, ◌&&◌, ◌<◌, ◌^◌, ◌∙◌, ◌∷◌, ◌≡◌, ◌⊎◌, eq-eqb, cases_Bool}
use Rattle.std.specs.List.{list_any}
use Rattle.hist_model.specs.Copies.{Faulty, Wants}
use Rattle.hist_model.specs.Legal.{copy_fault, decided as decision_of, judged as judged_copy}
use Rattle.hist_model.specs.Sessions.{Denies, Passes}
use Rattle.hist_model.specs.declared.event.Back.{Back}
use Rattle.hist_model.specs.declared.event.Back.TheVariants.{Continue, Value, Fail as FailBack}
use Rattle.hist_model.specs.declared.policy.Verdict.{Verdict}
use Rattle.hist_model.specs.declared.policy.Verdict.TheVariants.{Deny, Grant, Inject, Pass}
use Rattle.hist_model.specs.declared.request.Request.{Request}
use Rattle.hist_model.specs.declared.request.Request.TheVariants.{Mknod, Mount, OpenAt, Other, SetXattr, Sysinfo}
use Rattle.hist_model.specs.declared.script.Figures.{Figures}
use Rattle.mediation.proofs.Common.{gives_up, reverse}
use Rattle.mediation.proofs.Hands.{hand, in-hand}
use Rattle.mediation.proofs.Order.{by-own, IsGrant, IsInjection, is-own, IsOwn, ordered, put-fixed, Used, used-more, used-two}
use Rattle.mediation.proofs.Rows.{WorkerRow}
use Rattle.broker_verdict.proofs.LegalReads.{planned}
use Rattle.broker_verdict.proofs.LegalSeats.{effect, effect_in, EffectIs}
use Rattle.broker_verdict.specs.Answers.{denies_by, denies_otherwise, gave_at, has_effect, has_known, has_no_cause, known_of, leads_to_error, leads_to_pass}
use Rattle.std.specs.Prelude.{ℤ}
use Rattle.broker_verdict.specs.Answers.{is_pass, outcome_of, passes_otherwise, reports_undone}
use Rattle.broker_verdict.specs.Choices.{decided}
use Rattle.broker_verdict.specs.SeatCopies.{is_known, newest_copy, plan_of, planned_from, worth_least}
use Rattle.broker_verdict.specs.Seats.{effect_of, is_effect, reads, request_with, Valid}

-- ---- what a session has done

-- once there was an effect in the tree or the memory, the rule grants
pub act-fixed : (R : Rules) (own : List What) → IsOwn R own → (n : Notif) (x : Result (Unit {0}) ℕ) → notif_of own ≡ Some n → first_some outcome_in own ≡ Some x → Used R IsGrant own n
act-fixed R = by-own R (λ own. (n : Notif) (x : Result (Unit {0}) ℕ) → notif_of own ≡ Some n → first_some outcome_in own ≡ Some x → Used R IsGrant own n) (λ n x h. cc)
    (λ own a s ih n x h p. grind (arith, used-more R IsGrant own a n s))

-- where there was no effect at all
none-done : (own : List What) → first_some effect_in own ≡ None → (first_some outcome_in own ≡ None) × (first_some put_in own ≡ None)
none-done [] h = (refl, refl)
none-done (a ∷ own) h = let ih = none-done own in grind arith

-- an effect has an outcome, or asks for a descriptor
pub effect-kind : (a : What) → is_effect a ≡ true → ((x : Result (Unit {0}) ℕ) × (outcome_in a ≡ Some x)) ⊎ ((x : Result (Unit {0}) ℕ) × (put_in a ≡ Some x))
effect-kind (Act q cap x) h = inl (x, refl)
effect-kind (Plant addr bytes cap x) h = inl (x, refl)
effect-kind (AddfdPut q x) h = inr (x, refl)
effect-kind a h = cc

pub no-effect : (a : What) → is_effect a ≡ false → (outcome_in a ≡ None) × (put_in a ≡ None)
no-effect (Act q cap x) h = cc
no-effect (Plant addr bytes cap x) h = cc
no-effect (AddfdPut q x) h = cc
no-effect a h = (refl, refl)

-- where there was one
pub some-done : (own : List What) (a : What) → first_some effect_in own ≡ Some a → ((x : Result (Unit {0}) ℕ) × (first_some outcome_in own ≡ Some x)) ⊎ ((x : Result (Unit {0}) ℕ) × (first_some put_in own ≡ Some x))
some-done [] a h = cc
some-done (b ∷ own) a h = elim (cases_Bool (is_effect b)) [
  | inl t ↦ elim (effect-kind b t) [ inl y ↦ inl (y.0, rw y.1 refl) | inr y ↦ inr (y.0, rw y.1 refl) ]
  | inr f ↦ let n = no-effect b f in elim (some-done own a (rw f at h)) [ inl y ↦ inl (y.0, rw n.0 y.1) | inr y ↦ inr (y.0, rw n.1 y.1) ]
]

-- an effect in the tree or the memory is the newest one where no descriptor was asked for
pub act-done : (own : List What) (x : Result (Unit {0}) ℕ) → first_some put_in own ≡ None → first_some outcome_in own ≡ Some x → (a : What) × (first_some effect_in own ≡ Some a) × (outcome_in a ≡ Some x)
act-done [] x h p = cc
act-done (b ∷ own) x h p = elim (cases_Bool (is_effect b)) [
  | inl t ↦ elim (effect-kind b t) [ inl y ↦ (b, rw t refl, y.1 ∙ rw y.1 at p) | inr y ↦ absurd (cc (rw y.1 at h)) ]
  | inr f ↦ let n = no-effect b f in let ih = act-done own x (rw n.1 at h) (rw n.0 at p) in (ih.0, rw f ih.1, ih.2)
]

-- ---- what a send tells

-- what a worker does next by its copy
abbrev pub by_fault : Option ℕ → Decision → Notif → List What → Deed
by_fault (Some e) d n own = Deed.Send n.id (FailBack e)
by_fault None d n own = decided_deed n.id own d

abbrev pub deed_by : Policy → Figures → Notif → List What → Progress → Deed
deed_by P F n own copy = by_fault (copy_fault copy) (judged_copy P F n copy) n own

abbrev pub is_sound : Progress → Bool
is_sound (Faulty e) = false
is_sound copy = true

-- the rule that decides says one of these: a grant, or an injection
abbrev pub Granting : Policy → Figures → Notif → Progress → Type 0
Granting P F n copy = (is_acting (judged_copy P F n copy) ≡ true) × (is_sound copy ≡ true)

abbrev pub Injecting : Policy → Figures → Notif → Progress → Type 0
Injecting P F n copy = IsInjection (judged_copy P F n copy) × (is_sound copy ≡ true)

-- a session that acts, or asks for a descriptor, doesn't pass
passed-alone : (own : List What) (i x : ℕ) (d : Decision) → decided_deed i own d ≡ Deed.Send x Continue → (is_acting d ≡ true) ⊎ IsInjection d → ⊥
passed-alone own i x (Denies e) h g = elim g [ inl y ↦ cc | inr y ↦ cc (y.3) ]
passed-alone own i x Passes h g = elim g [ inl y ↦ cc | inr y ↦ cc (y.3) ]
passed-alone own i x (Acts q cap) h g = acted (first_some outcome_in own) h
  where
    acted : (o : Option (Result (Unit {0}) ℕ)) → after_act i o (Deed.Act q cap) ≡ Deed.Send x Continue → ⊥
    acted None h = cc
    acted (Some (Ok u)) h = cc
    acted (Some (Err e)) h = cc
passed-alone own i x (Plants a b cap) h g = acted (first_some outcome_in own) h
  where
    acted : (o : Option (Result (Unit {0}) ℕ)) → after_act i o (Deed.Plant a b cap) ≡ Deed.Send x Continue → ⊥
    acted None h = cc
    acted (Some (Ok u)) h = cc
    acted (Some (Err e)) h = cc
passed-alone own i x (Injects src at flags) h g = put (first_some put_in own) (first_some take_in own) h
  where
    put : (o : Option (Result (Unit {0}) ℕ)) (t : Option (Result ℕ ℕ)) → inject_deed i (addfd_of i src at flags) o t ≡ Deed.Send x Continue → ⊥
    put None t h = cc
    put (Some (Err e)) t h = cc
    put (Some (Ok u)) None h = cc
    put (Some (Ok u)) (Some t) h = cc

module _ (P : Policy) (S : Script) where
  abbrev R : Rules
  R = rules_of P S.figures

  judged-parts : (n : Notif) (own : List What) (f : Option ℕ) → judged_deed R n own f ≡ by_fault f (R.decide n (reads_of own)) n own
  judged-parts n own None = refl
  judged-parts n own (Some e) = refl

  same-deed : (n : Notif) (own : List What) (copy : Progress) → copied n (reads_of own) ≡ copy → judged_deed R n own (R.fault n (reads_of own)) ≡ deed_by P S.figures n own copy
  same-deed n own copy h = judged-parts n own (R.fault n (reads_of own)) ∙ ap (λ (c : Progress). by_fault (copy_fault c) (judged_copy P S.figures n c) n own) h

  same-sound : (n : Notif) (own : List What) (copy : Progress) → copied n (reads_of own) ≡ copy → R.fault n (reads_of own) ≡ None → is_sound copy ≡ true
  same-sound n own (Wants a l) h f = refl
  same-sound n own (Complete texts) h f = refl
  same-sound n own (Faulty e) h f = let z : Some e ≡ None = sym (ap copy_fault h) ∙ f in cc z

  -- the copy by which a worker that sends has judged, and what it has done
  pub record Sends (K : List Event) (w x : ℕ) (b : Back) : Type 0 where
    pub call : ℕ
    pub in_hand : session_call K w ≡ Some call
    pub own_id : id K call ≡ x
    pub copy : Progress
    pub is_planned : planned_from (plan_of K call) [] (reverse (worth_least Valid (reads K w))) ≡ copy
    pub whole : wanted copy ≡ None
    pub deed : deed_by P S.figures (notif K call) (session K w) copy ≡ Deed.Send x b
    pub effect_is : EffectIs K w (effect_of K w)
    pub acted : (y : Result (Unit {0}) ℕ) → first_some outcome_in (session K w) ≡ Some y → Granting P S.figures (notif K call) copy
    pub put : (y : Result (Unit {0}) ℕ) → first_some put_in (session K w) ≡ Some y → Injecting P S.figures (notif K call) copy
    pub no_end : any_of gives_up (session K w) ≡ false

  pub sends : (K : List Event) (w x : ℕ) (b : Back) (a : Result (Unit {0}) ℕ) → IsLegal (system_of S) R K → length K < 2 ^ 64 → WorkerRow (system_of S) R K w (Send x b a) → Sends K w x b
  sends K w x b a legal room row =
      let T = system_of S in
      let own = session K w in
      let n = row.0.0 in
      let j = in-hand K w (session_call K w) n row.0.1 (hand T R K legal room w) in
      let y : n ≡ notif K j.0 = sym j.3 ∙ j.2.whole_is in
      let mine = is-own T R K legal w in
      let two = used-two R own n row.0.1 row.0.3 (ordered R own mine) in
      let copy = copied (notif K j.0) (reads_of own) in
      let q : copied n (reads_of own) ≡ copy = ap (λ (m : Notif). copied m (reads_of own)) y in
      record {
        call = j.0;
        in_hand = j.1;
        own_id = sym j.2.id_is ∙ (ap (λ (m : Notif). m.id) j.3 ∙ sym row.0.4);
        copy = copy;
        is_planned = planned T P S.figures K w j.0 legal room j.1 two;
        whole = ap wanted (sym q) ∙ row.0.3.copied;
        deed = sym (ap (λ (m : Notif). deed_by P S.figures m own copy) y) ∙ (sym (same-deed n own copy q) ∙ (row.0.5 ∙ ap (λ (z : ℕ). Deed.Send z b) (sym row.0.4)));
        effect_is = effect T R K legal room w j.0 j.1;
        acted = λ z h. let u = act-fixed R own mine n z row.0.1.notif_is h in
            (subst (λ (m : Notif). is_acting (judged_copy P S.figures m (copied m (reads_of own))) ≡ true) y u.decided, same-sound n own copy q u.sound);
        put = λ z h. let u = put-fixed R own mine n z row.0.1.notif_is h in
            (subst (λ (m : Notif). IsInjection (judged_copy P S.figures m (copied m (reads_of own)))) y u.decided, same-sound n own copy q u.sound);
        no_end = row.0.1.no_end;
      }

  -- ---- by a copy

  second-any : (f : Progress → Bool) (a b : Progress) → f b ≡ true → list_any f (a ∷ b ∷ []) ≡ true
  second-any f a b h = go (f a) refl
    where
      go : (t : Bool) → f a ≡ t → list_any f (a ∷ b ∷ []) ≡ true
      go true q = rw q refl
      go false q = rw (q, h) refl

  any-known : (K : List Event) (w c : ℕ) (f : Progress → Bool) (copy : Progress) → planned_from (plan_of K c) [] (reverse (worth_least Valid (reads K w))) ≡ copy → f copy ≡ true
      → list_any f (known_of K w c) ≡ true
  any-known K w c f copy h q = second-any f (newest_copy (worth_least Valid (reads K w)) (plan_of K c)) _ (rw h q)

  known-one : (copy : Progress) → wanted copy ≡ None → is_known copy ≡ true
  known-one (Wants a l) h = cc
  known-one (Complete texts) h = refl
  known-one (Faulty e) h = refl

  not-both : (a b c : Bool) → b ≡ true → (a && (not b && c)) ≡ false
  not-both a b c h = grind arith

  -- it has a cause
  pub has_cause : (K : List Event) (w x : ℕ) (b : Back) (s : Sends K w x b) → has_no_cause P K w s.call ≡ false
  has_cause K w x b s = not-both (not (has_effect K w)) (has_known K w s.call) _ (any-known K w s.call (λ copy. is_known copy) s.copy s.is_planned (known-one s.copy s.whole))

  -- ---- errors and passes, where there was no effect

  -- the error of a verdict
  denies : (K : List Event) (n : Notif) (own : List What) (x e : ℕ) (q : Request) (d : ℕ × Verdict) → first_some outcome_in own ≡ None → first_some put_in own ≡ None
      → decided_deed n.id own (decision_of P S.figures q d) ≡ Deed.Send x (FailBack e) → denies_by P K d e ≡ true
  denies K n own x e q (i, Deny f) o p h = let z : f ≡ e = cc in eq-eqb e f (sym z)
  denies K n own x e q (i, Pass) o p h = cc
  denies K n own x e q (i, Inject src at) o p h = cc (rw p at h)
  denies K n own x e (Sysinfo addr) (i, Grant) o p h = cc (rw o at h)
  denies K n own x e (Mknod dirfd path mode dev) (i, Grant) o p h = cc (rw o at h)
  denies K n own x e (Mount source target fstype options via flags shift) (i, Grant) o p h = cc (rw o at h)
  denies K n own x e (SetXattr path name value flags) (i, Grant) o p h = cc (rw o at h)
  denies K n own x e (OpenAt dirfd path flags) (i, Grant) o p h = cc (rw o at h)
  denies K n own x e (Other nr) (i, Grant) o p h = cc (rw o at h)

  passes : (n : Notif) (own : List What) (x : ℕ) (q : Request) (d : ℕ × Verdict) → first_some outcome_in own ≡ None → first_some put_in own ≡ None
      → decided_deed n.id own (decision_of P S.figures q d) ≡ Deed.Send x Continue → is_pass d.1 ≡ true
  passes n own x q (i, Deny f) o p h = cc
  passes n own x q (i, Pass) o p h = refl
  passes n own x q (i, Inject src at) o p h = cc (rw p at h)
  passes n own x (Sysinfo addr) (i, Grant) o p h = cc (rw o at h)
  passes n own x (Mknod dirfd path mode dev) (i, Grant) o p h = cc (rw o at h)
  passes n own x (Mount source target fstype options via flags shift) (i, Grant) o p h = cc (rw o at h)
  passes n own x (SetXattr path name value flags) (i, Grant) o p h = cc (rw o at h)
  passes n own x (OpenAt dirfd path flags) (i, Grant) o p h = cc (rw o at h)
  passes n own x (Other nr) (i, Grant) o p h = cc (rw o at h)

  error-led : (K : List Event) (w c x e : ℕ) (copy : Progress) → wanted copy ≡ None → first_some outcome_in (session K w) ≡ None → first_some put_in (session K w) ≡ None
      → deed_by P S.figures (notif K c) (session K w) copy ≡ Deed.Send x (FailBack e) → leads_to_error P S K w c e copy ≡ true
  error-led K w c x e (Wants a l) v o p h = cc
  error-led K w c x e (Complete texts) v o p h = rw (denies K (notif K c) (session K w) x e (request_with K c texts) (decided P K c texts) o p h) refl
  error-led K w c x e (Faulty f) v o p h = let z : f ≡ e = cc in rw (eq-eqb e f (sym z)) refl

  pass-led : (K : List Event) (w c x : ℕ) (copy : Progress) → wanted copy ≡ None → first_some outcome_in (session K w) ≡ None → first_some put_in (session K w) ≡ None
      → deed_by P S.figures (notif K c) (session K w) copy ≡ Deed.Send x Continue → leads_to_pass P K c copy ≡ true
  pass-led K w c x (Wants a l) v o p h = cc
  pass-led K w c x (Complete texts) v o p h = passes (notif K c) (session K w) x (request_with K c texts) (decided P K c texts) o p h
  pass-led K w c x (Faulty f) v o p h = cc

  -- the error is said
  pub denies_so : (K : List Event) (w x : ℕ) (b : Back) (s : Sends K w x b) → denies_otherwise P S K w s.call b ≡ false
  denies_so K w x (Value v) s = refl
  denies_so K w x Continue s = refl
  denies_so K w x (FailBack e) s = go (effect_of K w) refl s.effect_is
    where
      go : (p : Option ℕ) → effect_of K w ≡ p → EffectIs K w p → denies_otherwise P S K w s.call (FailBack e) ≡ false
      go (Some p) h i = rw h refl
      go None h i =
          let d = none-done (session K w) i in
          let l = any-known K w s.call (λ copy. leads_to_error P S K w s.call e copy) s.copy s.is_planned (error-led K w s.call x e s.copy s.whole d.0 d.1 s.deed) in
          rw (h, l) refl

  -- the decision of a pass isn't one of an effect
  never-acts : (K : List Event) (w c x : ℕ) (copy : Progress) → wanted copy ≡ None → deed_by P S.figures (notif K c) (session K w) copy ≡ Deed.Send x Continue
      → Granting P S.figures (notif K c) copy ⊎ Injecting P S.figures (notif K c) copy → ⊥
  never-acts K w c x (Wants a l) v h g = cc
  never-acts K w c x (Faulty f) v h g = elim g [ inl y ↦ cc (y.1) | inr y ↦ cc (y.1) ]
  never-acts K w c x (Complete texts) v h g = passed-alone (session K w) (notif K c).id x (judged_copy P S.figures (notif K c) (Complete texts)) h (elim g [ inl y ↦ inl y.0 | inr y ↦ inr y.0 ])

  -- the pass is said
  pub passes_so : (K : List Event) (w x : ℕ) (b : Back) (s : Sends K w x b) → passes_otherwise P K w s.call b ≡ false
  passes_so K w x (Value v) s = refl
  passes_so K w x (FailBack e) s = refl
  passes_so K w x Continue s = go (effect_of K w) refl s.effect_is
    where
      go : (p : Option ℕ) → effect_of K w ≡ p → EffectIs K w p → passes_otherwise P K w s.call Continue ≡ false
      go None h i =
          let d = none-done (session K w) i in
          let l = any-known K w s.call (λ copy. leads_to_pass P K s.call copy) s.copy s.is_planned (pass-led K w s.call x s.copy s.whole d.0 d.1 s.deed) in
          rw (h, l) refl
      go (Some p) h i = absurd (elim (some-done (session K w) i.0 i.2) [
        | inl y ↦ never-acts K w s.call x s.copy s.whole s.deed (inl (s.acted y.0 y.1))
        | inr y ↦ never-acts K w s.call x s.copy s.whole s.deed (inr (s.put y.0 y.1))
      ])

  -- ---- a success

  -- what an effect that has succeeded gives
  gave-zero : (K : List Event) (p : ℕ) (a : What) (u : Unit {0}) → outcome_in a ≡ Some (Ok u) → outcome_of K p a ≡ Some (Ok 0)
  gave-zero K p (Act q cap (Ok v)) u h = refl
  gave-zero K p (Act q cap (Err e)) u h = cc
  gave-zero K p (Plant x b cap (Ok v)) u h = refl
  gave-zero K p (Plant x b cap (Err e)) u h = cc
  gave-zero K p a u h = cc

  gave-at : (K : List Event) (w : ℕ) (o : Option ℕ) (a : What) (u : Unit {0}) → EffectIs K w o → first_some effect_in (session K w) ≡ Some a → outcome_in a ≡ Some (Ok u) → gave_at K o ≡ Some 0
  gave-at K w None a u i h q = cc (i, h)
  gave-at K w (Some p) a u i h q =
      let z : i.0 ≡ a = cc (i.2, h) in
      let y : outcome_of K p i.0 ≡ Some (Ok 0) = gave-zero K p i.0 u (rw z q) in
      rw (i.1, y) refl

  -- a value is sent after an effect that has succeeded
  told-done : (own : List What) (i x : ℕ) (v : ℤ) (d : Decision) → decided_deed i own d ≡ Deed.Send x (Value v) → ((u : Unit {0}) × (first_some outcome_in own ≡ Some (Ok u))) × (v ≡ pos 0) × (is_acting d ≡ true)
  told-done own i x v (Denies e) h = absurd (cc h)
  told-done own i x v Passes h = absurd (cc h)
  told-done own i x v (Acts q cap) h = go (first_some outcome_in own) refl h
    where
      go : (o : Option (Result (Unit {0}) ℕ)) → first_some outcome_in own ≡ o → after_act i o (Deed.Act q cap) ≡ Deed.Send x (Value v)
          → ((u : Unit {0}) × (first_some outcome_in own ≡ Some (Ok u))) × (v ≡ pos 0) × (true ≡ true)
      go None z h = absurd (cc h)
      go (Some (Ok u)) z h = ((u, z), cc, refl)
      go (Some (Err e)) z h = absurd (cc h)
  told-done own i x v (Plants a b cap) h = go (first_some outcome_in own) refl h
    where
      go : (o : Option (Result (Unit {0}) ℕ)) → first_some outcome_in own ≡ o → after_act i o (Deed.Plant a b cap) ≡ Deed.Send x (Value v)
          → ((u : Unit {0}) × (first_some outcome_in own ≡ Some (Ok u))) × (v ≡ pos 0) × (true ≡ true)
      go None z h = absurd (cc h)
      go (Some (Ok u)) z h = ((u, z), cc, refl)
      go (Some (Err e)) z h = absurd (cc h)
  told-done own i x v (Injects src at flags) h = absurd (put (first_some put_in own) (first_some take_in own) h)
    where
      put : (o : Option (Result (Unit {0}) ℕ)) (t : Option (Result ℕ ℕ)) → inject_deed i (addfd_of i src at flags) o t ≡ Deed.Send x (Value v) → ⊥
      put None t h = cc
      put (Some (Err e)) t h = cc
      put (Some (Ok u)) None h = cc
      put (Some (Ok u)) (Some t) h = cc

  pub value-done : (K : List Event) (w x : ℕ) (v : ℤ) (s : Sends K w x (Value v)) → (gave_at K (effect_of K w) ≡ Some 0) × (v ≡ pos 0)
  value-done K w x v s = go s.copy s.whole s.deed s.put
    where
      no-put : (d : Decision) → is_acting d ≡ true → IsInjection d → ⊥
      no-put d g i = cc (rw i.3 at g)

      put-none : (o : Option (Result (Unit {0}) ℕ)) → first_some put_in (session K w) ≡ o → ((y : Result (Unit {0}) ℕ) → first_some put_in (session K w) ≡ Some y → ⊥) → first_some put_in (session K w) ≡ None
      put-none None q never = q
      put-none (Some y) q never = absurd (never y q)

      go : (copy : Progress) → wanted copy ≡ None → deed_by P S.figures (notif K s.call) (session K w) copy ≡ Deed.Send x (Value v)
          → ((y : Result (Unit {0}) ℕ) → first_some put_in (session K w) ≡ Some y → Injecting P S.figures (notif K s.call) copy) → (gave_at K (effect_of K w) ≡ Some 0) × (v ≡ pos 0)
      go (Wants a l) z h put = absurd (cc z)
      go (Faulty f) z h put = absurd (cc h)
      go (Complete texts) z h put =
          let d = judged_copy P S.figures (notif K s.call) (Complete texts) in
          let t = told-done (session K w) (notif K s.call).id x v d h in
          let none = put-none (first_some put_in (session K w)) refl (λ y q. no-put d t.2 (put y q).0) in
          let a = act-done (session K w) (Ok t.0.0) none t.0.1 in
          (gave-at K w (effect_of K w) a.0 t.0.0 s.effect_is a.1 a.2, t.1)

  pub reports_done : (K : List Event) (w x : ℕ) (b : Back) (s : Sends K w x b) → reports_undone K w s.call b ≡ false
  reports_done K w x Continue s = refl
  reports_done K w x (FailBack e) s = refl
  reports_done K w x (Value v) s = let d = value-done K w x v s in rw (d.0, d.0) refl
