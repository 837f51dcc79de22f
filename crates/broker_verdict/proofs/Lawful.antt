-- A broker that can be trusted keeps the sentences of the mediation law.
-- By the clauses that are kept at each event, and what the kernel keeps.
use Rattle.std.proofs.Common.{arith, Bool, false, List, [], ◌∷◌, None, Option, refl, Some, true, ℕ, ◌&&◌, ◌≡◌}
use Rattle.std.proofs.lemmas.Bool.{and_parts, or_parts}
use Rattle.std.specs.List.{list_any}
use Rattle.std.specs.Prelude.{if◌then◌else◌, is_some, not, ◌==◌, Result, Ok}
use Rattle.hist_model.specs.Legal.{OfKernel}
use Rattle.hist_model.specs.Mediated.{Each}
use Rattle.hist_model.specs.Calls.{caller, id}
use Rattle.hist_model.specs.Decisions.{path_of}
use Rattle.hist_model.specs.Files.{files}
use Rattle.hist_model.specs.Look.{is_place}
use Rattle.hist_model.specs.Memory.{group_named}
use Rattle.hist_model.specs.Steps.{mem, session_call}
use Rattle.hist_model.specs.declared.request.Request.TheVariants.{Sysinfo}
use Rattle.hist_model.specs.declared.event.What.{What}
use Rattle.sys_abi.specs.declared.wire.Addfd.{Addfd}
use Rattle.broker_verdict.proofs.BaseKept.{base_opened}
use Rattle.std.proofs.Common.{ap, sym, ◌||◌}
use Rattle.std.proofs.lemmas.Bool.{eqb-true}
use Rattle.hist_model.specs.declared.event.Back.{Back}
use Rattle.hist_model.specs.declared.event.Back.TheVariants.{Value, Fail, Continue}
use Rattle.hist_model.specs.declared.event.Event.{Event}
use Rattle.hist_model.specs.declared.event.What.TheVariants.{Act, AddfdPut, Plant, Send}
use Rattle.hist_model.specs.declared.policy.Cap.{Cap}
use Rattle.hist_model.specs.declared.policy.Policy.{Policy}
use Rattle.hist_model.specs.declared.request.Request.{Request}
use Rattle.hist_model.specs.declared.script.Script.{Script}
use Rattle.mediation.specs.Kernels.{KernelKeeps}
use Rattle.broker_verdict.proofs.Judged.{trusted-kept}
use Rattle.broker_verdict.proofs.Own.{names_own, not-false, unbroken}
use Rattle.broker_verdict.proofs.SeatReads.{texts_read}
use Rattle.broker_verdict.specs.Answers.{allows_error, has_effect, is_error_said, is_pass_said, outcome_at, what_done}
use Rattle.broker_verdict.specs.Choices.{decided}
use Rattle.broker_verdict.specs.Effects.{asks_other, opens_with, goes_elsewhere, has_base, is_relative, rests_on_others, base_is_unchecked, copy_is_unchecked, grants_just, has_numbers, is_empty_list, is_unchecked, is_ungranted, rests_on, rests_on_nothing, texts_of}
use Rattle.broker_verdict.specs.SeatCopies.{fit_parts, plan_of}
use Rattle.broker_verdict.specs.Seats.{effect_of, Foreign, Fresh, is_base_refused, is_checked, of_call, request_with, Valid}
use Rattle.broker_verdict.specs.Sentences.{CausesAnswer, GrantsAct, GrantsPlant, GrantsPut, IsActGranted, IsAnswerCaused, IsPlantGranted, IsPutGranted, is_right, Sentences}
use Rattle.broker_verdict.specs.Trusted.{Keeps, seat_breaks, Trusted}
use Rattle.broker_verdict.specs.declared.clause.Clause.{Clause}
use Rattle.broker_verdict.specs.declared.clause.Clause.TheVariants.{AnswerWithoutCall, DeniedOtherwise, EffectWithoutCall, OtherAnswer, OtherBase, OtherMemory, OtherOutcome, OtherRequest, PassedOtherwise, Uncaused, Unchecked, Ungranted, Unread}

-- the clauses that say what an act is
record ActKeeps (P : Policy) (S : Script) (K : List Event) (w : ℕ) (q : Request) (cap : Option Cap) (a : Result (Unit {0}) ℕ) (o : Option ℕ) : Type 0 where
  pub with_call : seat_breaks P S EffectWithoutCall K w (Act q cap a) o ≡ false
  pub request : seat_breaks P S OtherRequest K w (Act q cap a) o ≡ false
  pub read : seat_breaks P S Unread K w (Act q cap a) o ≡ false
  pub checked : seat_breaks P S Unchecked K w (Act q cap a) o ≡ false
  pub granted : seat_breaks P S Ungranted K w (Act q cap a) o ≡ false
  pub base : seat_breaks P S OtherBase K w (Act q cap a) o ≡ false

-- where a relative path goes from a base, a check was good behind it
base-valid : (g s f v r : Bool) → (g && not (f || (not s && r))) ≡ false → (g && (f && not v)) ≡ false → g ≡ true → s ≡ true → v ≡ true
base-valid true true true true r a b p q = refl
base-valid true true true false r a b p q = cc
base-valid true true false v r a b p q = cc
base-valid true false f v r a b p q = cc
base-valid false s f v r a b p q = cc

one-of : (f : List (List ℕ) → Bool) (t : List (List ℕ)) → list_any f (t ∷ []) ≡ true → f t ≡ true
one-of f t h = grind arith

act-granted : (P : Policy) (S : Script) (K : List Event) (w : ℕ) (q : Request) (cap : Option Cap) (a : Result (Unit {0}) ℕ) (o : Option ℕ) → session_call K w ≡ o
    → ActKeeps P S K w q cap a o → IsActGranted P S K w q (Act q cap a)
act-granted P S K w q cap a None h k = cc (k.with_call)
act-granted P S K w q cap a (Some c) h k =
    let r = (or_parts (not (has_numbers (request_with K c []) q)) false k.request).0 in
    let u = and_parts (fit_parts (plan_of K c) (texts_of q)) (rests_on P Foreign K w c (Act q cap a)) (not-false (or_parts (rests_on_nothing P K w c (Act q cap a)) false k.read).0) in
    let v = or_parts (not (rests_on P Valid K w c (Act q cap a))) (is_empty_list (plan_of K c) && not (is_checked K w))
    (or_parts (copy_is_unchecked P K w c (Act q cap a)) (base_is_unchecked S K w (Act q cap a)) (or_parts (is_unchecked P S K w c (Act q cap a)) false k.checked).0).0 in
    let g = not-false (or_parts (is_ungranted P S K w c (Act q cap a)) false k.granted).0 in
    record {
      call = c;
      in_hand = h;
      asked_for = not-false r;
      has_form = u.0;
      copied = texts_read K w c (plan_of K c) (texts_of q) h (not-false v.0);
      from_base = λ r s. base_opened S K w c h
          (base-valid (is_relative (path_of q)) (is_some ((files S K).base w)) (has_base Fresh S K w) (has_base Valid S K w) (is_base_refused S K w)
          (or_parts (goes_elsewhere S K w (Act q cap a)) false k.base).0
          (or_parts (copy_is_unchecked P K w c (Act q cap a)) (base_is_unchecked S K w (Act q cap a)) (or_parts (is_unchecked P S K w c (Act q cap a)) false k.checked).0).1 r s);
      granted = one-of (λ texts. grants_just P S K c (Act q cap a) texts (decided P K c texts)) (texts_of q) g;
    }

acts : (P : Policy) (S : Script) (K : List Event) → ((clause : Clause) → Keeps P S clause K) → Each (GrantsAct P S) K
acts P S [] k = tt
acts P S (e ∷ K) k = (
  λ w q cap a p h.
      let part = λ (clause : Clause). unbroken P S clause K e (k clause).0 in
      rw h (act-granted P S K w q cap a (session_call K w) refl (record {
        with_call = rw (p, h) at (part EffectWithoutCall);
        request = rw (p, h) at (part OtherRequest);
        read = rw (p, h) at (part Unread);
        checked = rw (p, h) at (part Unchecked);
        granted = rw (p, h) at (part Ungranted);
        base = rw (p, h) at (part OtherBase);
      })),
  acts P S K (λ c. (k c).1),
)

record EffectKeeps (P : Policy) (S : Script) (K : List Event) (w : ℕ) (what : What) (o : Option ℕ) : Type 0 where
  pub with_call : seat_breaks P S EffectWithoutCall K w what o ≡ false
  pub request : seat_breaks P S OtherRequest K w what o ≡ false
  pub memory : seat_breaks P S OtherMemory K w what o ≡ false
  pub granted : seat_breaks P S Ungranted K w what o ≡ false

same-place : (m g : Option ℕ) → of_call m (is_place g) ≡ true → m ≡ g
same-place None g h = cc
same-place (Some n) None h = cc
same-place (Some n) (Some k) h = ap (λ (x : ℕ). Some x) (sym (eqb-true k n h))

plant-granted : (P : Policy) (S : Script) (K : List Event) (w addr : ℕ) (bytes : List ℕ) (cap : Option Cap) (a : Result (Unit {0}) ℕ) (o : Option ℕ) → session_call K w ≡ o
    → EffectKeeps P S K w (Plant addr bytes cap a) o → IsPlantGranted P S K w addr (Plant addr bytes cap a)
plant-granted P S K w addr bytes cap a None h k = cc (k.with_call)
plant-granted P S K w addr bytes cap a (Some c) h k =
    let g = not-false (or_parts (is_ungranted P S K w c (Plant addr bytes cap a)) false k.granted).0 in
    let m = not-false (or_parts (rests_on_others P K w c (Plant addr bytes cap a)) false k.memory).0 in
    record {
      call = c;
      in_hand = h;
      asked_for = not-false (or_parts (not (has_numbers (request_with K c []) (Sysinfo addr))) false k.request).0;
      of_caller = same-place (mem K w) (group_named K (caller K c)) m;
      granted = one-of (λ texts. grants_just P S K c (Plant addr bytes cap a) texts (decided P K c texts)) [] g;
    }

put-granted : (P : Policy) (S : Script) (K : List Event) (w : ℕ) (q : Addfd) (a : Result (Unit {0}) ℕ) (o : Option ℕ) → session_call K w ≡ o
    → EffectKeeps P S K w (AddfdPut q a) o → IsPutGranted P S K w q (AddfdPut q a)
put-granted P S K w q a None h k = cc (k.with_call)
put-granted P S K w q a (Some c) h k =
    let r = and_parts (opens_with (request_with K c []) q.newfd_flags) (q.id == id K c) (not-false (or_parts (asks_other K c (AddfdPut q a)) false k.request).0) in
    record {
      call = c;
      in_hand = h;
      own_id = sym (eqb-true q.id (id K c) r.1);
      granted = not-false (or_parts (is_ungranted P S K w c (AddfdPut q a)) false k.granted).0;
    }

plants : (P : Policy) (S : Script) (K : List Event) → ((clause : Clause) → Keeps P S clause K) → Each (GrantsPlant P S) K
plants P S [] k = tt
plants P S (e ∷ K) k = (
  λ w addr bytes cap a p h.
      let part = λ (clause : Clause). unbroken P S clause K e (k clause).0 in
      rw h (plant-granted P S K w addr bytes cap a (session_call K w) refl (record {
        with_call = rw (p, h) at (part EffectWithoutCall);
        request = rw (p, h) at (part OtherRequest);
        memory = rw (p, h) at (part OtherMemory);
        granted = rw (p, h) at (part Ungranted);
      })),
  plants P S K (λ c. (k c).1),
)

puts : (P : Policy) (S : Script) (K : List Event) → ((clause : Clause) → Keeps P S clause K) → Each (GrantsPut P S) K
puts P S [] k = tt
puts P S (e ∷ K) k = (
  λ w q a p h.
      let part = λ (clause : Clause). unbroken P S clause K e (k clause).0 in
      rw h (put-granted P S K w q a (session_call K w) refl (record {
        with_call = rw (p, h) at (part EffectWithoutCall);
        request = rw (p, h) at (part OtherRequest);
        memory = rw (p, h) at (part OtherMemory);
        granted = rw (p, h) at (part Ungranted);
      })),
  puts P S K (λ c. (k c).1),
)

-- the clauses that say what an answer is that was accepted
record AnswerKeeps (P : Policy) (S : Script) (K : List Event) (w x : ℕ) (back : Back) (o : Option ℕ) : Type 0 where
  pub with_call : seat_breaks P S AnswerWithoutCall K w (Send x back (Ok tt)) o ≡ false
  pub own : seat_breaks P S OtherAnswer K w (Send x back (Ok tt)) o ≡ false
  pub caused : seat_breaks P S Uncaused K w (Send x back (Ok tt)) o ≡ false
  pub denied : seat_breaks P S DeniedOtherwise K w (Send x back (Ok tt)) o ≡ false
  pub passed : seat_breaks P S PassedOtherwise K w (Send x back (Ok tt)) o ≡ false
  pub told : seat_breaks P S OtherOutcome K w (Send x back (Ok tt)) o ≡ false

-- an error is the effect's, where there is one, else the policy's
error-right : (h s a : Bool) → (not h && not s) ≡ false → (h && not a) ≡ false → (if h then a else s) ≡ true
error-right true s true p q = refl
error-right true s false p q = cc
error-right false true a p q = refl
error-right false false a p q = cc

pass-right : (h s : Bool) → (h || not s) ≡ false → (not h && s) ≡ true
pass-right true s p = cc
pass-right false true p = refl
pass-right false false p = cc

answer-right : (P : Policy) (S : Script) (K : List Event) (w c x : ℕ) (back : Back) → AnswerKeeps P S K w x back (Some c) → is_right P S K w c back ≡ true
answer-right P S K w c x (Value v) k = not-false k.told
answer-right P S K w c x (Fail e) k =
    error-right (has_effect K w) (is_error_said P S K w c e) (allows_error (outcome_at K (effect_of K w)) (what_done K (effect_of K w)) e) k.denied k.told
answer-right P S K w c x Continue k = pass-right (has_effect K w) (is_pass_said P K w c) k.passed

answer-caused : (P : Policy) (S : Script) (K : List Event) (w x : ℕ) (back : Back) (o : Option ℕ) → session_call K w ≡ o → AnswerKeeps P S K w x back o
    → IsAnswerCaused P S K w x back
answer-caused P S K w x back None h k = cc (k.with_call)
answer-caused P S K w x back (Some c) h k = record {
  call = c;
  in_hand = h;
  own_id = eqb-true (id K c) x (not-false k.own);
  has_cause = k.caused;
  is_right = answer-right P S K w c x back k;
}

answers : (P : Policy) (S : Script) (K : List Event) → ((clause : Clause) → Keeps P S clause K) → Each (CausesAnswer P S) K
answers P S [] k = tt
answers P S (e ∷ K) k = (
  λ w x back p h.
      let part = λ (clause : Clause). unbroken P S clause K e (k clause).0 in
      answer-caused P S K w x back (session_call K w) refl (record {
        with_call = rw (p, h) at (part AnswerWithoutCall);
        own = rw (p, h) at (part OtherAnswer);
        caused = rw (p, h) at (part Uncaused);
        denied = rw (p, h) at (part DeniedOtherwise);
        passed = rw (p, h) at (part PassedOtherwise);
        told = rw (p, h) at (part OtherOutcome);
      }),
  answers P S K (λ c. (k c).1),
)

pub lawful : (P : Policy) (S : Script) (K : List Event) → OfKernel S K → KernelKeeps S K → Trusted P S K → Sentences P S K
lawful P S K history keeps t = record { once = keeps.once; own = names_own P S K history t; acts = acts P S K (trusted-kept P S K t); plants = plants P S K (trusted-kept P S K t); puts = puts P S K (trusted-kept P S K t); answers = answers P S K (trusted-kept P S K t) }
