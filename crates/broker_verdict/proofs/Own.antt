-- A broker that can be trusted answers for the call that its seat has in hand.
-- By the clauses that are kept: the id is that call's, and no two calls of the kernel have one id.
use Rattle.std.proofs.Common.{arith, Bool, false, inl, inr, length, List, [], ◌∷◌, None, Option, refl, Some, sym, true, ℕ, ◌<◌, ◌^◌, ◌||◌, ◌∙◌, ◌≡◌, ◌⊎◌}
use Rattle.std.specs.Prelude.{Err, Ok, ◌==◌, not, ◌&&◌, if◌then◌else◌}
use Rattle.sys_abi.specs.Errnos.{ebadf}
use Rattle.sys_abi.specs.declared.wire.Addfd.{Addfd}
use Rattle.broker_verdict.specs.Effects.{opens_with}
use Rattle.broker_verdict.specs.Seats.{request_with}
use Rattle.std.proofs.lemmas.Bool.{eq-eqb, eqb-true}
use Rattle.history_frames.proofs.Listed.{is_call-below, listed-is_call, named-listed}
use Rattle.hist_model.proofs.Look.{event_at-older}
use Rattle.hist_model.specs.Calls.{id, is_call, named}
use Rattle.hist_model.specs.Kinds.{is_accepted}
use Rattle.hist_model.specs.Legal.{OfKernel, system_of}
use Rattle.hist_model.specs.Look.{ev, is_worker, Name}
use Rattle.hist_model.specs.Mediated.{Each, IsForOwnCall, NamesOwn}
use Rattle.hist_model.specs.Steps.{call_after, IsOfKernel, put_answer, send_answer, session_call}
use Rattle.hist_model.specs.Systems.{System}
use Rattle.hist_model.specs.declared.event.Actor.{Actor}
use Rattle.hist_model.specs.declared.event.Actor.TheVariants.{Listener, Start, Task, Worker}
use Rattle.hist_model.specs.declared.event.Back.{Back}
use Rattle.hist_model.specs.declared.event.Event.{Event}
use Rattle.hist_model.specs.declared.event.What.{What}
use Rattle.hist_model.specs.declared.event.What.TheVariants.{AddfdPut, Send, Skip}
use Rattle.hist_model.specs.declared.policy.Policy.{Policy}
use Rattle.hist_model.specs.declared.script.Script.{Script}
use Rattle.mediation.proofs.KernelCalls.{call_ids}
use Rattle.mediation.proofs.KernelRows.{Answered, kernel-row-of, KernelRow, KernelWorkerRow, TaskRow}
use Rattle.mediation.specs.Facts.{CallIdsDiffer}
use Rattle.broker_verdict.specs.Trusted.{breaks, breaks_by, Keeps, leaves_unanswered, seat_breaks, Trusted}
use Rattle.broker_verdict.proofs.Judged.{trusted-kept}
use Rattle.broker_verdict.specs.declared.clause.Clause.{Clause}
use Rattle.broker_verdict.specs.declared.clause.Clause.TheVariants.{AnswerWithoutCall, EffectWithoutCall, OtherAnswer, OtherRequest}

-- what a seat has in hand is a call
call-older : (e : Event) (K : List Event) (c : ℕ) → is_call K c ≡ true → is_call (e ∷ K) c ≡ true
call-older e K c h = let l = is_call-below K c h in rw (event_at-older e K c l) h

named-call : (K : List Event) (x c : ℕ) → named K x ≡ Some c → is_call K c ≡ true
named-call K x c h = listed-is_call K c (named-listed K x c h).0

after-call : (K : List Event) (what : What) (o : Option ℕ) (c : ℕ) → (o ≡ Some c → is_call K c ≡ true) → call_after K what o ≡ Some c → is_call K c ≡ true
after-call K what o c old h = grind (arith, named-call)

either : (b : Bool) (x y : Option ℕ) (c : ℕ) → (if b then x else y) ≡ Some c → (x ≡ Some c) ⊎ (y ≡ Some c)
either true x y c h = inl h
either false x y c h = inr h

pub hand_call : (K : List Event) (w c : ℕ) → session_call K w ≡ Some c → is_call K c ≡ true
unfolding session_call
hand_call [] w c h = cc
hand_call (e ∷ K) w c h = elim (either (is_worker e.who w) (call_after K e.what (session_call K w)) (session_call K w) c h) [
  | inl q ↦ call-older e K c (after-call K e.what (session_call K w) c (hand_call K w c) q)
  | inr q ↦ call-older e K c (hand_call K w c q)
]

named-own : (K : List Event) (x c d : ℕ) → CallIdsDiffer K → is_call K c ≡ true → id K c ≡ x → named K x ≡ Some d → named K x ≡ Some c
named-own K x c d ids h q n =
    let l = named-listed K x d n in
    let e : d ≡ c = ids d c (listed-is_call K d l.0) h (l.1 ∙ sym q) in
    rw (sym e) n

-- ---- what was accepted

pub not-false : {b : Bool} → not b ≡ false → b ≡ true
not-false {b = true} h = refl
not-false {b = false} h = cc

left-false : (a b : Bool) → (a || b) ≡ false → a ≡ false
left-false true b h = cc
left-false false b h = refl

-- the four clauses that an accepted answer or request keeps
record Kept (P : Policy) (S : Script) (K : List Event) (w : ℕ) (what : What) (o : Option ℕ) : Type 0 where
  pub effect : seat_breaks P S EffectWithoutCall K w what o ≡ false
  pub answer : seat_breaks P S AnswerWithoutCall K w what o ≡ false
  pub other : seat_breaks P S OtherAnswer K w what o ≡ false
  pub request : seat_breaks P S OtherRequest K w what o ≡ false

-- an id that names a call at all names this one
names-own : (K : List Event) (x c : ℕ) (o : Option ℕ) → CallIdsDiffer K → is_call K c ≡ true → id K c ≡ x → named K x ≡ o → (o ≡ None → ⊥) → named K x ≡ Some c
names-own K x c None ids h q n some = absurd (some refl)
names-own K x c (Some d) ids h q n some = named-own K x c d ids h q n

sent-some : (K : List Event) (o : Option ℕ) → Ok tt ≡ send_answer K o → o ≡ None → ⊥
sent-some K o r q = cc (rw q at r)

put-some : (T : System) (K : List Event) (p : Addfd) (source : Bool) (o : Option ℕ) → Ok tt ≡ (if not source then Err ebadf else put_answer T K p o) → o ≡ None → ⊥
put-some T K p true o r q = cc (rw q at r)
put-some T K p false o r q = cc

own-sent : (T : System) (K : List Event) (w c x : ℕ) (b : Back) → CallIdsDiffer K → session_call K w ≡ Some c → not (id K c == x) ≡ false
    → Answered T K w (Send x b (Ok tt)) → IsForOwnCall K (ev (Worker w) (Send x b (Ok tt)))
own-sent T K w c x b ids q k r =
    let i : id K c ≡ x = eqb-true (id K c) x (not-false k) in
    let n : named K x ≡ Some c = names-own K x c (named K x) ids (hand_call K w c q) i refl (sent-some K (named K x) r) in
    record { worker = w; call = c; taken_by = refl; of_call = q; names = rw n (eq-eqb c c refl) }

own-put : (T : System) (K : List Event) (w c : ℕ) (p : Addfd) → CallIdsDiffer K → session_call K w ≡ Some c → p.id ≡ id K c
    → Answered T K w (AddfdPut p (Ok tt)) → IsForOwnCall K (ev (Worker w) (AddfdPut p (Ok tt)))
own-put T K w c p ids q k r =
    let n : named K p.id ≡ Some c = names-own K p.id c (named K p.id) ids (hand_call K w c q) (sym k) refl (put-some T K p (T.source p.srcfd) (named K p.id) r) in
    record { worker = w; call = c; taken_by = refl; of_call = q; names = rw (n, eq-eqb c c refl) refl }

asked-own : (K : List Event) (c : ℕ) (p : Addfd) (more : Bool) → ((not (opens_with (request_with K c []) p.newfd_flags && (p.id == id K c))) || more) ≡ false → p.id ≡ id K c
asked-own K c p more h = grind arith

own-worker : (P : Policy) (S : Script) (T : System) (K : List Event) (w : ℕ) (what : What) (o : Option ℕ) → CallIdsDiffer K → session_call K w ≡ o → Kept P S K w what o
    → is_accepted what ≡ true → Answered T K w what → IsForOwnCall K (ev (Worker w) what)
own-worker P S T K w (Send x b (Ok u)) (Some c) ids q k a r = own-sent T K w c x b ids q k.other r
own-worker P S T K w (Send x b (Ok u)) None ids q k a r = cc (k.answer)
own-worker P S T K w (AddfdPut p (Ok u)) (Some c) ids q k a r = own-put T K w c p ids q (asked-own K c p _ k.request) r
own-worker P S T K w (AddfdPut p (Ok u)) None ids q k a r = cc (k.effect)
own-worker P S T K w what o ids q k a r = absurd (cc)

answered-row : (T : System) (K : List Event) (w : ℕ) (what : What) → is_accepted what ≡ true → KernelWorkerRow T K w what → Answered T K w what
answered-row T K w Skip a r = cc
answered-row T K w what a r = r

-- only a worker's step is accepted
task-never : (T : System) (K : List Event) (n : Name) (what : What) → is_accepted what ≡ true → TaskRow T K n what → ⊥
task-never T K n what a r = grind arith

start-never : (T : System) (K : List Event) (what : What) → is_accepted what ≡ true → KernelRow T K Start what → ⊥
start-never T K what a r = grind arith

close-never : (T : System) (K : List Event) (what : What) → is_accepted what ≡ true → KernelRow T K Listener what → ⊥
close-never T K what a r = grind arith

own-actor : (P : Policy) (S : Script) (T : System) (K : List Event) (a : Actor) (what : What) → CallIdsDiffer K → KernelRow T K a what
    → breaks_by P S EffectWithoutCall K a what ≡ false → breaks_by P S AnswerWithoutCall K a what ≡ false → breaks_by P S OtherAnswer K a what ≡ false
    → breaks_by P S OtherRequest K a what ≡ false → is_accepted what ≡ true → IsForOwnCall K (ev a what)
own-actor P S T K Start what ids r e f g h q = absurd (start-never T K what q r)
own-actor P S T K (Task n) what ids r e f g h q = absurd (task-never T K n what q r)
own-actor P S T K (Worker w) what ids r e f g h q =
    own-worker P S T K w what (session_call K w) ids refl (record { effect = e; answer = f; other = g; request = h }) q (answered-row T K w what q r)
own-actor P S T K Listener what ids r e f g h q = absurd (close-never T K what q r)

pub unbroken : (P : Policy) (S : Script) (clause : Clause) (K : List Event) (e : Event) → breaks P S clause K e ≡ false → breaks_by P S clause K e.who e.what ≡ false
unbroken P S clause K e h = left-false (breaks_by P S clause K e.who e.what) (leaves_unanswered clause K e) h

own-all : (P : Policy) (S : Script) (T : System) (K : List Event) → IsOfKernel T K → length K < 2 ^ 64 → ((clause : Clause) → Keeps P S clause K) → Each NamesOwn K
own-all P S T [] history room k = tt
own-all P S T (e ∷ K) history room k = (
  λ q. own-actor P S T K e.who e.what (call_ids T K history.1 (omega arith)) (kernel-row-of T K e history.0)
      (unbroken P S EffectWithoutCall K e (k EffectWithoutCall).0) (unbroken P S AnswerWithoutCall K e (k AnswerWithoutCall).0)
      (unbroken P S OtherAnswer K e (k OtherAnswer).0) (unbroken P S OtherRequest K e (k OtherRequest).0) q,
  own-all P S T K history.1 (omega arith) (λ c. (k c).1),
)

pub names_own : (P : Policy) (S : Script) (K : List Event) → OfKernel S K → Trusted P S K → Each NamesOwn K
names_own P S K history t = own-all P S (system_of S) K history.0 history.1 (trusted-kept P S K t)
