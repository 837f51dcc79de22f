-- What a verdict says.
-- By induction on the history; each clause is one of the list of clauses.
use Rattle.std.proofs.Common.{ap, arith, inl, inr, sym, ◌∙◌, ◌⊎◌, false, Bool, List, [], ◌∷◌, length, None, Option, refl, Some, ℕ, ◌<◌, ◌≡◌}
use Rattle.hist_model.proofs.Look.{event_at-here, event_at-older}
use Rattle.mediation.proofs.KernelCalls.{before-newest, before-older}
use Rattle.hist_model.specs.Look.{before}
use Rattle.hist_model.specs.declared.event.Event.{Event}
use Rattle.hist_model.specs.declared.policy.Policy.{Policy}
use Rattle.hist_model.specs.declared.script.Script.{Script}
use Rattle.broker_verdict.specs.Trusted.{at_place, breaks, broken_at, clauses, first_broken, first_fault, Keeps, or_later, Trusted}
use Rattle.broker_verdict.specs.Verdicts.{IsFirstBroken, Tells}
use Rattle.broker_verdict.specs.declared.clause.Clause.{Clause}
use Rattle.broker_verdict.specs.declared.clause.Clause.TheVariants.{EffectWithoutCall, OtherRequest, Unread, OtherMemory, StaleCopy}
use Rattle.broker_verdict.specs.declared.clause.Clause.TheVariants.{Unchecked, Torn, OtherBase, Ungranted, Spent, Again, AfterAnswer}
use Rattle.broker_verdict.specs.declared.clause.Clause.TheVariants.{AnswerWithoutCall, OtherAnswer, Uncaused, DeniedOtherwise}
use Rattle.broker_verdict.specs.declared.clause.Clause.TheVariants.{PassedOtherwise, GrantedNotDone, OtherOutcome, AnsweredAlready}
use Rattle.broker_verdict.specs.declared.clause.Clause.TheVariants.{Unanswered}

-- ---- the list of clauses

-- the clause is one of a list
data Among (clause : Clause) : List Clause → Type 0 where
  here : {more : List Clause} → Among clause (clause ∷ more)
  there : {other : Clause} {more : List Clause} → Among clause more → Among clause (other ∷ more)

-- each clause is asked
asked : (clause : Clause) → Among clause clauses
asked EffectWithoutCall = here
asked OtherRequest = there here
asked Unread = there (there here)
asked OtherMemory = there (there (there here))
asked StaleCopy = there (there (there (there here)))
asked Unchecked = there (there (there (there (there here))))
asked Torn = there (there (there (there (there (there here)))))
asked OtherBase = there (there (there (there (there (there (there here))))))
asked Ungranted = there (there (there (there (there (there (there (there here)))))))
asked Spent = there (there (there (there (there (there (there (there (there here))))))))
asked Again = there (there (there (there (there (there (there (there (there (there here)))))))))
asked AfterAnswer = there (there (there (there (there (there (there (there (there (there (there here))))))))))
asked AnswerWithoutCall = there (there (there (there (there (there (there (there (there (there (there (there here)))))))))))
asked OtherAnswer = there (there (there (there (there (there (there (there (there (there (there (there (there here))))))))))))
asked Uncaused = there (there (there (there (there (there (there (there (there (there (there (there (there (there here)))))))))))))
asked DeniedOtherwise = there (there (there (there (there (there (there (there (there (there (there (there (there (there (there here))))))))))))))
asked PassedOtherwise = there (there (there (there (there (there (there (there (there (there (there (there (there (there (there (there here)))))))))))))))
asked GrantedNotDone = there (there (there (there (there (there (there (there (there (there (there (there (there (there (there (there (there here))))))))))))))))
asked OtherOutcome = there (there (there (there (there (there (there (there (there (there (there (there (there (there (there (there (there (there here)))))))))))))))))
asked AnsweredAlready = there (there (there (there (there (there (there (there (there (there (there (there (there (there (there (there (there (there (there here))))))))))))))))))
asked Unanswered = there (there (there (there (there (there (there (there (there (there (there (there (there (there (there (there (there (there (there (there here)))))))))))))))))))

-- where none of a list is broken, each is kept
none-broken : (f : Clause → Bool) (L : List Clause) (clause : Clause) → first_broken f L ≡ None → Among clause L → f clause ≡ false
none-broken f [] clause h a = elim a [ ]
none-broken f (c ∷ L) clause h here = grind arith
none-broken f (c ∷ L) clause h (there a) = let ih = none-broken f L clause in grind arith

all-kept : (f : Clause → Bool) (L : List Clause) → ((clause : Clause) → f clause ≡ false) → first_broken f L ≡ None
all-kept f [] h = refl
all-kept f (c ∷ L) h = rw (h c) (all-kept f L h)

-- ---- one event more

pub trusted-kept : (P : Policy) (S : Script) (K : List Event) → Trusted P S K → (clause : Clause) → Keeps P S clause K
trusted-kept P S K t EffectWithoutCall = t.effect_has_call
trusted-kept P S K t OtherRequest = t.same_request
trusted-kept P S K t Unread = t.read
trusted-kept P S K t OtherMemory = t.own_memory
trusted-kept P S K t StaleCopy = t.read_in_time
trusted-kept P S K t Unchecked = t.checked
trusted-kept P S K t Torn = t.untorn
trusted-kept P S K t OtherBase = t.own_base
trusted-kept P S K t Ungranted = t.granted
trusted-kept P S K t Spent = t.within_times
trusted-kept P S K t Again = t.once
trusted-kept P S K t AfterAnswer = t.before_answer
trusted-kept P S K t AnswerWithoutCall = t.answer_has_call
trusted-kept P S K t OtherAnswer = t.own_answer
trusted-kept P S K t Uncaused = t.caused
trusted-kept P S K t DeniedOtherwise = t.denied
trusted-kept P S K t PassedOtherwise = t.passed
trusted-kept P S K t GrantedNotDone = t.done
trusted-kept P S K t OtherOutcome = t.outcome
trusted-kept P S K t AnsweredAlready = t.answered_once
trusted-kept P S K t Unanswered = t.answered

pub kept-trusted : (P : Policy) (S : Script) (K : List Event) → ((clause : Clause) → Keeps P S clause K) → Trusted P S K
kept-trusted P S K k = record {
  effect_has_call = k EffectWithoutCall;
  same_request = k OtherRequest;
  read = k Unread;
  own_memory = k OtherMemory;
  read_in_time = k StaleCopy;
  checked = k Unchecked;
  untorn = k Torn;
  own_base = k OtherBase;
  granted = k Ungranted;
  within_times = k Spent;
  once = k Again;
  before_answer = k AfterAnswer;
  answer_has_call = k AnswerWithoutCall;
  own_answer = k OtherAnswer;
  caused = k Uncaused;
  denied = k DeniedOtherwise;
  passed = k PassedOtherwise;
  done = k GrantedNotDone;
  outcome = k OtherOutcome;
  answered_once = k AnsweredAlready;
  answered = k Unanswered;
}

-- of the events before the newest one, and of this one
parts : (a : Option (ℕ × Clause)) (n : ℕ) (b : Option Clause) → or_later a (at_place n b) ≡ None → (a ≡ None) × (b ≡ None)
parts None n None h = (refl, refl)
parts None n (Some c) h = cc
parts (Some f) n b h = cc

joined : (a : Option (ℕ × Clause)) (n : ℕ) (b : Option Clause) → a ≡ None → b ≡ None → or_later a (at_place n b) ≡ None
joined a n b p q = rw (p, q) refl

none-kept : (P : Policy) (S : Script) (K : List Event) → first_fault P S K ≡ None → (clause : Clause) → Keeps P S clause K
unfolding first_fault
none-kept P S [] h clause = tt
none-kept P S (e ∷ K) h clause =
    let q = parts (first_fault P S K) (length K) (broken_at P S K e) h in
    (none-broken (λ c. breaks P S c K e) clauses clause q.1 (asked clause), none-kept P S K q.0 clause)

kept-none : (P : Policy) (S : Script) (K : List Event) → ((clause : Clause) → Keeps P S clause K) → first_fault P S K ≡ None
unfolding first_fault
kept-none P S [] k = refl
kept-none P S (e ∷ K) k =
    joined (first_fault P S K) (length K) (broken_at P S K e) (kept-none P S K (λ c. (k c).1)) (all-kept (λ c. breaks P S c K e) clauses (λ c. (k c).0))

pub trusted_none : (P : Policy) (S : Script) (K : List Event) → Trusted P S K → first_fault P S K ≡ None
trusted_none P S K t = kept-none P S K (trusted-kept P S K t)

none-trusted : (P : Policy) (S : Script) (K : List Event) → first_fault P S K ≡ None → Trusted P S K
none-trusted P S K h = kept-trusted P S K (none-kept P S K h)

-- ---- the first that is broken

-- where it stands in the longer history
older : (P : Policy) (S : Script) (e : Event) (K : List Event) (n : ℕ) (c : Clause) → n < length K → IsFirstBroken P S K n c → IsFirstBroken P S (e ∷ K) n c
older P S e K n c l f =
    let b : before (e ∷ K) n ≡ before K n = before-older e K n (omega arith) in
    record { event = f.event; stands = event_at-older e K n l ∙ f.stands; breaks = rw b f.breaks; trusted_before = rw b f.trusted_before }

newest-breaks : (P : Policy) (S : Script) (e : Event) (K : List Event) (c : Clause) → first_fault P S K ≡ None → broken_at P S K e ≡ Some c → IsFirstBroken P S (e ∷ K) (length K) c
newest-breaks P S e K c q b =
    record { event = e; stands = event_at-here e K; breaks = rw (before-newest e K) b; trusted_before = rw (before-newest e K) (none-trusted P S K q) }

-- the least event is before the newest one, or it is this one
split : (a : Option (ℕ × Clause)) (n : ℕ) (b : Option Clause) (f : ℕ × Clause) → or_later a (at_place n b) ≡ Some f → (a ≡ Some f) ⊎ ((a ≡ None) × (f.0 ≡ n) × (b ≡ Some f.1))
split None n None f h = cc
split None n (Some c) f h = let q : (n, c) ≡ f = cc in inr (refl, ap (λ (g : ℕ × Clause). g.0) (sym q), ap (λ (g : ℕ × Clause). Some g.1) q)
split (Some g) n b f h = inl h

below : (P : Policy) (S : Script) (K : List Event) (f : ℕ × Clause) → first_fault P S K ≡ Some f → f.0 < length K
unfolding first_fault
below P S [] f h = cc
below P S (e ∷ K) f h = elim (split (first_fault P S K) (length K) (broken_at P S K e) f h) [ inl q ↦ let l = below P S K f q in omega arith | inr q ↦ omega (arith, q.1) ]

first-broken : (P : Policy) (S : Script) (K : List Event) (f : ℕ × Clause) → first_fault P S K ≡ Some f → IsFirstBroken P S K f.0 f.1
unfolding first_fault
first-broken P S [] f h = cc
first-broken P S (e ∷ K) f h = elim (split (first_fault P S K) (length K) (broken_at P S K e) f h) [
  | inl q ↦ older P S e K f.0 f.1 (below P S K f q) (first-broken P S K f q)
  | inr q ↦ rw q.1 (newest-breaks P S e K f.1 q.0 q.2)
]

tells-it : (P : Policy) (S : Script) (K : List Event) (v : Option (ℕ × Clause)) → first_fault P S K ≡ v → Tells P S K v
tells-it P S K None h = none-trusted P S K h
tells-it P S K (Some f) h = first-broken P S K f h

pub tells : (P : Policy) (S : Script) (K : List Event) → Tells P S K (first_fault P S K)
tells P S K = tells-it P S K (first_fault P S K) refl
