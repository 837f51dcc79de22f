-- What holds of a history still holds after a step.
-- By cases on whether a call is the newest event's or an older one, and on what the step does to its requests.
use Rattle.std.proofs.Common.{◌≡◌, inl, inr, ℕ, ◌+◌, ◌%◌, ◌^◌, true, false, List, [], ◌∷◌, ◌++◌, length, Some, refl, sym, ap, ◌∙◌, arith}
use Rattle.std.specs.Prelude.{Ok}
use Rattle.std.proofs.lemmas.Bool.{cases_Bool, or_parts}
use Rattle.hist_model.specs.Kinds.{notifies}
use Rattle.hist_model.specs.Calls.{id, is_call, queue, some_sends, is_send, rest_of, puts_to, installs_for, calls, notify_id, answered, settled, named}
use Rattle.hist_model.specs.declared.event.Event.{Event}
use Rattle.hist_model.specs.declared.event.What.{What}
use Rattle.hist_model.specs.declared.event.What.TheVariants.{AddfdPut, Enter}
use Rattle.hist_model.specs.declared.event.Entered.TheVariants.{Notify}
use Rattle.hist_model.proofs.Look.{event_at-here, event_at-older}
use Rattle.history_frames.specs.Ordinals.{nth_of}
use Rattle.history_frames.proofs.Ordinals.{place-cases, place-below}
use Rattle.history_frames.proofs.Listed.{listed-cases, caller-older, id-older, place-is}
use Rattle.listener.proofs.Counts.{calls-count, calls-more, calls-same, call-number}
use Rattle.listener.proofs.Queues.{Below, below-rest, queue-below, sends-older, queue-put, queue-rest, queue-same, queue-new}
use Rattle.listener.specs.Sound.{SendsOnce, IsSound, IdsDiffer, IsStep, Enters}

pub ids-differ : (first : ℕ) (K : List Event) → IsSound first K → IdsDiffer K
ids-differ first K S c d h g q =
    let n = call-number K c h in
    let m = call-number K d g in
    let i : (first + n.0) % 2 ^ 64 ≡ (first + m.0) % 2 ^ 64 = sym (S.ids n.0 c n.1) ∙ (q ∙ S.ids m.0 d m.1) in
    let e : n.0 ≡ m.0 = omega (arith, S.first_fits, S.few, (place-below notifies K n.0 c n.1).0, (place-below notifies K m.0 d m.1).0, calls-count K, i) in
    let z : Some c ≡ Some d = sym n.1 ∙ (ap (nth_of notifies K) e ∙ m.1) in cc

-- no older call has the next id
pub id-fresh : (first : ℕ) (K : List Event) (c : ℕ) → IsSound first K → is_call K c ≡ true → id K c ≡ (first + calls K) % 2 ^ 64 → ⊥
id-fresh first K c S h q = let n = call-number K c h in omega (arith, S.first_fits, S.few, (place-below notifies K n.0 c n.1).0, calls-count K, sym (S.ids n.0 c n.1) ∙ q)

-- ---- requests with SEND

once-older : (e : Event) (K : List Event) (rs : List ℕ) → Below (length K) rs → SendsOnce K rs → SendsOnce (e ∷ K) rs
once-older e K [] b h = tt
once-older e K (r ∷ rs) b h = ((λ q. sends-older e K rs b.1 ∙ h.0 (rw (event_at-older e K r b.0) at q)), once-older e K rs b.1 h.1)

once-push : (e : Event) (K : List Event) (rs : List ℕ) → Below (length K) rs → some_sends K rs ≡ false → SendsOnce (e ∷ K) (rs ++ length K ∷ [])
once-push e K [] b s = ((λ q. refl), tt)
once-push e K (r ∷ rs) b s = ((λ q. let q' : is_send K r ≡ true = rw (event_at-older e K r b.0) at q in grind arith), once-push e K rs b.1 (grind arith))

once-rest : (K : List Event) (rs : List ℕ) → SendsOnce K rs → SendsOnce K (rest_of rs)
once-rest K [] h = tt
once-rest K (r ∷ rs) h = h.1

-- a request is put where none with SEND waits
put-open : (first : ℕ) (K : List Event) (e : Event) (c : ℕ) (w : What) → IsStep first K e w → puts_to K w c ≡ true → some_sends K (queue K c) ≡ false
put-open first K e c (AddfdPut a (Ok u)) p h =
    let z : Some p.call ≡ Some c = sym p.call_is ∙ place-is (named K a.id) c h in
    let y : p.call ≡ c = cc in
    (or_parts (settled K c) (some_sends K (queue K c)) (ap (answered K) (sym y) ∙ p.open_is)).1
put-open first K e c w p h = cc

sends-more : (first : ℕ) (K : List Event) (e : Event) (c : ℕ) → IsStep first K e e.what → SendsOnce K (queue K c) → SendsOnce (e ∷ K) (queue (e ∷ K) c)
sends-more first K e c p h = elim (cases_Bool (puts_to K e.what c)) [
  | inl b ↦ rw (queue-put e K c b) (once-push e K (queue K c) (queue-below K c) (put-open first K e c e.what p b))
  | inr b ↦ elim (cases_Bool (installs_for K e c)) [
    | inl i ↦ rw (queue-rest e K c b i) (once-older e K (rest_of (queue K c)) (below-rest (length K) (queue K c) (queue-below K c)) (once-rest K (queue K c) h))
    | inr i ↦ rw (queue-same e K c b i) (once-older e K (queue K c) (queue-below K c) h)
  ]
]

-- ---- all of it

enters : (first : ℕ) (K : List Event) (e : Event) (w : What) → IsStep first K e w → notifies w ≡ true → Enters first K e (notify_id w)
enters first K e (Enter nr args (Notify x)) p h = p
enters first K e w p h = cc

pub sound-more : (first : ℕ) (K : List Event) (e : Event) → IsSound first K → IsStep first K e e.what → IsSound first (e ∷ K)
sound-more first K e S p = record {
  first_fits = S.first_fits;
  few = elim (cases_Bool (notifies e.what)) [ inl b ↦ rw (calls-more e K b) (enters first K e e.what p b).more | inr b ↦ rw (calls-same e K b) S.few ];
  ids = λ n c q. elim (place-cases notifies e K n c q) [
    | inl z ↦ rw (← z.2, event_at-here e K) ((enters first K e e.what p z.0).id_is ∙ ap (λ k. (first + k) % 2 ^ 64) (sym (calls-count K) ∙ z.1))
    | inr z ↦ id-older e K c (place-below notifies K n c z).1 ∙ S.ids n c z
  ];
  callers = λ c d h g q. elim (listed-cases e K c h) [
    | inl a ↦ elim (listed-cases e K d g) [
      | inl b ↦ a.0 ∙ sym b.0
      | inr b ↦ absurd ((enters first K e e.what p a.1).free d b.1 (sym (rw (a.0, event_at-here e K, event_at-older e K d b.0) at q)))
    ]
    | inr a ↦ elim (listed-cases e K d g) [
      | inl b ↦ absurd ((enters first K e e.what p b.1).free c a.1 (rw (b.0, event_at-here e K, event_at-older e K c a.0) at q))
      | inr b ↦ S.callers c d a.1 b.1 (sym (caller-older e K c a.0) ∙ (q ∙ caller-older e K d b.0))
    ]
  ];
  sends = λ c h. elim (listed-cases e K c h) [
    | inl a ↦ rw (a.0, queue-new e K) tt
    | inr a ↦ sends-more first K e c p (S.sends c a.1)
  ];
}
