-- The requests of a call, its answer, and whether it was fetched, after an event.
-- By the one event that each definition looks at first; what stands below an event keeps its place.
use Rattle.std.proofs.Common.{◌≡◌, inl, inr, ℕ, suc, ◌<◌, ◌≤◌, true, false, ◌||◌, List, [], ◌∷◌, ◌++◌, length, Option, Some, refl, ◌∙◌, arith}
use Rattle.std.specs.Prelude.{Ok}
use Rattle.std.proofs.lemmas.Bool.{cases_Bool, eq-eqb, or_cases, false_from_ne_true}
use Rattle.hist_model.specs.Look.{is_place}
use Rattle.hist_model.specs.Kinds.{has_send}
use Rattle.hist_model.specs.Calls.{id, listed, fetches, fetched, named, answers, puts_to, installs_for, rest_of, queue, some_sends, settles, settled}
use Rattle.hist_model.specs.Steps.{reply, back_of}
use Rattle.hist_model.specs.declared.event.Event.{Event}
use Rattle.hist_model.specs.declared.event.What.{What}
use Rattle.hist_model.specs.declared.event.What.TheVariants.{AddfdPut, Send}
use Rattle.hist_model.proofs.Look.{event_at-here, event_at-older}
use Rattle.history_frames.proofs.Listed.{listed-below, named-listed, place-is}

pub fetched-same : (e : Event) (K : List Event) (c : ℕ) → fetches e.what (id K c) ≡ false → fetched (e ∷ K) c ≡ fetched K c
unfolding fetched
fetched-same e K c h = rw h

pub is-place : (o : Option ℕ) (c : ℕ) → o ≡ Some c → is_place o c ≡ true
is-place o c q = rw (q, eq-eqb c c refl)

-- ---- the requests of a call, and its answer

-- all of these stand below
abbrev pub Below : ℕ → List ℕ → Type 0
Below n [] = Unit {0}
Below n (r ∷ rs) = (r < n) × Below n rs

below-more : (n : ℕ) (rs : List ℕ) → Below n rs → Below (suc n) rs
below-more n [] h = tt
below-more n (r ∷ rs) h = (omega (arith, h.0), below-more n rs h.1)

below-push : (n : ℕ) (rs : List ℕ) → Below n rs → Below (suc n) (rs ++ n ∷ [])
below-push n [] h = (omega arith, tt)
below-push n (r ∷ rs) h = (omega (arith, h.0), below-push n rs h.1)

pub below-rest : (n : ℕ) (rs : List ℕ) → Below n rs → Below n (rest_of rs)
below-rest n [] h = tt
below-rest n (r ∷ rs) h = h.1

pub queue-below : (K : List Event) (c : ℕ) → Below (length K) (queue K c)
unfolding queue
queue-below [] c = tt
queue-below (e ∷ K) c =
    let b = queue-below K c in
    elim (cases_Bool (puts_to K e.what c)) [
      | inl q ↦ rw q (below-push (length K) (queue K c) b)
      | inr q ↦ elim (cases_Bool (installs_for K e c)) [
        | inl p ↦ rw (q, p) (below-rest (suc (length K)) (queue K c) (below-more (length K) (queue K c) b))
        | inr p ↦ rw (q, p) (below-more (length K) (queue K c) b)
      ]
    ]

-- requests that stand below keep their flags
pub sends-older : (e : Event) (K : List Event) (rs : List ℕ) → Below (length K) rs → some_sends (e ∷ K) rs ≡ some_sends K rs
sends-older e K [] h = refl
sends-older e K (r ∷ rs) h = rw (event_at-older e K r h.0, sends-older e K rs h.1)

-- one more request
pub sends-push : (e : Event) (K : List Event) (rs : List ℕ) → Below (length K) rs → some_sends (e ∷ K) (rs ++ length K ∷ []) ≡ (some_sends K rs || has_send e.what)
sends-push e K [] h = rw (event_at-here e K) (grind arith)
sends-push e K (r ∷ rs) h = let ih = sends-push e K rs h.1 in rw (event_at-older e K r h.0, ih) (grind arith)

-- nothing happens to the requests and the answer of this call
pub record IsCalm (K : List Event) (e : Event) (c : ℕ) : Type 0 where
  pub no_send : answers K e.what c ≡ false
  pub no_put : puts_to K e.what c ≡ false
  pub no_install : installs_for K e c ≡ false

pub queue-same : (e : Event) (K : List Event) (c : ℕ) → puts_to K e.what c ≡ false → installs_for K e c ≡ false → queue (e ∷ K) c ≡ queue K c
unfolding queue
queue-same e K c p i = rw (p, i)

pub queue-put : (e : Event) (K : List Event) (c : ℕ) → puts_to K e.what c ≡ true → queue (e ∷ K) c ≡ queue K c ++ length K ∷ []
unfolding queue
queue-put e K c p = rw p

pub queue-rest : (e : Event) (K : List Event) (c : ℕ) → puts_to K e.what c ≡ false → installs_for K e c ≡ true → queue (e ∷ K) c ≡ rest_of (queue K c)
unfolding queue
queue-rest e K c p i = rw (p, i)

pub settled-same : (e : Event) (K : List Event) (c : ℕ) → settles K e c ≡ false → settled (e ∷ K) c ≡ settled K c
unfolding settled
settled-same e K c h = rw h

pub settled-now : (e : Event) (K : List Event) (c : ℕ) → settles K e c ≡ true → settled (e ∷ K) c ≡ true
unfolding settled
settled-now e K c h = rw h

pub reply-same : (e : Event) (K : List Event) (c : ℕ) → settles K e c ≡ false → reply (e ∷ K) c ≡ reply K c
unfolding reply
reply-same e K c h = rw h

pub reply-now : (e : Event) (K : List Event) (c : ℕ) → settles K e c ≡ true → reply (e ∷ K) c ≡ back_of e.what
unfolding reply
reply-now e K c h = rw h

pub calm-settles : (e : Event) (K : List Event) (c : ℕ) → IsCalm K e c → settles K e c ≡ false
calm-settles e K c h = let s = h.no_send in let i = h.no_install in rw (s, i)

-- the call that a send or a request names is listed
pub answers-listed : (K : List Event) (w : What) (c : ℕ) → answers K w c ≡ true → listed K c ≡ true
answers-listed K (Send x back (Ok u)) c h = (named-listed K x c (place-is (named K x) c h)).0
answers-listed K w c h = cc

pub puts-listed : (K : List Event) (w : What) (c : ℕ) → puts_to K w c ≡ true → listed K c ≡ true
puts-listed K (AddfdPut asked (Ok u)) c h = (named-listed K asked.id c (place-is (named K asked.id) c h)).0
puts-listed K w c h = cc

pub installs-listed : (K : List Event) (e : Event) (c : ℕ) → installs_for K e c ≡ true → listed K c ≡ true
installs-listed K e c h = grind arith

pub settles-listed : (K : List Event) (e : Event) (c : ℕ) → settles K e c ≡ true → listed K c ≡ true
settles-listed K e c h = grind (arith, answers-listed, installs-listed)

-- a call that isn't there has neither
pub settled-below : (K : List Event) (c : ℕ) → settled K c ≡ true → c < length K
unfolding settled
settled-below [] c h = cc
settled-below (e ∷ K) c h = elim (or_cases (settles K e c) (settled K c) h) [
  | inl q ↦ omega (arith, listed-below K c (settles-listed K e c q))
  | inr q ↦ omega (arith, settled-below K c q)
]

pub queue-above : (K : List Event) (c : ℕ) → length K ≤ c → queue K c ≡ []
unfolding queue
queue-above [] c h = refl
queue-above (e ∷ K) c h =
    let p = false_from_ne_true (puts_to K e.what c) (λ q. omega (arith, listed-below K c (puts-listed K e.what c q))) in
    let i = false_from_ne_true (installs_for K e c) (λ q. omega (arith, listed-below K c (installs-listed K e c q))) in
    rw (p, i) (queue-above K c (omega arith))

-- a new call has no requests and no answer
pub queue-new : (e : Event) (K : List Event) → queue (e ∷ K) (length K) ≡ []
queue-new e K =
    let p = false_from_ne_true (puts_to K e.what (length K)) (λ q. omega (arith, listed-below K (length K) (puts-listed K e.what (length K) q))) in
    let i = false_from_ne_true (installs_for K e (length K)) (λ q. omega (arith, listed-below K (length K) (installs-listed K e (length K) q))) in
    queue-same e K (length K) p i ∙ queue-above K (length K) (omega arith)

pub settled-new : (e : Event) (K : List Event) → settled (e ∷ K) (length K) ≡ false
settled-new e K =
    let s = false_from_ne_true (settles K e (length K)) (λ q. omega (arith, listed-below K (length K) (settles-listed K e (length K) q))) in
    settled-same e K (length K) s ∙ false_from_ne_true (settled K (length K)) (λ q. omega (arith, settled-below K (length K) q))
