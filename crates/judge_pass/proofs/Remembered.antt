-- The effect for an earlier call whose result may be told, among those that are kept of the task that made the call.
-- By what each test looks at, one after another.
use Rattle.std.proofs.Common.{◌≡◌, ℕ, ◌<◌, Bool, true, false, List, [], ◌∷◌, ◌++◌, length, Option, Some, None, inl, inr, refl, ap, sym, ◌∙◌, arith}
use Rattle.std.specs.Prelude.{◌&&◌, not, ◌==◌, find, is_some, nat_le, nat_lt, Ok, Err}
use Rattle.std.specs.List.{AllByRecursion}
use Rattle.std.proofs.lemmas.Bool.{and_parts, cases_Bool}
use Rattle.std.proofs.lemmas.Bool.Decides.{nat_tests}
use Rattle.hist_model.specs.Calls.{actor_in, caller, settled}
use Rattle.hist_model.specs.Look.{before, event_at, Name, name_eq}
use Rattle.hist_model.specs.declared.event.Actor.{Actor}
use Rattle.hist_model.specs.declared.event.Actor.TheVariants.{Worker}
use Rattle.hist_model.specs.declared.event.Event.{Event}
use Rattle.hist_model.specs.declared.event.What.{What}
use Rattle.hist_model.specs.declared.event.What.TheVariants.{Act, AddfdPut, Plant}
use Rattle.hist_model.proofs.Look.{below_or_last, event_at-here, event_at-older, name_eq-refl, name_eq-true}
use Rattle.mediation.proofs.KernelCalls.{before-newest, before-older, length-before}
use Rattle.history_frames.specs.Ordinals.{count_of, nth_of}
use Rattle.history_frames.proofs.Listed.{is_call-below}
use Rattle.history_frames.proofs.Ordinals.{place-below, place-cases, place-new, place-old}
use Rattle.broker_verdict.specs.Answers.{are_alike, gave_at, is_entered_anew, is_of_earlier, is_told, is_untold, is_untold_by, may_share_texts, number_in, outcome_of, remembered, seat_of, valid_texts}
use Rattle.broker_verdict.specs.Effects.{seat_call, texts_done}
use Rattle.broker_verdict.specs.Seats.{is_effect, of_call}
use Rattle.broker_verdict.proofs.Own.{hand_call}
use Rattle.judge_pass.specs.declared.done.Done.{Done}
use Rattle.judge_pass.specs.declared.done.Put.{Put}
use Rattle.judge_pass.specs.Stands.{asks_descriptor, effects_for, gives_to, hand_at, IsDone, IsPutOf, may_give, place_of_effect, seat_at, what_at}
use Rattle.judge_pass.specs.Told.{can_be_told, effect_is_for, have_same_registers, IsFirst, may_be_told, texts_kept}
use Rattle.judge_pass.proofs.EffectsFor.{Covers, effects_more, effects_same, gives_effects, no_effects, oldest_is_first}

-- ---- the call for which an effect was done is an older one, with the same caller

event_before : (K : List Event) (p d : ℕ) → d < length (before K p) → event_at (before K p) d ≡ event_at K d
event_before [] p d low = unfold before in refl
event_before (e ∷ K) p d low =
    elim (cases_Bool (nat_le (length (e ∷ K)) p)) [
      | inl h ↦ let q : before (e ∷ K) p ≡ e ∷ K = unfold before in rw h refl in rw q refl
      | inr h ↦ let q : before (e ∷ K) p ≡ before K p = unfold before in rw h refl in
          let low' : d < length (before K p) = rw q at low in
          rw q (event_before K p d low' ∙ sym (event_at-older e K d (omega (arith, low', (length-before K p).0))))
    ]

pub caller_kept : (K : List Event) (p d : ℕ) (who : Actor) → seat_call (before K p) who ≡ Some d → caller (before K p) d ≡ caller K d
caller_kept K p d (Worker w) h = ap actor_in (event_before K p d (is_call-below (before K p) d (hand_call (before K p) w d h)))
caller_kept K p d _ h = cc

-- ---- an effect that gave a number may give one

number_may : (K : List Event) (p : ℕ) (what : What) → is_some (number_in (outcome_of K p what)) ≡ true → may_give what ≡ true
number_may K p (Act q cap (Ok u)) h = refl
number_may K p (Act q cap (Err e)) h = let f : false ≡ true = h in absurd (cc)
number_may K p (Plant addr bytes cap (Ok u)) h = refl
number_may K p (Plant addr bytes cap (Err e)) h = let f : false ≡ true = h in absurd (cc)
number_may K p (AddfdPut asked (Ok u)) h = refl
number_may K p (AddfdPut asked (Err e)) h = let f : false ≡ true = h in absurd (cc)
number_may K p _ h = let f : false ≡ true = h in absurd (cc)

-- ---- what can be told stands among the effects for calls of the same task

untold_for : (K : List Event) (c : ℕ) (texts : List (List (List ℕ))) (p : ℕ) (e : Event) (hand : Option ℕ) → seat_call (before K p) e.who ≡ hand
    → of_call hand (λ d. is_of_earlier K c texts (before K p) (seat_of e.who) e.what d) ≡ true
    → of_call hand (λ d. name_eq (caller (before K p) d) (caller K c)) ≡ true
untold_for K c texts p e None s h = cc
untold_for K c texts p e (Some d) s h =
    let alike = (and_parts (are_alike K c d) _ (and_parts (is_entered_anew K c d) _ h).1).0 in
    let same = name_eq-true (caller K c) (caller K d) (and_parts (name_eq (caller K c) (caller K d)) _ alike).0 in
    rw (caller_kept K p d e.who s, ← same) (name_eq-refl (caller K c))

pub untold_covers : (K : List Event) (c : ℕ) (texts : List (List (List ℕ))) → Covers (λ p. not (is_told K p) && is_untold K c texts p) (caller K c) K
untold_covers K c texts p e at h =
    let untold = (and_parts (not (is_told K p)) _ h).1 in
    let parts = and_parts (is_some (gave_at K (Some p))) _ untold in
    let by : is_untold_by K c texts (before K p) e ≡ true = rw at at parts.1 in
    let gave : is_some (number_in (outcome_of K p e.what)) ≡ true = rw at at parts.0 in
    rw (number_may K p e.what gave) (untold_for K c texts p e (seat_call (before K p) e.who) refl (and_parts (is_effect e.what) _ by).1)

-- the oldest effect that can be told is the first of these
pub oldest_told : (K : List Event) (w c : ℕ) → remembered K w c ≡ place_of_effect K (find (can_be_told K w c) (effects_for K (caller K c)))
oldest_told K w c = oldest_is_first (λ p. not (is_told K p) && is_untold K c (valid_texts K w c) p) (caller K c) K (untold_covers K c (valid_texts K w c))

-- ---- each of these was done for a call of the task

-- the effect with an ordinal stands at a place, after which it is one for a call of this name
pub record IsGiven (K : List Event) (n : Name) (m : ℕ) : Type 0 where
  pub place : ℕ
  pub event : Event
  pub place_is : nth_of is_effect K m ≡ Some place
  pub event_is : event_at K place ≡ Some event
  pub gives : gives_to (before K place) event n ≡ true

given_older : (K : List Event) (e : Event) (n : Name) (m : ℕ) → IsGiven K n m → IsGiven (e ∷ K) n m
given_older K e n m g =
    let low = place-below is_effect K m g.place g.place_is in
    record {
      place = g.place;
      event = g.event;
      place_is = place-old is_effect e K m low.0 ∙ g.place_is;
      event_is = event_at-older e K g.place low.1 ∙ g.event_is;
      gives = rw (before-older e K g.place (omega (arith, low.1))) g.gives;
    }

given_newest : (K : List Event) (e : Event) (n : Name) → gives_to K e n ≡ true → IsGiven (e ∷ K) n (count_of is_effect K)
given_newest K e n h = record {
  place = length K;
  event = e;
  place_is = place-new is_effect e K (gives_effects e.what (and_parts (may_give e.what) _ h).0);
  event_is = event_at-here e K;
  gives = rw (before-newest e K) h;
}

all_older : (K : List Event) (e : Event) (n : Name) (ms : List ℕ) → AllByRecursion (IsGiven K n) ms → AllByRecursion (IsGiven (e ∷ K) n) ms
all_older K e n [] all = tt
all_older K e n (m ∷ ms) all = (given_older K e n m all.0, all_older K e n ms all.1)

all_more : (P : ℕ → Type 0) (ms : List ℕ) (m : ℕ) → AllByRecursion P ms → P m → AllByRecursion P (ms ++ m ∷ [])
all_more P [] m all h = (h, tt)
all_more P (x ∷ ms) m all h = (all.0, all_more P ms m all.1 h)

effects_given : (K : List Event) (n : Name) → AllByRecursion (IsGiven K n) (effects_for K n)
effects_given [] n = rw (no_effects n) tt
effects_given (e ∷ K) n = by_event (gives_to K e n) refl (effects_given K n)
  where
    by_event : (b : Bool) → gives_to K e n ≡ b → AllByRecursion (IsGiven K n) (effects_for K n) → AllByRecursion (IsGiven (e ∷ K) n) (effects_for (e ∷ K) n)
    by_event true q ih = rw (effects_more K e n q) (all_more (IsGiven (e ∷ K) n) (effects_for K n) (count_of is_effect K) (all_older K e n (effects_for K n) ih) (given_newest K e n q))
    by_event false q ih = rw (effects_same K e n q) (all_older K e n (effects_for K n) ih)

same_caller : (K : List Event) (c p : ℕ) (e : Event) (hand : Option ℕ) → seat_call (before K p) e.who ≡ hand
    → of_call hand (λ d. name_eq (caller (before K p) d) (caller K c)) ≡ true → of_call hand (λ d. name_eq (caller K c) (caller K d)) ≡ true
same_caller K c p e None s h = cc
same_caller K c p e (Some d) s h =
    let same = name_eq-true (caller (before K p) d) (caller K c) h in
    rw (← caller_kept K p d e.who s, same) (name_eq-refl (caller K c))

given_for : (K : List Event) (c m : ℕ) → IsGiven K (caller K c) m → effect_is_for K c m ≡ true
given_for K c m g =
    rw (g.place_is, g.event_is) (same_caller K c g.place g.event (seat_call (before K g.place) g.event.who) refl (and_parts (may_give g.event.what) _ g.gives).1)

all_for : (K : List Event) (c : ℕ) (ms : List ℕ) → AllByRecursion (IsGiven K (caller K c)) ms → AllByRecursion (λ m. effect_is_for K c m ≡ true) ms
all_for K c [] all = tt
all_for K c (m ∷ ms) all = (given_for K c m all.0, all_for K c ms all.1)

pub effects_are_for : (K : List Event) (c : ℕ) → AllByRecursion (λ m. effect_is_for K c m ≡ true) (effects_for K (caller K c))
effects_are_for K c = all_for K c (effects_for K (caller K c)) (effects_given K (caller K c))

-- ---- whether an effect can be told, by parts

pub place-kind : (kind : What → Bool) (K : List Event) (o t : ℕ) (e : Event) → nth_of kind K o ≡ Some t → event_at K t ≡ Some e → kind e.what ≡ true
place-kind kind [] o t e q a = unfold nth_of in cc
place-kind kind (x ∷ K) o t e q a =
    elim (place-cases kind x K o t q) [
      | inl p ↦ let s : Some x ≡ Some e = sym (event_at-here x K) ∙ ap (event_at (x ∷ K)) p.2 ∙ a in let same : x ≡ e = cc in rw same at p.0
      | inr p ↦ place-kind kind K o t e p (sym (event_at-older x K t (place-below kind K o t p).1) ∙ a)
    ]

pub some_event : (K : List Event) (t : ℕ) → t < length K → (e : Event) × (event_at K t ≡ Some e)
some_event [] t low = absurd (omega arith)
some_event (e ∷ K) t low =
    elim (below_or_last t (length K) low) [
      | inl l ↦ let x = some_event K t l in (x.0, event_at-older e K t l ∙ x.1)
      | inr q ↦ (e, ap (event_at (e ∷ K)) q ∙ event_at-here e K)
    ]

in_order : (t g n m a s u x : Bool) → (n ≡ true → m ≡ true)
    → (t && (g && (true && (n && ((a && s) && (u && x)))))) ≡ ((t && (m && (u && (s && g)))) && (a && (n && x)))
in_order t g false m a s u x h = both (none t g) (by (t && (m && (u && (s && g)))) a)
  where
    none : (t g : Bool) → (t && (g && (true && false))) ≡ false
    none true true = refl
    none true false = refl
    none false g = refl

    by : (b a : Bool) → (b && (a && false)) ≡ false
    by true true = refl
    by true false = refl
    by false a = refl

    both : {b c : Bool} → b ≡ false → c ≡ false → b ≡ c
    both p q = p ∙ sym q
in_order t g true m a s u x h = rw (h refl) (others t g a s u x)
  where
    others : (t g a s u x : Bool) → (t && (g && (true && (true && ((a && s) && (u && x)))))) ≡ ((t && (true && (u && (s && g)))) && (a && (true && x)))
    others false g a s u x = refl
    others true false a s u x = rw (none u s) refl
      where
        none : (u s : Bool) → (true && (u && (s && false))) ≡ false
        none true true = refl
        none true false = refl
        none false s = refl
    others true true false s u x = rw (none (true && (u && (s && true)))) refl
      where
        none : (b : Bool) → (b && false) ≡ false
        none true = refl
        none false = refl
    others true true true false u x = rw (none u) refl
      where
        none : (u : Bool) → (true && (u && (false && true))) ≡ false
        none true = refl
        none false = refl
    others true true true true false x = refl
    others true true true true true x = refl

other-call : (K : List Event) (c d : ℕ) → is_entered_anew K c d ≡ true → not (d == c) ≡ true
other-call K c d h =
    let before : nat_lt d c ≡ true = (and_parts (nat_lt d c) _ h).0 in
    let apart : (d == c) ≡ false = grind (arith, nat_tests) in
    rw apart refl

pub can_be : (K : List Event) (w c d m p : ℕ) → nth_of is_effect K m ≡ Some p → hand_at K p ≡ Some d
    → can_be_told K w c m ≡ (may_be_told K c d p && (name_eq (caller K c) (caller K d)
    && (is_entered_anew K c d && may_share_texts (valid_texts K w c) (texts_done (before K p) (seat_at K p) d (what_at K p)))))
can_be K w c d m p place hand =
    let e = some_event K p (place-below is_effect K m p place).1 in
    let seat : seat_call (before K p) e.0.who ≡ Some d = rw e.1 at hand in
    let effect = place-kind is_effect K m p e.0 place e.1 in
    rw (place, e.1, effect, seat)
    (in_order (not (is_told K p)) (is_some (number_in (outcome_of K p e.0.what))) (is_entered_anew K c d) (not (d == c)) (name_eq (caller K c) (caller K d)) (have_same_registers K c d)
    (not (settled K d)) (may_share_texts (valid_texts K w c) (texts_done (before K p) (seat_of e.0.who) d e.0.what)) (other-call K c d))

-- what may not be told can't be
pub can_not_be : (K : List Event) (w c d m p : ℕ) → nth_of is_effect K m ≡ Some p → hand_at K p ≡ Some d → may_be_told K c d p ≡ false → can_be_told K w c m ≡ false
can_not_be K w c d m p place hand h = can_be K w c d m p place hand ∙ rw h refl

-- nor what wasn't entered anew
pub can_not_again : (K : List Event) (w c d m p : ℕ) → nth_of is_effect K m ≡ Some p → hand_at K p ≡ Some d → is_entered_anew K c d ≡ false → can_be_told K w c m ≡ false
can_not_again K w c d m p place hand h = can_be K w c d m p place hand ∙ rw h (none (may_be_told K c d p) (name_eq (caller K c) (caller K d)))
  where
    none : (a b : Bool) → (a && (b && false)) ≡ false
    none true true = refl
    none true false = refl
    none false b = refl

-- of an effect for a call of the same task, which is entered anew: it may, and was done for texts that are in both
pub can_if : (K : List Event) (w c d m p : ℕ) → nth_of is_effect K m ≡ Some p → hand_at K p ≡ Some d → may_be_told K c d p ≡ true → is_entered_anew K c d ≡ true → effect_is_for K c m ≡ true
    → can_be_told K w c m ≡ may_share_texts (valid_texts K w c) (texts_done (before K p) (seat_at K p) d (what_at K p))
can_if K w c d m p place hand h again for =
    let same : name_eq (caller K c) (caller K d) ≡ true = rw (place, hand) at for in
    can_be K w c d m p place hand ∙ rw (h, same, again) refl

-- a call that was entered at or after the first place, and before the later call, is entered anew
pub again_if : (K : List Event) (c d first : ℕ) → IsFirst K c first → (nat_lt d c && nat_le first d) ≡ is_entered_anew K c d
again_if K c d first h = rw (h d) refl

-- one that may be told gave a number
pub may_be_given : (K : List Event) (c d p : ℕ) → may_be_told K c d p ≡ true → is_some (gave_at K (Some p)) ≡ true
may_be_given K c d p h =
    let rest = (and_parts (not (d == c)) _ (and_parts (not (is_told K p)) _ h).1).1 in
    (and_parts (have_same_registers K c d) _ (and_parts (not (settled K d)) _ rest).1).1

-- ---- the texts for which it was done are kept

kept_texts : (K : List Event) (p d : ℕ) (what : What) (put : Option Put) → what_at K p ≡ what → is_some (gave_at K (Some p)) ≡ true → is_effect what ≡ true
    → hand_at K p ≡ Some d → asks_descriptor what ≡ is_some put → IsPutOf K p put → texts_kept what put ≡ texts_done (before K p) (seat_at K p) d what
kept_texts K p d (Act q cap answer) put at gave effect hand asks is = refl
kept_texts K p d (Plant addr bytes cap answer) put at gave effect hand asks is = refl
kept_texts K p d (AddfdPut asked (Ok u)) None at gave effect hand asks is = cc
kept_texts K p d (AddfdPut asked (Ok u)) (Some put) at gave effect hand asks is = is.texts_are d (rw at refl) hand
kept_texts K p d (AddfdPut asked (Err e)) put at gave effect hand asks is =
    let g : is_some (number_in (outcome_of K p (AddfdPut asked (Err e)))) ≡ true = rw at at gave in let f : false ≡ true = g in absurd (cc)
kept_texts K p d _ put at gave effect hand asks is = let f : false ≡ true = effect in absurd (cc)

pub texts_are_kept : (K : List Event) (m p d : ℕ) (done : Done) → IsDone K m done → nth_of is_effect K m ≡ Some p → is_some (gave_at K (Some p)) ≡ true → hand_at K p ≡ Some d
    → texts_kept (what_at K p) done.put ≡ texts_done (before K p) (seat_at K p) d (what_at K p)
texts_are_kept K m p d done is place gave hand =
    let at : Some done.place ≡ Some p = sym is.place_is ∙ place in
    let same : done.place ≡ p = cc in
    let e = some_event K p (place-below is_effect K m p place).1 in
    let effect : is_effect (what_at K p) ≡ true = rw e.1 (place-kind is_effect K m p e.0 place e.1) in
    kept_texts K p d (what_at K p) done.put refl gave effect hand (rw same at is.put_kept) (rw same at is.put_is)
