-- What is kept of an effect, when one more event comes.
-- By what the event leaves of the look-backs for the effect's place.
use Rattle.std.proofs.Common.{◌≡◌, ℕ, ◌+◌, ◌<◌, ◌≤◌, Bool, true, false, ◌&&◌, not, List, [], ◌∷◌, ◌++◌, length, refl, sym, ap, ◌∙◌, subst, arith, inl, inr, Option, Some, None}
use Rattle.std.specs.Prelude.{get_or, is_some, option_map, Result, All}
use Rattle.std.proofs.Math.ListN.{set}
use Rattle.std.proofs.lemmas.Bool.{and_parts, both_ways, cases_Bool, cases_eq, eq-eqb, eqb-true}
use Rattle.std.proofs.lemmas.List.{length-append, length-set}
use Rattle.std.proofs.lemmas.List.Elements.{All-append, All-cons, All-tail}
use Rattle.broker_verdict.specs.Answers.{gave_at, is_accepted_value, is_told, remembered_where, seat_of, tells, what_in}
use Rattle.broker_verdict.specs.Effects.{seat_call}
use Rattle.broker_verdict.specs.Seats.{effect_of, is_effect, of_call}
use Rattle.hist_model.specs.Calls.{installs_for, puts_to, queue, rest_of}
use Rattle.hist_model.specs.Kinds.{is_install, notifies}
use Rattle.hist_model.specs.Look.{ev, is_place, Name}
use Rattle.hist_model.specs.Signals.{call_of}
use Rattle.hist_model.specs.Steps.{asked_call, call_at, install_of, installed, installs_request, is_first}
use Rattle.hist_model.specs.declared.event.Actor.TheVariants.{Task}
use Rattle.hist_model.specs.declared.event.Event.{Event}
use Rattle.hist_model.specs.declared.event.What.{What}
use Rattle.hist_model.specs.declared.event.What.TheVariants.{Install}
use Rattle.hist_model.specs.declared.script.Script.{Script}
use Rattle.hist_model.proofs.Look.{event_at-here, event_at-older, oldest-some}
use Rattle.history_frames.specs.Ordinals.{count_of, nth_of}
use Rattle.history_frames.proofs.Listed.{place-is}
use Rattle.history_frames.proofs.Ordinals.{made-more, made-same, place-below, place-new, place-old, place-one}
use Rattle.history_frames.proofs.Queued.{call-above, call-here, call-older}
use Rattle.mediation.proofs.KernelCalls.{before-newest, before-older}
use Rattle.judge_pass.specs.Stands.{asks_descriptor, hand_at, IsDone, is_put, IsPut, IsPutOf, what_at}
use Rattle.judge_pass.specs.Tables.{with_installed}
use Rattle.judge_pass.specs.declared.done.Done.{Done}
use Rattle.judge_pass.specs.declared.done.Put.{Put}
use Rattle.judge_pass.proofs.Rows.{below-more, count-least, rows-push, rows-set}
use Rattle.judge_pass.proofs.TaskRows.{call-kept}

-- ---- what stays of an effect

hand-older : (e : Event) (K : List Event) (p : ℕ) → p < length K → hand_at (e ∷ K) p ≡ hand_at K p
hand-older e K p l = rw (before-older e K p (omega (arith, l)), event_at-older e K p l) refl

what-older : (e : Event) (K : List Event) (p : ℕ) → p < length K → what_at (e ∷ K) p ≡ what_at K p
what-older e K p l = ap what_in (event_at-older e K p l)

-- of a request what it came to may have changed
pub put-older : (e : Event) (K : List Event) (p : ℕ) (old new : Put) → p < length K → IsPut K p old → new.call ≡ old.call → new.texts ≡ old.texts → install_of (e ∷ K) p ≡ new.installed → IsPut (e ∷ K) p new
put-older e K p old new l h c t i = record {
  call_is = rw c (call-older e K p l ∙ (h.call_is ∙ sym (call-kept e K old.call h.call_made)));
  call_made = rw c (below-more _ _ old.call (count-least notifies e K) h.call_made);
  installed_is = i;
  texts_are = λ d z y. rw (t, before-older e K p (omega (arith, l)), event_at-older e K p l)
      (h.texts_are d (rw (event_at-older e K p l) at z) (sym (hand-older e K p l) ∙ y));
}

pub put-of-older : (e : Event) (K : List Event) (p : ℕ) (put : Option Put) → p < length K → IsPutOf K p put → install_of (e ∷ K) p ≡ install_of K p → IsPutOf (e ∷ K) p put
put-of-older e K p None l h i = tt
put-of-older e K p (Some put) l h i = put-older e K p put put l h refl refl (i ∙ h.installed_is)

pub done-row : (e : Event) (K : List Event) (n : ℕ) (old new : Done) → IsDone K n old → new.place ≡ old.place → new.call ≡ old.call → is_some new.put ≡ is_some old.put
    → IsPutOf (e ∷ K) old.place new.put → is_told (e ∷ K) old.place ≡ new.is_told → IsDone (e ∷ K) n new
done-row e K n old new h p c s put told =
    let b = place-below is_effect K n old.place h.place_is in
    record {
      place_is = rw p (place-old is_effect e K n b.0 ∙ h.place_is);
      call_is = rw (p, c) (hand-older e K old.place b.1 ∙ (h.call_is ∙ sym (place-old notifies e K old.call h.call_made)));
      call_made = rw c (below (count-least notifies e K) h.call_made);
      put_kept = rw p (ap asks_descriptor (what-older e K old.place b.1) ∙ (h.put_kept ∙ sym s));
      put_is = rw p put;
      told_is = rw p told;
    }
  where
    below : {a m k : ℕ} → m ≤ k → a < m → a < k
    below l h = omega (arith, l, h)

-- nothing changes of the effect at a place
pub record LeavesDone (e : Event) (K : List Event) (p : ℕ) : Type 0 where
  pub install_same : install_of (e ∷ K) p ≡ install_of K p
  pub told_same : is_told (e ∷ K) p ≡ is_told K p

pub done-row-kept : (e : Event) (K : List Event) (n : ℕ) (d : Done) → IsDone K n d → LeavesDone e K d.place → IsDone (e ∷ K) n d
done-row-kept e K n d h l =
    let b = place-below is_effect K n d.place h.place_is in
    done-row e K n d d h refl refl refl (put-of-older e K d.place d.put b.1 h.put_is l.install_same) (l.told_same ∙ h.told_is)

-- ---- installations and tellings

pub install-same : (e : Event) (K : List Event) (p : ℕ) → installs_request K e (call_at K p) p ≡ false → install_of (e ∷ K) p ≡ install_of K p
unfolding install_of
install-same e K p h = rw h refl

pub install-now : (e : Event) (K : List Event) (p : ℕ) → installs_request K e (call_at K p) p ≡ true → install_of (e ∷ K) p ≡ installed e.what
unfolding install_of
install-now e K p h = rw h refl

pub no-install : (e : Event) (K : List Event) (p : ℕ) → is_install e.what ≡ false → install_of (e ∷ K) p ≡ install_of K p
no-install e K p h = install-same e K p (by (call_at K p))
  where
    by : (o : Option ℕ) → installs_request K e o p ≡ false
    by None = refl
    by (Some c) = rw h refl

pub install-above : (K : List Event) (p : ℕ) → length K ≤ p → install_of K p ≡ None
unfolding install_of
install-above [] p l = refl
install-above (e ∷ K) p l =
    let ih = install-above K p (omega (arith, l)) in
    rw (call-above K p (omega (arith, l))) ih

pub told-same : (e : Event) (K : List Event) (p : ℕ) → is_accepted_value e.what ≡ false → is_told (e ∷ K) p ≡ is_told K p
unfolding is_told
told-same e K p h = rw h refl

-- what is told stands below
tells-below : (K : List Event) (taken : ℕ → Bool) (e : Event) (p : ℕ) → tells K taken e p ≡ true → p < length K
tells-below K taken e p h =
    let a = and_parts (is_accepted_value e.what) _ h in
    let b = and_parts (not (is_some (gave_at K (effect_of K (seat_of e.who))))) _ a.1 in
    by (seat_call K e.who) b.1
  where
    by : (o : Option ℕ) → of_call o (λ c. is_place (remembered_where K taken (seat_of e.who) c) p) ≡ true → p < length K
    by None z = cc
    by (Some c) z = (oldest-some _ (length K) p (place-is (remembered_where K taken (seat_of e.who) c) p z)).1

pub told-above : (K : List Event) (p : ℕ) → length K ≤ p → is_told K p ≡ false
unfolding is_told
told-above [] p l = refl
told-above (e ∷ K) p l =
    let ih = told-above K p (omega (arith, l)) in
    elim (cases_Bool (tells K (is_told K) e p)) [
      | inl t ↦ let b = tells-below K (is_told K) e p t in absurd (omega (arith, b, l))
      | inr f ↦ rw (f, ih) refl
    ]

pub record AreDone (K : List Event) (rows : List Done) : Type 0 where
  pub number : length rows ≡ count_of is_effect K
  pub each : (n : ℕ) (d : Done) → n < count_of is_effect K → IsDone K n (get_or rows n d)

-- no effect, and nothing changes of those that are kept
pub done-same : (e : Event) (K : List Event) (rows : List Done) → AreDone K rows → is_effect e.what ≡ false → ((p : ℕ) → p < length K → LeavesDone e K p) → AreDone (e ∷ K) rows
done-same e K rows all f leave =
    let m = made-same is_effect e K f in
    record {
      number = all.number ∙ sym m;
      each = λ n d l.
          let h = all.each n d (rw m at l) in
          done-row-kept e K n (get_or rows n d) h (leave (get_or rows n d).place (place-below is_effect K n (get_or rows n d).place h.place_is).1);
    }

pub quiet-done : (e : Event) (K : List Event) (p : ℕ) → is_install e.what ≡ false → is_accepted_value e.what ≡ false → LeavesDone e K p
quiet-done e K p i v = record { install_same = no-install e K p i; told_same = told-same e K p v }

-- ---- one more effect

pub done-more : (e : Event) (K : List Event) (rows : List Done) → AreDone K rows → is_effect e.what ≡ true → (new : Done) → new.place ≡ length K → seat_call K e.who ≡ nth_of notifies K new.call → new.call < count_of notifies K
    → asks_descriptor e.what ≡ is_some new.put → IsPutOf (e ∷ K) (length K) new.put → new.is_told ≡ false → (rows' : List Done) → rows' ≡ rows ++ new ∷ [] → AreDone (e ∷ K) rows'
done-more e K rows all h new place call made kept put told rows' q =
    let m = made-more is_effect e K h in
    record {
      number = rw q (length-append rows (new ∷ [])) ∙ (ap (λ (n : ℕ). n + 1) all.number ∙ sym m);
      each = λ n d l. rows-push (IsDone (e ∷ K)) rows rows' new q
          (λ i x il.
          let y = all.each i x (omega (arith, il, all.number)) in
          done-row-kept e K i (get_or rows i x) y (quiet-done e K (get_or rows i x).place (effect-installs e.what h) (effect-tells e.what h)))
          here n d (omega (arith, l, m, all.number));
    }
  where
    effect-installs : (w : What) → is_effect w ≡ true → is_install w ≡ false
    effect-installs w h = grind arith

    effect-tells : (w : What) → is_effect w ≡ true → is_accepted_value w ≡ false
    effect-tells w h = grind arith

    here : IsDone (e ∷ K) (length rows) new
    here =
        let less = count-least notifies e K in
        record {
          place_is = rw (all.number, place) (place-new is_effect e K h);
          call_is = rw (place, before-newest e K, event_at-here e K) (call ∙ sym (place-old notifies e K new.call made));
          call_made = omega (arith, made, less);
          put_kept = rw (place, event_at-here e K) kept;
          put_is = rw place put;
          told_is = rw (place, told) (told-same e K (length K) (effect-tells e.what h) ∙ told-above K (length K) (omega arith));
        }

-- ---- an installation

-- what waits for an installation was put for the call
pub record IsAskedFor (K : List Event) (c r : ℕ) : Type 0 where
  pub below : r < length K
  pub call_is : call_at K r ≡ Some c
  pub put_is : is_put (what_at K r) ≡ true

asked-older : (e : Event) (K : List Event) (c r : ℕ) → IsAskedFor K c r → IsAskedFor (e ∷ K) c r
asked-older e K c r h = record { below = omega (arith, h.below); call_is = call-older e K r h.below ∙ h.call_is; put_is = ap is_put (what-older e K r h.below) ∙ h.put_is }

putting : (K : List Event) (w : What) (c : ℕ) → puts_to K w c ≡ true → (asked_call K w ≡ Some c) × (is_put w ≡ true)
putting K w c h = grind (arith, place-is)

pub queue-asked : (K : List Event) (c : ℕ) → All (IsAskedFor K c) (queue K c)
unfolding queue
queue-asked [] c = λ k d l. absurd (omega arith)
queue-asked (e ∷ K) c =
    let ih : All (IsAskedFor (e ∷ K) c) (queue K c) = λ k d l. asked-older e K c (get_or (queue K c) k d) (queue-asked K c k d l) in
    elim (cases_Bool (puts_to K e.what c)) [
      | inl p ↦
          let h = putting K e.what c p in
          let one : IsAskedFor (e ∷ K) c (length K) = record { below = omega arith; call_is = call-here e K ∙ h.0; put_is = rw (event_at-here e K) h.1 } in
          rw p (All-append (IsAskedFor (e ∷ K) c) (queue K c) (length K ∷ []) ih (All-cons (IsAskedFor (e ∷ K) c) (length K) [] one (λ k d l. absurd (omega arith))))
      | inr p ↦ elim (cases_Bool (installs_for K e c)) [
        | inl i ↦ rw (p, i) (behind (queue K c) ih)
        | inr i ↦ rw (p, i) ih
      ]
    ]
  where
    behind : (rs : List ℕ) → All (IsAskedFor (e ∷ K) c) rs → All (IsAskedFor (e ∷ K) c) (rest_of rs)
    behind [] h = h
    behind (r ∷ rs) h = All-tail (IsAskedFor (e ∷ K) c) r rs h

is-first : (rs : List ℕ) (r : ℕ) → is_first rs r ≡ true → (qs : List ℕ) × (rs ≡ r ∷ qs)
is-first [] r h = cc
is-first (q ∷ qs) r h = (qs, ap (λ (x : ℕ). x ∷ qs) (eqb-true q r h))

-- it installs a request alone that is the first of its task's call
pub done-installed : (S : Script) (K : List Event) (n : Name) (answer : Result ℕ ℕ) (rows : List Done) → AreDone K rows → ((d : ℕ) → (call_of K n ≡ Some d → ⊥) → installs_for K (ev (Task n) (Install answer)) d ≡ false)
    → (c : ℕ) → call_of K n ≡ Some c → installs_for K (ev (Task n) (Install answer)) c ≡ true → (r k : ℕ) (rs : List ℕ) → queue K c ≡ r ∷ rs → nth_of is_effect K k ≡ Some r
    → (old new : Done) → IsDone K k old → new ≡ record old { put = new.put } → new.put ≡ option_map (with_installed answer) old.put
    → (rows' : List Done) → rows' ≡ set rows k new → AreDone (ev (Task n) (Install answer) ∷ K) rows'
done-installed S K n answer rows all others c at mine r k rs first number old new now rest put rows' q =
    let m = made-same is_effect e K refl in
    record {
      number = rw q (length-set rows k new) ∙ (all.number ∙ sym m);
      each = λ i x l.
          let b : i < length rows = omega (arith, l, m, all.number) in
          rows-set (IsDone (e ∷ K)) rows rows' k new q (λ j y jl a. other j y (omega (arith, jl, all.number)) a) here i x b;
    }
  where
    e : Event
    e = ev (Task n) (Install answer)

    asked : IsAskedFor K c r
    asked = subst (All (IsAskedFor K c)) first (queue-asked K c) 0 r (omega arith)

    place : old.place ≡ r
    place = cc (now.place_is, number)

    -- another one isn't it
    apart : (p : ℕ) → (p ≡ r → ⊥) → (o : Option ℕ) → installs_request K e o p ≡ false
    apart p a None = refl
    apart p a (Some d) = elim (cases_Bool (installs_for K e d && is_first (queue K d) p)) [
      | inr f ↦ f
      | inl t ↦
          let z = and_parts (installs_for K e d) (is_first (queue K d) p) t in
          elim (cases_eq d c) [
            | inr x ↦ absurd (both_ways (installs_for K e d) (others d (λ y. x (cc (at, y)))) z.0)
            | inl x ↦
                let w = is-first (queue K d) p z.1 in
                let v : p ∷ w.0 ≡ r ∷ rs = sym w.1 ∙ (ap (queue K) x ∙ first) in
                absurd (a cc)
          ]
    ]

    told : (p : ℕ) → is_told (e ∷ K) p ≡ is_told K p
    told p = told-same e K p refl

    other : (j : ℕ) (y : Done) → j < count_of is_effect K → (j ≡ k → ⊥) → IsDone (e ∷ K) j (get_or rows j y)
    other j y l a =
        let h = all.each j y l in
        done-row-kept e K j (get_or rows j y) h (record {
          install_same = install-same e K (get_or rows j y).place (apart (get_or rows j y).place (λ z. a (place-one is_effect K j k r (h.place_is ∙ ap (λ (x : ℕ). Some x) z) number)) (call_at K (get_or rows j y).place));
          told_same = told (get_or rows j y).place;
        })

    now-installed : install_of (e ∷ K) r ≡ Some answer
    now-installed = install-now e K r (rw (asked.call_is, mine, first, eq-eqb r r refl) refl)

    new-put : (o : Option Put) → IsPutOf K r o → is_some o ≡ true → IsPutOf (e ∷ K) r (option_map (with_installed answer) o)
    new-put None h z = cc
    new-put (Some p) h z = put-older e K r p (with_installed answer p) asked.below h refl refl now-installed

    there : (o : Option Put) → is_some (option_map (with_installed answer) o) ≡ is_some o
    there None = refl
    there (Some p) = refl

    asks : (w : What) → is_put w ≡ true → asks_descriptor w ≡ true
    asks w h = grind arith

    here : IsDone (e ∷ K) k new
    here =
        let has : is_some old.put ≡ true = sym now.put_kept ∙ (ap (λ p. asks_descriptor (what_at K p)) place ∙ asks (what_at K r) asked.put_is) in
        let one : IsPutOf K r old.put = subst (λ (p : ℕ). IsPutOf K p old.put) place now.put_is in
        let two : IsPutOf (e ∷ K) old.place new.put = subst (λ (p : ℕ). IsPutOf (e ∷ K) p new.put) (sym place) (rw put (new-put old.put one has)) in
        done-row e K k old new now (ap (λ (d : Done). d.place) rest) (ap (λ (d : Done). d.call) rest) (ap is_some put ∙ there old.put) two
        (told old.place ∙ (now.told_is ∙ sym (ap (λ (d : Done). d.is_told) rest)))

-- none waits for an installation
pub done-uninstalled : (K : List Event) (n : Name) (answer : Result ℕ ℕ) (rows : List Done) → AreDone K rows → ((d : ℕ) → (call_of K n ≡ Some d → ⊥) → installs_for K (ev (Task n) (Install answer)) d ≡ false)
    → ((c : ℕ) → call_of K n ≡ Some c → queue K c ≡ []) → AreDone (ev (Task n) (Install answer) ∷ K) rows
done-uninstalled K n answer rows all others none =
    done-same e K rows all refl (λ p l. record { install_same = install-same e K p (apart p (call_at K p)); told_same = told-same e K p refl })
  where
    e : Event
    e = ev (Task n) (Install answer)

    by : (p d : ℕ) (o : Option ℕ) → call_of K n ≡ o → (installs_for K e d && is_first (queue K d) p) ≡ false
    by p d None q = rw (others d (λ z. cc (q, z))) refl
    by p d (Some c) q = elim (cases_eq c d) [
      | inl x ↦ rw (none d (q ∙ ap (λ (y : ℕ). Some y) x)) (never (installs_for K e d))
      | inr x ↦ rw (others d (λ z. x (cc (q, z)))) refl
    ]
      where
        never : (b : Bool) → (b && false) ≡ false
        never true = refl
        never false = refl

    apart : (p : ℕ) (o : Option ℕ) → installs_request K e o p ≡ false
    apart p None = refl
    apart p (Some d) = by p d (call_of K n) refl
