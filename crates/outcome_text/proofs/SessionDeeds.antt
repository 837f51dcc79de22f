-- What a session did, as its steps are gone through: the steps of its worker up to the one that ends it.
-- By the definition of a session's steps at one more event, and by induction on the events behind its end.
use Rattle.std.proofs.Common.{◌≡◌, ℕ, ◌+◌, ◌<◌, ◌≤◌, Bool, true, false, ◌&&◌, not, List, [], ◌∷◌, ◌++◌, length, take, drop, get_or, reverse, refl, sym, ap, ◌∙◌, subst, append-nil, append_assoc, arith}
use Rattle.std.specs.Prelude.{◌||◌, if◌then◌else◌}
use Rattle.std.proofs.lemmas.Bool.{eq-eqb, ne_eqb}
use Rattle.std.proofs.lemmas.List.{length-append, length-reverse, reverse-append, take-append-drop, take_all}
use Rattle.hist_model.specs.Kinds.{is_letgo, skips, starts}
use Rattle.hist_model.specs.Look.{is_worker}
use Rattle.hist_model.specs.ReportAudit.{has_begun, is_shut, session_at, session_step}
use Rattle.hist_model.specs.declared.event.Event.{Event}
use Rattle.hist_model.specs.declared.event.What.{What}
use Rattle.audit_log.proofs.Past.{length_taken, past_more}
use Rattle.audit_log.proofs.SessionSteps.{open_joined, shut_joined}
use Rattle.outcome_text.specs.Outcomes.{did, did_by}

-- the event is a step of worker w that isn't none
abbrev pub is_own : ℕ → Event → Bool
is_own w e = is_worker e.who w && not (skips e.what)

-- ---- Steps of a session

first-step : (w r : ℕ) (K : List Event) (e : Event) → length K ≡ r → session_at w r (e ∷ K) ≡ e.what ∷ []
unfolding session_at
first-step w r K e q = rw (eq-eqb (length K) r q) refl

pub later-step : (w r : ℕ) (K : List Event) (e : Event) → r < length K → session_at w r (e ∷ K) ≡ session_step false (is_own w e) (session_at w r K) e.what
unfolding session_at
later-step w r K e l = let n : (length K ≡ r → ⊥) = (λ q. omega arith) in rw (ne_eqb (length K) r n) refl

no-step : (b : Bool) (a : What) → session_step false b [] a ≡ []
no-step true a = refl
no-step false a = refl

-- none before it begins
none-begun : (w r : ℕ) (K : List Event) → length K ≤ r → session_at w r K ≡ []
unfolding session_at
none-begun w r [] l = refl
none-begun w r (e ∷ K) l =
    let n : (length K ≡ r → ⊥) = (λ q. omega arith) in
    rw (ne_eqb (length K) r n, none-begun w r K (omega arith)) (no-step (is_own w e) e.what)

pub shut-stays : (b : Bool) (own : List What) (a : What) → is_shut own ≡ true → session_step false b own a ≡ own
shut-stays true own a h = shut_joined own a h
shut-stays false own a h = refl

-- none behind its end
none-behind : (w r : ℕ) (later K : List Event) → r < length K → is_shut (session_at w r K) ≡ true → session_at w r (later ++ K) ≡ session_at w r K
none-behind w r [] K l h = refl
none-behind w r (e ∷ later) K l h =
    let m : r < length (later ++ K) = omega (arith, length-append later K) in
    let before = none-behind w r later K l h in
    later-step w r (later ++ K) e m ∙ (ap (λ own. session_step false (is_own w e) own e.what) before ∙ shut-stays (is_own w e) (session_at w r K) e.what h)

-- so all its steps are those of the first events, if it ends among them
whole-session : (w r : ℕ) (xs : List Event) (i : ℕ) → r < i → i ≤ length xs → is_shut (session_at w r (reverse (take i xs))) ≡ true → session_at w r (reverse xs) ≡ session_at w r (reverse (take i xs))
whole-session w r xs i l m h =
    let q : reverse xs ≡ reverse (drop i xs) ++ reverse (take i xs) = ap reverse (sym (take-append-drop i xs)) ∙ reverse-append (take i xs) (drop i xs) in
    ap (session_at w r) q ∙ none-behind w r (reverse (drop i xs)) (reverse (take i xs)) (omega (arith, length_taken xs i m)) h

-- ---- One more event

and-true : (b : Bool) → (b && true) ≡ b
and-true true = refl
and-true false = refl

and-false : (b : Bool) → (b && false) ≡ false
and-false true = refl
and-false false = refl

begun-before : (own : List What) → is_shut own ≡ false → has_begun own ≡ true
begun-before [] h = cc
begun-before (a ∷ own) h = refl

first-did : (out : Bool) (w r : ℕ) (K : List Event) (e : Event) → length K ≡ r → did out (session_at w r (e ∷ K)) ≡ did_by out e.what
first-did out w r K e q = ap (did out) (first-step w r K e q)

first-ends : (w r : ℕ) (K : List Event) (e : Event) → length K ≡ r → is_shut (session_at w r (e ∷ K)) ≡ is_letgo e.what
first-ends w r K e q = ap is_shut (first-step w r K e q) ∙ by (is_letgo e.what) (starts e.what)
  where
    by : (b s : Bool) → (b || (s && false)) ≡ b
    by true s = refl
    by false s = and-false s

later-did : (out : Bool) (w r : ℕ) (K : List Event) (e : Event) → r < length K → is_shut (session_at w r K) ≡ false
    → did out (session_at w r (e ∷ K)) ≡ did out (session_at w r K) ++ (if is_own w e then did_by out e.what else [])
later-did out w r K e l h = ap (did out) (later-step w r K e l) ∙ by (is_own w e) (session_at w r K) h
  where
    by : (b : Bool) (own : List What) → is_shut own ≡ false → did out (session_step false b own e.what) ≡ did out own ++ (if b then did_by out e.what else [])
    by true own h = ap (did out) (open_joined own e.what h)
    by false own h = sym (append-nil (did out own))

later-ends : (w r : ℕ) (K : List Event) (e : Event) → r < length K → is_shut (session_at w r K) ≡ false → is_shut (session_at w r (e ∷ K)) ≡ (is_own w e && (is_letgo e.what || starts e.what))
later-ends w r K e l h = ap is_shut (later-step w r K e l) ∙ by (is_own w e) (session_at w r K) h
  where
    by : (b : Bool) (own : List What) → is_shut own ≡ false → is_shut (session_step false b own e.what) ≡ (b && (is_letgo e.what || starts e.what))
    by true own h =
        ap is_shut (open_joined own e.what h) ∙ (ap (λ t. is_letgo e.what || (starts e.what && t)) (begun-before own h) ∙ ap (λ t. is_letgo e.what || t) (and-true (starts e.what)))
    by false own h = h

-- ---- The loop

-- what the session that worker w began at place r did in K, after which it isn't over, stands behind a text
pub record IsTold (out : Bool) (w r : ℕ) (K : List Event) (text line : List ℕ) : Type 0 where
  pub begun : r < length K
  pub line_is : line ≡ text ++ did out (session_at w r K)
  pub going : is_shut (session_at w r K) ≡ false

-- nothing was done in a session that wasn't begun
pub none_told : (out : Bool) (w r : ℕ) (xs : List Event) (text : List ℕ) → length xs ≤ r → text ≡ text ++ did out (session_at w r (reverse xs))
none_told out w r xs text l = sym (append-nil text) ∙ ap (λ own. text ++ did out own) (sym (none-begun w r (reverse xs) (omega (arith, length-reverse xs))))

-- the first step
pub first_told : (out : Bool) (w r : ℕ) (xs : List Event) (d : Event) (text line : List ℕ) → r < length xs → line ≡ text ++ did_by out (get_or xs r d).what → is_letgo (get_or xs r d).what ≡ false
    → IsTold out w r (reverse (take (r + 1) xs)) text line
first_told out w r xs d text line l q h =
    let e = get_or xs r d in
    let K = reverse (take r xs) in
    let here : length K ≡ r = length_taken xs r (omega arith) in
    subst (λ H. IsTold out w r H text line) (sym (past_more xs r d l)) (record {
      begun = omega arith;
      line_is = q ∙ ap (λ more. text ++ more) (sym (first-did out w r K e here));
      going = first-ends w r K e here ∙ h;
    })

-- where it ends the session
pub first_whole : (out : Bool) (w r : ℕ) (xs : List Event) (d : Event) (text line : List ℕ) → r < length xs → line ≡ text ++ did_by out (get_or xs r d).what → is_letgo (get_or xs r d).what ≡ true
    → line ≡ text ++ did out (session_at w r (reverse xs))
first_whole out w r xs d text line l q h =
    let e = get_or xs r d in
    let K = reverse (take r xs) in
    let here : length K ≡ r = length_taken xs r (omega arith) in
    let m = past_more xs r d l in
    let over : is_shut (session_at w r (reverse (take (r + 1) xs))) ≡ true = ap (λ H. is_shut (session_at w r H)) m ∙ (first-ends w r K e here ∙ h) in
    q ∙ ap (λ more. text ++ more) (sym (first-did out w r K e here) ∙ (ap (λ H. did out (session_at w r H)) (sym m) ∙ ap (did out) (sym (whole-session w r xs (r + 1) (omega arith) (omega arith) over))))

-- a later event
abbrev deed : Bool → ℕ → Event → List ℕ
deed out w e = if is_own w e then did_by out e.what else []

pub later_told : (out : Bool) (w r : ℕ) (xs : List Event) (i : ℕ) (d : Event) (text mid line : List ℕ) → i < length xs → IsTold out w r (reverse (take i xs)) text mid
    → line ≡ mid ++ (if is_own w (get_or xs i d) then did_by out (get_or xs i d).what else []) → (is_own w (get_or xs i d) && (is_letgo (get_or xs i d).what || starts (get_or xs i d).what)) ≡ false → IsTold out w r (reverse (take (i + 1) xs)) text line
later_told out w r xs i d text mid line l t q h =
    let e = get_or xs i d in
    let K = reverse (take i xs) in
    subst (λ H. IsTold out w r H text line) (sym (past_more xs i d l)) (record {
      begun = omega (arith, t.begun);
      line_is = q ∙ (ap (λ more. more ++ deed out w e) t.line_is ∙ (append_assoc text (did out (session_at w r K)) (deed out w e) ∙ ap (λ more. text ++ more) (sym (later-did out w r K e t.begun t.going))));
      going = later-ends w r K e t.begun t.going ∙ h;
    })

-- where it ends the session
pub later_whole : (out : Bool) (w r : ℕ) (xs : List Event) (i : ℕ) (d : Event) (text mid line : List ℕ) → i < length xs → IsTold out w r (reverse (take i xs)) text mid
    → line ≡ mid ++ (if is_own w (get_or xs i d) then did_by out (get_or xs i d).what else []) → (is_own w (get_or xs i d) && (is_letgo (get_or xs i d).what || starts (get_or xs i d).what)) ≡ true → line ≡ text ++ did out (session_at w r (reverse xs))
later_whole out w r xs i d text mid line l t q h =
    let e = get_or xs i d in
    let K = reverse (take i xs) in
    let m = past_more xs i d l in
    let b : r < i = omega (arith, t.begun, length_taken xs i (omega arith)) in
    let over : is_shut (session_at w r (reverse (take (i + 1) xs))) ≡ true = ap (λ H. is_shut (session_at w r H)) m ∙ (later-ends w r K e t.begun t.going ∙ h) in
    q ∙ (ap (λ more. more ++ deed out w e) t.line_is ∙ (append_assoc text (did out (session_at w r K)) (deed out w e)
    ∙ ap (λ more. text ++ more) (sym (later-did out w r K e t.begun t.going) ∙ (ap (λ H. did out (session_at w r H)) (sym m) ∙ ap (did out) (sym (whole-session w r xs (i + 1) (omega arith) (omega arith) over))))))

-- all events are gone through
pub all_told : (out : Bool) (w r : ℕ) (xs : List Event) (i : ℕ) (text line : List ℕ) → length xs ≤ i → IsTold out w r (reverse (take i xs)) text line → line ≡ text ++ did out (session_at w r (reverse xs))
all_told out w r xs i text line l t = t.line_is ∙ ap (λ ys. text ++ did out (session_at w r (reverse ys))) (take_all i xs l)
