-- What is told of the ends of some paths, which stand in their order, is what the outcomes of their histories are.
-- By induction on the ends: the first path is that of the first end, and those that come to its text are counted there.
use Rattle.std.proofs.Common.{◌≡◌, ◌⊎◌, inl, inr, ℕ, ◌+◌, Bool, true, false, not, bytes_eq, List, [], ◌∷◌, map, refl, sym, ap, ap₂, ◌∙◌, subst, arith}
use Rattle.std.specs.Prelude.{count_by, filter, if◌then◌else◌}
use Rattle.hist_model.proofs.Look.{name_eq-true}
use Rattle.hist_model.specs.ReportAudit.{Judging}
use Rattle.hist_model.specs.declared.event.Event.{Event}
use Rattle.hist_model.specs.declared.policy.Policy.{Policy}
use Rattle.hist_model.specs.declared.script.Script.{Script}
use Rattle.delay_bounded.specs.Explored.{closed}
use Rattle.outcome_text.specs.Outcomes.{result_of}
use Rattle.explorer.specs.Paths.{Path, comes_first}
use Rattle.explorer.specs.Tallies.{CountedOutcome, outcomes, playing, tallied}
use Rattle.explorer.proofs.FirstOutcomes.{comes, first_outcome, others}
use Rattle.explorer.proofs.PathOrder.{before_self, first_next}
use Rattle.explorer.proofs.PathsByLeft.{AreOrdered, IsFirstOf}
use Rattle.explorer.proofs.StateCounts.{count_cons}

-- the path is one of these
abbrev pub Has : List Path → Path → Type 0
Has [] x = ⊥
Has (y ∷ ys) x = (x ≡ y) ⊎ Has ys x

-- paths that come to one text: the first of them, and how many they are
pub record TextEnd : Type 0 where
  pub text : List ℕ
  pub first : Path
  pub count : ℕ

-- the history of a path, where the listener is closed at its end
abbrev pub history : Policy → Script → Path → List Event
history P S x = closed P S x.walk

module _ (P : Policy) (S : Script) (J : Judging) where
  abbrev pub text_of : Path → List ℕ
  text_of x = result_of S J (history P S x)

  abbrev pub comes_to : List ℕ → Path → Bool
  comes_to text x = bytes_eq text (text_of x)

  -- none of these that comes to the text comes before
  abbrev pub NoneBefore : TextEnd → List Path → Type 0
  NoneBefore e [] = Unit {0}
  NoneBefore e (x ∷ xs) = (comes_to e.text x ≡ true → comes_first x e.first ≡ false) × NoneBefore e xs

  -- it is so of these paths
  pub record IsEndOf (xs : List Path) (e : TextEnd) : Type 0 where
    pub there : Has xs e.first
    pub text_is : comes_to e.text e.first ≡ true
    pub none_before : NoneBefore e xs
    pub count_is : e.count ≡ count_by (comes_to e.text) xs

  abbrev pub AreEndsOf : List Path → List TextEnd → Type 0
  AreEndsOf xs [] = Unit {0}
  AreEndsOf xs (e ∷ es) = IsEndOf xs e × AreEndsOf xs es

  -- each has another text than those behind it, and its first path comes before theirs
  abbrev pub IsEarlier : TextEnd → List TextEnd → Type 0
  IsEarlier e [] = Unit {0}
  IsEarlier e (d ∷ es) = (bytes_eq e.text d.text ≡ false) × (comes_first e.first d.first ≡ true) × IsEarlier e es

  abbrev pub AreInOrder : List TextEnd → Type 0
  AreInOrder [] = Unit {0}
  AreInOrder (e ∷ es) = IsEarlier e es × AreInOrder es

  -- a path's text is that of one of these
  abbrev pub IsTold : Path → List TextEnd → Type 0
  IsTold x [] = ⊥
  IsTold x (e ∷ es) = (comes_to e.text x ≡ true) ⊎ IsTold x es

  abbrev pub AreTold : List Path → List TextEnd → Type 0
  AreTold [] es = Unit {0}
  AreTold (x ∷ xs) es = IsTold x es × AreTold xs es

  abbrev pub outcome_of : TextEnd → CountedOutcome
  outcome_of e = record { text = e.text; histories = e.count; schedule = playing (history P S e.first) }

  -- ---- The first path is that of the first end

  first_there : (x y : Path) (ys : List Path) → IsFirstOf y ys → Has ys x → comes_first y x ≡ true
  first_there x y [] h k = elim k [ ]
  first_there x y (z ∷ ys) h (inl e) = ap (comes_first y) e ∙ h.0
  first_there x y (z ∷ ys) h (inr k) = first_there x y ys h.1 k

  -- where the first path comes to an end's text, it is the first of that
  is_first_of : (y : Path) (ys : List Path) (e : TextEnd) → IsFirstOf y ys → IsEndOf (y ∷ ys) e → comes_to e.text y ≡ true → e.first ≡ y
  is_first_of y ys e h i c = by i.there
    where
      by : Has (y ∷ ys) e.first → e.first ≡ y
      by (inl q) = q
      by (inr k) = let z : true ≡ false = sym (first_there e.first y ys h k) ∙ i.none_before.0 c in cc

  not_itself : (x : Path) → comes_first x x ≡ true → ⊥
  not_itself x h = grind (arith, before_self x.lefts, h)

  -- an end that comes before another one, whose first path is the first of all, can't be
  none_earlier : (y : Path) (ys : List Path) (e : TextEnd) → IsFirstOf y ys → IsEndOf (y ∷ ys) e → comes_first e.first y ≡ true → ⊥
  none_earlier y ys e h i c = by i.there
    where
      by : Has (y ∷ ys) e.first → ⊥
      by (inl q) = not_itself y (subst (λ (x : Path). comes_first x y ≡ true) q c)
      by (inr k) = not_itself y (first_next y.walk.left e.first.walk.left y.walk.left y.lefts e.first.lefts y.lefts (first_there e.first y ys h k) c)

  told_later : (y : Path) (ys : List Path) (e : TextEnd) (es : List TextEnd) → IsFirstOf y ys → IsEndOf (y ∷ ys) e → AreEndsOf (y ∷ ys) es → IsEarlier e es → IsTold y es → ⊥
  told_later y ys e [] h i k o t = elim t [ ]
  told_later y ys e (d ∷ es) h i k o (inl c) =
      let same : d.first ≡ y = is_first_of y ys d h k.0 c in
      none_earlier y ys e h i (subst (λ (x : Path). comes_first e.first x ≡ true) same o.1)
  told_later y ys e (d ∷ es) h i k o (inr t) = told_later y ys e es h i k.1 o.2 t

  told_first : (y : Path) (ys : List Path) (e : TextEnd) (es : List TextEnd) → IsFirstOf y ys → IsEndOf (y ∷ ys) e → AreEndsOf (y ∷ ys) es → IsEarlier e es → IsTold y (e ∷ es) → comes_to e.text y ≡ true
  told_first y ys e es h i k o (inl c) = c
  told_first y ys e es h i k o (inr t) = absurd (told_later y ys e es h i k o t)

  -- ---- Those that come to another text

  abbrev rest_of : List ℕ → List Path → List Path
  rest_of text xs = filter (λ x. not (comes_to text x)) xs

  others_map : (text : List ℕ) (xs : List Path) → others S J text (map (history P S) xs) ≡ map (history P S) (rest_of text xs)
  others_map text [] = refl
  others_map text (x ∷ xs) = by (others_map text xs) (comes_to text x) refl
    where
      by : others S J text (map (history P S) xs) ≡ map (history P S) (rest_of text xs) → (b : Bool) → comes_to text x ≡ b → others S J text (map (history P S) (x ∷ xs)) ≡ map (history P S) (rest_of text (x ∷ xs))
      by ih true e = rw e ih
      by ih false e = rw e (ap (λ (hs : List (List Event)). history P S x ∷ hs) ih)

  count_map : (text : List ℕ) (xs : List Path) → count_by (comes S J text) (map (history P S) xs) ≡ count_by (comes_to text) xs
  count_map text [] = refl
  count_map text (x ∷ xs) =
      count_cons (comes S J text) (history P S x) (map (history P S) xs)
      ∙ (ap (λ (n : ℕ). (if comes_to text x then 1 else 0) + n) (count_map text xs) ∙ sym (count_cons (comes_to text) x xs))

  -- two texts that differ: what comes to the one doesn't come to the other
  apart : (t u : List ℕ) (x : Path) → bytes_eq t u ≡ false → comes_to u x ≡ true → comes_to t x ≡ false
  apart t u x d c = let same : u ≡ text_of x = name_eq-true u (text_of x) c in subst (λ (v : List ℕ). bytes_eq t v ≡ false) same d

  module _ (t : List ℕ) (e : TextEnd) (d : bytes_eq t e.text ≡ false) where
    rest_has : (xs : List Path) → comes_to e.text e.first ≡ true → Has xs e.first → Has (rest_of t xs) e.first
    rest_has [] c h = elim h [ ]
    rest_has (x ∷ xs) c h = by (λ k. rest_has xs c k) (comes_to t x) refl h
      where
        by : (Has xs e.first → Has (rest_of t xs) e.first) → (b : Bool) → comes_to t x ≡ b → Has (x ∷ xs) e.first → Has (if not (comes_to t x) then x ∷ rest_of t xs else rest_of t xs) e.first
        by ih true q (inl same) = let no : comes_to t x ≡ false = subst (λ (y : Path). comes_to t y ≡ false) same (apart t e.text e.first d c) in cc
        by ih true q (inr k) = rw q (ih k)
        by ih false q (inl same) = rw q (inl same)
        by ih false q (inr k) = rw q (inr (ih k))

    rest_none : (xs : List Path) → NoneBefore e xs → NoneBefore e (rest_of t xs)
    rest_none [] h = tt
    rest_none (x ∷ xs) h = by (rest_none xs h.1) (comes_to t x) refl
      where
        by : NoneBefore e (rest_of t xs) → (b : Bool) → comes_to t x ≡ b → NoneBefore e (if not (comes_to t x) then x ∷ rest_of t xs else rest_of t xs)
        by ih true q = rw q ih
        by ih false q = rw q (h.0, ih)

    -- what comes to the one text doesn't come to the end's
    not_other : (x : Path) → comes_to t x ≡ true → (b : Bool) → comes_to e.text x ≡ b → comes_to e.text x ≡ false
    not_other x q true c = let n : comes_to t x ≡ false = apart t e.text x d c in cc
    not_other x q false c = c

    rest_count : (xs : List Path) → count_by (comes_to e.text) (rest_of t xs) ≡ count_by (comes_to e.text) xs
    rest_count [] = refl
    rest_count (x ∷ xs) = by (rest_count xs) (comes_to t x) refl
      where
        by : count_by (comes_to e.text) (rest_of t xs) ≡ count_by (comes_to e.text) xs → (b : Bool) → comes_to t x ≡ b
            → count_by (comes_to e.text) (rest_of t (x ∷ xs)) ≡ count_by (comes_to e.text) (x ∷ xs)
        by ih true q =
            let here : rest_of t (x ∷ xs) ≡ rest_of t xs = rw q refl in
            let no : comes_to e.text x ≡ false = not_other x q (comes_to e.text x) refl in
            let all : count_by (comes_to e.text) (x ∷ xs) ≡ 0 + count_by (comes_to e.text) xs = count_cons (comes_to e.text) x xs ∙ rw no refl in
            ap (count_by (comes_to e.text)) here ∙ (ih ∙ omega (arith, all))
        by ih false q =
            let here : rest_of t (x ∷ xs) ≡ x ∷ rest_of t xs = rw q refl in
            ap (count_by (comes_to e.text)) here
            ∙ (count_cons (comes_to e.text) x (rest_of t xs) ∙ (ap (λ (n : ℕ). (if comes_to e.text x then 1 else 0) + n) ih ∙ sym (count_cons (comes_to e.text) x xs)))

    rest_end : (xs : List Path) → IsEndOf xs e → IsEndOf (rest_of t xs) e
    rest_end xs i = record {
      there = rest_has xs i.text_is i.there;
      text_is = i.text_is;
      none_before = rest_none xs i.none_before;
      count_is = i.count_is ∙ sym (rest_count xs);
    }

  rest_ends : (e : TextEnd) (xs : List Path) (es : List TextEnd) → IsEarlier e es → AreEndsOf xs es → AreEndsOf (rest_of e.text xs) es
  rest_ends e xs [] o i = tt
  rest_ends e xs (d ∷ es) o i = (rest_end e.text d o.0 xs i.0, rest_ends e xs es o.2 i.1)

  rest_told : (e : TextEnd) (es : List TextEnd) (xs : List Path) → AreTold xs (e ∷ es) → AreTold (rest_of e.text xs) es
  rest_told e es [] h = tt
  rest_told e es (x ∷ xs) h = by (rest_told e es xs h.1) (comes_to e.text x) refl h.0
    where
      by : AreTold (rest_of e.text xs) es → (b : Bool) → comes_to e.text x ≡ b → IsTold x (e ∷ es)
          → AreTold (if not (comes_to e.text x) then x ∷ rest_of e.text xs else rest_of e.text xs) es
      by ih true q t = rw q ih
      by ih false q (inl c) = let z : true ≡ false = sym c ∙ q in cc
      by ih false q (inr t) = rw q (t, ih)

  rest_first : (t : List ℕ) (x : Path) (xs : List Path) → IsFirstOf x xs → IsFirstOf x (rest_of t xs)
  rest_first t x [] h = tt
  rest_first t x (y ∷ xs) h = by (rest_first t x xs h.1) (comes_to t y) refl
    where
      by : IsFirstOf x (rest_of t xs) → (b : Bool) → comes_to t y ≡ b → IsFirstOf x (if not (comes_to t y) then y ∷ rest_of t xs else rest_of t xs)
      by ih true q = rw q ih
      by ih false q = rw q (h.0, ih)

  rest_ordered : (t : List ℕ) (xs : List Path) → AreOrdered xs → AreOrdered (rest_of t xs)
  rest_ordered t [] h = tt
  rest_ordered t (x ∷ xs) h = by (rest_ordered t xs h.1) (comes_to t x) refl
    where
      by : AreOrdered (rest_of t xs) → (b : Bool) → comes_to t x ≡ b → AreOrdered (if not (comes_to t x) then x ∷ rest_of t xs else rest_of t xs)
      by ih true q = rw q ih
      by ih false q = rw q (rest_first t x xs h.0, ih)

  -- ---- All of them

  abbrev counted : List ℕ → ℕ → Path → CountedOutcome
  counted text n x = record { text = text; histories = n; schedule = playing (history P S x) }

  pub ends_tell : (es : List TextEnd) (xs : List Path) → AreOrdered xs → AreEndsOf xs es → AreInOrder es → AreTold xs es
      → map outcome_of es ≡ outcomes S J (map (history P S) xs)
  unfolding tallied
  ends_tell [] [] o i r t = refl
  ends_tell [] (x ∷ xs) o i r t = absurd t.0
  ends_tell (e ∷ es) [] o i r t = absurd i.0.there
  ends_tell (e ∷ es) (y ∷ ys) o i r t =
      let c : comes_to e.text y ≡ true = told_first y ys e es o.0 i.0 i.1 r.0 t.0 in
      let first : e.first ≡ y = is_first_of y ys e o.0 i.0 c in
      let text : e.text ≡ text_of y = name_eq-true e.text (text_of y) c in
      let skipped : rest_of e.text (y ∷ ys) ≡ rest_of e.text ys = rw c refl in
      let more : map outcome_of es ≡ outcomes S J (map (history P S) (rest_of e.text (y ∷ ys))) =
      ends_tell es (rest_of e.text (y ∷ ys)) (rest_ordered e.text (y ∷ ys) o) (rest_ends e (y ∷ ys) es r.0 i.1) r.1 (rest_told e es (y ∷ ys) t) in
      let count : e.count ≡ 1 + count_by (comes S J (text_of y)) (map (history P S) ys) =
      i.0.count_is ∙ (count_cons (comes_to e.text) y ys ∙ (ap (λ (b : Bool). (if b then 1 else 0) + count_by (comes_to e.text) ys) c
      ∙ ap (λ (n : ℕ). 1 + n) (ap (λ (u : List ℕ). count_by (comes_to u) ys) text ∙ sym (count_map (text_of y) ys)))) in
      let here : outcome_of e ≡ counted (text_of y) (1 + count_by (comes S J (text_of y)) (map (history P S) ys)) y =
      ap (λ (u : List ℕ). counted u e.count e.first) text
      ∙ (ap (λ (n : ℕ). counted (text_of y) n e.first) count ∙ ap (counted (text_of y) (1 + count_by (comes S J (text_of y)) (map (history P S) ys))) first) in
      let behind : map outcome_of es ≡ outcomes S J (others S J (text_of y) (map (history P S) ys)) =
      more ∙ (ap (λ (xs : List Path). outcomes S J (map (history P S) xs)) skipped
      ∙ (ap (outcomes S J) (sym (others_map e.text ys)) ∙ ap (λ (u : List ℕ). outcomes S J (others S J u (map (history P S) ys))) text)) in
      ap₂ (λ (p : CountedOutcome) (ps : List CountedOutcome). p ∷ ps) here behind ∙ sym (first_outcome S J (history P S y) (map (history P S) ys))
