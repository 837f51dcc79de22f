-- For each text for which no atom asks there is a fresh candidate that isn't greater.
-- By induction on the text's length: without its last byte it is fresh, or asked for, or stands elsewhere, where a dot or its first byte goes.
use Rattle.std.proofs.Common.{◌≡◌, ℕ, zero, suc, ◌+◌, ◌<◌, ◌≤◌, Bool, true, false, ◌&&◌, ◌||◌, cond, not, List, [], ◌∷◌, ◌++◌, append-nil, length, length-append, get_or, Option, Some, None, refl, ap, sym, ◌∙◌, subst, ◌⊎◌, inl, inr, arith}
use Rattle.std.specs.Prelude.{◌==◌, All, Any, Contains, bytes_eq, nat_eq, nat_le, nat_lt, ⊤}
use Rattle.std.specs.List.{filter, flat_map, list_all, list_any, starts_with}
use Rattle.std.proofs.lemmas.Bool.{leb-true, le-leb, ltb-true}
use Rattle.std.proofs.lemmas.List.{append_assoc, same_from_push}
use Rattle.std.proofs.lemmas.List.Elements.{All-contains, All-head, All-tail}
use Rattle.std.proofs.lemmas.List.Folds.{list_all-append, list_any-append}
use Rattle.std.proofs.lemmas.List.FromFn.{get_or-range_with_len}
use Rattle.std.proofs.lemmas.Slice.Eq.{bytes_eq-Decides}
use Rattle.hist_model.specs.Decisions.{has_dot_dot, lies_under}
use Rattle.policy_classes.specs.declared.words.Limit.{Limit}
use Rattle.policy_classes.specs.declared.words.Limit.TheVariants as limit
use Rattle.policy_classes.specs.Allowed.{is_allowed, is_asked}
use Rattle.policy_classes.specs.Asked.{are_bytes}
use Rattle.policy_classes.specs.Fresh.{agree, all_bytes, asked_at, candidates, fresh, is_fresh, is_within, least, start_at, with_byte, with_bytes, with_slash}
use Rattle.policy_classes.specs.Order.{comes_before, text_part}
use Rattle.policy_classes.specs.Standing.{IsUpTo}
use Rattle.policy_classes.proofs.Dots.{by_last, dots_behind, dots_end, dots_stay, has_slash}
use Rattle.policy_classes.proofs.Least.{Orders, least_accepted, least_up_to}
use Rattle.policy_classes.proofs.Lists.{Any-flat_map, any_later, each_fails, each_passes, some_passes}
use Rattle.policy_classes.proofs.Ranks.{IsTextUpTo, before_up_to, not_before_up_to, plain_up_to, shorter_text, text_itself, text_through, texts_up_to}

pub same-bytes : (x y : List ℕ) → bytes_eq x y ≡ true → x ≡ y
same-bytes x y h = grind (arith, bytes_eq-Decides)

pub and_left : (a b : Bool) → (a && b) ≡ true → a ≡ true
and_left true b h = refl
and_left false b h = cc

pub and_right : (a b : Bool) → (a && b) ≡ true → b ≡ true
and_right true b h = h
and_right false b h = cc

pub and_both : (a b : Bool) → a ≡ true → b ≡ true → (a && b) ≡ true
and_both true b h g = g
and_both false b h g = cc

or_first : (a b : Bool) → (a || b) ≡ false → a ≡ false
or_first true b h = cc
or_first false b h = refl

or_second : (a b : Bool) → (a || b) ≡ false → b ≡ false
or_second true b h = cc
or_second false b h = h

pub not_true : (a : Bool) → not a ≡ true → a ≡ false
not_true true h = cc
not_true false h = refl

pub not_false : (a : Bool) → a ≡ false → not a ≡ true
not_false true h = cc
not_false false h = refl

agreed : (a b : Bool) → agree a b ≡ true → a ≡ b
agreed true true h = refl
agreed true false h = cc
agreed false true h = cc
agreed false false h = refl

agrees : (a b : Bool) → a ≡ b → agree a b ≡ true
agrees true true h = refl
agrees true false h = cc
agrees false true h = cc
agrees false false h = refl

pub all_pass : {A : Type 0} (test : A → Bool) (xs : List A) → All (λ x. test x ≡ true) xs → list_all test xs ≡ true
all_pass test [] h = refl
all_pass test (x ∷ xs) h =
    and_both (test x) (list_all test xs) (All-head (λ y. test y ≡ true) x xs h) (all_pass test xs (All-tail (λ y. test y ≡ true) x xs h))

-- ---- what a text begins with

begins_more : (p q f : List ℕ) → starts_with nat_eq p f ≡ true → starts_with nat_eq (p ++ q) f ≡ true
begins_more p q [] h = refl
begins_more [] q (y ∷ f) h = cc
begins_more (x ∷ p) q (y ∷ f) h =
    and_both (nat_eq y x) (starts_with nat_eq (p ++ q) f) (and_left (nat_eq y x) (starts_with nat_eq p f) h)
    (begins_more p q f (and_right (nat_eq y x) (starts_with nat_eq p f) h))

begins_itself : (p q : List ℕ) → starts_with nat_eq (p ++ q) p ≡ true
begins_itself [] q = refl
begins_itself (x ∷ p) q = and_both (nat_eq x x) (starts_with nat_eq (p ++ q) p) (grind arith) (begins_itself p q)

begins_rest : (p f : List ℕ) → starts_with nat_eq p f ≡ true → (w : List ℕ) × (p ≡ f ++ w)
begins_rest p [] h = (p, refl)
begins_rest [] (y ∷ f) h = cc
begins_rest (x ∷ p) (y ∷ f) h = of (begins_rest p f (and_right (nat_eq y x) (starts_with nat_eq p f) h))
  where
    same : y ≡ x
    same = let e = and_left (nat_eq y x) (starts_with nat_eq p f) h in grind arith

    of : (w : List ℕ) × (p ≡ f ++ w) → (w : List ℕ) × (x ∷ p ≡ y ∷ f ++ w)
    of (w, e) = (w, ap (λ z. z ∷ p) (sym same) ∙ ap (λ z. y ∷ z) e)

slash_there : (p e : List ℕ) → starts_with nat_eq p (with_slash e) ≡ true → has_slash p ≡ true
slash_there p e h = of (begins_rest p (with_slash e) h)
  where
    among : (f w : List ℕ) → has_slash ((f ++ 47 ∷ []) ++ w) ≡ true
    among [] w = refl
    among (x ∷ f) w = later (x == 47) (among f w)
      where
        later : (b : Bool) → has_slash ((f ++ 47 ∷ []) ++ w) ≡ true → (b || has_slash ((f ++ 47 ∷ []) ++ w)) ≡ true
        later true g = refl
        later false g = g

    of : (w : List ℕ) × (p ≡ with_slash e ++ w) → has_slash p ≡ true
    of (w, s) = subst (λ x. has_slash x ≡ true) (sym s) (among e w)

-- ---- texts that calls may have

-- a part of a text that calls may have
within_part : (l m : ℕ) (most : ℕ) → m ≤ l → nat_le l most ≡ true → nat_le m most ≡ true
within_part l m most h g = let k : l ≤ most = leb-true l most g in le-leb m most (omega arith)

allowed_from : (lim : Limit) (t u : List ℕ) → length u ≤ length t → (list_any (λ b. b == 0) t ≡ false → list_any (λ b. b == 0) u ≡ false)
    → (are_bytes t ≡ true → are_bytes u ≡ true) → is_allowed lim t ≡ true → is_allowed lim u ≡ true
allowed_from (limit.Text most) t u l zeros bytes h =
    and_both (nat_le (length u) most) (not (list_any (λ b. b == 0) u) && are_bytes u)
    (within_part (length t) (length u) most l (and_left (nat_le (length t) most) (not (list_any (λ b. b == 0) t) && are_bytes t) h))
    (and_both (not (list_any (λ b. b == 0) u)) (are_bytes u) (not_false (list_any (λ b. b == 0) u) (zeros (not_true (list_any (λ b. b == 0) t) (and_left (not (list_any (λ b. b == 0) t)) (are_bytes t) rest))))
    (bytes (and_right (not (list_any (λ b. b == 0) t)) (are_bytes t) rest)))
  where
    rest : (not (list_any (λ b. b == 0) t) && are_bytes t) ≡ true
    rest = and_right (nat_le (length t) most) (not (list_any (λ b. b == 0) t) && are_bytes t) h
allowed_from (limit.Value most) t u l zeros bytes h =
    and_both (nat_le (length u) most) (are_bytes u) (within_part (length t) (length u) most l (and_left (nat_le (length t) most) (are_bytes t) h))
    (bytes (and_right (nat_le (length t) most) (are_bytes t) h))

pub allowed_front : (lim : Limit) (u v : List ℕ) → is_allowed lim (u ++ v) ≡ true → is_allowed lim u ≡ true
allowed_front lim u v h =
    allowed_from lim (u ++ v) u (rw length-append (omega arith))
    (λ z. or_first (list_any (λ b. b == 0) u) (list_any (λ b. b == 0) v) (sym (list_any-append (λ b. b == 0) u v) ∙ z))
    (λ z. and_left (are_bytes u) (are_bytes v) (sym (list_all-append (λ b. nat_lt b 256) u v) ∙ z)) h

allowed_tail : (lim : Limit) (b : ℕ) (u : List ℕ) → is_allowed lim (b ∷ u) ≡ true → is_allowed lim u ≡ true
allowed_tail lim b u h =
    allowed_from lim (b ∷ u) u (omega arith) (or_second (b == 0) (list_any (λ b. b == 0) u)) (and_right (nat_lt b 256) (are_bytes u)) h

allowed_bytes : (lim : Limit) (t : List ℕ) → is_allowed lim t ≡ true → are_bytes t ≡ true
allowed_bytes (limit.Text most) t h =
    and_right (not (list_any (λ b. b == 0) t)) (are_bytes t) (and_right (nat_le (length t) most) (not (list_any (λ b. b == 0) t) && are_bytes t) h)
allowed_bytes (limit.Value most) t h = and_right (nat_le (length t) most) (are_bytes t) h

first_byte : (b : ℕ) (u : List ℕ) → are_bytes (b ∷ u) ≡ true → b < 256
first_byte b u h = ltb-true b 256 (and_left (nat_lt b 256) (are_bytes u) h)

last_byte : (u : List ℕ) (b : ℕ) → are_bytes (u ++ b ∷ []) ≡ true → b < 256
last_byte u b h = first_byte b [] (and_right (are_bytes u) (are_bytes (b ∷ [])) (sym (list_all-append (λ b. nat_lt b 256) u (b ∷ [])) ∙ h))

-- ---- candidates

-- one of the texts that a byte makes
made_with : (P : List ℕ → Type 0) (t : List ℕ) (b : ℕ) → b < 256 → Any P (with_byte t b) → Any P (with_bytes t)
unfolding all_bytes
made_with P t b l h = Any-flat_map P (with_byte t) all_bytes (b, b, omega arith, get_or-range_with_len 0 256 b b l ∙ omega arith, h)

from_source : (P : List ℕ → Type 0) (asked : List (List ℕ)) (at : Option (List ℕ)) (t : List ℕ) → Contains (asked_at at asked) t
    → Any P (with_bytes t) → Any P (candidates asked at)
from_source P asked at t (k, l, e) h =
    any_later P (start_at at) (flat_map with_bytes (start_at at ∷ asked_at at asked))
    (Any-flat_map P with_bytes (start_at at ∷ asked_at at asked) (suc k, t, omega arith, e, h))

from_start : (P : List ℕ → Type 0) (asked : List (List ℕ)) (at : Option (List ℕ)) → P (start_at at) → Any P (candidates asked at)
from_start P asked at h = (0, start_at at, omega arith, refl, h)

pub is_among : (asked : List (List ℕ)) (t : List ℕ) → is_asked asked t ≡ true → Contains asked t
is_among asked t h = of (some_passes (bytes_eq t) asked h)
  where
    of : Any (λ x. bytes_eq t x ≡ true) asked → Contains asked t
    of (k, x, l, e, s) = (k, l, subst (λ y. get_or asked k y ≡ y) (sym (same-bytes t x s)) e)

pub kept_by : (test : List ℕ → Bool) (xs : List (List ℕ)) (t : List ℕ) → Contains xs t → test t ≡ true → Contains (filter test xs) t
kept_by test [] t (k, l, e) h = absurd (omega arith)
kept_by test (x ∷ xs) t (zero, l, e) h = rw (ap test e ∙ h) (0, omega arith, e)
kept_by test (x ∷ xs) t (suc k, l, e) h = by (test x) (kept_by test xs t (k, omega arith, e) h)
  where
    by : (b : Bool) → Contains (filter test xs) t → Contains (cond b (x ∷ filter test xs) (filter test xs)) t
    by true (j, m, s) = (suc j, omega arith, s)
    by false c = c

module _ (lim : Limit) (asked dirs : List (List ℕ)) where
  abbrev Placed : Option (List ℕ) → List ℕ → Type 0
  Placed at u = All (λ e. lies_under (Some u) e ≡ is_within at e) dirs

  abbrev pub Fresh : Option (List ℕ) → List ℕ → Type 0
  Fresh at u = is_fresh lim asked dirs at u ≡ true

  abbrev placed_all : Option (List ℕ) → List ℕ → Bool
  placed_all at u = list_all (λ e. agree (lies_under (Some u) e) (is_within at e)) dirs

  pub fresh_allowed : (at : Option (List ℕ)) (u : List ℕ) → Fresh at u → is_allowed lim u ≡ true
  fresh_allowed at u h = and_left (is_allowed lim u) (not (is_asked asked u) && placed_all at u) h

  pub fresh_unasked : (at : Option (List ℕ)) (u : List ℕ) → Fresh at u → is_asked asked u ≡ false
  fresh_unasked at u h =
      not_true (is_asked asked u)
      (and_left (not (is_asked asked u)) (placed_all at u) (and_right (is_allowed lim u) (not (is_asked asked u) && placed_all at u) h))

  pub fresh_placed : (at : Option (List ℕ)) (u : List ℕ) → Fresh at u → Placed at u
  fresh_placed at u h k d l =
      agreed (lies_under (Some u) (get_or dirs k d)) (is_within at (get_or dirs k d))
      (each_passes (λ e. agree (lies_under (Some u) e) (is_within at e)) dirs
      (and_right (not (is_asked asked u)) (placed_all at u) (and_right (is_allowed lim u) (not (is_asked asked u) && placed_all at u) h)) k d l)

  pub is_fresh_there : (at : Option (List ℕ)) (u : List ℕ) → is_allowed lim u ≡ true → is_asked asked u ≡ false → Placed at u → Fresh at u
  is_fresh_there at u a isnt p =
      and_both (is_allowed lim u) (not (is_asked asked u) && placed_all at u) a
      (and_both (not (is_asked asked u)) (placed_all at u) (not_false (is_asked asked u) isnt)
      (all_pass (λ e. agree (lies_under (Some u) e) (is_within at e)) dirs
      (λ k d l. agrees (lies_under (Some u) (get_or dirs k d)) (is_within at (get_or dirs k d)) (p k d l))))

  fresh_or_asked : (at : Option (List ℕ)) (u : List ℕ) → is_allowed lim u ≡ true → Placed at u → Fresh at u ⊎ Contains asked u
  fresh_or_asked at u a p = by (is_asked asked u) refl
    where
      by : (b : Bool) → is_asked asked u ≡ b → Fresh at u ⊎ Contains asked u
      by true e = inr (is_among asked u e)
      by false e = inl (is_fresh_there at u a e p)

  -- what a candidate is to be
  abbrev pub Serves : Option (List ℕ) → List ℕ → List ℕ → Type 0
  Serves at t c = Fresh at c × IsTextUpTo c t

  abbrev pub Served : Option (List ℕ) → List ℕ → Type 0
  Served at t = Any (Serves at t) (candidates asked at)

  itself : (at : Option (List ℕ)) (t : List ℕ) → Fresh at t → Serves at t t
  itself at t h = (h, text_itself t)

  through : (at : Option (List ℕ)) (u t : List ℕ) → length u < length t → Served at u → Served at t
  through at u t l (k, c, m, e, h) = (k, c, m, e, (h.0, text_through c u t h.1 (shorter_text u t l)))

  behind_one : (at : Option (List ℕ)) (u t : List ℕ) (x : ℕ) → Fresh at t → t ≡ u ++ x ∷ [] → x < 256 → Contains (asked_at at asked) u → Served at t
  behind_one at u t x h e l c =
      from_source (Serves at t) asked at u c (made_with (Serves at t) u x l
      (0, u ++ x ∷ [], omega arith, refl, subst (Serves at t) e (itself at t h)))

  behind_two : (at : Option (List ℕ)) (u t : List ℕ) (x : ℕ) → Fresh at t → t ≡ u ++ 46 ∷ x ∷ [] → x < 256 → Contains (asked_at at asked) u → Served at t
  behind_two at u t x h e l c =
      from_source (Serves at t) asked at u c (made_with (Serves at t) u x l
      (1, u ++ 46 ∷ x ∷ [], omega arith, refl, subst (Serves at t) e (itself at t h)))

  in_front : (at : Option (List ℕ)) (u t : List ℕ) (x : ℕ) → Fresh at t → t ≡ x ∷ u → x < 256 → Contains (asked_at at asked) u → Served at t
  in_front at u t x h e l c =
      from_source (Serves at t) asked at u c (made_with (Serves at t) u x l
      (2, x ∷ u, omega arith, refl, subst (Serves at t) e (itself at t h)))

  -- ---- below no directory

  abbrev Rest : Option (List ℕ) → ℕ → Type 0
  Rest at n = (u : List ℕ) → length u ≤ n → Fresh at u → Served at u

  module _ (n : ℕ) (rest : Rest None n) (t : List ℕ) (l : length t ≤ suc n) (h : Fresh None t) (u : List ℕ) (x : ℕ) (e : t ≡ u ++ x ∷ []) where
    len : length t ≡ length u + 1
    len = ap length e ∙ length-append u (x ∷ [])

    bytes : are_bytes (u ++ x ∷ []) ≡ true
    bytes = subst (λ y. are_bytes y ≡ true) e (allowed_bytes lim t (fresh_allowed None t h))

    may : is_allowed lim (u ++ x ∷ []) ≡ true
    may = subst (λ y. is_allowed lim y ≡ true) e (fresh_allowed None t h)

    of_front : Fresh None u ⊎ Contains asked u → Served None t
    of_front (inl f) = through None u t (omega (arith, len)) (rest u (omega (arith, len)) f)
    of_front (inr c) = behind_one None u t x h e (last_byte u x bytes) (kept_by (λ y. starts_with nat_eq y []) asked u c refl)

    -- the path without its last byte is below a directory, and a component `..` ends there
    of_dots : (d : List ℕ) → Contains dirs d → lies_under (Some u) d ≡ true → Served None t
    of_dots d c under = from u refl
      where
        begins : starts_with nat_eq u (with_slash d) ≡ true
        begins = and_left (starts_with nat_eq u (with_slash d)) (not (has_dot_dot u)) under

        no_dots : has_dot_dot u ≡ false
        no_dots = not_true (has_dot_dot u) (and_right (starts_with nat_eq u (with_slash d)) (not (has_dot_dot u)) under)

        dots : has_dot_dot (u ++ x ∷ []) ≡ true
        dots = by (has_dot_dot (u ++ x ∷ [])) refl
          where
            by : (b : Bool) → has_dot_dot (u ++ x ∷ []) ≡ b → b ≡ true
            by true s = refl
            by false s =
                let placed : lies_under (Some t) d ≡ false =
                All-contains (λ y. lies_under (Some t) y ≡ false) dirs d (fresh_placed None t h) c in
                let there : lies_under (Some (u ++ x ∷ [])) d ≡ true =
                and_both (starts_with nat_eq (u ++ x ∷ []) (with_slash d)) (not (has_dot_dot (u ++ x ∷ [])))
                (begins_more u (x ∷ []) (with_slash d) begins) (not_false (has_dot_dot (u ++ x ∷ [])) s) in
                let so : lies_under (Some t) d ≡ true = subst (λ y. lies_under (Some y) d ≡ true) (sym e) there in cc

        from : (v : List ℕ) → u ≡ v → Served None t
        from [] s = let bad : starts_with nat_eq [] (with_slash d) ≡ true = subst (λ y. starts_with nat_eq y (with_slash d) ≡ true) s begins in nothing d bad
          where
            nothing : (f : List ℕ) → starts_with nat_eq [] (with_slash f) ≡ true → Served None t
            nothing [] g = cc
            nothing (y ∷ f) g = cc
        from (b ∷ p) s = of_rest (fresh_or_asked None (p ++ x ∷ []) rest_may rest_placed)
          where
            whole : t ≡ b ∷ (p ++ x ∷ [])
            whole = e ∙ ap (λ y. y ++ x ∷ []) s

            rest_may : is_allowed lim (p ++ x ∷ []) ≡ true
            rest_may = allowed_tail lim b (p ++ x ∷ []) (subst (λ y. is_allowed lim y ≡ true) whole (fresh_allowed None t h))

            rest_dots : has_dot_dot (p ++ x ∷ []) ≡ true
            rest_dots =
                dots_behind b p x (subst (λ y. has_dot_dot y ≡ false) s no_dots) (subst (λ y. has_slash y ≡ true) s (slash_there u d begins))
                (subst (λ y. has_dot_dot (y ++ x ∷ []) ≡ true) s dots)

            rest_placed : Placed None (p ++ x ∷ [])
            rest_placed k y m = by (starts_with nat_eq (p ++ x ∷ []) (with_slash (get_or dirs k y)))
              where
                by : (c : Bool) → (c && not (has_dot_dot (p ++ x ∷ []))) ≡ false
                by true = ap not rest_dots
                by false = refl

            rest_len : length t ≡ length (p ++ x ∷ []) + 1
            rest_len = ap length whole ∙ omega arith

            of_rest : Fresh None (p ++ x ∷ []) ⊎ Contains asked (p ++ x ∷ []) → Served None t
            of_rest (inl f) = through None (p ++ x ∷ []) t (omega (arith, rest_len)) (rest (p ++ x ∷ []) (omega (arith, rest_len)) f)
            of_rest (inr g) =
                in_front None (p ++ x ∷ []) t b h whole
                (first_byte b (p ++ x ∷ []) (subst (λ y. are_bytes y ≡ true) whole (allowed_bytes lim t (fresh_allowed None t h))))
                (kept_by (λ y. starts_with nat_eq y []) asked (p ++ x ∷ []) g refl)

    of_below : Any (λ d. lies_under (Some u) d ≡ true) dirs → Served None t
    of_below (k, d, m, s, under) = of_dots d (k, m, s) under

    less : (b : Bool) → list_any (λ d. lies_under (Some u) d) dirs ≡ b → Served None t
    less false s = of_front (fresh_or_asked None u (allowed_front lim u (x ∷ []) may) (each_fails (λ d. lies_under (Some u) d) dirs s))
    less true s = of_below (some_passes (λ d. lies_under (Some u) d) dirs s)

  none_step : (n : ℕ) → Rest None n → (t : List ℕ) → length t ≤ suc n → Fresh None t → Served None t
  none_step n rest t l h = of (by_last t)
    where
      of : (t ≡ []) ⊎ ((u : List ℕ) × (x : ℕ) × (t ≡ u ++ x ∷ [])) → Served None t
      of (inl e) = from_start (Serves None t) asked None (subst (Serves None t) e (itself None t h))
      of (inr (u, x, e)) = less n rest t l h u x e (list_any (λ d. lies_under (Some u) d) dirs) refl

  none_served : (n : ℕ) → Rest None n
  none_served zero [] l h = from_start (Serves None []) asked None (itself None [] h)
  none_served zero (b ∷ t) l h = absurd (omega arith)
  none_served (suc n) t l h = none_step n (none_served n) t l h

  -- ---- just below a directory

  module _ (d : List ℕ) (among : Contains dirs d) where
    -- a path that begins with the directory is placed where a longer one is, if neither has a component `..`
    placed_front : (p s : List ℕ) → starts_with nat_eq p (with_slash d) ≡ true → has_dot_dot p ≡ false → has_dot_dot (p ++ s) ≡ false
        → Placed (Some d) (p ++ s) → Placed (Some d) p
    placed_front p s begins none after placed k y m =
        by (starts_with nat_eq p (with_slash e)) refl (starts_with nat_eq (with_slash d) (with_slash e)) refl
      where
        e : List ℕ
        e = get_or dirs k y

        rest : (w : List ℕ) × (p ≡ with_slash d ++ w)
        rest = begins_rest p (with_slash d) begins

        of_front : (w : List ℕ) × (p ≡ with_slash d ++ w) → starts_with nat_eq (with_slash d) (with_slash e) ≡ true → starts_with nat_eq p (with_slash e) ≡ true
        of_front (w, same) g = subst (λ z. starts_with nat_eq z (with_slash e) ≡ true) (sym same) (begins_more (with_slash d) w (with_slash e) g)

        by : (b : Bool) → starts_with nat_eq p (with_slash e) ≡ b → (c : Bool) → starts_with nat_eq (with_slash d) (with_slash e) ≡ c
            → lies_under (Some p) e ≡ c
        by true g true f = and_both (starts_with nat_eq p (with_slash e)) (not (has_dot_dot p)) g (not_false (has_dot_dot p) none)
        by true g false f =
            let there : lies_under (Some (p ++ s)) e ≡ true =
            and_both (starts_with nat_eq (p ++ s) (with_slash e)) (not (has_dot_dot (p ++ s))) (begins_more p s (with_slash e) g)
            (not_false (has_dot_dot (p ++ s)) after) in
            let isnt : lies_under (Some (p ++ s)) e ≡ starts_with nat_eq (with_slash d) (with_slash e) = placed k y m in cc
        by false g true f = let so = of_front rest f in cc
        by false g false f = rw g refl

    -- a path just below has no component `..`, and begins with the directory
    under_dir : (t : List ℕ) → Fresh (Some d) t → lies_under (Some t) d ≡ true
    under_dir t h =
        All-contains (λ y. lies_under (Some t) y ≡ starts_with nat_eq (with_slash d) (with_slash y)) dirs d (fresh_placed (Some d) t h) among
        ∙ subst (λ z. starts_with nat_eq z (with_slash d) ≡ true) (append-nil (with_slash d)) (begins_itself (with_slash d) [])

    no_dots : (t : List ℕ) → Fresh (Some d) t → has_dot_dot t ≡ false
    no_dots t h = not_true (has_dot_dot t) (and_right (starts_with nat_eq t (with_slash d)) (not (has_dot_dot t)) (under_dir t h))

    asked_there : (u w : List ℕ) → u ≡ with_slash d ++ w → Contains asked u → Contains (asked_at (Some d) asked) u
    asked_there u w e c =
        kept_by (λ t. starts_with nat_eq t (with_slash d)) asked u c
        (subst (λ z. starts_with nat_eq z (with_slash d) ≡ true) (sym e) (begins_itself (with_slash d) w))

    abbrev RestBelow : ℕ → Type 0
    RestBelow n = (w : List ℕ) → length w ≤ n → Fresh (Some d) (with_slash d ++ w) → Served (Some d) (with_slash d ++ w)

    module _ (n : ℕ) (rest : RestBelow n) (w : List ℕ) (l : length w ≤ suc n) (h : Fresh (Some d) (with_slash d ++ w)) (v : List ℕ) (x : ℕ) (e : w ≡ v ++ x ∷ []) where
      below_whole : with_slash d ++ w ≡ (with_slash d ++ v) ++ x ∷ []
      below_whole = ap (λ z. with_slash d ++ z) e ∙ sym (append_assoc (with_slash d) v (x ∷ []))

      below_len : length w ≡ length v + 1
      below_len = ap length e ∙ length-append v (x ∷ [])

      lens : (z : List ℕ) → length (with_slash d ++ z) ≡ length (with_slash d) + length z
      lens z = length-append (with_slash d) z

      below_byte : x < 256
      below_byte = last_byte (with_slash d ++ v) x (subst (λ y. are_bytes y ≡ true) below_whole (allowed_bytes lim (with_slash d ++ w) (fresh_allowed (Some d) (with_slash d ++ w) h)))

      -- what stands before
      below_front : (v' s : List ℕ) → with_slash d ++ w ≡ (with_slash d ++ v') ++ s → has_dot_dot (with_slash d ++ v') ≡ false
          → Fresh (Some d) (with_slash d ++ v') ⊎ Contains asked (with_slash d ++ v')
      below_front v' s is none =
          fresh_or_asked (Some d) (with_slash d ++ v')
          (allowed_front lim (with_slash d ++ v') s (subst (λ y. is_allowed lim y ≡ true) is (fresh_allowed (Some d) (with_slash d ++ w) h)))
          (placed_front (with_slash d ++ v') s (begins_itself (with_slash d) v') none
          (subst (λ y. has_dot_dot y ≡ false) is (no_dots (with_slash d ++ w) h))
          (subst (Placed (Some d)) is (fresh_placed (Some d) (with_slash d ++ w) h)))

      of_one : Fresh (Some d) (with_slash d ++ v) ⊎ Contains asked (with_slash d ++ v) → Served (Some d) (with_slash d ++ w)
      of_one (inl f) =
          through (Some d) (with_slash d ++ v) (with_slash d ++ w) (let a = lens v in let b = lens w in omega (arith, below_len)) (rest v (omega (arith, below_len)) f)
      of_one (inr c) = behind_one (Some d) (with_slash d ++ v) (with_slash d ++ w) x h below_whole below_byte (asked_there (with_slash d ++ v) v refl c)

      two : (v' : List ℕ) → v ≡ v' ++ 46 ∷ [] → with_slash d ++ w ≡ (with_slash d ++ v') ++ 46 ∷ x ∷ []
      two v' s =
          ap (λ z. with_slash d ++ z) (e ∙ ap (λ z. z ++ x ∷ []) s ∙ append_assoc v' (46 ∷ []) (x ∷ []))
          ∙ sym (append_assoc (with_slash d) v' (46 ∷ x ∷ []))

      of_two : (v' : List ℕ) → v ≡ v' ++ 46 ∷ [] → Fresh (Some d) (with_slash d ++ v') ⊎ Contains asked (with_slash d ++ v') → Served (Some d) (with_slash d ++ w)
      of_two v' s (inl f) =
          through (Some d) (with_slash d ++ v') (with_slash d ++ w)
          (let a = lens v' in let b = lens w in let c = ap length s ∙ length-append v' (46 ∷ []) in omega (arith, below_len))
          (rest v' (let c = ap length s ∙ length-append v' (46 ∷ []) in omega (arith, below_len)) f)
      of_two v' s (inr c) = behind_two (Some d) (with_slash d ++ v') (with_slash d ++ w) x h (two v' s) below_byte (asked_there (with_slash d ++ v') v' refl c)

      -- a component `..` may end where the last byte goes
      below_less : (b : Bool) → has_dot_dot (with_slash d ++ v) ≡ b → Served (Some d) (with_slash d ++ w)
      below_less false s = of_one (below_front v (x ∷ []) below_whole s)
      below_less true s = of (dots_end (with_slash d ++ v) x s (subst (λ y. has_dot_dot y ≡ false) below_whole (no_dots (with_slash d ++ w) h)))
        where
          of : (q : List ℕ) × (with_slash d ++ v ≡ q ++ 46 ∷ []) × (has_dot_dot q ≡ false) → Served (Some d) (with_slash d ++ w)
          of (q, is, none) = by (by_last v)
            where
              by : (v ≡ []) ⊎ ((v' : List ℕ) × (y : ℕ) × (v ≡ v' ++ y ∷ [])) → Served (Some d) (with_slash d ++ w)
              by (inl a) =
                  let dots : has_dot_dot (with_slash d) ≡ true =
                  subst (λ z. has_dot_dot z ≡ true) (ap (λ z. with_slash d ++ z) a ∙ append-nil (with_slash d)) s in
                  let bad : has_dot_dot (with_slash d ++ w) ≡ true = dots_stay d w dots in
                  let good = no_dots (with_slash d ++ w) h in cc
              by (inr (v', y, a)) =
                  let parts = same_from_push (with_slash d ++ v') q y 46 (append_assoc (with_slash d) v' (y ∷ []) ∙ ap (λ z. with_slash d ++ z) (sym a) ∙ is) in
                  let dot : v ≡ v' ++ 46 ∷ [] = a ∙ ap (λ z. v' ++ z ∷ []) parts.1 in
                  of_two v' dot (below_front v' (46 ∷ x ∷ []) (two v' dot) (subst (λ z. has_dot_dot z ≡ false) (sym parts.0) none))

    below_step : (n : ℕ) → RestBelow n → (w : List ℕ) → length w ≤ suc n → Fresh (Some d) (with_slash d ++ w) → Served (Some d) (with_slash d ++ w)
    below_step n rest w l h = of (by_last w)
      where
        of : (w ≡ []) ⊎ ((v : List ℕ) × (x : ℕ) × (w ≡ v ++ x ∷ [])) → Served (Some d) (with_slash d ++ w)
        of (inl e) =
            from_start (Serves (Some d) (with_slash d ++ w)) asked (Some d)
            (subst (Serves (Some d) (with_slash d ++ w)) (ap (λ z. with_slash d ++ z) e ∙ append-nil (with_slash d)) (itself (Some d) (with_slash d ++ w) h))
        of (inr (v, x, e)) = below_less n rest w l h v x e (has_dot_dot (with_slash d ++ v)) refl

    below_served : (n : ℕ) → RestBelow n
    below_served zero [] l h =
        from_start (Serves (Some d) (with_slash d ++ [])) asked (Some d)
        (subst (Serves (Some d) (with_slash d ++ [])) (append-nil (with_slash d)) (itself (Some d) (with_slash d ++ []) h))
    below_served zero (b ∷ w) l h = absurd (omega arith)
    below_served (suc n) w l h = below_step n (below_served n) w l h

  -- ---- what is chosen

  -- below none, or just below one of the directories
  abbrev pub IsPlace : Option (List ℕ) → Type 0
  IsPlace None = ⊤
  IsPlace (Some d) = Contains dirs d

  served : (at : Option (List ℕ)) → IsPlace at → (t : List ℕ) → Fresh at t → Served at t
  served None p t h = none_served (length t) t (omega arith) h
  served (Some d) c t h = of (begins_rest t (with_slash d) (and_left (starts_with nat_eq t (with_slash d)) (not (has_dot_dot t)) (under_dir d c t h)))
    where
      of : (w : List ℕ) × (t ≡ with_slash d ++ w) → Served (Some d) t
      of (w, e) =
          subst (Served (Some d)) (sym e) (below_served d c (length w) w (omega arith) (subst (Fresh (Some d)) e h))

  text_orders : Orders comes_before IsTextUpTo
  text_orders = record { itself = text_itself; through = text_through; yes = before_up_to; no = not_before_up_to }

  pub fresh_stands : (plain : List ℕ) (at : Option (List ℕ)) → IsPlace at → (t : List ℕ) → Fresh at t
      → (m : List ℕ) × (fresh lim plain asked dirs at ≡ Some m) × Fresh at m × IsUpTo (text_part plain m) (text_part plain t)
  fresh_stands plain at p t h = by (is_fresh lim asked dirs at plain) refl
    where
      Goal : Bool → Type 0
      Goal b =
          (m : List ℕ) × (cond b (Some plain) (least comes_before (is_fresh lim asked dirs at) None (candidates asked at)) ≡ Some m)
          × Fresh at m × IsUpTo (text_part plain m) (text_part plain t)

      other : is_fresh lim asked dirs at plain ≡ false → (u : List ℕ) → Fresh at u → bytes_eq u plain ≡ false
      other e u f = by (bytes_eq u plain) refl
        where
          by : (b : Bool) → bytes_eq u plain ≡ b → b ≡ false
          by true s = let g : Fresh at plain = subst (Fresh at) (same-bytes u plain s) f in cc
          by false s = refl

      of : is_fresh lim asked dirs at plain ≡ false
          → (m : List ℕ) × (least comes_before (is_fresh lim asked dirs at) None (candidates asked at) ≡ Some m) × IsTextUpTo m t
          → (m : List ℕ) × (least comes_before (is_fresh lim asked dirs at) None (candidates asked at) ≡ Some m)
          × Fresh at m × IsUpTo (text_part plain m) (text_part plain t)
      of e (m, f, u) =
          let g : Fresh at m = least_accepted comes_before (is_fresh lim asked dirs at) None (candidates asked at) m (λ b s. cc) f in
          (m, f, g, texts_up_to plain m t (other e m g) (other e t h) u)

      by : (b : Bool) → is_fresh lim asked dirs at plain ≡ b
          → (m : List ℕ) × (cond (is_fresh lim asked dirs at plain) (Some plain) (least comes_before (is_fresh lim asked dirs at) None (candidates asked at)) ≡ Some m)
          × Fresh at m × IsUpTo (text_part plain m) (text_part plain t)
      by true e = rw e (plain, refl, e, plain_up_to plain t)
      by false e = rw e (of e (least_up_to comes_before (is_fresh lim asked dirs at) IsTextUpTo text_orders (candidates asked at) t (served at p t h)))

  -- what is chosen is fresh
  pub chosen_fresh : (plain : List ℕ) (at : Option (List ℕ)) (m : List ℕ) → fresh lim plain asked dirs at ≡ Some m → Fresh at m
  chosen_fresh plain at m h = by (is_fresh lim asked dirs at plain) refl h
    where
      by : (b : Bool) → is_fresh lim asked dirs at plain ≡ b
          → cond (is_fresh lim asked dirs at plain) (Some plain) (least comes_before (is_fresh lim asked dirs at) None (candidates asked at)) ≡ Some m → Fresh at m
      by true e f = let s : Some plain ≡ Some m = rw (← ap (λ b. cond b (Some plain) (least comes_before (is_fresh lim asked dirs at) None (candidates asked at))) e) f in subst (Fresh at) (cc) e
      by false e f =
          least_accepted comes_before (is_fresh lim asked dirs at) None (candidates asked at) m (λ b s. cc)
          (rw (← ap (λ b. cond b (Some plain) (least comes_before (is_fresh lim asked dirs at) None (candidates asked at))) e) f)
