-- A path has a component `..` where a machine that reads its bytes ends in one of two states.
-- By induction on the path; what is said of a path with a byte more is then said of one step of the machine.
use Rattle.std.proofs.Common.{◌≡◌, ℕ, Bool, true, false, cond, ◌||◌, List, [], ◌∷◌, ◌++◌, refl, ap, sym, ◌∙◌, subst, ◌⊎◌, inl, inr}
use Rattle.std.specs.Prelude.{◌==◌, bytes_eq}
use Rattle.std.specs.List.{list_any, onto_first, slice_split}
use Rattle.std.proofs.lemmas.Bool.{eqb-true}
use Rattle.hist_model.specs.Decisions.{has_dot_dot}
use Rattle.hist_model.specs.Paths.{is_dot_dot}

-- what was read of a component so far; or a component `..` is past
data Seen : Type 0 where
  none : Seen
  one : Seen
  two : Seen
  other : Seen
  past : Seen

-- one byte is read, which is a slash, a dot or neither
abbrev step : Seen → Bool → Bool → Seen
step past slash dot = past
step two true dot = past
step none true dot = none
step one true dot = none
step other true dot = none
step none false true = one
step one false true = two
step two false true = other
step other false true = other
step none false false = other
step one false false = other
step two false false = other
step other false false = other

abbrev read : Seen → List ℕ → Seen
read s [] = s
read s (b ∷ bs) = read (step s (b == 47) (b == 46)) bs

abbrev ends : Seen → Bool
ends two = true
ends past = true
ends none = false
ends one = false
ends other = false

-- what is still to come completes a component `..`, of which so much was read
abbrev completes : Seen → List ℕ → Bool
completes none c = is_dot_dot c
completes one c = bytes_eq c (46 ∷ [])
completes two c = bytes_eq c []
completes other c = false
completes past c = true

abbrev among : Seen → List (List ℕ) → Bool
among s [] = completes s []
among s (c ∷ cs) = completes s c || list_any is_dot_dot cs

byte_read : (s : Seen) (b : ℕ) (c : List ℕ) → (b == 47) ≡ false → completes s (b ∷ c) ≡ completes (step s false (b == 46)) c
byte_read none b c h = by (b == 46) refl
  where
    by : (d : Bool) → (b == 46) ≡ d → completes none (b ∷ c) ≡ completes (step none false d) c
    by true e = rw e refl
    by false e = rw e refl
byte_read one b c h = by (b == 46) refl
  where
    by : (d : Bool) → (b == 46) ≡ d → completes one (b ∷ c) ≡ completes (step one false d) c
    by true e = rw e refl
    by false e = rw e refl
byte_read two b c h = by (b == 46)
  where
    by : (d : Bool) → completes two (b ∷ c) ≡ completes (step two false d) c
    by true = refl
    by false = refl
byte_read other b c h = by (b == 46)
  where
    by : (d : Bool) → completes other (b ∷ c) ≡ completes (step other false d) c
    by true = refl
    by false = refl
byte_read past b c h = refl

split_read : (s : Seen) (b : ℕ) (cs : List (List ℕ)) → (b == 47) ≡ false → among s (onto_first b cs) ≡ among (step s false (b == 46)) cs
split_read s b [] h = or_false (completes s (b ∷ [])) ∙ byte_read s b [] h
  where
    or_false : (x : Bool) → (x || false) ≡ x
    or_false true = refl
    or_false false = refl
split_read s b (c ∷ cs) h = ap (λ x. x || list_any is_dot_dot cs) (byte_read s b c h)

slash_read : (s : Seen) (dot : Bool) (cs : List (List ℕ)) → among s ([] ∷ cs) ≡ among (step s true dot) cs
slash_read none dot [] = refl
slash_read none dot (c ∷ cs) = refl
slash_read one dot [] = refl
slash_read one dot (c ∷ cs) = refl
slash_read two dot [] = refl
slash_read two dot (c ∷ cs) = refl
slash_read other dot [] = refl
slash_read other dot (c ∷ cs) = refl
slash_read past dot [] = refl
slash_read past dot (c ∷ cs) = refl

read_as_split : (s : Seen) (p : List ℕ) → among s (slice_split (λ b. b == 47) p) ≡ ends (read s p)
read_as_split none [] = refl
read_as_split one [] = refl
read_as_split two [] = refl
read_as_split other [] = refl
read_as_split past [] = refl
read_as_split s (b ∷ p) = by (b == 47) refl (read_as_split (step s (b == 47) (b == 46)) p)
  where
    by : (slash : Bool) → (b == 47) ≡ slash
        → among (step s (b == 47) (b == 46)) (slice_split (λ x. x == 47) p) ≡ ends (read (step s (b == 47) (b == 46)) p)
        → among s (cond (b == 47) ([] ∷ slice_split (λ x. x == 47) p) (onto_first b (slice_split (λ x. x == 47) p)))
        ≡ ends (read (step s (b == 47) (b == 46)) p)
    by true e rest = rw e (slash_read s (b == 46) (slice_split (λ x. x == 47) p)) ∙ ap (λ x. among (step s x (b == 46)) (slice_split (λ y. y == 47) p)) (sym e) ∙ rest
    by false e rest = rw e (split_read s b (slice_split (λ x. x == 47) p) e) ∙ ap (λ x. among (step s x (b == 46)) (slice_split (λ y. y == 47) p)) (sym e) ∙ rest

by_reading : (p : List ℕ) → has_dot_dot p ≡ ends (read none p)
by_reading p = split_none (slice_split (λ b. b == 47) p) ∙ read_as_split none p
  where
    split_none : (cs : List (List ℕ)) → list_any is_dot_dot cs ≡ among none cs
    split_none [] = refl
    split_none (c ∷ cs) = refl

read-append : (s : Seen) (p q : List ℕ) → read s (p ++ q) ≡ read (read s p) q
read-append s [] q = refl
read-append s (b ∷ p) q = read-append (step s (b == 47) (b == 46)) p q

read_past : (p : List ℕ) → read past p ≡ past
read_past [] = refl
read_past (b ∷ p) = read_past p

-- ---- what the paths are told by

-- a path is empty, or has a last byte
pub by_last : (p : List ℕ) → (p ≡ []) ⊎ ((q : List ℕ) × (b : ℕ) × (p ≡ q ++ b ∷ []))
by_last [] = inl refl
by_last (b ∷ p) = of (by_last p)
  where
    of : (p ≡ []) ⊎ ((q : List ℕ) × (c : ℕ) × (p ≡ q ++ c ∷ [])) → (b ∷ p ≡ []) ⊎ ((q : List ℕ) × (c : ℕ) × (b ∷ p ≡ q ++ c ∷ []))
    of (inl e) = inr ([], b, ap (λ x. b ∷ x) e)
    of (inr (q, c, e)) = inr (b ∷ q, c, ap (λ x. b ∷ x) e)

-- where a byte more leaves no component `..`, the one that was there ends in the byte before, a dot, and without it there is none
pub dots_end : (p : List ℕ) (b : ℕ) → has_dot_dot p ≡ true → has_dot_dot (p ++ b ∷ []) ≡ false
    → (q : List ℕ) × (p ≡ q ++ 46 ∷ []) × (has_dot_dot q ≡ false)
dots_end p b h g = of (by_last p)
  where
    now : ends (read none p) ≡ true
    now = sym (by_reading p) ∙ h

    then : ends (step (read none p) (b == 47) (b == 46)) ≡ false
    then = ap ends (sym (read-append none p (b ∷ []))) ∙ sym (by_reading (p ++ b ∷ [])) ∙ g

    is_two : (s : Seen) → ends s ≡ true → ends (step s (b == 47) (b == 46)) ≡ false → s ≡ two
    is_two none e f = cc
    is_two one e f = cc
    is_two two e f = refl
    is_two other e f = cc
    is_two past e f = cc

    -- a dot leads to the state
    to_two : (s : Seen) (slash dot : Bool) → step s slash dot ≡ two → (s ≡ one) × (dot ≡ true)
    to_two past slash dot e = cc
    to_two none true dot e = cc
    to_two one true dot e = cc
    to_two two true dot e = cc
    to_two other true dot e = cc
    to_two none false true e = cc
    to_two one false true e = (refl, refl)
    to_two two false true e = cc
    to_two other false true e = cc
    to_two none false false e = cc
    to_two one false false e = cc
    to_two two false false e = cc
    to_two other false false e = cc

    of : (p ≡ []) ⊎ ((q : List ℕ) × (c : ℕ) × (p ≡ q ++ c ∷ [])) → (q : List ℕ) × (p ≡ q ++ 46 ∷ []) × (has_dot_dot q ≡ false)
    of (inl e) = let bad : ends (read none []) ≡ true = subst (λ x. ends (read none x) ≡ true) e now in cc
    of (inr (q, c, e)) =
        let last : read none p ≡ two = is_two (read none p) now then in
        let at : step (read none q) (c == 47) (c == 46) ≡ two = sym (read-append none q (c ∷ [])) ∙ ap (read none) (sym e) ∙ last in
        let both = to_two (read none q) (c == 47) (c == 46) at in
        (q, e ∙ ap (λ x. q ++ x ∷ []) (eqb-true c 46 both.1), by_reading q ∙ ap ends both.0)

-- a component `..` that a slash ends stays one
pub dots_stay : (d p : List ℕ) → has_dot_dot (d ++ 47 ∷ []) ≡ true → has_dot_dot ((d ++ 47 ∷ []) ++ p) ≡ true
dots_stay d p h =
    by_reading ((d ++ 47 ∷ []) ++ p) ∙ ap ends (read-append none (d ++ 47 ∷ []) p)
    ∙ ap (λ s. ends (read s p)) (is_past (read none d) (ap ends (sym (read-append none d (47 ∷ []))) ∙ sym (by_reading (d ++ 47 ∷ [])) ∙ h))
    ∙ ap ends (read_past p)
  where
    slash : Seen → Seen
    slash s = read s (47 ∷ [])

    stays : (s : Seen) → ends (step s true false) ≡ true → step s true false ≡ past
    stays none e = cc
    stays one e = cc
    stays two e = refl
    stays other e = cc
    stays past e = refl

    is_past : (s : Seen) → ends (step s true false) ≡ true → read none (d ++ 47 ∷ []) ≡ past
    is_past s e = read-append none d (47 ∷ []) ∙ stays (read none d) (ap ends (sym (read-append none d (47 ∷ []))) ∙ sym (by_reading (d ++ 47 ∷ [])) ∙ h)

-- ---- without the first byte

abbrev pub has_slash : List ℕ → Bool
has_slash p = list_any (λ b. b == 47) p

-- behind a slash it doesn't matter what was read before, where no component `..` is past
read_alike : (s t : Seen) (p : List ℕ) → ends (read s p) ≡ false → has_slash p ≡ true → (read t p ≡ read s p) ⊎ (read t p ≡ past)
read_alike s t [] h g = cc
read_alike s t (b ∷ p) h g = by (b == 47) refl h g (λ u v. read_alike u v p)
  where
    Goal : Bool → Type 0
    Goal x = (read (step t x (b == 46)) p ≡ read (step s x (b == 46)) p) ⊎ (read (step t x (b == 46)) p ≡ past)

    over : (u v : Seen) (dot : Bool) → ends (read (step u true dot) p) ≡ false
        → (read (step v true dot) p ≡ read (step u true dot) p) ⊎ (read (step v true dot) p ≡ past)
    over two v dot e = let bad : ends (read past p) ≡ true = ap ends (read_past p) in cc
    over past v dot e = let bad : ends (read past p) ≡ true = ap ends (read_past p) in cc
    over u two dot e = inr (read_past p)
    over u past dot e = inr (read_past p)
    over none none dot e = inl refl
    over none one dot e = inl refl
    over none other dot e = inl refl
    over one none dot e = inl refl
    over one one dot e = inl refl
    over one other dot e = inl refl
    over other none dot e = inl refl
    over other one dot e = inl refl
    over other other dot e = inl refl

    by : (x : Bool) → (b == 47) ≡ x → ends (read (step s (b == 47) (b == 46)) p) ≡ false → ((b == 47) || has_slash p) ≡ true
        → ((u v : Seen) → ends (read u p) ≡ false → has_slash p ≡ true → (read v p ≡ read u p) ⊎ (read v p ≡ past))
        → (read (step t (b == 47) (b == 46)) p ≡ read (step s (b == 47) (b == 46)) p) ⊎ (read (step t (b == 47) (b == 46)) p ≡ past)
    by true e h g rest = rw e (over s t (b == 46) (rw (← e) h))
    by false e h g rest = rest (step s (b == 47) (b == 46)) (step t (b == 47) (b == 46)) h (rw (← ap (λ x. x || has_slash p) e) g)

-- a component `..` at the end of a path with a slash before stays where the first byte goes
pub dots_behind : (c : ℕ) (p : List ℕ) (b : ℕ) → has_dot_dot (c ∷ p) ≡ false → has_slash (c ∷ p) ≡ true
    → has_dot_dot (c ∷ p ++ b ∷ []) ≡ true → has_dot_dot (p ++ b ∷ []) ≡ true
dots_behind c p b h g k = by (c == 47) refl g
  where
    first : Seen
    first = step none (c == 47) (c == 46)

    before : ends (read (step none (c == 47) (c == 46)) p) ≡ false
    before = sym (by_reading (c ∷ p)) ∙ h

    after : ends (read (step none (c == 47) (c == 46)) (p ++ b ∷ [])) ≡ true
    after = sym (by_reading (c ∷ p ++ b ∷ [])) ∙ k

    of : (read none p ≡ read (step none (c == 47) (c == 46)) p) ⊎ (read none p ≡ past) → has_dot_dot (p ++ b ∷ []) ≡ true
    of (inl e) =
        by_reading (p ++ b ∷ []) ∙ ap ends (read-append none p (b ∷ [])) ∙ ap (λ s. ends (read s (b ∷ []))) e
        ∙ ap ends (sym (read-append (step none (c == 47) (c == 46)) p (b ∷ []))) ∙ after
    of (inr e) =
        by_reading (p ++ b ∷ []) ∙ ap ends (read-append none p (b ∷ [])) ∙ ap (λ s. ends (read s (b ∷ []))) e

    by : (x : Bool) → (c == 47) ≡ x → ((c == 47) || has_slash p) ≡ true → has_dot_dot (p ++ b ∷ []) ≡ true
    by true e g = by_reading (p ++ b ∷ []) ∙ ap (λ x. ends (read (step none x (c == 46)) (p ++ b ∷ []))) (sym e) ∙ after
    by false e g = of (read_alike (step none (c == 47) (c == 46)) none p before (rw (← ap (λ x. x || has_slash p) e) g))
