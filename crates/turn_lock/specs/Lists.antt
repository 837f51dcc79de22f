-- Histories that begin with others, and the places of events. A history lists its events the newest first,
-- so what it begins with is its tail.
use Rattle.std.specs.Prelude.{◌≡◌, ℕ, ◌+◌, ◌<◌, ◌≤◌, List, [], ◌∷◌, ◌++◌, length, ltb, eqb, cond}
use Rattle.hist_model.specs.declared.event.Event.{Event}

-- h begins with k, and may have more
abbrev pub Begins : List Event → List Event → Type 0
Begins h k = (more : List Event) × (h ≡ more ++ k)

abbrev pub longer : List Event → List Event → List Event
longer a b = cond (ltb (length a) (length b)) b a

abbrev pub shorter : List Event → List Event → List Event
shorter a b = cond (ltb (length a) (length b)) a b

-- the places, counted from 0, of these events behind the first n of a history; the newest first
abbrev pub places_of : List Event → ℕ → List ℕ
places_of [] n = []
places_of (e ∷ more) n = (length more + n) ∷ places_of more n

abbrev pub is_at : ℕ → ℕ → ℕ
is_at x p = cond (eqb x p) 1 0

-- how often p stands in a list
abbrev pub times : ℕ → List ℕ → ℕ
times p [] = 0
times p (x ∷ xs) = is_at x p + times p xs

-- of the place p: n is 1 from start on and below end, and 0 elsewhere
abbrev pub OnceFrom : ℕ → ℕ → ℕ → ℕ → Type 0
OnceFrom start end p n = (start ≤ p → p < end → n ≡ 1) × (p < start → n ≡ 0) × (end ≤ p → n ≡ 0)
