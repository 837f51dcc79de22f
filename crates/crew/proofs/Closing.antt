-- What a loop makes of a list, one element after another.
-- What is left to do, put behind what was done, is all: by the library's lemmas on lists.
use Rattle.std.proofs.Common.{◌≡◌, ◌<◌, List, [], ◌∷◌, ◌++◌, length, get_or, map, All, sym, ap, ◌∙◌, arith, append_assoc}
use Rattle.std.proofs.lemmas.List.{append-nil, map-append}
use Rattle.std.proofs.lemmas.List.Elements.{All-tail}
use Rattle.std.specs.List.{remove}
use Rattle.turn_lock.specs.Facts.{LockFacts, PassFacts, first_pass}
use Rattle.crew.specs.Locks.{AreOf, Key, key, key_of_pass}

-- the next element was done: what is read of it is what is read of what was made
pub one-made : {X Y Z : Type 0} (f : X → Z) (h : Y → Z) (done : List Y) (y : Y) (x : X) (left all : List X) → map h done ++ map f left ≡ map f all → 0 < length left → x ≡ get_or left 0 x → h y ≡ f x
    → map h (done ++ y ∷ []) ++ map f (remove left 0) ≡ map f all
one-made f h done y x [] all e lt first is = absurd (omega arith)
one-made {X} {Y} {Z} f h done y x (d ∷ left) all e lt first is =
    ap (λ (zs : List Z). zs ++ map f left) (map-append h done (y ∷ [])) ∙ append_assoc (map h done) (h y ∷ []) (map f left) ∙ ap (λ (z : Z). map h done ++ z ∷ map f left) (is ∙ ap f first) ∙ e

-- nothing is left
pub all-made : {X Y Z : Type 0} (f : X → Z) (h : Y → Z) (done : List Y) (left all : List X) → map h done ++ map f left ≡ map f all → length left ≡ 0 → map h done ≡ map f all
all-made f h done [] all e none = sym (append-nil (map h done)) ∙ e
all-made f h done (d ∷ left) all e none = absurd (omega arith)

-- the next lock's first pass
pub one-owned : (ls : List LockFacts) (ps : List PassFacts) (l : LockFacts) (p : PassFacts) → AreOf ls ps → p ≡ first_pass l → AreOf (ls ++ l ∷ []) (ps ++ p ∷ [])
one-owned ls ps l p own first =
    map-append key_of_pass ps (p ∷ []) ∙ ap (λ (ks : List Key). ks ++ key_of_pass p ∷ []) own ∙ ap (λ (q : PassFacts). map key ls ++ key_of_pass q ∷ []) first ∙ sym (map-append key ls (l ∷ []))

-- ---- what is left behind the first

pub others-owned : (ls : List LockFacts) (ps : List PassFacts) → AreOf ls ps → AreOf (remove ls 0) (remove ps 0)
others-owned [] [] own = own
others-owned [] (q ∷ qs) own = cc
others-owned (m ∷ ls) [] own = cc
others-owned (m ∷ ls) (q ∷ qs) own = cc

pub others-are : {X : Type 0} (P : X → Type 0) (ps : List X) → All P ps → All P (remove ps 0)
others-are P [] h = h
others-are P (q ∷ qs) h = All-tail P q qs h
