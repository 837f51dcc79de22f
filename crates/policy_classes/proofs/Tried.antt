-- Candidates that are tried, byte by byte and text by text.
-- By the laws of the least of values that are joined; a text that is longer than another doesn't come before it.
use Rattle.std.proofs.Common.{◌≡◌, ℕ, ◌+◌, ◌<◌, ◌≤◌, Bool, true, false, ◌&&◌, cond, List, [], ◌∷◌, ◌++◌, append-nil, append_assoc, length, length-append, map, take, get_or, Option, Some, None, refl, ap, sym, ◌∙◌, arith}
use Rattle.std.specs.List.{filter, flat_map}
use Rattle.std.proofs.lemmas.Bool.{le-ltb, ne_eqb}
use Rattle.std.proofs.lemmas.List.{take_all, take_more}
use Rattle.std.proofs.lemmas.List.FromFn.{get_or-range_with_len, length-range_with_len}
use Rattle.policy_classes.specs.declared.fresh.Group.{Group}
use Rattle.policy_classes.specs.Fresh.{all_bytes, asked_at, candidates, least, lesser, start_at, with_byte, with_bytes}
use Rattle.policy_classes.specs.Groups.{accepts, least_of}
use Rattle.policy_classes.specs.Order.{comes_before}
use Rattle.policy_classes.proofs.Framed.{map_push}
use Rattle.policy_classes.proofs.Gathered.{filter-append, flat_map-append}

least-append : {A : Type 0} (before : A → A → Bool) (accepts : A → Bool) (best : Option A) (xs ys : List A)
    → least before accepts best (xs ++ ys) ≡ least before accepts (least before accepts best xs) ys
least-append before accepts best [] ys = refl
least-append before accepts best (x ∷ xs) ys = least-append before accepts (lesser before accepts best x) xs ys

-- the values of one more element are tried
pub one_more_tried : {A B : Type 0} (before : A → A → Bool) (accepts : A → Bool) (make : B → List A) (xs : List B) (i : ℕ) (d : B) (start found more : Option A)
    → i < length xs → found ≡ least before accepts start (flat_map make (take i xs)) → more ≡ least before accepts found (make (get_or xs i d))
    → more ≡ least before accepts start (flat_map make (take (i + 1) xs))
one_more_tried before accepts make xs i d start found more l was tried =
    tried ∙ ap (λ o. least before accepts o (make (get_or xs i d))) was
    ∙ sym (least-append before accepts start (flat_map make (take i xs)) (make (get_or xs i d)))
    ∙ ap (least before accepts start) (ap (λ ys. flat_map make (take i xs) ++ ys) (single (make (get_or xs i d))) ∙ sym (flat_map-append make (take i xs) (get_or xs i d ∷ [])))
    ∙ ap (λ ys. least before accepts start (flat_map make ys)) (sym (take_more xs i d l))
  where
    single : {B : Type 0} (ys : List B) → ys ≡ ys ++ []
    single [] = refl
    single (y ∷ ys) = ap (λ zs. y ∷ zs) (single ys)

-- ---- longer texts

not_shorter : (t u : List ℕ) → length u < length t → comes_before t u ≡ false
not_shorter t u l = rw (le-ltb (length t) (length u) (omega arith), ne_eqb (length t) (length u) (omega arith)) refl

passed : (g : Group) (u t : List ℕ) → length u < length t → lesser comes_before (accepts g) (Some u) t ≡ Some u
passed g u t l = by (accepts g t) (comes_before t u) (not_shorter t u l)
  where
    by : (a b : Bool) → b ≡ false → cond (a && b) (Some t) (Some u) ≡ Some u
    by true true h = cc
    by true false h = refl
    by false b h = refl

all_passed : (g : Group) (u t : List ℕ) (bytes : List ℕ) → length u ≤ length t → least_of g (Some u) (flat_map (with_byte t) bytes) ≡ Some u
all_passed g u t [] l = refl
all_passed g u t (b ∷ bytes) l =
    ap (λ o. least comes_before (accepts g) o ((t ++ 46 ∷ b ∷ []) ∷ (b ∷ t) ∷ flat_map (with_byte t) bytes))
    (passed g u (t ++ b ∷ []) (rw length-append (omega arith)))
    ∙ ap (λ o. least comes_before (accepts g) o ((b ∷ t) ∷ flat_map (with_byte t) bytes)) (passed g u (t ++ 46 ∷ b ∷ []) (rw length-append (omega arith)))
    ∙ ap (λ o. least comes_before (accepts g) o (flat_map (with_byte t) bytes)) (passed g u (b ∷ t) (omega arith))
    ∙ all_passed g u t bytes l

pub shorter_stays : (g : Group) (u t : List ℕ) → length u ≤ length t → Some u ≡ least_of g (Some u) (with_bytes t)
shorter_stays g u t l = sym (all_passed g u t all_bytes l)

-- ---- the texts for which atoms ask

-- one that is there is tried, and another isn't
pub one_more_source : (g : Group) (test : List ℕ → Bool) (asked : List (List ℕ)) (i : ℕ) (d : List ℕ) (start found more : Option (List ℕ)) → i < length asked
    → found ≡ least_of g start (flat_map with_bytes (filter test (take i asked)))
    → more ≡ least_of g found (flat_map with_bytes (filter test (get_or asked i d ∷ [])))
    → more ≡ least_of g start (flat_map with_bytes (filter test (take (i + 1) asked)))
one_more_source g test asked i d start found more l was tried =
    tried ∙ ap (λ o. least_of g o (flat_map with_bytes (filter test (get_or asked i d ∷ [])))) was
    ∙ sym (least-append comes_before (accepts g) start (flat_map with_bytes (filter test (take i asked))) (flat_map with_bytes (filter test (get_or asked i d ∷ []))))
    ∙ ap (least_of g start) (sym (flat_map-append with_bytes (filter test (take i asked)) (filter test (get_or asked i d ∷ []))))
    ∙ ap (λ ys. least_of g start (flat_map with_bytes ys)) (sym (filter-append test (take i asked) (get_or asked i d ∷ [])))
    ∙ ap (λ ys. least_of g start (flat_map with_bytes (filter test ys))) (sym (take_more asked i d l))

-- a text that is there is tried, and one that isn't changes nothing
pub source_tried : (g : Group) (test : List ℕ → Bool) (t : List ℕ) (best : Option (List ℕ)) → test t ≡ true
    → least_of g best (with_bytes t) ≡ least_of g best (flat_map with_bytes (filter test (t ∷ [])))
source_tried g test t best h = rw h (ap (least_of g best) (sym (append-nil (with_bytes t))))

pub source_left : (g : Group) (test : List ℕ → Bool) (t : List ℕ) (best : Option (List ℕ)) → test t ≡ false
    → best ≡ least_of g best (flat_map with_bytes (filter test (t ∷ [])))
source_left g test t best h = rw h refl

-- the bytes so far, and one more
pub bytes_more : (g : Group) (t : List ℕ) (k : ℕ) (start found more : Option (List ℕ)) → k < 256 → found ≡ least_of g start (flat_map (with_byte t) (take k all_bytes))
    → more ≡ least_of g found (with_byte t k) → more ≡ least_of g start (flat_map (with_byte t) (take (k + 1) all_bytes))
unfolding all_bytes
bytes_more g t k start found more l was tried =
    one_more_tried comes_before (accepts g) (with_byte t) all_bytes k 0 start found more (rw length-range_with_len l) was
    (tried ∙ ap (λ b. least_of g found (with_byte t b)) (sym (get_or-range_with_len 0 256 k 0 l ∙ omega arith)))

pub bytes_all : (g : Group) (t : List ℕ) (k : ℕ) (start found : Option (List ℕ)) → 256 ≤ k → found ≡ least_of g start (flat_map (with_byte t) (take k all_bytes))
    → found ≡ least_of g start (with_bytes t)
unfolding all_bytes
bytes_all g t k start found l was = was ∙ ap (λ bs. least_of g start (flat_map (with_byte t) bs)) (take_all k all_bytes (rw length-range_with_len l))

-- the shortest text, those that it makes, and those that the others make
pub candidates_tried : (g : Group) (asked : List (List ℕ)) (at : Option (List ℕ)) (start : List ℕ) (one two three : Option (List ℕ)) → start ≡ start_at at
    → one ≡ lesser comes_before (accepts g) None start → two ≡ least_of g one (with_bytes start)
    → three ≡ least_of g two (flat_map with_bytes (asked_at at asked)) → three ≡ least_of g None (candidates asked at)
candidates_tried g asked at start one two three s e f h =
    h ∙ ap (λ o. least_of g o (flat_map with_bytes (asked_at at asked))) (f ∙ ap (λ o. least_of g o (with_bytes start)) e)
    ∙ sym (least-append comes_before (accepts g) (lesser comes_before (accepts g) None start) (with_bytes start) (flat_map with_bytes (asked_at at asked)))
    ∙ ap (λ t. least_of g None (t ∷ (with_bytes t ++ flat_map with_bytes (asked_at at asked)))) s

-- one more value of those that are made of a list is tried, behind some first ones
pub one_more_least : {A B : Type 0} (before : A → A → Bool) (accepts : A → Bool) (first : List A) (make : B → A) (xs : List B) (i : ℕ) (d x : B) (found more : Option A)
    → i < length xs → x ≡ get_or xs i d → found ≡ least before accepts None (first ++ map make (take i xs)) → more ≡ lesser before accepts found (make x)
    → more ≡ least before accepts None (first ++ map make (take (i + 1) xs))
one_more_least before accepts first make xs i d x found more l is was tried =
    tried ∙ ap (λ y. lesser before accepts found (make y)) is ∙ ap (λ o. lesser before accepts o (make (get_or xs i d))) was
    ∙ sym (least-append before accepts None (first ++ map make (take i xs)) (make (get_or xs i d) ∷ []))
    ∙ ap (least before accepts None) (append_assoc first (map make (take i xs)) (make (get_or xs i d) ∷ []) ∙ ap (λ ys. first ++ ys) (sym (map_push make (take i xs) (get_or xs i d))))
    ∙ ap (λ ys. least before accepts None (first ++ map make ys)) (sym (take_more xs i d l))
