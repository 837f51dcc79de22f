-- Lists of locks and of their passes, as a loop reads, replaces, adds or takes one.
-- By the library's lemmas on lists: what is said of each element is said of the whole.
use Rattle.std.proofs.Common.{◌≡◌, ℕ, ◌+◌, ◌<◌, ◌≤◌, List, [], ◌∷◌, ◌++◌, length, get_or, set, take, drop, map, All, Option, refl, sym, ap, ◌∙◌, arith, subst}
use Rattle.std.proofs.lemmas.List.{drop-set-lt, drop_more, get_or-map, length-map, map-append, take_all, take_more, take_more_set}
use Rattle.std.proofs.lemmas.List.Elements.{All-cons, All-get_or, All-head, All-nil, All-push, All-rest, All-tail}
use Rattle.std.proofs.Math.Seq.{map-set_same}
use Rattle.std.specs.List.{remove}
use Rattle.hist_model.specs.declared.history.Setup.{Setup}
use Rattle.turn_lock.specs.Facts.{IsPassOf, LockFacts, PassFacts, joined_with, split_from}
use Rattle.crew.specs.Duties.{MayServe, Takes}
use Rattle.crew.specs.Locks.{Admits, AreOf, IsFirst, Key, key, key_of_pass, setup_of}
use Rattle.crew.specs.declared.duty.Crew.{Crew}
use Rattle.crew.specs.declared.duty.Duty.{Duty}

-- what is said of each element of a list is said of one at a place of the same list
pub each-is : {X : Type 0} (P : X → Type 0) (xs ys : List X) → All P xs → ys ≡ xs → (i : ℕ) (x : X) → i < length ys → x ≡ get_or ys i x → P x
each-is P xs ys h e i x lt is = subst P (sym is) (All-get_or P ys i x lt (subst (All P) (sym e) h))

-- a pass of the lock has its key, and a pass with its key is the lock's
same-key : (l : LockFacts) (p : PassFacts) → IsPassOf l p → key_of_pass p ≡ key l
same-key l p h = rw (h.0, h.1) refl

is-of : (l : LockFacts) (p : PassFacts) → key_of_pass p ≡ key l → IsPassOf l p
is-of l p h = (ap (λ (k : Key). k.0) h, ap (λ (k : Key). k.1) h)

pub same-number : (ls : List LockFacts) (ps : List PassFacts) → AreOf ls ps → length ps ≡ length ls
same-number ls ps own = sym (length-map ps key_of_pass) ∙ ap length own ∙ length-map ls key

-- ---- the pass at a place

module _ (ls : List LockFacts) (i : ℕ) (l : LockFacts) (lt : i < length ls) (is : l ≡ get_or ls i l) where
  -- the key of the lock that is there
  key-here : get_or (map key ls) i (key l) ≡ key l
  key-here = get_or-map key ls i l (key l) lt ∙ ap key (sym is)

  keys-there : i < length (map key ls)
  keys-there = subst (λ (n : ℕ). i < n) (sym (length-map ls key)) lt

  module _ (ps : List PassFacts) (own : AreOf ls ps) where
    there : i < length ps
    there = subst (λ (n : ℕ). i < n) (sym (same-number ls ps own)) lt

    -- where it is the lock's at the place, in lists of both
    pub pass-at : (p : PassFacts) → p ≡ get_or ps i p → IsPassOf l p
    pass-at p here = is-of l p (ap key_of_pass here ∙ sym (get_or-map key_of_pass ps i p (key l) there) ∙ ap (λ (ks : List Key). get_or ks i (key l)) own ∙ key-here)

    -- a pass of the same lock may stand there in its place
    pub replaced : (p q : PassFacts) → p ≡ get_or ps i p → IsPassOf l q → AreOf ls (set ps i q)
    replaced p q here of = map-set_same key_of_pass ps i q p (same-key l q of ∙ sym (same-key l p (pass-at p here)) ∙ ap key_of_pass here) ∙ own

  -- one more pass, of the lock that is there
  pub pass-more : (ps : List PassFacts) (p : PassFacts) → map key_of_pass ps ≡ take i (map key ls) → IsPassOf l p → map key_of_pass (ps ++ p ∷ []) ≡ take (i + 1) (map key ls)
  pass-more ps p h of =
      map-append key_of_pass ps (p ∷ []) ∙ ap (λ (ks : List Key). ks ++ key_of_pass p ∷ []) h ∙ ap (λ (k : Key). take i (map key ls) ++ k ∷ []) (same-key l p of ∙ sym key-here)
      ∙ sym (take_more (map key ls) i (key l) keys-there)

  -- the passes from there on, of which the first is the lock's that is there
  pub some-left : (ps : List PassFacts) → map key_of_pass ps ≡ drop i (map key ls) → 0 < length ps
  some-left [] h = let none : [] ≡ get_or (map key ls) i (key l) ∷ drop (i + 1) (map key ls) = h ∙ drop_more (map key ls) i (key l) keys-there in cc
  some-left (q ∷ qs) h = omega arith

  pub next-pass : (ps : List PassFacts) (p : PassFacts) → map key_of_pass ps ≡ drop i (map key ls) → p ≡ get_or ps 0 p → IsPassOf l p
  next-pass [] p h first = let lt = some-left [] h in absurd (omega arith)
  next-pass (q ∷ qs) p h first =
      let both : key_of_pass q ∷ map key_of_pass qs ≡ get_or (map key ls) i (key l) ∷ drop (i + 1) (map key ls) = h ∙ drop_more (map key ls) i (key l) keys-there in
      let same : key_of_pass q ≡ get_or (map key ls) i (key l) = cc in
      is-of l p (ap key_of_pass first ∙ same ∙ key-here)

  pub pass-less : (ps : List PassFacts) → map key_of_pass ps ≡ drop i (map key ls) → map key_of_pass (remove ps 0) ≡ drop (i + 1) (map key ls)
  pass-less [] h = let lt = some-left [] h in absurd (omega arith)
  pass-less (q ∷ qs) h =
      let both : key_of_pass q ∷ map key_of_pass qs ≡ get_or (map key ls) i (key l) ∷ drop (i + 1) (map key ls) = h ∙ drop_more (map key ls) i (key l) keys-there in
      cc

-- ---- how many are out

-- of the first i passes m others are out, and of those from there on n
abbrev pub Outs : ℕ → ℕ → ℕ → List PassFacts → Type 0
Outs m n i ps = All (IsFirst m) (take i ps) × All (IsFirst n) (drop i ps)

-- what is said of the passes from i on is said of the one there, and of those behind it, whatever that one becomes
pub at-here : (P : PassFacts → Type 0) (i : ℕ) (ps : List PassFacts) (p : PassFacts) → i < length ps → p ≡ get_or ps i p → All P (drop i ps) → P p
at-here P i ps p lt here h = subst P (sym here) (All-head P (get_or ps i p) (drop (i + 1) ps) (subst (All P) (drop_more ps i p lt) h))

pub at-others : (P : PassFacts → Type 0) (i : ℕ) (ps : List PassFacts) (q : PassFacts) → i < length ps → All P (drop i ps) → All P (drop (i + 1) (set ps i q))
at-others P i ps q lt h = subst (All P) (sym (drop-set-lt (i + 1) ps i q (omega arith))) (All-rest P (get_or ps i q) (drop (i + 1) ps) (drop i ps) (drop_more ps i q lt) h)

pub out-more : (m n i : ℕ) (ps : List PassFacts) (q : PassFacts) → i < length ps → IsFirst m q → Outs m n i ps → Outs m n (i + 1) (set ps i q)
out-more m n i ps q lt o h = (subst (All (IsFirst m)) (sym (take_more_set ps i q lt)) (All-push (IsFirst m) (take i ps) q h.0 o), at-others (IsFirst n) i ps q lt h.1)

pub out-all : (m n i : ℕ) (ps : List PassFacts) → length ps ≤ i → Outs m n i ps → All (IsFirst m) ps
out-all m n i ps l h = subst (All (IsFirst m)) (take_all i ps l) h.0

-- a first pass from which one more was split, and one to which one was joined
pub split-first : (n : ℕ) (p q : PassFacts) → q ≡ split_from p → IsFirst n p → IsFirst (n + 1) q
split-first n p q e h = subst (IsFirst (n + 1)) (sym e) (h.0, ap (λ (m : ℕ). m + 1) h.1)

pub join-first : (n : ℕ) (p r q : PassFacts) → q ≡ joined_with p r → IsFirst (n + 1) p → IsFirst n q
join-first n p r q e h = let out = h.1 in subst (IsFirst n) (sym e) (h.0, omega arith)

-- ---- limits

-- where a hand is admitted by each lock, it may serve in a turn of the one at a place, as its pass finds the state
pub may-at : (worker : Option ℕ) (ls : List LockFacts) (i : ℕ) (l : LockFacts) (p : PassFacts) (made : Setup) → All (Admits worker) ls → i < length ls → l ≡ get_or ls i l → IsPassOf l p → made ≡ p.setup → MayServe made.limit worker
may-at worker ls i l p made admits lt is of found =
    subst (λ (m : Setup). MayServe m.limit worker) (sym (found ∙ of.1)) (subst (Admits worker) (sym is) (All-get_or (Admits worker) ls i l lt admits))

-- each lock admits the calling thread of a crew that may serve behind all, and each other one
pub calling-may : (crew : Crew) (ls : List LockFacts) → All (Takes crew) (map setup_of ls) → All (Admits crew.calling.worker) ls
calling-may crew [] h = All-nil (Admits crew.calling.worker)
calling-may crew (l ∷ ls) h =
    All-cons (Admits crew.calling.worker) l ls (All-head (Takes crew) l.setup (map setup_of ls) h).0 (calling-may crew ls (All-tail (Takes crew) l.setup (map setup_of ls) h))

pub other-may : (crew : Crew) (ls : List LockFacts) (i : ℕ) (d : Duty) → All (Takes crew) (map setup_of ls) → i < length crew.others.items → d ≡ get_or crew.others.items i d → All (Admits d.worker) ls
other-may crew [] i d h lt is = All-nil (Admits d.worker)
other-may crew (l ∷ ls) i d h lt is =
    All-cons (Admits d.worker) l ls
    (subst (λ (e : Duty). Admits e.worker l) (sym is) (All-get_or (λ (e : Duty). MayServe l.setup.limit e.worker) crew.others.items i d lt (All-head (Takes crew) l.setup (map setup_of ls) h).1))
    (other-may crew ls i d (All-tail (Takes crew) l.setup (map setup_of ls) h) lt is)
