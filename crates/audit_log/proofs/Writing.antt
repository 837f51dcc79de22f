-- What writers did to a sink, one after another, also where their lines are gathered before they are written.
-- By cases on the later writer's result, by induction on the later events, and by the laws of appended, taken and reversed lists.
use Rattle.std.proofs.Common.{◌≡◌, ℕ, ◌+◌, ◌<◌, ◌≤◌, List, [], ◌∷◌, ◌++◌, length, take, drop, reverse, get_or, Result, Ok, Err, refl, sym, ap, subst, ◌∙◌, append_assoc, append-nil, arith}
use Rattle.std.specs.List.{flat_map}
use Rattle.std.proofs.lemmas.List.{reverse-append, take_all, take_more, take-append-le, take-append-drop, length-append}
use Rattle.std.proofs.Math.Seq.{take-append-add}
use Rattle.hist_model.proofs.Scans.{past_more}
use Rattle.std.proofs.lemmas.Grind.{common_steps, flat_map-append}
use Rattle.io_edge.specs.SinkState.{SinkState, AddsPrefix}
use Rattle.hist_model.specs.declared.event.Event.{Event}
use Rattle.hist_model.specs.ReportJournal.{lines_of}
use Rattle.audit_log.specs.Written.{Gathered, Wrote}
use Rattle.audit_log.specs.declared.error.ReportError.{ReportError}
use Rattle.audit_log.specs.declared.error.ReportError.TheVariants.{NoMemory}

-- nothing is a prefix
pub adds_nothing : (old text : List ℕ) → AddsPrefix old text old
adds_nothing old text = (0, omega arith, grind (arith, common_steps))

-- a prefix is one of what goes on
pub adds_front : (old a b new : List ℕ) → AddsPrefix old a new → AddsPrefix old (a ++ b) new
adds_front old a b new (n, le, is) = (n, omega (arith, length-append a b), is ∙ ap (λ xs. old ++ xs) (sym (take-append-le n a b le)))

-- and so is a prefix of what comes after the whole
pub adds_after : (old a b mid new : List ℕ) → mid ≡ old ++ a → AddsPrefix mid b new → AddsPrefix old (a ++ b) new
adds_after old a b mid new whole (n, le, is) = (
  length a + n,
  omega (arith, length-append a b),
  is ∙ ap (λ xs. xs ++ take n b) whole ∙ append_assoc old a (take n b) ∙ ap (λ xs. old ++ xs) (sym (take-append-add a b n)),
)

pub wrote_nothing : (s : SinkState) → Wrote s [] (Ok tt) s
wrote_nothing s = record { tells = refl; faults = omega arith; cause = λ p. cc; whole = λ t. sym (append-nil s.taken); part = tt }

pub wrote_more : (old mid new : SinkState) (a b : List ℕ) (r : Result (Unit {0}) ReportError) → Wrote old a (Ok tt) mid → Wrote mid b r new → Wrote old (a ++ b) r new
wrote_more old mid new a b (Ok u) f g = record {
  tells = g.tells ∙ f.tells;
  faults = omega arith;
  cause = λ p. cc;
  whole = λ t. g.whole (f.tells ∙ t) ∙ ap (λ xs. xs ++ b) (f.whole t) ∙ append_assoc old.taken a b;
  part = tt;
}
wrote_more old mid new a b (Err e) f g = record {
  tells = g.tells ∙ f.tells;
  faults = omega arith;
  cause = λ p l. let rose = g.cause p l in omega arith;
  whole = tt;
  part = λ t. adds_after old.taken a b mid.taken new.taken (f.whole t) (g.part (f.tells ∙ t));
}

pub wrote_front : (old new : SinkState) (a b : List ℕ) (e : ReportError) → Wrote old a (Err e) new → Wrote old (a ++ b) (Err e) new
wrote_front old new a b e f = record {
  tells = f.tells;
  faults = f.faults;
  cause = f.cause;
  whole = tt;
  part = λ t. adds_front old.taken a b new.taken (f.part t);
}

lines-more : (f : List Event → Event → List ℕ) (xs : List Event) (i : ℕ) (d : Event) → i < length xs
    → lines_of f (reverse (take (i + 1) xs)) ≡ lines_of f (reverse (take i xs)) ++ f (reverse (take i xs)) (get_or xs i d)
unfolding lines_of
lines-more f xs i d l = rw (past_more xs i d l) refl

-- the lines of later events come after those of the earlier ones
lines_grow : (f : List Event → Event → List ℕ) (later K : List Event) → (r : List ℕ) × (lines_of f (later ++ K) ≡ lines_of f K ++ r)
unfolding lines_of
lines_grow f [] K = ([], sym (append-nil (lines_of f K)))
lines_grow f (e ∷ later) K =
    let (r, q) = lines_grow f later K in
    (r ++ f (later ++ K) e, ap (λ xs. xs ++ f (later ++ K) e) q ∙ append_assoc (lines_of f K) r (f (later ++ K) e))

-- the lines of all events
pub lines_rest : (f : List Event → Event → List ℕ) (xs : List Event) (i : ℕ) → (r : List ℕ) × (lines_of f (reverse xs) ≡ lines_of f (reverse (take i xs)) ++ r)
lines_rest f xs i =
    let (r, q) = lines_grow f (reverse (drop i xs)) (reverse (take i xs)) in
    let e : reverse xs ≡ reverse (drop i xs) ++ reverse (take i xs) = ap reverse (sym (take-append-drop i xs)) ∙ reverse-append (take i xs) (drop i xs) in
    (r, ap (lines_of f) e ∙ q)

-- the line of one more event
pub lines_next : (f : List Event → Event → List ℕ) (xs : List Event) (i : ℕ) (e : Event) → i < length xs → e ≡ get_or xs i e
    → lines_of f (reverse (take (i + 1) xs)) ≡ lines_of f (reverse (take i xs)) ++ f (reverse (take i xs)) e
lines_next f xs i e l is = lines-more f xs i e l ∙ ap (λ x. lines_of f (reverse (take i xs)) ++ f (reverse (take i xs)) x) (sym is)

pub lines_whole : (f : List Event → Event → List ℕ) (xs : List Event) (i : ℕ) → length xs ≤ i → lines_of f (reverse (take i xs)) ≡ lines_of f (reverse xs)
lines_whole f xs i l = ap (λ ys. lines_of f (reverse ys)) (take_all i xs l)

-- a part that failed ends what it is a part of
pub wrote_stopped : (old new : SinkState) (a b : List ℕ) (e : ReportError) (r : Result (Unit {0}) ReportError) → r ≡ Err e → Wrote old a (Err e) new → Wrote old (a ++ b) r new
wrote_stopped old new a b e r is w = rw is (wrote_front old new a b e w)

-- ---- Lines that are gathered

-- nothing was written for want of memory
wrote-lost : (s : SinkState) (text : List ℕ) → Wrote s text (Err NoMemory) s
wrote-lost s text = record { tells = refl; faults = omega arith; cause = λ p. cc; whole = tt; part = λ t. adds_nothing s.taken text }

pub none_gathered : (s : SinkState) (kept : List ℕ) → kept ≡ [] → Gathered s [] kept s
none_gathered s kept q = record { front = []; whole = sym q; wrote = wrote_nothing s }

pub no_lines_gathered : (f : List Event → Event → List ℕ) (s : SinkState) (kept : List ℕ) → kept ≡ [] → Gathered s (lines_of f []) kept s
unfolding lines_of
no_lines_gathered f s kept q = none_gathered s kept q

-- nothing may be written yet of what is kept
pub all_kept : (s : SinkState) (text : List ℕ) → Gathered s text text s
all_kept s text = record { front = []; whole = refl; wrote = wrote_nothing s }

-- all of it may be written
pub none_kept : (old new : SinkState) (text kept : List ℕ) → kept ≡ [] → Wrote old text (Ok tt) new → Gathered old text kept new
none_kept old new text kept q w = record { front = text; whole = sym (ap (λ xs. text ++ xs) q ∙ append-nil text); wrote = w }

-- with one more line, which is kept
gathered-line : (old new : SinkState) (text kept line more : List ℕ) → Gathered old text kept new → more ≡ kept ++ line → Gathered old (text ++ line) more new
gathered-line old new text kept line more g m = record {
  front = g.front;
  whole = ap (λ xs. xs ++ line) g.whole ∙ append_assoc g.front kept line ∙ ap (λ xs. g.front ++ xs) (sym m);
  wrote = g.wrote;
}

-- what was kept is written
pub gathered_whole : (old mid new : SinkState) (text kept : List ℕ) (r : Result (Unit {0}) ReportError) → Gathered old text kept mid → Wrote mid kept r new → Wrote old text r new
gathered_whole old mid new text kept r g w = subst (λ xs. Wrote old xs r new) (sym g.whole) (wrote_more old mid new g.front kept r g.wrote w)

-- one more line was gathered, and what was kept may be written
pub gathered_more : (old mid new : SinkState) (text next kept line more rest : List ℕ) → Gathered old text kept mid → more ≡ kept ++ line → next ≡ text ++ line
    → Gathered mid more rest new → Gathered old next rest new
gathered_more old mid new text next kept line more rest g m n h =
    let one = gathered-line old mid text kept line more g m in
    record {
      front = one.front ++ h.front;
      whole = n ∙ one.whole ∙ ap (λ xs. one.front ++ xs) h.whole ∙ sym (append_assoc one.front h.front rest);
      wrote = wrote_more old mid new one.front h.front (Ok tt) one.wrote h.wrote;
    }

-- one more line was gathered, and what was kept couldn't be written
pub gathered_failed : (old mid new : SinkState) (text next whole kept line more rest : List ℕ) (e : ReportError) → Gathered old text kept mid → more ≡ kept ++ line
    → next ≡ text ++ line → whole ≡ next ++ rest → Wrote mid more (Err e) new → Wrote old whole (Err e) new
gathered_failed old mid new text next whole kept line more rest e g m n w f =
    let one = gathered_whole old mid new (text ++ line) more (Err e) (gathered-line old mid text kept line more g m) f in
    subst (λ xs. Wrote old xs (Err e) new) (sym (w ∙ ap (λ xs. xs ++ rest) n)) (wrote_front old new (text ++ line) rest e one)

-- there was no memory for one more line
pub gathered_lost : (old new : SinkState) (text whole kept rest : List ℕ) → Gathered old text kept new → whole ≡ text ++ rest → Wrote old whole (Err NoMemory) new
gathered_lost old new text whole kept rest g w =
    subst (λ xs. Wrote old xs (Err NoMemory) new) (sym w) (wrote_front old new text rest NoMemory (gathered_whole old new new text kept (Err NoMemory) g (wrote-lost new kept)))

-- ---- The lines of rows

pub flat_more : {A : Type 0} (f : A → List ℕ) (xs : List A) (i : ℕ) (x : A) → i < length xs → x ≡ get_or xs i x → flat_map f (take (i + 1) xs) ≡ flat_map f (take i xs) ++ f x
flat_more f xs i x l is =
    let m : take (i + 1) xs ≡ take i xs ++ get_or xs i x ∷ [] = take_more xs i x l in
    ap (flat_map f) m ∙ flat_map-append f (take i xs) (get_or xs i x ∷ []) ∙ ap (λ ys. flat_map f (take i xs) ++ ys) (append-nil (f (get_or xs i x)) ∙ ap f (sym is))

pub flat_rest : {A : Type 0} (f : A → List ℕ) (xs : List A) (i : ℕ) → flat_map f xs ≡ flat_map f (take i xs) ++ flat_map f (drop i xs)
flat_rest f xs i = ap (flat_map f) (sym (take-append-drop i xs)) ∙ flat_map-append f (take i xs) (drop i xs)

pub flat_whole : {A : Type 0} (f : A → List ℕ) (xs : List A) (i : ℕ) → length xs ≤ i → flat_map f (take i xs) ≡ flat_map f xs
flat_whole f xs i l = ap (flat_map f) (take_all i xs l)
