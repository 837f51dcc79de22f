-- What a step that is no effect, and leaves the tree as it is, changes of what is out of sight: nothing.
-- By induction on the events: each mark is of one of them, whose place is the same with an event more.
use Rattle.std.proofs.Common.{◌≡◌, ℕ, ◌<◌, ◌≤◌, ◌==◌, Bool, false, List, [], ◌∷◌, ◌++◌, length, map, filter, Option, Some, None, refl, sym, ap, ap₂, ◌∙◌, append-nil, arith}
use Rattle.std.proofs.lemmas.Bool.{ne_eqb}
use Rattle.std.proofs.lemmas.List.{map-append}
use Rattle.std.proofs.lemmas.List.Elements.{filter-append}
use Rattle.hist_model.proofs.Look.{event_at-above}
use Rattle.hist_model.specs.Legal.{tree}
use Rattle.hist_model.specs.Look.{event_at}
use Rattle.hist_model.specs.Trees.{Tree}
use Rattle.hist_model.specs.declared.event.Event.{Event}
use Rattle.hist_model.specs.declared.script.Script.{Script}
use Rattle.outcome_text.specs.Sight.{done_on, hidden, hidden_among, is_hidden_at, marked, marks}
use Rattle.outcome_text.specs.declared.mark.Mark.{Mark}

-- there is no event from the length on
pub no_event : (T : Tree) (H : List Event) (place n : ℕ) → length H ≤ place → false ≡ is_hidden_at T (event_at H place) n
no_event T H place n l = ap (λ (o : Option Event). is_hidden_at T o n) (sym (event_at-above H place l))

-- the mark is one of those that are hidden
abbrev hides : Tree → List Event → Mark → Bool
hides T H m = is_hidden_at T (event_at H m.place) m.node.ordinal

among_both : (T : Tree) (H : List Event) (ms more : List Mark) → hidden_among T H (ms ++ more) ≡ hidden_among T H ms ++ hidden_among T H more
among_both T H ms more =
    ap (map (λ (m : Mark). m.place)) (filter-append (hides T H) ms more)
    ∙ map-append (λ (m : Mark). m.place) (filter (hides T H) ms) (filter (hides T H) more)

module _ (S : Script) (T : Tree) (H : List Event) (e : Event) where
  -- the mark of an event of H is as it was
  one_same : (place : ℕ) (o : Option ℕ) → place < length H → hidden_among T (e ∷ H) (marked place o) ≡ hidden_among T H (marked place o)
  unfolding event_at
  one_same place None l = refl
  one_same place (Some n) l = let other : (place == length H) ≡ false = ne_eqb place (length H) (λ is. omega (arith, is)) in rw other refl

  -- so are those of its first events
  all_same : (K : List Event) → length K ≤ length H → hidden_among T (e ∷ H) (marks S K) ≡ hidden_among T H (marks S K)
  unfolding marks
  all_same [] l = refl
  all_same (f ∷ K) l =
      let one = marked (length K) (done_on S (f ∷ K) f.who f.what) in
      among_both T (e ∷ H) (marks S K) one
      ∙ (ap₂ (λ (xs ys : List ℕ). xs ++ ys) (all_same K (omega arith)) (one_same (length K) (done_on S (f ∷ K) f.who f.what) (omega arith)) ∙ sym (among_both T H (marks S K) one))

-- so is what is hidden
pub hidden_stays : (S : Script) (H : List Event) (e : Event) → done_on S (e ∷ H) e.who e.what ≡ None → tree S (e ∷ H) ≡ tree S H → hidden S (e ∷ H) ≡ hidden S H
unfolding marks
hidden_stays S H e none same =
    let kept : marks S (e ∷ H) ≡ marks S H = ap (λ o. marks S H ++ marked (length H) o) none ∙ append-nil (marks S H) in
    ap₂ (λ (T : Tree) (ms : List Mark). hidden_among T (e ∷ H) ms) same kept ∙ all_same S (tree S H) H e H (omega arith)
