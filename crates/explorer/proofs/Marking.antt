-- What is marked of a worker's newest step, and where its path leads.
-- By what the walk of the path comes to, and by cases on whether the step is marked.
use Rattle.std.proofs.Common.{◌≡◌, ℕ, List, [], ◌∷◌, ◌++◌, Option, Some, None, refl, sym, append-nil}
use Rattle.hist_model.specs.Files.{files}
use Rattle.hist_model.specs.Legal.{tree}
use Rattle.hist_model.specs.Paths.{At, Follow, New, Place, Refused, reaches}
use Rattle.hist_model.specs.Trees.{Tree, ordinal_of}
use Rattle.hist_model.specs.declared.event.Event.{Event}
use Rattle.hist_model.specs.declared.request.NodeRef.{NodeRef}
use Rattle.hist_model.specs.declared.script.Script.{Script}
use Rattle.path_walk.specs.Performed.{IsNotFollowed}
use Rattle.outcome_text.specs.Sight.{led_to, marked, node_at}
use Rattle.outcome_text.specs.declared.mark.Mark.{Mark}

no_node : (p : Place) (e : ℕ) → IsNotFollowed p e → node_at p ≡ None
no_node (At n) e h = absurd h
no_node (New dir name) e h = refl
no_node (Refused e') e h = refl

module _ (S : Script) (K : List Event) (w : ℕ) (path : List ℕ) (T : Tree) (b : Option NodeRef) (t : T ≡ tree S K) (is : (files S K).base w ≡ ordinal_of b) where
  -- the walk came to a node
  pub led_there : (n : NodeRef) → reaches T S.root.ordinal (ordinal_of b) path Follow ≡ At n.ordinal → Some n.ordinal ≡ led_to S K w path
  led_there n r = rw (is, ← t, r) refl

  -- or to none
  pub led_nowhere : (e : ℕ) → IsNotFollowed (reaches T S.root.ordinal (ordinal_of b) path Follow) e → None ≡ led_to S K w path
  led_nowhere e r = rw (is, ← t) (sym (no_node (reaches T S.root.ordinal (ordinal_of b) path Follow) e r))

-- the step is marked
pub mark_more : (old new : List Mark) (place : ℕ) (n : NodeRef) (o : Option ℕ) → ordinal_of (Some n) ≡ o → new ≡ old ++ record { place = place; node = n } ∷ [] → new ≡ old ++ marked place o
mark_more old new place n o e is = rw (← e) is

-- or isn't
pub mark_none : (old : List Mark) (place : ℕ) (o : Option ℕ) → ordinal_of None ≡ o → old ≡ old ++ marked place o
mark_none old place o e = rw (← e) (sym (append-nil old))
