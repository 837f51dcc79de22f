-- Which effects a later one took from sight, by the tree at the end of a history.
use Rattle.std.specs.Prelude.{ℕ, Bool, false, not, List, [], ◌∷◌, ◌++◌, length, map, filter, is_some, Option, Some, None, Ok}
use Rattle.hist_model.specs.Files.{files}
use Rattle.hist_model.specs.Legal.{tree}
use Rattle.hist_model.specs.Look.{event_at}
use Rattle.hist_model.specs.Natives.{root}
use Rattle.hist_model.specs.Paths.{At, Follow, Place, reaches}
use Rattle.hist_model.specs.Trees.{Tree, attr, mount_on}
use Rattle.hist_model.specs.declared.event.Actor.{Actor}
use Rattle.hist_model.specs.declared.event.Actor.TheVariants.{Worker}
use Rattle.hist_model.specs.declared.event.Event.{Event}
use Rattle.hist_model.specs.declared.event.What.{What}
use Rattle.hist_model.specs.declared.event.What.TheVariants.{Act}
use Rattle.hist_model.specs.declared.request.Request.TheVariants.{Mount, SetXattr}
use Rattle.hist_model.specs.declared.script.Script.{Script}
use Rattle.mount_tree.specs.Looks.{has_value, newest_root}
use Rattle.outcome_text.specs.declared.mark.Mark.{Mark}

-- ---- What an effect was done on

abbrev pub node_at : Place → Option ℕ
node_at (At n) = Some n
node_at _ = None

-- the node to which a path of worker w's request leads after a history
abbrev pub led_to : Script → List Event → ℕ → List ℕ → Option ℕ
led_to S K w path = node_at (reaches (tree S K) (root S) ((files S K).base w) path Follow)

-- after a history whose newest event is this one: the root that it mounted, which is that of the newest mount;
-- or the node whose attribute it set, to which its path still leads
abbrev pub done_on : Script → List Event → Actor → What → Option ℕ
done_on S K (Worker w) (Act (Mount source target fstype options via flags shift) cap (Ok u)) = newest_root (tree S K).mounts
done_on S K (Worker w) (Act (SetXattr path name value flags) cap (Ok u)) = led_to S K w path
done_on S K _ _ = None

abbrev pub marked : ℕ → Option ℕ → List Mark
marked place (Some n) = record { place = place; node = record { ordinal = n } } ∷ []
marked place None = []

-- the mounts that workers made and the attributes that they set, the oldest first: each with its place, and the node that it was done on
unfoldable pub marks : Script → List Event → List Mark
marks S [] = []
marks S (e ∷ K) = marks S K ++ marked (length K) (done_on S (e ∷ K) e.who e.what)

-- ---- Whether it is still seen

-- in a tree another mount stands on the root that was mounted; or the node's attribute has another value than was set
abbrev pub is_hidden : Tree → What → ℕ → Bool
is_hidden T (Act (Mount source target fstype options via flags shift) cap answer) n = is_some (mount_on T.mounts n)
is_hidden T (Act (SetXattr path name value flags) cap answer) n = not (has_value (attr T n name) value)
is_hidden T _ n = false

abbrev pub is_hidden_at : Tree → Option Event → ℕ → Bool
is_hidden_at T (Some e) n = is_hidden T e.what n
is_hidden_at T None n = false

-- the places of those of a history's marks that are hidden in a tree
abbrev pub hidden_among : Tree → List Event → List Mark → List ℕ
hidden_among T H ms = map (λ (m : Mark). m.place) (filter (λ (m : Mark). is_hidden_at T (event_at H m.place) m.node.ordinal) ms)

-- the places of the effects that a later one took from sight, as the tree is at the end
abbrev pub hidden : Script → List Event → List ℕ
hidden S H = hidden_among (tree S H) H (marks S H)
