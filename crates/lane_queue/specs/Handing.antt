-- The rule of a lane's queue, and what each call on it tells a pass.
use Rattle.std.specs.Prelude.{◌≡◌, ℕ, List, [], ◌∷◌, ◌++◌, Option, Some, None, ⊤}
use mathlib.Core.Option.{some}
use lib.ListN.{get_elem?}
use Rattle.lane_queue.specs.declared.queue.Handoff.{Handoff}
use Rattle.lane_queue.specs.declared.view.View.{View}

-- a pass that may do it is the one that does, and has these items
abbrev pub HasAll : ℕ → List Handoff → ℕ → Option (List Handoff) → Type 0
HasAll one all pass None = ⊤
HasAll one all pass (Some own) = (pass ≡ one) × (own ≡ all)

-- the pass with this number and view is the one that puts or takes, or does neither
abbrev pub IsAt : ℕ → ℕ → List Handoff → List Handoff → ℕ → View → Type 0
IsAt putter taker put taken pass v = HasAll putter put pass v.put × HasAll taker taken pass v.taken

-- the rule: what was put is what was taken and then what the queue holds, one pass has put it all, and one has taken it all
abbrev pub IsHanded : List Handoff → List View → Type 0
IsHanded items views = (putter : ℕ) × (taker : ℕ) × (put : List Handoff) × (taken : List Handoff) × (put ≡ taken ++ items)
    × ((pass : ℕ) (v : View) → get_elem? views pass ≡ some v → IsAt putter taker put taken pass v)

-- with one more item
abbrev pub more : Option (List Handoff) → Handoff → Option (List Handoff)
more None x = None
more (Some xs) x = Some (xs ++ x ∷ [])

-- the item was put
abbrev pub Put : View → Handoff → View → Type 0
Put v x w = w ≡ record v { put = more v.put x }

-- the item was taken
abbrev pub Taken : View → Handoff → View → Type 0
Taken v x w = w ≡ record v { taken = more v.taken x }

-- the items are the last that the pass has put
abbrev pub IsLastPut : View → List Handoff → Type 0
IsLastPut v items = (all : List Handoff) → v.put ≡ Some all → (taken : List Handoff) × (all ≡ taken ++ items)

-- of a pass that has put all and taken all, the items are what it has put and not taken
abbrev pub IsLeft : View → List Handoff → Type 0
IsLeft v items = (put taken : List Handoff) → v.put ≡ Some put → v.taken ≡ Some taken → put ≡ taken ++ items
