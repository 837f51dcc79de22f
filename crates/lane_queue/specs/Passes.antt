-- What contracts see of a lane's queue and of its passes.
use Rattle.std.specs.Prelude.{◌≡◌, List, [], ◌++◌, Option, Some, None, length}
use Rattle.atomic_table.specs.Seated.{TableId}
use Rattle.crossbeam_queue.specs.Passes.{Pass, view}
use Rattle.lane_queue.specs.declared.queue.Handoff.{Handoff}
use Rattle.lane_queue.specs.declared.view.View.{View}

-- the queue that made a pass, and the items that were put or taken by it, in order
pub record PassFacts : Type 0 where
  pub queue : TableId
  pub items : List Handoff

-- the same with other items
abbrev pub with_items : PassFacts → List Handoff → PassFacts
with_items p items = record p { items = items }

-- 16 items stood in the queue: the last that the pass had put
abbrev pub WasFull : PassFacts → Type 0
WasFull p = (taken : List Handoff) × (items : List Handoff) × (p.items ≡ taken ++ items) × (length items ≡ 16)

abbrev pub items_of : Option (List Handoff) → List Handoff
items_of None = []
items_of (Some items) = items

-- a pass that may put, or take, and does nothing else
abbrev pub puts_alone : List Handoff → View
puts_alone items = record { put = Some items; taken = None }

abbrev pub takes_alone : List Handoff → View
takes_alone items = record { put = None; taken = Some items }

abbrev pub put_facts : Pass Handoff View → PassFacts
put_facts p = record { queue = p.table_id; items = items_of (view p).put }

abbrev pub take_facts : Pass Handoff View → PassFacts
take_facts p = record { queue = p.table_id; items = items_of (view p).taken }

-- no call of such a pass is under way
abbrev pub MayPut : Pass Handoff View → Type 0
MayPut p = (view p ≡ puts_alone (items_of (view p).put)) × (p.me.1 ≡ [])

abbrev pub MayTake : Pass Handoff View → Type 0
MayTake p = (view p ≡ takes_alone (items_of (view p).taken)) × (p.me.1 ≡ [])
