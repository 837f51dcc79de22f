-- What one more entry of a table makes of what the table stands for: by the laws of maps from bytes.
-- By `values_updated` for the map, and by the given equation for each other field that changes.
use Rattle.std.proofs.Common.{◌≡◌, ℕ, ◌+◌, if◌then◌else◌, List, [], Option, Some, Bool, Vec, ap, ◌∙◌, bytes_eq}
use Rattle.std.specs.BTreeMap.{BTreeMap, UpdatesBy}
use Rattle.std.specs.Cmp.Lexicographic.{slice_cmp}
use Rattle.std.specs.Ordering.{nat_cmp}
use Rattle.hist_model.specs.declared.script.Instr.{Instr}
use Rattle.hist_model.specs.declared.script.TreeLine.{TreeLine}
use Rattle.script_reader.specs.declared.settings.PathTarget.{PathTarget}
use Rattle.hist_model.specs.declared.script.Totals.{Totals}
use Rattle.script_reader.specs.Maps.{value_in}
use Rattle.script_reader.specs.Programs.{ProgramsState, with_name}
use Rattle.script_reader.specs.Tree.{TreeState, found_node, with_path}
use Rattle.script_reader.proofs.Maps.{values_updated}

tree_state : (List ℕ → Option PathTarget) → ℕ → List TreeLine → TreeState
tree_state found nodes lines = record { found = found; nodes = nodes; lines = lines }

abbrev pub Updated : {X Y : Type 0} → List ℕ → BTreeMap (Vec ℕ Y) X → BTreeMap (Vec ℕ Y) X → X → Type 0
Updated bs m n w = UpdatesBy (λ x y. slice_cmp nat_cmp x.items y.items) (λ key. slice_cmp nat_cmp bs key.items) m n (Some w)

-- one more path leads to a node
pub tree_led : {Y : Type 0} (m n : BTreeMap (Vec ℕ Y) PathTarget) (nodes next : ℕ) (lines : List TreeLine) (path : List ℕ) (directory : Bool)
    → Updated path m n (found_node nodes directory) → next ≡ nodes + 1
    → record { found = value_in n; nodes = next; lines = lines }
    ≡ with_path path directory (record { found = value_in m; nodes = nodes; lines = lines })
unfolding tree_state
tree_led m n nodes next lines path directory u e =
    ap (λ f. tree_state f next lines) (values_updated path m n (Some (found_node nodes directory)) u)
    ∙ ap (λ k. tree_state (λ cs. if bytes_eq path cs then Some (found_node nodes directory) else value_in m cs) k lines) e

programs_state : (List ℕ → Option ℕ) → List (List Instr) → List Totals → List ℕ → List Instr → ProgramsState
programs_state place bodies totals name body = record { place = place; bodies = bodies; totals = totals; name = name; body = body }

-- one more name stands for a place
pub name_placed : {Y : Type 0} (m n : BTreeMap (Vec ℕ Y) ℕ) (place : ℕ) (bodies : List (List Instr)) (totals : List Totals) (key name rest : List ℕ) (body : List Instr)
    → Updated key m n place → key ≡ name → rest ≡ []
    → record { place = value_in n; bodies = bodies; totals = totals; name = rest; body = body }
    ≡ with_name place (record { place = value_in m; bodies = bodies; totals = totals; name = name; body = body })
unfolding programs_state
name_placed m n place bodies totals key name rest body u k r =
    ap (λ t. programs_state (value_in n) bodies totals t body) r
    ∙ (ap (λ f. programs_state f bodies totals [] body) (values_updated key m n (Some place) u)
    ∙ ap (λ q. programs_state (λ cs. if bytes_eq q cs then Some place else value_in m cs) bodies totals [] body) k)
