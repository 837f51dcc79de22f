-- Which workers the lines of a schedule are of.
use Rattle.std.specs.Prelude.{◌≡◌, ℕ, Bool, false, ◌&&◌, ◌==◌, List}
use Rattle.std.specs.List.{list_any}
use Rattle.step_requests.specs.declared.request.Turn.{Turn}
use Rattle.step_requests.specs.declared.request.Turn.TheVariants as turn

-- the line counts steps of this worker
abbrev pub serves : ℕ → Turn → Bool
serves w (turn.Serves worker count) = worker == w
serves w _ = false

-- the line is a request of this worker
abbrev pub asks : ℕ → Turn → Bool
asks w (turn.Asks worker asked) = worker == w
asks w _ = false

-- a worker has counts or requests, not both
abbrev pub AreApart : List Turn → Type 0
AreApart turns = (w : ℕ) → (list_any (serves w) turns && list_any (asks w) turns) ≡ false
