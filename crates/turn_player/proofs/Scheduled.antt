-- The lines of a script's schedule are lines, and no worker has requests there.
-- By what every script keeps: tasks and workers alone are scheduled.
use Rattle.std.proofs.Common.{◌≡◌, ℕ, Bool, true, false, ◌&&◌, List, [], ◌∷◌, map, refl, arith}
use Rattle.std.specs.List.{All, list_all, list_any}
use Rattle.std.proofs.lemmas.Bool.{and_parts, ltb-true}
use Rattle.std.proofs.lemmas.List.Elements.{All-cons, All-nil}
use Rattle.hist_model.specs.ScriptRules.{can_be_scheduled}
use Rattle.hist_model.specs.declared.event.Actor.{Actor}
use Rattle.hist_model.specs.declared.event.Actor.TheVariants.{Task, Worker}
use Rattle.hist_model.specs.declared.script.Step.{Step}
use Rattle.step_requests.specs.Turns.{AreApart, asks, serves}
use Rattle.turn_player.specs.Turns.{IsTurn, turn_by, turn_of}

-- what is scheduled is a line
is_line : (who : Actor) (count : ℕ) → can_be_scheduled who ≡ true → IsTurn (turn_by who count)
is_line (Task n) count h = h
is_line (Worker w) count h = let below = ltb-true w 16 h in omega (arith, below)
is_line who count h = cc

pub are_lines : (steps : List Step) → list_all (λ (s : Step). can_be_scheduled s.who) steps ≡ true → All IsTurn (map turn_of steps)
are_lines [] h = All-nil IsTurn
are_lines (s ∷ steps) h =
    let p = and_parts (can_be_scheduled s.who) (list_all (λ (s : Step). can_be_scheduled s.who) steps) h in
    All-cons IsTurn (turn_of s) (map turn_of steps) (is_line s.who s.count p.0) (are_lines steps p.1)

-- none of them is a request
no_request : (w : ℕ) (who : Actor) (count : ℕ) → asks w (turn_by who count) ≡ false
no_request w (Task n) count = refl
no_request w (Worker v) count = refl
no_request w who count = refl

no_requests : (w : ℕ) (steps : List Step) → list_any (asks w) (map turn_of steps) ≡ false
no_requests w [] = refl
no_requests w (s ∷ steps) = rw (no_request w s.who s.count) (no_requests w steps)

and_false : (a b : Bool) → b ≡ false → (a && b) ≡ false
and_false true b h = h
and_false false b h = refl

pub are_apart : (steps : List Step) → AreApart (map turn_of steps)
are_apart steps w = and_false (list_any (serves w) (map turn_of steps)) _ (no_requests w steps)
