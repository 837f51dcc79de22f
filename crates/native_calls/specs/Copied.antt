-- Copies of a call's arguments out of the memory of a group that doesn't change meanwhile.
use Rattle.std.specs.Prelude.{◌≡◌, ℕ, ◌≤◌, List, [], ◌∷◌, length, Some, Result, Ok, Err, ℤ, ⊤}
use Rattle.hist_model.specs.Copies.{plan}
use Rattle.hist_model.specs.Memory.{mapped_byte}
use Rattle.hist_model.specs.declared.event.Event.{Event}
use Rattle.hist_model.specs.declared.request.ArgCopy.{ArgCopy}
use Rattle.hist_model.specs.declared.script.Script.{Script}
use Rattle.history_frames.specs.Ordinals.{group_of}
use Rattle.arg_capture.specs.Captures.{Captured, Follows}
use Rattle.arg_capture.specs.Moments.{AreRead}
use Rattle.task_groups.specs.Stands.{StandsFor}
use Rattle.task_groups.specs.declared.groups.Groups.{Groups}

-- the texts of a copy, or its fault
abbrev pub texts_of : Result ArgCopy ℕ → Result (List (List ℕ)) ℕ
texts_of (Ok copy) = Ok copy.texts
texts_of (Err e) = Err e

-- each answer that has bytes has at least one
abbrev pub AllGive : List (Result (List ℕ) ℕ) → Type 0
AllGive [] = ⊤
AllGive (Ok bytes ∷ later) = (1 ≤ length bytes) × AllGive later
AllGive (Err e ∷ later) = AllGive later

-- the capture of a call's arguments had so many answers, each of which is what the memory of the group says
pub record HasRead (G : Groups) (o : ℕ) (nr : ℤ) (args : List ℕ) (count : ℕ) (c : Captured) : Type 0 where
  pub answers : List (Result (List ℕ) ℕ)
  pub counted : length answers ≡ count
  pub follows : Follows (plan nr args) answers c
  pub give : AllGive answers
  pub read : (S : Script) (K : List Event) (living handles : ℕ → ℕ) (g : ℕ) → StandsFor S K living handles G
      → group_of K o ≡ Some g → AreRead (mapped_byte S K g) (plan nr args) answers
