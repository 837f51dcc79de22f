-- A group of one history that has what a group of another one has. Each is known by its place in its own history.
use Rattle.std.specs.Prelude.{◌≡◌, ℕ, true, List, Some}
use Rattle.hist_model.specs.Files.{files}
use Rattle.hist_model.specs.Look.{Name}
use Rattle.hist_model.specs.Memory.{byte, group_named, is_mapped, last_call}
use Rattle.hist_model.specs.Steps.{entered, number_entered}
use Rattle.hist_model.specs.declared.event.Event.{Event}
use Rattle.hist_model.specs.declared.script.Script.{Script}

-- the groups at these places have the same bytes where something is mapped: no other byte is ever read
abbrev pub SameBytes : Script → List Event → List Event → ℕ → ℕ → Type 0
SameBytes S K L g h = (a : ℕ) → is_mapped S.map a ≡ true → byte S L h a ≡ byte S K g a

-- and the same behind each number
pub record SameGroup (S : Script) (K L : List Event) (g h : ℕ) : Type 0 where
  pub bytes : SameBytes S K L g h
  pub slots : (n : ℕ) → (files S L).slot h n ≡ (files S K).slot g n

-- the task of this name is of such a group in each of the histories
pub record SameGroupOf (S : Script) (K L : List Event) (n : Name) : Type 0 where
  pub here : ℕ
  pub there : ℕ
  pub here_is : group_named K n ≡ Some here
  pub there_is : group_named L n ≡ Some there
  pub same : SameGroup S K L here there

-- in both histories the task of this name entered the same call last, by its number and its arguments
pub record SameEntry (K L : List Event) (n : Name) : Type 0 where
  pub number : number_entered (last_call L n) ≡ number_entered (last_call K n)
  pub arguments : entered (last_call L n) ≡ entered (last_call K n)
