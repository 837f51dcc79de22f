-- Reads of memory that doesn't change. The byte at an address is given by a function, which is none where it isn't mapped.
use Rattle.std.specs.Prelude.{◌≡◌, ℕ, zero, suc, ◌<◌, ◌^◌, List, [], ◌∷◌, ◌++◌, Option, Some, None, Result, Ok, Err, ⊤}
use Rattle.sys_abi.specs.Errnos.{efault}
use Rattle.hist_model.specs.Copies.{Progress, Wants, Complete, Faulty, progress, further}
use Rattle.hist_model.specs.declared.copy.Part.{Part}
use Rattle.hist_model.specs.declared.copy.Part.TheVariants.{Text, Value}

abbrev pub run_after : Option ℕ → (ℕ → List ℕ) → ℕ → List ℕ
run_after None rest address = []
run_after (Some b) rest address = b ∷ rest (further address 1)

-- the bytes from an address on, before the first that isn't mapped, at most so many
unfoldable pub run_at : (ℕ → Option ℕ) → ℕ → ℕ → List ℕ
run_at byte zero address = []
run_at byte (suc n) address = run_after (byte address) (run_at byte n) address

abbrev pub read_after : Option ℕ → List ℕ → Result (List ℕ) ℕ
read_after None run = Err efault
read_after (Some b) run = Ok run

-- what a read at an address, of a length, answers: EFAULT where the first byte isn't mapped
abbrev pub read_at : (ℕ → Option ℕ) → ℕ → ℕ → Result (List ℕ) ℕ
read_at byte address n = read_after (byte address) (run_at byte n address)

-- each answer is what the memory says to the piece that was wanted before it
abbrev pub AreRead : (ℕ → Option ℕ) → List Part → List (Result (List ℕ) ℕ) → Type 0
AreRead byte parts answers =
    (before : List (Result (List ℕ) ℕ)) (answer : Result (List ℕ) ℕ) (later : List (Result (List ℕ) ℕ)) (address n : ℕ)
    → answers ≡ before ++ answer ∷ later → progress parts before ≡ Wants address n → answer ≡ read_at byte address n

-- a copy in pieces that has ended is this copy
abbrev pub IsCopy : Progress → Result (List (List ℕ)) ℕ → Type 0
IsCopy (Wants address n) copy = ⊤
IsCopy (Complete texts) copy = copy ≡ Ok texts
IsCopy (Faulty e) copy = copy ≡ Err e

-- addresses have 64 bits, and a text has room for its zero
abbrev pub IsPlaced : Part → Type 0
IsPlaced (Text address limit fault) = (address < 2 ^ 64) × (0 < limit)
IsPlaced (Value address size) = address < 2 ^ 64

abbrev pub ArePlaced : List Part → Type 0
ArePlaced [] = ⊤
ArePlaced (part ∷ parts) = IsPlaced part × ArePlaced parts
