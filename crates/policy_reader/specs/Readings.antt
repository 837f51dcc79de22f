-- What is read of the values of a policy: something, or the first refusal. A place is named by the keys and places that lead
-- to it from the top.
use Rattle.std.specs.Prelude.{◌≡◌, ℕ, List, [], ◌∷◌, ◌++◌, Option, Some, None, option_map, Result, Ok, Err, ⊤}
use Rattle.std.specs.Prelude.{bytes_eq, find, codes, decimal}
use Rattle.hist_model.specs.ReportWords.{quoted}
use Rattle.serde_json.specs.Data.{Data, Items, no_items, item, Members, no_members, member}
use Rattle.sys_abi.specs.declared.memory.OrNoMemory.{OrNoMemory}
use Rattle.sys_abi.specs.declared.memory.OrNoMemory.TheVariants.{Refused, NoMemory}
use Rattle.policy_reader.specs.declared.error.PolicyError.{PolicyError}
use Rattle.policy_reader.specs.declared.error.PolicyError.TheVariants.{BadValue}

-- ---- Readings

-- what is read, or what is refused
abbrev pub Reading : Type 0 → Type 0
Reading A = Result A PolicyError

-- a reader gave this reading; nothing is said of want of memory
abbrev pub Gives : {A : Type 0} → Result A (OrNoMemory PolicyError) → Reading A → Type 0
Gives (Ok x) reading = reading ≡ Ok x
Gives (Err (Refused error)) reading = reading ≡ Err error
Gives (Err NoMemory) reading = ⊤

-- the cause refuses this reading; nothing is said of want of memory
abbrev pub Refuses : {A : Type 0} → OrNoMemory PolicyError → Reading A → Type 0
Refuses (Refused error) reading = reading ≡ Err error
Refuses NoMemory reading = ⊤

-- what is read next, where nothing was refused before
abbrev pub and_then : {A B : Type 0} → Reading A → (A → Reading B) → Reading B
and_then (Ok x) next = next x
and_then (Err error) next = Err error

-- what stands at a place has to be something
abbrev pub good : {A : Type 0} → List ℕ → Option A → Reading A
good place (Some x) = Ok x
good place None = Err (BadValue place)

-- the members of an object are read one after another, in the rising byte order of their keys: each adds to what those before it
-- state, and the first refusal ends the reading
abbrev pub walk : {S : Type 0} → (List ℕ → Data → S → Reading S) → Members → S → Reading S
walk read no_members s = Ok s
walk read (member key d ms) s = and_then (read key d s) (walk read ms)

-- the items of an array are read one after another: each after those before it, and the first refusal ends the reading
abbrev pub walk_items : {A : Type 0} → (List A → Data → Reading A) → List A → Items → Reading (List A)
walk_items read found no_items = Ok found
walk_items read found (item d ds) = and_then (read found d) (λ x. walk_items read (found ++ x ∷ []) ds)

-- what stands beside a name in a table
abbrev pub named : {A : Type 0} → List (List ℕ × A) → List ℕ → Option A
named table name = option_map (λ row. row.1) (find (λ row. bytes_eq row.0 name) table)

-- ---- Places

-- the whole policy
abbrev pub top_place : List ℕ
top_place = codes "(top)"

-- a key of the configuration
abbrev pub config_place : List ℕ → List ℕ
config_place key = codes "config." ++ quoted key

-- what stands in the n-th rule, counted from 0: the rest leads to it from there
abbrev pub rule_place : ℕ → List ℕ → List ℕ
rule_place n rest = codes "rules[" ++ decimal n ++ codes "]" ++ rest

-- a call in the list of calls of the n-th rule
abbrev pub call_place : ℕ → ℕ → List ℕ
call_place n i = rule_place n (codes ".call[" ++ decimal i ++ codes "]")
