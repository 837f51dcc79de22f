-- The entries of one table, in the order of their numbers.
use Rattle.std.specs.Prelude.{◌≡◌, ℕ, ◌<◌, false, List, [], ◌∷◌, None, IsSome}
use Rattle.hist_model.specs.declared.request.Obj.TheVariants.{Console}
use Rattle.sorted_list.specs.Entries.{entry_for}
use Rattle.task_groups.specs.declared.descriptors.Descriptor.{Descriptor}

-- by what entries are in order
abbrev pub descriptor_number : Descriptor → ℕ
descriptor_number d = d.number

-- each number below this one has an entry, and this one has none
pub record IsFirstFree (xs : List Descriptor) (n : ℕ) : Type 0 where
  pub taken : (m : ℕ) → m < n → IsSome (entry_for descriptor_number xs m)
  pub free : entry_for descriptor_number xs n ≡ None

-- 0, 1 and 2 lead to the console
abbrev pub console_descriptor : ℕ → Descriptor
console_descriptor n = record { number = n; obj = Console; cloexec = false }

abbrev pub console_descriptors : List Descriptor
console_descriptors = console_descriptor 0 ∷ console_descriptor 1 ∷ console_descriptor 2 ∷ []
