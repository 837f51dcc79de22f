-- The list of a space's pages.
use Rattle.std.specs.Prelude.{ℕ, ◌==◌, if◌then◌else◌, List, Option, Some, None, option_map}
use Rattle.std.specs.List.{sum_by}
use Rattle.sorted_list.specs.Entries.{entry_for}
use Rattle.task_groups.specs.declared.list.PageEntry.{PageEntry}

-- by what entries are in order
abbrev pub page_number : PageEntry → ℕ
page_number e = e.number

-- the slot of the page of this number, if it is listed
unfoldable pub slot_of : List PageEntry → ℕ → Option ℕ
slot_of xs n = option_map (λ (e : PageEntry). e.slot) (entry_for page_number xs n)

abbrev pub one_if : ℕ → ℕ → ℕ
one_if s p = if s == p then 1 else 0

abbrev pub one_if_some : Option ℕ → ℕ → ℕ
one_if_some (Some s) p = one_if s p
one_if_some None p = 0

-- how many entries have the page of this slot
unfoldable pub uses_in : List PageEntry → ℕ → ℕ
uses_in xs p = sum_by (λ (e : PageEntry). one_if e.slot p) xs
