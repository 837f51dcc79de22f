-- The pages that are mapped in every address space (mmap(2)), as ranges.
use Rattle.std.specs.Prelude.{ℕ, ◌+◌, ◌-◌, ◌*◌, ◌%◌, ◌^◌, min, max, Bool, true, ◌&&◌, ◌||◌, ◌==◌, nat_le, List, [], ◌∷◌, sum_by}
use Rattle.std.specs.List.{list_all}
use Rattle.hist_model.specs.declared.script.MapRange.{MapRange}

-- the address behind a range
abbrev pub end_of : MapRange → ℕ
end_of range = range.start + 4096 * range.pages

-- a multiple of 4096 up to 2^47
abbrev pub is_page_address : ℕ → Bool
is_page_address n = (n % 4096 == 0) && nat_le n (2 ^ 47)

-- 1 to 64 pages from a page's address on, ending at most at 2^47
abbrev pub is_range : MapRange → Bool
is_range range = is_page_address range.start && nat_le 1 range.pages && nat_le range.pages 64 && nat_le (end_of range) (2 ^ 47)

-- one of the ranges ends before the other begins
abbrev pub are_apart : MapRange → MapRange → Bool
are_apart range other = nat_le (end_of range) other.start || nat_le (end_of other) range.start

abbrev pub is_apart : List MapRange → MapRange → Bool
is_apart ranges range = list_all (are_apart range) ranges

-- each range is apart from each other one
abbrev pub are_all_apart : List MapRange → Bool
are_all_apart [] = true
are_all_apart (range ∷ more) = is_apart more range && are_all_apart more

abbrev pub pages_of : List MapRange → ℕ
pages_of ranges = sum_by (λ range. range.pages) ranges

-- how many of the bytes from one address up to another lie in a range
abbrev pub bytes_within : ℕ → ℕ → MapRange → ℕ
bytes_within from to range = min to (end_of range) - max from range.start

abbrev pub bytes_mapped : List MapRange → ℕ → ℕ → ℕ
bytes_mapped ranges from to = sum_by (bytes_within from to) ranges

-- each of so many bytes from an address on lies in a range: where the ranges are apart, none is counted twice
abbrev pub are_mapped : List MapRange → ℕ → ℕ → Bool
are_mapped ranges from count = bytes_mapped ranges from (from + count) == count
