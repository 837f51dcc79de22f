-- The faults of ranges (mmap(2)) and of the broker's descriptors, and which ranges are in force.
use Rattle.std.specs.Prelude.{ℕ, ◌+◌, ◌^◌, ◌||◌, not, ◌==◌, nat_lt, List, [], ◌∷◌, length, Option}
use Rattle.std.specs.List.{list_any}
use Rattle.lex_core.specs.declared.reason.Reason.TheVariants as reason
use Rattle.hist_model.specs.Ranges.{end_of, is_apart, pages_of}
use Rattle.hist_model.specs.declared.script.MapRange.{MapRange}
use Rattle.script_reader.specs.declared.error.Fault.{Fault}
use Rattle.script_reader.specs.Faults.{wrong_if, too_large_if, or_else, duplicate, full}

-- the range ends at most at 2^47 and is apart from those above; at most 64 pages are mapped
abbrev pub map_fault : List MapRange → MapRange → Option Fault
map_fault ranges range =
    or_else
    (wrong_if (nat_lt (2 ^ 47) (end_of range) || not (is_apart ranges range)) reason.OutOfRange)
    (too_large_if (nat_lt 64 (pages_of ranges + range.pages)))

-- where nothing is mapped by a line, 16 pages are
abbrev pub in_force : List MapRange → List MapRange
in_force [] = record { start = 65536; pages = 16 } ∷ []
in_force (range ∷ ranges) = range ∷ ranges

-- a descriptor is stated once, and at most 64 are
abbrev pub broker_fault : List ℕ → ℕ → Option Fault
broker_fault broker n = or_else (duplicate (list_any (λ m. m == n) broker)) (full 64 (length broker))
