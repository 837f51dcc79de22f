-- The filters that lines state.
use Rattle.std.specs.Prelude.{Bool, false, ◌&&◌, not, List, [], ◌∷◌, ◌++◌, length, Option, is_some}
use Rattle.std.specs.List.{list_any}
use Rattle.lex_core.specs.declared.reason.Reason.TheVariants as reason
use Rattle.hist_model.specs.Filters.{first_fault}
use Rattle.hist_model.specs.ScriptRules.{gives_listener}
use Rattle.hist_model.specs.declared.script.FilterLine.{FilterLine}
use Rattle.hist_model.specs.declared.script.Insn.{Insn}
use Rattle.script_reader.specs.declared.error.Fault.{Fault}
use Rattle.script_reader.specs.Faults.{wrong_if, or_else, duplicate, full}

pub record FiltersState : Type 0 where
  -- the filters of closed blocks, and those of `notify`
  pub closed : List FilterLine
  -- the filter that is open
  pub insns : List Insn
  pub listener : Bool

abbrev pub no_filters : FiltersState
no_filters = record { closed = []; insns = []; listener = false }

abbrev pub filter_line : List Insn → Bool → FilterLine
filter_line insns listener = record { insns = insns; listener = listener }

-- a filter that no block states
abbrev pub with_filter : List Insn → Bool → FiltersState → FiltersState
with_filter insns listener F = record F { closed = F.closed ++ filter_line insns listener ∷ [] }

abbrev pub open_filter : Bool → FiltersState → FiltersState
open_filter listener F = record { closed = F.closed; insns = []; listener = listener }

abbrev pub with_insn : Insn → FiltersState → FiltersState
with_insn i F = record F { insns = F.insns ++ i ∷ [] }

abbrev pub close_filter : FiltersState → FiltersState
close_filter F = record { closed = F.closed ++ filter_line F.insns F.listener ∷ []; insns = []; listener = false }

-- ---- faults

-- a filter above has the listener
abbrev pub has_listener : FiltersState → Bool
has_listener F = list_any gives_listener F.closed

-- at most 16 filters, of which one has the listener
abbrev pub filter_fault : FiltersState → Bool → Option Fault
filter_fault F listener =
    or_else (wrong_if (listener && has_listener F) reason.SecondListener) (full 16 (length F.closed))

-- the filter of these instructions isn't accepted
abbrev pub insns_fault : List Insn → Option Fault
insns_fault insns = wrong_if (is_some (first_fault insns)) reason.BadFilter

-- seccomp(2), SECCOMP_FILTER_FLAG_WAIT_KILLABLE_RECV goes with the listener
abbrev pub killable_fault : Bool → FiltersState → Option Fault
killable_fault stated F = or_else (duplicate stated) (wrong_if (not (has_listener F)) reason.NoListener)
