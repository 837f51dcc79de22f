-- What a program comes to with all that it starts.
use Rattle.std.specs.Prelude.{ℕ, ◌+◌, max, Bool, true, false, ◌||◌, if◌then◌else◌, nat_lt, List, [], ◌∷◌, ◌++◌}
use Rattle.std.specs.Prelude.{length, fold, slice_get, unwrap_or}
use Rattle.std.specs.List.{list_any}
use Rattle.hist_model.specs.declared.script.Instr.{Instr}
use Rattle.hist_model.specs.declared.script.Instr.TheVariants.{Poke, Fill, Call, Spawn, Thread, Exit}
use Rattle.hist_model.specs.declared.script.Totals.{Totals}

abbrev pub no_totals : Totals
no_totals = record { executed = 0; calls = 0; starts = 0; stored = 0; depth = 0 }

-- one instruction, without what it starts
abbrev pub one_executed : Totals
one_executed = record { executed = 1; calls = 0; starts = 0; stored = 0; depth = 0 }

-- the instruction that starts a program, and all that the program comes to
abbrev pub one_started : Totals → Totals
one_started program = record {
  executed = program.executed + 1;
  calls = program.calls;
  starts = program.starts + 1;
  stored = program.stored;
  depth = program.depth + 1;
}

-- what the program at a place comes to, by what the programs written above come to
abbrev pub totals_at : List Totals → ℕ → Totals
totals_at above place = unwrap_or (slice_get above place) no_totals

-- what one instruction adds
abbrev pub added_by : List Totals → Instr → Totals
added_by above (Poke addr bytes) = record one_executed { stored = length bytes }
added_by above (Fill addr len byte) = record one_executed { stored = len }
added_by above (Call nr args) = record one_executed { calls = 1 }
added_by above (Spawn place) = one_started (totals_at above place)
added_by above (Thread place) = one_started (totals_at above place)
added_by above _ = one_executed

-- counts are added, and of depths the greater one counts
abbrev pub with_totals : Totals → Totals → Totals
with_totals sum more = record {
  executed = sum.executed + more.executed;
  calls = sum.calls + more.calls;
  starts = sum.starts + more.starts;
  stored = sum.stored + more.stored;
  depth = max sum.depth more.depth;
}

-- what some instructions come to
abbrev pub totals_of : List Totals → List Instr → Totals
totals_of above body = fold (λ sum i. with_totals sum (added_by above i)) no_totals body

abbrev pub is_exit : Instr → Bool
is_exit Exit = true
is_exit _ = false

-- the end of a program without `exit` is executed as one
abbrev pub with_end : Bool → Totals → Totals
with_end exited totals = record totals { executed = (if exited then totals.executed else totals.executed + 1) }

-- 100000 executed instructions, 20000 calls, 4000 tasks started, 64 MiB stored, and programs 64 deep
abbrev pub are_too_many : Totals → Bool
are_too_many totals =
    nat_lt 100000 totals.executed || nat_lt 20000 totals.calls || nat_lt 4000 totals.starts
    || nat_lt 67108864 totals.stored || nat_lt 64 totals.depth

-- ---- whole programs

-- the program ends by an `exit` of its own
abbrev pub exits : List Instr → Bool
exits body = list_any is_exit body

-- what a program comes to, by what the programs written above come to
abbrev pub program_totals : List Totals → List Instr → Totals
program_totals above body = with_end (exits body) (totals_of above body)

-- what programs come to, behind those that are written above
abbrev pub totals_behind : List Totals → List (List Instr) → List Totals
totals_behind above [] = above
totals_behind above (body ∷ more) = totals_behind (above ++ program_totals above body ∷ []) more

-- what each program of a script comes to
abbrev pub totals_of_all : List (List Instr) → List Totals
totals_of_all programs = totals_behind [] programs
