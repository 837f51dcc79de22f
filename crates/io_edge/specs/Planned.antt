-- Calls that are to fail.
use Rattle.std.specs.Prelude.{◌==◌, Bool, if◌then◌else◌}
use Rattle.std.specs.List.{list_any}
use Rattle.io_edge.specs.Faults.{next}
use Rattle.io_edge.specs.declared.plan.Plan.{Plan}

-- whether the next call is to fail
abbrev pub fails_next : Plan → Bool
fails_next plan = list_any (λ n. n == next plan.calls) plan.listed.items

-- after one more call, which failed or didn't
abbrev pub after_call : Plan → Bool → Plan
after_call plan failed = record plan { calls = next plan.calls; faults = (if failed then next plan.faults else plan.faults) }
