-- The fault that is found is the first one.
use Rattle.std.proofs.Common.{rules}
use Rattle.bpf_filter.proofs.Firsts.{first_found}
use Rattle.bpf_filter.proofs.filters.Filter.check.Goals as goal

pub returns-in-Some-clause-first : goal.returns-in-Some-clause-first
returns-in-Some-clause-first c = first_found c.args.insns.items c.in-Some.fault (search rules)
