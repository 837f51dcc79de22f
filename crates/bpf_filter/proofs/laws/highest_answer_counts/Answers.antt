use Rattle.bpf_filter.proofs.Highest.{combine_highest}
use Rattle.bpf_filter.proofs.laws.highest_answer_counts.Goals as goal

pub returns : goal.returns
returns c values l = combine_highest values l
