use Rattle.bpf_filter.proofs.InputBytes.{words-bytes}
use Rattle.bpf_filter.proofs.laws.words_are_the_bytes.Goals as goal

pub returns : goal.returns
returns c call = words-bytes call
