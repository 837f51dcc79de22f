use Rattle.std.proofs.Common.{rules, ◌∙◌, ap}
use Rattle.sys_abi.specs.Wire.{seccomp_data_of, seccomp_data_bytes}
use Rattle.sys_abi.proofs.Fields.{words_written}
use Rattle.sys_abi.proofs.Structures.{seccomp_data_of_bytes}
use Rattle.sys_abi.proofs.wire.SeccompData.to_bytes.Goals as goal

pub returns-clause-bytes : goal.returns-clause-bytes
unfolding seccomp_data_bytes
returns-clause-bytes c = search rules

pub returns-clause-back : goal.returns-clause-back
returns-clause-back c =
    let words = words_written c.put_words.new.bytes c.args.self.now.args 6 c.put_words.ensures.bytes c.put_words.ensures.back (search rules) in
    ap seccomp_data_of (returns-clause-bytes c) ∙ seccomp_data_of_bytes c.args.self.now (search rules) (search rules) (search rules) words
