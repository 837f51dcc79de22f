use Rattle.std.proofs.Common.{rules, arith, ◌∙◌, sym, [], append-nil}
use Rattle.std.proofs.lemmas.Grind.{common_steps}
use Rattle.sys_abi.proofs.Fields.{u64s_written}
use Rattle.sys_abi.proofs.wire.put_words.Goals as goal

pub returns-clause-bytes : goal.returns-clause-bytes
returns-clause-bytes c = grind (arith, common_steps)

pub returns-clause-back : goal.returns-clause-back
returns-clause-back c = u64s_written _ 0 c.args.numbers.now [] (search rules) (returns-clause-bytes c ∙ sym (append-nil _))
