use Rattle.std.proofs.Common.{rules, ◌∙◌, ap}
use Rattle.sys_abi.specs.Wire.{sysinfo_of, sysinfo_bytes}
use Rattle.sys_abi.proofs.Fields.{words_written, three_items}
use Rattle.sys_abi.proofs.Structures.{sysinfo_of_bytes}
use Rattle.sys_abi.proofs.wire.Sysinfo.to_bytes.Goals as goal

pub returns-clause-bytes : goal.returns-clause-bytes
unfolding sysinfo_bytes
returns-clause-bytes c = rw (three_items c.args.self.now.loads (search rules)) (search rules)

pub returns-clause-back : goal.returns-clause-back
returns-clause-back c =
    let words = words_written c.put_words.new.bytes _ 10 c.put_words.ensures.bytes c.put_words.ensures.back (search rules) in
    let high = words_written c.put_words-2.new.bytes _ 2 c.put_words-2.ensures.bytes c.put_words-2.ensures.back (search rules) in
    ap sysinfo_of (returns-clause-bytes c) ∙ sysinfo_of_bytes c.args.self.now _ _ _ (three_items c.args.self.now.loads (search rules)) words (search rules) high (search rules)
