-- Each word's statement is made by its own arm.
use Rattle.std.proofs.Common.{rules, ap, sym, ◌∙◌}
use Rattle.script_reader.specs.Statements.{statement}
use Rattle.script_reader.specs.declared.statement.Statement.TheVariants.{Does}
use Rattle.script_reader.proofs.statement.statement_of.Goals as goal
use Rattle.script_reader.proofs.statement.statement_of.Goals.{in-Pidmax, in-Pidbase, in-Firstid, in-Rlimit, in-Killable, in-Dir, in-Reg, in-Fifo, in-Sock, in-Link+in_ok-link-in-Link, in-Chr, in-Blk, in-Attr+in_ok-attr-in-Attr, in-Root, in-Broker, in-Map, in-Cgroup, in-Figures, in-Notify+in_ok-call_numbers-in-Notify, in-Filter, in-Prog, in-Poke+in_ok-poke-in-Poke, in-Fill, in-Call, in-Spawn, in-Thread, in-Kill, in-Handler, in-Wait, in-Exit, in-Schedule, in-Task+in_ok-steps-in-Task, in-Worker, in-End}

pub returns : goal.returns
returns c =
    elim c.match-word.branch [
      | in-Pidmax w ↦ search rules
      | in-Pidbase w ↦ search rules
      | in-Firstid w ↦ search rules
      | in-Rlimit w ↦ search rules
      | in-Killable w ↦ search rules
      | in-Dir w ↦ search rules
      | in-Reg w ↦ search rules
      | in-Fifo w ↦ search rules
      | in-Sock w ↦ search rules
      | in-Link+in_ok-link-in-Link w ↦ search rules
      | in-Chr w ↦ search rules
      | in-Blk w ↦ search rules
      | in-Attr+in_ok-attr-in-Attr w ↦ search rules
      | in-Root w ↦ search rules
      | in-Broker w ↦ search rules
      | in-Map w ↦ search rules
      | in-Cgroup w ↦ search rules
      | in-Figures w ↦ search rules
      | in-Notify+in_ok-call_numbers-in-Notify w ↦ search rules
      | in-Filter w ↦ search rules
      | in-Prog w ↦ search rules
      | in-Poke+in_ok-poke-in-Poke w ↦ search rules
      | in-Fill w ↦ search rules
      | in-Call w ↦ w.result-is ∙ (ap Does w.call.ensures ∙ ap (λ x. statement x c.args.operands.now) (sym w.in-Call.is))
      | in-Spawn w ↦ search rules
      | in-Thread w ↦ search rules
      | in-Kill w ↦ search rules
      | in-Handler w ↦ search rules
      | in-Wait w ↦ search rules
      | in-Exit w ↦ search rules
      | in-Schedule w ↦ search rules
      | in-Task+in_ok-steps-in-Task w ↦ search rules
      | in-Worker w ↦ search rules
      | in-End w ↦ search rules
    ]
