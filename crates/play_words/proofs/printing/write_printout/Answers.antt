use Rattle.play_words.proofs.printing.write_printout.Goals as goal

pub returns-in-Findings : goal.returns-in-Findings
returns-in-Findings g c = rw c.in-Findings.is c.write_findings.ensures
