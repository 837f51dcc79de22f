-- The line of each status is written: by the status.
use Rattle.broker_app.proofs.lines.write_status.Goals as goal

pub returns-in-Usage : goal.returns-in-Usage
returns-in-Usage g c = rw c.in-Usage.is c.write.ensures

pub returns-in-WriteFault : goal.returns-in-WriteFault
returns-in-WriteFault g c = rw c.in-WriteFault.is c.write-in-WriteFault.ensures

pub returns-in-NotReport : goal.returns-in-NotReport
returns-in-NotReport g c = rw c.in-NotReport.is c.write_report_line.ensures

pub returns-in-PidsOverlap : goal.returns-in-PidsOverlap
returns-in-PidsOverlap g c = rw c.in-PidsOverlap.is c.write_overlap_line.ensures
