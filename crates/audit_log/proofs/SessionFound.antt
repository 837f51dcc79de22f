-- What is kept of a session tells what it came to.
-- By cases on what was judged, and on whether the session was gone, was judged, and had its effect refused.
use Rattle.std.proofs.Common.{◌≡◌, Bool, true, false, refl}
use Rattle.std.specs.Prelude.{if◌then◌else◌}
use Rattle.std.specs.List.{list_any}
use Rattle.hist_model.specs.Kinds.{is_gone, is_spent}
use Rattle.hist_model.specs.ReportAudit.{Judging, checked_twice, finding, finding_by, finding_of, reads}
use Rattle.hist_model.specs.declared.policy.Verdict.TheVariants.{Grant, Deny, Pass, Inject}
use Rattle.hist_model.specs.declared.report.Finding.TheVariants.{Gone, Open}
use Rattle.hist_model.specs.declared.report.Judged.{Judged}
use Rattle.hist_model.specs.declared.report.Judged.TheVariants.{Unfinished, Faulty, Decided}
use Rattle.audit_log.specs.Begun.{Begun, finding_in, spent, told}

found-by : (g t : Bool) (j : Judged) (refused : Bool)
    → (if g then Gone else (if refused then spent (if t then finding_of j false else Open) else (if t then finding_of j false else Open))) ≡ finding_by g t j refused
found-by true t j refused = refl
found-by false false j true = refl
found-by false false j false = refl
found-by false true Unfinished true = refl
found-by false true Unfinished false = refl
found-by false true (Faulty e) true = refl
found-by false true (Faulty e) false = refl
found-by false true (Decided i Grant) true = refl
found-by false true (Decided i (Deny e)) true = refl
found-by false true (Decided i Pass) true = refl
found-by false true (Decided i (Inject src at)) true = refl
found-by false true (Decided i v) false = refl

pub finding_told : (J : Judging) (s : Begun) → finding_in (told J s) ≡ finding J s.notif s.steps
finding_told J s = found-by (list_any is_gone s.steps) (checked_twice s.steps) (J.judge s.notif (reads s.steps)) (list_any is_spent s.steps)
