-- The parts of a line's key end by themselves.
-- What has cases is told again by its number; and a record is told by its parts, which stand one after another.
use Rattle.std.proofs.Common.{◌≡◌, ℕ, Bool, true, false, List, Option, refl, ap, arith}
use Rattle.std.specs.Prelude.{◌==◌, if◌then◌else◌, ℤ, pos, negsuc}
use Rattle.hist_model.specs.Look.{Name}
use Rattle.hist_model.specs.declared.event.Entered.{Entered}
use Rattle.hist_model.specs.declared.event.Entered.TheVariants.{Allow, Fails, Kill, Log, NoSys, Notify}
use Rattle.hist_model.specs.declared.report.Finding.{Finding}
use Rattle.hist_model.specs.declared.report.Finding.TheVariants.{Denied, Fault, Gone, Granted, Injected, Open as Undecided, Passed, Spent}
use Rattle.hist_model.specs.declared.report.Outcome.{Outcome}
use Rattle.hist_model.specs.declared.report.Outcome.TheVariants.{Ended, Failed, Open, Restarted, Returned}
use Rattle.key_bytes.specs.Parts.{Ends, flag_part, list_part, number_part, option_part, pair_part, signed_part, text_part}
use Rattle.key_bytes.proofs.Ending.{flag_ends, list_ends, option_ends, pair_ends, signed_ends, text_ends, told_ends}
use Rattle.key_bytes.proofs.Numbers.{number_ends}
use Rattle.outcome_lines.specs.Keys.{came_code, came_part, finding_code, finding_part, line_part, lines_part, sight_part, told_part, verdict_code, verdict_part}
use Rattle.outcome_lines.specs.declared.line.Line.{Line}
use Rattle.outcome_lines.specs.declared.line.Sight.{Sight}
use Rattle.outcome_lines.specs.declared.line.Sight.TheVariants.{OnAttr, OnRoot}
use Rattle.outcome_lines.specs.declared.line.Told.{Told}

-- ---- What has cases

verdict_with : ℕ × ℕ → Entered
verdict_with c =
    if c.0 == 0 then Notify c.1 else (if c.0 == 1 then Allow else (if c.0 == 2 then Log else (if c.0 == 3 then NoSys else (if c.0 == 4 then Kill else Fails c.1))))

same-verdict : (v : Entered) → verdict_with (verdict_code v) ≡ v
unfolding verdict_with
same-verdict (Notify id) = refl
same-verdict Allow = refl
same-verdict Log = refl
same-verdict NoSys = refl
same-verdict Kill = refl
same-verdict (Fails e) = refl

verdict_ends : Ends verdict_part
verdict_ends = told_ends verdict_code verdict_with (pair_part number_part number_part) same-verdict (pair_ends number_part number_part number_ends number_ends)

size : ℤ → ℕ
size (pos n) = n
size (negsuc n) = 0

came_with : ℕ × ℤ → Outcome
came_with c = if c.0 == 0 then Open else (if c.0 == 1 then Restarted else (if c.0 == 2 then Ended else (if c.0 == 3 then Returned c.1 else Failed (size c.1))))

same-came : (o : Outcome) → came_with (came_code o) ≡ o
unfolding came_with size
same-came Open = refl
same-came Restarted = refl
same-came Ended = refl
same-came (Returned v) = refl
same-came (Failed e) = refl

came_ends : Ends came_part
came_ends = told_ends came_code came_with (pair_part number_part signed_part) same-came (pair_ends number_part signed_part number_ends signed_ends)

finding_with : ℕ × ℕ → Finding
finding_with c =
    if c.0 == 0 then Gone else (if c.0 == 1 then Undecided else (if c.0 == 2 then Fault else (if c.0 == 3 then Spent c.1 else (
    if c.0 == 4 then Granted c.1 else (if c.0 == 5 then Denied c.1 else (if c.0 == 6 then Passed c.1 else Injected c.1))))))

same-finding : (f : Finding) → finding_with (finding_code f) ≡ f
unfolding finding_with
same-finding Gone = refl
same-finding Undecided = refl
same-finding Fault = refl
same-finding (Spent i) = refl
same-finding (Granted i) = refl
same-finding (Denied i) = refl
same-finding (Passed i) = refl
same-finding (Injected i) = refl

finding_ends : Ends finding_part
finding_ends = told_ends finding_code finding_with (pair_part number_part number_part) same-finding (pair_ends number_part number_part number_ends number_ends)

-- ---- What is seen of an effect

attr_part : (ℕ × List ℕ) × List ℕ → List ℕ
attr_part = pair_part (pair_part number_part text_part) text_part

attr_ends : Ends attr_part
unfolding attr_part
attr_ends = pair_ends (pair_part number_part text_part) text_part (pair_ends number_part text_part number_ends text_ends) text_ends

attr_sight : (ℕ × List ℕ) × List ℕ → Sight
attr_sight a = OnAttr (record { ordinal = a.0.0 }) a.0.1 a.1

root_sight : ℕ → Sight
root_sight n = OnRoot (record { ordinal = n })

sight_ends : Ends sight_part
unfolding attr_part attr_sight root_sight
sight_ends (OnRoot m) (OnRoot n) r s q =
    let p = pair_ends flag_part number_part flag_ends number_ends (false, m.ordinal) (false, n.ordinal) r s q in
    (ap (λ (x : Bool × ℕ). root_sight x.1) p.0, p.1)
sight_ends (OnAttr m a b) (OnAttr n c d) r s q =
    let p = pair_ends flag_part attr_part flag_ends attr_ends (true, ((m.ordinal, a), b)) (true, ((n.ordinal, c), d)) r s q in
    (ap (λ (x : Bool × ((ℕ × List ℕ) × List ℕ)). attr_sight x.1) p.0, p.1)
sight_ends (OnRoot m) (OnAttr n c d) r s q = let h : ◌≡◌ {A = ℕ} 0 1 = cc in absurd (omega arith)
sight_ends (OnAttr m a b) (OnRoot n) r s q = let h : ◌≡◌ {A = ℕ} 1 0 = cc in absurd (omega arith)

-- ---- Records

abbrev ToldParts : Type 0
ToldParts = (((((Option ℕ × Finding) × Bool) × Bool) × List ℕ) × List ℕ) × Option Sight

told_parts : ToldParts → List ℕ
told_parts = pair_part (pair_part (pair_part (pair_part (pair_part (pair_part (option_part number_part) finding_part) flag_part) flag_part) text_part) text_part) (option_part sight_part)

told_parts_end : Ends told_parts
unfolding told_parts
told_parts_end =
    pair_ends (pair_part (pair_part (pair_part (pair_part (pair_part (option_part number_part) finding_part) flag_part) flag_part) text_part) text_part) (option_part sight_part)
    (pair_ends (pair_part (pair_part (pair_part (pair_part (option_part number_part) finding_part) flag_part) flag_part) text_part) text_part
    (pair_ends (pair_part (pair_part (pair_part (option_part number_part) finding_part) flag_part) flag_part) text_part
    (pair_ends (pair_part (pair_part (option_part number_part) finding_part) flag_part) flag_part
    (pair_ends (pair_part (option_part number_part) finding_part) flag_part
    (pair_ends (option_part number_part) finding_part (option_ends number_part number_ends) finding_ends) flag_ends) flag_ends) text_ends) text_ends) (option_ends sight_part sight_ends)

told_ends_so : Ends told_part
unfolding told_parts
told_ends_so = told_ends
    (λ (t : Told). ((((((t.worker, t.finding), t.sent), t.lost), t.did), t.did_unseen), t.sight))
    (λ (p : ToldParts). record { worker = p.0.0.0.0.0.0; finding = p.0.0.0.0.0.1; sent = p.0.0.0.0.1; lost = p.0.0.0.1; did = p.0.0.1; did_unseen = p.0.1; sight = p.1 })
    told_parts (λ t. refl) told_parts_end

abbrev LineParts : Type 0
LineParts = (((((Name × ℕ) × ℤ) × Entered) × Outcome) × Bool) × Option Told

line_parts : LineParts → List ℕ
line_parts = pair_part (pair_part (pair_part (pair_part (pair_part (pair_part (list_part number_part) number_part) signed_part) verdict_part) came_part) flag_part) (option_part told_part)

line_parts_end : Ends line_parts
unfolding line_parts
line_parts_end =
    pair_ends (pair_part (pair_part (pair_part (pair_part (pair_part (list_part number_part) number_part) signed_part) verdict_part) came_part) flag_part) (option_part told_part)
    (pair_ends (pair_part (pair_part (pair_part (pair_part (list_part number_part) number_part) signed_part) verdict_part) came_part) flag_part
    (pair_ends (pair_part (pair_part (pair_part (list_part number_part) number_part) signed_part) verdict_part) came_part
    (pair_ends (pair_part (pair_part (list_part number_part) number_part) signed_part) verdict_part
    (pair_ends (pair_part (list_part number_part) number_part) signed_part
    (pair_ends (list_part number_part) number_part (list_ends number_part number_ends) number_ends) signed_ends) verdict_ends) came_ends) flag_ends) (option_ends told_part told_ends_so)

line_ends : Ends line_part
unfolding line_parts
line_ends = told_ends
    (λ (l : Line). ((((((l.name, l.number), l.nr), l.verdict), l.came), l.installed), l.session))
    (λ (p : LineParts). record { name = p.0.0.0.0.0.0; number = p.0.0.0.0.0.1; nr = p.0.0.0.0.1; verdict = p.0.0.0.1; came = p.0.0.1; installed = p.0.1; session = p.1 })
    line_parts (λ l. refl) line_parts_end

pub lines_end : Ends lines_part
lines_end = list_ends line_part line_ends
