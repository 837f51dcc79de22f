-- The parts of a table's key end by themselves, and so they tell the tasks, by which the state is known.
-- A record is told by its parts, which stand one after another; a disposition by its number.
use Rattle.std.proofs.Common.{◌≡◌, ℕ, Bool, List, [], ◌∷◌, ◌++◌, length, Option, refl, sym, ap, ap₂, ◌∙◌, arith}
use Rattle.std.specs.Prelude.{◌==◌, if◌then◌else◌, ℤ}
use Rattle.std.specs.List.{flat_map}
use Rattle.hist_model.specs.Look.{Name}
use Rattle.hist_model.specs.declared.event.Disposition.{Disposition}
use Rattle.hist_model.specs.declared.event.Disposition.TheVariants.{Default, Plain, Restart}
use Rattle.key_bytes.specs.Parts.{Ends, flag_part, list_part, number_part, option_part, pair_part, signed_part}
use Rattle.key_bytes.proofs.Ending.{flag_ends, list_ends, option_ends, pair_ends, signed_ends, told_ends}
use Rattle.key_bytes.proofs.Numbers.{number_ends}
use Rattle.tasks.specs.Keys.{TellStates, by_signal_part, call_part, disposition_code, disposition_part, member_part, progress_part}
use Rattle.tasks.specs.Table.{Member, member, members, rows_of}
use Rattle.tasks.specs.State.{State}
use Rattle.tasks.specs.declared.row.EnteredCall.{EnteredCall}
use Rattle.tasks.specs.declared.row.Progress.{Progress}
use Rattle.tasks.specs.declared.row.Task.{Task}
use Rattle.tasks.specs.declared.signals.BySignal.{BySignal}

-- ---- Signals

disposition_with : ℕ → Disposition
disposition_with n = if n == 0 then Default else (if n == 1 then Restart else Plain)

same-disposition : (d : Disposition) → disposition_with (disposition_code d) ≡ d
unfolding disposition_with
same-disposition Default = refl
same-disposition Restart = refl
same-disposition Plain = refl

disposition_ends : Ends disposition_part
disposition_ends = told_ends disposition_code disposition_with number_part same-disposition number_ends

by_signal_ends : {A : Type 0} (part : A → List ℕ) → Ends part → Ends (by_signal_part part)
by_signal_ends {A} part ends = told_ends
    (λ (b : BySignal A). (((b.kill, b.usr1), b.usr2), b.term))
    (λ (p : ((A × A) × A) × A). record { kill = p.0.0.0; usr1 = p.0.0.1; usr2 = p.0.1; term = p.1 })
    (pair_part (pair_part (pair_part part part) part) part) (λ b. refl)
    (pair_ends (pair_part (pair_part part part) part) part (pair_ends (pair_part part part) part (pair_ends part part ends ends) ends) ends)

-- ---- How far a task is

call_ends : Ends call_part
call_ends = told_ends (λ (c : EnteredCall). (c.nr, c.args)) (λ (p : ℤ × List ℕ). record { nr = p.0; args = p.1 }) (pair_part signed_part (list_part number_part)) (λ c. refl)
    (pair_ends signed_part (list_part number_part) signed_ends (list_ends number_part number_ends))

-- the places, and the calls
abbrev Places : Type 0
Places = (((ℕ × ℕ) × ℕ) × Option ℕ) × Option EnteredCall

places_part : Places → List ℕ
places_part = pair_part (pair_part (pair_part (pair_part number_part number_part) number_part) (option_part number_part)) (option_part call_part)

places_end : Ends places_part
unfolding places_part
places_end =
    pair_ends (pair_part (pair_part (pair_part number_part number_part) number_part) (option_part number_part)) (option_part call_part)
    (pair_ends (pair_part (pair_part number_part number_part) number_part) (option_part number_part)
    (pair_ends (pair_part number_part number_part) number_part (pair_ends number_part number_part number_ends number_ends) number_ends)
    (option_ends number_part number_ends)) (option_ends call_part call_ends)

abbrev Parts : Type 0
Parts = ((((Places × Bool) × Bool) × Bool) × BySignal Bool) × BySignal Disposition

progress_parts : Parts → List ℕ
progress_parts = pair_part (pair_part (pair_part (pair_part (pair_part places_part flag_part) flag_part) flag_part) (by_signal_part flag_part)) (by_signal_part disposition_part)

progress_parts_end : Ends progress_parts
unfolding progress_parts
progress_parts_end =
    pair_ends (pair_part (pair_part (pair_part (pair_part places_part flag_part) flag_part) flag_part) (by_signal_part flag_part)) (by_signal_part disposition_part)
    (pair_ends (pair_part (pair_part (pair_part places_part flag_part) flag_part) flag_part) (by_signal_part flag_part)
    (pair_ends (pair_part (pair_part places_part flag_part) flag_part) flag_part
    (pair_ends (pair_part places_part flag_part) flag_part (pair_ends places_part flag_part places_end flag_ends) flag_ends) flag_ends)
    (by_signal_ends flag_part flag_ends)) (by_signal_ends disposition_part disposition_ends)

progress_ends : Ends progress_part
unfolding progress_parts places_part
progress_ends = told_ends
    (λ (p : Progress). ((((((((((p.group, p.program), p.next), p.call), p.entered), p.owes), p.ended), p.waited), p.pending), p.dispositions)))
    (λ (p : Parts). record {
      group = p.0.0.0.0.0.0.0.0.0;
      program = p.0.0.0.0.0.0.0.0.1;
      next = p.0.0.0.0.0.0.0.1;
      call = p.0.0.0.0.0.0.1;
      entered = p.0.0.0.0.0.1;
      owes = p.0.0.0.0.1;
      ended = p.0.0.0.1;
      waited = p.0.0.1;
      pending = p.0.1;
      dispositions = p.1;
    })
    progress_parts (λ p. refl) progress_parts_end

-- ---- Tasks

abbrev MemberParts : Type 0
MemberParts = ((((Name × ℕ) × Option ℕ) × List (Option ℕ)) × List ℕ) × Progress

member_parts : MemberParts → List ℕ
member_parts = pair_part (pair_part (pair_part (pair_part (pair_part (list_part number_part) number_part) (option_part number_part)) (list_part (option_part number_part))) (list_part number_part)) progress_part

member_parts_end : Ends member_parts
unfolding member_parts
member_parts_end =
    pair_ends (pair_part (pair_part (pair_part (pair_part (list_part number_part) number_part) (option_part number_part)) (list_part (option_part number_part))) (list_part number_part)) progress_part
    (pair_ends (pair_part (pair_part (pair_part (list_part number_part) number_part) (option_part number_part)) (list_part (option_part number_part))) (list_part number_part)
    (pair_ends (pair_part (pair_part (list_part number_part) number_part) (option_part number_part)) (list_part (option_part number_part))
    (pair_ends (pair_part (list_part number_part) number_part) (option_part number_part)
    (pair_ends (list_part number_part) number_part (list_ends number_part number_ends) number_ends) (option_ends number_part number_ends))
    (list_ends (option_part number_part) (option_ends number_part number_ends))) (list_ends number_part number_ends)) progress_ends

member_ends : Ends member_part
unfolding member_parts
member_ends = told_ends
    (λ (t : Member). (((((t.name, t.pid), t.parent), t.children), t.waiting), t.progress))
    (λ (p : MemberParts). record { name = p.0.0.0.0.0; pid = p.0.0.0.0.1; parent = p.0.0.0.1; children = p.0.0.1; waiting = p.0.1; progress = p.1 })
    member_parts (λ t. refl) member_parts_end

-- ---- A table

parts-mapped : (ts : List Task) → flat_map (λ t. member_part (member t)) ts ≡ flat_map member_part (members ts)
parts-mapped [] = refl
parts-mapped (t ∷ ts) = ap (λ (more : List ℕ). member_part (member t) ++ more) (parts-mapped ts)

length-mapped : (ts : List Task) → length (members ts) ≡ length ts
length-mapped [] = refl
length-mapped (t ∷ ts) = let h = length-mapped ts in omega arith

-- the last PID, and the tasks
told_part : ℕ × List Member → List ℕ
told_part = pair_part number_part (list_part member_part)

told_end : Ends told_part
unfolding told_part
told_end = pair_ends number_part (list_part member_part) number_ends (list_ends member_part member_ends)

table-is : (last : ℕ) (ts : List Task)
    → number_part last ++ (number_part (length ts) ++ flat_map (λ t. member_part (member t)) ts) ≡ told_part (last, members ts)
unfolding told_part
table-is last ts = ap₂ (λ (n : ℕ) (more : List ℕ). number_part last ++ (number_part n ++ more)) (sym (length-mapped ts)) (parts-mapped ts)

pub tables_end : TellStates
tables_end a b r s q =
    let z : told_part (a.last, members a.tasks.items) ++ r ≡ told_part (b.last, members b.tasks.items) ++ s =
    ap (λ (bytes : List ℕ). bytes ++ r) (sym (table-is a.last a.tasks.items)) ∙ (q ∙ ap (λ (bytes : List ℕ). bytes ++ s) (table-is b.last b.tasks.items)) in
    let p = told_end (a.last, members a.tasks.items) (b.last, members b.tasks.items) r s z in
    (λ groups. ap (λ (k : ℕ × List Member). state-of groups k.0 k.1) p.0, p.1)
  where
    state-of : ℕ → ℕ → List Member → State
    state-of groups last ts = record { rows = rows_of ts; last = last; groups = groups }
