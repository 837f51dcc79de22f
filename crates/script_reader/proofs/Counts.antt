-- Totals that are kept in 64 bits are those of the instructions, up to the greatest number: by the laws of sums.
-- By arithmetic on each total, and by `fold-append` for the totals of a body with one more instruction.
use Rattle.std.proofs.Common.{◌≡◌, ℕ, ◌+◌, max, List, [], ◌∷◌, ◌++◌, refl, ap, sym, ◌∙◌, arith}
use Rattle.std.proofs.lemmas.List.Sums.{fold-append}
use Rattle.hist_model.specs.declared.script.Instr.{Instr}
use Rattle.hist_model.specs.declared.script.Totals.{Totals}
use Rattle.script_reader.specs.Capped.{cap, capped}
use Rattle.hist_model.specs.Totals.{no_totals, with_totals, added_by, totals_of}

cap-sum : (a b : ℕ) → cap (cap a + cap b) ≡ cap (a + b)
cap-sum a b = grind arith

cap-max : (a b : ℕ) → cap (max (cap a) (cap b)) ≡ cap (max a b)
cap-max a b = grind arith

capped-sum : (sum more : Totals) → capped (with_totals (capped sum) (capped more)) ≡ capped (with_totals sum more)
capped-sum sum more =
    rw (cap-sum sum.executed more.executed, cap-sum sum.calls more.calls, cap-sum sum.starts more.starts, cap-sum sum.stored more.stored, cap-max sum.depth more.depth) refl

-- one more instruction
pub totals_more : (above : List Totals) (body : List Instr) (i : Instr) (running added : Totals)
    → running ≡ capped (totals_of above body) → added ≡ capped (added_by above i)
    → capped (with_totals running added) ≡ capped (totals_of above (body ++ i ∷ []))
totals_more above body i running added r a =
    ap (λ t. capped (with_totals t added)) r
    ∙ (ap (λ t. capped (with_totals (capped (totals_of above body)) t)) a
    ∙ (capped-sum (totals_of above body) (added_by above i)
    ∙ ap capped (sym (fold-append (λ sum j. with_totals sum (added_by above j)) no_totals body (i ∷ [])))))
