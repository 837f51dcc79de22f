-- Lemmas on the faults of instructions.
-- By the definition of `fault_among`, and by `drop_more`, which puts the instruction at a place before those behind it.
use Rattle.std.proofs.Common.{◌≡◌, ℕ, ◌+◌, ◌-◌, ◌<◌, ◌≤◌, List, [], ◌∷◌, length, get_or, drop, None, Some, refl, ap, ◌∙◌, length-drop}
use Rattle.std.proofs.lemmas.List.{drop_more}
use Rattle.std.proofs.Math.ListN.{drop_of_length-le}
use Rattle.hist_model.specs.Filters.{fault_among, earlier_fault, insn_fault}
use Rattle.hist_model.specs.declared.script.Insn.{Insn}
use Rattle.hist_model.specs.declared.filter.FilterReason.{FilterReason}

faults-at : (place : ℕ) (i : Insn) (more : List Insn) → fault_among place (i ∷ more) ≡ earlier_fault place (insn_fault i (length more)) (fault_among (place + 1) more)
unfolding fault_among
faults-at place i more = refl

faults-end : (place : ℕ) → fault_among place [] ≡ None
unfolding fault_among
faults-end place = refl

faults-more : (insns : List Insn) (place : ℕ) (d : Insn) → place < length insns
    → fault_among place (drop place insns) ≡ earlier_fault place (insn_fault (get_or insns place d) (length insns - (place + 1))) (fault_among (place + 1) (drop (place + 1) insns))
faults-more insns place d l = rw (drop_more insns place d l, faults-at, length-drop) refl

-- the instruction at a place has a fault
pub faults_here : (insns : List Insn) (place : ℕ) (d : Insn) (reason : FilterReason) → place < length insns
    → insn_fault (get_or insns place d) (length insns - (place + 1)) ≡ Some reason
    → fault_among place (drop place insns) ≡ Some (record { at = place; reason = reason })
faults_here insns place d reason l e =
    faults-more insns place d l ∙ ap (λ f. earlier_fault place f (fault_among (place + 1) (drop (place + 1) insns))) e

-- it has none
pub faults_later : (insns : List Insn) (place : ℕ) (d : Insn) → place < length insns
    → insn_fault (get_or insns place d) (length insns - (place + 1)) ≡ None
    → fault_among place (drop place insns) ≡ fault_among (place + 1) (drop (place + 1) insns)
faults_later insns place d l e =
    faults-more insns place d l ∙ ap (λ f. earlier_fault place f (fault_among (place + 1) (drop (place + 1) insns))) e

pub faults_none : (insns : List Insn) (place : ℕ) → length insns ≤ place → fault_among place (drop place insns) ≡ None
faults_none insns place l = ap (fault_among place) (drop_of_length-le insns l) ∙ faults-end place
