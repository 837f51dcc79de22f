-- The operand at a place comes before the faults of those after it.
use Rattle.std.proofs.Common.{◌≡◌, ◌+◌, ◌-◌, ◌<◌, length, drop, ap, sym, ◌∙◌, arith}
use Rattle.script_reader.specs.Operands.{earlier, fault_at, fault_from, operand_at}
use Rattle.script_reader.proofs.OperandFaults.{faults_here}
use Rattle.script_reader.proofs.operand.fault_among.Goals as goal

pub loop-place-preserved : goal.loop-place-preserved
loop-place-preserved c =
    let w = c.args.word in
    let operands = c.args.operands.now in
    let place = c.loop-place.place - 1 in
    let inside : place < length operands = omega arith in
    let next : place + 1 ≡ c.loop-place.place = omega arith in
    let kind : c.operand_at.result ≡ operand_at w operands place = c.operand_at.ensures ∙ ap (λ tokens. operand_at w tokens place) c.tokens.ensures in
    let here : c.operand_fault.result ≡ fault_at (operand_at w operands place) operands place = c.operand_fault.ensures ∙ ap (λ k. fault_at k operands place) kind in
    let behind : c.loop-place.found ≡ fault_from w operands (place + 1) (drop (place + 1) operands) =
    c.loop-place.invariant.found ∙ ap (λ k. fault_from w operands k (drop k operands)) (sym next) in
    record {
      within = omega arith;
      found = c.earlier-found.ensures
          ∙ (ap (λ fault. earlier fault c.loop-place.found) here ∙ (ap (earlier (fault_at (operand_at w operands place) operands place)) behind ∙ sym (faults_here w operands place inside)));
    }
