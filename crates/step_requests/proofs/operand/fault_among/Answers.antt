-- The token at a place comes before the faults of those behind it.
use Rattle.std.proofs.Common.{◌≡◌, ◌+◌, ◌-◌, ◌<◌, length, drop, ap, sym, ◌∙◌, arith}
use Rattle.step_requests.specs.Operands.{earlier, fault_at, fault_from, operand_at}
use Rattle.step_requests.proofs.OperandFaults.{faults_here}
use Rattle.step_requests.proofs.operand.fault_among.Goals as goal

pub loop-place-preserved : goal.loop-place-preserved
loop-place-preserved c =
    let f = c.args.form in
    let line = c.args.line.now in
    let place = c.loop-place.place - 1 in
    let inside : place < length line = omega arith in
    let next : place + 1 ≡ c.loop-place.place = omega arith in
    let here : c.fault_at.result ≡ fault_at (operand_at f (length line) place) line place =
    c.fault_at.ensures ∙ ap (λ k. fault_at k line place) c.operand_at.ensures in
    let behind : c.loop-place.found ≡ fault_from f (length line) (place + 1) (drop (place + 1) line) =
    c.loop-place.invariant.found ∙ ap (λ k. fault_from f (length line) k (drop k line)) (sym next) in
    record {
      within = omega arith;
      found = c.earlier-found.ensures
          ∙ (ap (λ fault. earlier fault c.loop-place.found) here
          ∙ (ap (earlier (fault_at (operand_at f (length line) place) line place)) behind ∙ sym (faults_here f line (length line) place inside)));
    }
