-- All reads are noted where nothing was noted before, and each byte has its best.
use Rattle.std.proofs.Common.{◌≡◌, ℕ, List, length, get_or, arith, ap, sym, ◌∙◌}
use Rattle.std.specs.Prelude.{nat_le}
use Rattle.std.proofs.lemmas.List.{get_or-replicate}
use Rattle.broker_verdict.specs.Seats.{rank}
use Rattle.broker_judge.specs.Copied.{worth_so}
use Rattle.broker_judge.specs.Reads.{worth_of}
use Rattle.broker_judge.proofs.Best.{all_best, most_rank, noted_first}
use Rattle.broker_judge.proofs.Written.{written}
use Rattle.broker_judge.proofs.texts.rank_of_bytes.Goals as goal

pub returns : goal.returns
returns c = λ least.
    let best : c.as_slice.result.now ≡ c.note_reads.new.best =
    c.as_slice.ensures.value ∙ written c.in_ok-best.best.len c.note_reads.new.best c.in_ok-best.best.items (omega arith) in
    let size : length c.note_reads.new.best ≡ length c.args.wanted.now = omega (arith, c.in_ok-best.ensures.len) in
    all_best (rank (worth_of least)) (worth_so least c.args.reads.now) c.args.addr c.args.wanted.now c.as_slice.result.now (omega arith) (ap length best ∙ size)
    (λ i low. ap (λ (l : List ℕ). nat_le (rank (worth_of least)) (get_or l i 0)) best ∙ c.note_reads.ensures.noted i (omega arith) least
    ∙ noted_first least _ _
    (ap (λ (l : List ℕ). get_or l i 0) (c.as_mut_slice.ensures.value ∙ c.in_ok-best.ensures.items_if_clones_equal (λ y h. h))
    ∙ get_or-replicate (length c.args.wanted.now) i 0 0 low))
    ∙ sym (c.least.ensures (rank (worth_of least)) (most_rank least))
