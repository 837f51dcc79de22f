-- All reads are laid over bytes of which nothing was known, as far as they reach.
use Rattle.std.proofs.Common.{List, arith, ap, ◌∙◌}
use Rattle.broker_judge.specs.Copied.{seen_at}
use Rattle.broker_judge.specs.declared.reads.Seen.{Seen}
use Rattle.broker_judge.proofs.Laid.{over_none}
use Rattle.broker_judge.proofs.Written.{within_or_behind, written}
use Rattle.broker_judge.proofs.copies.newest_bytes.Goals as goal

pub returns : goal.returns
returns c = λ i low.
    ap (λ (seen : List Seen). seen_at seen i) (written c.in_ok-seen.seen.len c.lay_all.new.seen c.in_ok-seen.seen.items (omega arith))
    ∙ within_or_behind c.lay_all.new.seen c.reach.result i _ (omega (arith, c.in_ok-seen.ensures.size))
    (λ under. over_none _ _ _ (ap (λ (seen : List Seen). seen_at seen i) c.as_mut_slice.ensures.value ∙ c.in_ok-seen.ensures.unread i)
    (c.lay_all.ensures.laid i (omega (arith, c.in_ok-seen.ensures.size))))
    (λ behind. c.reach.ensures.behind i behind low)
