-- The descriptor of the call in hand is looked up in the group of its task.
use Rattle.std.proofs.Common.{◌≡◌, sym, ◌∙◌, rules, to_z, of_z, w32}
use Rattle.judge_pass.specs.Stands.{IsSeat}
use Rattle.judge_pass.specs.Within.{IsSeatWithin}
use Rattle.judge_pass.proofs.HandTests.{based-none, based-some, flip}
use Rattle.judge_pass.proofs.InHand.{call_kept, hand_is, hand_within, in_hand, no_hand}
use Rattle.judge_pass.proofs.judge.Judge.has_no_base.Goals as goal

pub caller_group-requires : goal.caller_group-requires
caller_group-requires c =
    let j = c.args.self.now in
    let seat = c.index.result.now in
    let low : IsSeatWithin j seat = rw (← c.index.ensures) at (c.requires.within.seats c.args.worker seat c.requires.worker) in
    (hand_within j seat c.in-Some.call.now c.requires.within low (in_hand j seat c.in-Some.call.now c.in-Some.ensures)).caller

pub returns-then-is_base_of : goal.returns-then-is_base_of
returns-then-is_base_of c P K s =
    let j = c.args.self.now in
    let S = c.args.script.now in
    let seat = c.index.result.now in
    let call = c.in-Some.call.now in
    let hand = in_hand j seat call c.in-Some.ensures in
    let is : IsSeat S K c.args.worker seat = rw (← c.index.ensures) at (s.seats c.args.worker seat c.requires.worker) in
    let same : to_z w32 (of_z w32 c.args.dirfd) ≡ c.args.dirfd = search rules in
    let own = rw same at c.is_base_of.ensures in
    let z = based-some P S K j c.args.worker hand.number c.caller_group.result c.args.dirfd call c.named-named.result s (call_kept P S K j c.args.worker seat call s is hand) (hand_is P S K j c.args.worker seat call s is hand)
    c.caller_group.ensures (rw same at c.named-named.ensures) in
    flip c.named-named.result c.is_none.result c.is_none.ensures ∙ (rw (sym own ∙ c.if-is_base_of.true) at z)

pub returns-else-is_base_of : goal.returns-else-is_base_of
returns-else-is_base_of c P K s =
    let j = c.args.self.now in
    let S = c.args.script.now in
    let seat = c.index.result.now in
    let call = c.in-Some.call.now in
    let hand = in_hand j seat call c.in-Some.ensures in
    let is : IsSeat S K c.args.worker seat = rw (← c.index.ensures) at (s.seats c.args.worker seat c.requires.worker) in
    let same : to_z w32 (of_z w32 c.args.dirfd) ≡ c.args.dirfd = search rules in
    let own = rw same at c.is_base_of.ensures in
    let z = based-some P S K j c.args.worker hand.number c.caller_group.result c.args.dirfd call c.named-named.result s (call_kept P S K j c.args.worker seat call s is hand) (hand_is P S K j c.args.worker seat call s is hand)
    c.caller_group.ensures (rw same at c.named-named.ensures) in
    c.if-is_base_of.false ∙ (rw (sym own ∙ c.if-is_base_of.false) at z)

pub returns-in-None : goal.returns-in-None
returns-in-None c P K s =
    let j = c.args.self.now in
    let seat = c.index.result.now in
    let low : IsSeatWithin j seat = rw (← c.index.ensures) at (c.requires.within.seats c.args.worker seat c.requires.worker) in
    let is : IsSeat c.args.script.now K c.args.worker seat = rw (← c.index.ensures) at (s.seats c.args.worker seat c.requires.worker) in
    based-none c.args.script.now K c.args.worker c.args.dirfd (no_hand c.args.script.now K j c.args.worker seat is low c.in-None.ensures)
