-- They are those for the call in hand, if there is one.
use Rattle.std.proofs.Common.{ap, ◌≡◌, ◌∙◌}
use Rattle.std.proofs.lemmas.Result.{IfOk-weaker}
use Rattle.broker_verdict.specs.Effects.{texts_copied}
use Rattle.judge_pass.proofs.InHand.{call_kept, hand_is, in_hand, no_hand}
use Rattle.judge_pass.proofs.judge.Judge.texts_put.Goals as goal
use Rattle.judge_pass.proofs.judge.Judge.texts_put.Goals.{in_default-via-in-Some+else-is_put, in_default-via-in_default}

pub returns-in-Some : goal.returns-in-Some
returns-in-Some c = IfOk-weaker c.texts_copied.result _ _ (λ all e P S K w n s is put at.
    let seat = c.args.seat.now in
    let call = c.in-Some.call.now in
    let hand = in_hand c.args.self.now seat call c.in-Some.ensures in
    let there = hand_is P S K c.args.self.now w seat call s is hand in
    let same : call.place ≡ n = cc (there, at) in
    e K w call.place (call_kept P S K c.args.self.now w seat call s is hand).called is.reads_are ∙ ap (texts_copied K w) same)
    c.texts_copied.ensures

pub returns-in_default : goal.returns-in_default
returns-in_default c P S K w n s is put at = elim c.in_default.branch [
  | in_default-via-in-Some+else-is_put b ↦ let f = b.if-is_put.false in absurd (cc (f, put))
  | in_default-via-in_default b ↦ let none = no_hand S K c.args.self.now w c.args.seat.now is c.requires b.in_default.ensures in absurd (cc (none, at))
]
