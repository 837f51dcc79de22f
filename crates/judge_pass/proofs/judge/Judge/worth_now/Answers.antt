-- The group whose memory is read is compared with that of the call's task.
use Rattle.std.proofs.Common.{true, false}
use Rattle.judge_pass.proofs.HandTests.{caller-within, worth-foreign, worth-none, worth-own}
use Rattle.judge_pass.proofs.InHand.{in_hand}
use Rattle.judge_pass.proofs.judge.Judge.worth_now.Goals as goal

pub caller_group-requires : goal.caller_group-requires
caller_group-requires c = caller-within c.args.self.now c.args.seat.now c.in-Some.call.now c.requires.within (in_hand c.args.self.now c.args.seat.now c.in-Some.call.now c.in-Some.ensures) c.requires.call

pub returns-then-call : goal.returns-then-call
returns-then-call c P S K m s at =
    worth-own P S K c.args.self.now s c.args.seat.now c.in-Some.call.now (in_hand c.args.self.now c.args.seat.now c.in-Some.call.now c.in-Some.ensures) c.requires.call
    c.caller_group.result c.args.group m c.caller_group.ensures at c.if-caller_group-group.true true c.if-call.true

pub returns-else-call : goal.returns-else-call
returns-else-call c P S K m s at =
    worth-own P S K c.args.self.now s c.args.seat.now c.in-Some.call.now (in_hand c.args.self.now c.args.seat.now c.in-Some.call.now c.in-Some.ensures) c.requires.call
    c.caller_group.result c.args.group m c.caller_group.ensures at c.if-caller_group-group.true false c.if-call.false

pub returns-in_default : goal.returns-in_default
returns-in_default c P S K m s at =
    worth-foreign P S K c.args.self.now s c.args.seat.now c.in-Some.call.now (in_hand c.args.self.now c.args.seat.now c.in-Some.call.now c.in-Some.ensures) c.requires.call
    c.caller_group.result c.args.group m c.caller_group.ensures at c.if-caller_group-group.false

pub returns-in_default-2 : goal.returns-in_default-2
returns-in_default-2 c P S K m s at = worth-none K c.args.self.now c.args.seat.now m c.requires.call (rw c.in_default.is at c.call_of.ensures)
