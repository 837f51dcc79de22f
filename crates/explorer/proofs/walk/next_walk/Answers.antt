use Rattle.std.proofs.Common.{◌≡◌, ◌∙◌, suc, length, arith}
use Rattle.explorer.proofs.Walked.{goes_back, goes_on, none_back, nothing_left, turns_back, zero_left}
use Rattle.explorer.proofs.walk.next_walk.Goals as goal

pub frames-preserved-in_default-checked_sub : goal.frames-preserved-in_default-checked_sub
frames-preserved-in_default-checked_sub c =
    let P = c.args.policy.now in
    let i = c.frames.invariant in
    let is = c.in-Some.ensures.items in
    record {
      script = i.script;
      turns = turns_back P c.args.script c.args.workers c.frames.frames.items c.pop.new.self.items c.in-Some.frame is i.turns;
      rest = i.rest ∙ none_back P c.args.script c.args.workers c.frames.frames.items c.pop.new.self.items c.in-Some.frame is (zero_left c.in-Some.frame.left (λ l. c.in_default-checked_sub.ensures l));
    }

pub turn_later-requires-clause-turns : goal.turn_later-requires-clause-turns
turn_later-requires-clause-turns c =
    let i = c.frames.invariant in
    rw i.script (turns_back c.args.policy.now c.args.script c.args.workers c.frames.frames.items c.pop.new.self.items c.in-Some.frame c.in-Some.ensures.items i.turns)

pub frames-preserved : goal.frames-preserved
frames-preserved c =
    let P = c.args.policy.now in
    let S = c.args.script in
    let i = c.frames.invariant in
    let is = c.in-Some.ensures.items in
    let less : c.in-Some.frame.left ≡ suc c.in-Some-checked_sub.left = omega arith in
    let later = rw i.script at c.in_ok-back.ensures in
    let came = goes_back P S c.args.workers c.args.frames.now.items c.frames.frames.items c.pop.new.self.items c.turn_later.new.frames.items c.in-Some.frame is i.rest c.in-Some-checked_sub.left less c.in_ok-back.field-0 later c.in-Over.back c.in-Over.is in
    let same = came.1 in
    record {
      script = came.0;
      turns = rw same (turns_back P S c.args.workers c.frames.frames.items c.pop.new.self.items c.in-Some.frame is i.turns);
      rest = came.2;
    }

pub returns-in-Walks : goal.returns-in-Walks
returns-in-Walks c =
    let P = c.args.policy.now in
    let S = c.args.script in
    let i = c.frames.invariant in
    let is = c.in-Some.ensures.items in
    let less : c.in-Some.frame.left ≡ suc c.in-Some-checked_sub.left = omega arith in
    let later = rw i.script at c.in_ok-back.ensures in
    goes_on P S c.args.workers c.args.frames.now.items c.frames.frames.items c.pop.new.self.items c.turn_later.new.frames.items c.in-Some.frame is i.rest c.in-Some-checked_sub.left less c.in_ok-back.field-0 later c.in-Walks.run' c.in-Walks.left c.in-Walks.is

pub returns : goal.returns
returns c =
    let i = c.frames.invariant in
    let none : length c.frames.frames.items ≡ 0 = omega (arith, c.in_default.ensures.cases.0) in
    (i.script, i.rest ∙ nothing_left c.args.policy.now c.args.script c.args.workers c.frames.frames.items none)
