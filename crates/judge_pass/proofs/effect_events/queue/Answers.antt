-- The row of the call, with one request more.
use Rattle.std.proofs.Common.{refl}
use Rattle.judge_pass.proofs.effect_events.queue.Goals as goal

pub returns : goal.returns
returns c = record {
  made = c.requires;
  before = c.index_mut.result.now;
  before_is = c.index_mut.ensures.value;
  after = record c.index_mut.result.now { queue = c.push.new.self };
  rows_are = refl;
  queue_is = c.in_ok-push.ensures.items;
  rest_is = refl;
  same = refl;
}
