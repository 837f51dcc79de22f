use Rattle.std.proofs.Common.{refl, arith, sym, ◌∙◌}
use Rattle.judge_pass.proofs.Installed.{first-within}
use Rattle.judge_pass.proofs.judge.Judge.note_answered.Goals as goal

pub index_mut-requires-in-Some : goal.index_mut-requires-in-Some
index_mut-requires-in-Some c =
    let b = first-within c.args.self.now c.args.call c.index_mut.result.now c.in-Some.effect c.requires.within c.requires.call c.index_mut.ensures.value (sym c.install.ensures.effect ∙ c.in-Some.is) in
    omega (arith, b)

pub returns-in-Some : goal.returns-in-Some
returns-in-Some c = record {
  before = c.index_mut.result.now;
  before_is = c.index_mut.ensures.value;
  after = c.install.new.self;
  rows_are = refl;
  queue_is = c.install.ensures.queue;
  settled_is = rw (← c.is_ok.ensures.value) c.install.ensures.settled;
  rest_is = c.install.ensures.rest;
  done_are = rw (sym c.install.ensures.effect ∙ c.in-Some.is) (record {
    before = c.index_mut-in-Some.result.now;
    before_is = c.index_mut-in-Some.ensures.value;
    after = c.install-in-Some.new.self;
    rows_are = refl;
    put_is = c.install-in-Some.ensures.put;
    rest_is = c.install-in-Some.ensures.rest;
  });
  same = refl;
}

pub returns-in_default : goal.returns-in_default
returns-in_default c = record {
  before = c.index_mut.result.now;
  before_is = c.index_mut.ensures.value;
  after = c.install.new.self;
  rows_are = refl;
  queue_is = c.install.ensures.queue;
  settled_is = rw (← c.is_ok.ensures.value) c.install.ensures.settled;
  rest_is = c.install.ensures.rest;
  done_are = rw (sym c.install.ensures.effect ∙ c.in_default.is) refl;
  same = refl;
}
