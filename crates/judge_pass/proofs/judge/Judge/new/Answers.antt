use Rattle.std.proofs.Common.{arith, refl, sym, ◌∙◌}
use Rattle.judge_pass.proofs.Started.{stands-none}
use Rattle.judge_pass.proofs.judge.Judge.new.Goals as goal

pub returns : goal.returns
returns c S script h = stands-none c.args.policy.now S _ script (rw h (omega arith)) c.new.ensures.items refl c.new-2.ensures.rows (c.new-2.ensures.first ∙ sym h) c.new-3.ensures c.new-4.ensures.items c.in_ok-idle_seats.ensures.number c.in_ok-idle_seats.ensures.idle c.in_ok-none_done.ensures refl refl refl
