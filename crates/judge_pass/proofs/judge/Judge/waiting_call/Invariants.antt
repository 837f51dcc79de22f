use Rattle.judge_pass.proofs.WaitingRows.{AreIdleBefore}
use Rattle.judge_pass.proofs.judge.Judge.waiting_call.Given as goal

abbrev pub invariant-rows : goal.invariant-rows
invariant-rows l = AreIdleBefore l.self.calls.rows.items l.number
