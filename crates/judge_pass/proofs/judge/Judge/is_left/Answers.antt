use Rattle.std.proofs.Common.{true, false, ◌≡◌, sym, ◌∙◌, ap, ◌&&◌}
use Rattle.std.specs.Prelude.{not}
use Rattle.judge_pass.specs.Tables.{holds_call, waits}
use Rattle.judge_pass.proofs.LeftCalls.{left-same}
use Rattle.judge_pass.proofs.judge.Judge.is_left.Goals as goal

pub returns-then-is_waiting : goal.returns-then-is_waiting
returns-then-is_waiting c P S K p s at =
    let row = c.index-row.result.now in
    let yes : waits row ≡ true = sym c.is_waiting.ensures ∙ c.if-is_waiting.true in
    let z : (waits row && not (holds_call c.args.self.now.seats.items row.fetcher c.args.call)) ≡ _ = left-same P S K c.args.self.now c.args.call p row s at c.requires.call c.index-row.ensures in
    ap not c.is_held.ensures ∙ (rw yes at z)

pub returns-else-is_waiting : goal.returns-else-is_waiting
returns-else-is_waiting c P S K p s at =
    let row = c.index-row.result.now in
    let no : waits row ≡ false = sym c.is_waiting.ensures ∙ c.if-is_waiting.false in
    let z : (waits row && not (holds_call c.args.self.now.seats.items row.fetcher c.args.call)) ≡ _ = left-same P S K c.args.self.now c.args.call p row s at c.requires.call c.index-row.ensures in
    c.if-is_waiting.false ∙ (rw no at z)
