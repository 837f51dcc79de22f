use Rattle.task_groups.proofs.PageBytes.{part_at}
use Rattle.task_groups.proofs.page_bytes.part.Goals as goal

pub returns-clause-bytes : goal.returns-clause-bytes
returns-clause-bytes c i l = part_at c.args.page.now c.args.offset c.args.count c.min-end.result c.min.result i c.min-end.ensures c.min.ensures l
