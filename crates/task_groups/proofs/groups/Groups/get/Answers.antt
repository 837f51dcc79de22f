use Rattle.std.proofs.Common.{◌≡◌, arith, ◌∙◌}
use Rattle.std.proofs.lemmas.Grind.{common_steps}
use Rattle.task_groups.specs.Rows.{obj_in}
use Rattle.task_groups.proofs.Answered.{found-slot}
use Rattle.task_groups.proofs.groups.Groups.get.Goals as goal

pub returns : goal.returns
returns c s T =
    let mapped : c.map.result ≡ obj_in c.find.result = grind (arith, common_steps) in
    mapped ∙ found-slot s c.args.self.now c.args.o c.args.n c.find.result T c.requires (c.find.ensures T.sound)
