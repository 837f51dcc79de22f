use Rattle.model_kernel.proofs.NativeCalls.{due, ran}
use Rattle.model_kernel.proofs.Words.{memories_in}
use Rattle.model_kernel.proofs.resources.Resources.run.Goals as goal

pub returns-clause-answer : goal.returns-clause-answer
returns-clause-answer c S K living n g T own at pid entered =
    c.run.ensures.answer S K living (memories_in c.args.self.now.workers) n (due S K living c.args.self.now T c.args.group n g c.args.pid c.args.call own at pid entered)

pub returns-clause-step : goal.returns-clause-step
returns-clause-step c S K living n g T own at pid entered =
    ran S K living c.args.self.now T n _ c.run.new.tree c.run.new.walk c.run.new.groups
    (c.run.ensures.step S K living (memories_in c.args.self.now.workers) n (due S K living c.args.self.now T c.args.group n g c.args.pid c.args.call own at pid entered))
