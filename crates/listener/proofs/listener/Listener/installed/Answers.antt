use Rattle.std.proofs.Common.{◌∙◌}
use Rattle.listener.specs.Listeners.{view}
use Rattle.listener.specs.State.{result_reply, told}
use Rattle.listener.proofs.Stand.{sent-asks, stands-installed}
use Rattle.listener.proofs.listener.Listener.installed.Goals as goal

pub returns : goal.returns
returns c first K e place S l i = stands-installed first K c.args.self.now S e place c.args.id c.args.asked.now c.args.answer _ l i (λ names. c.note_installation.ensures names c.done.new.self ∙ rw c.done.ensures (sent-asks c.args.asked.now (result_reply c.args.answer) c.args.id (told c.args.id c.args.answer) (view c.args.self.now names)))
