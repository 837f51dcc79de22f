use Rattle.std.proofs.Common.{refl, sym, ◌∙◌}
use Rattle.listener.proofs.listener.note_put.Goals as goal

pub returns-then-has_send_flag : goal.returns-then-has_send_flag
returns-then-has_send_flag c names asks = c.set_reply.ensures names asks ∙ rw (sym c.has_send_flag.ensures ∙ c.if-has_send_flag.true) refl
