-- The counts go on by `count_more`.
use Rattle.std.proofs.Common.{◌+◌, ◌-◌, ◌^◌, min, ap, ◌∙◌}
use Rattle.std.specs.Prelude.{if◌then◌else◌}
use Rattle.hist_model.specs.Kinds.{is_sent, notifies}
use Rattle.hist_model.specs.declared.event.Event.{Event}
use Rattle.audit_log.proofs.Counted.{count_more}
use Rattle.audit_log.proofs.count.EventCounts.add.Goals as goal

pub returns : goal.returns
returns c = λ K few past.
    let e = c.args.event.now in
    let old = c.args.self.now in
    let most = 2 ^ 64 - 1 in
    record {
      notified = count_more (λ (x : Event). notifies x.what) e K most old.notified c.one_if-self.result few past.notified
          (c.one_if-self.ensures ∙ ap (λ b. if b then min (old.notified + 1) most else old.notified) c.notifies.ensures);
      sent = count_more (λ (x : Event). is_sent x.what) e K most old.sent c.one_if-self-2.result few past.sent
          (c.one_if-self-2.ensures ∙ ap (λ b. if b then min (old.sent + 1) most else old.sent) c.is_sent.ensures);
    }
