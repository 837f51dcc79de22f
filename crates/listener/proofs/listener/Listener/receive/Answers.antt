use Rattle.std.proofs.Common.{refl, arith, ◌∙◌}
use Rattle.std.specs.Prelude.{Ok, Err}
use Rattle.history_frames.specs.Ordinals.{task_name_of}
use Rattle.hist_model.specs.declared.event.What.TheVariants.{Recv}
use Rattle.sys_abi.specs.Errnos.{enoent}
use Rattle.listener.proofs.Stand.{follow, gone-is, if-ok, looks, next-is}
use Rattle.listener.proofs.listener.Listener.receive.Goals as goal

pub returns-clause-next : goal.returns-clause-next
returns-clause-next c = if-ok _ _ c.fetch.result (λ f h first K S. next-is first K c.args.self.now S f (λ names. h names c.args.self.now.requests)) c.fetch.ensures.next

pub returns-clause-step : goal.returns-clause-step
returns-clause-step c = if-ok _ _ c.fetch.result (λ f h first K e S r. follow first K c.args.self.now S e e.who (Recv (Ok r.notif)) _ refl r.is tt (λ names n. h names c.args.self.now.requests ∙ rw r.id_is refl)) c.fetch.ensures.step

pub returns-clause-gone : goal.returns-clause-gone
returns-clause-gone c g first K S =
    let l = looks first K c.args.self.now S in
    let h = c.fetch.ensures.gone g (task_name_of K) c.args.self.now.requests in
    (omega (arith, h.0, l.entered_is, l.received_is), gone-is first K c.args.self.now S h.1)

pub returns-clause-gone_step : goal.returns-clause-gone_step
returns-clause-gone_step c g first K e S what = follow first K c.args.self.now S e e.who (Recv (Err enoent)) _ refl what tt (λ names n. (c.fetch.ensures.gone g names c.args.self.now.requests).2)

pub returns-clause-empty : goal.returns-clause-empty
returns-clause-empty c h first K S = let l = looks first K c.args.self.now S in omega (arith, (c.fetch.ensures.empty h).0, l.entered_is, l.received_is)
