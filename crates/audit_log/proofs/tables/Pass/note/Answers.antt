-- The sessions go on by `begun_more`, and the counts by one event.
use Rattle.std.proofs.Common.{◌≡◌, ◌∷◌, sym, ap, subst, ◌∙◌, arith}
use Rattle.audit_log.specs.Sessions.{after_event, begun}
use Rattle.audit_log.specs.SessionTable.{StandsFor}
use Rattle.audit_log.proofs.Recorded.{where_ok}
use Rattle.audit_log.proofs.SessionEvents.{begun_more}
use Rattle.audit_log.proofs.tables.Pass.note.Goals as goal

pub returns : goal.returns
returns c = λ K l past.
    let e = c.args.event.now in
    let rules = c.args.policy.now.rules in
    let q : begun (e ∷ K) (e ∷ K) ≡ after_event c.args.place e (begun K K) = begun_more e K ∙ ap (λ n. after_event n e (begun K K)) l in
    where_ok c.note-2.result (λ (s : StandsFor rules (after_event c.args.place e (begun K K)) c.note-2.new.self).
    record { calls = c.in_ok-note.ensures K l past.calls; sessions = subst (λ S. StandsFor rules S c.note-2.new.self) (sym q) s; counts = c.add.ensures K (omega (arith, c.requires, l)) past.counts }
    ) (c.note-2.ensures (begun K K) past.sessions)
