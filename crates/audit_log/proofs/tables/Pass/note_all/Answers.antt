-- One more event is past: by `past_more`.
use Rattle.std.proofs.Common.{◌≡◌, ◌+◌, ◌∷◌, reverse, take, sym, ap, subst, ◌∙◌, arith}
use Rattle.audit_log.specs.Pass.{HasPast}
use Rattle.audit_log.proofs.Past.{past_more, length_taken}
use Rattle.audit_log.proofs.tables.Pass.note_all.Goals as goal

pub loop-place-preserved : goal.loop-place-preserved
loop-place-preserved c = λ none.
    let xs = c.args.events.now in
    let i = c.loop-place.place in
    let e = c.index-events-place.result in
    let K = reverse (take i xs) in
    let m : reverse (take (i + 1) xs) ≡ e ∷ K = past_more xs i e (omega arith) ∙ ap (λ x. x ∷ K) (sym c.index-events-place.is) in
    subst (λ H. HasPast c.args.policy.now.rules H c.note.new.self) (sym m) (c.in_ok-note.ensures K (length_taken xs i (omega arith)) (c.loop-place.invariant none))
