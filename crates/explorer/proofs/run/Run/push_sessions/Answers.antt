use Rattle.std.proofs.Common.{◌≡◌, ◌++◌, ◌∙◌, ℕ, List, append_assoc, ap, sym, subst, arith}
use Rattle.std.specs.List.{flat_map, range_with_len}
use Rattle.explorer.specs.Keys.{session_part}
use Rattle.explorer.specs.Runs.{story}
use Rattle.explorer.proofs.SessionParts.{sessions_more}
use Rattle.explorer.proofs.run.Run.push_sessions.Goals as goal

pub loop-worker-preserved : goal.loop-worker-preserved
loop-worker-preserved c =
    let K = story c.args.self.now in
    let w = c.loop-worker.worker in
    let old = c.args.key.now.items in
    let so_far = flat_map (session_part K) (range_with_len 0 w) in
    c.in_ok-push_session.ensures
    ∙ (ap (λ (xs : List ℕ). xs ++ session_part K w) c.loop-worker.invariant ∙ (append_assoc old so_far (session_part K w) ∙ ap (λ (xs : List ℕ). old ++ xs) (sym (sessions_more K w))))

pub returns : goal.returns
returns c =
    let K = story c.args.self.now in
    let all : c.loop-worker.worker ≡ 16 = omega arith in
    subst (λ (n : ℕ). c.loop-worker.key.items ≡ c.args.key.now.items ++ flat_map (session_part K) (range_with_len 0 n)) all c.loop-worker.invariant
