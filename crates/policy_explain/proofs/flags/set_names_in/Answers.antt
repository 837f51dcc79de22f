-- One turn adds the name of the next flag, where it is set.
use Rattle.std.proofs.Common.{sym, ◌∙◌, rules}
use Rattle.hist_model.specs.Decisions.{has_flag}
use Rattle.policy_explain.proofs.FlagNames.{set_in-all, set_turn, unset_turn}
use Rattle.policy_explain.proofs.flags.set_names_in.Goals as goal
use Rattle.policy_explain.proofs.flags.set_names_in.Goals.{then-has_flag+in_ok-push, else-has_flag}

pub loop-row-preserved : goal.loop-row-preserved
loop-row-preserved c =
    elim c.if-has_flag.branch [
      | then-has_flag+in_ok-push w ↦
          rw w.names-is
          (set_turn (λ row. row.0.now) (λ row. has_flag c.args.request.now row.1) c.args.rows.now c.loop-row.row-index _ c.loop-row.names.items _ _
          c.loop-row-test.true c.loop-row.invariant (sym c.has_flag.ensures ∙ w.if-has_flag.true) w.in_ok-push.ensures.items (search rules))
      | else-has_flag w ↦
          rw w.names-is
          (unset_turn (λ row. row.0.now) (λ row. has_flag c.args.request.now row.1) c.args.rows.now c.loop-row.row-index _ _
          c.loop-row-test.true c.loop-row.invariant (sym c.has_flag.ensures ∙ w.if-has_flag.false))
    ]

pub returns : goal.returns
returns c = c.loop-row.invariant ∙ set_in-all (λ row. row.0.now) (λ row. row.1) (λ f. has_flag c.args.request.now f) c.args.rows.now c.loop-row.row-index c.loop-row-test.false
