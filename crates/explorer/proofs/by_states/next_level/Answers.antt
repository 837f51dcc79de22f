use Rattle.std.proofs.Common.{refl, ◌∙◌, [], get_or, arith}
use Rattle.explorer.proofs.LevelTurns.{all_gone, none_gone, one_gone, state_there}
use Rattle.explorer.proofs.by_states.next_level.Goals as goal

pub states-init : goal.states-init
states-init c = record {
  script = refl;
  gone = none_gone c.args.policy.now c.args.script c.args.workers c.args.bound c.args.states.now c.args.ends.now c.none-next.result c.none-next.ensures.states c.none-next.ensures.keys;
}

pub go_on-requires-clause-state : goal.go_on-requires-clause-state
go_on-requires-clause-state c =
    let (n, keys, groups, a) = c.requires.states in
    let at = c.states.state-index in
    rw c.states.invariant.script
    (n, get_or keys at [], get_or groups at [], state_there c.args.policy.now c.args.script c.args.workers c.args.bound c.args.states.now at c.state-item.result c.states-test.true c.state-item.is n keys groups a)

pub go_on-requires-clause-level : goal.go_on-requires-clause-level
go_on-requires-clause-level c = c.states.invariant.gone.one_each

pub states-preserved : goal.states-preserved
states-preserved c =
    let i = c.states.invariant in
    record {
      script = c.in_ok-script.ensures.script ∙ i.script;
      gone = one_gone c.args.policy.now c.args.script c.args.workers c.args.bound c.args.states.now c.states.state-index c.args.ends.now c.states.ends c.go_on.new.ends c.states.next c.go_on.new.next i.gone
          c.state-item.result c.states-test.true c.state-item.is (rw i.script at c.in_ok-script.ensures.goes_on) c.in_ok-script.ensures.level;
    }

pub returns-clause-goes_on : goal.returns-clause-goes_on
returns-clause-goes_on c = λ n keys groups a.
    all_gone c.args.policy.now c.args.script c.args.workers c.args.bound c.args.states.now c.states.state-index c.args.ends.now c.states.ends c.states.next c.states.invariant.gone (omega arith) n keys groups a
