use Rattle.std.proofs.Common.{◌<◌, ◌∙◌, sym, arith}
use Rattle.path_walk.proofs.Steps.{step_ends, step_goes, step_loops, step_follows, more_after}
use Rattle.path_walk.proofs.resolution.Reached.+by_text.Goals as goal

pub returns-in-Ends-clause-place : goal.returns-in-Ends-clause-place
returns-in-Ends-clause-place t c = λ cs h.
    c.loop-component.invariant.place cs h
    ∙ step_ends _ _ _ _ _ _ _ _ cs _ _ _ c.in-Some.ensures.some c.has_more-more.ensures c.names_node-names.ensures h _ (sym c.in-Ends.ensures.turn)

pub returns-then-here-eq0-clause-place : goal.returns-then-here-eq0-clause-place
returns-then-here-eq0-clause-place t c = λ cs h.
    c.loop-component.invariant.place cs h
    ∙ step_loops _ _ _ _ _ _ _ _ cs _ _ _ c.in-Some.ensures.some c.has_more-more.ensures c.names_node-names.ensures h _ (sym c.in-Follows.ensures.turn) c.if-here-eq0.true

pub returns-in-Err-clause-place : goal.returns-in-Err-clause-place
returns-in-Err-clause-place t c = λ cs h.
    let some : 0 < c.loop-component.here.links = omega arith in
    let after = more_after _ _ _ cs c.has_more-more.ensures h in
    c.loop-component.invariant.place cs h
    ∙ step_follows _ _ _ _ _ _ _ _ cs _ _ _ c.in-Some.ensures.some c.has_more-more.ensures c.names_node-names.ensures h _ _ _ (sym c.in-Follows.ensures.turn) some c.link_start-from.ensures (c.in-Err.ensures.place _ after)

pub loop-component-preserved-in-Goes : goal.loop-component-preserved-in-Goes
loop-component-preserved-in-Goes t c = record {
  place = λ cs h.
      c.loop-component.invariant.place cs h
      ∙ step_goes _ _ _ _ _ _ _ _ cs _ _ _ c.in-Some.ensures.some c.has_more-more.ensures c.names_node-names.ensures h _ (sym c.in-Goes.ensures.turn);
  links = c.loop-component.invariant.links;
}

pub loop-component-preserved : goal.loop-component-preserved
loop-component-preserved t c =
    let some : 0 < c.loop-component.here.links = omega arith in
    record {
      place = λ cs h.
          let after = more_after _ _ _ cs c.has_more-more.ensures h in
          c.loop-component.invariant.place cs h
          ∙ step_follows _ _ _ _ _ _ _ _ cs _ _ _ c.in-Some.ensures.some c.has_more-more.ensures c.names_node-names.ensures h _ _ _ (sym c.in-Follows.ensures.turn) some c.link_start-from.ensures (c.in-Ok.ensures.place _ after);
      links = omega (arith, c.in-Ok.ensures.links);
    }
