-- A frame is added for each request that is yielded, and at the end these are all.
use Rattle.std.proofs.Common.{sym, ap, ◌∙◌, append-nil, map-id, rules}
use Rattle.std.proofs.lemmas.Iterator.Adapters.{YieldsList-from_vec}
use Rattle.std.proofs.lemmas.Iterator.Consumers.{YieldsList-end}
use Rattle.policy_classes.specs.Choices.{choices}
use Rattle.policy_classes.specs.Pending.{atoms_seen, rules_seen}
use Rattle.policy_classes.specs.Search.{atoms_left}
use Rattle.policy_classes.specs.Frames.{frame_seen, frames_seen}
use Rattle.policy_classes.proofs.Framed.{frame_added}
use Rattle.policy_classes.proofs.frames.push_choices.Goals as goal

pub loop-request-init : goal.loop-request-init
loop-request-init c = sym (append-nil (frames_seen c.args.frames.now.items))

pub loop-request-preserved : goal.loop-request-preserved
loop-request-preserved c =
    frame_added c.args.field (frame_seen c.args.frame.now) c.args.frames.now.items c.loop-request.frames.items _ _ c.loop-request.yielded c.in-Some.request
    c.loop-request.invariant c.in_ok-push.ensures.items (cc (c.in_ok-old.ensures, c.in_ok-new.ensures))

pub returns : goal.returns
returns c =
    let end = YieldsList-end (YieldsList-from_vec {s = c.into_iter-request-iterator.result} c.in_ok-requests.requests.items (search rules) (search rules))
    c.loop-request.yielded c.loop-request.request-iterator c.loop-request.yielded_by c.next.result c.next.new.self c.in-None.is c.next.ensures.steps in
    let seen_slice = ap atoms_seen c.as_slice-3.ensures.value in
    let old_slice = ap (λ rules. atoms_left (rules_seen rules) (rules_seen c.as_slice-2.result.now)) c.as_slice.ensures.value
    ∙ ap (λ rules. atoms_left (rules_seen c.args.frame.now.old.items) (rules_seen rules)) c.as_slice-2.ensures.value in
    let tried = c.in_ok-requests.ensures ∙ ap (λ atoms. choices c.args.field atoms c.args.frame.now.request) (seen_slice ∙ c.in_ok-atoms.ensures ∙ old_slice) in
    rw (← tried, ← end.0, map-id) c.loop-request.invariant
