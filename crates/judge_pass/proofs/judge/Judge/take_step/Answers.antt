-- An effect and an answer leave no call, and other steps leave at most the one in hand.
use Rattle.std.proofs.Common.{◌≡◌, ℕ, reverse, refl, ap, subst, sym, true, false, ◌∙◌}
use Rattle.std.specs.Prelude.{is_some}
use Rattle.std.proofs.lemmas.List.{length-reverse, reverse-reverse}
use Rattle.broker_verdict.specs.Seats.{is_effect}
use Rattle.hist_model.specs.Look.{ev}
use Rattle.hist_model.specs.Steps.{session_call}
use Rattle.hist_model.specs.declared.event.Actor.TheVariants.{Worker}
use Rattle.judge_pass.proofs.Judging.{effect-leaves, has-call, judges-left, judges-none, other-kind, send-leaves}
use Rattle.judge_pass.proofs.judge.Judge.take_step.Goals as goal

pub returns-then-is_effect : goal.returns-then-is_effect
returns-then-is_effect c = λ s history holder none.
    let P = c.args.policy.now in
    let S = c.args.script.now in
    let K = reverse c.args.before.now in
    let n = c.args.number in
    let what = c.args.what.now in
    let kind : is_effect what ≡ true = cc in
    let same : ev (Worker n) what ≡ ev (Worker c.from-worker.result) what = ap (λ (w : ℕ). ev (Worker w) what) (sym c.from-worker.ensures) in
    let hand : is_some (session_call K c.from-worker.result) ≡ true = subst (λ (w : ℕ). is_some (session_call K w) ≡ true) (sym c.from-worker.ensures) (has-call P S K n what kind (sym none)) in
    judges-none P S K c.note_effect.new.self (ev (Worker n) what) none (effect-leaves K n what kind)
    (c.in_ok-note_effect.ensures S K (ev (Worker n) what) s history same (length-reverse c.args.before.now) hand)

pub returns-in-Send : goal.returns-in-Send
returns-in-Send c = λ s history holder none.
    let P = c.args.policy.now in
    let S = c.args.script.now in
    let K = reverse c.args.before.now in
    let n = c.args.number in
    let what = c.args.what.now in
    let e = ev (Worker n) what in
    let same : e ≡ ev (Worker c.from-worker.result) _ = ap (λ (w : ℕ). ev (Worker w) what) (sym c.from-worker.ensures) ∙ ap (ev (Worker c.from-worker.result)) c.in-Send.is in
    judges-none P S K c.send.new.self e none (send-leaves K n what c.in-Send.id c.in-Send.back c.in-Send.answer c.in-Send.is)
    (c.in_ok-send.ensures P S K e s history (same, sym (reverse-reverse c.args.before.now)))

pub returns : goal.returns
returns c = λ s history holder none.
    let P = c.args.policy.now in
    let S = c.args.script.now in
    let K = reverse c.args.before.now in
    let n = c.args.number in
    let what = c.args.what.now in
    let e = ev (Worker n) what in
    let long = length-reverse c.args.before.now in
    judges-left P S K c.take_of_worker.new.self e c.in_ok-left.left c.unanswered.result none
    (c.in_ok-left.ensures.left P S K e s history refl long) c.unanswered.ensures
    (c.in_ok-left.ensures.stands P S K e s history (refl, refl, long, holder))

pub take_of_worker-requires-clause-kind : goal.take_of_worker-requires-clause-kind
take_of_worker-requires-clause-kind c =
    let none : is_effect c.args.what.now ≡ false = cc in
    other-kind c.args.what.now none c.in_default.not-Send
