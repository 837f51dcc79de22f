-- The newest event is a native call with a number, or it has opened nothing.
use Rattle.std.proofs.Common.{◌≡◌, ◌≤◌, ap, subst, sym, ◌∙◌}
use Rattle.std.specs.Prelude.{reverse}
use Rattle.hist_model.specs.declared.event.Event.{Event}
use Rattle.hist_model.specs.declared.script.Script.{Script}
use Rattle.model_kernel.specs.Kernels.{past}
use Rattle.judge_pass.proofs.OpenedThere.{none_opened, opened_there, same_newest}
use Rattle.judge_pass.proofs.opened.opened.Goals as goal

pub returns-in_err-name : goal.returns-in_err-name
returns-in_err-name c K e newest =
    let k = c.args.kernel.now in
    let event = c.in_ok-event.event.now in
    let same : event ≡ e = same_newest (past k) K e event (reverse c.in_ok-event._before.now) newest c.in_ok-event.ensures.some in
    none_opened k.script (past k) K e c.from_residual-in_err-name.result c.requires.history newest
    (λ name n who what. c.in_err-name.ensures.none name (ap (λ (x : Event). x.who) same ∙ who))

pub returns-in_err-number : goal.returns-in_err-number
returns-in_err-number c K e newest =
    let k = c.args.kernel.now in
    let event = c.in_ok-event.event.now in
    let same : event ≡ e = same_newest (past k) K e event (reverse c.in_ok-event._before.now) newest c.in_ok-event.ensures.some in
    none_opened k.script (past k) K e c.from_residual-in_err-number.result c.requires.history newest
    (λ name n who what. c.in_err-number.ensures.none n (ap (λ (x : Event). x.what) same ∙ what))

pub returns : goal.returns
returns c K e newest =
    let k = c.args.kernel.now in
    let event = c.in_ok-event.event.now in
    let same : event ≡ e = same_newest (past k) K e event (reverse c.in_ok-event._before.now) newest c.in_ok-event.ensures.some in
    let few : k.script.rlimit ≤ 4096 = subst (λ (S : Script). S.rlimit ≤ 4096) c.script.ensures c.has_few_numbers.ensures in
    opened_there k.script (past k) K e c.in_ok-name.name.now c.in_ok-number.number c.directory_of.result few c.requires.history newest
    (ap (λ (x : Event). x.who) (sym same) ∙ c.in_ok-name.ensures.some) (ap (λ (x : Event). x.what) (sym same) ∙ c.in_ok-number.ensures.some) c.directory_of.ensures
