-- The requests were answered to their end.
use Rattle.std.proofs.Common.{◌≡◌, Option, List, ℕ, sym, subst, ap, ◌∙◌}
use Rattle.std.specs.Prelude.{IsSomeAnd, Ok}
use Rattle.hist_model.specs.declared.policy.Policy.{Policy}
use Rattle.step_session.specs.Scripts.{before_schedule}
use Rattle.program_files.proofs.Reading.{script_alone}
use Rattle.step_words.proofs.StepEnds.{all_answered}
use Rattle.program_files.specs.Inputs.{PolicyIs}
use Rattle.step_words.proofs.stepping.step_files.Goals as goal

pub returns-in-Ok : goal.returns-in-Ok
returns-in-Ok g c =
    let files = g.F.Files.state c.args.files.now in
    let origin = c.in_ok-origin.origin in
    all_answered files (g.F.Files.state c.read_stated.new.files) (g.F.Files.state c.serve.new.files)
    (g.O.Sink.state c.args.out.now) (g.O.Sink.state c.serve.new.out) c.args.policy.now c.args.script.now origin c.in_ok-policy.field-0.file.script
    c.in_ok-policy.ensures.same (subst (λ (P : Policy). PolicyIs files c.args.policy.now (Ok P)) (sym c.in_ok-origin.ensures.policy) c.in_ok-policy.ensures.policy)
    (script_alone files c.args.script.now c.in_ok-policy.field-0.file c.in_ok-policy.ensures.file)
    (λ t. subst (λ (found : Option (List ℕ)). IsSomeAnd found (λ bytes. origin.front ≡ before_schedule bytes)) (sym (c.in_ok-policy.ensures.bytes t).0)
    (c.in_ok-origin.ensures.front ∙ ap before_schedule c.as_slice.ensures.value))
    (c.histories_are_of_the_kernel.ensures origin c.in_ok-policy.field-0.file.script) c.in-Ok.ensures.answered c.in-Ok.ensures.flushed
