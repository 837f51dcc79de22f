use Rattle.std.proofs.Common.{◌≡◌, Bool, true, false, sym, ◌∙◌}
use Rattle.std.proofs.lemmas.Bool.{eq-eqb, eqb-true}
use Rattle.model_kernel.proofs.Words.{past}
use Rattle.model_kernel.proofs.Counted.{none-open}
use Rattle.model_kernel.proofs.kernel.Kernel.finished.Goals as goal
use Rattle.model_kernel.proofs.kernel.Kernel.finished.Goals.{then-living-eq0, else-living-eq0}

apart : (b : Bool) → b ≡ true → b ≡ false → ⊥
apart b p q = cc

pub returns-then-is_idle : goal.returns-then-is_idle
returns-then-is_idle c begun =
    let S = c.args.self.now.script in
    let K = past c.args.self.now in
    let idle = none-open S K c.args.self.now.resources.workers c.requires.resources.workers in
    elim c.if-living-eq0.branch [
      | then-living-eq0 w ↦ (
        λ none. record {
          begun = begun;
          tasks = (c.living.ensures.none S K c.requires.tasks).0 w.if-living-eq0.true;
          calls = w.is_idle.ensures.none (sym w.value-is ∙ c.if-is_idle.true) S.firstid K c.requires.resources.listener;
          sessions = idle.0 (sym c.open_sessions.ensures ∙ eqb-true c.open_sessions.result 0 none);
        },
        λ f. eq-eqb c.open_sessions.result 0 (c.open_sessions.ensures ∙ idle.1 f.sessions),
      )
      | else-living-eq0 w ↦ absurd (w.if-living-eq0.false (eqb-true c.living.result 0 (sym w.value-is ∙ c.if-is_idle.true)))
    ]

pub returns-else-is_idle : goal.returns-else-is_idle
returns-else-is_idle c begun =
    let S = c.args.self.now.script in
    let K = past c.args.self.now in (
      λ h. absurd (apart _ h c.if-is_idle.false),
      λ f. elim c.if-living-eq0.branch [
        | then-living-eq0 w ↦ let some = w.is_idle.ensures.some (sym w.value-is ∙ c.if-is_idle.false) S.firstid K c.requires.resources.listener in absurd (apart _ some.1 (f.calls some.0))
        | else-living-eq0 w ↦ let none : c.living.result ≡ 0 = (c.living.ensures.none S K c.requires.tasks).1 f.tasks in absurd (w.if-living-eq0.false none)
      ],
    )
