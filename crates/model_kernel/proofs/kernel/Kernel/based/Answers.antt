use Rattle.std.proofs.Common.{rules, ◌≡◌, w32, to_z, of_z, Some, ap, refl, subst, sym, ◌∙◌}
use Rattle.hist_model.specs.Files.{files}
use Rattle.hist_model.specs.Natives.{base_of}
use Rattle.hist_model.specs.Steps.{place_or}
use Rattle.hist_model.specs.Tasks.{holder}
use Rattle.hist_model.specs.Trees.{ordinal_of}
use Rattle.model_kernel.proofs.Words.{living_in, past}
use Rattle.model_kernel.proofs.Opened as opening
use Rattle.model_kernel.proofs.Taken.{base-answered, base-refused, base_found}
use Rattle.model_kernel.proofs.Workers.{idle, serves}
use Rattle.model_kernel.proofs.kernel.Kernel.based.Goals as goal

pub returns-in_default-clause-answer : goal.returns-in_default-clause-answer
returns-in_default-clause-answer c = base-refused c.args.self.now.script (past c.args.self.now) (holder (past c.args.self.now) c.args.pid) c.args.dirfd c.in_default.ensures.none

pub returns-in_default-clause-served : goal.returns-in_default-clause-served
returns-in_default-clause-served c = idle c.args.self.now c.args.worker _ c.requires.kernel refl tt

pub returns-in_default-base_in-clause-answer : goal.returns-in_default-base_in-clause-answer
returns-in_default-base_in-clause-answer c =
    let k = c.args.self.now in
    let (g, own, at) = c.in-Some.ensures.group in
    let same : to_z w32 (of_z w32 c.args.dirfd) ≡ c.args.dirfd = search rules in
    let found = subst (λ d. ordinal_of c.base_in.result ≡ base_of k.script (files k.script (past k)) g d) same (c.base_in.ensures k.script (past k) (living_in k.tasks) g c.requires.kernel.resources at) in
    ap base_found (ap ordinal_of (sym c.in_default-base_in.is) ∙ found) ∙ base-answered k.script (past k) (holder (past k) c.args.pid) g c.args.dirfd c.in-Some.ensures.some own

pub returns-in_default-base_in-clause-served : goal.returns-in_default-base_in-clause-served
returns-in_default-base_in-clause-served c = idle c.args.self.now c.args.worker _ c.requires.kernel refl tt

pub returns-clause-answer : goal.returns-clause-answer
returns-clause-answer c =
    let k = c.args.self.now in
    let (g, own, at) = c.in-Some.ensures.group in
    let same : to_z w32 (of_z w32 c.args.dirfd) ≡ c.args.dirfd = search rules in
    let found = subst (λ d. ordinal_of c.base_in.result ≡ base_of k.script (files k.script (past k)) g d) same (c.base_in.ensures k.script (past k) (living_in k.tasks) g c.requires.kernel.resources at) in
    ap base_found (ap ordinal_of (sym c.in-Some-base_in.is) ∙ found) ∙ base-answered k.script (past k) (holder (past k) c.args.pid) g c.args.dirfd c.in-Some.ensures.some own

pub returns-clause-served : goal.returns-clause-served
returns-clause-served c =
    let k = c.args.self.now in
    let (g, own, at) = c.in-Some.ensures.group in
    let same : to_z w32 (of_z w32 c.args.dirfd) ≡ c.args.dirfd = search rules in
    let found = subst (λ d. ordinal_of c.base_in.result ≡ base_of k.script (files k.script (past k)) g d) same (c.base_in.ensures k.script (past k) (living_in k.tasks) g c.requires.kernel.resources at) in
    serves k c.args.worker _ _
    (opening.based k.script (past k) (living_in k.tasks) k.resources c.requires.kernel.resources c.args.worker c.args.pid c.args.dirfd (Some c.in-Some-base_in.base) c.opened_base.new.self c.requires.worker
    (ap (λ h. base_of k.script (files k.script (past k)) (place_or h) c.args.dirfd) own ∙ (sym found ∙ ap ordinal_of c.in-Some-base_in.is)) c.opened_base.ensures)
