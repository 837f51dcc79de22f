-- What a container answers.
-- By whether its listener is closed, of which the history's newest event tells.
use Rattle.std.proofs.Common.{◌≡◌, ℕ, Bool, true, false, List, ◌++◌, refl, sym, ap, subst, ◌∙◌}
use Rattle.std.specs.Prelude.{Result, Ok, Err, OnOk}
use Rattle.hist_model.specs.declared.event.Event.{Event}
use Rattle.asked_steps.specs.Steps.{is_closed}
use Rattle.step_session.specs.declared.origin.Origin.{Origin}
use Rattle.hist_model.specs.declared.script.Script.{Script}
use Rattle.model_kernel.specs.Kernels.{past}
use Rattle.model_kernel.specs.declared.kernel.Kernel.{Kernel}
use Rattle.step_requests.specs.declared.request.StepRequest.{StepRequest}
use Rattle.step_requests.specs.declared.request.StepRequest.TheVariants as step
use Rattle.step_session.specs.Answers.{answered, closed_answer, open_answer, report_text, script_answer}
use Rattle.step_session.specs.Stands.{Answers, IsAnswered, IsOpen, Stands, StateStands}
use Rattle.step_session.specs.declared.container.Container.{Container}
use Rattle.step_session.specs.declared.container.State.TheVariants.{Open}

pub on_ok : {T E X Y : Type 0} (r : Result T E) → (X → Y) → OnOk r X → OnOk r Y
on_ok (Ok x) f h = f h
on_ok (Err e) f h = h

-- a request that is another one is answered as that
pub answered_as : (P : Origin) (q r : StepRequest) (old new : Container) (before after : List ℕ) → q ≡ r → IsAnswered P r old before after new → IsAnswered P q old before after new
answered_as P q r old new before after is answered = subst (λ x. IsAnswered P x old before after new) (sym is) answered

pub open-is : (P : Origin) (S : Script) (K : List Event) (r : StepRequest) → is_closed K ≡ false → answered P S K r ≡ open_answer P S K r
open-is P S K r q = rw q refl

pub closed-is : (P : Origin) (S : Script) (K : List Event) (r : StepRequest) → is_closed K ≡ true → answered P S K r ≡ closed_answer P S K r
closed-is P S K r q = rw q refl

-- a request that is answered alike whether the listener is closed or not
pub alike : (P : Origin) (S : Script) (K : List Event) (r : StepRequest) (a : List Event × List ℕ) → open_answer P S K r ≡ a → closed_answer P S K r ≡ a → answered P S K r ≡ a
alike P S K r a opened shut = by (is_closed K) refl
  where
    by : (b : Bool) → is_closed K ≡ b → answered P S K r ≡ a
    by true q = closed-is P S K r q ∙ shut
    by false q = open-is P S K r q ∙ opened

-- what was added is the answer
told : (P : Origin) (r : StepRequest) (S : Script) (K H : List Event) (new : Container) (before after text : List ℕ) → answered P S K r ≡ (H, text) → Stands S H new → after ≡ before ++ text
    → Stands S (answered P S K r).0 new × (after ≡ before ++ (answered P S K r).1)
told P r S K H new before after text is stands added =
    (subst (λ x. Stands S x new) (ap (λ (a : List Event × List ℕ). a.0) (sym is)) stands, added ∙ ap (λ (a : List Event × List ℕ). before ++ a.1) (sym is))

-- a text that the history alone makes
told_of : (P : Origin) (r : StepRequest) (text : List Event → List ℕ) (c : Container) (before after : List ℕ) (events : List Event)
    → ((S : Script) (K : List Event) → answered P S K r ≡ (K, text K)) → ((S : Script) (K : List Event) → Stands S K c → events ≡ K) → after ≡ before ++ text events
    → IsAnswered P r c before after c
told_of P r text c before after events answer is added S K stands =
    told P r S K K c before after (text K) (answer S K) stands (added ∙ ap (λ H. before ++ text H) (is S K stands))

pub reported : (P : Origin) (c : Container) (before after : List ℕ) (events : List Event) → ((S : Script) (K : List Event) → Stands S K c → events ≡ K) → after ≡ before ++ report_text P events
    → IsAnswered P step.Report c before after c
reported P c before after events = told_of P step.Report (report_text P) c before after events (λ S K. alike P S K step.Report (K, report_text P K) refl refl)

pub scripted : (P : Origin) (c : Container) (before after : List ℕ) (events : List Event) → ((S : Script) (K : List Event) → Stands S K c → events ≡ K) → after ≡ before ++ script_answer P events
    → IsAnswered P step.Script c before after c
scripted P c before after events = told_of P step.Script (script_answer P) c before after events (λ S K. alike P S K step.Script (K, script_answer P K) refl refl)

-- ---- containers whose listener is open, and others

-- an open container is the one whose kernel is open
of_open : (S : Script) (K : List Event) (c : Container) (k : Kernel) → c.state ≡ Open k → Stands S K c → IsOpen S K k
of_open S K c k is stands = subst (StateStands S K) is stands

-- what a kernel answers is what the container does, and its listener stays open
pub answered_open : (P : Origin) (r : StepRequest) (c : Container) (k new : Kernel) (before after : List ℕ) → c.state ≡ Open k → ((S : Script) (K : List Event) → is_closed K ≡ false → is_closed (open_answer P S K r).0 ≡ false)
    → Answers k (open_answer P k.script (past k) r) before after new → IsAnswered P r c before after (record { state = Open new })
answered_open P r c k new before after is keeps answers S K stands =
    let here = of_open S K c k is stands in
    let same : open_answer P k.script (past k) r ≡ open_answer P S K r = ap (λ s. open_answer P s (past k) r) here.script ∙ ap (λ H. open_answer P S H r) here.past in
    let kept : IsOpen S (open_answer P S K r).0 new = record {
      kernel = answers.kernel;
      script = answers.script ∙ here.script;
      past = answers.past ∙ ap (λ (a : List Event × List ℕ). a.0) same;
      open_still = keeps S K here.open_still;
    } in
    told P r S K (open_answer P S K r).0 (record { state = Open new }) before after (open_answer P S K r).1 (open-is P S K r here.open_still) kept
    (answers.line ∙ ap (λ (a : List Event × List ℕ). before ++ a.1) same)
