-- A judge hears each event that a request makes, up to the closing of the listener, which breaks nothing.
-- By cases on the request, since the history has one event more after it or none.
use Rattle.std.proofs.Common.{◌≡◌, ℕ, ◌-◌, ◌<◌, ◌^◌, Bool, true, false, List, [], ◌∷◌, length, refl, sym, ap, subst, ◌∙◌, arith, inl, inr, Option, Some, None}
use Rattle.hist_model.specs.Deeds.{Deed}
use Rattle.hist_model.specs.Kinds.{closes, skips}
use Rattle.hist_model.specs.Legal.{started, system_of}
use Rattle.hist_model.specs.Look.{Name, ev}
use Rattle.hist_model.specs.Steps.{deed_step, task_step}
use Rattle.hist_model.specs.Tasks.{is_made}
use Rattle.hist_model.specs.declared.event.Actor.{Actor}
use Rattle.hist_model.specs.declared.event.Actor.TheVariants.{Listener, Task, Worker}
use Rattle.hist_model.specs.declared.event.Event.{Event}
use Rattle.hist_model.specs.declared.event.What.{What}
use Rattle.hist_model.specs.declared.event.What.TheVariants.{Close}
use Rattle.hist_model.specs.declared.script.Script.{Script}
use Rattle.judge_pass.specs.Closed.{is_closed as is_closed_to_judges}
use Rattle.judge_pass.specs.Finding.{Watches}
use Rattle.judge_pass.specs.Stands.{IsHistory}
use Rattle.judge_pass.specs.declared.watch.Watch.{Watch}
use Rattle.model_kernel.specs.Kernels.{IsBegun as IsStarted, IsKernel, past}
use Rattle.model_kernel.specs.declared.kernel.Kernel.{Kernel}
use Rattle.step_requests.specs.declared.request.Asked.{Asked}
use Rattle.step_requests.specs.declared.request.StepRequest.{StepRequest}
use Rattle.step_requests.specs.declared.request.StepRequest.TheVariants as step
use Rattle.asked_steps.specs.Asking.{deed_of, refused}
use Rattle.asked_steps.specs.Steps.{IsBegun, after_deed, after_task, after_unless, is_closed, with_step}
use Rattle.asked_steps.specs.declared.refusal.Refusal.{Refusal}
use Rattle.asked_steps.proofs.Kept.{started_begun}
use Rattle.step_session.specs.Answers.{IsAsked, answered, closed_answer, judged, open_answer}
use Rattle.step_session.specs.Judged.{HasHeard, IsAhead, IsJudged, IsOneMore, IsServed, IsStanding, heard}
use Rattle.step_session.specs.Stands.{IsAnswered, IsOpen, Stands, StateStands}
use Rattle.step_session.specs.declared.container.Container.{Container}
use Rattle.step_session.specs.declared.container.State.{State}
use Rattle.step_session.specs.declared.container.State.TheVariants.{Open}
use Rattle.step_session.specs.declared.judged.JudgedContainer.{JudgedContainer}
use Rattle.step_session.specs.declared.origin.Origin.{Origin}
use Rattle.step_session.proofs.Kept.{kept}
use Rattle.step_session.proofs.Told.{closed-is, open-is}

-- ---- a request makes one event at most

step-more : (K : List Event) (who : Actor) (what : What) → is_closed K ≡ false → IsOneMore K (with_step who what K)
step-more K who what open-still = by (skips what) refl
  where
    by : (b : Bool) → skips what ≡ b → IsOneMore K (with_step who what K)
    by true q = rw q (inl refl)
    by false q = rw q (inr (open-still, (ev who what, refl)))

task-more : (S : Script) (K : List Event) (n : Name) → is_closed K ≡ false → IsOneMore K (after_task S K n)
task-more S K n open-still = by (is_made K n) refl
  where
    by : (b : Bool) → is_made K n ≡ b → IsOneMore K (after_task S K n)
    by true q = rw q (step-more K (Task n) (task_step (system_of S) K n) open-still)
    by false q = rw q (inl refl)

deed-more : (S : Script) (K : List Event) (w : ℕ) (d : Option Deed) → is_closed K ≡ false → IsOneMore K (after_deed S K w d)
deed-more S K w None open-still = inl refl
deed-more S K w (Some d) open-still = step-more K (Worker w) (deed_step (system_of S) K w d) open-still

worker-more : (S : Script) (K : List Event) (w : ℕ) (asked : Asked) (why : Option Refusal) → is_closed K ≡ false → IsOneMore K (after_unless S K w asked why)
worker-more S K w asked (Some why) open-still = inl refl
worker-more S K w asked None open-still = deed-more S K w (deed_of asked) open-still

open-more : (P : Origin) (S : Script) (K : List Event) (r : StepRequest) → is_closed K ≡ false → IsOneMore K (open_answer P S K r).0
open-more P S K step.Able open-still = inl refl
open-more P S K (step.Task n) open-still = task-more S K n open-still
open-more P S K (step.Worker w a) open-still = worker-more S K w a (refused K w a) open-still
open-more P S K step.Report open-still = inl refl
open-more P S K step.Script open-still = inl refl
open-more P S K (step.Judge idle) open-still = inl refl
open-more P S K (step.Look l) open-still = inl refl
open-more P S K step.Close open-still = step-more K Listener Close open-still

closed-more : (P : Origin) (S : Script) (K : List Event) (r : StepRequest) → IsOneMore K (closed_answer P S K r).0
closed-more P S K step.Able = inl refl
closed-more P S K (step.Task n) = inl refl
closed-more P S K (step.Worker w a) = inl refl
closed-more P S K step.Report = inl refl
closed-more P S K step.Script = inl refl
closed-more P S K (step.Judge idle) = inl refl
closed-more P S K (step.Look l) = inl refl
closed-more P S K step.Close = inl refl

one-more : (P : Origin) (S : Script) (K : List Event) (r : StepRequest) → IsOneMore K (answered P S K r).0
one-more P S K r = by (is_closed K) refl
  where
    by : (b : Bool) → is_closed K ≡ b → IsOneMore K (answered P S K r).0
    by true q = subst (λ (a : List Event × List ℕ). IsOneMore K a.0) (sym (closed-is P S K r q)) (closed-more P S K r)
    by false q = subst (λ (a : List Event × List ℕ). IsOneMore K a.0) (sym (open-is P S K r q)) (open-more P S K r q)

-- ---- what is heard

-- the judge asks the same of a history
pub closed_alike : (K : List Event) → is_closed_to_judges K ≡ is_closed K
closed_alike [] = refl
closed_alike (e ∷ K) = refl

pub heard-open : (K : List Event) → is_closed K ≡ false → heard K ≡ K
heard-open [] q = refl
heard-open (e ∷ K) q = rw q refl

heard-closed : (K H : List Event) → IsOneMore K H → is_closed H ≡ true → heard H ≡ heard K
heard-closed K H (inl is) q = ap heard is
heard-closed K H (inr (open-still, (e, is))) q =
    let shut : closes e.what ≡ true = rw is at q in
    let here : heard (e ∷ K) ≡ K = rw shut refl in
    ap heard is ∙ here ∙ sym (heard-open K open-still)

same-length : (K H : List Event) → IsOneMore K H → length H ≡ length K → H ≡ K
same-length K H (inl is) q = is
same-length K H (inr (open-still, (e, is))) q = let l = ap length is in absurd (omega (arith, l, q))

-- nothing new came
pub heard_all : (P : Origin) (S : Script) (K H : List Event) (c : JudgedContainer) (n : ℕ) → IsAhead P S K H c → length K ≡ n → length H ≡ n → IsJudged P S H c
heard_all P S K H c n ahead k h = record {
  stands = ahead.stands;
  begun = ahead.begun;
  watches = subst (λ L. Watches P.policy S (heard L) c.watch) (sym (same-length K H ahead.more (h ∙ sym k))) ahead.watches;
}

pub of-state : (S : Script) (K : List Event) (c : Container) (s : State) → c.state ≡ s → Stands S K c → StateStands S K s
of-state S K c s is stands = subst (StateStands S K) is stands

-- the listener was closed, and may be now
pub heard_closed : (P : Origin) (S : Script) (K H : List Event) (c : JudgedContainer) (s : State) → c.container.state ≡ s → ((L : List Event) → StateStands S L s → is_closed L ≡ true) → IsAhead P S K H c
    → IsJudged P S H c
heard_closed P S K H c s is shut ahead = record {
  stands = ahead.stands;
  begun = ahead.begun;
  watches = subst (λ L. Watches P.policy S L c.watch) (sym (heard-closed K H ahead.more (shut H (of-state S H c.container s is ahead.stands)))) ahead.watches;
}

-- what the kernel has, before the newest event
pub record HasMore (P : Origin) (k : Kernel) (w : Watch) : Type 0 where
  pub kernel : IsKernel k
  pub history : IsHistory k.script (past k)
  pub goes_on : is_closed_to_judges (past k) ≡ false
  pub watches : (K : List Event) (e : Event) → past k ≡ e ∷ K → Watches P.policy k.script K w

tail-is : (e f : Event) (K L : List Event) → e ∷ K ≡ f ∷ L → K ≡ L
tail-is e f K L q = cc

newer : (P : Origin) (S : Script) (K H : List Event) (k : Kernel) (w : Watch) → IsOpen S H k → IsBegun S H → IsOneMore K H → Watches P.policy S (heard K) w → (length H ≡ length K → ⊥) → length H < 2 ^ 64
    → HasMore P k w
newer P S K H k w opened begun (inl is) watches other fits = absurd (other (ap length is))
newer P S K H k w opened begun (inr (open-still, (f, is))) watches other fits = record {
  kernel = opened.kernel;
  history = subst (λ L. IsHistory k.script L) (sym opened.past) (subst (λ s. IsHistory s H) (sym opened.script) (record { of_kernel = begun.1; fits = fits }));
  goes_on = closed_alike (past k) ∙ ap is_closed opened.past ∙ opened.open_still;
  watches = λ L e q.
      let same : K ≡ L = tail-is f e K L (sym is ∙ sym opened.past ∙ q) in
      subst (λ s. Watches P.policy s L w) (sym opened.script) (subst (λ J. Watches P.policy S J w) (heard-open K open-still ∙ same) watches);
}

-- the judge hears the newest event
pub has_more : (P : Origin) (S : Script) (K H : List Event) (c : JudgedContainer) (k : Kernel) (n m : ℕ) → c.container.state ≡ Open k → IsAhead P S K H c → length K ≡ n → length H ≡ m → (m ≡ n → ⊥) → m < 2 ^ 64
    → HasMore P k c.watch
has_more P S K H c k n m is ahead l h other fits =
    newer P S K H k c.watch (of-state S H c.container (Open k) is ahead.stands) ahead.begun ahead.more ahead.watches (λ q. other (sym h ∙ q ∙ l)) (subst (λ x. x < 2 ^ 64) (sym h) fits)

pub more_of : (P : Origin) (c : JudgedContainer) (k : Kernel) (n m : ℕ) → c.container.state ≡ Open k → HasHeard P n c → ((S : Script) (H : List Event) → Stands S H c.container → m ≡ length H) → (m ≡ n → ⊥) → m < 2 ^ 64
    → HasMore P k c.watch
more_of P c k n m is (S, (K, H, (ahead, l))) events other fits = has_more P S K H c k n m is ahead l (sym (events S H ahead.stands)) other fits

heard-newest : (P : Origin) (S : Script) (K H : List Event) (k : Kernel) (w : Watch) → IsOpen S H k → IsOneMore K H → (length H ≡ length K → ⊥)
    → ((L : List Event) (e : Event) → past k ≡ e ∷ L → Watches P.policy k.script (e ∷ L) w) → Watches P.policy S (heard H) w
heard-newest P S K H k w opened (inl is) other watches = absurd (other (ap length is))
heard-newest P S K H k w opened (inr (open-still, (f, is))) other watches =
    subst (λ J. Watches P.policy S J w) (sym is ∙ sym (heard-open H opened.open_still)) (subst (λ s. Watches P.policy s (f ∷ K) w) opened.script (watches K f (opened.past ∙ is)))

pub heard_newest : (P : Origin) (S : Script) (K H : List Event) (c : JudgedContainer) (k : Kernel) (w : Watch) (n m : ℕ) → c.container.state ≡ Open k → IsAhead P S K H c → length K ≡ n → length H ≡ m → (m ≡ n → ⊥)
    → ((L : List Event) (e : Event) → past k ≡ e ∷ L → Watches P.policy k.script (e ∷ L) w) → IsJudged P S H (record c { watch = w })
heard_newest P S K H c k w n m is ahead l h other watches = record {
  stands = ahead.stands;
  begun = ahead.begun;
  watches = heard-newest P S K H k w (of-state S H c.container (Open k) is ahead.stands) ahead.more (λ q. other (sym h ∙ q ∙ l)) watches;
}

-- ---- requests

pub ahead : (P : Origin) (S : Script) (K : List Event) (r : StepRequest) (c : JudgedContainer) (next : Container) (before after : List ℕ) → IsAsked r → IsAnswered P r c.container before after next → IsJudged P S K c
    → IsAhead P S K (answered P S K r).0 (record c { container = next })
ahead P S K r c next before after asked done judged = record {
  stands = (done S K judged.stands).0;
  begun = kept P S K r asked judged.begun;
  more = one-more P S K r;
  watches = judged.watches;
}

pub has_heard : (P : Origin) (c : JudgedContainer) (r : StepRequest) (next : Container) (before after : List ℕ) (n : ℕ) → IsAsked r → IsAnswered P r c.container before after next → IsStanding P c
    → ((S : Script) (K : List Event) → Stands S K c.container → n ≡ length K) → HasHeard P n (record c { container = next })
has_heard P c r next before after n asked done (S, (K, here)) events =
    (S, (K, (answered P S K r).0, (ahead P S K r c next before after asked done here, sym (events S K here.stands))))

pub served : (P : Origin) (r : StepRequest) (c : JudgedContainer) (next : Container) (new : JudgedContainer) (before after : List ℕ) (n : ℕ) → IsAsked r → IsAnswered P r c.container before after next
    → ((S : Script) (K : List Event) → Stands S K c.container → n ≡ length K)
    → ((S : Script) (K H : List Event) → length K ≡ n → IsAhead P S K H (record c { container = next }) → IsJudged P S H new) → IsServed P r c before after new
served P r c next new before after n asked done events hears S K judged =
    (hears S K (answered P S K r).0 (sym (events S K judged.stands)) (ahead P S K r c next before after asked done judged), (done S K judged.stands).1)

pub begins : (P : Origin) (S : Script) (c : Container) (k : Kernel) (w : Watch) → IsStarted S k → c.state ≡ Open k → Watches P.policy k.script (past k) w → IsJudged P S (started S) (record { container = c; watch = w })
begins P S c k w new is watches = record {
  stands = subst (StateStands S (started S)) (sym is) (record { kernel = new.kernel; script = new.script; past = new.events; open_still = refl });
  begun = started_begun S;
  watches = subst (λ s. Watches P.policy s (started S) w) new.script (subst (λ K. Watches P.policy k.script K w) new.events watches);
}
