-- What a judge tells is what stands of the history: the closing of the listener breaks no clause, and isn't counted.
-- By the newest event, which alone can be that.
use Rattle.std.proofs.Common.{◌≡◌, ℕ, ◌+◌, ◌-◌, ◌<◌, Bool, true, false, List, [], ◌∷◌, ◌++◌, length, refl, sym, ap, subst, ◌∙◌, arith, Option, Some, None}
use Rattle.std.specs.Prelude.{codes}
use Rattle.std.specs.Option.{option_map}
use Rattle.std.proofs.lemmas.Bool.{both_ways}
use Rattle.broker_verdict.specs.Seats.{is_effect}
use Rattle.hist_model.specs.Histories.{Seen}
use Rattle.hist_model.specs.Kinds.{closes, starts}
use Rattle.hist_model.specs.Legal.{system_of}
use Rattle.hist_model.specs.Look.{ev}
use Rattle.hist_model.specs.Systems.{System}
use Rattle.hist_model.specs.Steps.{IsKernelAnswer}
use Rattle.hist_model.specs.declared.event.Actor.{Actor}
use Rattle.hist_model.specs.declared.event.Actor.TheVariants.{Listener, Start, Task, Worker}
use Rattle.hist_model.specs.declared.event.Event.{Event}
use Rattle.hist_model.specs.declared.event.What.{What}
use Rattle.hist_model.specs.declared.event.What.TheVariants.{Close}
use Rattle.hist_model.specs.declared.policy.Policy.{Policy}
use Rattle.hist_model.specs.declared.script.Script.{Script}
use Rattle.history_frames.specs.Ordinals.{count_of}
use Rattle.history_frames.proofs.Ordinals.{made-same}
use Rattle.asked_steps.specs.Steps.{IsBegun, is_closed}
use Rattle.asked_steps.proofs.Unclosed.{deed_unclosed, task_unclosed}
use Rattle.judge_pass.specs.Closed.{is_closed as is_closed_to_judges}
use Rattle.judge_pass.specs.Counted.{AreCounted, is_answering}
use Rattle.judge_pass.specs.Finding.{Finding, Watches, as_finding, finding, or_here}
use Rattle.judge_pass.specs.Heads.{events_of, head_text, mediated_text, numbers_text, or_mediated}
use Rattle.judge_pass.specs.Idle.{found_left}
use Rattle.judge_pass.specs.declared.judge.Counts.{Counts}
use Rattle.judge_pass.specs.declared.watch.FirstFault.{FirstFault}
use Rattle.model_kernel.specs.declared.kernel.Kernel.{Kernel}
use Rattle.step_requests.specs.declared.request.StepRequest.TheVariants as step
use Rattle.step_session.specs.Answers.{judge_text, judged}
use Rattle.step_session.specs.Judged.{IsJudged, IsServed, IsStanding, heard}
use Rattle.step_session.specs.Stands.{Stands}
use Rattle.step_session.specs.Texts.{sized}
use Rattle.step_session.specs.declared.container.Container.{Container}
use Rattle.step_session.specs.declared.container.State.TheVariants.{Closed, Open}
use Rattle.step_session.specs.declared.judged.JudgedContainer.{JudgedContainer}
use Rattle.step_session.specs.declared.origin.Origin.{Origin}
use Rattle.step_session.proofs.Told.{alike}
use Rattle.step_session.proofs.Hearing.{closed_alike, heard-open, of-state}

-- ---- what is told

closes-is : (what : What) → closes what ≡ true → what ≡ Close
closes-is Close h = refl
closes-is what h = cc

listener-by : (S : System) (K : List Event) (who : Actor) (what : What) → IsKernelAnswer S K who what → closes what ≡ true → who ≡ Listener
listener-by S K Start what answer h = absurd answer
listener-by S K (Task n) what answer h = absurd (both_ways (closes what) (ap closes answer ∙ task_unclosed S K n) h)
listener-by S K (Worker w) what (d, answer) h = absurd (both_ways (closes what) (ap closes answer ∙ deed_unclosed S K w d) h)
listener-by S K Listener what answer h = refl

listener-is : (S : Script) (K : List Event) (e : Event) → IsBegun S (e ∷ K) → closes e.what ≡ true → e.who ≡ Listener
listener-is S [] e begun h = let q : closes e.what ≡ false = ap (λ (f : Event). closes f.what) begun.1.0 in absurd (both_ways (closes e.what) q h)
listener-is S (f ∷ K) e begun h = listener-by (system_of S) (f ∷ K) e.who e.what begun.1.0.1 h

or-none : (f : Option Finding) → or_here f None ≡ f
or-none (Some f) = refl
or-none None = refl

finding-closed : (P : Policy) (S : Script) (K : List Event) → finding P S (ev Listener Close ∷ K) ≡ finding P S K
unfolding finding
finding-closed P S K = or-none (finding P S K)

ev-is : (e : Event) (who : Actor) (what : What) → e.who ≡ who → e.what ≡ what → e ≡ ev who what
ev-is e who what p q = let same : ev e.who e.what ≡ ev who what = rw (p, q) refl in same

-- the closing of the listener is no fault
heard-finding : (P : Policy) (S : Script) (K : List Event) → IsBegun S K → finding P S (heard K) ≡ finding P S K
heard-finding P S [] begun = refl
heard-finding P S (e ∷ K) begun = by (closes e.what) refl
  where
    by : (b : Bool) → closes e.what ≡ b → finding P S (heard (e ∷ K)) ≡ finding P S (e ∷ K)
    by true q = rw q (sym (ap (λ (f : Event). finding P S (f ∷ K)) (ev-is e Listener Close (listener-is S K e begun q) (closes-is e.what q)) ∙ finding-closed P S K))
    by false q = rw q refl

-- and isn't counted
heard-count : (kind : What → Bool) (K : List Event) → kind Close ≡ false → count_of kind (heard K) ≡ count_of kind K
heard-count kind [] other = refl
heard-count kind (e ∷ K) other = by (closes e.what) refl
  where
    by : (b : Bool) → closes e.what ≡ b → count_of kind (heard (e ∷ K)) ≡ count_of kind (e ∷ K)
    by true q = rw q (sym (made-same kind e K (ap kind (closes-is e.what q) ∙ other)))
    by false q = rw q refl

heard-counted : (K : List Event) (counts : Counts) → AreCounted (heard K) counts → AreCounted K counts
heard-counted K counts h = record {
  calls_are = h.calls_are ∙ heard-count starts K refl;
  effects_are = h.effects_are ∙ heard-count is_effect K refl;
  answers_are = h.answers_are ∙ heard-count is_answering K refl;
}

-- nothing was found by what is told where the broker does nothing more, so nothing was found before
unfound : (P : Origin) (S : Script) (K : List Event) (idle : Bool) → judged P S K idle ≡ None → finding P.policy S K ≡ None
unfound P S K false q = q
unfound P S K true q = by (finding P.policy S K) refl
  where
    by : (f : Option Finding) → finding P.policy S K ≡ f → f ≡ None
    by None p = refl
    by (Some f) p = let r : Some f ≡ None = rw p at q in cc

unmapped : (found : Option FirstFault) → option_map as_finding found ≡ None → found ≡ None
unmapped None q = refl
unmapped (Some found) q = cc

counted : (P : Origin) (S : Script) (K : List Event) (c : JudgedContainer) (idle : Bool) → IsJudged P S K c → judged P S K idle ≡ None → AreCounted K c.watch.judge.counts
counted P S K c idle here none =
    heard-counted K c.watch.judge.counts
    (here.watches.stands (unmapped c.watch.found (here.watches.found_is ∙ heard-finding P.policy S K here.begun ∙ unfound P S K idle none))).counts

told-counts : (K : List Event) (events : ℕ) (counts : Counts) → events ≡ events_of K → AreCounted K counts → numbers_text events counts.calls counts.effects counts.answers ≡ mediated_text K
told-counts K events counts q h = rw (q, h.calls_are, h.effects_are, h.answers_are) refl

head-is : (P : Origin) (S : Script) (K : List Event) (c : JudgedContainer) (idle : Bool) (found : Option Finding) (events : ℕ) → IsJudged P S K c → found ≡ judged P S K idle → events ≡ events_of K
    → or_mediated found (numbers_text events c.watch.judge.counts.calls c.watch.judge.counts.effects c.watch.judge.counts.answers) ≡ head_text K (judged P S K idle)
head-is P S K c idle (Some f) events here is q = ap (λ o. or_mediated o (mediated_text K)) is
head-is P S K c idle None events here is q = told-counts K events c.watch.judge.counts q (counted P S K c idle here (sym is)) ∙ ap (λ o. or_mediated o (mediated_text K)) is

pub served_judge : (P : Origin) (c : JudgedContainer) (idle : Bool) (found : Option FirstFault) (events : ℕ) (before after head : List ℕ)
    → ((S : Script) (K : List Event) → IsJudged P S K c → option_map as_finding found ≡ judged P S K idle) → ((S : Script) (K : List Event) → IsJudged P S K c → events ≡ events_of K)
    → head ≡ or_mediated (option_map as_finding found) (numbers_text events c.watch.judge.counts.calls c.watch.judge.counts.effects c.watch.judge.counts.answers)
    → after ≡ before ++ sized (codes "judge") head → IsServed P (step.Judge idle) c before after c
served_judge P c idle found events before after head finds heards is added S K here =
    let answer = alike P S K (step.Judge idle) (K, judge_text P S K idle) refl refl in
    let text : head ≡ head_text K (judged P S K idle) = is ∙ head-is P S K c idle (option_map as_finding found) events here (finds S K here) (heards S K here) in (
      subst (λ (a : List Event × List ℕ). IsJudged P S a.0 c) (sym answer) here,
      added ∙ ap (λ h. before ++ sized (codes "judge") h) text ∙ ap (λ (a : List Event × List ℕ). before ++ a.1) (sym answer),
    )

-- ---- how much the judge has heard, and what it has found

events-open : (K : List Event) → is_closed K ≡ false → length K ≡ events_of K
events-open [] q = refl
events-open (e ∷ K) q = rw q (omega arith)

events-closed : (K : List Event) → is_closed K ≡ true → length K - 1 ≡ events_of K
events-closed [] q = cc
events-closed (e ∷ K) q = rw q (omega arith)

pub heard_open : (S : Script) (K : List Event) (c : Container) (k : Kernel) (n : ℕ) → c.state ≡ Open k → Stands S K c → n ≡ length K → n ≡ events_of K
heard_open S K c k n is stands q = q ∙ events-open K (of-state S K c (Open k) is stands).open_still

pub heard_shut : (S : Script) (K : List Event) (c : Container) (h : Seen) (n : ℕ) → c.state ≡ Closed h → Stands S K c → n ≡ length K → n - 1 ≡ events_of K
heard_shut S K c h n is stands q = ap (λ m. m - 1) q ∙ events-closed K (of-state S K c (Closed h) is stands).1

pub found_plain : (P : Origin) (S : Script) (K : List Event) (c : JudgedContainer) → IsJudged P S K c → option_map as_finding c.watch.found ≡ judged P S K false
found_plain P S K c here = here.watches.found_is ∙ heard-finding P.policy S K here.begun

pub found_as : (P : Origin) (S : Script) (K : List Event) (found : Option FirstFault) (idle asked : Bool) → idle ≡ asked → option_map as_finding found ≡ judged P S K asked → option_map as_finding found ≡ judged P S K idle
found_as P S K found idle asked q is = is ∙ ap (judged P S K) (sym q)

pub found_shut : (P : Origin) (S : Script) (K : List Event) (c : JudgedContainer) (h : Seen) → c.container.state ≡ Closed h → IsJudged P S K c → option_map as_finding c.watch.found ≡ judged P S K true
found_shut P S K c h is here =
    let shut : is_closed_to_judges K ≡ true = closed_alike K ∙ (of-state S K c.container (Closed h) is here.stands).1 in
    let none : found_left K ≡ None = rw shut refl in
    found_plain P S K c here ∙ sym (ap (or_here (finding P.policy S K)) none ∙ or-none (finding P.policy S K))

-- while the listener is open, the judge has heard all
pub watches_open : (P : Origin) (S : Script) (K : List Event) (c : JudgedContainer) (k : Kernel) → c.container.state ≡ Open k → IsJudged P S K c → Watches P.policy S K c.watch × (is_closed_to_judges K ≡ false)
watches_open P S K c k is here =
    let q = (of-state S K c.container (Open k) is here.stands).open_still in
    (subst (λ L. Watches P.policy S L c.watch) (heard-open K q) here.watches, closed_alike K ∙ q)

pub some_events : (P : Origin) (c : JudgedContainer) (n : ℕ) → IsStanding P c → ((S : Script) (K : List Event) → Stands S K c.container → n ≡ length K) → 0 < n
some_events P c n (S, (K, here)) events = let q = events S K here.stands in omega (arith, q, here.begun.0)
