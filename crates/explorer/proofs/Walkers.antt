-- The end of the next walk, and the walks that are left behind it.
-- By what the walk's run and the search for a later turn come to, and by cases on what was found.
use Rattle.std.proofs.Common.{◌≡◌, ℕ, ◌<◌, ◌^◌, List, [], ◌∷◌, length, refl, sym, ◌∙◌, ap, subst, arith, append-nil}
use Rattle.hist_model.specs.Legal.{started}
use Rattle.hist_model.specs.Look.{ev}
use Rattle.hist_model.specs.Steps.{step}
use Rattle.hist_model.specs.declared.event.Actor.TheVariants.{Listener}
use Rattle.hist_model.specs.declared.event.Event.{Event}
use Rattle.hist_model.specs.declared.event.What.TheVariants.{Close}
use Rattle.hist_model.specs.declared.policy.Policy.{Policy}
use Rattle.hist_model.specs.declared.script.Script.{Script}
use Rattle.delay_bounded.specs.Explored.{Walk, closed, walks_of}
use Rattle.outcome_text.proofs.Idle.{close_hides_none}
use Rattle.outcome_text.specs.Sight.{hidden}
use Rattle.explorer.specs.Frames.{AreTurns, after, behind, last_place, left_from, pending}
use Rattle.explorer.specs.Runs.{IsGoing, IsRun, script_in, story}
use Rattle.explorer.specs.Walking.{EndsFirst, EndsWalk, GoesThrough, HasCome, IsAtEnd, IsNext, LeadsTo, script_at, script_of, walks_in, walks_left}
use Rattle.explorer.specs.declared.frames.Frame.{Frame}
use Rattle.explorer.specs.declared.run.Run.{Run}
use Rattle.explorer.specs.declared.walk.Next.{Next}
use Rattle.explorer.specs.declared.walk.Next.TheVariants.{Over, Walks}
use Rattle.explorer.specs.declared.walker.Walker.{Walker}

-- the history of a walk is what its run tells
is_closed : (P : Policy) (S : Script) (w : Walk) → closed P S w ≡ ev Listener Close ∷ w.events
unfolding step
is_closed P S w = refl

-- the run is still going at its end
pub run_going : (P : Policy) (S : Script) (W : ℕ) (walks : List Walk) (d : ℕ) (fs : List Frame) (r : Run) → IsAtEnd P S W walks d fs r → IsGoing P r
run_going P S W walks d fs r at =
    let run = at.come.run in
    record {
      at = record { served = run.at.served; script = refl; events = refl };
      hands = rw run.at.events run.hands;
      marks_are = rw (run.at.script, run.at.events) run.marks_are;
    }

pub walk_ended : (P : Policy) (S : Script) (W : ℕ) (walks : List Walk) (d : ℕ) (fs : List Frame) (r : Run) → IsAtEnd P S W walks d fs r → length (story r) < 2 ^ 62
    → (script : Script) (history : List Event) (places : List ℕ) → script ≡ script_in r → history ≡ ev Listener Close ∷ story r → places ≡ hidden (script_in r) (story r)
    → EndsWalk P S W walks d fs script history places
walk_ended P S W walks d fs r at few script history places is e seen = record {
  walk = record { left = d; events = story r };
  left_is = refl;
  history_is = is_closed P S (record { left = d; events = story r }) ∙ sym e;
  hidden_is = seen ∙ (ap (λ (T : Script). hidden T (story r)) at.come.run.at.script ∙ (sym (close_hides_none S (story r)) ∙ ap (hidden S) (sym e)));
  few = omega (arith, ap length e);
  walks_are = at.left;
  turns = at.come.turns;
  script_is = is ∙ at.come.run.at.script;
}

pub turns_there : (P : Policy) (S : Script) (W : ℕ) (walks : List Walk) (d : ℕ) (fs : List Frame) (script : Script) (history : List Event) (places : List ℕ) → EndsWalk P S W walks d fs script history places
    → AreTurns P script W (started script) fs
turns_there P S W walks d fs script history places e = subst (λ (T : Script). AreTurns P T W (started T) fs) (sym e.script_is) e.turns

module _ (P : Policy) (S : Script) (W : ℕ) where
  script_there : (walks : List Walk) (fs : List Frame) (next : Next) → LeadsTo P S W walks fs next → script_at next ≡ S
  script_there walks fs (Walks r d) l = l.0.run.at.script
  script_there walks fs (Over script) l = l.0

  next_there : (walks : List Walk) (fs : List Frame) (next : Next) → LeadsTo P S W walks fs next → IsNext P S W fs next
  next_there walks fs (Walks r d) l = l.0
  next_there walks fs (Over script) l = l.0

  left_there : (walks : List Walk) (fs : List Frame) (next : Next) → LeadsTo P S W walks fs next → walks ≡ walks_left P S W fs next
  left_there walks fs (Walks r d) l = l.1
  left_there walks fs (Over script) l = l.1

  pub leads_on : (walks : List Walk) (w : Walker) → LeadsTo P S W walks w.frames.items w.next → GoesThrough P S W walks w
  leads_on walks w l =
      let is = script_there walks w.frames.items w.next l in
      record {
        script_is = is;
        going = subst (λ (T : Script). IsNext P T W w.frames.items w.next) (sym is) (next_there walks w.frames.items w.next l);
        left = subst (λ (T : Script). walks ≡ walks_left P T W w.frames.items w.next) (sym is) (left_there walks w.frames.items w.next l);
      }

  -- ---- The first walk

  at_start : (r : Run) (fs : List Frame) → fs ≡ [] → IsRun P S (started S) r → HasCome P S W fs r
  unfolding AreTurns after
  at_start r fs e i = rw e (record { run = i; turns = tt })

  all_left : (d : ℕ) (fs : List Frame) → fs ≡ [] → walks_of P S W d ≡ left_from P S W fs d
  unfolding after last_place pending
  all_left d fs e = rw (e, append-nil) refl

  pub begins : (d : ℕ) (r : Run) (fs : List Frame) → fs ≡ [] → IsRun P S (started S) r → LeadsTo P S W (walks_of P S W d) fs (Walks r d)
  begins d r fs e i = (at_start r fs e i, all_left d fs e)

-- ---- The next one

module _ (P : Policy) (W : ℕ) (old : Walker) (run : Run) (d : ℕ) (is : old.next ≡ Walks run d) where
  pub comes_here : IsNext P (script_of old) W old.frames.items old.next → HasCome P (script_in run) W old.frames.items run
  comes_here n = subst (λ (n : Next). IsNext P (script_at n) W old.frames.items n) is n

  module _ (S : Script) (walks : List Walk) (through : GoesThrough P S W walks old) where
    script_same : script_in run ≡ S
    script_same = sym (ap script_at is) ∙ through.script_is

    walks_same : walks ≡ left_from P S W old.frames.items d
    walks_same = through.left ∙ (ap (λ (T : Script). walks_left P T W old.frames.items old.next) through.script_is ∙ ap (λ (n : Next). walks_left P S W old.frames.items n) is)

    pub next_ended : (gs : List Frame) (script : Script) (history : List Event) (places : List ℕ)
        → EndsWalk P (script_in run) W (left_from P (script_in run) W old.frames.items d) d gs script history places
        → (new : Walker) → LeadsTo P script W (behind P script W gs) new.frames.items new.next → EndsFirst P S W walks d history places new
    next_ended gs script history places ended new leads =
        let here = subst (λ (T : Script). EndsWalk P T W (left_from P T W old.frames.items d) d gs script history places) script_same ended in
        record {
          walk = here.walk;
          more = behind P S W gs;
          walks_are = walks_same ∙ here.walks_are;
          left_is = here.left_is;
          history_is = here.history_is;
          hidden_is = here.hidden_is;
          few = here.few;
          goes_on = leads_on P S W (behind P S W gs) new (subst (λ (T : Script). LeadsTo P T W (behind P T W gs) new.frames.items new.next) here.script_is leads);
        }

-- or none
pub none_next : (P : Policy) (W : ℕ) (old : Walker) (script : Script) → old.next ≡ Over script → (S : Script) (walks : List Walk) → GoesThrough P S W walks old → (script ≡ S) × (walks ≡ [])
none_next P W old script is S walks through =
    (sym (ap script_at is) ∙ through.script_is, through.left ∙ ap (λ (n : Next). walks_left P (script_of old) W old.frames.items n) is)

-- fewer are left
pub fewer_left : (P : Policy) (S : Script) (W : ℕ) (walks : List Walk) (old new : Walker) (left : ℕ) (history : List Event) (places : List ℕ) → GoesThrough P S W walks old → EndsFirst P S W walks left history places new
    → length (walks_in P W new) < length (walks_in P W old)
fewer_left P S W walks old new left history places through ended = omega (arith, ap length through.left, ap length ended.walks_are, ap length ended.goes_on.left)
