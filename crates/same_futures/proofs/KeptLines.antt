-- Histories after which all goes on alike, and that have the same lines, have the same lines after a turn, and come to the same text.
-- By `lines-after`: what is known beside a line is the same in both, and so is what the turn makes of the line.
use Rattle.std.proofs.Common.{◌≡◌, inl, inr, ℕ, List, ◌∷◌, ◌++◌, length, map, Option, Some, None, refl, sym, ap, ap₂, subst, ◌∙◌}
use Rattle.std.specs.Prelude.{option_map, Ok}
use Rattle.std.specs.List.{flat_map}
use Rattle.hist_model.specs.Calls.{caller}
use Rattle.hist_model.specs.Files.{files}
use Rattle.hist_model.specs.Legal.{tree}
use Rattle.hist_model.specs.Look.{Name, ev}
use Rattle.hist_model.specs.Natives.{root}
use Rattle.hist_model.specs.Paths.{Follow, reaches}
use Rattle.hist_model.specs.ReportAudit.{Judging}
use Rattle.hist_model.specs.Sessions.{session}
use Rattle.hist_model.specs.Steps.{oldest_unfetched, step}
use Rattle.hist_model.specs.Trees.{Tree}
use Rattle.hist_model.specs.declared.event.Actor.{Actor}
use Rattle.hist_model.specs.declared.event.Actor.TheVariants.{Listener, Worker}
use Rattle.hist_model.specs.declared.event.Event.{Event}
use Rattle.hist_model.specs.declared.event.What.{What}
use Rattle.hist_model.specs.declared.event.What.TheVariants.{Act, Close}
use Rattle.hist_model.specs.declared.policy.Policy.{Policy}
use Rattle.hist_model.specs.declared.request.Request.TheVariants.{Mount, SetXattr}
use Rattle.hist_model.specs.declared.script.Script.{Script}
use Rattle.mount_tree.specs.Looks.{newest_root}
use Rattle.delay_bounded.specs.Explored.{Walk}
use Rattle.listener.proofs.Answers.{oldest-is}
use Rattle.listener.specs.State as call_state
use Rattle.tasks.specs.State.{State}
use Rattle.outcome_text.specs.Outcomes.{calls_of, names_with, result_of, task_names}
use Rattle.outcome_text.specs.Sight.{done_on, marks, node_at}
use Rattle.outcome_lines.specs.Lines.{lines_in, lines_with}
use Rattle.outcome_lines.specs.Texts.{lines_text}
use Rattle.outcome_lines.specs.declared.line.Line.{Line}
use Rattle.outcome_lines.proofs.Texts.{outcome-told}
use Rattle.same_futures.specs.Lines.{SameLines, result_at}
use Rattle.same_futures.specs.Same.{Same}
use Rattle.same_futures.specs.Turns.{IsTurn}
use Rattle.same_futures.specs.Workers.{IsSameSession}
use Rattle.same_futures.proofs.Calls.{IsOneCall, one-call}
use Rattle.same_futures.proofs.Futures.{same-after}
use Rattle.same_futures.proofs.LineSteps.{Known, Receives, known, line_after, lines-after, lines-counted, new_line, open_steps, steps_in}
use Rattle.same_futures.proofs.Receiving.{IsAnswer, answer-turn, next_of, receives}
use Rattle.same_futures.proofs.Workers.{deed-step-same}

-- ---- What is known beside a line

open-same : (own other : List What) → IsSameSession own other → open_steps other ≡ open_steps own
open-same own other (inl q) = ap open_steps q
open-same own other (inr h) = rw (h.0, h.1) refl

-- on which node a step was done is told by the tree and the base after it
module _ (S : Script) (M N : List Event) (trees : tree S N ≡ tree S M) (bases : (w : ℕ) → (files S N).base w ≡ (files S M).base w) where
  done-same : (who : Actor) (a : What) → done_on S N who a ≡ done_on S M who a
  done-same (Worker w) (Act (Mount source target fstype options via flags shift) cap (Ok u)) = ap (λ (T : Tree). newest_root T.mounts) trees
  done-same (Worker w) (Act (SetXattr path name value flags) cap (Ok u)) =
      ap₂ (λ (T : Tree) (b : Option ℕ). node_at (reaches T (root S) b path Follow)) trees (bases w)
  done-same _ _ = refl

module _ (S : Script) (J : Judging) (K L : List Event) (same : SameLines S J K L) where
  calls-same : (n : Name) → calls_of n L ≡ calls_of n K
  calls-same n = sym (lines-counted J (marks S L) L n L) ∙ (ap (λ (ls : List Line). length ls) (same.lines_are n) ∙ lines-counted J (marks S K) K n K)

  -- after an event of which the same is known in both
  lines-kept : (who : Actor) (a : What) (received : Option Name) → Receives K who a received → Receives L who a received → steps_in L who ≡ steps_in K who
      → done_on S (ev who a ∷ L) who a ≡ done_on S (ev who a ∷ K) who a → SameLines S J (ev who a ∷ K) (ev who a ∷ L)
  unfolding task_names
  lines-kept who a received r t steps node = record {
    names_are = ap (names_with a) same.names_are;
    lines_are = λ n.
        lines-after J S who a L received t n
        ∙ (ap₂ (λ (ls new : List Line). ls ++ new)
        (ap₂ (λ (k : Known) (ls : List Line). map (line_after k who a) ls) (known-same n) (same.lines_are n))
        (ap (λ (c : ℕ). new_line n c who a) (calls-same n))
        ∙ sym (lines-after J S who a K received r n));
  }
    where
      known-same : (n : Name) → known J S who a L n received ≡ known J S who a K n received
      known-same n = λ i. record { judging = J; calls = calls-same n i; received = received; steps = steps i; node = node i }

  all-same : lines_in S J L ≡ lines_in S J K
  unfolding lines_with
  all-same = ap₂ (λ (f : Name → List Line) (ns : List Name). flat_map f ns) (λ i. λ n. same.lines_are n i) same.names_are

  pub result-same : tree S L ≡ tree S K → result_of S J L ≡ result_of S J K
  result-same trees = outcome-told S J L ∙ (ap₂ (lines_text J) trees all-same ∙ sym (outcome-told S J K))

  -- the listener's close touches no line, and not the tree
  close-kept : SameLines S J (ev Listener Close ∷ K) (ev Listener Close ∷ L)
  close-kept = lines-kept Listener Close None (record { call_is = λ w m p q. cc }) (record { call_is = λ w m p q. cc }) refl refl

close-tree : (S : Script) (K : List Event) → tree S (ev Listener Close ∷ K) ≡ tree S K
unfolding files
close-tree S K = refl

pub closed-same : (P : Policy) (S : Script) (J : Judging) (v w : Walk) → SameLines S J v.events w.events → tree S w.events ≡ tree S v.events → result_at P S J w ≡ result_at P S J v
unfolding step
closed-same P S J v w same trees =
    result-same S J (ev Listener Close ∷ v.events) (ev Listener Close ∷ w.events) (close-kept S J v.events w.events same)
    (close-tree S w.events ∙ (trees ∙ sym (close-tree S v.events)))

-- ---- A turn

module _ (S : Script) (ts : State) (cs : call_state.State) (K L : List Event) (same : Same S ts cs K L) where
  next-by : (x y : Option ℕ) → IsOneCall K L x y → option_map (caller L) y ≡ option_map (caller K) x
  next-by (Some x) (Some y) q = ap (λ (r : call_state.Row). Some r.task) q
  next-by None None q = refl
  next-by (Some x) None q = cc
  next-by None (Some y) q = cc

  next-same : next_of L ≡ next_of K
  next-same = next-by (oldest_unfetched K) (oldest_unfetched L)
      (one-call K L (oldest_unfetched K) (oldest_unfetched L) (sym (oldest-is S.firstid L cs same.states.there.calls) ∙ oldest-is S.firstid K cs same.states.here.calls))

  steps-same : (who : Actor) → steps_in L who ≡ steps_in K who
  steps-same (Worker w) = open-same (session K w) (session L w) (same.workers w).session
  steps-same _ = refl

  answer-there : (e : Event) → IsAnswer S K e → IsAnswer S L e
  answer-there e t = λ w p. let d = t w p in (d.0, d.1, d.2 ∙ sym (deed-step-same S ts cs K L same d.0 d.1))

  pub lines-after-turn : (J : Judging) (e : Event) → SameLines S J K L → IsTurn S K e → SameLines S J (e ∷ K) (e ∷ L)
  lines-after-turn J e lines t =
      let next = same-after S ts cs K L same e t in
      let here = answer-turn S K e t in
      lines-kept S J K L lines e.who e.what (next_of K) (receives S K ts cs same.states.here e here)
      (subst (λ (r : Option Name). Receives L e.who e.what r) next-same (receives S L ts cs same.states.there e (answer-there e here)))
      (steps-same e.who) (done-same S (e ∷ K) (e ∷ L) next.tree_is (λ w. (next.workers w).base) e.who e.what)
