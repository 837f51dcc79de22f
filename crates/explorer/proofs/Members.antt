-- All histories of a state go on as that does which is played; and with one more turn they go on as that does with the turn.
-- By what their keys tell: then with any states that the played one has, since its history leaves nothing else open.
use Rattle.std.proofs.Common.{◌≡◌, inl, inr, ℕ, ◌<◌, ◌≤◌, ◌^◌, true, List, [], ◌∷◌, length, refl, sym, ◌∙◌, subst}
use Rattle.std.specs.Prelude.{All, Contains}
use Rattle.std.proofs.lemmas.List.Elements.{All-cons, All-contains, All-nil}
use Rattle.hist_model.specs.ReportAudit.{judging_by}
use Rattle.hist_model.specs.declared.event.Event.{Event}
use Rattle.hist_model.specs.declared.policy.Policy.{Policy}
use Rattle.hist_model.specs.declared.script.Script.{Script}
use Rattle.delay_bounded.specs.Circle.{at_place, is_able, with_turn}
use Rattle.delay_bounded.specs.Laws.{IsWalked}
use Rattle.listener.specs.State as call_state
use Rattle.tasks.specs.State.{State as TaskState, after}
use Rattle.same_futures.specs.Kernels.{calls_of, tasks_of}
use Rattle.same_futures.specs.Lines.{SameLines}
use Rattle.same_futures.specs.Places.{turn_of}
use Rattle.same_futures.specs.Same.{Same}
use Rattle.same_futures.specs.States.{HasStates}
use Rattle.same_futures.specs.Turns.{IsTurn}
use Rattle.same_futures.proofs.Circles.{turn-alike, turn-event}
use Rattle.same_futures.proofs.Exchanged.{same-exchanged}
use Rattle.same_futures.proofs.Joined.{same-back, same-joined}
use Rattle.same_futures.proofs.KeptLines.{lines-after-turn}
use Rattle.same_futures.proofs.Outcomes.{lines-back, lines-joined}
use Rattle.same_futures.proofs.SameTables.{has-states, same-self}
use Rattle.same_futures.proofs.Taken.{takes-turn}
use Rattle.same_futures.proofs.Walks.{begun}
use Rattle.explorer.specs.Frames.{last_place}
use Rattle.explorer.specs.Keys.{AreJoined, GoesAlike}
use Rattle.explorer.specs.Levels.{GoOnAsOne, HasKey, events_of}
use Rattle.explorer.specs.Runs.{IsRun, story}
use Rattle.explorer.specs.declared.frames.Frame.{Frame}
use Rattle.explorer.specs.declared.run.Run.{Run}
use Rattle.explorer.specs.declared.state.Bound.{Bound}
use Rattle.explorer.proofs.Keys.{keys-join}

module _ (P : Policy) (S : Script) where
  abbrev tasks : Run → TaskState
  tasks r = tasks_of r.machine.kernel

  abbrev calls : Run → call_state.State
  calls r = calls_of r.machine.kernel

  states_of : (r : Run) → IsRun P S (story r) r → HasStates S (story r) (tasks r) (calls r)
  states_of r i = subst (λ (T : Script). HasStates T (story r) (tasks r) (calls r)) i.at.script (has-states r.machine.kernel i.at.served.kernel)

  -- a run beside itself
  alone : (r : Run) → IsRun P S (story r) r → GoesAlike P S r (story r)
  alone r i = record {
    same = subst (λ (T : Script). Same T (tasks r) (calls r) (story r) (story r)) i.at.script (same-self r.machine.kernel i.at.served.kernel);
    lines = record { names_are = refl; lines_are = λ n. refl };
  }

  -- two histories that go on as runs with one key do go on alike
  module _ (W : ℕ) (limit : W ≤ 15) (b : Bound) (n : ℕ) (key : List ℕ) (fs gs : List Frame) (h : HasKey P S W b n key fs) (g : HasKey P S W b n key gs) where
    joined : AreJoined P S h.run g.run (last_place 0 fs) (last_place 0 gs)
    joined = keys-join P S W h.run g.run (last_place 0 fs) (last_place 0 gs) h.at g.at h.walked g.walked limit (g.as_long ∙ sym h.as_long) (sym h.key_is ∙ g.key_is)

    others : Same S (tasks h.run) (calls h.run) (story g.run) (events_of P S W b gs)
    others = subst (λ (c : call_state.State). Same S (tasks h.run) c (story g.run) (events_of P S W b gs)) joined.states.calls_are
        (subst (λ (t : TaskState). Same S t (calls g.run) (story g.run) (events_of P S W b gs)) joined.states.tasks_are g.alike.same)

    both-same : Same S (tasks h.run) (calls h.run) (events_of P S W b fs) (events_of P S W b gs)
    both-same =
        same-joined S (tasks h.run) (calls h.run) (events_of P S W b fs) (story h.run) (events_of P S W b gs)
        (same-back S (tasks h.run) (calls h.run) (story h.run) (events_of P S W b fs) h.alike.same)
        (same-joined S (tasks h.run) (calls h.run) (story h.run) (story g.run) (events_of P S W b gs) joined.alike.same others)

    both-lines : SameLines S (judging_by P.rules) (events_of P S W b fs) (events_of P S W b gs)
    both-lines =
        lines-joined S (judging_by P.rules) (events_of P S W b fs) (story h.run) (events_of P S W b gs)
        (lines-back S (judging_by P.rules) (story h.run) (events_of P S W b fs) h.alike.lines)
        (lines-joined S (judging_by P.rules) (story h.run) (story g.run) (events_of P S W b gs) joined.alike.lines g.alike.lines)

    -- and the second as a run does that has come to the first
    pub played : (r : Run) → IsRun P S (story r) r → story r ≡ events_of P S W b fs → GoesAlike P S r (events_of P S W b gs)
    played r i is = record {
      same = same-exchanged S (tasks h.run) (tasks r) (calls h.run) (calls r) (story r) (events_of P S W b gs)
          (subst (λ (K : List Event). Same S (tasks h.run) (calls h.run) K (events_of P S W b gs)) (sym is) both-same) (states_of r i);
      lines = subst (λ (K : List Event). SameLines S (judging_by P.rules) K (events_of P S W b gs)) (sym is) both-lines;
    }

    -- the same actor stepped last
    pub same_last : last_place 0 gs ≡ last_place 0 fs
    same_last = joined.place_is

  -- so all histories of a state go on as the played one does, where the same actor stepped last
  pub all_go_on : (W : ℕ) → W ≤ 15 → (b : Bound) (n : ℕ) (key : List ℕ) (first : List Frame) (ms : List (List Frame)) → Contains ms first → GoOnAsOne P S W b n key first ms
      → (r : Run) → IsRun P S (story r) r → story r ≡ events_of P S W b first
      → All (λ fs. GoesAlike P S r (events_of P S W b fs) × (last_place 0 fs ≡ last_place 0 first)) ms
  all_go_on W limit b n key first ms there (inl is) r i at =
      let one : GoesAlike P S r (events_of P S W b first) = subst (λ (K : List Event). GoesAlike P S r K) at (alone r i) in
      subst (λ (xs : List (List Frame)). All (λ fs. GoesAlike P S r (events_of P S W b fs) × (last_place 0 fs ≡ last_place 0 first)) xs) (sym is)
      (All-cons (λ fs. GoesAlike P S r (events_of P S W b fs) × (last_place 0 fs ≡ last_place 0 first)) first [] (one, refl)
      (All-nil (λ fs. GoesAlike P S r (events_of P S W b fs) × (last_place 0 fs ≡ last_place 0 first))))
  all_go_on W limit b n key first ms there (inr all) r i at =
      let h = All-contains (HasKey P S W b n key) ms first all there in
      λ k d l. (played W limit b n key first _ h (all k d l) r i at, same_last W limit b n key first _ h (all k d l))

  -- ---- With one more turn

  module _ (W : ℕ) (r new : Run) (L : List Event) (i : IsRun P S (story r) r) (k : IsWalked P S W (story r)) (few : length (story r) < 2 ^ 64) (q : ℕ)
      (a : is_able P S (story r) (at_place (story r) q) ≡ true) (j : IsRun P S (with_turn P S (story r) q) new) (g : GoesAlike P S r L) where
    turn : IsTurn S (story r) (turn_of P S (story r) q)
    turn = takes-turn P S (tasks r) (calls r) (story r) (states_of r i) k.goes_on.legal few (begun P S W (story r) k) q a

    here : IsRun P S (story new) new
    here = subst (λ (K : List Event). IsRun P S K new) (sym j.at.events) j

    pub turn_goes_on : GoesAlike P S new (with_turn P S L q)
    turn_goes_on =
        let K = story r in
        let e = turn_of P S K q in
        let ts = after S (tasks r) e in
        let cs = call_state.after (calls r) e in
        let same : Same S ts cs (with_turn P S K q) (with_turn P S L q) = turn-alike S (tasks r) (calls r) K L g.same P q turn in
        let at : Same S ts cs (story new) (with_turn P S L q) = subst (λ (H : List Event). Same S ts cs H (with_turn P S L q)) (sym j.at.events) same in
        let lines : SameLines S (judging_by P.rules) (e ∷ K) (with_turn P S L q) =
        subst (λ (f : Event). SameLines S (judging_by P.rules) (e ∷ K) (f ∷ L)) (sym (turn-event S (tasks r) (calls r) K L g.same P q)) (lines-after-turn S (tasks r) (calls r) K L g.same (judging_by P.rules) e g.lines turn) in
        record {
          same = same-exchanged S ts (tasks new) cs (calls new) (story new) (with_turn P S L q) at (states_of new here);
          lines = subst (λ (H : List Event). SameLines S (judging_by P.rules) H (with_turn P S L q)) (sym j.at.events) lines;
        }
