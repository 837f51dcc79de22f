-- All goes on alike after a turn that comes after one of two histories after which all goes on alike.
-- By the parts: the states, the tree, the times, the groups of those that live, and the workers.
use Rattle.std.proofs.Common.{◌≡◌, ◌⊎◌, inl, inr, ℕ, suc, true, List, [], ◌∷◌, Option, Some, None, refl, sym, ap, ◌∙◌}
use Rattle.std.proofs.lemmas.Bool.{cases_Bool}
use Rattle.sys_abi.specs.declared.wire.Addfd.{Addfd}
use Rattle.hist_model.specs.Calls.{queue}
use Rattle.hist_model.specs.Files.{first_request, no_request, request_for}
use Rattle.hist_model.specs.Kinds.{makes}
use Rattle.hist_model.specs.Look.{Name}
use Rattle.hist_model.specs.Signals.{call_of}
use Rattle.hist_model.specs.Tasks.{is_made}
use Rattle.hist_model.specs.declared.event.Event.{Event}
use Rattle.hist_model.specs.declared.event.What.{What}
use Rattle.hist_model.specs.declared.event.What.TheVariants.{Spawn}
use Rattle.hist_model.specs.declared.script.Script.{Script}
use Rattle.listener.specs.Stands.{oldest_in}
use Rattle.listener.specs.State as call_state
use Rattle.listener.proofs.Folds.{call-is}
use Rattle.tasks.proofs.Named.{made-cases}
use Rattle.tasks.specs.State.{State, after}
use Rattle.same_futures.specs.Same.{Same}
use Rattle.same_futures.specs.Turns.{IsTableStep, IsTaskTurn, IsTurn, IsWorkerTurn}
use Rattle.same_futures.proofs.Calls.{IsOneCall, task-call}
use Rattle.same_futures.proofs.Changes.{TaskChange, task-change}
use Rattle.same_futures.proofs.Kept.{new-group, old-group, old-has, states-more}
use Rattle.same_futures.proofs.KeptWorkers.{WorkerFacts, base-after-task, base-after-worker, facts, mem-after-task, mem-after-worker, session-kept, spent-kept, tree-after-task, tree-after-worker, worker-change}
use Rattle.same_futures.proofs.Steps.{oldest-is-one}
use Rattle.same_futures.proofs.TableSteps.{table-step-same}
use Rattle.same_futures.proofs.Tasks.{row-shared}

-- what the oldest request asks for, or nothing
abbrev asked_or : Option Addfd → Addfd
asked_or None = no_request
asked_or (Some a) = a

first-is : (M : List Event) (rs : List ℕ) → first_request M rs ≡ asked_or (oldest_in M rs)
first-is M [] = refl
first-is M (r ∷ rs) = refl

module _ (S : Script) (ts : State) (cs : call_state.State) (K L : List Event) (same : Same S ts cs K L) where
  request-by : (n : Name) (x y : Option ℕ) → call_of K n ≡ x → call_of L n ≡ y → IsOneCall K L x y → request_for L y ≡ request_for K x
  request-by n (Some x) (Some y) a b q =
      let p = call-is K n x a in
      let r = call-is L n y b in
      first-is L (queue L y)
      ∙ (ap asked_or (oldest-is-one S K L ts cs same.states x y p.0 r.0 (ap (λ (w : call_state.Row). w.id) q)) ∙ sym (first-is K (queue K x)))
  request-by n None None a b q = refl
  request-by n (Some x) None a b q = cc
  request-by n None (Some y) a b q = cc

  request-same : (n : Name) → request_for L (call_of L n) ≡ request_for K (call_of K n)
  request-same n = request-by n (call_of K n) (call_of L n) refl refl (task-call S K L ts cs same.states n)

  module _ (e : Event) (there : IsTableStep S L e) (here : IsTableStep S K e) where
    after-task : IsTaskTurn S K e → Same S (after S ts e) (call_state.after cs e) (e ∷ K) (e ∷ L)
    after-task t =
        let r = row-shared S K L ts cs same.states t.name t.made in
        let c : TaskChange S K L e r.0.group = task-change S ts cs K L same e t r.0 r.1 (ap (λ (a : Addfd). a.srcfd) (request-same t.name)) e.what refl in
        record {
          length_is = ap suc same.length_is;
          states = states-more S K L e ts cs same.states here there;
          tree_is = tree-after-task S ts cs K L same e t;
          spent_is = spent-kept K L e same.spent_is;
          groups = λ n m d. elim (cases_Bool (is_made K n)) [
            | inl k ↦ old-group S ts cs K L same e r.0.group c n k d
            | inr k ↦ new-group S ts cs K L same e t r.0 r.1 c n k m
          ];
          workers = λ w. record {
            base = base-after-task S ts cs K L same e t w;
            memory = mem-after-task S ts cs K L same e (λ o l b. old-has S ts cs K L same e r.0.group o l c b) t w;
            session = session-kept K L e w (same.workers w).session;
          };
        }

    makes-none : (w : What) → WorkerFacts w → makes w ≡ true → ⊥
    makes-none (Spawn n a) f h = f
    makes-none w f h = cc

    after-worker : IsWorkerTurn S K e → Same S (after S ts e) (call_state.after cs e) (e ∷ K) (e ∷ L)
    after-worker t =
        let f = facts S ts cs K L same e t in
        let c : TaskChange S K L e 0 = worker-change S ts cs K L same e t e.what refl f in
        record {
          length_is = ap suc same.length_is;
          states = states-more S K L e ts cs same.states here there;
          tree_is = tree-after-worker S ts cs K L same e t;
          spent_is = spent-kept K L e same.spent_is;
          groups = λ n m d. elim (made-cases e K n m) [
            | inl k ↦ absurd (makes-none e.what f k.0)
            | inr k ↦ old-group S ts cs K L same e 0 c n k d
          ];
          workers = λ w. record {
            base = base-after-worker S ts cs K L same e t w;
            memory = mem-after-worker S ts cs K L same e (λ o l b. old-has S ts cs K L same e 0 o l c b) t w;
            session = session-kept K L e w (same.workers w).session;
          };
        }

  pub same-after : (e : Event) → IsTurn S K e → Same S (after S ts e) (call_state.after cs e) (e ∷ K) (e ∷ L)
  same-after e t = go t.turn
    where
      go : IsTaskTurn S K e ⊎ IsWorkerTurn S K e → Same S (after S ts e) (call_state.after cs e) (e ∷ K) (e ∷ L)
      go (inl x) = after-task e (table-step-same S ts cs K L same e t.table) t.table x
      go (inr x) = after-worker e (table-step-same S ts cs K L same e t.table) t.table x
