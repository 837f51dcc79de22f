-- Where all goes on alike with some states, it does so with any other states that the first history has.
-- By what a history says of each part of a state; what it leaves open is a matter of the script alone.
use Rattle.std.proofs.Common.{◌≡◌, ℕ, List, Option, Some, None, refl, sym, ap₂, ◌∙◌, subst, arith}
use Rattle.std.specs.Prelude.{ℤ}
use Rattle.hist_model.specs.Look.{Name}
use Rattle.hist_model.specs.Memory.{last_call}
use Rattle.hist_model.specs.declared.event.Event.{Event}
use Rattle.hist_model.specs.declared.event.What.{What}
use Rattle.hist_model.specs.declared.script.Script.{Script}
use Rattle.history_frames.specs.Ordinals.{makes_group}
use Rattle.history_frames.proofs.Ordinals.{place-one}
use Rattle.listener.specs.Fold as calls
use Rattle.listener.specs.State as call_state
use Rattle.tasks.specs.Fold.{IsEntry, IsGroupOf, IsRow, IsRowOf, Looks}
use Rattle.tasks.specs.State.{Row, State}
use Rattle.tasks.specs.declared.row.EnteredCall.{EnteredCall}
use Rattle.tasks.proofs.Folds.{row-below, row-there}
use Rattle.same_futures.specs.Same.{Same}
use Rattle.same_futures.specs.States.{HasStates}

-- a step enters one call at most
entry-one : (a b : Option EnteredCall) (w : What) → IsEntry a w → IsEntry b w → a ≡ b
entry-one (Some x) (Some y) w p q =
    let nr : x.nr ≡ y.nr = cc (p.1, q.1) in
    let args : x.args ≡ y.args = cc (p.1, q.1) in
    ap₂ (λ (m : ℤ) (list : List ℕ). Some (record { nr = m; args = list })) nr args
entry-one (Some x) None w p q = absurd (cc (p.1, q))
entry-one None (Some y) w p q = absurd (cc (p, q.1))
entry-one None None w p q = refl

module _ (S : Script) (K L : List Event) where
  group-exchanged : (n : Name) (o p : ℕ) → IsGroupOf K n o → IsGroupOf L n o → IsGroupOf K n p → IsGroupOf L n p
  group-exchanged n o p k l m =
      let q : o ≡ p = place-one makes_group K o p m.0 (k.1 ∙ (sym k.2 ∙ m.2)) m.1 in
      subst (λ (x : ℕ). IsGroupOf L n x) q l

  row-exchanged : (n : Name) (r t : Row) → IsRow S K n r → IsRow S L n r → IsRow S K n t → IsRow S L n t
  row-exchanged n r t k l m =
      let entered : r.entered ≡ t.entered = entry-one r.entered t.entered (last_call K n) k.entered_is m.entered_is in
      record {
        pid_is = m.pid_is ∙ (sym k.pid_is ∙ l.pid_is);
        group_is = group-exchanged n r.group t.group k.group_is l.group_is m.group_is;
        program_is = m.program_is;
        next_is = omega (arith, k.next_is, l.next_is, m.next_is);
        starts_are = m.starts_are ∙ (sym k.starts_are ∙ l.starts_are);
        spawns_is = m.spawns_is ∙ (sym k.spawns_is ∙ l.spawns_is);
        call_is = m.call_is ∙ (sym k.call_is ∙ l.call_is);
        entered_is = subst (λ (x : Option EnteredCall). IsEntry x (last_call L n)) entered l.entered_is;
        owes_is = m.owes_is ∙ (sym k.owes_is ∙ l.owes_is);
        behind_call = m.behind_call;
        ended_is = m.ended_is ∙ (sym k.ended_is ∙ l.ended_is);
        waited_is = m.waited_is ∙ (sym k.waited_is ∙ l.waited_is);
        fostered_is = m.fostered_is ∙ (sym k.fostered_is ∙ l.fostered_is);
        pending_is = m.pending_is ∙ (sym k.pending_is ∙ l.pending_is);
        dispositions_is = m.dispositions_is ∙ (sym k.dispositions_is ∙ l.dispositions_is);
      }

  row-of-exchanged : (o : ℕ) (r t : Row) → IsRowOf S K o r → IsRowOf S L o r → IsRowOf S K o t → IsRowOf S L o t
  row-of-exchanged o r t k l m =
      let name : r.name ≡ t.name = k.name_is ∙ sym m.name_is in
      record {
        name_is = m.name_is ∙ (sym k.name_is ∙ l.name_is);
        is_row = row-exchanged t.name r t (subst (λ (n : Name). IsRow S K n r) name k.is_row) (subst (λ (n : Name). IsRow S L n r) name l.is_row) m.is_row;
      }

  tasks-exchanged : (s t : State) → Looks S K s → Looks S L s → Looks S K t → Looks S L t
  tasks-exchanged s t k l m = record {
    count = m.count ∙ (sym k.count ∙ l.count);
    rows = λ o r at.
        let old = row-there S K s o k (row-below S K t o r m at) in
        row-of-exchanged o old.0 r (k.rows o old.0 old.1) (l.rows o old.0 old.1) (m.rows o r at);
    last_is = m.last_is ∙ (sym k.last_is ∙ l.last_is);
    groups_is = m.groups_is ∙ (sym k.groups_is ∙ l.groups_is);
  }

calls-exchanged : (first : ℕ) (K L : List Event) (c d : call_state.State) → calls.Looks first K c → calls.Looks first L c → calls.Looks first K d → calls.Looks first L d
calls-exchanged first K L c d k l m = record {
  first_is = m.first_is;
  entered_is = m.entered_is ∙ (sym k.entered_is ∙ l.entered_is);
  received_is = m.received_is ∙ (sym k.received_is ∙ l.received_is);
  calls_are = m.calls_are ∙ (sym k.calls_are ∙ l.calls_are);
  asks_are = m.asks_are ∙ (sym k.asks_are ∙ l.asks_are);
}

pub same-exchanged : (S : Script) (s t : State) (c d : call_state.State) (K L : List Event) → Same S s c K L → HasStates S K t d → Same S t d K L
same-exchanged S s t c d K L same h =
    let here = same.states.here in
    let there = same.states.there in
    record {
      length_is = same.length_is;
      states = record {
        here = h;
        there = record {
          tasks = tasks-exchanged S K L s t here.tasks there.tasks h.tasks;
          tasks_sound = there.tasks_sound;
          calls = calls-exchanged S.firstid K L c d here.calls there.calls h.calls;
          calls_sound = there.calls_sound;
          asked = there.asked;
        };
      };
      tree_is = same.tree_is;
      spent_is = same.spent_is;
      groups = same.groups;
      workers = same.workers;
    }
