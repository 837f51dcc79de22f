-- What is the same in a pair of histories and in a next one is the same in all three, and either way round.
-- By the parts: places and groups of the history in the middle are the same in both pairs.
use Rattle.std.proofs.Common.{◌≡◌, inl, inr, ℕ, List, Option, Some, None, sym, ap, ◌∙◌, subst}
use Rattle.hist_model.specs.Legal.{is_open_session}
use Rattle.hist_model.specs.Look.{Name}
use Rattle.hist_model.specs.Sessions.{session}
use Rattle.hist_model.specs.Steps.{mem}
use Rattle.hist_model.specs.declared.event.Event.{Event}
use Rattle.hist_model.specs.declared.event.What.{What}
use Rattle.hist_model.specs.declared.script.Script.{Script}
use Rattle.history_frames.specs.Ordinals.{group_of, makes_group}
use Rattle.history_frames.proofs.Ordinals.{place-one}
use Rattle.listener.specs.State as call_state
use Rattle.tasks.specs.State.{State}
use Rattle.same_futures.specs.Groups.{SameGroup, SameGroupOf}
use Rattle.same_futures.specs.Same.{Same}
use Rattle.same_futures.specs.Workers.{IsSameMemory, IsSameSession}
use Rattle.same_futures.proofs.Tasks.{ended-same, made-same}

abbrev or_zero : Option ℕ → ℕ
or_zero (Some g) = g
or_zero None = 0

-- ---- either way round

module _ (S : Script) (K L : List Event) where
  group-back : (g h : ℕ) → SameGroup S K L g h → SameGroup S L K h g
  group-back g h s = record { bytes = λ a m. sym (s.bytes a m); slots = λ n. sym (s.slots n) }

  group-of-back : (n : Name) → SameGroupOf S K L n → SameGroupOf S L K n
  group-of-back n s = record { here = s.there; there = s.here; here_is = s.there_is; there_is = s.here_is; same = group-back s.here s.there s.same }

  memory-back : (a b : Option ℕ) → IsSameMemory S K L a b → IsSameMemory S L K b a
  memory-back (Some g) (Some h) s = (s.0, s.2, s.1, λ x m. sym (s.3 x m))
  memory-back None None s = tt
  memory-back (Some g) None s = s
  memory-back None (Some h) s = s

session-back : (own other : List What) → IsSameSession own other → IsSameSession other own
session-back own other (inl q) = inl (sym q)
session-back own other (inr h) = inr (h.1, h.0)

pub same-back : (S : Script) (ts : State) (cs : call_state.State) (K L : List Event) → Same S ts cs K L → Same S ts cs L K
same-back S ts cs K L same = record {
  length_is = sym same.length_is;
  states = record { here = same.states.there; there = same.states.here };
  tree_is = sym same.tree_is;
  spent_is = λ rule. sym (same.spent_is rule);
  groups = λ n m d. group-of-back S K L n
      (same.groups n (sym (made-same S K L ts cs same.states n) ∙ m) (sym (ended-same S K L ts cs same.states n) ∙ d));
  workers = λ w. record {
    base = sym (same.workers w).base;
    memory = memory-back S K L (mem K w) (mem L w) (same.workers w).memory;
    session = session-back (session K w) (session L w) (same.workers w).session;
  };
}

-- ---- with a next one

module _ (S : Script) (K L M : List Event) where
  group-joined : (g h i : ℕ) → SameGroup S K L g h → SameGroup S L M h i → SameGroup S K M g i
  group-joined g h i s t = record { bytes = λ a m. t.bytes a m ∙ s.bytes a m; slots = λ n. t.slots n ∙ s.slots n }

  group-of-joined : (n : Name) → SameGroupOf S K L n → SameGroupOf S L M n → SameGroupOf S K M n
  group-of-joined n s t =
      let q : s.there ≡ t.here = ap or_zero (sym s.there_is ∙ t.here_is) in
      record {
        here = s.here;
        there = t.there;
        here_is = s.here_is;
        there_is = t.there_is;
        same = group-joined s.here s.there t.there s.same (subst (λ (g : ℕ). SameGroup S L M g t.there) (sym q) t.same);
      }

  memory-joined : (a b c : Option ℕ) → IsSameMemory S K L a b → IsSameMemory S L M b c → IsSameMemory S K M a c
  memory-joined (Some g) (Some h) (Some i) s t =
      let q : t.0 ≡ s.0 = place-one makes_group L t.0 s.0 h t.1 s.2 in
      (s.0, s.1, subst (λ (o : ℕ). group_of M o ≡ Some i) q t.2, λ x m. t.3 x m ∙ s.3 x m)
  memory-joined None None None s t = tt
  memory-joined (Some g) None c s t = absurd s
  memory-joined None (Some h) c s t = absurd s
  memory-joined (Some g) (Some h) None s t = absurd t
  memory-joined None None (Some i) s t = absurd t

session-joined : (own middle last : List What) → IsSameSession own middle → IsSameSession middle last → IsSameSession own last
session-joined own middle last (inl q) (inl r) = inl (r ∙ q)
session-joined own middle last (inl q) (inr h) = inr (ap is_open_session (sym q) ∙ h.0, h.1)
session-joined own middle last (inr h) (inl r) = inr (h.0, ap is_open_session r ∙ h.1)
session-joined own middle last (inr h) (inr k) = inr (h.0, k.1)

pub same-joined : (S : Script) (ts : State) (cs : call_state.State) (K L M : List Event) → Same S ts cs K L → Same S ts cs L M → Same S ts cs K M
same-joined S ts cs K L M a b = record {
  length_is = b.length_is ∙ a.length_is;
  states = record { here = a.states.here; there = b.states.there };
  tree_is = b.tree_is ∙ a.tree_is;
  spent_is = λ rule. b.spent_is rule ∙ a.spent_is rule;
  groups = λ n m d. group-of-joined S K L M n (a.groups n m d)
      (b.groups n (made-same S K L ts cs a.states n ∙ m) (ended-same S K L ts cs a.states n ∙ d));
  workers = λ w. record {
    base = (b.workers w).base ∙ (a.workers w).base;
    memory = memory-joined S K L M (mem K w) (mem L w) (mem M w) (a.workers w).memory (b.workers w).memory;
    session = session-joined (session K w) (session L w) (session M w) (a.workers w).session (b.workers w).session;
  };
}
