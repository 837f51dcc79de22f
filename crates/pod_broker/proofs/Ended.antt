-- Containers that were served side by side give no common PID, where their scripts' ranges don't overlap.
-- Each gives numbers of its own script's range alone, and two ranges that don't overlap have none in common; by induction on the lists.
use Rattle.std.proofs.Common.{◌≡◌, ℕ, suc, false, List, [], ◌∷◌, map, All, Option, Some, refl, subst, arith}
use Rattle.std.proofs.lemmas.Bool.{false_from_ne_true}
use Rattle.std.proofs.lemmas.List.Elements.{All-cons, All-head, All-nil, All-tail}
use Rattle.std.proofs.lemmas.List.Kept.{AllPairs-cons}
use Rattle.std.proofs.lemmas.Result.{IfOk-weaker}
use Rattle.std.specs.Prelude.{Result, IfOk}
use Rattle.std.specs.List.{AllPairs, AllZip}
use Rattle.hist_model.specs.declared.event.Event.{Event}
use Rattle.hist_model.specs.declared.history.Setup.{Setup}
use Rattle.hist_model.specs.declared.policy.Policy.{Policy}
use Rattle.hist_model.specs.declared.script.Script.{Script}
use Rattle.crew.specs.Duties.{MayServeAll, Takes}
use Rattle.crew.specs.declared.duty.Crew.{Crew}
use Rattle.worker_gate.proofs.Endings.{has_ended}
use Rattle.worker_gate.specs.Endings.{ClosesBehind, HasEnded}
use Rattle.worker_gate.specs.Hands.{Ends}
use Rattle.worker_gate.specs.declared.served.Played.{Played}
use Rattle.pod_broker.proofs.Ranges.{not-shared}
use Rattle.pod_broker.specs.Pods.{AllApart, Apart, GivesInRange, NoneOverlap, overlap, was_given}
use Rattle.pod_broker.specs.Serving.{AreServed, HasEndedAs, IsClosedAs, IsLimited, IsServedTo, histories, scripts, set_up_for}
use Rattle.pod_broker.specs.declared.container.Container.{Container}

-- ---- pairs

first-of : {X : Type 0} (R : X → X → Type 0) (x : X) (xs : List X) → AllPairs R (x ∷ xs) → All (R x) xs
first-of R x xs h = λ k d lt. h 0 (suc k) d (omega arith) (omega arith)

others-of : {X : Type 0} (R : X → X → Type 0) (x : X) (xs : List X) → AllPairs R (x ∷ xs) → AllPairs R xs
others-of R x xs h = λ i j d l k. h (suc i) (suc j) d (omega arith) (omega arith)

-- ---- PIDs

module _ (workers : ℕ) (every : Option ℕ) (Keeps : List Event → Type 0) where
  two-apart : (c d : Container) (p q : Played) → overlap c.script d.script ≡ false → IsServedTo workers every Keeps c p → IsServedTo workers every Keeps d q → Apart p.history.events q.history.events
  two-apart c d p q o s t = λ n g. false_from_ne_true (was_given q.history.events n) (λ h. let out = not-shared c.script d.script n o (s.inside n g) in let inside = t.inside n h in cc)

  one-apart : (c : Container) (p : Played) (cs : List Container) (ps : List Played) → IsServedTo workers every Keeps c p → AreServed workers every Keeps cs ps → All (λ (T : Script). overlap c.script T ≡ false) (scripts cs)
      → All (Apart p.history.events) (histories ps)
  one-apart c p [] [] s t o = All-nil (Apart p.history.events)
  one-apart c p [] (q ∷ qs) s t o = absurd t
  one-apart c p (d ∷ cs) [] s t o = absurd t
  one-apart c p (d ∷ cs) (q ∷ qs) s t o =
      All-cons (Apart p.history.events) q.history.events (histories qs)
      (two-apart c d p q (All-head (λ (T : Script). overlap c.script T ≡ false) d.script (scripts cs) o) s t.0)
      (one-apart c p cs qs s t.1 (All-tail (λ (T : Script). overlap c.script T ≡ false) d.script (scripts cs) o))

  pub all-apart : (cs : List Container) (ps : List Played) → AreServed workers every Keeps cs ps → NoneOverlap (scripts cs) → AllApart (histories ps)
  all-apart [] [] t o = λ i j d l k. absurd (omega arith)
  all-apart [] (p ∷ ps) t o = absurd t
  all-apart (c ∷ cs) [] t o = absurd t
  all-apart (c ∷ cs) (p ∷ ps) t o =
      AllPairs-cons Apart p.history.events (histories ps)
      (one-apart c p cs ps t.0 t.1 (first-of (λ S T. overlap S T ≡ false) c.script (scripts cs) o))
      (all-apart cs ps t.1 (others-of (λ S T. overlap S T ≡ false) c.script (scripts cs) o))

  -- ---- what was closed as it was set up

  closed-one : (c : Container) (p : Played) → IsClosedAs Keeps (set_up_for workers every c) p → IsServedTo workers every Keeps c p
  closed-one c p closed = record {
    policy = closed.policy;
    script = closed.script;
    ended = ended;
    keeps = closed.keeps;
    inside = λ n given. own p.history.events ended.legal n given;
    handed = closed.handed;
  }
    where
      ended : HasEnded c.policy c.script workers p.history.events
      ended = closed.ended workers refl

      own : GivesInRange c.policy c.script
      own = subst (λ (P : Policy). GivesInRange P c.script) closed.policy (subst (λ (S : Script). GivesInRange p.policy S) closed.script closed.inside)

  pub all-closed-so : (cs : List Container) (ps : List Played) → AllZip (IsClosedAs Keeps) (map (set_up_for workers every) cs) ps → AreServed workers every Keeps cs ps
  all-closed-so [] [] z = tt
  all-closed-so [] (p ∷ ps) z = absurd z
  all-closed-so (c ∷ cs) [] z = absurd z
  all-closed-so (c ∷ cs) (p ∷ ps) z = (closed-one c p z.0, all-closed-so cs ps z.1)

  -- each container that is set up so has a last worker
  pub limited : (cs : List Container) → All IsLimited (map (set_up_for workers every) cs)
  limited [] = All-nil IsLimited
  limited (c ∷ cs) = All-cons IsLimited (set_up_for workers every c) (map (set_up_for workers every) cs) (workers, refl) (limited cs)

-- and takes a crew whose workers are up to that one
pub taken : (workers : ℕ) (every : Option ℕ) (crew : Crew) (cs : List Container) → MayServeAll (Some workers) crew → All (Takes crew) (map (set_up_for workers every) cs)
taken workers every crew [] may = All-nil (Takes crew)
taken workers every crew (c ∷ cs) may = All-cons (Takes crew) (set_up_for workers every c) (map (set_up_for workers every) cs) may (taken workers every crew cs may)

-- ---- what is closed where nothing is left to do

pub ends-as : {E : Type 0} (made : Setup) (K : List Event) (r : Result Played E) → Ends made K → IfOk r (λ p. ClosesBehind K p.history.events) → IfOk r (λ p. HasEndedAs made p.history.events)
ends-as made K r ends closed = IfOk-weaker r _ _ (λ p closes workers limit. has_ended made workers K p.history.events (ends workers limit) closes) closed
