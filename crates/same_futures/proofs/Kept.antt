-- After a turn that is the same in both, all still goes on alike.
-- By what the turn makes of the states of tasks, calls and groups, of the tree, and of what its worker has.
use Rattle.std.proofs.Common.{◌≡◌, ◌⊎◌, inl, inr, ℕ, ◌<◌, Bool, true, false, ◌&&◌, ◌||◌, List, ◌∷◌, Some, refl, sym, ap, ◌∙◌, subst, arith}
use Rattle.std.specs.Prelude.{Ok}
use Rattle.std.proofs.lemmas.Bool.{both_ways}
use Rattle.hist_model.specs.Kinds.{ends, makes, shares_now}
use Rattle.hist_model.specs.Look.{Name, is_task}
use Rattle.hist_model.specs.Tasks.{child_of, ended, is_made}
use Rattle.hist_model.specs.declared.event.Event.{Event}
use Rattle.hist_model.specs.declared.event.SpawnKind.{SpawnKind}
use Rattle.hist_model.specs.declared.event.SpawnKind.TheVariants.{New, Copied, Shared}
use Rattle.hist_model.specs.declared.event.What.{What}
use Rattle.hist_model.specs.declared.event.What.TheVariants.{Spawn}
use Rattle.hist_model.specs.declared.script.Script.{Script}
use Rattle.history_frames.specs.Ordinals.{group_of, groups_made, makes_group}
use Rattle.history_frames.proofs.Ordinals.{place-below}
use Rattle.listener.proofs.Folds as call_folds
use Rattle.listener.specs.State as call_state
use Rattle.tasks.proofs.Folds as task_folds
use Rattle.tasks.proofs.Born.{group-fresh, group-parent}
use Rattle.tasks.proofs.Named.{made-cases}
use Rattle.tasks.proofs.Steps.{group-is-kept}
use Rattle.tasks.specs.Fold.{IsGroupOf}
use Rattle.tasks.specs.State.{Row, State, after}
use Rattle.same_futures.specs.Groups.{SameGroupOf}
use Rattle.same_futures.specs.Same.{Same}
use Rattle.same_futures.specs.States.{HasStates, ShareStates}
use Rattle.same_futures.specs.Turns.{IsTableStep, IsTaskTurn}
use Rattle.same_futures.proofs.Changes.{CopiesGroup, TaskChange, file-facts}
use Rattle.same_futures.proofs.KeptGroups.{HaveBytes, HaveSlots, bytes-changed, bytes-copied, bytes-left, bytes-of, group-at, slots-changed, slots-copied, slots-left, slots-of}
use Rattle.same_futures.proofs.Tasks.{IsOf, made-same as made-alike, row-shared}

-- ---- the states

has-more : (S : Script) (K : List Event) (e : Event) (s : State) (c : call_state.State) → HasStates S K s c → IsTableStep S K e → HasStates S (e ∷ K) (after S s e) (call_state.after c e)
has-more S K e s c h p =
    let t = task_folds.follows S K e s h.tasks h.tasks_sound p.tasks in
    let d = call_folds.follows S.firstid K e c h.calls h.calls_sound h.asked p.calls in
    record { tasks = t.0; tasks_sound = t.1; calls = d.0; calls_sound = d.1; asked = d.2 }

pub states-more : (S : Script) (K L : List Event) (e : Event) (s : State) (c : call_state.State) → ShareStates S K L s c → IsTableStep S K e → IsTableStep S L e
    → ShareStates S (e ∷ K) (e ∷ L) (after S s e) (call_state.after c e)
states-more S K L e s c b p q = record { here = has-more S K e s c b.here p; there = has-more S L e s c b.there q }

-- ---- groups of tasks that live

module _ (S : Script) (ts : State) (cs : call_state.State) (K L : List Event) (same : Same S ts cs K L) (e : Event) where
  groups-alike : groups_made L ≡ groups_made K
  groups-alike = sym same.states.there.tasks.groups_is ∙ same.states.here.tasks.groups_is

  -- what the group of a row has before the event, where its task lives
  pub have-bytes : (n : Name) (r : Row) → IsOf S K L ts cs same.states n r → is_made K n ≡ true → ended K n ≡ false → HaveBytes S K L r.group × HaveSlots S K L r.group
  have-bytes n r i m d =
      let g = same.groups n m d in
      let x : Some g.here ≡ Some i.2.group_is.0 = sym g.here_is ∙ i.2.group_is.2 in
      let y : Some g.there ≡ Some i.3.group_is.0 = sym g.there_is ∙ i.3.group_is.2 in
      let here : group_of K r.group ≡ Some g.here = i.2.group_is.1 ∙ sym x in
      let there : group_of L r.group ≡ Some g.there = i.3.group_is.1 ∙ sym y in
      (bytes-of S K L r.group g.here g.there here there g.same.bytes, slots-of S K L r.group g.here g.there here there g.same)

  below : (o g : ℕ) → group_of K o ≡ Some g → o < groups_made K
  below o g h = (place-below makes_group K o g h).0

  -- what the group of an ordinal has after it, where it was there before
  pub old-has : (own o : ℕ) → o < groups_made K → TaskChange S K L e own → HaveBytes S K L o → HaveBytes S (e ∷ K) (e ∷ L) o
  old-has own o l (inl c) b = bytes-left S K L e c.0 c.1 o l (omega (arith, groups-alike, l)) b
  old-has own o l (inr (inl c)) b = bytes-changed S K L e c.group c.bytes c.slot c.here c.there o l (omega (arith, groups-alike, l)) b
  old-has own o l (inr (inr c)) b = bytes-copied S K L e own _ _ groups-alike c.here c.there o (omega (arith, l)) (inr ((λ q. omega (arith, l, q)), b))

  pub old-slots : (own o : ℕ) → o < groups_made K → TaskChange S K L e own → HaveSlots S K L o → HaveSlots S (e ∷ K) (e ∷ L) o
  old-slots own o l (inl c) b = slots-left S K L e c.0 c.1 o l (omega (arith, groups-alike, l)) b
  old-slots own o l (inr (inl c)) b = slots-changed S K L e c.group c.bytes c.slot c.here c.there o l (omega (arith, groups-alike, l)) b
  old-slots own o l (inr (inr c)) b = slots-copied S K L e own _ _ groups-alike c.here c.there o (omega (arith, l)) (inr ((λ q. omega (arith, l, q)), b))

  -- a group of a name, with what it has
  group-from : (n : Name) (o : ℕ) → IsGroupOf (e ∷ K) n o → IsGroupOf (e ∷ L) n o → HaveBytes S (e ∷ K) (e ∷ L) o → HaveSlots S (e ∷ K) (e ∷ L) o → SameGroupOf S (e ∷ K) (e ∷ L) n
  group-from n o k l b s = record { here = k.0; there = l.0; here_is = k.2; there_is = l.2; same = group-at S (e ∷ K) (e ∷ L) o k.0 l.0 k.1 l.1 b s }

  lived : (n : Name) → ended (e ∷ K) n ≡ false → ended K n ≡ false
  unfolding ended
  lived n d = first (ends e.what && is_task e.who n) (ended K n) d
    where
      first : (a b : Bool) → (a || b) ≡ false → b ≡ false
      first true b h = cc
      first false b h = h

  -- of a task that was there
  pub old-group : (own : ℕ) → TaskChange S K L e own → (n : Name) → is_made K n ≡ true → ended (e ∷ K) n ≡ false → SameGroupOf S (e ∷ K) (e ∷ L) n
  old-group own c n m d =
      let r = row-shared S K L ts cs same.states n m in
      let h = have-bytes n r.0 r.1 m (lived n d) in
      let l = below r.0.group r.1.2.group_is.0 r.1.2.group_is.1 in
      group-from n r.0.group (group-is-kept e K n r.0.group r.1.2.group_is) (group-is-kept e L n r.0.group r.1.3.group_is) (old-has own r.0.group l c h.0) (old-slots own r.0.group l c h.1)

  -- ---- of a task that the turn makes

  module _ (t : IsTaskTurn S K e) (r : Row) (i : IsOf S K L ts cs same.states t.name r) (c : TaskChange S K L e r.group) where
    copy-of : makes_group e.what ≡ true → CopiesGroup S K L e r.group
    copy-of m = go c
      where
        go : TaskChange S K L e r.group → CopiesGroup S K L e r.group
        go (inl x) = absurd (both_ways (makes_group e.what) x.2 m)
        go (inr (inl x)) = absurd (both_ways (makes_group e.what) x.makes_none m)
        go (inr (inr x)) = x

    born : (n : Name) (pid : ℕ) (kind : SpawnKind) → e.what ≡ Spawn n (Ok (pid, kind)) → is_made K n ≡ false → is_made L n ≡ false → SameGroupOf S (e ∷ K) (e ∷ L) n
    born n pid New q k l = absurd (file-facts S K t.name (Spawn n (Ok (pid, New))) (sym q ∙ t.step))
    born n pid Copied q k l =
        let m : makes_group e.what ≡ true = ap makes_group q in
        let f = copy-of m in
        let h = have-bytes t.name r i t.made t.lives in
        let u : child_of e.what ≡ n = ap child_of q in
        let a : IsGroupOf (e ∷ K) n (groups_made K) = subst (λ (x : Name). IsGroupOf (e ∷ K) x (groups_made K)) u (group-fresh e K m (ap (is_made K) u ∙ k)) in
        let b : IsGroupOf (e ∷ L) n (groups_made K) = subst (λ (x : ℕ). IsGroupOf (e ∷ L) n x) groups-alike (subst (λ (x : Name). IsGroupOf (e ∷ L) x (groups_made L)) u (group-fresh e L m (ap (is_made L) u ∙ l))) in
        group-from n (groups_made K) a b
        (bytes-copied S K L e r.group _ _ groups-alike f.here f.there (groups_made K) (omega arith) (inl (refl, h.0)))
        (slots-copied S K L e r.group _ _ groups-alike f.here f.there (groups_made K) (omega arith) (inl (refl, h.1)))
    born n pid Shared q k l =
        let h = have-bytes t.name r i t.made t.lives in
        let o = below r.group i.2.group_is.0 i.2.group_is.1 in
        let u : child_of e.what ≡ n = ap child_of q in
        group-from n r.group
        (subst (λ (x : Name). IsGroupOf (e ∷ K) x r.group) u (group-parent e K t.name r.group (ap makes q) (ap shares_now q) t.who (ap (is_made K) u ∙ k) i.2.group_is))
        (subst (λ (x : Name). IsGroupOf (e ∷ L) x r.group) u (group-parent e L t.name r.group (ap makes q) (ap shares_now q) t.who (ap (is_made L) u ∙ l) i.3.group_is))
        (old-has r.group r.group o c h.0) (old-slots r.group r.group o c h.1)

    pub new-group : (n : Name) → is_made K n ≡ false → is_made (e ∷ K) n ≡ true → SameGroupOf S (e ∷ K) (e ∷ L) n
    new-group n k m = go e.what refl (made-cases e K n m)
      where
        go : (w : What) → e.what ≡ w → ((makes e.what ≡ true) × (child_of e.what ≡ n)) ⊎ (is_made K n ≡ true) → SameGroupOf S (e ∷ K) (e ∷ L) n
        go w q (inr b) = absurd (both_ways (is_made K n) k b)
        go (Spawn x (Ok a)) q (inl b) =
            let u : x ≡ n = sym (ap child_of q) ∙ b.1 in
            born n a.0 a.1 (q ∙ ap (λ (y : Name). Spawn y (Ok a)) u) k (made-alike S K L ts cs same.states n ∙ k)
        go w q (inl b) = let z : makes w ≡ true = sym (ap makes q) ∙ b.0 in cc
