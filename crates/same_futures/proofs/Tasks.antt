-- What two histories with the same states of tasks tell alike: lives, PIDs, who holds one, waits, signals and the next instruction.
-- By the row that a name has in both.
use Rattle.std.proofs.Common.{◌≡◌, ◌⊎◌, inl, inr, ℕ, zero, suc, ◌+◌, ◌-◌, true, false, List, [], ◌∷◌, ◌++◌, length, Option, Some, None, refl, sym, ap, ◌∙◌, subst, arith}
use Rattle.std.specs.Prelude.{◌%◌, ◌^◌, slice_get}
use Rattle.std.proofs.lemmas.Bool.{cases_Bool, both_ways}
use Rattle.hist_model.specs.Look.{Name, oldest}
use Rattle.hist_model.specs.Memory.{last_call}
use Rattle.hist_model.specs.Legal.{system_of}
use Rattle.hist_model.specs.Steps.{counts, entered, found, instr_step, is_child, is_ended_child, is_spawn, lives, next_instr, number_entered, owes_native, pid_named, recounts, signalled, steps_of, wait_step, with_id}
use Rattle.hist_model.specs.Tasks.{ended, free_from, holder, is_made, is_none, last_pid, name_of, next_pid, parent}
use Rattle.hist_model.specs.Calls.{calls}
use Rattle.hist_model.specs.declared.event.Event.{Event}
use Rattle.hist_model.specs.declared.event.What.{What}
use Rattle.hist_model.specs.declared.event.What.TheVariants.{Enter}
use Rattle.hist_model.specs.declared.script.Instr.{Instr}
use Rattle.hist_model.specs.declared.script.Instr.TheVariants.{Poke as IPoke, Fill as IFill, Call as ICall, Spawn as ISpawn, Thread as IThread, Kill as IKill, Handler as IHandler, Wait as IWait, Exit as IExit}
use Rattle.hist_model.specs.declared.script.Script.{Script}
use Rattle.hist_model.specs.declared.script.Whom.{Whom}
use Rattle.hist_model.specs.declared.script.Whom.TheVariants.{Own, Parent, Child, Pid}
use Rattle.history_frames.specs.Ordinals.{place_of}
use Rattle.listener.specs.State as call_state
use Rattle.tasks.specs.Fold.{IsEntry, IsRow, Looks}
use Rattle.tasks.specs.Sound.{IsSound}
use Rattle.tasks.specs.State.{Row, State}
use Rattle.tasks.specs.declared.row.EnteredCall.{EnteredCall}
use Rattle.tasks.proofs.Answers.{holder-at, holder-row, row-place, wait-is}
use Rattle.tasks.proofs.Folds.{row-below, row-there}
use Rattle.tasks.proofs.Named.{made-ordinal, name-made, pid-none}
use Rattle.same_futures.specs.States.{ShareStates}

-- ---- one history

module _ (S : Script) (K : List Event) (s : State) (k : Looks S K s) where
  -- a task that was made has a row
  pub row-made : (n : Name) → is_made K n ≡ true → (o : ℕ) × (r : Row) × (slice_get s.rows o ≡ Some r) × (r.name ≡ n)
  row-made n m =
      let p = made-ordinal K n m in
      let r = row-there S K s p.0 k p.1 in
      (p.0, r.0, r.1, (k.rows p.0 r.0 r.1).name_is ∙ p.2)

  pub row-says : (n : Name) (o : ℕ) (r : Row) → slice_get s.rows o ≡ Some r → r.name ≡ n → IsRow S K n r
  row-says n o r at i = subst (λ (m : Name). IsRow S K m r) i (k.rows o r at).is_row

  pub made-row : (n : Name) (o : ℕ) (r : Row) → slice_get s.rows o ≡ Some r → r.name ≡ n → is_made K n ≡ true
  made-row n o r at i = ap (is_made K) (sym i ∙ (k.rows o r at).name_is) ∙ name-made K o (row-below S K s o r k at)

-- what a row says of the call that was entered last
same-entry : (x : Option EnteredCall) (v w : What) → IsEntry x v → IsEntry x w → (number_entered v ≡ number_entered w) × (entered v ≡ entered w)
same-entry (Some x) v w a b = (ap number_entered a.1 ∙ sym (ap number_entered b.1), ap entered a.1 ∙ sym (ap entered b.1))
same-entry None v w a b = (ap number_entered a ∙ sym (ap number_entered b), ap entered a ∙ sym (ap entered b))

-- ---- two histories

module _ (S : Script) (K L : List Event) (s : State) (c : call_state.State) (both : ShareStates S K L s c) where
  k : Looks S K s
  k = both.here.tasks

  l : Looks S L s
  l = both.there.tasks

  made-there : (M N : List Event) → Looks S M s → Looks S N s → (n : Name) → is_made M n ≡ true → is_made N n ≡ true
  made-there M N m o n h = let r = row-made S M s m n h in made-row S N s o n r.0 r.1 r.2 r.3

  pub made-same : (n : Name) → is_made L n ≡ is_made K n
  made-same n = elim (cases_Bool (is_made K n)) [
    | inl a ↦ made-there K L k l n a ∙ sym a
    | inr a ↦ elim (cases_Bool (is_made L n)) [
      | inl b ↦ absurd (both_ways (is_made K n) a (made-there L K l k n b))
      | inr b ↦ b ∙ sym a
    ]
  ]

  -- the row of a name in both
  abbrev pub IsOf : Name → Row → Type 0
  IsOf n r = (o : ℕ) × (slice_get s.rows o ≡ Some r) × IsRow S K n r × IsRow S L n r

  pub row-shared : (n : Name) → is_made K n ≡ true → (r : Row) × IsOf n r
  row-shared n m = let r = row-made S K s k n m in (r.1, (r.0, r.2, row-says S K s k n r.0 r.1 r.2 r.3, row-says S L s l n r.0 r.1 r.2 r.3))

  unmade-there : (n : Name) → is_made K n ≡ false → is_made L n ≡ false
  unmade-there n m = made-same n ∙ m

  -- of a name, what the rows and untouched tasks say alike
  by-row : {X : Type 0} (f g : X) (n : Name) → ((r : Row) → IsOf n r → f ≡ g) → (is_made K n ≡ false → f ≡ g) → f ≡ g
  by-row f g n made none = elim (cases_Bool (is_made K n)) [ inl m ↦ let r = row-shared n m in made r.0 r.1 | inr m ↦ none m ]

  pub ended-same : (n : Name) → ended L n ≡ ended K n
  ended-same n = by-row (ended L n) (ended K n) n (λ r i. sym i.3.ended_is ∙ i.2.ended_is)
      (λ m. (both.there.tasks_sound.unmade n (unmade-there n m)).no_end ∙ sym (both.here.tasks_sound.unmade n m).no_end)

  pub pid-same : (n : Name) → pid_named L n ≡ pid_named K n
  pid-same n = by-row (pid_named L n) (pid_named K n) n (λ r i. sym i.3.pid_is ∙ i.2.pid_is) (λ m. pid-none L n (unmade-there n m) ∙ sym (pid-none K n m))

  pub owes-same : (n : Name) → owes_native L n ≡ owes_native K n
  owes-same n = by-row (owes_native L n) (owes_native K n) n (λ r i. sym i.3.owes_is ∙ i.2.owes_is)
      (λ m. (both.there.tasks_sound.unmade n (unmade-there n m)).no_debt ∙ sym (both.here.tasks_sound.unmade n m).no_debt)

  pub spawns-same : (n : Name) → steps_of is_spawn L n ≡ steps_of is_spawn K n
  spawns-same n = by-row (steps_of is_spawn L n) (steps_of is_spawn K n) n (λ r i. sym i.3.spawns_is ∙ i.2.spawns_is)
      (λ m. (both.there.tasks_sound.unmade n (unmade-there n m)).no_spawns ∙ sym (both.here.tasks_sound.unmade n m).no_spawns)

  pub entry-same : (n : Name) → (number_entered (last_call L n) ≡ number_entered (last_call K n)) × (entered (last_call L n) ≡ entered (last_call K n))
  entry-same n = elim (cases_Bool (is_made K n)) [
    | inl m ↦ let r = row-shared n m in same-entry r.0.entered (last_call L n) (last_call K n) r.1.3.entered_is r.1.2.entered_is
    | inr m ↦ same-entry None (last_call L n) (last_call K n) (both.there.tasks_sound.unmade n (unmade-there n m)).no_entry (both.here.tasks_sound.unmade n m).no_entry
  ]

  -- ---- who holds a number

  abbrev pub AreHeld : ℕ → Type 0
  AreHeld p = ((holder K p ≡ None) × (holder L p ≡ None))
      ⊎ ((o : ℕ) × (r : Row) × (t : ℕ) × (u : ℕ) × (slice_get s.rows o ≡ Some r) × (holder K p ≡ Some t) × (holder L p ≡ Some u) × (place_of K o ≡ Some t) × (place_of L o ≡ Some u))

  held-there : (M N : List Event) (m : Looks S M s) (n : Looks S N s) → IsSound M → IsSound N → (p t : ℕ) → holder M p ≡ Some t
      → (o : ℕ) × (r : Row) × (u : ℕ) × (slice_get s.rows o ≡ Some r) × (holder N p ≡ Some u) × (place_of M o ≡ Some t) × (place_of N o ≡ Some u)
  held-there M N m n y z p t h =
      let a = holder-row S M s m y p t h in
      let q = row-place S N s n z a.0 a.1 a.3 in
      (a.0, a.1, q.0, a.3, holder-at S N s n z p a.0 a.1 a.3 a.4 ∙ q.1, a.2, q.1)

  pub holders-same : (p : ℕ) → AreHeld p
  holders-same p = go (holder K p) refl (holder L p) refl
    where
      go : (a : Option ℕ) → holder K p ≡ a → (b : Option ℕ) → holder L p ≡ b → AreHeld p
      go (Some t) q b z = let f = held-there K L k l both.here.tasks_sound both.there.tasks_sound p t q in inr (f.0, f.1, t, f.2, f.3, q, f.4, f.5, f.6)
      go None q (Some u) z = let f = held-there L K l k both.there.tasks_sound both.here.tasks_sound p u z in let w : None ≡ Some f.2 = sym q ∙ f.4 in absurd (cc w)
      go None q None z = inl (q, z)

  none-same : (p : ℕ) → is_none (holder L p) ≡ is_none (holder K p)
  none-same p = elim (holders-same p) [ inl f ↦ rw (f.0, f.1) refl | inr f ↦ rw (f.5, f.6) refl ]

  pub found-same : (p : ℕ) → found (holder L p) ≡ found (holder K p)
  found-same p = elim (holders-same p) [ inl f ↦ rw (f.0, f.1) refl | inr f ↦ rw (f.5, f.6) refl ]

  pub lives-same : (p : ℕ) → lives L (holder L p) ≡ lives K (holder K p)
  lives-same p = elim (holders-same p) [
    | inl f ↦ rw (f.0, f.1) refl
    | inr f ↦
        let a = row-place S K s k both.here.tasks_sound f.0 f.1 f.4 in
        let b = row-place S L s l both.there.tasks_sound f.0 f.1 f.4 in
        let x : Some a.0 ≡ Some f.2 = sym a.1 ∙ f.7 in
        let y : Some b.0 ≡ Some f.3 = sym b.1 ∙ f.8 in
        let v : a.0 ≡ f.2 = cc in
        let w : b.0 ≡ f.3 = cc in
        let m : name_of K f.2 ≡ f.1.name = ap (name_of K) (sym v) ∙ a.2 in
        let n : name_of L f.3 ≡ f.1.name = ap (name_of L) (sym w) ∙ b.2 in
        rw (f.5, f.6, m, n, ended-same f.1.name) refl
  ]

  -- ---- numbers for new tasks

  free-same : (n p : ℕ) → free_from L n p ≡ free_from K n p
  unfolding free_from
  free-same zero p = refl
  free-same (suc n) p = rw (none-same p, free-same n (p + 1)) refl

  pub next-pid-same : next_pid S.pidbase S.pidmax L ≡ next_pid S.pidbase S.pidmax K
  unfolding next_pid
  next-pid-same =
      let q : last_pid S.pidbase L ≡ last_pid S.pidbase K = sym l.last_is ∙ k.last_is in
      rw (q, free-same (S.pidbase + S.pidmax - last_pid S.pidbase K) (last_pid S.pidbase K + 1), free-same (last_pid S.pidbase K - S.pidbase) (S.pidbase + 1)) refl

  pub signalled-same : (n : Name) (whom : Whom) → signalled L n whom ≡ signalled K n whom
  signalled-same n Own = pid-same n
  signalled-same n Parent = pid-same (parent n)
  signalled-same n (Child j) = pid-same (n ++ j ∷ [])
  signalled-same n (Pid p) = refl

  -- ---- instructions

  pub waits-same : (n : Name) → wait_step L (oldest (is_child L n) (length L)) (oldest (is_ended_child L n) (length L)) ≡ wait_step K (oldest (is_child K n) (length K)) (oldest (is_ended_child K n) (length K))
  waits-same n = sym (wait-is S L s l both.there.tasks_sound n) ∙ wait-is S K s k both.here.tasks_sound n

  calls-same : calls L ≡ calls K
  calls-same = sym both.there.calls.entered_is ∙ both.here.calls.entered_is

  at-next : (M : List Event) (n : Name) (r : Row) → IsRow S M n r → steps_of counts M n - steps_of recounts M n ≡ r.next
  at-next M n r i = omega (arith, i.next_is)

  pub next-instr-same : (n : Name) → is_made K n ≡ true → next_instr (system_of S) L n ≡ next_instr (system_of S) K n
  next-instr-same n m =
      let r = row-shared n m in
      ap (λ (i : ℕ). slice_get ((system_of S).program n) i) (at-next L n r.0 r.1.3 ∙ sym (at-next K n r.0 r.1.2))

  pub instr-same : (n : Name) (i : Option Instr) → instr_step (system_of S) L n i ≡ instr_step (system_of S) K n i
  instr-same n None = refl
  instr-same n (Some (IPoke a b)) = refl
  instr-same n (Some (IFill a len b)) = refl
  instr-same n (Some (ICall nr args)) = ap (λ (x : ℕ). Enter nr args (with_id ((system_of S).verdict nr args) ((S.firstid + x) % 2 ^ 64))) calls-same
  instr-same n (Some (ISpawn p)) = rw (spawns-same n, next-pid-same) refl
  instr-same n (Some (IThread p)) = rw (spawns-same n, next-pid-same) refl
  instr-same n (Some (IKill whom sig)) = rw (signalled-same n whom, found-same (signalled K n whom)) refl
  instr-same n (Some (IHandler sig m)) = refl
  instr-same n (Some IWait) = waits-same n
  instr-same n (Some IExit) = refl
