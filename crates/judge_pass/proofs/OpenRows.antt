-- What events make of the directories that groups have open.
-- By the slots that a step changes, and since a node stays a directory, or none.
use Rattle.std.proofs.Common.{◌≡◌, ℕ, ◌+◌, ◌<◌, Bool, true, false, ◌&&◌, List, ◌∷◌, length, refl, sym, ap, ◌∙◌, arith, inl, inr, Option, Some, None, ◌⊎◌}
use Rattle.std.specs.Prelude.{if◌then◌else◌, Ok, ◌==◌, nat_lt, ℤ, pos, negsuc}
use Rattle.std.proofs.lemmas.Bool.{and_parts, both_ways, cases_Bool, cases_eq, eq-eqb, eqb-true}
use Rattle.std.proofs.lemmas.Bool.Decides.{nat_tests}
use Rattle.hist_model.specs.Files.{after_native, console_slot, files, files_after, request_for, with_slot}
use Rattle.hist_model.specs.Look.{ev, Name}
use Rattle.hist_model.specs.Memory.{group_named, own_group}
use Rattle.hist_model.specs.Natives.{base_of, Closes, directory_in, Files, native_step, NativeStep, Opens}
use Rattle.hist_model.specs.Signals.{call_of}
use Rattle.hist_model.specs.Trees.{ordinal_of, Tree}
use Rattle.hist_model.specs.declared.event.Actor.{Actor}
use Rattle.hist_model.specs.declared.event.Actor.TheVariants.{Task, Worker}
use Rattle.hist_model.specs.declared.event.Event.{Event}
use Rattle.hist_model.specs.declared.event.SpawnKind.TheVariants.{Copied, New, Shared}
use Rattle.hist_model.specs.declared.event.What.{What}
use Rattle.hist_model.specs.declared.event.What.TheVariants.{Act, Install, Native, Spawn}
use Rattle.hist_model.specs.declared.policy.Cap.{Cap}
use Rattle.hist_model.specs.declared.request.NodeRef.{NodeRef}
use Rattle.hist_model.specs.declared.request.Obj.{Obj}
use Rattle.hist_model.specs.declared.request.Obj.TheVariants.{Broker, Node as NodeObj}
use Rattle.hist_model.specs.declared.request.Request.{Request}
use Rattle.hist_model.specs.declared.script.Script.{Script}
use Rattle.history_frames.specs.Ordinals.{group_of, groups_made, makes_group}
use Rattle.history_frames.proofs.Groups.{group-older, groups-apart}
use Rattle.history_frames.proofs.Ordinals.{made-more as counted-more, place-cases, place-below, place-same}
use Rattle.judge_pass.specs.Tables.{AreMade, dirfd_named, row_named}
use Rattle.judge_pass.specs.declared.directories.OpenDirectory.{OpenDirectory}
use Rattle.judge_pass.proofs.Copied.{unmade}
use Rattle.judge_pass.proofs.SeatRows.{made-more}

-- the rows are what the groups have open
pub record AreOpen (S : Script) (K : List Event) (rows : List OpenDirectory) : Type 0 where
  pub named : (g p : ℕ) (d : ℤ) → group_of K g ≡ Some p → base_of S (files S K) p d ≡ dirfd_named S rows g d
  pub made : AreMade (groups_made K) rows

-- AT_FDCWD is the root always
by-number : (S : Script) (F G : Files) (p g : ℕ) (rows : List OpenDirectory) → ((n : ℕ) → directory_in F.tree (F.slot p n) ≡ row_named rows g n) → (d : ℤ) → base_of S F p d ≡ dirfd_named S rows g d
by-number S F G p g rows h (pos n) = h n
by-number S F G p g rows h (negsuc n) = refl

number-of : (S : Script) (K : List Event) (rows : List OpenDirectory) → AreOpen S K rows → (g p n : ℕ) → group_of K g ≡ Some p → directory_in (files S K).tree ((files S K).slot p n) ≡ row_named rows g n
number-of S K rows open-now g p n h = open-now.named g p (pos n) h

-- ---- steps that change nothing that is open

-- what each number of the groups so far leads to stays
pub open-same : (S : Script) (e : Event) (K : List Event) (rows : List OpenDirectory) → AreOpen S K rows → makes_group e.what ≡ false
    → ((p n : ℕ) → p < length K → directory_in (files S (e ∷ K)).tree ((files S (e ∷ K)).slot p n) ≡ directory_in (files S K).tree ((files S K).slot p n)) → AreOpen S (e ∷ K) rows
open-same S e K rows h f same = record {
  named = λ g p d made.
      let old : group_of K g ≡ Some p = sym (place-same makes_group e K g f) ∙ made in
      by-number S (files S (e ∷ K)) (files S K) p g rows (λ n. same p n (group-older K g p old) ∙ number-of S K rows h g p n old) d;
  made = made-more e K rows h.made;
}

-- the step opens, closes or copies numbers
abbrev pub moves_files : What → Bool
moves_files (Spawn m (Ok made)) = true
moves_files (Native (Ok n)) = true
moves_files (Install (Ok n)) = true
moves_files (Act q cap (Ok u)) = true
moves_files w = false

files-quiet : (S : Script) (K : List Event) (F : Files) (a : Actor) (w : What) → moves_files w ≡ false → ((files_after S K F a w).tree ≡ F.tree) × ((p n : ℕ) → (files_after S K F a w).slot p n ≡ F.slot p n)
files-quiet S K F a w h = grind arith

quiet-groups : (w : What) → moves_files w ≡ false → makes_group w ≡ false
quiet-groups w h = grind arith

pub open-quiet : (S : Script) (e : Event) (K : List Event) (rows : List OpenDirectory) → AreOpen S K rows → moves_files e.what ≡ false → AreOpen S (e ∷ K) rows
unfolding files
open-quiet S e K rows h f =
    let q = files-quiet S K (files S K) e.who e.what f in
    open-same S e K rows h (quiet-groups e.what f) (λ p n l. rw (q.0, q.1 p n) refl)

-- ---- an effect in the tree

pub open-acted : (S : Script) (K : List Event) (rows : List OpenDirectory) (w : ℕ) (q : Request) (cap : Option Cap) → AreOpen S K rows
    → ((o : Option Obj) (g n : ℕ) → (files S K).slot g n ≡ o → directory_in (files S (ev (Worker w) (Act q cap (Ok tt)) ∷ K)).tree o ≡ directory_in (files S K).tree o)
    → AreOpen S (ev (Worker w) (Act q cap (Ok tt)) ∷ K) rows
unfolding files
open-acted S K rows w q cap h stays = open-same S (ev (Worker w) (Act q cap (Ok tt))) K rows h refl (λ p n l. stays ((files S K).slot p n) p n refl)

-- ---- one number

-- a number of a group leads to a directory now, or to none, and all others to what they led to
pub open-set : (S : Script) (e : Event) (K : List Event) (rows rows' : List OpenDirectory) → AreOpen S K rows → makes_group e.what ≡ false → (o i m : ℕ) (node : Option NodeRef) → group_of K o ≡ Some i
    → directory_in (files S (e ∷ K)).tree ((files S (e ∷ K)).slot i m) ≡ ordinal_of node
    → ((p n : ℕ) → p < length K → ((p == i) && (n == m)) ≡ false → directory_in (files S (e ∷ K)).tree ((files S (e ∷ K)).slot p n) ≡ directory_in (files S K).tree ((files S K).slot p n))
    → ((g n : ℕ) → row_named rows' g n ≡ (if (g == o) && (n == m) then ordinal_of node else row_named rows g n))
    → ((groups : ℕ) → o < groups → AreMade groups rows → AreMade groups rows') → AreOpen S (e ∷ K) rows'
open-set S e K rows rows' h f o i m node at now same set made = record {
  named = λ g p d there.
      let old : group_of K g ≡ Some p = sym (place-same makes_group e K g f) ∙ there in
      by-number S (files S (e ∷ K)) (files S K) p g rows' (λ n. one g p n old) d;
  made = made-more e K rows' (made (groups_made K) (place-below makes_group K o i at).0 h.made);
}
  where
    one : (g p n : ℕ) → group_of K g ≡ Some p → directory_in (files S (e ∷ K)).tree ((files S (e ∷ K)).slot p n) ≡ row_named rows' g n
    one g p n old = elim (cases_Bool ((g == o) && (n == m))) [
      | inl t ↦
          let q = and_parts (g == o) (n == m) t in
          let a : g ≡ o = eqb-true g o q.0 in
          let b : n ≡ m = eqb-true n m q.1 in
          let c : p ≡ i = cc (old, at, a) in
          rw (set g n, t, b, c) now
      | inr t ↦ rw (set g n, t) (same p n (group-older K g p old) (apart t) ∙ number-of S K rows h g p n old)
    ]
      where
        apart : ((g == o) && (n == m)) ≡ false → ((p == i) && (n == m)) ≡ false
        apart t = elim (cases_Bool ((p == i) && (n == m))) [
          | inr z ↦ z
          | inl z ↦
              let q = and_parts (p == i) (n == m) z in
              let a : p ≡ i = eqb-true p i q.0 in
              elim (cases_eq g o) [
                | inl y ↦ absurd (both_ways ((g == o) && (n == m)) t (rw (eq-eqb g o y, q.1) refl))
                | inr y ↦ absurd (groups-apart K g o p i old at y a)
              ]
        ]

with-one : (slot : ℕ → ℕ → Option Obj) (i m p n : ℕ) (o : Option Obj) → ((p == i) && (n == m)) ≡ false → with_slot slot i m o p n ≡ slot p n
with-one slot i m p n o h = rw h refl

with-this : (slot : ℕ → ℕ → Option Obj) (i m : ℕ) (o : Option Obj) → with_slot slot i m o i m ≡ o
with-this slot i m o = rw (eq-eqb i i refl, eq-eqb m m refl) refl

-- an installation puts in a file that is none
pub open-installed : (S : Script) (K : List Event) (rows rows' : List OpenDirectory) (n : Name) (m o i : ℕ) → AreOpen S K rows → group_of K o ≡ Some i → group_named K n ≡ Some i
    → ((g k : ℕ) → row_named rows' g k ≡ (if (g == o) && (k == m) then None else row_named rows g k))
    → ((groups : ℕ) → o < groups → AreMade groups rows → AreMade groups rows') → AreOpen S (ev (Task n) (Install (Ok m)) ∷ K) rows'
unfolding files
open-installed S K rows rows' n m o i h at own set made =
    let g : own_group K (Task n) ≡ i = rw own refl in
    open-set S (ev (Task n) (Install (Ok m))) K rows rows' h refl o i m None at
    (rw (g, with-this (files S K).slot i m (Some (Broker (request_for K (call_of K n)).srcfd))) refl)
    (λ p k l a. rw (g, with-one (files S K).slot i m p k (Some (Broker (request_for K (call_of K n)).srcfd)) a) refl)
    set made

-- ---- native calls

module _ (S : Script) (K : List Event) (rows : List OpenDirectory) (n : Name) (m o i : ℕ) (h : AreOpen S K rows) (at : group_of K o ≡ Some i) (own : group_named K n ≡ Some i) where
  abbrev native : Event
  native = ev (Task n) (Native (Ok m))

  ran : (files S (native ∷ K)) ≡ after_native (files S K) i (native_step S K (files S K) n)
  unfolding files
  ran = rw own refl

  -- it opens the number
  pub open-opened : (x : ℕ) → native_step S K (files S K) n ≡ Opens m x → (node : Option NodeRef) → base_of S (files S (native ∷ K)) (own_group K (Task n)) (pos m) ≡ ordinal_of node → (rows' : List OpenDirectory)
      → ((g k : ℕ) → row_named rows' g k ≡ (if (g == o) && (k == m) then ordinal_of node else row_named rows g k))
      → ((groups : ℕ) → o < groups → AreMade groups rows → AreMade groups rows') → AreOpen S (native ∷ K) rows'
  open-opened x step node leads rows' set made =
      let r : files S (native ∷ K) ≡ after_native (files S K) i (Opens m x) = ran ∙ ap (after_native (files S K) i) step in
      let g : own_group K (Task n) ≡ i = rw own refl in
      open-set S native K rows rows' h refl o i m node at
      (rw g at leads)
      (λ p k l a. rw r (rw (with-one (files S K).slot i m p k (Some (NodeObj (record { ordinal = x }))) a) refl))
      set made

  -- it closes one
  pub open-closed : (c : ℕ) → native_step S K (files S K) n ≡ Closes c → (rows' : List OpenDirectory)
      → ((g k : ℕ) → row_named rows' g k ≡ (if (g == o) && (k == c) then None else row_named rows g k))
      → ((groups : ℕ) → o < groups → AreMade groups rows → AreMade groups rows') → AreOpen S (native ∷ K) rows'
  open-closed c step rows' set made =
      let r : files S (native ∷ K) ≡ after_native (files S K) i (Closes c) = ran ∙ ap (after_native (files S K) i) step in
      open-set S native K rows rows' h refl o i c None at
      (rw r (rw (with-this (files S K).slot i c None) refl))
      (λ p k l a. rw r (rw (with-one (files S K).slot i c p k None a) refl))
      set made

  -- it does neither
  pub open-other : (step : NativeStep) → native_step S K (files S K) n ≡ step → ((p k : ℕ) → (after_native (files S K) i step).slot p k ≡ (files S K).slot p k)
      → ((obj : Option Obj) (g k : ℕ) → (files S K).slot g k ≡ obj → directory_in (after_native (files S K) i step).tree obj ≡ directory_in (files S K).tree obj) → AreOpen S (native ∷ K) rows
  open-other step is slots stays =
      let r : files S (native ∷ K) ≡ after_native (files S K) i step = ran ∙ ap (after_native (files S K) i) is in
      open-same S native K rows h refl (λ p k l. rw (r, slots p k) (stays ((files S K).slot p k) p k refl))

-- ---- a new group

copied-slot : (S : Script) (K : List Event) (n child : Name) (pid i k : ℕ) → group_named K n ≡ Some i
    → directory_in (files S (ev (Task n) (Spawn child (Ok (pid, Copied))) ∷ K)).tree ((files S (ev (Task n) (Spawn child (Ok (pid, Copied))) ∷ K)).slot (length K) k) ≡ directory_in (files S K).tree ((files S K).slot i k)
unfolding files
copied-slot S K n child pid i k own = rw (eq-eqb (length K) (length K) refl, own) refl

copied-other : (S : Script) (K : List Event) (n child : Name) (pid p k : ℕ) → (p == length K) ≡ false
    → directory_in (files S (ev (Task n) (Spawn child (Ok (pid, Copied))) ∷ K)).tree ((files S (ev (Task n) (Spawn child (Ok (pid, Copied))) ∷ K)).slot p k) ≡ directory_in (files S K).tree ((files S K).slot p k)
unfolding files
copied-other S K n child pid p k h = rw h refl

-- a task is made that shares its parent's
pub open-shared : (S : Script) (K : List Event) (rows : List OpenDirectory) (a : Actor) (child : Name) (pid : ℕ) → AreOpen S K rows → AreOpen S (ev a (Spawn child (Ok (pid, Shared))) ∷ K) rows
unfolding files
open-shared S K rows a child pid h = open-same S (ev a (Spawn child (Ok (pid, Shared)))) K rows h refl (λ p n l. refl)

-- or has a copy of it
pub open-copied : (S : Script) (K : List Event) (rows rows' : List OpenDirectory) (n child : Name) (pid o i : ℕ) → AreOpen S K rows → group_of K o ≡ Some i → group_named K n ≡ Some i
    → ((g k : ℕ) → row_named rows' g k ≡ row_named rows (if g == groups_made K then o else g) k) → AreMade (groups_made K + 1) rows' → AreOpen S (ev (Task n) (Spawn child (Ok (pid, Copied))) ∷ K) rows'
open-copied S K rows rows' n child pid o i h at own copied made = record {
  named = λ g p d there. by-number S (files S (e ∷ K)) (files S K) p g rows' (λ k. one g p k (place-cases makes_group e K g p there)) d;
  made = rw (counted-more makes_group e K refl) made;
}
  where
    e : Event
    e = ev (Task n) (Spawn child (Ok (pid, Copied)))

    fresh : (k : ℕ) → directory_in (files S (e ∷ K)).tree ((files S (e ∷ K)).slot (length K) k) ≡ directory_in (files S K).tree ((files S K).slot i k)
    fresh k = copied-slot S K n child pid i k own

    stays : (p k : ℕ) → p < length K → directory_in (files S (e ∷ K)).tree ((files S (e ∷ K)).slot p k) ≡ directory_in (files S K).tree ((files S K).slot p k)
    stays p k l = copied-other S K n child pid p k (grind (arith, nat_tests))

    one : (g p k : ℕ) → ((makes_group e.what ≡ true) × (groups_made K ≡ g) × (length K ≡ p)) ⊎ (group_of K g ≡ Some p) → directory_in (files S (e ∷ K)).tree ((files S (e ∷ K)).slot p k) ≡ row_named rows' g k
    one g p k (inl new) = rw (copied g k, ← new.1, eq-eqb (groups_made K) (groups_made K) refl, ← new.2) (fresh k ∙ number-of S K rows h o i k at)
    one g p k (inr old) =
        let l = place-below makes_group K g p old in
        let z : (g == groups_made K) ≡ false = grind (arith, nat_tests) in
        rw (copied g k, z) (stays p k l.1 ∙ number-of S K rows h g p k old)

-- or has the console alone
console-none : (T : Tree) (k : ℕ) → directory_in T (console_slot k) ≡ None
console-none T k = elim (cases_Bool (nat_lt k 3)) [ inl t ↦ rw t refl | inr f ↦ rw f refl ]

fresh-slot : (S : Script) (K : List Event) (a : Actor) (child : Name) (pid k : ℕ)
    → directory_in (files S (ev a (Spawn child (Ok (pid, New))) ∷ K)).tree ((files S (ev a (Spawn child (Ok (pid, New))) ∷ K)).slot (length K) k) ≡ None
unfolding files
fresh-slot S K a child pid k = rw (eq-eqb (length K) (length K) refl) (console-none (files S K).tree k)

fresh-other : (S : Script) (K : List Event) (a : Actor) (child : Name) (pid p k : ℕ) → (p == length K) ≡ false
    → directory_in (files S (ev a (Spawn child (Ok (pid, New))) ∷ K)).tree ((files S (ev a (Spawn child (Ok (pid, New))) ∷ K)).slot p k) ≡ directory_in (files S K).tree ((files S K).slot p k)
unfolding files
fresh-other S K a child pid p k h = rw h refl

pub open-fresh : (S : Script) (K : List Event) (rows : List OpenDirectory) (a : Actor) (child : Name) (pid : ℕ) → AreOpen S K rows → AreOpen S (ev a (Spawn child (Ok (pid, New))) ∷ K) rows
open-fresh S K rows a child pid h = record {
  named = λ g p d there. by-number S (files S (e ∷ K)) (files S K) p g rows (λ k. one g p k (place-cases makes_group e K g p there)) d;
  made = made-more e K rows h.made;
}
  where
    e : Event
    e = ev a (Spawn child (Ok (pid, New)))

    one : (g p k : ℕ) → ((makes_group e.what ≡ true) × (groups_made K ≡ g) × (length K ≡ p)) ⊎ (group_of K g ≡ Some p) → directory_in (files S (e ∷ K)).tree ((files S (e ∷ K)).slot p k) ≡ row_named rows g k
    one g p k (inl new) = rw (← new.2) (fresh-slot S K a child pid k ∙ sym (unmade (groups_made K) rows g k h.made (omega (arith, new.1))))
    one g p k (inr old) =
        let l = place-below makes_group K g p old in
        fresh-other S K a child pid p k (grind (arith, nat_tests)) ∙ number-of S K rows h g p k old
