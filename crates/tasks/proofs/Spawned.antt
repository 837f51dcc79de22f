-- The table after a task has made a child, and after a spawn that was refused.
-- By the row of each task that was there, and since the child stands after them all.
use Rattle.std.proofs.Common.{◌≡◌, ◌⊎◌, inl, inr, ℕ, suc, ◌+◌, ◌-◌, ◌<◌, ◌≤◌, ◌^◌, true, false, ◌&&◌, ◌||◌, not, List, [], ◌∷◌, ◌++◌, length, set, Option, Some, None, refl, sym, ap, ◌∙◌, subst, arith, leb, Contains}
use Rattle.std.specs.Prelude.{if◌then◌else◌, ◌==◌, map, slice_get, count_by, Ok, Err}
use Rattle.std.proofs.lemmas.Bool.{and_from, both_ways, eq-eqb}
use Rattle.std.proofs.lemmas.List.{length-set, length-append, map-append}
use Rattle.std.proofs.lemmas.List.Sums.{count_by-le-length}
use Rattle.std.proofs.lemmas.Option.{slice_get_within}
use Rattle.hist_model.specs.Kinds.{ends, makes, skips}
use Rattle.hist_model.specs.Look.{Name}
use Rattle.hist_model.specs.Steps.{counts, is_spawn, next_child}
use Rattle.hist_model.specs.Tasks.{holder, has_parent, given, is_made, or_number}
use Rattle.hist_model.specs.declared.event.Actor.TheVariants.{Task as TaskActor}
use Rattle.hist_model.specs.declared.event.Disposition.{Disposition}
use Rattle.hist_model.specs.declared.event.Event.{Event}
use Rattle.hist_model.specs.declared.event.SpawnKind.{SpawnKind}
use Rattle.hist_model.specs.declared.event.SpawnKind.TheVariants.{New, Copied, Shared}
use Rattle.hist_model.specs.declared.event.What.{What}
use Rattle.hist_model.specs.declared.event.What.TheVariants.{Spawn}
use Rattle.hist_model.specs.declared.script.Script.{Script}
use Rattle.history_frames.specs.Ordinals.{groups_made, makes_group, task_name_of}
use Rattle.history_frames.proofs.Ordinals.{place-one}
use Rattle.tasks.specs.Fold.{Looks, IsGroupOf}
use Rattle.tasks.specs.Index.{under}
use Rattle.tasks.specs.Rows.{IsAfter}
use Rattle.tasks.specs.Sound.{IsStepOf}
use Rattle.tasks.specs.State.{Row, State, after, after_row, made_by, group_for, holds, is_reaped, modes_in, new_row, number_or_none, program_for, row_named, started_by}
use Rattle.tasks.specs.Table.{Member, Table, AreWaiting, IsAdded, IsChildAdded, IsChildIn, IsFamily, IsIndexed, IsNoted, IsStepped, IsTableOf, IsWhole, is_living, lives, lives_at, new_member, next_name, row_in, row_of, rows_of, task_at, view, with_entry, with_one_less, with_task}
use Rattle.tasks.specs.Stands.{IsNewGroup, IsSpawn}
use Rattle.tasks.specs.declared.index.Entry.{Entry}
use Rattle.tasks.specs.declared.row.Progress.{Progress}
use Rattle.tasks.specs.declared.signals.BySignal.{BySignal}
use Rattle.tasks.proofs.Pids.{IsPut, put-of}
use Rattle.tasks.proofs.Asked.{nobody-holds}
use Rattle.tasks.proofs.Asked.{next-is as next-child-is}
use Rattle.tasks.proofs.Changed.{IsTouched, IsQuiet, member-with, own-touched, other-touched, quiet-own, quiet-other, row-after, rows-after}
use Rattle.tasks.proofs.Folds.{follows-step, groups-more, lives-step, row-is-named}
use Rattle.tasks.proofs.Frames.{names-apart}
use Rattle.tasks.proofs.Listed.{get-set, get-put, get-there, get-snoc, get-more, get-last, set-set, set-snoc, count-put, count-added, one, snoc-nil, snoc-parts}
use Rattle.tasks.proofs.Named.{name-made}
use Rattle.tasks.proofs.Places.{next-is}
use Rattle.tasks.proofs.Sounds.{fits-step, sound-more}
use Rattle.tasks.proofs.Stood.{name-is, next-fits, quiet-is, quiet-stepped, row-at, row-is, same-state, stands-step, task-there}
use Rattle.tasks.proofs.Whole.{IsSameTask, stays-reaped}

map-pointwise : {X Y : Type 0} → (f g : X → Y) (xs : List X) → ((j : ℕ) (x : X) → slice_get xs j ≡ Some x → f x ≡ g x) → map f xs ≡ map g xs
map-pointwise f g [] h = refl
map-pointwise f g (x ∷ xs) h = let a = h 0 x refl in let b = map-pointwise f g xs (λ j y q. h (suc j) y q) in rw (a, b)

module _ (old : Table) (H : IsWhole old) (o : ℕ) (t : Member) (at : task_at old o ≡ Some t) (pid group program : ℕ) (added new : Table) (K : IsAdded old (set old.tasks o (with_entry t (Some (length old.tasks)))) (length old.tasks) (new_member (next_name t) pid (Some o) group program t.progress.dispositions) added)
    (w : What) (Q : IsQuiet w) (spawns : is_spawn w ≡ 1) (N : IsNoted added o w new) (fits : t.progress.next + counts w < 2 ^ 64) (stays : t.progress.ended ≡ false) where
  abbrev last : ℕ
  last = length old.tasks

  abbrev c : Member
  c = new_member (next_name t) pid (Some o) group program t.progress.dispositions

  abbrev entered : Member
  entered = with_entry t (Some last)

  below : o < last
  below = slice_get_within old.tasks o t at

  added-at : task_at added o ≡ Some entered
  added-at = ap (λ (xs : List Member). slice_get xs o) K.tasks ∙ get-more (set old.tasks o entered) c entered o (get-put old.tasks o entered t at)

  abbrev p : Progress
  p = (N.task entered added-at).0

  abbrev A : IsAfter t.progress w p
  A = (N.task entered added-at).1

  abbrev y : Member
  y = member-with t (t.children ++ Some last ∷ []) (t.waiting ++ last ∷ []) p

  abbrev kids : List Member
  kids = set old.tasks o y

  abbrev now : List Member
  now = kids ++ c ∷ []

  new-is : new ≡ with_one_less (with_task added o y) (p.ended && not t.progress.ended)
  new-is = (N.task entered added-at).2

  new-tasks : new.tasks ≡ now
  new-tasks = ap (λ (x : Table). x.tasks) new-is ∙ (ap (λ (xs : List Member). set xs o y) K.tasks ∙ (set-snoc (set old.tasks o entered) o c y entered (get-put old.tasks o entered t at) ∙ ap (λ (xs : List Member). xs ++ c ∷ []) (set-set old.tasks o entered y)))

  long : length kids ≡ length old.tasks
  long = length-set old.tasks o y

  -- ---- the tasks that were there

  -- the one that makes the child, or another
  abbrev IsEither : ℕ → Member → Member → Type 0
  IsEither j x z = ((j ≡ o) × (t ≡ x) × (y ≡ z)) ⊎ ((j ≡ o → ⊥) × (x ≡ z))

  which : (j : ℕ) (x z : Member) → slice_get old.tasks j ≡ Some x → slice_get kids j ≡ Some z → IsEither j x z
  which j x z h g = elim (get-set old.tasks o j y z g) [
    | inl q ↦ let s : Some t ≡ Some x = sym at ∙ (ap (slice_get old.tasks) (sym q.0) ∙ h) in let e : t ≡ x = cc in inl (q.0, e, q.1)
    | inr q ↦ let s : Some x ≡ Some z = sym h ∙ q.1 in let e : x ≡ z = cc in inr (q.0, e)
  ]

  back : (j : ℕ) (z : Member) → slice_get kids j ≡ Some z → (x : Member) × (slice_get old.tasks j ≡ Some x) × IsEither j x z
  back j z g = let x = get-there kids old.tasks j z (sym long) g in (x.0, x.1, which j x.0 z x.1 g)

  on : (j : ℕ) (x : Member) → slice_get old.tasks j ≡ Some x → (z : Member) × (slice_get kids j ≡ Some z) × IsEither j x z
  on j x h = let z = get-there old.tasks kids j x long h in (z.0, z.1, which j x z.0 h z.1)

  name-of : (j : ℕ) (x z : Member) → IsEither j x z → z.name ≡ x.name
  name-of j x z (inl q) = ap (λ (m : Member). m.name) (sym q.2) ∙ ap (λ (m : Member). m.name) q.1
  name-of j x z (inr q) = ap (λ (m : Member). m.name) (sym q.1)

  pid-of : (j : ℕ) (x z : Member) → IsEither j x z → z.pid ≡ x.pid
  pid-of j x z (inl q) = ap (λ (m : Member). m.pid) (sym q.2) ∙ ap (λ (m : Member). m.pid) q.1
  pid-of j x z (inr q) = ap (λ (m : Member). m.pid) (sym q.1)

  parent-of : (j : ℕ) (x z : Member) → IsEither j x z → z.parent ≡ x.parent
  parent-of j x z (inl q) = ap (λ (m : Member). m.parent) (sym q.2) ∙ ap (λ (m : Member). m.parent) q.1
  parent-of j x z (inr q) = ap (λ (m : Member). m.parent) (sym q.1)

  waited-of : (j : ℕ) (x z : Member) → IsEither j x z → z.progress.waited ≡ x.progress.waited
  waited-of j x z (inl q) = ap (λ (m : Member). m.progress.waited) (sym q.2) ∙ (A.waited ∙ ap (λ (m : Member). m.progress.waited) q.1)
  waited-of j x z (inr q) = ap (λ (m : Member). m.progress.waited) (sym q.1)

  entry-kept : (j : ℕ) (x z : Member) → IsEither j x z → (k q : ℕ) → slice_get x.children k ≡ Some (Some q) → slice_get z.children k ≡ Some (Some q)
  entry-kept j x z (inl e) k q h = ap (λ (m : Member). slice_get m.children k) (sym e.2) ∙ get-more t.children (Some last) (Some q) k (ap (λ (m : Member). slice_get m.children k) e.1 ∙ h)
  entry-kept j x z (inr e) k q h = ap (λ (m : Member). slice_get m.children k) (sym e.1) ∙ h

  -- an entry was there, or is the child's
  entry-from : (j : ℕ) (x z : Member) → IsEither j x z → (k q : ℕ) → slice_get z.children k ≡ Some (Some q) → (slice_get x.children k ≡ Some (Some q)) ⊎ ((j ≡ o) × (k ≡ length t.children) × (q ≡ last) × (t ≡ x))
  entry-from j x z (inl e) k q h = elim (get-snoc t.children (Some last) (Some q) k (ap (λ (m : Member). slice_get m.children k) e.2 ∙ h)) [
    | inl i ↦ inl (ap (λ (m : Member). slice_get m.children k) (sym e.1) ∙ i)
    | inr i ↦ let z : Some last ≡ Some q = i.1 in let r : last ≡ q = cc in inr (e.0, i.0, sym r, e.1)
  ]
  entry-from j x z (inr e) k q h = inl (ap (λ (m : Member). slice_get m.children k) e.1 ∙ h)

  touched-each : (j : ℕ) (x z : Member) → slice_get old.tasks j ≡ Some x → slice_get kids j ≡ Some z → IsTouched old.tasks (TaskActor t.name) w x z
  touched-each j x z h g = go (which j x z h g)
    where
      more : length (t.children ++ Some last ∷ []) ≡ length t.children + is_spawn w
      more = omega (arith, length-append t.children (Some last ∷ []), spawns)

      go : IsEither j x z → IsTouched old.tasks (TaskActor t.name) w x z
      go (inl q) = subst (λ u. IsTouched old.tasks (TaskActor t.name) w u z) q.1 (subst (λ u. IsTouched old.tasks (TaskActor t.name) w t u) q.2
          (own-touched old.tasks t p p w (t.children ++ Some last ∷ []) (t.waiting ++ last ∷ []) A fits more (quiet-own w t p (row_in old.tasks t) Q A refl)))
      go (inr q) = subst (λ u. IsTouched old.tasks (TaskActor t.name) w x u) q.1
          (other-touched old.tasks (TaskActor t.name) x x.progress w x.waiting (names-apart t.name x.name (λ k. q.0 (H.family.names j o x t h at (sym k)))) (quiet-other w x (row_in old.tasks x) Q refl))

  kids-row : (j : ℕ) (x z : Member) → slice_get old.tasks j ≡ Some x → slice_get kids j ≡ Some z → row_in kids z ≡ after_row (TaskActor t.name) w (row_in old.tasks x)
  kids-row = row-after (TaskActor t.name) w old.tasks kids H.family long touched-each

  -- a parent that was there is there
  lives-on : (j : ℕ) (q : Option ℕ) (n : Name) → IsChildIn old.tasks j q n → lives_at now q ≡ lives_at kids q
  lives-on j None n i = refl
  lives-on j (Some q) n i = let z = on q i.0 i.1 in ap lives (get-more kids c z.0 q z.1 ∙ sym z.1)

  now-row : (j : ℕ) (z : Member) → slice_get kids j ≡ Some z → row_in now z ≡ row_in kids z
  now-row j z g =
      let x = back j z g in
      ap (λ b. row_of b z) (ap (lives_at now) (parent-of j x.0 z x.2) ∙ (lives-on j x.0.parent x.0.name (H.family.parents j x.0 x.1) ∙ ap (lives_at kids) (sym (parent-of j x.0 z x.2))))

  -- ---- the parts of the table

  own-name : (j : ℕ) (x : Member) → slice_get old.tasks j ≡ Some x → x.name ≡ next_name t → ⊥
  own-name j x h q = go x.parent (H.family.parents j x h)
    where
      nonempty : t.name ≡ [] → ⊥
      nonempty z = root t.parent (H.family.parents o t at)
        where
          root : (q : Option ℕ) → IsChildIn old.tasks o q t.name → ⊥
          root None i = let e : ◌≡◌ {A = Name} (0 ∷ []) [] = sym i ∙ z in cc
          root (Some b) i = snoc-nil i.0.name (i.2 + 1) (sym i.4 ∙ z)

      go : (q : Option ℕ) → IsChildIn old.tasks j q x.name → ⊥
      go None i = let e = snoc-parts t.name [] (length t.children + 1) 0 (sym q ∙ i) in nonempty e.0
      go (Some b) i =
          let e = snoc-parts t.name i.0.name (length t.children + 1) (i.2 + 1) (sym q ∙ i.4) in
          let f = H.family.names o b t i.0 at i.1 e.0 in
          let s : Some t ≡ Some i.0 = sym at ∙ (ap (slice_get old.tasks) f ∙ i.1) in
          let u : t ≡ i.0 = cc in
          omega (arith, slice_get_within t.children i.2 (Some j) (ap (λ (m : Member). slice_get m.children i.2) u ∙ i.3), e.1)

  own-at : slice_get now o ≡ Some y
  own-at = get-more kids c y o (get-put old.tasks o y t at)

  child-at : slice_get now last ≡ Some c
  child-at = ap (slice_get now) (sym long) ∙ get-last kids c

  family-now : IsFamily now
  family-now = record { names = names; parents = parents; children = children }
    where
      names : (a b : ℕ) (u v : Member) → slice_get now a ≡ Some u → slice_get now b ≡ Some v → u.name ≡ v.name → a ≡ b
      names a b u v g h q = elim (get-snoc kids c u a g) [
        | inl i ↦ let x = back a u i in elim (get-snoc kids c v b h) [
          | inl k ↦ let z = back b v k in H.family.names a b x.0 z.0 x.1 z.1 (sym (name-of a x.0 u x.2) ∙ (q ∙ name-of b z.0 v z.2))
          | inr k ↦ absurd (own-name a x.0 x.1 (sym (name-of a x.0 u x.2) ∙ (q ∙ ap (λ (m : Member). m.name) (sym k.1))))
        ]
        | inr i ↦ elim (get-snoc kids c v b h) [
          | inl k ↦ let z = back b v k in absurd (own-name b z.0 z.1 (sym (name-of b z.0 v z.2) ∙ (sym q ∙ ap (λ (m : Member). m.name) (sym i.1))))
          | inr k ↦ i.0 ∙ sym k.0
        ]
      ]

      kept : (j : ℕ) (q : Option ℕ) (n : Name) → IsChildIn old.tasks j q n → IsChildIn now j q n
      kept j None n i = i
      kept j (Some q) n i =
          let z = on q i.0 i.1 in
          (z.0, get-more kids c z.0 q z.1, i.2, entry-kept q i.0 z.0 z.2 i.2 j i.3, i.4 ∙ ap (λ (m : Name). m ++ (i.2 + 1) ∷ []) (sym (name-of q i.0 z.0 z.2)))

      parents : (j : ℕ) (u : Member) → slice_get now j ≡ Some u → IsChildIn now j u.parent u.name
      parents j u g = elim (get-snoc kids c u j g) [
        | inl i ↦
            let x = back j u i in
            subst (λ n. IsChildIn now j u.parent n) (sym (name-of j x.0 u x.2)) (subst (λ q. IsChildIn now j q x.0.name) (sym (parent-of j x.0 u x.2)) (kept j x.0.parent x.0.name (H.family.parents j x.0 x.1)))
        | inr i ↦
            subst (λ (m : Member). IsChildIn now j m.parent m.name) i.1
            (y, own-at, length t.children, get-last t.children (Some last) ∙ ap (λ k. Some (Some k)) (sym long ∙ sym i.0), refl)
      ]

      children : (j k q : ℕ) (u : Member) → slice_get now j ≡ Some u → slice_get u.children k ≡ Some (Some q) → (v : Member) × (slice_get now q ≡ Some v) × (v.parent ≡ Some j) × (v.name ≡ u.name ++ (k + 1) ∷ [])
      children j k q u g h = elim (get-snoc kids c u j g) [
        | inl i ↦
            let x = back j u i in
            elim (entry-from j x.0 u x.2 k q h) [
              | inl e ↦
                  let v = H.family.children j k q x.0 x.1 e in
                  let z = on q v.0 v.1 in
                  (z.0, get-more kids c z.0 q z.1, parent-of q v.0 z.0 z.2 ∙ v.2, name-of q v.0 z.0 z.2 ∙ (v.3 ∙ ap (λ (m : Name). m ++ (k + 1) ∷ []) (sym (name-of j x.0 u x.2))))
              | inr e ↦
                  (c, ap (slice_get now) e.2 ∙ child-at, ap Some (sym e.0), ap (λ (m : Name). m ++ (length t.children + 1) ∷ []) (ap (λ (m : Member). m.name) e.3 ∙ sym (name-of j x.0 u x.2)) ∙ ap (λ i. u.name ++ (i + 1) ∷ []) (sym e.1))
            ]
        | inr i ↦ absurd (no-entry k q (ap (λ (m : Member). slice_get m.children k) i.1 ∙ h))
      ]
        where
          no-entry : (k q : ℕ) → slice_get {X = Option ℕ} [] k ≡ Some (Some q) → ⊥
          no-entry k q h = cc

  indexed-now : (pids : List Entry) → IsPut old.pids (under pid last) pids → ((j : ℕ) (x : Member) → task_at old j ≡ Some x → holds pid (row_in old.tasks x) ≡ false) → IsIndexed now pids
  indexed-now pids P free = record { ordered = P.ordered; listed = λ e h. listed e (P.listed e h); whole = whole }
    where
      listed : (e : Entry) → (under pid last ≡ e) ⊎ Contains old.pids e → (u : Member) × (slice_get now e.task ≡ Some u) × (u.pid ≡ e.key)
      listed e (inl q) = (c, ap (λ (x : Entry). slice_get now x.task) (sym q) ∙ child-at, ap (λ (x : Entry). x.key) q)
      listed e (inr h) =
          let x = H.indexed.listed e h in
          let z = on e.task x.0 x.1 in
          (z.0, get-more kids c z.0 e.task z.1, pid-of e.task x.0 z.0 z.2 ∙ x.2)

      whole : (j : ℕ) (u : Member) → slice_get now j ≡ Some u → is_reaped (row_in now u) ≡ false → Contains pids (under u.pid j)
      whole j u g r = elim (get-snoc kids c u j g) [
        | inl i ↦
            let x = back j u i in
            let d : is_reaped (row_in old.tasks x.0) ≡ false = stays-reaped (TaskActor t.name) w (row_in old.tasks x.0) (ap is_reaped (sym (kids-row j x.0 u x.1 i) ∙ sym (now-row j u i)) ∙ r) in
            subst (λ k. Contains pids (under k j)) (sym (pid-of j x.0 u x.2)) (P.kept (under x.0.pid j) (H.indexed.whole j x.0 x.1 d)
            (λ q. both_ways (holds pid (row_in old.tasks x.0)) (free j x.0 x.1) (and_from (x.0.pid == pid) (not (is_reaped (row_in old.tasks x.0))) (eq-eqb x.0.pid pid q) (ap not d))))
        | inr i ↦ subst (λ k. Contains pids (under k j)) (ap (λ (m : Member). m.pid) i.1) (subst (λ k. Contains pids (under pid k)) (sym long ∙ sym i.0) P.own)
      ]

  waiting-now : (j : ℕ) (u : Member) → slice_get now j ≡ Some u → AreWaiting now j u.waiting
  waiting-now j u g = elim (get-snoc kids c u j g) [
    | inl i ↦ let x = back j u i in kept x.0 x.1 x.2
    | inr i ↦ subst (λ (m : Member). AreWaiting now j m.waiting) i.1 (record { rising = λ a b d e l q. absurd (no-item a d q); listed = λ k a q. absurd (no-item k a q); whole = λ a v h q z. absurd (childless (i.0 ∙ long) a v h q) })
  ]
    where
      no-item : (k a : ℕ) → slice_get {X = ℕ} [] k ≡ Some a → ⊥
      no-item k a q = cc

      -- the new task has no child
      childless : j ≡ last → (a : ℕ) (v : Member) → slice_get now a ≡ Some v → v.parent ≡ Some j → ⊥
      childless e a v h q = elim (get-snoc kids c v a h) [
        | inl i ↦
            let x = back a v i in
            let f = subst (λ s. IsChildIn old.tasks a s x.0.name) (sym (parent-of a x.0 v x.2) ∙ q) (H.family.parents a x.0 x.1) in
            omega (arith, slice_get_within old.tasks j f.0 f.1, e)
        | inr i ↦ let s : Some o ≡ Some j = ap (λ (m : Member). m.parent) i.1 ∙ q in let f : o ≡ j = cc in omega (arith, below, e, f)
      ]

      kept : (x : Member) → slice_get old.tasks j ≡ Some x → IsEither j x u → AreWaiting now j u.waiting
      kept x h (inr e) = subst (λ (m : Member). AreWaiting now j m.waiting) e.1 (record {
        rising = W.rising;
        listed = λ k a q. let i = W.listed k a q in let z = on a i.0 i.1 in (z.0, get-more kids c z.0 a z.1, parent-of a i.0 z.0 z.2 ∙ i.2, waited-of a i.0 z.0 z.2 ∙ i.3);
        whole = λ a v b q d. elim (get-snoc kids c v a b) [
          | inl i ↦ let z = back a v i in W.whole a z.0 z.1 (sym (parent-of a z.0 v z.2) ∙ q) (sym (waited-of a z.0 v z.2) ∙ d)
          | inr i ↦ let s : Some o ≡ Some j = ap (λ (m : Member). m.parent) i.1 ∙ q in let f : o ≡ j = cc in absurd (e.0 (sym f))
        ];
      })
        where
          W : AreWaiting old.tasks j x.waiting
          W = H.waiting j x h
      kept x h (inl e) = subst (λ k. AreWaiting now k u.waiting) (sym e.0) (subst (λ (m : Member). AreWaiting now o m.waiting) e.2 (record {
        rising = rising;
        listed = listed;
        whole = whole;
      }))
        where
          W : AreWaiting old.tasks o t.waiting
          W = H.waiting o t at

          before : (k a : ℕ) → slice_get t.waiting k ≡ Some a → a < last
          before k a q = let i = W.listed k a q in slice_get_within old.tasks a i.0 i.1

          rising : (i k a b : ℕ) → i < k → slice_get (t.waiting ++ last ∷ []) i ≡ Some a → slice_get (t.waiting ++ last ∷ []) k ≡ Some b → a < b
          rising i k a b l g h = elim (get-snoc t.waiting last a i g) [
            | inl m ↦ elim (get-snoc t.waiting last b k h) [
              | inl n ↦ W.rising i k a b l m n
              | inr n ↦ omega (arith, before i a m, n.1)
            ]
            | inr m ↦ elim (get-snoc t.waiting last b k h) [
              | inl n ↦ absurd (omega (arith, slice_get_within t.waiting k b n, m.0, l))
              | inr n ↦ absurd (omega (arith, m.0, n.0, l))
            ]
          ]

          listed : (k a : ℕ) → slice_get (t.waiting ++ last ∷ []) k ≡ Some a → (v : Member) × (slice_get now a ≡ Some v) × (v.parent ≡ Some o) × (v.progress.waited ≡ false)
          listed k a q = elim (get-snoc t.waiting last a k q) [
            | inl m ↦ let i = W.listed k a m in let z = on a i.0 i.1 in (z.0, get-more kids c z.0 a z.1, parent-of a i.0 z.0 z.2 ∙ i.2, waited-of a i.0 z.0 z.2 ∙ i.3)
            | inr m ↦ (c, ap (slice_get now) (sym m.1) ∙ child-at, refl, refl)
          ]

          whole : (a : ℕ) (v : Member) → slice_get now a ≡ Some v → v.parent ≡ Some o → v.progress.waited ≡ false → (k : ℕ) × (slice_get (t.waiting ++ last ∷ []) k ≡ Some a)
          whole a v b q d = elim (get-snoc kids c v a b) [
            | inl i ↦ let z = back a v i in let k = W.whole a z.0 z.1 (sym (parent-of a z.0 v z.2) ∙ q) (sym (waited-of a z.0 v z.2) ∙ d) in (k.0, get-more t.waiting last a k.0 k.1)
            | inr i ↦ (length t.waiting, get-last t.waiting last ∙ ap Some (sym long ∙ sym i.0))
          ]

  -- ---- the counts and the rows

  goes-on : (ends w ≡ false) → p.ended ≡ false
  goes-on e = A.ended ∙ (ap (λ b. b || t.progress.ended) e ∙ stays)

  living-now : ends w ≡ false → old.living + 1 < 2 ^ 64 → new.living ≡ count_by is_living now
  living-now e few =
      let d = goes-on e in
      let a : new.living ≡ added.living = ap (λ (x : Table). x.living) new-is ∙ ap (λ b. if b && not t.progress.ended then added.living - 1 else added.living) d in
      let x = count-put is_living old.tasks o t y at in
      let z = count-added is_living kids c in
      omega (arith, a, K.living few, H.living, x, z, ap (λ b. one (not b)) d, ap (λ b. one (not b)) stays)

  pub whole-now : (pids : List Entry) → new.pids ≡ pids → IsPut old.pids (under pid last) pids → ((j : ℕ) (x : Member) → task_at old j ≡ Some x → holds pid (row_in old.tasks x) ≡ false) → ends w ≡ false → old.living + 1 < 2 ^ 64 → IsWhole new
  whole-now pids s P free e few = record {
    family = subst IsFamily (sym new-tasks) family-now;
    indexed = subst (λ (xs : List Member). IsIndexed xs new.pids) (sym new-tasks) (subst (λ (es : List Entry). IsIndexed now es) (sym s) (indexed-now pids P free));
    waiting = subst (λ (xs : List Member). (j : ℕ) (u : Member) → slice_get xs j ≡ Some u → AreWaiting xs j u.waiting) (sym new-tasks) waiting-now;
    living = living-now e few ∙ ap (λ (xs : List Member). count_by is_living xs) (sym new-tasks);
  }

  pub rows-now : ends w ≡ false → rows_of new.tasks ≡ map (after_row (TaskActor t.name) w) (rows_of old.tasks) ++ row_of true c ∷ []
  rows-now e =
      let d : lives_at now (Some o) ≡ true = ap lives own-at ∙ ap not (goes-on e) in
      ap (λ (xs : List Member). rows_of xs) new-tasks ∙ (map-append (row_in now) kids (c ∷ [])
      ∙ (ap (λ (rs : List Row). rs ++ row_in now c ∷ []) (map-pointwise (row_in now) (row_in kids) kids now-row ∙ rows-after (TaskActor t.name) w old.tasks kids H.family long touched-each)
      ∙ ap (λ b. map (after_row (TaskActor t.name) w) (rows_of old.tasks) ++ row_of b c ∷ []) d))

  pub rest-now : (new.last ≡ pid) × (new.base ≡ old.base) × (new.top ≡ old.top) × (new.pids ≡ added.pids)
  rest-now = (ap (λ (x : Table). x.last) new-is ∙ K.last, ap (λ (x : Table). x.base) new-is ∙ K.base, ap (λ (x : Table). x.top) new-is ∙ K.top, ap (λ (x : Table). x.pids) new-is)

-- ---- the group, the program and the row of a child

same-group : (K : List Event) (n : Name) (a b : ℕ) → IsGroupOf K n a → IsGroupOf K n b → a ≡ b
same-group K n a b x y =
    let z : Some x.0 ≡ Some y.0 = sym x.2 ∙ y.2 in
    let e : x.0 ≡ y.0 = cc in
    place-one makes_group K a b x.0 x.1 (y.1 ∙ ap Some (sym e))

group-is : (K : List Event) (n : Name) (kind : SpawnKind) (group : ℕ) (s : State) (r : Row) → s.groups ≡ groups_made K → IsGroupOf K n r.group → IsNewGroup K n kind group → group_for kind (Some r) s ≡ group
group-is K n New group s r g i h = absurd h
group-is K n Copied group s r g i h = g ∙ sym h
group-is K n Shared group s r g i h = same-group K n r.group group i h

row-made : (n m : Name) (pid g g' p p' : ℕ) (parent : Option ℕ) (d : BySignal Disposition) → n ≡ m → has_parent n ≡ true → g ≡ g' → p ≡ p' → new_row n pid g p d ≡ row_of true (new_member m pid parent g' p' d)
row-made n m pid g g' p p' parent d a b e f = rw (b, a, e, f) refl

has-parent : (n : Name) (k : ℕ) → (n ≡ [] → ⊥) → has_parent (n ++ k ∷ []) ≡ true
has-parent [] k h = absurd (h refl)
has-parent (x ∷ n) k h = let l : 2 ≤ length (x ∷ (n ++ k ∷ [])) = omega (arith, length-append n (k ∷ [])) in true-leb 2 (length (x ∷ (n ++ k ∷ []))) l
  where
    true-leb : (a b : ℕ) → a ≤ b → leb a b ≡ true
    true-leb a b l = grind arith

-- ---- the tables stand for the longer history

pub stands-spawned : (S : Script) (K : List Event) (e : Event) (o : ℕ) (old added new : Table) (kind : SpawnKind) (group program pid : ℕ) (name : Name) → IsTableOf S K old → IsSpawn S K e o kind group program → e.what ≡ Spawn name (Ok (pid, kind))
    → name ≡ next_child K (task_name_of K o) → holder K pid ≡ None → length old.tasks < 2 ^ 32 → IsChildAdded old o pid group program added → IsNoted added o (Spawn name (Ok (pid, kind))) new → IsTableOf S (e ∷ K) new
stands-spawned S K e o old added new kind group program pid name s h is named free few added-is noted =
    let st = view old (groups_made K) in
    let there = task-there S K old s o h.own.there in
    let t = there.0 in
    let r = row-in' t in
    let at = row-at S K old s o t there.1 in
    let i = row-is S K old s o t there.1 in
    let n = name-is S K old s o t there.1 in
    let w : What = Spawn name (Ok (pid, kind)) in
    let A = added-is t there.1 in
    let stays : t.progress.ended ≡ false = i.ended_is ∙ lives-step S K e o h.own (ap skips is) in
    let Q = quiet-is w refl in
    let fits = next-fits S K old s o t w there.1 h.own.few in
    let rows = rows-now old s.whole o t there.1 pid group program added new A w Q refl noted fits stays refl in
    let rest = rest-now old s.whole o t there.1 pid group program added new A w Q refl noted fits stays in
    let who : e.who ≡ TaskActor t.name = h.own.who ∙ ap TaskActor (sym n) in
    let maker : row_named t.name st ≡ Some r = ap (λ m. row_named m st) n ∙ row-is-named S K st o r s.looks s.sound at in
    let program-is : program_for S (Some r) ≡ program = ap started_by (sym (next-is S K (task_name_of K o) r i) ∙ h.next) ∙ ap number_or_none h.starts_is in
    let child : name ≡ next_name t = named ∙ sym (next-child-is S K old s o t there.1) in
    let parented : has_parent name ≡ true = ap has_parent child ∙ has-parent t.name (length t.children + 1) (λ q. both_ways (is_made K []) s.sound.nameless (ap (is_made K) (sym q ∙ n) ∙ name-made K o h.own.there)) in
    let made : made_by S st e.who e.what ≡ row_of true (new_member (next_name t) pid (Some o) group program t.progress.dispositions) ∷ [] =
    ap (λ a. made_by S st a e.what) who ∙ (ap (λ x. made_by S st (TaskActor t.name) x) is
    ∙ (ap (λ (x : Option Row). new_row name pid (group_for kind x st) (program_for S x) (modes_in x) ∷ []) maker
    ∙ ap (λ (x : Row). x ∷ []) (row-made name (next_name t) pid (group_for kind (Some r) st) group (program_for S (Some r)) program (Some o) t.progress.dispositions child parented
    (group-is K (task_name_of K o) kind group st r refl i.group_is h.group_is) program-is))) in
    let now : (after S st e).rows ≡ rows_of new.tasks =
    ap (λ (x : List Row). map (after_row e.who e.what) (rows_of old.tasks) ++ x) made
    ∙ (ap (λ a. map (after_row a e.what) (rows_of old.tasks) ++ row_of true (new_member (next_name t) pid (Some o) group program t.progress.dispositions) ∷ []) who
    ∙ (ap (λ x. map (after_row (TaskActor t.name) x) (rows_of old.tasks) ++ row_of true (new_member (next_name t) pid (Some o) group program t.progress.dispositions) ∷ []) is ∙ sym rows)) in
    let living : old.living + 1 < 2 ^ 64 = omega (arith, few, s.whole.living, count_by-le-length is_living old.tasks) in
    record {
      base_is = rest.1 ∙ s.base_is;
      top_is = rest.2 ∙ s.top_is;
      looks = subst (λ x. Looks S (e ∷ K) x) (same-state (after S st e).rows (rows_of new.tasks) (after S st e).last new.last (after S st e).groups (groups_made (e ∷ K))
          now (ap (λ x. or_number (given x) old.last) is ∙ sym rest.0) (groups-more e K)) (follows-step S K e st o s.looks s.sound h.own);
      sound = sound-more K e s.sound (fits-step S K e o h.own s.sound);
      whole = whole-now old s.whole o t there.1 pid group program added new A w Q refl noted fits stays added.pids rest.3 (put-of _ _ _ s.whole.indexed.ordered (A.pids s.whole.indexed.ordered)) (nobody-holds S K old s pid free) refl living;
    }
  where
    row-in' : Member → Row
    row-in' t = row_in old.tasks t

-- a spawn that was refused
pub stands-refused : (S : Script) (K : List Event) (e : Event) (o : ℕ) (old mid new : Table) (name : Name) (errno : ℕ) → IsTableOf S K old → IsStepOf S K e o → e.what ≡ Spawn name (Err errno)
    → ((t : Member) → task_at old o ≡ Some t → mid ≡ with_task old o (with_entry t None)) → IsNoted mid o (Spawn name (Err errno)) new → IsTableOf S (e ∷ K) new
stands-refused S K e o old mid new name errno s h is entry noted =
    let there = task-there S K old s o h.there in
    let t = there.0 in
    let w : What = Spawn name (Err errno) in
    let q = entry t there.1 in
    let at : task_at mid o ≡ Some (with_entry t None) = ap (λ (x : Table). slice_get x.tasks o) q ∙ get-put old.tasks o (with_entry t None) t there.1 in
    let i = noted.task (with_entry t None) at in
    let y = member-with t (t.children ++ None ∷ []) t.waiting i.0 in
    let fits = next-fits S K old s o t w there.1 h.few in
    let same : IsSameTask t y = record {
      name = refl;
      pid = refl;
      parent = refl;
      old = λ k q g. get-more t.children None (Some q) k g;
      new = λ k q g. from t k q (get-snoc t.children None (Some q) k g);
    } in
    stands-step S K e o old new s h (ap makes is) (subst (λ x. IsStepped old o x new) (sym is)
    (quiet-stepped old s.whole o t there.1 i.0 w i.1 fits (quiet-is w refl) (t.children ++ None ∷ []) (omega (arith, length-append t.children (None ∷ []))) same new
    (ap (λ (x : Table). x.tasks) i.2 ∙ (ap (λ (x : Table). set x.tasks o y) q ∙ set-set old.tasks o (with_entry t None) y))
    (ap (λ (x : Table). x.pids) i.2 ∙ ap (λ (x : Table). x.pids) q)
    (ap (λ (x : Table). x.living) i.2 ∙ ap (λ (x : Table). if i.0.ended && not t.progress.ended then x.living - 1 else x.living) q)
    (ap (λ (x : Table). x.last) i.2 ∙ ap (λ (x : Table). x.last) q) (ap (λ (x : Table). x.base) i.2 ∙ ap (λ (x : Table). x.base) q) (ap (λ (x : Table). x.top) i.2 ∙ ap (λ (x : Table). x.top) q)))
  where
    from : (t : Member) (k p : ℕ) → (slice_get t.children k ≡ Some (Some p)) ⊎ ((k ≡ length t.children) × (None ≡ Some p)) → slice_get t.children k ≡ Some (Some p)
    from t k p (inl g) = g
    from t k p (inr g) = let z : None ≡ Some p = g.1 in cc
