-- The tables after a worker received, opened or closed something.
-- By the counts of what workers have open, of which one changed.
use Rattle.std.proofs.Common.{◌≡◌, inl, inr, ℕ, ◌+◌, ◌-◌, ◌^◌, ◌<◌, ◌≤◌, Bool, true, List, ◌∷◌, length, Option, Some, None, refl, sym, ap, ◌∙◌, subst, arith, ℤ, Ok, is_some, replicate, set, slice_get, ◌==◌, if◌then◌else◌}
use Rattle.std.specs.List.{count_by}
use Rattle.std.proofs.lemmas.Bool.{cases_Bool, cases_lt, eq-eqb}
use Rattle.std.proofs.lemmas.Bool.Decides.{nat_tests}
use Rattle.std.proofs.lemmas.List.{get_or_past}
use Rattle.std.proofs.lemmas.List.Sums.{count_by-le-length, sum_by-set}
use Rattle.std.proofs.lemmas.Option.{slice_get-get_or, slice_get_within, get_or_from_slice_get}
use Rattle.hist_model.specs.Files.{files}
use Rattle.hist_model.specs.Look.{is_place}
use Rattle.hist_model.specs.Natives.{base_of}
use Rattle.hist_model.specs.Steps.{mem, opened as opened_group, place_or}
use Rattle.hist_model.specs.Tasks.{holder}
use Rattle.hist_model.specs.Trees.{ordinal_of}
use Rattle.hist_model.specs.declared.request.NodeRef.{NodeRef}
use Rattle.history_frames.specs.Ordinals.{group_of, groups_made}
use Rattle.sys_abi.specs.declared.wire.Notif.{Notif}
use Rattle.task_groups.specs.Groups.{HasRow, IsLive}
use Rattle.task_groups.specs.Stands as groups
use Rattle.task_groups.specs.State.{one_more, one_less}
use Rattle.task_groups.proofs.Stand.{has_row, living_live}
use Rattle.listener.specs.Stands as listener
use Rattle.listener.proofs.Stand as listening
use Rattle.model_kernel.proofs.Words.{alike, ev, Event, Groups, LetGo, Listener, memories_in, OpenBase, OpenMem, Recv, Resources, Script, state, Worker, WorkerRow}
use Rattle.model_kernel.specs.Rows.{row_of, idle}
use Rattle.model_kernel.specs.Stands.{IsMemory, IsOneOf, StandsFor, has_memory, without}
use Rattle.model_kernel.proofs.Others.{after, groups-kept}
use Rattle.model_kernel.proofs.WorkerRows.{rows-based, rows-let_go, rows-opened, rows-received}

-- one more, and one less, where the numbers are one, whichever way round they are tested
pub added : (x y a b : ℕ) → x ≡ y + (if a == b then 1 else 0) → x ≡ (if b == a then y + 1 else y)
added x y a b h = grind (arith, nat_tests)

pub taken : (x y a b : ℕ) → x + (if a == b then 1 else 0) ≡ y → x ≡ (if b == a then y - 1 else y)
taken x y a b h = grind (arith, nat_tests)

-- and where one number is taken and another one added
pub moved : (x y a b c : ℕ) → x + (if b == a then 1 else 0) ≡ y + (if c == a then 1 else 0) → x ≡ (if a == b then (if a == c then y + 1 else y) - 1 else (if a == c then y + 1 else y))
moved x y a b c h = grind (arith, nat_tests)

-- one more of another leaves no fewer
still : (f : ℕ → ℕ) (o g : ℕ) → 0 < f g → 0 < one_more f o g
still f o g l = elim (cases_Bool (g == o)) [ inl b ↦ rw b (omega arith) | inr b ↦ rw b l ]

-- ---- how many have a group's memory open

abbrev one : Bool → ℕ
one b = if b then 1 else 0

count-put : {X : Type 0} (test : X → Bool) (xs : List X) (i : ℕ) (old new : X) → slice_get xs i ≡ Some old → count_by test (set xs i new) + one (test old) ≡ count_by test xs + one (test new)
count-put test xs i old new q =
    let g = get_or_from_slice_get xs i old old q in
    let s = sum_by-set (λ x. one (test x)) xs i new old (slice_get_within xs i old q) in
    ap (λ x. count_by test (set xs i new) + one (test x)) (sym g) ∙ s

-- at first nobody has
pub memories-none : (rows : List WorkerRow) → rows ≡ replicate 17 idle → (g : ℕ) → memories_in rows g ≡ 0
unfolding memories_in
memories-none rows q g = rw q refl

-- what has a memory open is one of the rows
pub row-there : (rows : List WorkerRow) (w g : ℕ) → (row_of rows w).memory ≡ Some g → w < length rows
row-there rows w g q = elim (cases_lt w (length rows)) [
  | inl h ↦ h
  | inr h ↦ let z : None ≡ Some g = ap (λ (r : WorkerRow). r.memory) (sym (get_or_past rows w idle h)) ∙ q in cc
]

module _ (rows : List WorkerRow) (w : ℕ) (row : WorkerRow) (l : w < length rows) where
  -- after the row of one was set
  memories-set : (g : ℕ) → memories_in (set rows w row) g + one (has_memory g (row_of rows w)) ≡ memories_in rows g + one (has_memory g row)
  unfolding memories_in
  memories-set g = count-put (has_memory g) rows w (row_of rows w) row (slice_get-get_or rows w idle l)

  -- the memory of a row that stays is counted as before
  memories-same : row.memory ≡ (row_of rows w).memory → (g : ℕ) → memories_in (set rows w row) g ≡ memories_in rows g
  memories-same q g =
      let t : memories_in (set rows w row) g + one (has_memory g (row_of rows w)) ≡ memories_in rows g + one (has_memory g (row_of rows w)) = memories-set g ∙ ap (λ m. memories_in rows g + one (is_place m g)) q in
      omega (arith, t)

  -- one more has
  memories-more : (g : ℕ) → (row_of rows w).memory ≡ None → row.memory ≡ Some g → (o : ℕ) → memories_in (set rows w row) o ≡ one_more (memories_in rows) g o
  memories-more g none q o =
      let old : one (has_memory o (row_of rows w)) ≡ 0 = ap (λ m. one (is_place m o)) none in
      let new : one (has_memory o row) ≡ one (g == o) = ap (λ m. one (is_place m o)) q in
      added (memories_in (set rows w row) o) (memories_in rows o) g o (omega (arith, memories-set o, old, new))

  -- one less has
  memories-less : (g : ℕ) → (row_of rows w).memory ≡ Some g → row.memory ≡ None → (o : ℕ) → memories_in (set rows w row) o ≡ one_less (memories_in rows) g o
  memories-less g q none o =
      let old : one (has_memory o (row_of rows w)) ≡ one (g == o) = ap (λ m. one (is_place m o)) q in
      let new : one (has_memory o row) ≡ 0 = ap (λ m. one (is_place m o)) none in
      taken (memories_in (set rows w row) o) (memories_in rows o) g o (omega (arith, memories-set o, old, new))

  -- one more has one, and one less another
  memories-moved : (f g : ℕ) → (row_of rows w).memory ≡ Some f → row.memory ≡ Some g → (o : ℕ) → memories_in (set rows w row) o ≡ one_less (one_more (memories_in rows) g) f o
  memories-moved f g q p o =
      let old : one (has_memory o (row_of rows w)) ≡ one (f == o) = ap (λ m. one (is_place m o)) q in
      let new : one (has_memory o row) ≡ one (g == o) = ap (λ m. one (is_place m o)) p in
      moved (memories_in (set rows w row) o) (memories_in rows o) o f g (omega (arith, memories-set o, old, new))

-- the worker itself has it open
pub memories-some : (rows : List WorkerRow) (w g : ℕ) → (row_of rows w).memory ≡ Some g → 0 < memories_in rows g
memories-some rows w g q =
    let t = memories-set rows w idle (row-there rows w g q) g in
    let old : one (has_memory g (row_of rows w)) ≡ 1 = ap (λ m. one (is_place m g)) q ∙ rw (eq-eqb g g refl) refl in
    let new : one (has_memory g idle) ≡ 0 = refl in
    omega (arith, t, old, new)

-- whether a row has a memory open
pub has-memory : (K : List Event) (m o : Option ℕ) → IsMemory K m o → is_some o ≡ is_some m
has-memory K m (Some o) i = ap is_some (sym i.1)
has-memory K m None i = ap is_some (sym i)

module _ (S : Script) (K : List Event) (living : ℕ → ℕ) (R : Resources) (T : StandsFor S K living R) where
  -- what was found in a worker's row is what it has open
  pub memory-of : (w : ℕ) (o : Option ℕ) → o ≡ (row_of R.workers w).memory → IsMemory K (mem K w) o
  memory-of w o q = subst (IsMemory K (mem K w)) (sym q) (T.workers.workers w).memory_is

  pub base-of : (w : ℕ) (n : Option NodeRef) → n ≡ (row_of R.workers w).base → (files S K).base w ≡ ordinal_of n
  base-of w n q = (T.workers.workers w).base_is ∙ ap ordinal_of (sym q)

  -- a group whose memory is open was made, and has a row, however many have it open by now
  memory-made : (w g : ℕ) → (row_of R.workers w).memory ≡ Some g → g < groups_made K
  memory-made w g q = made T.groups.no_handles
    where
      made : ((o : ℕ) → groups_made K ≤ o → memories_in R.workers o ≡ 0) → g < groups_made K
      made none = elim (cases_lt g (groups_made K)) [ inl h ↦ h | inr h ↦ absurd (omega (arith, memories-some R.workers w g q, none g h)) ]

  pub memory-row-by : (w g : ℕ) (handles : ℕ → ℕ) (G : Groups) → (row_of R.workers w).memory ≡ Some g → groups.StandsFor S K living handles G → HasRow G g
  memory-row-by w g handles G q stands = has_row (state S K living handles) G stands g (memory-made w g q)

  pub memory-row : (w g : ℕ) → (row_of R.workers w).memory ≡ Some g → HasRow R.groups g
  memory-row w g q = memory-row-by w g (memories_in R.workers) R.groups q T.groups

  -- a group with a living task is live, since at most 17 workers have its memory open
  pub live : (o : ℕ) → 0 < living o → living o < 2 ^ 62 → IsLive R.groups o
  unfolding memories_in
  live o some few =
      let most = count_by-le-length (has_memory o) R.workers in
      living_live (state S K living (memories_in R.workers)) R.groups T.groups o some (omega (arith, most, T.workers.whole, few))

  there : {w : ℕ} → w ≤ 16 → w < length R.workers
  there l = omega (arith, l, T.workers.whole)

  -- a worker received a notification
  pub received : (w : ℕ) (n : Notif) (L : Listener) (new : List WorkerRow) → w ≤ 16 → new ≡ set R.workers w (record (row_of R.workers w) { has_session = true }) → listener.StandsFor S.firstid (ev (Worker w) (Recv (Ok n)) ∷ K) L
      → StandsFor S (ev (Worker w) (Recv (Ok n)) ∷ K) living (record R { listener = L; workers = new })
  received w n L new l is on =
      let e = ev (Worker w) (Recv (Ok n)) in
      after S K living R T e living R.groups L new refl
      (alike (state S (e ∷ K) living (memories_in R.workers)) living (memories_in new) R.groups (groups-kept S K living R T e refl) (λ o. refl) (λ o. rw is (memories-same R.workers w _ (there l) refl o)))
      on (rw is (rows-received S K R.workers w T.workers l n))

  -- a worker opened the memory of a group, and closed the one that it had open before
  pub opened : (w pid o g : ℕ) (former : Option ℕ) (G : Groups) (new : List WorkerRow) → w ≤ 16 → (row_of R.workers w).memory ≡ former → opened_group K (holder K pid) ≡ Some g → group_of K o ≡ Some g
      → (groups.StandsFor S (ev (Worker w) (OpenMem pid (Ok tt)) ∷ K) living (memories_in R.workers) R.groups → IsOneOf (one_more (memories_in R.workers) o) former
      → groups.StandsFor S (ev (Worker w) (OpenMem pid (Ok tt)) ∷ K) living (without (one_more (memories_in R.workers) o) former) G)
      → new ≡ set R.workers w (record (row_of R.workers w) { memory = Some o }) → StandsFor S (ev (Worker w) (OpenMem pid (Ok tt)) ∷ K) living (record R { groups = G; workers = new })
  opened w pid o g former G new l was own at f is =
      let e = ev (Worker w) (OpenMem pid (Ok tt)) in
      after S K living R T e living G R.listener new refl
      (alike (state S (e ∷ K) living (without (one_more (memories_in R.workers) o) former)) living (memories_in new) G (f (groups-kept S K living R T e refl) (one-of former was)) (λ x. refl) (λ x. rw is (counted former was x)))
      (listening.stands-other S.firstid K R.listener T.listener e tt) (rw is (rows-opened S K R.workers w T.workers l pid o g own at))
    where
      one-of : (m : Option ℕ) → (row_of R.workers w).memory ≡ m → IsOneOf (one_more (memories_in R.workers) o) m
      one-of None q = tt
      one-of (Some h) q = still (memories_in R.workers) o h (memories-some R.workers w h q)

      counted : (m : Option ℕ) → (row_of R.workers w).memory ≡ m → (x : ℕ) → memories_in (set R.workers w (record (row_of R.workers w) { memory = Some o })) x ≡ without (one_more (memories_in R.workers) o) m x
      counted None q x = memories-more R.workers w (record (row_of R.workers w) { memory = Some o }) (there l) o q refl x
      counted (Some h) q x = memories-moved R.workers w (record (row_of R.workers w) { memory = Some o }) (there l) h o q refl x

  -- a worker opened a base
  pub based : (w pid : ℕ) (d : ℤ) (base : Option NodeRef) (new : List WorkerRow) → w ≤ 16 → base_of S (files S K) (place_or (opened_group K (holder K pid))) d ≡ ordinal_of base
      → new ≡ set R.workers w (record (row_of R.workers w) { base = base }) → StandsFor S (ev (Worker w) (OpenBase pid d (Ok tt)) ∷ K) living (record R { workers = new })
  based w pid d base new l q is =
      let e = ev (Worker w) (OpenBase pid d (Ok tt)) in
      after S K living R T e living R.groups R.listener new refl
      (alike (state S (e ∷ K) living (memories_in R.workers)) living (memories_in new) R.groups (groups-kept S K living R T e refl) (λ x. refl) (λ x. rw is (memories-same R.workers w _ (there l) refl x)))
      (listening.stands-other S.firstid K R.listener T.listener e tt) (rw is (rows-based S K R.workers w T.workers l pid d base q))

  -- a worker closed what it had open
  pub let_go : (w : ℕ) (G : Groups) (new : List WorkerRow) (o : Option ℕ) → w ≤ 16 → (row_of R.workers w).memory ≡ o
      → (groups.StandsFor S (ev (Worker w) LetGo ∷ K) living (memories_in R.workers) R.groups → IsOneOf (memories_in R.workers) o → groups.StandsFor S (ev (Worker w) LetGo ∷ K) living (without (memories_in R.workers) o) G)
      → new ≡ set R.workers w idle → StandsFor S (ev (Worker w) LetGo ∷ K) living (record R { groups = G; workers = new })
  let_go w G new o l q f is =
      let e = ev (Worker w) LetGo in
      after S K living R T e living G R.listener new refl
      (alike (state S (e ∷ K) living (without (memories_in R.workers) o)) living (memories_in new) G (f (groups-kept S K living R T e refl) (one-of o q)) (λ x. refl) (λ x. rw is (less o q x)))
      (listening.stands-other S.firstid K R.listener T.listener e tt) (rw is (rows-let_go S K R.workers w T.workers l))
    where
      one-of : (o : Option ℕ) → (row_of R.workers w).memory ≡ o → IsOneOf (memories_in R.workers) o
      one-of None q = tt
      one-of (Some g) q = memories-some R.workers w g q

      less : (o : Option ℕ) → (row_of R.workers w).memory ≡ o → (x : ℕ) → memories_in (set R.workers w idle) x ≡ without (memories_in R.workers) o x
      less None q x = memories-same R.workers w idle (there l) (sym q) x
      less (Some g) q x = memories-less R.workers w idle (there l) g q refl x
