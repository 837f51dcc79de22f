-- What groups that hold a state answer.
-- By the row of the group and its contents, and by cases on the order of two numbers that may be the lowest.
use Rattle.std.proofs.Common.{◌≡◌, inl, inr, ℕ, zero, suc, ◌+◌, ◌*◌, ◌<◌, ◌≤◌, ◌^◌, Bool, true, false, ◌&&◌, not, List, [], ◌∷◌, length, get_or, map, Option, Some, None, IsSome, Ok, Err, refl, sym, ap, ◌∙◌, subst, arith}
use Rattle.std.specs.Prelude.{Result, OnErr, IfOk, slice_get, nat_le, nat_lt, if◌then◌else◌}
use Rattle.std.specs.List.{list_all}
use Rattle.std.proofs.lemmas.Bool.{and_parts, leb-true, cases_order, both_ways, lt-ltb, le-ltb, ne_eqb}
use Rattle.slab.specs.Slab.{get}
use Rattle.sys_abi.specs.Errnos.{ebadf, efault}
use Rattle.sys_abi.specs.declared.wire.Addfd.{Addfd}
use Rattle.hist_model.specs.Files.{files, has_setfd, slot_in, slot_or_full, console_slot}
use Rattle.hist_model.specs.Look.{oldest}
use Rattle.hist_model.specs.Memory.{all_mapped, byte, bytes_read, is_mapped, mapped_bytes}
use Rattle.hist_model.specs.Natives.{is_open, lowest_free}
use Rattle.hist_model.specs.Ranges.{is_range, is_page_address, end_of}
use Rattle.hist_model.specs.Steps.{place_or, slot_answer}
use Rattle.hist_model.specs.declared.event.Event.{Event}
use Rattle.hist_model.specs.declared.request.Obj.TheVariants.{Broker}
use Rattle.hist_model.specs.declared.script.MapRange.{MapRange}
use Rattle.hist_model.specs.declared.script.Script.{Script}
use Rattle.hist_model.proofs.Look.{oldest-some, oldest-found}
use Rattle.history_frames.specs.Ordinals.{group_of}
use Rattle.history_frames.proofs.Held.{oldest-least}
use Rattle.sorted_list.specs.Entries.{NumbersRise, entry_for}
use Rattle.task_groups.specs.Descriptors.{IsFirstFree, descriptor_number, console_descriptor, console_descriptors}
use Rattle.task_groups.specs.Groups.{Holds, IsLive, number_given}
use Rattle.task_groups.specs.Lists.{slot_of}
use Rattle.task_groups.specs.Pages.{byte_in, bytes_from, count_in}
use Rattle.task_groups.specs.Ranges.{AllEndLow, IsMappedFor}
use Rattle.task_groups.specs.Rows.{Row, row_at, row_of, rows_of, uses_all, descriptor_in, obj_in, IsSound}
use Rattle.task_groups.specs.Stands.{contents, state}
use Rattle.task_groups.specs.State.{State, free_of, mapped_from, no_groups, place_for, read_from, with_installed, with_number}
use Rattle.task_groups.specs.declared.descriptors.Descriptor.{Descriptor}
use Rattle.task_groups.specs.declared.groups.Group.{Group}
use Rattle.task_groups.specs.declared.groups.Groups.{Groups}
use Rattle.task_groups.specs.declared.groups.OverLimit.{OverLimit}
use Rattle.task_groups.specs.declared.pages.Page.{Page}
use Rattle.task_groups.specs.declared.pages.Pages.{Pages}
use Rattle.task_groups.proofs.Ranges.{all-mapped, bytes-mapped}
use Rattle.task_groups.proofs.Rows.{uses-nothing}

-- ---- at first

end-low : (r : MapRange) → is_range r ≡ true → r.start + 4096 * r.pages ≤ 2 ^ 47
end-low r h =
    let p = and_parts (is_page_address r.start && nat_le 1 r.pages && nat_le r.pages 64) (nat_le (end_of r) (2 ^ 47)) h in
    leb-true (end_of r) (2 ^ 47) p.1

-- the ranges of a script's map end low
pub ends-low : (map : List MapRange) → list_all is_range map ≡ true → AllEndLow map
ends-low [] h = λ k d l. omega arith
ends-low (r ∷ more) h = let p = and_parts (is_range r) (list_all is_range more) h in at (end-low r p.0) (ends-low more p.1)
  where
    at : r.start + 4096 * r.pages ≤ 2 ^ 47 → AllEndLow more → (k : ℕ) (d : MapRange) → k < length (r ∷ more) → (get_or (r ∷ more) k d).start + 4096 * (get_or (r ∷ more) k d).pages ≤ 2 ^ 47
    at first rest zero d l = first
    at first rest (suc k) d l = rest k d (omega arith)

-- no groups
pub holds-new : (ms : List MapRange) (rlimit : ℕ) (G : Groups) → AllEndLow ms → G.map.items ≡ ms → G.rlimit ≡ rlimit → G.rows.items ≡ [] → ((p : ℕ) → get G.pages.slots p ≡ None) → Holds (no_groups ms rlimit) G
holds-new ms rlimit G low m l e n =
    let none : rows_of G ≡ [] = ap (λ (gs : List Group). map row_of gs) e in
    record {
      sound = record {
        store = λ p page g. no-page page (sym (n p) ∙ g);
        counted = λ p. ap count_in (n p) ∙ sym (ap (λ rows. uses_all rows p) none ∙ uses-nothing p);
        rows = λ o r g. absurd (no-row o r (ap (λ rows. slice_get rows o) (sym none) ∙ g));
      };
      map_is = m;
      low = low;
      rlimit_is = l;
      made = ap length none;
      rows = λ o r g. absurd (no-row o r (ap (λ rows. slice_get rows o) (sym none) ∙ g));
      no_tasks = λ o b. refl;
      no_handles = λ o b. refl;
    }
  where
    no-page : (page : Page) → None ≡ Some page → 0 < page.shares
    no-page page h = absurd (cc)

    no-row : (o : ℕ) (r : Row) → slice_get {X = Row} [] o ≡ Some r → ⊥
    no-row o r h = cc

-- ---- a new group's numbers

console-for : (n : ℕ) → entry_for descriptor_number console_descriptors n ≡ (if nat_lt n 3 then Some (console_descriptor n) else None)
unfolding entry_for
console-for zero = refl
console-for (suc zero) = refl
console-for (suc (suc zero)) = refl
console-for (suc (suc (suc n))) =
    let k = suc (suc (suc n)) in
    rw (ne_eqb 0 k (λ q. omega (arith, q)), ne_eqb 1 k (λ q. omega (arith, q)), ne_eqb 2 k (λ q. omega (arith, q)), le-ltb k 3 (omega arith))

pub console-leads : (n : ℕ) → obj_in (entry_for descriptor_number console_descriptors n) ≡ console_slot n
console-leads n = ap obj_in (console-for n) ∙ go (nat_lt n 3)
  where
    go : (b : Bool) → obj_in (if b then Some (console_descriptor n) else None) ≡ (if b then console_slot 0 else None)
    go true = refl
    go false = refl

pub console-rise : NumbersRise descriptor_number console_descriptors
console-rise i j d l m = omega (arith, at i (omega (arith, m)), at j m)
  where
    at : (k : ℕ) → k < 3 → (get_or console_descriptors k d).number ≡ k
    at zero l = refl
    at (suc zero) l = refl
    at (suc (suc zero)) l = refl
    at (suc (suc (suc k))) l = absurd (omega arith)

-- and its memory
pub no-byte : (P : Pages) (b : ℕ) → ◌≡◌ {A = ℕ} (byte_in P [] b) 0
unfolding slot_of entry_for
no-byte P b = refl

-- ---- memory

-- a store is refused exactly where one of its addresses isn't mapped
pub some-unmapped : (ms map : List MapRange) (a n k : ℕ) → map ≡ ms → AllEndLow ms → (AllEndLow map → IsMappedFor map a n k) → k < n → not (all_mapped ms a n) ≡ true
some-unmapped ms map a n k e low h l = let p = rw e at h in ap not (all-mapped ms a n k (p low) ∙ ap not (lt-ltb k n l))

pub all-are-mapped : (ms map : List MapRange) (a n k : ℕ) → map ≡ ms → AllEndLow ms → (AllEndLow map → IsMappedFor map a n k) → n ≤ k → not (all_mapped ms a n) ≡ false
all-are-mapped ms map a n k e low h l = let p = rw e at h in ap not (all-mapped ms a n k (p low) ∙ ap not (le-ltb k n l))

-- a read gives the bytes of the group
pub read-bytes : (s : State) (G : Groups) (o : ℕ) (r : Row) (a n k : ℕ) (out : List ℕ) → Holds s G → row_at G o ≡ Some r → 0 < s.living o + s.handles o
    → is_mapped G.map.items a ≡ true → (AllEndLow G.map.items → IsMappedFor G.map.items a n k) → out ≡ bytes_from (byte_in G.pages r.pages) a k → read_from s o a n ≡ Ok out
read-bytes s G o r a n k out T at l m p q =
    let j = T.rows o r at in
    let on = rw T.map_is at p in
    let there : is_mapped s.map a ≡ true = rw T.map_is at m in
    let held : 0 < r.living + r.handles = rw (j.living_is, j.handles_is) l in
    rw there (ap Ok (sym (q ∙ bytes-mapped s.map (s.contents o).byte a n k (byte_in G.pages r.pages) (on T.low) (j.has.bytes held))))

-- the same of a history
bytes-are : (S : Script) (K : List Event) (g a n : ℕ) → mapped_from S.map (byte S K g) a n ≡ mapped_bytes S K g a n
unfolding mapped_from mapped_bytes
bytes-are S K g a zero = refl
bytes-are S K g a (suc n) = rw (bytes-are S K g (a + 1) n) refl

module _ (S : Script) (K : List Event) (living handles : ℕ → ℕ) (o g : ℕ) (at : group_of K o ≡ Some g) where
  pub reads : (a n : ℕ) → read_from (state S K living handles) o a n ≡ bytes_read S K g a n
  reads a n = ap (λ (h : Option ℕ). if is_mapped S.map a then Ok (mapped_from S.map (byte S K (place_or h)) a n) else Err efault) at ∙ ap (λ xs. if is_mapped S.map a then Ok xs else Err efault) (bytes-are S K g a n)

  pub slots : (n : ℕ) → (contents S K o).slot n ≡ (files S K).slot g n
  slots n = ap (λ (h : Option ℕ). (files S K).slot (place_or h) n) at

  pub frees : free_of (state S K living handles) o ≡ lowest_free (files S K) g S.rlimit
  frees = ap (λ (h : Option ℕ). lowest_free (files S K) (place_or h) S.rlimit) at

  pub places : (asked : Addfd) → place_for (state S K living handles) o asked ≡ slot_in S.rlimit (files S K) g asked
  places asked = ap (λ (h : Option ℕ). slot_in S.rlimit (files S K) (place_or h) asked) at

-- ---- descriptors

-- what a number leads to
pub found-slot : (s : State) (G : Groups) (o n : ℕ) (d : Option Descriptor) → Holds s G → IsLive G o → d ≡ descriptor_in (row_at G o) n → obj_in d ≡ (s.contents o).slot n
found-slot s G o n d T live q = ap obj_in (q ∙ ap (λ (r : Option Row). descriptor_in r n) live.at) ∙ (T.rows o live.row live.at).has.slots live.lives n

-- the first that passes a test is the oldest
oldest-is : (test : ℕ → Bool) (n x : ℕ) → x < n → test x ≡ true → ((m : ℕ) → m < x → test m ≡ false) → oldest test n ≡ Some x
oldest-is test n x l h before =
    let f = oldest-found test n x l h in
    let s = oldest-some test n f.0 f.1 in
    elim (cases_order f.0 x) [
      | inl a ↦ f.1 ∙ ap Some a
      | inr a ↦ elim a [
        | inl a ↦ absurd (both_ways (test f.0) (before f.0 a) s.0)
        | inr a ↦ absurd (oldest-least test n f.0 x f.1 h a)
      ]
    ]

oldest-not : (test : ℕ → Bool) (n : ℕ) → ((m : ℕ) → m < n → test m ≡ false) → oldest test n ≡ None
oldest-not test n before = go (oldest test n) refl
  where
    go : (r : Option ℕ) → oldest test n ≡ r → oldest test n ≡ None
    go None q = q
    go (Some s) q = let p = oldest-some test n s q in absurd (both_ways (test s) (before s p.1) p.0)

open-some : (d : Option Descriptor) → IsSome d → is_open (obj_in d) ≡ true
open-some (Some e) h = refl
open-some None h = cc

module _ (s : State) (G : Groups) (T : Holds s G) (o x : ℕ) (live : IsLive G o) (first : IsSound G → (r : Row) → row_at G o ≡ Some r → IsFirstFree r.descriptors x) where
  abbrev test : ℕ → Bool
  test n = not (is_open ((s.contents o).slot n))

  free : IsFirstFree live.row.descriptors x
  free = first T.sound live.row live.at

  test-is : (n : ℕ) → test n ≡ not (is_open (obj_in (entry_for descriptor_number live.row.descriptors n)))
  test-is n = ap (λ y. not (is_open y)) (sym ((T.rows o live.row live.at).has.slots live.lives n))

  taken : (m : ℕ) → m < x → test m ≡ false
  taken m l = test-is m ∙ ap not (open-some (entry_for descriptor_number live.row.descriptors m) (free.taken m l))

  pub lowest-some : x < G.rlimit → Some x ≡ free_of s o
  lowest-some l = sym (oldest-is test s.rlimit x (omega (arith, l, T.rlimit_is)) (test-is x ∙ ap (λ d. not (is_open (obj_in d))) free.free) taken)

  pub lowest-none : G.rlimit ≤ x → None ≡ free_of s o
  lowest-none l = sym (oldest-not test s.rlimit (λ m k. taken m (omega (arith, l, T.rlimit_is, k))))

abbrev pub number_answer : Result ℕ OverLimit → Result ℕ ℕ
number_answer (Ok n) = Ok n
number_answer (Err e) = Err ebadf

-- where what was asked for is installed at the lowest number
pub lowest-answer : (s : State) (o : ℕ) (asked : Addfd) (r : Result ℕ OverLimit) → has_setfd asked ≡ false → number_given r ≡ free_of s o → number_answer r ≡ slot_answer (place_for s o asked)
lowest-answer s o asked r h q = rw (h, ← q) (by r)
  where
    by : (r : Result ℕ OverLimit) → number_answer r ≡ slot_answer (slot_or_full (number_given r))
    by (Ok n) = refl
    by (Err e) = refl

-- what was asked for is installed, or refused
pub installed : (s : State) (old new : Groups) (o file : ℕ) (answer : Result ℕ ℕ) → Holds s old → IfOk answer (λ n. (s : State) → Holds s old → Holds (with_number o n (Some (Broker file)) s) new) → OnErr answer (new ≡ old) → Holds (with_installed o file answer s) new
installed s old new o file (Ok n) T step refused = step s T
installed s old new o file (Err x) T step refused = subst (λ (G : Groups). Holds s G) (sym refused) T
