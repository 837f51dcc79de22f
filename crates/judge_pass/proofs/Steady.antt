-- What descriptors lead to stays a directory, or none, while the tree changes: a node is opened that is there, and stays what it is.
-- By what the files after any history keep: each node that they name is one of their tree.
use Rattle.std.proofs.Common.{◌≡◌, ℕ, ◌<◌, ◌≤◌, ◌%◌, ◌^◌, Bool, true, false, ◌&&◌, List, [], ◌∷◌, length, inl, inr, Option, Some, None, refl, arith}
use Rattle.std.specs.Prelude.{if◌then◌else◌, ◌==◌, Ok, Err, Result, ℤ, pos, negsuc, nat_lt, slice_get}
use Rattle.std.proofs.lemmas.Bool.{and_parts, cases_Bool, eqb-true}
use Rattle.std.proofs.lemmas.List.{length-append}
use Rattle.std.proofs.lemmas.Option.{slice_get_within}
use Rattle.hist_model.specs.Copies.{copy_of, plan}
use Rattle.hist_model.specs.Effects.{effect, perform}
use Rattle.hist_model.specs.Files.{after_native, after_spawn, console_slot, files, files_after, request_for, tree_or, with_base, with_group, with_slot}
use Rattle.hist_model.specs.Look.{Name, task_name}
use Rattle.hist_model.specs.Memory.{all_mapped, argument, group_named, is_number, last_call, mapped_byte, own_group, sysinfo_size}
use Rattle.hist_model.specs.Natives.{base_for, base_of, call_natively, changed, Changes, close_natively, Closes, copied_natively, directory_in, Fails, Files, Gives, has_base, is_device, is_refused, lowest_free}
use Rattle.hist_model.specs.Natives.{make_natively, native_step, NativeStep, open_at_number, opened_place, Opens, request_natively, root, set_natively, Writes}
use Rattle.hist_model.specs.Paths.{At, Follow, New, Place, reaches, Refused}
use Rattle.hist_model.specs.Requests.{base_dirfd, request}
use Rattle.hist_model.specs.ScriptRules.{IsScript}
use Rattle.hist_model.specs.Signals.{call_of}
use Rattle.hist_model.specs.Steps.{entered, number_entered, opened, pid_named, place_or}
use Rattle.hist_model.specs.Tasks.{holder}
use Rattle.hist_model.specs.TreeLines.{are_lines_behind, is_component, is_directory, is_line, is_node, is_stated_directory, is_true, nodes_behind, root_alone, with_line as kinds_with}
use Rattle.hist_model.specs.Trees.{bare_tree, is_dir, is_dir_at, mount_on, node_of, row_in, target_of, Tree, with_line, with_lines}
use Rattle.hist_model.specs.declared.event.Actor.{Actor}
use Rattle.hist_model.specs.declared.event.Actor.TheVariants.{Worker}
use Rattle.hist_model.specs.declared.event.Event.{Event}
use Rattle.hist_model.specs.declared.event.SpawnKind.{SpawnKind}
use Rattle.hist_model.specs.declared.event.SpawnKind.TheVariants as spawn
use Rattle.hist_model.specs.declared.event.What.{What}
use Rattle.hist_model.specs.declared.event.What.TheVariants as what
use Rattle.hist_model.specs.declared.request.Obj.{Obj}
use Rattle.hist_model.specs.declared.request.Obj.TheVariants.{Broker, Console, Node as NodeObj}
use Rattle.hist_model.specs.declared.request.Request.{Request}
use Rattle.hist_model.specs.declared.request.Request.TheVariants.{Mknod, Mount, OpenAt, Other, SetXattr, Sysinfo}
use Rattle.hist_model.specs.declared.script.Script.{Script}
use Rattle.hist_model.specs.declared.script.TreeLine.{TreeLine}
use Rattle.hist_model.specs.declared.script.TreeLine.TheVariants.{Attr, Made}
use Rattle.hist_model.specs.declared.tree.NodeRow.{NodeRow}
use Rattle.sys_abi.specs.Calls.{nr_close, nr_getpid, nr_sysinfo}
use Rattle.sys_abi.specs.Errnos.{efault, enosys}
use Rattle.judge_pass.proofs.GrownTrees.{grown_node, grown_self, Grown, Grows, IsAmong, IsWhole, LeadsAmong, perform_grows, reaches_among, tree_or_grown}

-- ---- the tree that a script states

-- the nodes that lines make are those of the tree, by their ordinals
bare_whole : IsWhole bare_tree
unfolding row_in mount_on target_of
bare_whole = record {
  parents = λ n. elim (cases_Bool (n == 0)) [ inl q ↦ rw q (omega arith) | inr q ↦ rw q tt ];
  roots = λ n. tt;
  targets = λ n. tt;
}

record IsStated (kinds : List Bool) (T : Tree) : Type 0 where
  whole : IsWhole T
  number : length kinds ≡ length T.nodes

within-kinds : (kinds : List Bool) (n : ℕ) → is_true (slice_get kinds n) ≡ true → n < length kinds
within-kinds kinds n h = by (slice_get kinds n) refl h
  where
    by : (o : Option Bool) → slice_get kinds n ≡ o → is_true o ≡ true → n < length kinds
    by None q z = cc
    by (Some b) q z = slice_get_within kinds n b q

first : (a b c : Bool) → (a && b && c) ≡ true → a ≡ true
first true b c h = refl
first false b c h = h

line-stated : (line : TreeLine) (kinds : List Bool) (T : Tree) → IsStated kinds T → is_line kinds line ≡ true → IsStated (kinds_with line kinds) (with_line T line)
line-stated (Made parent name node) kinds T s h =
    let p = first (is_stated_directory kinds parent) (is_component name) (is_node node) h in
    let l = within-kinds kinds parent.ordinal p in
    record {
      whole = (grown_node T parent.ordinal name node s.whole (omega (arith, s.number, l))).whole;
      number = omega (arith, length-append kinds (is_directory node ∷ []), s.number);
    }
line-stated (Attr on name value) kinds T s h = record {
  whole = record { parents = s.whole.parents; roots = s.whole.roots; targets = s.whole.targets };
  number = s.number;
}

lines-stated : (lines : List TreeLine) (kinds : List Bool) (T : Tree) → IsStated kinds T → are_lines_behind kinds lines ≡ true → IsStated (nodes_behind kinds lines) (with_lines T lines)
unfolding with_lines
lines-stated [] kinds T s h = s
lines-stated (line ∷ more) kinds T s h =
    let p = and_parts (is_line kinds line) (are_lines_behind (kinds_with line kinds) more) h in
    lines-stated more (kinds_with line kinds) (with_line T line) (line-stated line kinds T s p.0) p.1

-- ---- the files of a history

-- the object, if there is one, is the console's, the broker's, or a node of so many
abbrev IsObject : ℕ → Option Obj → Type 0
IsObject limit (Some (NodeObj n)) = n.ordinal < limit
IsObject limit _ = Unit {0}

record AreSound (S : Script) (F : Files) : Type 0 where
  whole : IsWhole F.tree
  rooted : root S < length F.tree.nodes
  slots : (g k : ℕ) → IsObject (length F.tree.nodes) (F.slot g k)
  bases : (w : ℕ) → IsAmong (length F.tree.nodes) (F.base w)

object-more : (o : Option Obj) (m n : ℕ) → IsObject m o → m ≤ n → IsObject n o
object-more None m n h l = tt
object-more (Some Console) m n h l = tt
object-more (Some (NodeObj r)) m n h l = omega arith
object-more (Some (Broker b)) m n h l = tt

among-more : (o : Option ℕ) (m n : ℕ) → IsAmong m o → m ≤ n → IsAmong n o
among-more None m n h l = tt
among-more (Some k) m n h l = omega arith

-- with another tree, which has the nodes of the old one
grown-sound : (S : Script) (F : Files) (U : Tree) → AreSound S F → Grown F.tree U → AreSound S (record F { tree = U })
grown-sound S F U h g = record {
  whole = g.whole;
  rooted = omega (arith, h.rooted, g.more);
  slots = λ i k. object-more (F.slot i k) (length F.tree.nodes) (length U.nodes) (h.slots i k) g.more;
  bases = λ w. among-more (F.base w) (length F.tree.nodes) (length U.nodes) (h.bases w) g.more;
}

-- with other slots, and with another base
slots-sound : (S : Script) (F : Files) (slot : ℕ → ℕ → Option Obj) → AreSound S F → ((g k : ℕ) → IsObject (length F.tree.nodes) (slot g k)) → AreSound S (record F { slot = slot })
slots-sound S F slot h s = record { whole = h.whole; rooted = h.rooted; slots = s; bases = h.bases }

base-sound : (S : Script) (F : Files) (v : ℕ) (b : Option ℕ) → AreSound S F → IsAmong (length F.tree.nodes) b → AreSound S (record F { base = with_base F.base v b })
base-sound S F v b h l = record { whole = h.whole; rooted = h.rooted; slots = h.slots; bases = λ w. by w (w == v) }
  where
    by : (w : ℕ) (same : Bool) → IsAmong (length F.tree.nodes) (if same then b else F.base w)
    by w true = l
    by w false = h.bases w

slot-sound : (S : Script) (F : Files) (f m : ℕ) (o : Option Obj) → AreSound S F → IsObject (length F.tree.nodes) o → AreSound S (record F { slot = with_slot F.slot f m o })
slot-sound S F f m o h l = slots-sound S F (with_slot F.slot f m o) h (λ g k. by g k ((g == f) && (k == m)))
  where
    by : (g k : ℕ) (same : Bool) → IsObject (length F.tree.nodes) (if same then o else F.slot g k)
    by g k true = l
    by g k false = h.slots g k

group-sound : (S : Script) (F : Files) (f : ℕ) (own : ℕ → Option Obj) → AreSound S F → ((k : ℕ) → IsObject (length F.tree.nodes) (own k)) → AreSound S (record F { slot = with_group F.slot f own })
group-sound S F f own h l = slots-sound S F (with_group F.slot f own) h (λ g k. by g k (g == f))
  where
    by : (g k : ℕ) (same : Bool) → IsObject (length F.tree.nodes) (if same then own k else F.slot g k)
    by g k true = l k
    by g k false = h.slots g k

-- ---- directories

row-above : (rows : List NodeRow) (n : ℕ) → is_dir (node_of (row_in rows n)) ≡ true → n < length rows
unfolding row_in
row-above [] n h = cc
row-above (r ∷ rows) n h = elim (cases_Bool (n == length rows)) [
  | inl q ↦ let e = eqb-true n (length rows) q in omega (arith, e)
  | inr q ↦ let l = row-above rows n (rw q at h) in omega (arith, l)
]

directory-among : (T : Tree) (o : Option Obj) → IsAmong (length T.nodes) (directory_in T o)
directory-among T None = tt
directory-among T (Some Console) = tt
directory-among T (Some (Broker b)) = tt
directory-among T (Some (NodeObj n)) = elim (cases_Bool (is_dir_at T n.ordinal)) [
  | inl q ↦ rw q (row-above T.nodes n.ordinal q)
  | inr q ↦ rw q tt
]

based-among : (S : Script) (F : Files) (g : ℕ) (d : ℤ) → AreSound S F → IsAmong (length F.tree.nodes) (base_of S F g d)
based-among S F g (pos n) h = directory-among F.tree (F.slot g n)
based-among S F g (negsuc n) h = by (n == 99)
  where
    by : (b : Bool) → IsAmong (length F.tree.nodes) (if b then Some (root S) else None)
    by true = h.rooted
    by false = tt

base-for-among : (S : Script) (F : Files) (g : ℕ) (d : Option ℤ) → AreSound S F → IsAmong (length F.tree.nodes) (base_for S F g d)
base-for-among S F g None h = tt
base-for-among S F g (Some d) h = based-among S F g d h

-- the object leads to the same directory in a tree that has the nodes of the old one
directory-same : (T U : Tree) (o : Option Obj) → Grown T U → IsObject (length T.nodes) o → directory_in U o ≡ directory_in T o
directory-same T U None g l = refl
directory-same T U (Some Console) g l = refl
directory-same T U (Some (Broker b)) g l = refl
directory-same T U (Some (NodeObj n)) g l = rw (g.same n.ordinal l) refl

-- ---- native calls

-- what the step changes has the old nodes, and what it opens is one of them
abbrev IsSoundStep : Files → NativeStep → Type 0
IsSoundStep F (Changes U) = Grown F.tree U
IsSoundStep F (Opens n x) = x < length F.tree.nodes
IsSoundStep F _ = Unit {0}

native-sound : (S : Script) (F : Files) (g : ℕ) (step : NativeStep) → AreSound S F → IsSoundStep F step → AreSound S (after_native F g step)
native-sound S F g (Changes U) h s = grown-sound S F U h s
native-sound S F g (Opens n x) h s = slot-sound S F g n (Some (NodeObj (record { ordinal = x }))) h s
native-sound S F g (Closes n) h s = slot-sound S F g n None h tt
native-sound S F g (Fails e) h s = h
native-sound S F g (Gives n) h s = h
native-sound S F g Writes h s = h

native-grown : (F : Files) (g : ℕ) (step : NativeStep) → IsWhole F.tree → IsSoundStep F step → Grown F.tree (after_native F g step).tree
native-grown F g (Changes U) h s = s
native-grown F g (Opens n x) h s = grown_self F.tree h
native-grown F g (Closes n) h s = grown_self F.tree h
native-grown F g (Fails e) h s = grown_self F.tree h
native-grown F g (Gives n) h s = grown_self F.tree h
native-grown F g Writes h s = grown_self F.tree h

module _ (S : Script) (F : Files) (h : AreSound S F) where
  changed-step : (r : Result Tree ℕ) → Grows F.tree (root S) h.whole h.rooted r → IsSoundStep F (changed r)
  changed-step (Ok U) s = s
  changed-step (Err e) s = tt

  made-step : (device : Bool) (r : Result Tree ℕ) → Grows F.tree (root S) h.whole h.rooted r → IsSoundStep F (make_natively device r)
  made-step true (Ok U) s = tt
  made-step false (Ok U) s = s
  made-step true (Err e) s = tt
  made-step false (Err e) s = tt

  set-step : (refused own : Bool) (r : Result Tree ℕ) → Grows F.tree (root S) h.whole h.rooted r → IsSoundStep F (set_natively refused own r)
  set-step true own r s = changed-step r s
  set-step false true r s = changed-step r s
  set-step false false r s = tt

  numbered-step : (x : ℕ) (free : Option ℕ) → x < length F.tree.nodes → IsSoundStep F (open_at_number x free)
  numbered-step x None l = tt
  numbered-step x (Some n) l = l

  opened-step : (free : Option ℕ) (p : Place) → LeadsAmong (length F.tree.nodes) p → IsSoundStep F (opened_place free p)
  opened-step free (At x) l = numbered-step x free l
  opened-step free (New dir name) l = tt
  opened-step free (Refused e) l = tt

  request-step : (g : ℕ) (base : Option ℕ) (q : Request) → IsAmong (length F.tree.nodes) base → IsSoundStep F (request_natively S F g base q)
  request-step g base (Mknod d path mode dev) l =
      made-step (is_device (effect (Mknod d path mode dev))) (perform F.tree (root S) base (effect (Mknod d path mode dev)))
      (perform_grows F.tree (root S) h.whole h.rooted base (effect (Mknod d path mode dev)) l)
  request-step g base (SetXattr path name value flags) l =
      set-step (is_refused (effect (SetXattr path name value flags))) _ (perform F.tree (root S) base (effect (SetXattr path name value flags)))
      (perform_grows F.tree (root S) h.whole h.rooted base (effect (SetXattr path name value flags)) l)
  request-step g base (OpenAt d path flags) l = opened-step (lowest_free F g S.rlimit) (reaches F.tree (root S) base path Follow) (reaches_among F.tree (root S) h.whole h.rooted base path Follow l)
  request-step g base (Mount a b c d e f i) l = tt
  request-step g base (Sysinfo a) l = tt
  request-step g base (Other n) l = tt

  copied-step : (g : ℕ) (call : What) (copy : Result (List (List ℕ)) ℕ) → IsSoundStep F (copied_natively S F g call copy)
  copied-step g call (Err e) = tt
  copied-step g call (Ok texts) =
      request-step g (base_for S F g (base_dirfd (number_entered call) (entered call))) (request (number_entered call) (entered call) texts)
      (base-for-among S F g (base_dirfd (number_entered call) (entered call)) h)

  either : (b : Bool) (x y : NativeStep) → IsSoundStep F x → IsSoundStep F y → IsSoundStep F (if b then x else y)
  either true x y p q = p
  either false x y p q = q

  closed-step : (n : ℕ) (o : Option Obj) → IsSoundStep F (close_natively n o)
  closed-step n None = tt
  closed-step n (Some o) = tt

  call-step : (K : List Event) (n : Name) (g : ℕ) (call : What) → IsSoundStep F (call_natively S K F n g call)
  call-step K n g call =
      let nr = number_entered call in
      let low = argument call 0 % 2 ^ 32 in
      either (is_number nr nr_close) _ _ (closed-step low (F.slot g low)) (
      either (is_number nr nr_getpid) (Gives (pid_named K n)) _ tt (
      either (is_number nr nr_sysinfo) _ _ (either (all_mapped S.map (argument call 0) sysinfo_size) Writes (Fails efault) tt tt) (
      either (has_base (base_dirfd nr (entered call))) _ (Fails enosys) (copied-step g call (copy_of (mapped_byte S K g) (plan nr (entered call)))) tt)))

-- ---- each step of a history

acted-grown : (S : Script) (F : Files) (w : ℕ) (q : Request) → AreSound S F → Grown F.tree (tree_or (perform F.tree (root S) (F.base w) (effect q)) F.tree)
acted-grown S F w q h = tree_or_grown F.tree (root S) h.whole h.rooted (perform F.tree (root S) (F.base w) (effect q)) (perform_grows F.tree (root S) h.whole h.rooted (F.base w) (effect q) (h.bases w))

console-sound : (limit k : ℕ) → IsObject limit (console_slot k)
console-sound limit k = by (nat_lt k 3)
  where
    by : (b : Bool) → IsObject limit (if b then Some Console else None)
    by true = tt
    by false = tt

spawned-sound : (S : Script) (K : List Event) (F : Files) (a : Actor) (kind : SpawnKind) → AreSound S F → AreSound S (after_spawn K F a kind)
spawned-sound S K F a spawn.New h = group-sound S F (length K) console_slot h (console-sound (length F.tree.nodes))
spawned-sound S K F a spawn.Copied h = group-sound S F (length K) (F.slot (own_group K a)) h (h.slots (own_group K a))
spawned-sound S K F a spawn.Shared h = h

step-sound : (S : Script) (K : List Event) (F : Files) (a : Actor) (e : What) → AreSound S F → AreSound S (files_after S K F a e)
step-sound S K F a (what.Spawn n (Ok made)) h = spawned-sound S K F a made.1 h
step-sound S K F a (what.Native (Ok n)) h =
    native-sound S F (own_group K a) (native_step S K F (task_name a)) h (call-step S F h K (task_name a) (place_or (group_named K (task_name a))) (last_call K (task_name a)))
step-sound S K F a (what.Install (Ok m)) h = slot-sound S F (own_group K a) m (Some (Broker (request_for K (call_of K (task_name a))).srcfd)) h tt
step-sound S K F (Worker w) (what.Act q cap (Ok u)) h = grown-sound S F _ h (acted-grown S F w q h)
step-sound S K F (Worker w) (what.OpenBase p d (Ok u)) h =
    base-sound S F w (base_of S F (place_or (opened K (holder K p))) d) h (based-among S F (place_or (opened K (holder K p))) d h)
step-sound S K F (Worker w) what.LetGo h = base-sound S F w None h tt
step-sound S K F a e h = h

files-sound : (S : Script) → IsScript S → (K : List Event) → AreSound S (files S K)
unfolding files
files-sound S script [] =
    let s = lines-stated S.tree root_alone bare_tree (record { whole = bare_whole; number = refl }) script.tree in
    let l = within-kinds (nodes_behind root_alone S.tree) S.root.ordinal script.root in
    record { whole = s.whole; rooted = omega (arith, l, s.number); slots = λ g k. tt; bases = λ w. tt }
files-sound S script (e ∷ K) = step-sound S K (files S K) e.who e.what (files-sound S script K)

-- ---- what stays

pub stays-natively : (S : Script) → IsScript S → (K : List Event) (n : Name) (i : ℕ) (obj : Option Obj) (g k : ℕ) → (files S K).slot g k ≡ obj
    → directory_in (after_native (files S K) i (native_step S K (files S K) n)).tree obj ≡ directory_in (files S K).tree obj
stays-natively S script K n i obj g k h =
    let s = files-sound S script K in
    let F = files S K in
    directory-same F.tree (after_native F i (native_step S K F n)).tree obj
    (native-grown F i (native_step S K F n) s.whole (call-step S F s K n (place_or (group_named K n)) (last_call K n)))
    (rw h at (s.slots g k))

pub stays-acted : (S : Script) → IsScript S → (K : List Event) (w : ℕ) (q : Request) (obj : Option Obj) (g k : ℕ) → (files S K).slot g k ≡ obj
    → directory_in (tree_or (perform (files S K).tree (root S) ((files S K).base w) (effect q)) (files S K).tree) obj ≡ directory_in (files S K).tree obj
stays-acted S script K w q obj g k h =
    let s = files-sound S script K in
    let F = files S K in
    directory-same F.tree (tree_or (perform F.tree (root S) (F.base w) (effect q)) F.tree) obj (acted-grown S F w q s) (rw h at (s.slots g k))
