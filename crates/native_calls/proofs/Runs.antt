-- What the parts of a native call do, and what that comes to.
-- By cases on the step, and on the result that the tree expects.
use Rattle.std.proofs.Common.{inl, inr, ◌≡◌, ℕ, Bool, true, false, List, Option, Some, None, refl, sym, ap, subst, ◌∙◌}
use Rattle.std.specs.Prelude.{Result, Ok, Err, ℤ, not, ◌||◌, nat_eq, codes, if◌then◌else◌}
use Rattle.std.specs.List.{starts_with}
use Rattle.std.proofs.lemmas.Bool.{cases_Bool}
use Rattle.sys_abi.specs.Errnos.{ebadf, efault, emfile}
use Rattle.hist_model.specs.Memory.{all_mapped}
use Rattle.hist_model.specs.Sysinfo.{host_sysinfo}
use Rattle.hist_model.specs.Trees.{Tree}
use Rattle.hist_model.specs.Effects.{effect, perform}
use Rattle.hist_model.specs.Files.{files}
use Rattle.hist_model.specs.Natives as natives
use Rattle.hist_model.specs.Paths.{reaches, At, Follow}
use Rattle.hist_model.specs.Natives.{NativeStep, Fails, Opens, Closes, Writes, changed, is_refused, set_natively, close_natively, open_at_number, request_natively, is_open}
use Rattle.hist_model.specs.declared.event.Event.{Event}
use Rattle.hist_model.specs.declared.request.Obj.{Obj}
use Rattle.hist_model.specs.declared.request.Obj.TheVariants.{Node}
use Rattle.hist_model.specs.declared.request.Request.{Request}
use Rattle.hist_model.specs.declared.request.Request.TheVariants.{SetXattr, OpenAt}
use Rattle.hist_model.specs.declared.script.Figures.{Figures}
use Rattle.hist_model.specs.declared.script.Script.{Script}
use Rattle.history_frames.specs.Ordinals.{group_of}
use Rattle.mount_tree.specs.Changes.{Seen}
use Rattle.task_groups.specs.Groups.{Holds}
use Rattle.task_groups.specs.Stands.{StandsFor, bytes_done, slot_done, opens_or_closes, state}
use Rattle.task_groups.specs.State.{State, free_of, with_change}
use Rattle.task_groups.specs.declared.groups.Groups.{Groups}
use Rattle.task_groups.proofs.Answered.{frees}
use Rattle.task_groups.proofs.Stand as groups
use Rattle.native_calls.specs.declared.call.NativeCall.{NativeCall}
use Rattle.native_calls.specs.declared.running.Caller.{Caller}
use Rattle.native_calls.specs.declared.running.Container.{Container}
use Rattle.native_calls.specs.Stands.{IsRun}
use Rattle.native_calls.specs.Done.{TreeRun, GroupsRun, StepRun, RequestRun}

-- a change that was made, and one that was refused
pub change_made : (old new : Seen) (expected : Result Tree ℕ) → expected ≡ Ok new.tree → TreeRun (changed expected) (Ok 0) old.tree new.tree
change_made old new (Ok T) h = let e : T ≡ new.tree = cc in record { answer_is = refl; tree = sym e; quiet = refl }
change_made old new (Err e) h = absurd (cc)

pub change_refused : (old new : Seen) (expected : Result Tree ℕ) (e : ℕ) → expected ≡ Err e → new ≡ old → TreeRun (changed expected) (Err e) old.tree new.tree
change_refused old new (Ok T) e h q = absurd (cc)
change_refused old new (Err d) e h q = let r : d ≡ e = cc in record { answer_is = ap Err (sym r); tree = ap (λ (s : Seen). s.tree) q; quiet = refl }

-- a number that was closed, and one that wasn't open
pub closed : (s : State) (o n : ℕ) (x : Option Obj) (new : Groups) → true ≡ is_open x → Holds (with_change o None (Some (n, None)) s) new
    → GroupsRun s o None (close_natively n x) (Ok 0) new
closed s o n (Some x) new h f = record { answer_is = refl; groups = f; quiet = λ T. refl }
closed s o n None new h f = absurd (cc)

pub not-closed : (s : State) (o n : ℕ) (x : Option Obj) (new : Groups) → false ≡ is_open x → Holds (with_change o None None s) new → GroupsRun s o None (close_natively n x) (Err ebadf) new
not-closed s o n (Some x) new h f = absurd (cc)
not-closed s o n None new h f = record { answer_is = refl; groups = f; quiet = λ T. refl }

-- a number that was opened, and one for which the table is full
pub opened : (s : State) (o x n : ℕ) (free : Option ℕ) (new : Groups) → Some n ≡ free → Holds (with_change o None (Some (n, Some (Node (record { ordinal = x })))) s) new
    → GroupsRun s o None (open_at_number x free) (Ok n) new
opened s o x n (Some m) new h f = let e : n ≡ m = cc in rw (← e) (record { answer_is = refl; groups = f; quiet = λ T. refl })
opened s o x n None new h f = absurd (cc)

pub not-opened : (s : State) (o x : ℕ) (free : Option ℕ) (new : Groups) → None ≡ free → Holds (with_change o None None s) new → GroupsRun s o None (open_at_number x free) (Err emfile) new
not-opened s o x (Some m) new h f = absurd (cc)
not-opened s o x None new h f = record { answer_is = refl; groups = f; quiet = λ T. refl }

-- figures that were stored, and those that don't fit
pub stored : (s : State) (o addr size : ℕ) (figures : Figures) (bytes : List ℕ) (new : Groups) → size ≡ 112 → false ≡ not (all_mapped s.map addr size) → bytes ≡ host_sysinfo figures
    → Holds (with_change o (Some (addr, bytes)) None s) new → GroupsRun s o (Some (addr, host_sysinfo figures)) (if all_mapped s.map addr 112 then Writes else Fails efault) (Ok 0) new
stored s o addr size figures bytes new z h r f = elim (cases_Bool (all_mapped s.map addr 112)) [
  | inl m ↦ rw m (record { answer_is = refl; groups = rw r at f; quiet = λ T. refl })
  | inr m ↦ let x : false ≡ not false = (h ∙ ap (λ n. not (all_mapped s.map addr n)) z) ∙ ap not m in absurd (cc)
]

pub unmapped : (s : State) (o addr size : ℕ) (figures : Figures) (new : Groups) → size ≡ 112 → true ≡ not (all_mapped s.map addr size) → Holds (with_change o None None s) new
    → GroupsRun s o (Some (addr, host_sysinfo figures)) (if all_mapped s.map addr 112 then Writes else Fails efault) (Err efault) new
unmapped s o addr size figures new z h f = elim (cases_Bool (all_mapped s.map addr 112)) [
  | inl m ↦ let x : true ≡ not true = (h ∙ ap (λ n. not (all_mapped s.map addr n)) z) ∙ ap not m in absurd (cc)
  | inr m ↦ rw m (record { answer_is = refl; groups = f; quiet = λ T. refl })
]

-- an attribute that is set, or refused for its flags
set-allowed : (refused own : Bool) (r : Result Tree ℕ) → (refused || own) ≡ true → set_natively refused own r ≡ changed r
set-allowed true own r h = refl
set-allowed false true r h = refl
set-allowed false false r h = absurd (cc)

-- groups that are as they were hold what they held
pub unchanged : (s : State) (o : ℕ) (old new : Groups) → Holds s old → new ≡ old → Holds (with_change o None None s) new
unchanged s o old new T h = subst (λ (G : Groups). Holds (with_change o None None s) G) (sym h) (groups.unchanged s o old T)

bytes-none : (a : Result ℕ ℕ) → None ≡ bytes_done None a
bytes-none (Ok v) = refl
bytes-none (Err e) = refl

slot-none : (s : NativeStep) → opens_or_closes s ≡ false → None ≡ slot_done s
slot-none (Opens n x) q = absurd (cc)
slot-none (Closes n) q = absurd (cc)
slot-none s q = refl

pub tree-alone : (t : State) (o : ℕ) (s : NativeStep) (a : Result ℕ ℕ) (T U : Tree) (G : Groups) → Holds t G → TreeRun s a T U → StepRun t o None s a T U G
tree-alone t o s a T U G held h = record {
  answer_is = h.answer_is;
  tree = h.tree;
  groups = subst (λ (x : Option (ℕ × List ℕ)). Holds (with_change o x (slot_done s) t) G) (bytes-none a)
      (subst (λ (x : Option (ℕ × Option Obj)). Holds (with_change o None x t) G) (slot-none s h.quiet) (unchanged t o G G held refl));
}

-- a step over the groups alone leaves the tree
pub groups-alone : (t : State) (o : ℕ) (bytes : Option (ℕ × List ℕ)) (s : NativeStep) (a : Result ℕ ℕ) (T : Tree) (G : Groups) → GroupsRun t o bytes s a G → StepRun t o bytes s a T T G
groups-alone t o bytes s a T G h = record { answer_is = h.answer_is; tree = h.quiet T; groups = h.groups }

-- a number that is opened for what a path leads to
pub opens : (S : Script) (K : List Event) (living handles : ℕ → ℕ) (o g : ℕ) (base : Option ℕ) (q : Request) (d : ℤ) (path : List ℕ) (flags x : ℕ) (a : Result ℕ ℕ) (T : Tree) (G : Groups) → group_of K o ≡ Some g → q ≡ OpenAt d path flags
    → reaches (files S K).tree (natives.root S) base path Follow ≡ At x → GroupsRun (state S K living handles) o None (open_at_number x (free_of (state S K living handles) o)) a G → StepRun (state S K living handles) o None (request_natively S (files S K) g base q) a T T G
opens S K living handles o g base q d path flags x a T G at i h run =
    let e : request_natively S (files S K) g base q ≡ open_at_number x (free_of (state S K living handles) o) = rw (i, h) (ap (open_at_number x) (sym (frees S K living handles o g at))) in
    subst (λ (s : NativeStep). StepRun (state S K living handles) o None s a T T G) (sym e) (groups-alone (state S K living handles) o None _ a T G run)

-- a call that is this one
pub run-as : (container : Container) (caller : Caller) (call made : NativeCall) (a : Result ℕ ℕ) (T U : Tree) (old new : Groups) → call ≡ made → IsRun container caller made a T U old new → IsRun container caller call a T U old new
run-as container caller call made a T U old new e h = subst (λ (x : NativeCall). IsRun container caller x a T U old new) (sym e) h

pub set_runs : (q : Request) (path name value : List ℕ) (flags root o : ℕ) (base : Option ℕ) (dirfd : ℤ) (may : Bool) (T U : Tree) (G : Groups) (a : Result ℕ ℕ)
    → q ≡ SetXattr path name value flags → may ≡ (is_refused (effect (SetXattr path name value flags)) || starts_with nat_eq name (codes "user.")) → may ≡ true
    → ((S : Script) (K : List Event) (living handles : ℕ → ℕ) (g : ℕ) → StandsFor S K living handles G → group_of K o ≡ Some g → T ≡ (files S K).tree → root ≡ natives.root S → base ≡ natives.base_of S (files S K) g dirfd)
    → TreeRun (changed (perform T root base (effect q))) a T U → RequestRun root o dirfd q a T U G G
set_runs q path name value flags root o base dirfd may T U G a i m h b run = λ S K living handles g stands at t r.
    let op = effect (SetXattr path name value flags) in
    let e : perform T root base (effect q) ≡ perform (files S K).tree (natives.root S) (natives.base_of S (files S K) g dirfd) op = rw (i, t, r, ← b S K living handles g stands at t r) in
    let run' = rw e at run in
    let s = set-allowed (is_refused op) (starts_with nat_eq name (codes "user.")) (perform (files S K).tree (natives.root S) (natives.base_of S (files S K) g dirfd) op) (sym m ∙ h) in
    rw (i, s) (tree-alone (state S K living handles) o _ a T U G stands run')
