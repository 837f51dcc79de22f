-- A call that is passed to the kernel changes no device, no mount, and no attribute but the user's own.
-- By the cases of a native call, of any list of events.
use Rattle.mediation.proofs.Common.{[], ActsAlone, Actor, after_native, and_parts, arith, base_dirfd, Bool, bytes_eq, call_natively, cases_Bool, changed, Changes, close_natively}
use Rattle.mediation.proofs.Common.{codes, copied_natively, copy_of, entered, Event, Fails, false, files, Files, files_after, filter, Gives, has_base, if◌then◌else◌, inl, inr}
use Rattle.mediation.proofs.Common.{is_effect, is_others_row, KeepsPrivileged, List, Name, name_eq-true, nat_eq, native_step, NativeStep, number_entered, Option, pid_named, place_or, plan}
use Rattle.mediation.proofs.Common.{refl, Result, Script, starts_with, task_name, true, What, Writes, ℕ, ◌%◌, ◌==◌, ◌^◌, ◌∷◌, ◌≡◌}
use Rattle.hist_model.specs.Effects.{attributed}
use Rattle.hist_model.specs.Memory.{all_mapped, argument, group_named, is_number, last_call, mapped_byte, own_group, sysinfo_size}
use Rattle.hist_model.specs.Paths.{Place}
use Rattle.hist_model.specs.Trees.{attr_replaced, is_attr, Tree, with_attr}
use Rattle.hist_model.specs.declared.request.Obj.{Obj}
use Rattle.hist_model.specs.declared.tree.AttrRow.{AttrRow}
use Rattle.sys_abi.specs.Errnos.{efault, enosys}
use Rattle.sys_abi.specs.Calls.{nr_sysinfo}

-- a step that keeps what is privileged of this tree
abbrev Keeping : Tree → NativeStep → Type 0
Keeping T (Changes U) = KeepsPrivileged T U
Keeping T _ = Unit {0}

either : (T : Tree) (b : Bool) (x y : NativeStep) → Keeping T x → Keeping T y → Keeping T (if b then x else y)
either T b x y p q = grind arith

close-keeps : (T : Tree) (n : ℕ) (o : Option Obj) → Keeping T (close_natively n o)
close-keeps T n o = grind arith

-- an attribute of the user's own
user_own : List ℕ → Bool
user_own name = starts_with nat_eq name (codes "user.")

replaced-keeps : (rs : List AttrRow) (on : ℕ) (name value : List ℕ) → user_own name ≡ true → filter is_others_row (attr_replaced rs on name value) ≡ filter is_others_row rs
unfolding attr_replaced user_own
replaced-keeps [] on name value h = refl
replaced-keeps (r ∷ rs) on name value h =
    let ih = replaced-keeps rs on name value h in
    elim (cases_Bool (is_attr r on name)) [
      | inl q ↦
          let same = name_eq-true r.name name (and_parts (r.on == on) (bytes_eq r.name name) q).1 in
          let own : starts_with nat_eq r.name (codes "user.") ≡ true = rw same h in
          rw (q, own)
      | inr q ↦ rw (q, ih)
    ]

attr-keeps : (T : Tree) (on : ℕ) (name value : List ℕ) → user_own name ≡ true → KeepsPrivileged T (with_attr T on name value)
unfolding user_own
attr-keeps T on name value h = grind (arith, replaced-keeps)

attributed-keeps : (T : Tree) (name value : List ℕ) (flags : ℕ) (p : Place) → user_own name ≡ true → Keeping T (changed (attributed T name value flags p))
attributed-keeps T name value flags p h = grind (arith, attr-keeps)

copied-keeps : (S : Script) (F : Files) (g : ℕ) (call : What) (r : Result (List (List ℕ)) ℕ) → Keeping F.tree (copied_natively S F g call r)
unfolding user_own
copied-keeps S F g call r = grind (arith, attributed-keeps)

call-keeps : (S : Script) (K : List Event) (F : Files) (n : Name) (g : ℕ) (call : What) → Keeping F.tree (call_natively S K F n g call)
call-keeps S K F n g call =
    let nr = number_entered call in
    let low = argument call 0 % 2 ^ 32 in
    either F.tree (is_number nr 3) _ _ (close-keeps F.tree low (F.slot g low)) (
    either F.tree (is_number nr 39) (Gives (pid_named K n)) _ tt (
    either F.tree (is_number nr nr_sysinfo) _ _ (either F.tree (all_mapped S.map (argument call 0) sysinfo_size) Writes (Fails efault) tt tt) (
    either F.tree (has_base (base_dirfd nr (entered call))) _ (Fails enosys) (copied-keeps S F g call (copy_of (mapped_byte S K g) (plan nr (entered call)))) tt)))

native-keeps : (F : Files) (g : ℕ) (s : NativeStep) → Keeping F.tree s → KeepsPrivileged F.tree (after_native F g s).tree
native-keeps F g s h = grind arith

after-keeps : (S : Script) (K : List Event) (F : Files) (a : Actor) (what : What) → is_effect what ≡ false → KeepsPrivileged F.tree (files_after S K F a what).tree
after-keeps S K F a what h =
    let c = call-keeps S K F (task_name a) (place_or (group_named K (task_name a))) (last_call K (task_name a)) in
    let n = native-keeps F (own_group K a) (native_step S K F (task_name a)) c in
    grind arith

pub acts-alone : (S : Script) (K : List Event) (e : Event) → ActsAlone S K e
unfolding files
acts-alone S K e h = after-keeps S K (files S K) e.who e.what h
