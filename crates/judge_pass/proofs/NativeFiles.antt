-- Which numbers a native call opens or closes: openat the one that it answers, close its argument, and no other call any.
-- By the number of the call.
use Rattle.std.proofs.Common.{◌≡◌, ℕ, ◌^◌, ◌%◌, Bool, true, false, List, refl, sym, ap, ◌∙◌, arith, inl, inr, Option, Some, None}
use Rattle.std.specs.Prelude.{if◌then◌else◌, Ok, Err, Result, ◌==◌, ℤ, pos, negsuc}
use Rattle.std.proofs.lemmas.Bool.{cases_Bool, eqb-true}
use Rattle.hist_model.specs.Copies.{copy_of, plan}
use Rattle.hist_model.specs.Files.{after_native}
use Rattle.hist_model.specs.Look.{Name}
use Rattle.hist_model.specs.Memory.{all_mapped, argument, is_number, mapped_byte, sysinfo_size}
use Rattle.hist_model.specs.Natives.{call_natively, changed, Changes, close_natively, Closes, copied_natively, Fails, Files, Gives, has_base, make_natively, native_answer, NativeStep, open_at_number, opened_place, Opens, request_natively, set_natively, Writes}
use Rattle.hist_model.specs.Paths.{At, New, Place, Refused}
use Rattle.hist_model.specs.Requests.{base_dirfd, request}
use Rattle.hist_model.specs.Steps.{entered, number_entered}
use Rattle.hist_model.specs.Steps.{pid_named}
use Rattle.hist_model.specs.Trees.{Tree}
use Rattle.sys_abi.specs.Errnos.{efault, enosys}
use Rattle.hist_model.specs.declared.event.Event.{Event}
use Rattle.hist_model.specs.declared.event.What.{What}
use Rattle.hist_model.specs.declared.request.Obj.{Obj}
use Rattle.hist_model.specs.declared.request.Request.{Request}
use Rattle.hist_model.specs.declared.request.Request.TheVariants.{Mknod, Mount, OpenAt, Other, SetXattr, Sysinfo}
use Rattle.hist_model.specs.declared.script.Script.{Script}
use Rattle.sys_abi.specs.Calls.{nr_close, nr_getpid, nr_openat, nr_sysinfo}

-- ---- openat

number-opened : (x m : ℕ) (free : Option ℕ) → native_answer (open_at_number x free) ≡ Ok m → open_at_number x free ≡ Opens m x
number-opened x m None h = cc
number-opened x m (Some k) h = let e : k ≡ m = cc in ap (λ (i : ℕ). Opens i x) e

place-opened : (free : Option ℕ) (p : Place) (m : ℕ) → native_answer (opened_place free p) ≡ Ok m → (x : ℕ) × (opened_place free p ≡ Opens m x)
place-opened free (At x) m h = (x, number-opened x m free h)
place-opened free (New dir name) m h = cc
place-opened free (Refused e) m h = cc

copy-opened : (S : Script) (F : Files) (g : ℕ) (call : What) (copy : Result (List (List ℕ)) ℕ) (m : ℕ) → number_entered call ≡ pos nr_openat → native_answer (copied_natively S F g call copy) ≡ Ok m → (x : ℕ) × (copied_natively S F g call copy ≡ Opens m x)
unfolding request
copy-opened S F g call (Err e) m n h = cc
copy-opened S F g call (Ok texts) m n h = let k = rw n at h in rw n (place-opened _ _ m k)

is-copied : (S : Script) (K : List Event) (F : Files) (name : Name) (g : ℕ) (call : What) → number_entered call ≡ pos nr_openat
    → call_natively S K F name g call ≡ copied_natively S F g call (copy_of (mapped_byte S K g) (plan (number_entered call) (entered call)))
unfolding base_dirfd
is-copied S K F name g call n = rw n refl

pub openat-opens : (S : Script) (K : List Event) (F : Files) (name : Name) (g : ℕ) (call : What) (m : ℕ) → number_entered call ≡ pos nr_openat → native_answer (call_natively S K F name g call) ≡ Ok m
    → (x : ℕ) × (call_natively S K F name g call ≡ Opens m x)
openat-opens S K F name g call m n h =
    let q = is-copied S K F name g call n in
    let r = copy-opened S F g call (copy_of (mapped_byte S K g) (plan (number_entered call) (entered call))) m n (ap native_answer (sym q) ∙ h) in
    (r.0, q ∙ r.1)

-- ---- close

pub close-closes : (S : Script) (K : List Event) (F : Files) (name : Name) (g : ℕ) (call : What) (m : ℕ) → number_entered call ≡ pos nr_close → native_answer (call_natively S K F name g call) ≡ Ok m
    → call_natively S K F name g call ≡ Closes (argument call 0 % 2 ^ 32)
close-closes S K F name g call m n h = let k = rw n at h in rw n (by (F.slot g (argument call 0 % 2 ^ 32)) k)
  where
    by : (o : Option Obj) → native_answer (close_natively (argument call 0 % 2 ^ 32) o) ≡ Ok m → close_natively (argument call 0 % 2 ^ 32) o ≡ Closes (argument call 0 % 2 ^ 32)
    by None z = cc
    by (Some o) z = refl

-- ---- other calls

-- the step opens or closes a number
abbrev pub moves_slot : NativeStep → Bool
moves_slot (Opens n x) = true
moves_slot (Closes n) = true
moves_slot step = false

pub slot-still : (F : Files) (g : ℕ) (step : NativeStep) → moves_slot step ≡ false → (p k : ℕ) → (after_native F g step).slot p k ≡ F.slot p k
slot-still F g (Changes T) h p k = refl
slot-still F g (Opens m x) h p k = cc
slot-still F g (Closes m) h p k = cc
slot-still F g (Fails e) h p k = refl
slot-still F g (Gives m) h p k = refl
slot-still F g Writes h p k = refl

abbrev is_openat : Request → Bool
is_openat (OpenAt dirfd path flags) = true
is_openat q = false

request-other : (nr : ℤ) (args : List ℕ) (texts : List (List ℕ)) → (nr ≡ pos nr_openat → ⊥) → is_openat (request nr args texts) ≡ false
unfolding request
request-other (negsuc n) args texts a = refl
request-other (pos n) args texts a =
    let f : (n == nr_openat) ≡ false = elim (cases_Bool (n == nr_openat)) [ inr q ↦ q | inl q ↦ absurd (a (ap pos (eqb-true n nr_openat q))) ] in
    rw f (grind arith)

changed-still : (r : Result Tree ℕ) → moves_slot (changed r) ≡ false
changed-still (Ok T) = refl
changed-still (Err e) = refl

made-still : (b : Bool) (r : Result Tree ℕ) → moves_slot (make_natively b r) ≡ false
made-still true (Ok T) = refl
made-still false (Ok T) = refl
made-still true (Err e) = refl
made-still false (Err e) = refl

set-still : (a b : Bool) (r : Result Tree ℕ) → moves_slot (set_natively a b r) ≡ false
set-still true own r = changed-still r
set-still false true r = changed-still r
set-still false false r = refl

request-still : (S : Script) (F : Files) (g : ℕ) (base : Option ℕ) (q : Request) → is_openat q ≡ false → moves_slot (request_natively S F g base q) ≡ false
request-still S F g base (Mknod d path mode dev) h = made-still _ _
request-still S F g base (SetXattr path name value flags) h = set-still _ _ _
request-still S F g base (OpenAt d path flags) h = cc
request-still S F g base (Mount a b c d e f i) h = refl
request-still S F g base (Sysinfo a) h = refl
request-still S F g base (Other n) h = refl

copy-still : (S : Script) (F : Files) (g : ℕ) (call : What) (copy : Result (List (List ℕ)) ℕ) → (number_entered call ≡ pos nr_openat → ⊥) → moves_slot (copied_natively S F g call copy) ≡ false
copy-still S F g call (Err e) a = refl
copy-still S F g call (Ok texts) a = request-still S F g _ (request (number_entered call) (entered call) texts) (request-other (number_entered call) (entered call) texts a)

pub other-still : (S : Script) (K : List Event) (F : Files) (name : Name) (g : ℕ) (call : What) → (number_entered call ≡ pos nr_openat → ⊥) → (number_entered call ≡ pos nr_close → ⊥) → moves_slot (call_natively S K F name g call) ≡ false
other-still S K F name g call a b = by (is_number (number_entered call) nr_close) (is_number (number_entered call) nr_getpid) (is_number (number_entered call) nr_sysinfo) (all_mapped S.map (argument call 0) sysinfo_size)
    (has_base (base_dirfd (number_entered call) (entered call))) refl
  where
    is-number : (z : ℤ) (n : ℕ) → is_number z n ≡ true → z ≡ pos n
    is-number (pos m) n h = ap pos (eqb-true m n h)
    is-number (negsuc m) n h = cc

    copied : moves_slot (copied_natively S F g call (copy_of (mapped_byte S K g) (plan (number_entered call) (entered call)))) ≡ false
    copied = copy-still S F g call (copy_of (mapped_byte S K g) (plan (number_entered call) (entered call))) a

    by : (c p s m h : Bool) → is_number (number_entered call) nr_close ≡ c
        → moves_slot (if c then close_natively (argument call 0 % 2 ^ 32) (F.slot g (argument call 0 % 2 ^ 32)) else (if p then Gives (pid_named K name) else (if s then (if m then Writes else Fails efault) else
        (if h then copied_natively S F g call (copy_of (mapped_byte S K g) (plan (number_entered call) (entered call))) else Fails enosys)))) ≡ false
    by true p s m h q = absurd (b (is-number (number_entered call) nr_close q))
    by false true s m h q = refl
    by false false true true h q = refl
    by false false true false h q = refl
    by false false false m true q = copied
    by false false false m false q = refl
