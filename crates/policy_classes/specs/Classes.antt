-- The classes of all calls.
use Rattle.std.specs.Prelude.{◌≡◌, Bool, true, false, ◌&&◌, ◌==◌, List, [], ◌∷◌, Some, None, ℤ, pos, negsuc, if◌then◌else◌}
use Rattle.std.specs.Ordering.{int_eq}
use Rattle.hist_model.specs.Decisions.{decide}
use Rattle.hist_model.specs.declared.policy.Rule.{Rule}
use Rattle.hist_model.specs.declared.request.Request.{Request}
use Rattle.hist_model.specs.declared.request.Request.TheVariants.{Mknod, Mount, SetXattr, OpenAt, Sysinfo, Other}
use Rattle.policy_classes.specs.declared.found.Class.{Class}
use Rattle.policy_classes.specs.Asked.{IsCall}
use Rattle.policy_classes.specs.Order.{is_at_most, plain_path, plain_word}
use Rattle.sys_abi.specs.Calls.{nr_sysinfo, nr_mknod, nr_mount, nr_setxattr, nr_openat, nr_mknodat}

-- a call of a number, before its fields are given values: what no rule asks for stays so
abbrev pub start_of : ℤ → Request
start_of nr =
    if int_eq (pos nr_mknod) nr then Mknod None plain_path 0 0
    else if int_eq (pos nr_mknodat) nr then Mknod (Some (negsuc 99)) plain_path 0 0
    else if int_eq (pos nr_mount) nr then Mount plain_word plain_path plain_word [] [] 0 false
    else if int_eq (pos nr_setxattr) nr then SetXattr plain_path plain_word [] 0
    else if int_eq (pos nr_openat) nr then OpenAt (negsuc 99) plain_path 0
    else if int_eq (pos nr_sysinfo) nr then Sysinfo 0
    else Other nr

-- the witness is a call of its class
abbrev pub HasWitness : List Rule → List Rule → Class → Type 0
HasWitness old new c = IsCall c.witness × (c.old_place ≡ (decide old c.witness).0) × (c.new_place ≡ (decide new c.witness).0)

-- the call is of the class
abbrev pub Holds : List Rule → List Rule → Request → Class → Type 0
Holds old new q c = (c.old_place ≡ (decide old q).0) × (c.new_place ≡ (decide new q).0)

-- two classes are of the same two rules
abbrev pub is_same : Class → Class → Bool
is_same c d = (c.old_place == d.old_place) && (c.new_place == d.new_place)

-- no call of the class is less than its witness
abbrev pub IsLeast : List Rule → List Rule → Class → Type 0
IsLeast old new c = (q : Request) → IsCall q → Holds old new q c → is_at_most c.witness q ≡ true

-- the one of two classes whose witness isn't greater
abbrev pub lesser_class : Class → Class → Class
lesser_class c d = if is_at_most c.witness d.witness then c else d

-- the class is put among those that were found, of which none is of the same two rules, or the lesser stays of one that is
abbrev pub with_class : List Class → Class → List Class
with_class [] d = d ∷ []
with_class (c ∷ found) d = if is_same c d then lesser_class c d ∷ found else c ∷ with_class found d

abbrev pub Adds : Class → List Class → List Class → Type 0
Adds c found more = more ≡ with_class found c
