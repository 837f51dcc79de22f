-- The state of the groups as a value, and what each thing that is done makes of it.
use Rattle.std.specs.Prelude.{◌≡◌, ◌≢◌, ℕ, zero, suc, ◌+◌, ◌-◌, ◌<◌, not, ◌==◌, nat_le, if◌then◌else◌, List, [], ◌∷◌, Option, Some}
use Rattle.std.specs.Prelude.{None, Result, Ok, Err}
use Rattle.sys_abi.specs.Errnos.{efault}
use Rattle.sys_abi.specs.declared.wire.Addfd.{Addfd}
use Rattle.hist_model.specs.Files.{console_slot, has_setfd, nr_open, slot_or_full}
use Rattle.hist_model.specs.Look.{oldest}
use Rattle.hist_model.specs.Memory.{byte_or, byte_stored, is_mapped}
use Rattle.hist_model.specs.Natives.{is_open}
use Rattle.hist_model.specs.Systems.{Slot, Number, Full, Over}
use Rattle.hist_model.specs.declared.request.Obj.{Obj}
use Rattle.hist_model.specs.declared.request.Obj.TheVariants.{Broker}
use Rattle.hist_model.specs.declared.script.MapRange.{MapRange}

-- the byte at each address of a group, and what each number leads to
pub record Contents : Type 0 where
  pub byte : ℕ → ℕ
  pub slot : ℕ → Option Obj

-- the map and the limit of a script, how many groups were made, and by ordinal the living tasks
-- and the open handles of each, and what it has
pub record State : Type 0 where
  pub map : List MapRange
  pub rlimit : ℕ
  pub made : ℕ
  pub living : ℕ → ℕ
  pub handles : ℕ → ℕ
  pub contents : ℕ → Contents

-- a new group, whose bytes are 0 and whose numbers 0, 1 and 2 lead to the console
abbrev pub new_contents : Contents
new_contents = record { byte = λ a. 0; slot = console_slot }

-- no groups
abbrev pub no_groups : List MapRange → ℕ → State
no_groups map rlimit = record { map = map; rlimit = rlimit; made = 0; living = λ o. 0; handles = λ o. 0; contents = λ o. new_contents }

-- ---- what it answers

-- the bytes from an address on, up to the first that isn't mapped, and at most n
unfoldable pub mapped_from : List MapRange → (ℕ → ℕ) → ℕ → ℕ → List ℕ
mapped_from map f a zero = []
mapped_from map f a (suc n) = if is_mapped map a then f a ∷ mapped_from map f (a + 1) n else []

-- the answer of a read of n bytes of a group: EFAULT where the first isn't mapped
abbrev pub read_from : State → ℕ → ℕ → ℕ → Result (List ℕ) ℕ
read_from s o a n = if is_mapped s.map a then Ok (mapped_from s.map (s.contents o).byte a n) else Err efault

-- the lowest number of a group below the limit that isn't open
abbrev pub free_of : State → ℕ → Option ℕ
free_of s o = oldest (λ n. not (is_open ((s.contents o).slot n))) s.rlimit

-- where what was asked for is installed: at a number, or at the lowest that is free
abbrev pub place_at : State → ℕ → Slot
place_at s n = if nat_le nr_open n then Over else (if nat_le s.rlimit n then Full else Number n)

abbrev pub place_for : State → ℕ → Addfd → Slot
place_for s o asked = if has_setfd asked then place_at s asked.newfd else slot_or_full (free_of s o)

-- ---- what becomes of it

-- one more of a group, and one less
abbrev pub one_more : (ℕ → ℕ) → ℕ → ℕ → ℕ
one_more f g o = if o == g then f o + 1 else f o

abbrev pub one_less : (ℕ → ℕ) → ℕ → ℕ → ℕ
one_less f g o = if o == g then f o - 1 else f o

-- another task lives, or another handle is open
abbrev pub with_joined : ℕ → State → State
with_joined o s = record s { living = one_more s.living o }

abbrev pub with_left : ℕ → State → State
with_left o s = record s { living = one_less s.living o }

abbrev pub with_opened : ℕ → State → State
with_opened o s = record s { handles = one_more s.handles o }

abbrev pub with_closed : ℕ → State → State
with_closed o s = record s { handles = one_less s.handles o }

-- a group has this
abbrev pub set_contents : ℕ → Contents → (ℕ → Contents) → ℕ → Contents
set_contents o c f p = if p == o then c else f p

-- a group is made that has one task and this
abbrev pub with_group : Contents → State → State
with_group c s = record s { made = s.made + 1; living = one_more s.living s.made; contents = set_contents s.made c s.contents }

-- a new one, and a copy of another one
abbrev pub with_fresh : State → State
with_fresh s = with_group new_contents s

abbrev pub with_copy : ℕ → State → State
with_copy o s = with_group (s.contents o) s

-- bytes are stored at an address, where there are some, and a number is set, where there is one
abbrev pub slot_set : Option (ℕ × Option Obj) → ℕ → Option Obj → Option Obj
slot_set None n old = old
slot_set (Some s) n old = if n == s.0 then s.1 else old

abbrev pub after : Option (ℕ × List ℕ) → Option (ℕ × Option Obj) → Contents → Contents
after bytes slot c = record { byte = λ a. byte_or (byte_stored bytes a) (c.byte a); slot = λ n. slot_set slot n (c.slot n) }

abbrev pub with_change : ℕ → Option (ℕ × List ℕ) → Option (ℕ × Option Obj) → State → State
with_change o bytes slot s = record s { contents = set_contents o (after bytes slot (s.contents o)) s.contents }

abbrev pub with_stored : ℕ → ℕ → List ℕ → State → State
with_stored o a bytes s = with_change o (Some (a, bytes)) None s

abbrev pub with_number : ℕ → ℕ → Option Obj → State → State
with_number o n x s = with_change o None (Some (n, x)) s

-- a file of the broker is installed with this answer
abbrev pub with_installed : ℕ → ℕ → Result ℕ ℕ → State → State
with_installed o file (Ok n) s = with_number o n (Some (Broker file)) s
with_installed o file (Err e) s = s

-- ---- states that tell the same

-- the same bytes, and the same slots
pub record Alike (c d : Contents) : Type 0 where
  pub byte : (a : ℕ) → d.byte a ≡ c.byte a
  pub slot : (n : ℕ) → d.slot n ≡ c.slot n

pub record Agree (s t : State) : Type 0 where
  pub map : t.map ≡ s.map
  pub rlimit : t.rlimit ≡ s.rlimit
  pub made : t.made ≡ s.made
  pub living : (o : ℕ) → t.living o ≡ s.living o
  pub handles : (o : ℕ) → t.handles o ≡ s.handles o
  pub contents : (o : ℕ) → o < s.made → Alike (s.contents o) (t.contents o)

-- one group has this, and each other what it had
pub record IsSetTo {A : Type 0} (f : ℕ → A) (o : ℕ) (x : A) (g : ℕ → A) : Type 0 where
  pub here : g o ≡ x
  pub others : (p : ℕ) → p ≢ o → g p ≡ f p
