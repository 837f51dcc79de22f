-- What is asked of an effect of a seat: a clause each, as a test that says where it is broken. K are the events before it, w the seat,
-- and c the call that it has in hand.
use Rattle.std.specs.Prelude.{ℕ, zero, ◌+◌, Bool, true, false, ◌&&◌, ◌||◌, not, if◌then◌else◌, ◌==◌, nat_eq, nat_le, bytes_eq}
use Rattle.std.specs.Prelude.{List, [], ◌∷◌, slice_get, Option, Some, None, is_some, Ok}
use Rattle.std.specs.List.{list_any, starts_with}
use Rattle.std.specs.Ordering.{int_eq}
use Rattle.hist_model.specs.Calls.{caller, id}
use Rattle.hist_model.specs.Decisions.{dirfd_or_cwd, granted_by, path_of, times_of}
use Rattle.hist_model.specs.Files.{files}
use Rattle.hist_model.specs.Legal.{cloexec_of}
use Rattle.hist_model.specs.Look.{is_place}
use Rattle.hist_model.specs.Memory.{group_named}
use Rattle.hist_model.specs.Requests.{low_16, low_32}
use Rattle.hist_model.specs.Steps.{mem, session_call}
use Rattle.hist_model.specs.Sysinfo.{container_sysinfo}
use Rattle.hist_model.specs.declared.event.Actor.{Actor}
use Rattle.hist_model.specs.declared.event.Actor.TheVariants.{Worker}
use Rattle.hist_model.specs.declared.event.Event.{Event}
use Rattle.hist_model.specs.declared.event.What.{What}
use Rattle.hist_model.specs.declared.event.What.TheVariants.{Act, Plant, AddfdPut}
use Rattle.hist_model.specs.declared.policy.Policy.{Policy}
use Rattle.hist_model.specs.declared.policy.Verdict.{Verdict}
use Rattle.hist_model.specs.declared.policy.Verdict.TheVariants.{Grant, Inject}
use Rattle.hist_model.specs.declared.request.Request.{Request}
use Rattle.hist_model.specs.declared.request.Request.TheVariants.{Mknod, Mount, SetXattr, OpenAt, Sysinfo, Other}
use Rattle.hist_model.specs.declared.script.Script.{Script}
use Rattle.sys_abi.specs.declared.wire.Addfd.{Addfd}
use Rattle.broker_verdict.specs.Choices.{by_registers, decided, injects_by_registers}
use Rattle.broker_verdict.specs.SeatCopies.{copies_of, fit_parts, gives_texts, plan_of, stood_all, whole_in, worth_least}
use Rattle.broker_verdict.specs.Seats.{base_worth, is_base_refused, is_checked, of_call, rank, reads}
use Rattle.broker_verdict.specs.Seats.{request_with, Worth, Foreign, Stale, Fresh, Valid}

-- ---- what it asks for

-- two requests have the same numbers, and differ in texts, or in a mount's program and shift, alone. mknod(2) is mknodat(2) from
-- AT_FDCWD, and takes 16 bits of a mode and 32 of a device
abbrev pub has_numbers : Request → Request → Bool
has_numbers (Mknod dirfd path mode dev) (Mknod d p m v) =
    int_eq (dirfd_or_cwd dirfd) (dirfd_or_cwd d) && ((low_16 mode == low_16 m) && (low_32 dev == low_32 v))
has_numbers (Mount source target fstype options via flags shift) (Mount s t f o v n b) = flags == n
has_numbers (SetXattr path name value flags) (SetXattr p n v f) = flags == f
has_numbers (OpenAt dirfd path flags) (OpenAt d p f) = int_eq dirfd d && (flags == f)
has_numbers (Sysinfo addr) (Sysinfo a) = addr == a
has_numbers (Other nr) (Other n) = int_eq nr n
has_numbers _ _ = false

-- the call is openat, with this flag O_CLOEXEC
abbrev pub opens_with : Request → ℕ → Bool
opens_with (OpenAt dirfd path flags) cloexec = cloexec_of (OpenAt dirfd path flags) == cloexec
opens_with _ cloexec = false

-- another call, device, mode, address or flag than the call asks for; or, for a descriptor, another id
abbrev pub asks_other : List Event → ℕ → What → Bool
asks_other K c (Act q cap answer) = not (has_numbers (request_with K c []) q)
asks_other K c (Plant addr bytes cap answer) = not (has_numbers (request_with K c []) (Sysinfo addr))
asks_other K c (AddfdPut asked answer) = not (opens_with (request_with K c []) asked.newfd_flags && (asked.id == id K c))
asks_other K c _ = false

-- ---- the copy that it rests on

-- the texts that a request names, in the order of its call's plan
abbrev pub texts_of : Request → List (List ℕ)
texts_of (Mknod dirfd path mode dev) = path ∷ []
texts_of (Mount source target fstype options via flags shift) = source ∷ target ∷ fstype ∷ options ∷ []
texts_of (SetXattr path name value flags) = path ∷ name ∷ value ∷ []
texts_of (OpenAt dirfd path flags) = path ∷ []
texts_of _ = []

-- the call can have these texts
abbrev pub can_have : List Event → ℕ → What → Bool
can_have K c (Act q cap answer) = fit_parts (plan_of K c) (texts_of q)
can_have K c _ = true

abbrev pub is_empty_list : {A : Type 0} → List A → Bool
is_empty_list [] = true
is_empty_list (x ∷ xs) = false

-- each byte of its texts, and the zero that ends one, was answered by a read that can be relied on so far at least: of the texts that an
-- act names, and for a descriptor of a whole copy, unless the policy puts it in whatever the texts are. A plant rests on no texts
abbrev pub rests_on : Policy → Worth → List Event → ℕ → ℕ → What → Bool
rests_on P least K w c (Act q cap answer) = gives_texts (worth_least least (reads K w)) (plan_of K c) (texts_of q)
rests_on P least K w c (AddfdPut asked answer) = injects_by_registers P K c || not (is_empty_list (whole_in (copies_of least K w c)))
rests_on P least K w c _ = true

-- a byte of its texts wasn't read, or the call can't have them
abbrev pub rests_on_nothing : Policy → List Event → ℕ → ℕ → What → Bool
rests_on_nothing P K w c what = not (can_have K c what && rests_on P Foreign K w c what)

-- a byte was read in another memory than the caller's; and it is the caller's memory that a plant writes into
abbrev pub writes_elsewhere : List Event → ℕ → ℕ → What → Bool
writes_elsewhere K w c (Plant addr bytes cap answer) = not (of_call (mem K w) (is_place (group_named K (caller K c))))
writes_elsewhere K w c _ = false

abbrev pub rests_on_others : Policy → List Event → ℕ → ℕ → What → Bool
rests_on_others P K w c what = not (rests_on P Stale K w c what) || writes_elsewhere K w c what

-- a byte was read when the call was no longer listed
abbrev pub rests_on_stale : Policy → List Event → ℕ → ℕ → What → Bool
rests_on_stale P K w c what = not (rests_on P Fresh K w c what)

-- ---- the directory from which it goes

abbrev pub is_absolute : List ℕ → Bool
is_absolute path = starts_with nat_eq path (47 ∷ [])

abbrev pub is_relative : Option (List ℕ) → Bool
is_relative (Some path) = not (is_absolute path)
is_relative None = false

-- it walks a relative path
abbrev pub goes_from_base : What → Bool
goes_from_base (Act q cap answer) = is_relative (path_of q)
goes_from_base _ = false

-- the seat has a base that can be relied on so far at least
abbrev pub has_base : Worth → Script → List Event → ℕ → Bool
has_base least S K w = is_some ((files S K).base w) && nat_le (rank least) (rank (base_worth S K w))

-- the seat has no base, and its opening was answered that the call's descriptor leads to none
abbrev pub has_none : Script → List Event → ℕ → Bool
has_none S K w = not (is_some ((files S K).base w)) && is_base_refused S K w

-- a relative path goes from another directory than the caller's, or from one that was opened when the call was no longer listed
abbrev pub goes_elsewhere : Script → List Event → ℕ → What → Bool
goes_elsewhere S K w what = goes_from_base what && not (has_base Fresh S K w || has_none S K w)

-- ---- the check behind both

-- no good check follows the opening of the directory from which it goes
abbrev pub base_is_unchecked : Script → List Event → ℕ → What → Bool
base_is_unchecked S K w what = goes_from_base what && (has_base Fresh S K w && not (has_base Valid S K w))

-- no good check follows the last read that it rests on; of a call without texts, there is none behind the opening of its memory
abbrev pub copy_is_unchecked : Policy → List Event → ℕ → ℕ → What → Bool
copy_is_unchecked P K w c what = not (rests_on P Valid K w c what) || (is_empty_list (plan_of K c) && not (is_checked K w))

abbrev pub is_unchecked : Policy → Script → List Event → ℕ → ℕ → What → Bool
is_unchecked P S K w c what = copy_is_unchecked P K w c what || base_is_unchecked S K w what

-- ---- one text, and not the parts of two

-- two lists of texts are one
abbrev pub texts_eq : List (List ℕ) → List (List ℕ) → Bool
texts_eq [] [] = true
texts_eq (a ∷ more) (b ∷ others) = bytes_eq a b && texts_eq more others
texts_eq _ _ = false

-- its texts stood so in the caller's memory, as far as the reads tell: a copy has them, or each was the newest at some moment
abbrev pub stood_so : Worth → List Event → ℕ → ℕ → List (List ℕ) → Bool
stood_so least K w c texts =
    list_any (texts_eq texts) (whole_in (copies_of least K w c)) || stood_all (worth_least least (reads K w)) (plan_of K c) texts

-- a text that it names is made of the bytes of two reads, and never stood so. Texts that the call can't have are unread
abbrev pub is_torn : List Event → ℕ → ℕ → What → Bool
is_torn K w c (Act q cap answer) =
    fit_parts (plan_of K c) (texts_of q) && not (stood_so Valid K w c (texts_of q) || stood_so Fresh K w c (texts_of q))
is_torn K w c _ = false

-- ---- the policy

abbrev pub texts_or : List (List (List ℕ)) → List (List (List ℕ)) → List (List (List ℕ))
texts_or [] more = more
texts_or (texts ∷ all) more = texts ∷ all

-- the texts of a descriptor's request: those of the whole copies of the best reads that make one
abbrev pub texts_copied : List Event → ℕ → ℕ → List (List (List ℕ))
texts_copied K w c = texts_or (whole_in (copies_of Valid K w c)) (texts_or (whole_in (copies_of Fresh K w c))
    (texts_or (whole_in (copies_of Stale K w c)) (whole_in (copies_of Foreign K w c))))

-- the texts for which an effect is done: those that it names, or one of the copies
abbrev pub texts_done : List Event → ℕ → ℕ → What → List (List (List ℕ))
texts_done K w c (Act q cap answer) = texts_of q ∷ []
texts_done K w c (AddfdPut asked answer) = texts_copied K w c
texts_done K w c _ = [] ∷ []

-- a mount is made by the program, and with the shift, of the rule that grants it; other effects have no such choice
abbrev pub is_made_so : Request → Request → Bool
is_made_so (Mount source target fstype options via flags shift) (Mount s t f o v n b) = bytes_eq via v && (if shift then b else not b)
is_made_so _ _ = true

-- a request for a descriptor is for this file, and at this number where there is one; with SEND, or without it
abbrev pub is_put_of : ℕ → Option ℕ → Addfd → Bool
is_put_of src None asked = (asked.srcfd == src) && (((asked.flags == 0) || (asked.flags == 2)) && (asked.newfd == 0))
is_put_of src (Some at) asked = (asked.srcfd == src) && (((asked.flags == 1) || (asked.flags == 3)) && (asked.newfd == at))

-- the rule at a place, with its verdict, grants just this for the texts
abbrev pub grants_just : Policy → Script → List Event → ℕ → What → List (List ℕ) → ℕ × Verdict → Bool
grants_just P S K c (Act q cap answer) texts (i, Grant) = is_made_so (granted_by P.rules i (request_with K c texts)) q
grants_just P S K c (Plant addr bytes cap answer) texts (i, Grant) = bytes_eq bytes (container_sysinfo S.figures)
grants_just P S K c (AddfdPut asked answer) texts (i, Inject src at) = is_put_of src at asked
grants_just P S K c _ texts _ = false

-- or for whatever texts
abbrev pub grants_by_registers : Policy → Script → List Event → ℕ → What → Option (ℕ × Verdict) → Bool
grants_by_registers P S K c what (Some d) = grants_just P S K c what [] d
grants_by_registers P S K c what None = false

-- by each of the texts for which it may be done, or by registers where there are none
abbrev pub is_granted : Policy → Script → List Event → ℕ → What → List (List (List ℕ)) → Bool
is_granted P S K c what [] = grants_by_registers P S K c what (by_registers P K c)
is_granted P S K c what (texts ∷ more) = list_any (λ texts. grants_just P S K c what texts (decided P K c texts)) (texts ∷ more)

-- the policy doesn't grant, or inject, just this for just these texts
abbrev pub is_ungranted : Policy → Script → List Event → ℕ → ℕ → What → Bool
is_ungranted P S K w c what = not (is_granted P S K c what (texts_done K w c what))

-- an act or a plant that was done
abbrev pub is_done : What → Bool
is_done (Act q cap (Ok u)) = true
is_done (Plant addr bytes cap (Ok u)) = true
is_done _ = false

-- the texts that an act or a plant names
abbrev pub texts_named : What → List (List ℕ)
texts_named (Act q cap answer) = texts_of q
texts_named _ = []

abbrev pub seat_call : List Event → Actor → Option ℕ
seat_call K (Worker w) = session_call K w
seat_call K _ = None

-- after K, the event is an effect that was done, and the rule at this place decides it
abbrev pub does_by : Policy → List Event → Event → ℕ → Bool
does_by P K e i = is_done e.what && of_call (seat_call K e.who) (λ c. (decided P K c (texts_named e.what)).0 == i)

-- how many effects of a rule were done
unfoldable pub done_by : Policy → List Event → ℕ → ℕ
done_by P [] i = zero
done_by P (e ∷ K) i = done_by P K i + (if does_by P K e i then 1 else 0)

abbrev pub is_within : Option ℕ → ℕ → Bool
is_within (Some times) n = nat_le times n
is_within None n = false

-- the rule at this place was done by as often as it may
abbrev pub is_used_up : Policy → List Event → ℕ → Bool
is_used_up P K i = is_within (times_of (slice_get P.rules i)) (done_by P K i)

-- it was done, and the rule's times were spent
abbrev pub is_too_often : Policy → List Event → ℕ → What → Bool
is_too_often P K c what = is_done what && is_used_up P K (decided P K c (texts_named what)).0
