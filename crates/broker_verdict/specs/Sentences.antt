-- What is so of a broker that can be trusted, in the words of the mediation law.
use Rattle.std.specs.Prelude.{◌≡◌, ℕ, ◌+◌, ◌<◌, ℤ, Bool, true, false, not, ◌&&◌, if◌then◌else◌, is_some, List, [], ◌∷◌, ◌++◌, slice_get}
use Rattle.std.specs.Prelude.{Option, Some, Result, Ok}
use Rattle.hist_model.specs.Calls.{caller, id, listed}
use Rattle.hist_model.specs.Copies.{further}
use Rattle.hist_model.specs.Decisions.{path_of}
use Rattle.hist_model.specs.Files.{files}
use Rattle.hist_model.specs.Look.{before, ev, event_at}
use Rattle.hist_model.specs.Mediated.{Each, NamesOwn, ReceivedAndAnsweredOnce}
use Rattle.hist_model.specs.Memory.{group_named}
use Rattle.hist_model.specs.Steps.{mem, session_call}
use Rattle.hist_model.specs.declared.copy.Part.{Part}
use Rattle.hist_model.specs.declared.copy.Part.TheVariants.{Text, Value}
use Rattle.hist_model.specs.declared.event.Actor.TheVariants.{Worker}
use Rattle.hist_model.specs.declared.event.Back.{Back}
use Rattle.hist_model.specs.declared.event.Back.TheVariants.{Value as Number, Fail, Continue}
use Rattle.hist_model.specs.declared.event.Event.{Event}
use Rattle.hist_model.specs.declared.event.What.{What}
use Rattle.hist_model.specs.declared.event.What.TheVariants.{Act, AddfdPut, Check, OpenBase, Plant, Read, Send}
use Rattle.hist_model.specs.declared.policy.Cap.{Cap}
use Rattle.hist_model.specs.declared.policy.Policy.{Policy}
use Rattle.hist_model.specs.declared.request.Request.{Request}
use Rattle.hist_model.specs.declared.request.Request.TheVariants.{Sysinfo}
use Rattle.sys_abi.specs.declared.wire.Addfd.{Addfd}
use Rattle.hist_model.specs.declared.script.Script.{Script}
use Rattle.broker_verdict.specs.Answers.{allows_error, has_effect, has_no_cause, is_error_said, is_number_of, is_pass_said, number_told}
use Rattle.broker_verdict.specs.Answers.{outcome_at, what_done}
use Rattle.broker_verdict.specs.Choices.{decided}
use Rattle.broker_verdict.specs.Effects.{grants_just, has_numbers, is_granted, is_relative, texts_done, texts_of}
use Rattle.broker_verdict.specs.SeatCopies.{fit_parts, plan_of}
use Rattle.broker_verdict.specs.Seats.{directory_opened, dirfd_of_call, effect_of, is_of_call, request_with}

-- a byte stood at an address of the caller's memory while the call was listed: at this place the seat, which had the call in hand, read
-- it there; and a later check of the call's id was good
pub record IsByteRead (K : List Event) (w c x b : ℕ) : Type 0 where
  pub place : ℕ
  pub group : ℕ
  pub addr : ℕ
  pub len : ℕ
  pub bytes : List ℕ
  pub offset : ℕ
  pub checked : ℕ
  pub reading : event_at K place ≡ Some (ev (Worker w) (Read addr len (Ok bytes)))
  pub in_hand : session_call (before K place) w ≡ Some c
  pub of_memory : mem (before K place) w ≡ Some group
  pub of_caller : group_named (before K place) (caller (before K place) c) ≡ Some group
  pub was_listed : listed (before K place) c ≡ true
  pub there : x ≡ addr + offset
  pub byte : slice_get bytes offset ≡ Some b
  pub later : place < checked
  pub good_check : event_at K checked ≡ Some (ev (Worker w) (Check (id K c) (Ok tt)))

-- each of these bytes, which stand from an address on
abbrev pub AreBytesRead : List Event → ℕ → ℕ → ℕ → List ℕ → Type 0
AreBytesRead K w c x [] = Unit {0}
AreBytesRead K w c x (b ∷ more) = IsByteRead K w c x b × AreBytesRead K w c (further x 1) more

-- a text with the zero that ends it, or a value
abbrev pub IsTextRead : List Event → ℕ → ℕ → Part → List ℕ → Type 0
IsTextRead K w c (Text addr limit fault) text = AreBytesRead K w c addr (text ++ 0 ∷ [])
IsTextRead K w c (Value addr size) text = AreBytesRead K w c addr text

-- a text for each part of a plan
abbrev pub AreTextsRead : List Event → ℕ → ℕ → List Part → List (List ℕ) → Type 0
AreTextsRead K w c [] [] = Unit {0}
AreTextsRead K w c (part ∷ parts) (text ∷ texts) = IsTextRead K w c part text × AreTextsRead K w c parts texts
AreTextsRead K w c _ _ = ⊥

-- the seat's base is the directory of the call: at this place the seat, which had the call in hand, opened it, the call was listed, and
-- its descriptor named just this one; and a later check of the call's id was good
pub record IsBaseOpened (S : Script) (K : List Event) (w c : ℕ) : Type 0 where
  pub place : ℕ
  pub pid : ℕ
  pub dirfd : ℤ
  pub checked : ℕ
  pub opening : event_at K place ≡ Some (ev (Worker w) (OpenBase pid dirfd (Ok tt)))
  pub in_hand : session_call (before K place) w ≡ Some c
  pub is : (files S K).base w ≡ directory_opened S (before K place) pid dirfd
  pub named : is_of_call S (before K place) c (dirfd_of_call (before K place) c) (directory_opened S (before K place) pid dirfd) ≡ true
  pub was_listed : listed (before K place) c ≡ true
  pub later : place < checked
  pub good_check : event_at K checked ≡ Some (ev (Worker w) (Check (id K c) (Ok tt)))

-- an act is for the call in the seat's hand: it asks for what the call asks for, by one copy of its arguments, and just this is what the
-- rule grants that decides the call with these texts. A relative path goes from the call's own directory
pub record IsActGranted (P : Policy) (S : Script) (K : List Event) (w : ℕ) (q : Request) (what : What) : Type 0 where
  pub call : ℕ
  pub in_hand : session_call K w ≡ Some call
  pub asked_for : has_numbers (request_with K call []) q ≡ true
  pub has_form : fit_parts (plan_of K call) (texts_of q) ≡ true
  pub copied : AreTextsRead K w call (plan_of K call) (texts_of q)
  pub granted : grants_just P S K call what (texts_of q) (decided P K call (texts_of q)) ≡ true
  pub from_base : is_relative (path_of q) ≡ true → is_some ((files S K).base w) ≡ true → IsBaseOpened S K w call

abbrev pub GrantsAct : Policy → Script → List Event → Event → Type 0
GrantsAct P S K e = (w : ℕ) (q : Request) (cap : Option Cap) (a : Result (Unit {0}) ℕ) → e.who ≡ Worker w → e.what ≡ Act q cap a
    → IsActGranted P S K w q e.what

-- what is written as the answer of sysinfo are the figures that the rule grants, at the address that the call in hand asks for, in its
-- caller's memory
pub record IsPlantGranted (P : Policy) (S : Script) (K : List Event) (w addr : ℕ) (what : What) : Type 0 where
  pub call : ℕ
  pub in_hand : session_call K w ≡ Some call
  pub asked_for : has_numbers (request_with K call []) (Sysinfo addr) ≡ true
  pub of_caller : mem K w ≡ group_named K (caller K call)
  pub granted : grants_just P S K call what [] (decided P K call []) ≡ true

abbrev pub GrantsPlant : Policy → Script → List Event → Event → Type 0
GrantsPlant P S K e = (w addr : ℕ) (bytes : List ℕ) (cap : Option Cap) (a : Result (Unit {0}) ℕ) → e.who ≡ Worker w
    → e.what ≡ Plant addr bytes cap a → IsPlantGranted P S K w addr e.what

-- a descriptor is asked for by the id of the call in hand, and the policy injects just this one, by a copy of its path or by registers
pub record IsPutGranted (P : Policy) (S : Script) (K : List Event) (w : ℕ) (q : Addfd) (what : What) : Type 0 where
  pub call : ℕ
  pub in_hand : session_call K w ≡ Some call
  pub own_id : id K call ≡ q.id
  pub granted : is_granted P S K call what (texts_done K w call what) ≡ true

abbrev pub GrantsPut : Policy → Script → List Event → Event → Type 0
GrantsPut P S K e = (w : ℕ) (q : Addfd) (a : Result (Unit {0}) ℕ) → e.who ≡ Worker w → e.what ≡ AddfdPut q a
    → IsPutGranted P S K w q e.what

-- what is sent: the number that an effect gave; the error of the seat's effect or, without one, what the policy says of a copy that was
-- found valid; and CONTINUE where the policy passes such a copy, and there was no effect
abbrev pub is_right : Policy → Script → List Event → ℕ → ℕ → Back → Bool
is_right P S K w c (Number v) = is_number_of (number_told K w c) (Number v)
is_right P S K w c (Fail e) =
    if has_effect K w then allows_error (outcome_at K (effect_of K w)) (what_done K (effect_of K w)) e else is_error_said P S K w c e
is_right P S K w c Continue = not (has_effect K w) && is_pass_said P K w c

-- an answer that was accepted is for the call in the seat's hand, has a cause, and says just what this comes to: an effect of the seat, a
-- copy of the call's arguments that was found valid, or that the policy decides the call by its registers
pub record IsAnswerCaused (P : Policy) (S : Script) (K : List Event) (w x : ℕ) (back : Back) : Type 0 where
  pub call : ℕ
  pub in_hand : session_call K w ≡ Some call
  pub own_id : id K call ≡ x
  pub has_cause : has_no_cause P K w call ≡ false
  pub is_right : is_right P S K w call back ≡ true

abbrev pub CausesAnswer : Policy → Script → List Event → Event → Type 0
CausesAnswer P S K e = (w x : ℕ) (back : Back) → e.who ≡ Worker w → e.what ≡ Send x back (Ok tt) → IsAnswerCaused P S K w x back

pub record Sentences (P : Policy) (S : Script) (K : List Event) : Type 0 where
  -- each notification is received and answered at most once
  pub once : ReceivedAndAnsweredOnce K
  -- each answer and each descriptor is for the call of its own seat
  pub own : Each NamesOwn K
  -- each act is what the policy grants on one copy of its call's arguments, found valid afterwards
  pub acts : Each (GrantsAct P S) K
  -- and so is each answer of sysinfo, and each descriptor
  pub plants : Each (GrantsPlant P S) K
  pub puts : Each (GrantsPut P S) K
  -- each answer that was accepted has its cause
  pub answers : Each (CausesAnswer P S) K
