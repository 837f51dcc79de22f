-- Whether a broker mediated: of each clause where it is broken, the first clause that is, and the histories that can be trusted.
use Rattle.std.specs.Prelude.{◌≡◌, ℕ, Bool, true, false, ◌&&◌, ◌||◌, not, if◌then◌else◌, List, [], ◌∷◌, length}
use Rattle.std.specs.Prelude.{Option, Some, None, Ok, Err}
use Rattle.hist_model.specs.Calls.{answered, listed, waiting}
use Rattle.hist_model.specs.Laws.{fetcher}
use Rattle.hist_model.specs.Look.{is_place, oldest}
use Rattle.hist_model.specs.Mediated.{Each}
use Rattle.hist_model.specs.Signals.{call_of}
use Rattle.hist_model.specs.Steps.{session_call}
use Rattle.hist_model.specs.declared.event.Actor.{Actor}
use Rattle.hist_model.specs.declared.event.Actor.TheVariants.{Worker, Task}
use Rattle.hist_model.specs.declared.event.Event.{Event}
use Rattle.hist_model.specs.declared.event.What.{What}
use Rattle.hist_model.specs.declared.event.What.TheVariants.{Recv, Send, LetGo, Install, Act, Plant, AddfdPut}
use Rattle.hist_model.specs.declared.policy.Policy.{Policy}
use Rattle.hist_model.specs.declared.script.Script.{Script}
use Rattle.broker_verdict.specs.declared.clause.Class.{Class}
use Rattle.broker_verdict.specs.declared.clause.Class.TheVariants.{Harm, Answer, Order}
use Rattle.broker_verdict.specs.declared.clause.Clause.{Clause}
use Rattle.broker_verdict.specs.declared.clause.Clause.TheVariants.{EffectWithoutCall, OtherRequest, Unread, OtherMemory}
use Rattle.broker_verdict.specs.declared.clause.Clause.TheVariants.{StaleCopy, Unchecked, Torn}
use Rattle.broker_verdict.specs.declared.clause.Clause.TheVariants.{OtherBase, Ungranted, Spent, Again, AfterAnswer, AnswerWithoutCall}
use Rattle.broker_verdict.specs.declared.clause.Clause.TheVariants.{OtherAnswer, Uncaused, DeniedOtherwise, PassedOtherwise}
use Rattle.broker_verdict.specs.declared.clause.Clause.TheVariants.{GrantedNotDone, OtherOutcome, AnsweredAlready, Unanswered}
use Rattle.broker_verdict.specs.Answers.{answers_other, denies_otherwise, has_no_cause, is_again, is_second, passes_otherwise}
use Rattle.broker_verdict.specs.Answers.{reports_undone, tells_otherwise}
use Rattle.broker_verdict.specs.Effects.{asks_other, goes_elsewhere, is_too_often, is_torn, is_unchecked, is_ungranted}
use Rattle.broker_verdict.specs.Effects.{rests_on_nothing, rests_on_others, rests_on_stale}
use Rattle.broker_verdict.specs.Seats.{has_sent, is_effect, of_call}

-- ---- where a clause is broken

-- by an effect for the call that the seat has in hand
abbrev pub effect_breaks : Policy → Script → Clause → List Event → ℕ → ℕ → What → Bool
effect_breaks P S OtherRequest K w c what = asks_other K c what
effect_breaks P S Unread K w c what = rests_on_nothing P K w c what
effect_breaks P S OtherMemory K w c what = rests_on_others P K w c what
effect_breaks P S StaleCopy K w c what = rests_on_stale P K w c what
effect_breaks P S Unchecked K w c what = is_unchecked P S K w c what
effect_breaks P S Torn K w c what = is_torn K w c what
effect_breaks P S OtherBase K w c what = goes_elsewhere S K w what
effect_breaks P S Ungranted K w c what = is_ungranted P S K w c what
effect_breaks P S Spent K w c what = is_too_often P K c what
effect_breaks P S Again K w c what = is_again K w
effect_breaks P S AfterAnswer K w c what = has_sent K w
effect_breaks P S _ K w c what = false

-- by an answer for it. What the kernel refuses nobody is told: of it only the id is asked, and whether it is the second
abbrev pub answer_breaks : Policy → Script → Clause → List Event → ℕ → ℕ → What → Bool
answer_breaks P S OtherAnswer K w c (Send x back answer) = answers_other K c x
answer_breaks P S Uncaused K w c (Send x back (Ok u)) = has_no_cause P K w c
answer_breaks P S DeniedOtherwise K w c (Send x back (Ok u)) = denies_otherwise P S K w c back
answer_breaks P S PassedOtherwise K w c (Send x back (Ok u)) = passes_otherwise P K w c back
answer_breaks P S GrantedNotDone K w c (Send x back (Ok u)) = reports_undone K w c back
answer_breaks P S OtherOutcome K w c (Send x back (Ok u)) = tells_otherwise K w c back
answer_breaks P S AnsweredAlready K w c (Send x back answer) = is_second K w answer
answer_breaks P S _ K w c what = false

abbrev pub is_answer : What → Bool
is_answer (Send x back answer) = true
is_answer _ = false

-- by an effect or an answer where the seat has no notification in hand
abbrev pub breaks_without_call : Clause → What → Bool
breaks_without_call EffectWithoutCall what = is_effect what
breaks_without_call AnswerWithoutCall what = is_answer what
breaks_without_call _ what = false

abbrev pub seat_breaks : Policy → Script → Clause → List Event → ℕ → What → Option ℕ → Bool
seat_breaks P S clause K w what None = breaks_without_call clause what
seat_breaks P S clause K w what (Some c) =
    (is_effect what && effect_breaks P S clause K w c what) || answer_breaks P S clause K w c what

-- a seat has the call in hand
abbrev pub is_in_hand_of : List Event → Option ℕ → ℕ → Bool
is_in_hand_of K (Some w) c = is_place (session_call K w) c
is_in_hand_of K None c = false

abbrev pub is_in_hand : List Event → ℕ → Bool
is_in_hand K c = is_in_hand_of K (fetcher K c) c

-- the call that an event may leave to nobody: the one that a seat lets go, or receives over, and that of an installation, which may fail
abbrev pub call_left : List Event → Actor → What → Option ℕ
call_left K (Worker w) LetGo = session_call K w
call_left K (Worker w) (Recv (Ok n)) = session_call K w
call_left K (Task n) (Install answer) = call_of K n
call_left K who what = None

-- the call waits, and no seat has it in hand
abbrev pub is_left : List Event → ℕ → Bool
is_left K c = waiting K c && not (is_in_hand K c)

abbrev pub leaves_unanswered : Clause → List Event → Event → Bool
leaves_unanswered Unanswered K e = of_call (call_left K e.who e.what) (is_left (e ∷ K))
leaves_unanswered _ K e = false

abbrev pub breaks_by : Policy → Script → Clause → List Event → Actor → What → Bool
breaks_by P S clause K (Worker w) what = seat_breaks P S clause K w what (session_call K w)
breaks_by P S clause K who what = false

-- after K, the event breaks the clause
abbrev pub breaks : Policy → Script → Clause → List Event → Event → Bool
breaks P S clause K e = breaks_by P S clause K e.who e.what || leaves_unanswered clause K e

-- ---- the first clause that is broken

-- the clauses, in the order in which they are asked: of an effect, of an answer, and of a call
abbrev pub clauses : List Clause
clauses = EffectWithoutCall ∷ OtherRequest ∷ Unread ∷ OtherMemory ∷ StaleCopy ∷ Unchecked ∷ Torn ∷ OtherBase ∷ Ungranted ∷ Spent
    ∷ Again ∷ AfterAnswer ∷ AnswerWithoutCall ∷ OtherAnswer ∷ Uncaused ∷ DeniedOtherwise ∷ PassedOtherwise ∷ GrantedNotDone ∷ OtherOutcome
    ∷ AnsweredAlready ∷ Unanswered ∷ []

-- the first of them that is broken
abbrev pub first_broken : (Clause → Bool) → List Clause → Option Clause
first_broken broken [] = None
first_broken broken (clause ∷ more) = if broken clause then Some clause else first_broken broken more

-- after K, the first clause that the event breaks
abbrev pub broken_at : Policy → Script → List Event → Event → Option Clause
broken_at P S K e = first_broken (λ clause. breaks P S clause K e) clauses

-- with the place of the event
abbrev pub at_place : ℕ → Option Clause → Option (ℕ × Clause)
at_place place (Some clause) = Some (place, clause)
at_place place None = None

abbrev pub or_later : Option (ℕ × Clause) → Option (ℕ × Clause) → Option (ℕ × Clause)
or_later (Some found) later = Some found
or_later None later = later

-- the least event that breaks a clause, and the first such clause
unfoldable pub first_fault : Policy → Script → List Event → Option (ℕ × Clause)
first_fault P S [] = None
first_fault P S (e ∷ K) = or_later (first_fault P S K) (at_place (length K) (broken_at P S K e))

-- where the broker does nothing more by itself: a call that waits, whether it was received or not
abbrev pub left_waiting : List Event → Option ℕ
left_waiting K = oldest (λ c. listed K c && not (answered K c)) (length K)

-- ---- how grave it is

abbrev pub class_of : Clause → Class
class_of Unchecked = Order
class_of AnswerWithoutCall = Answer
class_of Uncaused = Answer
class_of DeniedOtherwise = Answer
class_of PassedOtherwise = Answer
class_of GrantedNotDone = Answer
class_of OtherOutcome = Answer
class_of AnsweredAlready = Answer
class_of Unanswered = Answer
class_of _ = Harm

abbrev pub graver : Class → Option Clause → Class
graver Order (Some clause) = class_of clause
graver class more = class

-- the clauses behind an effect's check
abbrev pub later_clauses : List Clause
later_clauses = Torn ∷ OtherBase ∷ Ungranted ∷ Spent ∷ Again ∷ AfterAnswer ∷ []

-- an effect that failed changed nothing
abbrev pub did_nothing : What → Bool
did_nothing (Act q cap (Err e)) = true
did_nothing (Plant addr bytes cap (Err e)) = true
did_nothing (AddfdPut asked (Err e)) = true
did_nothing _ = false

-- so it harms nobody, and breaks the order alone
abbrev pub lessened : Class → Bool → Class
lessened Harm true = Order
lessened class failed = class

-- the class of a clause that an event breaks: what breaks the order alone is as grave as what it breaks besides
abbrev pub class_at : Policy → Script → List Event → Event → Clause → Class
class_at P S K e clause =
    lessened (graver (class_of clause) (first_broken (λ later. breaks P S later K e) later_clauses)) (did_nothing e.what)

-- ---- all of it

-- no event breaks the clause
abbrev pub Keeps : Policy → Script → Clause → List Event → Type 0
Keeps P S clause K = Each (λ H e. breaks P S clause H e ≡ false) K

-- the broker can be trusted by this history: no clause is broken in it
pub record Trusted (P : Policy) (S : Script) (K : List Event) : Type 0 where
  -- of an effect: it is for the call that the seat has in hand, and what that call asks for
  pub effect_has_call : Keeps P S EffectWithoutCall K
  pub same_request : Keeps P S OtherRequest K
  -- on one copy of its arguments, read in the caller's memory while the call waited, and found valid afterwards
  pub read : Keeps P S Unread K
  pub own_memory : Keeps P S OtherMemory K
  pub read_in_time : Keeps P S StaleCopy K
  pub checked : Keeps P S Unchecked K
  pub untorn : Keeps P S Torn K
  -- from the caller's directory
  pub own_base : Keeps P S OtherBase K
  -- what the policy grants, as often as it may
  pub granted : Keeps P S Ungranted K
  pub within_times : Keeps P S Spent K
  -- once, and before the answer
  pub once : Keeps P S Again K
  pub before_answer : Keeps P S AfterAnswer K
  -- of an answer: it is for the call in hand
  pub answer_has_call : Keeps P S AnswerWithoutCall K
  pub own_answer : Keeps P S OtherAnswer K
  -- what the policy says of a copy that was found valid
  pub caused : Keeps P S Uncaused K
  pub denied : Keeps P S DeniedOtherwise K
  pub passed : Keeps P S PassedOtherwise K
  -- or what came of the effect
  pub done : Keeps P S GrantedNotDone K
  pub outcome : Keeps P S OtherOutcome K
  -- and the only one
  pub answered_once : Keeps P S AnsweredAlready K
  -- and no call is left waiting
  pub answered : Keeps P S Unanswered K
