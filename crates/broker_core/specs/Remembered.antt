-- What a worker remembers of its session, against the session's own steps.
use Rattle.std.specs.Prelude.{◌≡◌, ℕ, Bool, true, false, List, [], reverse, Option, Some, None, Result, Ok, Err}
use Rattle.std.specs.Prelude.{◌⊎◌, ⊤, if◌then◌else◌, ◌==◌}
use Rattle.hist_model.specs.Kinds.{is_letgo, gives_up, opens, opens_base, checks, is_good_check}
use Rattle.hist_model.specs.Sessions.{any_of, number_of, first_some, notif_of, reads_of, outcome_in, put_in, take_in}
use Rattle.hist_model.specs.Copies.{Progress, Complete, Faulty, plan}
use Rattle.hist_model.specs.Legal.{copied, read_answers}
use Rattle.hist_model.specs.Requests.{request}
use Rattle.hist_model.specs.declared.event.What.{What}
use Rattle.hist_model.specs.declared.policy.Policy.{Policy}
use Rattle.hist_model.specs.declared.policy.Rule.{Rule}
use Rattle.hist_model.specs.declared.policy.Verdict.TheVariants.{Grant}
use Rattle.hist_model.specs.declared.request.Request.{Request}
use Rattle.arg_capture.specs.Captures.{Captured, continued, wanted, Follows, HasRoom, HasRoomForAny}
use Rattle.sys_abi.specs.declared.wire.Notif.{Notif}
use Rattle.broker_core.specs.Judged.{judgement_as}
use Rattle.broker_core.specs.declared.judgement.Judgement.{Judgement}
use Rattle.broker_core.specs.declared.session.Stage.{Stage}
use Rattle.broker_core.specs.declared.session.Stage.TheVariants.{Unchecked, Reading, Judged, Confirmed}
use Rattle.broker_core.specs.declared.session.Session.{Session}
use Rattle.broker_core.specs.declared.worker.Worker.{Worker}

-- the answers of the session's reads, the oldest first
abbrev pub answers_of : List What → List (Result (List ℕ) ℕ)
answers_of own = reverse (read_answers (reads_of own))

-- what was found is the judgement of a complete copy's request, or the fault of a copy
abbrev pub IsFound : List Rule → Bool → Notif → Progress → Result Judgement ℕ → Type 0
IsFound rules g n (Complete texts) (Ok j) = j ≡ judgement_as g rules (request n.call.nr n.call.args texts)
IsFound rules g n (Faulty e) (Err f) = f ≡ e
IsFound rules g n _ _ = ⊥

-- the session has come so far with the arguments that it has read; g says whether its request was granted
abbrev pub IsAtStage : List Rule → Bool → Notif → List What → Captured → Stage → Type 0
IsAtStage rules g n own c Unchecked = Follows (plan n.call.nr n.call.args) (answers_of own) c × (g ≡ false)
IsAtStage rules g n own c Reading = Follows (plan n.call.nr n.call.args) (answers_of own) c × (g ≡ false)
IsAtStage rules g n own c (Judged found) = IsFound rules g n (copied n (reads_of own)) found
IsAtStage rules g n own c (Confirmed found) = IsFound rules g n (copied n (reads_of own)) found

-- how many checks were good
abbrev pub good_checks : Stage → ℕ
good_checks Unchecked = 0
good_checks Reading = 1
good_checks (Judged found) = 1
good_checks (Confirmed found) = 2

-- what an event keeps of an act is its request, which was granted
abbrev pub IsEffect : Bool → Stage → Option Request → Type 0
IsEffect g stage None = ⊤
IsEffect g (Confirmed (Ok j)) (Some q) = (g ≡ true) × (q ≡ j.request)
IsEffect g _ (Some q) = ⊥

-- what is remembered of an open session
pub record Knows (rules : List Rule) (own : List What) (c : Captured) (s : Session) : Type 0 where
  pub notif : notif_of own ≡ Some s.notif
  pub stays : any_of is_letgo own ≡ false
  pub gave_up : any_of gives_up own ≡ s.gave_up
  pub opened : any_of opens own ≡ s.opened
  pub based : any_of opens_base own ≡ s.based
  pub good : number_of is_good_check own ≡ good_checks s.stage
  pub checks : s.gave_up ≡ false → number_of checks own ≡ good_checks s.stage
  pub outcome : first_some outcome_in own ≡ s.outcome
  pub put : first_some put_in own ≡ s.put
  pub take : first_some take_in own ≡ s.take
  pub stage : IsAtStage rules s.granted s.notif own c s.stage
  pub effect : IsEffect s.granted s.stage s.effect

-- no session is open: there was none, or the worker has let go
abbrev pub Idle : List What → Type 0
Idle own = (own ≡ []) ⊎ (any_of is_letgo own ≡ true)

abbrev pub KnowsIf : List Rule → List What → Captured → Option Session → Type 0
KnowsIf rules own c None = Idle own
KnowsIf rules own c (Some s) = Knows rules own c s

-- the worker remembers a session of these steps
abbrev pub Remembers : Policy → List What → Worker → Type 0
Remembers P own w = KnowsIf P.rules own w.capture w.session

-- ---- Room for an answer

-- while the arguments are read there is room for each piece, and once they are read they are judged
abbrev pub IsReadyAt : Captured → Stage → Type 0
IsReadyAt c Reading = HasRoom c.reached × (wanted (continued c []) ≡ None → ⊥)
IsReadyAt c _ = ⊤

-- without a session there is room for the copy of any call
abbrev pub IsReadyIf : Captured → Option Session → Type 0
IsReadyIf c None = HasRoomForAny c.reached
IsReadyIf c (Some s) = IsReadyAt c s.stage

-- the worker can take an answer to the deed that is due, without memory
abbrev pub IsReady : Worker → Type 0
IsReady w = IsReadyIf w.capture w.session

-- where an act is due its request is there, granted, for the event
abbrev pub IsReadyToAct : Session → Type 0
IsReadyToAct s =
    (j : Judgement) → s.stage ≡ Confirmed (Ok j) → j.verdict ≡ Grant → s.outcome ≡ None → (s.granted ≡ true) × (s.effect ≡ Some j.request)

-- ---- The request

abbrev pub effect_of : Option Session → Option Request
effect_of None = None
effect_of (Some s) = s.effect

-- the worker has the request of an act, for the event
abbrev pub HasEffect : Worker → Type 0
HasEffect w = effect_of w.session ≡ None → ⊥

abbrev pub is_granted_if : Option Session → Bool
is_granted_if None = false
is_granted_if (Some s) = s.granted

-- the request was made the one that the deciding rule grants
abbrev pub is_granted : Worker → Bool
is_granted w = is_granted_if w.session

-- the request of a copy without a fault
abbrev pub request_of_copy : List Rule → Bool → Notif → Progress → Option Request
request_of_copy rules g n (Complete texts) = let j = judgement_as g rules (request n.call.nr n.call.args texts) in Some j.request
request_of_copy rules g n _ = None

abbrev pub request_for : List Rule → Bool → List What → Option Notif → Option Request
request_for rules g own None = None
request_for rules g own (Some n) = request_of_copy rules g n (copied n (reads_of own))

-- the request that a session works on: from its second good check until it lets go, where its copy had no fault
abbrev pub request_of : List Rule → Bool → List What → Option Request
request_of rules g own =
    if any_of is_letgo own then None else (
    if number_of is_good_check own == 2 then request_for rules g own (notif_of own) else None)
