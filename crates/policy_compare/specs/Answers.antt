-- What rules answer, and which of two answers grants more.
use Rattle.std.specs.Prelude.{ℕ, Bool, true, false, ◌&&◌, ◌==◌, List, [], Option, Some, None}
use Rattle.std.specs.Prelude.{bytes_eq, nat_eq, nat_lt, if◌then◌else◌}
use Rattle.std.specs.Bool.{beq}
use Rattle.std.specs.Option.{option_eq}
use Rattle.hist_model.specs.declared.policy.Rule.{Rule}
use Rattle.hist_model.specs.declared.policy.Verdict.{Verdict}
use Rattle.hist_model.specs.declared.policy.Verdict.TheVariants.{Grant, Deny, Pass, Inject}
use Rattle.policy_compare.specs.declared.answers.Way.{Way}
use Rattle.policy_compare.specs.declared.answers.Way.TheVariants.{Wider, Narrower, Other}

-- what a rule answers: its verdict and, for a grant, the program that serves the mount, whether owners are shifted, and how often
pub record Answer : Type 0 where
  pub verdict : Verdict
  pub via : List ℕ
  pub shift : Bool
  pub times : Option ℕ

-- where no rule decides, the call is passed
abbrev pub answer_of : Option Rule → Answer
answer_of (Some rule) = record { verdict = rule.verdict; via = rule.via; shift = rule.shift; times = rule.times }
answer_of None = record { verdict = Pass; via = []; shift = false; times = None }

-- ---- the same answer

abbrev pub verdict_eq : Verdict → Verdict → Bool
verdict_eq Grant Grant = true
verdict_eq (Deny error) (Deny other) = error == other
verdict_eq Pass Pass = true
verdict_eq (Inject src at) (Inject other place) = (src == other) && option_eq nat_eq at place
verdict_eq _ _ = false

-- the same, but for how often
abbrev pub is_same_once : Answer → Answer → Bool
is_same_once a b = verdict_eq a.verdict b.verdict && bytes_eq a.via b.via && beq a.shift b.shift

abbrev pub is_same : Answer → Answer → Bool
is_same a b = is_same_once a b && option_eq nat_eq a.times b.times

-- ---- which grants more

-- a denial grants less than a pass, and a pass less than a grant
abbrev pub rank : Verdict → ℕ
rank (Deny error) = 0
rank Pass = 1
rank Grant = 2
rank (Inject src at) = 2

-- the first is a limit, and the second is none or a greater one
abbrev pub is_fewer : Option ℕ → Option ℕ → Bool
is_fewer (Some m) (Some n) = nat_lt m n
is_fewer (Some m) None = true
is_fewer None n = false

-- the first answer grants less than the second
abbrev pub grants_less : Answer → Answer → Bool
grants_less a b = if nat_lt (rank a.verdict) (rank b.verdict) then true else (is_same_once a b && is_fewer a.times b.times)

abbrev pub way_of : Answer → Answer → Way
way_of old new = if grants_less old new then Wider else (if grants_less new old then Narrower else Other)
