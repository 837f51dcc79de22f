-- Calls that are passed, and would be denied if other bytes stood behind the same registers. The kernel reads the memory of a
-- passed call again, so such a denial keeps nobody out.
use Rattle.std.specs.Prelude.{◌≡◌, ℕ, Bool, true, false, ◌&&◌, List, [], length, map, Option, Some, None, slice_get}
use Rattle.std.specs.List.{list_any}
use Rattle.hist_model.specs.Decisions.{decide, plain_rule}
use Rattle.hist_model.specs.declared.policy.Calls.{Calls}
use Rattle.hist_model.specs.declared.policy.Calls.TheVariants.{Named}
use Rattle.hist_model.specs.declared.policy.Cond.{Cond}
use Rattle.hist_model.specs.declared.policy.Cond.TheVariants.{Path, Under, Kind, Dev, Fstype, Source, Name, Value}
use Rattle.hist_model.specs.declared.policy.Cond.TheVariants.{Dirfd, Flags, ShortDevice, PlainFlags}
use Rattle.hist_model.specs.declared.policy.Rule.{Rule}
use Rattle.hist_model.specs.declared.policy.Verdict.{Verdict}
use Rattle.hist_model.specs.declared.policy.Verdict.TheVariants.{Grant, Deny, Pass, Inject}
use Rattle.hist_model.specs.declared.request.Request.{Request}
use Rattle.hist_model.specs.declared.request.Request.TheVariants.{Mknod, Mount, SetXattr, OpenAt}
use Rattle.policy_classes.specs.Asked.{IsCall}
use Rattle.policy_classes.specs.declared.found.Class.{Class}

-- ---- the relation

-- one call with the same numbers in its registers; the length of an attribute's value is one of them. Its texts may differ
abbrev pub HaveSameRegisters : Request → Request → Type 0
HaveSameRegisters (Mknod None path mode dev) (Mknod None p m d) = (mode ≡ m) × (dev ≡ d)
HaveSameRegisters (Mknod (Some fd) path mode dev) (Mknod (Some f) p m d) = (fd ≡ f) × (mode ≡ m) × (dev ≡ d)
HaveSameRegisters (Mount source target fstype options via flags shift) (Mount s t y o v n b) = flags ≡ n
HaveSameRegisters (SetXattr path name value flags) (SetXattr p a u n) = (flags ≡ n) × (length value ≡ length u)
HaveSameRegisters (OpenAt dirfd path flags) (OpenAt d p n) = (dirfd ≡ d) × (flags ≡ n)
HaveSameRegisters _ _ = ⊥

abbrev pub passes : Verdict → Bool
passes Grant = false
passes (Deny error) = false
passes Pass = true
passes (Inject src at) = false

abbrev pub denies : Verdict → Bool
denies Grant = false
denies (Deny error) = true
denies Pass = false
denies (Inject src at) = false

-- a rule decides the call, with such a verdict
abbrev pub IsDecided : (Verdict → Bool) → List Rule → Request → ℕ → Type 0
IsDecided test rules q place = ((decide rules q).0 ≡ place) × (test (decide rules q).1 ≡ true)

-- a container can make both calls, of which the second one differs in its texts alone: the first rule passes the first one, and the
-- second rule denies the other
pub record IsOpen (rules : List Rule) (call : Request) (by : ℕ) (other : Request) (against : ℕ) : Type 0 where
  pub call_made : IsCall call
  pub other_made : IsCall other
  pub registers : HaveSameRegisters call other
  pub passed : IsDecided passes rules call by
  pub denied : IsDecided denies rules other against

-- the rule passes a call of which other texts would be denied
abbrev pub PassesByMemory : List Rule → ℕ → Type 0
PassesByMemory rules by =
    (call : Request) × (other : Request) × (against : ℕ) × IsOpen rules call by other against

-- ---- how it is found: by rules that deny whatever is denied for some texts

-- the condition looks at a text
abbrev pub is_on_text : Cond → Bool
is_on_text (Path text) = true
is_on_text (Under dir) = true
is_on_text (Kind kind) = false
is_on_text (Dev major minor) = false
is_on_text (Fstype text) = true
is_on_text (Source text) = true
is_on_text (Name text) = true
is_on_text (Value text) = true
is_on_text (Dirfd number) = false
is_on_text (Flags all none) = false
is_on_text ShortDevice = false
is_on_text PlainFlags = false

-- what is left of a condition if the texts may be any
abbrev pub cond_of_any_text : Cond → Cond
cond_of_any_text (Path text) = Flags [] []
cond_of_any_text (Under dir) = Flags [] []
cond_of_any_text (Kind kind) = Kind kind
cond_of_any_text (Dev major minor) = Dev major minor
cond_of_any_text (Fstype text) = Flags [] []
cond_of_any_text (Source text) = Flags [] []
cond_of_any_text (Name text) = Flags [] []
cond_of_any_text (Value text) = Flags [] []
cond_of_any_text (Dirfd number) = Dirfd number
cond_of_any_text (Flags all none) = Flags all none
cond_of_any_text ShortDevice = ShortDevice
cond_of_any_text PlainFlags = PlainFlags

-- no calls, or these
abbrev pub calls_unless : Bool → Calls → Calls
calls_unless true calls = Named []
calls_unless false calls = calls

abbrev pub not_denies : Verdict → Bool
not_denies Grant = true
not_denies (Deny error) = false
not_denies Pass = true
not_denies (Inject src at) = true

-- the rule looks at texts, and doesn't deny: some texts don't meet it
abbrev pub may_be_missed : Rule → Bool
may_be_missed rule = list_any is_on_text rule.conds && not_denies rule.verdict

abbrev pub rule_of_any_text : Rule → Rule
rule_of_any_text rule =
    plain_rule [] (calls_unless (may_be_missed rule) rule.calls) (map cond_of_any_text rule.conds) rule.verdict

abbrev pub of_any_text : List Rule → List Rule
of_any_text rules = map rule_of_any_text rules

abbrev pub verdict_of : Option Rule → Verdict
verdict_of (Some rule) = rule.verdict
verdict_of None = Pass

-- what the rule at a place answers; past the end calls are passed
abbrev pub verdict_at : List Rule → ℕ → Verdict
verdict_at rules place = verdict_of (slice_get rules place)

-- a call of the class is passed, and may be denied for other texts
abbrev pub is_suspect : List Rule → List Rule → Class → Bool
is_suspect rules any c = passes (verdict_at rules c.old_place) && denies (verdict_at any c.new_place)
