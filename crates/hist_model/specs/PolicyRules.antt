-- What every policy keeps.
use Rattle.std.specs.Prelude.{◌<◌, ◌≤◌, ◌^◌, ◌≡◌, ◌&&◌, ℕ, Bool, true, false, List, [], length, All}
use Rattle.std.specs.List.{list_any, list_all}
use Rattle.hist_model.specs.Decisions.{Switches, all_rules}
use Rattle.hist_model.specs.Records.{PolicyRecord}
use Rattle.hist_model.specs.RuleParts.{are_own_calls, each_call, grants_mount, is_answer, is_condition, is_for, is_plain_flags}
use Rattle.hist_model.specs.RuleParts.{is_rule_name, is_short_name, may_answer, may_be_limited, named_once}
use Rattle.hist_model.specs.declared.policy.Profile.{Profile}
use Rattle.hist_model.specs.declared.policy.Profile.TheVariants.{Plain, Lxd}
use Rattle.hist_model.specs.declared.policy.Rule.{Rule}

-- a rule that a policy states of its own
pub record IsOwnRule (rule : Rule) : Type 0 where
  -- its name has 1 to 64 bytes, and is none that the switches' rules and the defaults have
  pub name : is_rule_name rule.name ≡ true
  -- it is for one call or more, each of which has a name
  pub calls : are_own_calls rule.calls ≡ true
  -- each of its calls may be answered so
  pub granted : each_call (may_answer rule.verdict) rule.calls ≡ true
  -- it denies with an error that has a name, and gives files by numbers of 32 bits
  pub answer : is_answer rule.verdict ≡ true
  -- its kinds are kinds of nodes, its devices have 12 and 20 bits, its directories don't end with a slash
  pub conditions : list_all is_condition rule.conds ≡ true
  -- each of its conditions is for each of its calls
  pub fitting : list_all (λ c. each_call (is_for c) rule.calls) rule.conds ≡ true
  -- where it grants mounts, and only there, they neither remount, bind nor move
  pub plain : list_any is_plain_flags rule.conds ≡ grants_mount rule.calls rule.verdict
  -- only a grant is limited, to 1 time at least
  pub times : may_be_limited rule.verdict rule.times ≡ true
  -- no program serves its mounts, and their owners aren't shifted
  pub via : rule.via ≡ []
  pub shift : rule.shift ≡ false

-- the rules that a policy states of its own
pub record AreOwnRules (own : List Rule) : Type 0 where
  pub number : length own ≤ 1024
  pub rules : All IsOwnRule own
  -- a name is used once
  pub names : named_once (λ (rule : Rule). rule.name) own ≡ true

-- a name of 1 to 32 bytes, which LXD asks of no type and no program
abbrev pub is_name_in : Profile → List ℕ → Bool
is_name_in Plain name = is_short_name name
is_name_in Lxd name = true

-- the switches of the configuration: what its lists name, and each names a file system once
pub record AreSwitches (s : Switches) : Type 0 where
  pub allowed : list_all (is_name_in s.profile) s.allowed ≡ true
  pub allowed_once : named_once (λ name. name) s.allowed ≡ true
  pub fuse : list_all (λ pair. is_name_in s.profile pair.0 && is_name_in s.profile pair.1) s.fuse ≡ true
  pub fuse_once : named_once (λ pair. pair.0) s.fuse ≡ true

pub record IsPolicy (P : PolicyRecord) : Type 0 where
  -- a policy states rules of its own, and its switches are on or off
  pub own : List Rule
  pub switches : Switches
  pub stated : AreOwnRules own
  pub switched : AreSwitches switches
  -- its own rules are tried first, then those that the switches make, and last the defaults
  pub order : P.rules ≡ all_rules own switches
  -- a rule's place fits into 32 bits
  pub number : length P.rules < 2 ^ 32
