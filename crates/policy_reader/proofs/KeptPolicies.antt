-- The policy that is read keeps what every policy keeps.
-- By cases on the keys of its top object, with what its rules and its switches keep.
use Rattle.std.proofs.Common.{◌≡◌, ◌<◌, ◌^◌, ℕ, List, length, Option, Some, None, Ok, IfOk, refl, subst, arith}
use Rattle.std.proofs.lemmas.List.Elements.{All-nil}
use Rattle.hist_model.specs.Decisions.{all_rules}
use Rattle.hist_model.specs.PolicyRules.{AreOwnRules, AreSwitches, IsOwnRule, IsPolicy}
use Rattle.hist_model.specs.declared.policy.Rule.{Rule}
use Rattle.serde_json.specs.Data.{Data, Members}
use Rattle.policy_reader.specs.declared.policies.Parts.{Parts}
use Rattle.policy_reader.specs.declared.policies.TopKey.{TopKey}
use Rattle.policy_reader.specs.declared.policies.TopKey.TheVariants as key
use Rattle.policy_reader.specs.declared.rules.Format.{Format}
use Rattle.policy_reader.specs.Kept.{AreParts}
use Rattle.policy_reader.specs.Policies.{no_parts, part_at, top_keys, top_member}
use Rattle.policy_reader.specs.Readings.{named, walk}
use Rattle.policy_reader.specs.Rules.{rules_of}
use Rattle.policy_reader.specs.Settings.{config_of}
use Rattle.policy_reader.proofs.Keeping.{next_keeps, walk_keeps}
use Rattle.policy_reader.proofs.KeptRules.{rules_kept}
use Rattle.policy_reader.proofs.KeptSettings.{config_kept}

part_kept : (format : Format) (found : Option TopKey) (name : List ℕ) (d : Data) (p : Parts) → AreParts p → IfOk (part_at format found name d p) AreParts
part_kept format None name d p h = tt
part_kept format (Some key.Config) name d p h = next_keeps AreSwitches AreParts (config_of format.profile d) (λ settings. Ok (record p { settings = settings })) (config_kept format.profile d) (λ settings k. record { own = h.own; settings = k })
part_kept format (Some key.Rules) name d p h = next_keeps AreOwnRules AreParts (rules_of format d) (λ own. Ok (record p { own = own })) (rules_kept format d) (λ own k. record { own = k; settings = h.settings })
part_kept format (Some key.Profile) name d p h = h
part_kept format (Some key.Version) name d p h = h

-- what the members of the top object say
walked : (format : Format) (ms : Members) → IfOk (walk (top_member format) ms (no_parts format.profile)) AreParts
walked format ms = walk_keeps AreParts (top_member format) (λ name d p h. part_kept format (named top_keys name) name d p h) ms (no_parts format.profile)
    (record { own = record { number = omega arith; rules = All-nil IsOwnRule; names = refl }; settings = record { allowed = refl; allowed_once = refl; fuse = refl; fuse_once = refl } })

pub parts_kept : (format : Format) (ms : Members) (parts : Parts) → walk (top_member format) ms (no_parts format.profile) ≡ Ok parts → AreParts parts
parts_kept format ms parts e = subst (λ r. IfOk r AreParts) e (walked format ms)

-- few rules of such parts
pub policy_kept : (parts : Parts) (rules : List Rule) → AreParts parts → rules ≡ all_rules parts.own parts.settings → length rules < 2 ^ 32 → IsPolicy (record { rules = rules })
policy_kept parts rules h e few = record { own = parts.own; switches = parts.settings; stated = h.own; switched = h.settings; order = e; number = few }
