-- What the members so far say goes on with those that are left.
use Rattle.std.proofs.Common.{◌≡◌}
use Rattle.policy_reader.specs.Readings.{walk}
use Rattle.policy_reader.specs.Settings.{all_off, config_member}
use Rattle.serde_json.specs.View.{members_view}
use Rattle.policy_reader.proofs.settings.read_config.Given as goal

abbrev pub invariant-loop-key : goal.invariant-loop-key
invariant-loop-key l = walk config_member (members_view l.key-iterator) l.settings ≡ walk config_member (members_view l.initial.key-iterator) (all_off l.fn.profile)
