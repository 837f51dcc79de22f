-- What the members so far state goes on with those that are left.
use Rattle.std.proofs.Common.{◌≡◌}
use Rattle.policy_reader.specs.Flags.{flags_member, no_flags}
use Rattle.policy_reader.specs.Readings.{walk}
use Rattle.serde_json.specs.View.{members_view}
use Rattle.policy_reader.proofs.flags.read_lists.Given as goal

abbrev pub invariant-loop-name : goal.invariant-loop-name
invariant-loop-name l = walk (flags_member l.rule) (members_view l.name-iterator) l.lists ≡ walk (flags_member l.rule) (members_view l.initial.name-iterator) no_flags
