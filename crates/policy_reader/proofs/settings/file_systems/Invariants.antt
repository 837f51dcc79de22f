-- What is kept so far goes on with the items that are left.
use Rattle.std.proofs.Common.{◌≡◌, map, drop, option_map}
use Rattle.policy_reader.specs.NameSets.{HoldsNames}
use Rattle.policy_reader.specs.Settings.{each, file_system, file_systems, kept}
use Rattle.policy_reader.proofs.settings.file_systems.Given as goal

abbrev pub ghost-keep : goal.ghost-keep
ghost-keep a = λ name. name

abbrev pub invariant-loop-item : goal.invariant-loop-item
invariant-loop-item l = record {
  whole : option_map (kept (λ name. name) l.found.items) (each (file_system l.fn.profile) (map (λ item. item.now) (drop l.item-index l.item-items))) ≡ file_systems l.fn.profile l.text;
  held : HoldsNames (λ name. name) l.names l.found.items;
}
