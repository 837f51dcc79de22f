-- What is kept so far goes on with the items that are left.
use Rattle.std.proofs.Common.{◌≡◌, map, drop, option_map}
use Rattle.policy_reader.specs.NameSets.{HoldsNames}
use Rattle.policy_reader.specs.Settings.{each, fuse_pair, fuse_pairs, kept}
use Rattle.policy_reader.proofs.settings.fuse_pairs.Given as goal

abbrev pub ghost-keep : goal.ghost-keep
ghost-keep a = λ pair. pair.0

abbrev pub invariant-loop-item : goal.invariant-loop-item
invariant-loop-item l = record {
  whole : option_map (kept (λ pair. pair.0) l.found.items) (each (fuse_pair l.fn.profile) (map (λ item. item.now) (drop l.item-index l.item-items))) ≡ fuse_pairs l.fn.profile l.text;
  held : HoldsNames (λ pair. pair.0) l.names l.found.items;
}
