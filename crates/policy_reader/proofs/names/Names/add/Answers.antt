-- The keys gained the name's.
use Rattle.std.proofs.Common.{◌||◌, ◌∙◌, ap, bytes_eq, nat_cmp, is_eq}
use Rattle.std.specs.Cmp.Lexicographic.{slice_cmp}
use Rattle.std.specs.List.{list_any}
use Rattle.policy_reader.specs.NameSets.{holds}
use Rattle.policy_reader.proofs.NameSets.{added}
use Rattle.policy_reader.proofs.names.Names.add.Goals as goal

pub returns : goal.returns
returns c = λ q.
    ap (list_any (λ x. is_eq (slice_cmp nat_cmp q x.items))) c.in_ok-insert.ensures.keys
    ∙ added q c.args.self.now.set.keys c.in_ok-key.key
    ∙ ap (λ items. bytes_eq items q || holds c.args.self.now q) c.in_ok-key.ensures.items
