use Rattle.std.proofs.Common.{◌≡◌, rules}
use Rattle.long_count.proofs.Values.{digits-fewer}
use Rattle.long_count.proofs.count.LongCount.text.Goals as goal

pub glyphs-requires : goal.glyphs-requires
glyphs-requires c =
    let same : c.deref.result.now ≡ c.self.inside.digits.items = search rules in
    rw same (digits-fewer c.self.inside.digits.items c.significant-count.result c.self.invariant)
