use Rattle.std.proofs.Common.{◌≡◌, ℕ, ◌+◌, ◌*◌, ◌<◌, add-one, arith, get_or, length-append, refl, rules}
use Rattle.long_count.proofs.Values.{carried_on, digit-below, digits-more, summed}
use Rattle.long_count.proofs.digits.with_times.Goals as goal

pub loop-place-preserved : goal.loop-place-preserved
loop-place-preserved c =
    let i = c.loop-place.place in
    let a : c.from-in-loop-place-2.result ≡ get_or c.args.one.now i 0 = search rules in
    let b : c.from.result ≡ get_or c.args.other.now i 0 = search rules in
    let t : c.from-in-loop-place.result ≡ c.args.times = search rules in
    let l : get_or c.args.one.now i 0 < 10 = digit-below c.args.one.now i c.requires.one in
    let m : get_or c.args.other.now i 0 < 10 = digit-below c.args.other.now i c.requires.other in
    record {
      digits = rw c.in_ok-push.ensures.items (digits-more c.loop-place.sum.items _ c.loop-place.invariant.digits (omega arith));
      len = rw c.in_ok-push.ensures.items (omega (arith, length-append {A = ℕ}, c.loop-place.invariant.len));
      carried = rw (a, b, t) (carried_on c.loop-place.carry (get_or c.args.one.now i 0) (get_or c.args.other.now i 0) c.args.times c.loop-place.invariant.carried l m);
      is = rw add-one (summed c.args.one.now c.args.other.now c.loop-place.sum.items c.push.new.self.items i c.loop-place.carry c.args.times
          (c.loop-place.carry + c.from-in-loop-place-2.result + c.from.result * c.from-in-loop-place.result) c.loop-place.invariant.len
          (rw (a, b, t) refl) c.in_ok-push.ensures.items c.loop-place.invariant.is);
    }
