use Rattle.std.proofs.Common.{refl, arith}
use Rattle.explorer.proofs.ByDelays.{placed}
use Rattle.explorer.proofs.by_delays.ByDelays.ready.Goals as goal

pub places-preserved : goal.places-preserved
places-preserved c =
    let i = c.places.invariant in
    record {
      bound_is = i.bound_is;
      events_are = i.events_are;
      tells = λ P S ws t. placed P S ws c.places.self (i.tells P S ws t) c.none.result (c.none.ensures P S) (omega (arith, c.len.ensures, i.bound_is)) _ refl refl c.in_ok-push.ensures.items;
    }
