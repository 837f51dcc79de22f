use Rattle.std.proofs.Common.{refl}
use Rattle.hist_model.specs.Legal.{started}
use Rattle.lane_gate.proofs.KeptLanes.{start_is_free, start_is_laned}
use Rattle.lane_gate.proofs.served.LaneServed.new.Goals as goal

pub invariant_of-result : goal.invariant_of-result
invariant_of-result c =
    let told = c.in_ok-served.ensures in
    record {
      limit = rw told.setup refl;
      laned = rw told.events (start_is_laned c.args.script);
      stands = rw told.events (c.new-seats.ensures (started c.args.script) (start_is_free c.args.script));
    }
