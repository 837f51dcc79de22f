use Rattle.std.proofs.Common.{◌+◌, ◌-◌, ◌*◌, arith}
use Rattle.task_groups.specs.Pages.{byte_in}
use Rattle.task_groups.proofs.Shares.{from-more, from-none}
use Rattle.task_groups.proofs.pages.Pages.append.Goals as goal

pub loop-rest-init : goal.loop-rest-init
loop-rest-init c = record {
  most = omega arith;
  within = omega arith;
  at = λ l. omega arith;
  low = omega arith;
  room = c.requires;
  kept = omega arith;
  done = λ rise. from-none (byte_in c.args.self.now c.args.list.now) c.args.out.now.items c.args.addr c.args.count;
}

pub loop-rest-preserved : goal.loop-rest-preserved
loop-rest-preserved c =
    let I = c.loop-rest.invariant in
    let at = I.at c.loop-rest-test.true in
    record {
      most = omega (arith, I.most);
      within = omega arith;
      at = λ l. omega (arith, at, I.most, I.within, c.min-piece.ensures);
      low = omega (arith, at, I.most);
      room = omega (arith, I.room, c.append_piece.ensures.len, c.append_piece.ensures.capacity, c.min-piece.ensures);
      kept = omega (arith, I.kept, c.append_piece.ensures.capacity);
      done = λ rise. from-more (byte_in c.args.self.now c.args.list.now) _ _ _ c.args.addr (4096 * c.loop-rest.number + c.loop-rest.offset) (c.args.count - c.loop-rest.rest) c.min-piece.result _
          (I.done rise) (c.append_piece.ensures.items rise) at (omega (arith, I.most, c.min-piece.ensures));
    }
