use Rattle.std.proofs.Common.{◌≡◌, ◌+◌, ◌-◌, ◌*◌, ◌<◌, ◌≤◌, length, take, arith, sym, ◌∙◌}
use Rattle.std.proofs.lemmas.Bool.{eqb-true, eqb-false}
use Rattle.std.proofs.lemmas.List.{take_all}
use Rattle.task_groups.specs.Pages.{pages_touched}
use Rattle.task_groups.proofs.Shares.{store-next, rest-next, stored-list, fewer-pages, touched-less}
use Rattle.task_groups.proofs.pages.Pages.store.Goals as goal

pub loop-rest-preserved : goal.loop-rest-preserved
loop-rest-preserved c =
    let I = c.loop-rest.invariant in
    let v = c.args.bytes.now in
    let rest = c.loop-rest.rest.now in
    let back = c.split_at.result.1.now in
    let some : 0 < length rest = omega (arith, eqb-false (length rest) 0 (sym c.is_empty.ensures ∙ c.loop-rest-test.true)) in
    let at = I.at some in
    let less = touched-less c.loop-rest.offset (length rest) c.min.result I.within some c.min.ensures in
    let e : length back ≡ length rest - c.min.result = omega (arith, c.split_at.ensures.back_len) in
    let touched : pages_touched 0 (length back) + 1 ≤ pages_touched c.loop-rest.offset (length rest) = rw e less in
    record {
      most = omega (arith, I.most, e);
      rest = rest-next v rest back c.min.result I.most I.rest c.split_at.ensures.back c.split_at.ensures.back_len;
      within = omega arith;
      at = λ l. omega (arith, at, I.most, I.within, c.min.ensures, e);
      low = omega (arith, at, I.most, e);
      pages = c.store_piece.ensures.pages (pages_touched 0 (length back)) (fewer-pages c.loop-rest.self _ _ touched I.pages);
      entries = c.store_piece.ensures.entries (pages_touched 0 (length back)) (omega (arith, touched, I.entries));
      done = λ r l.
          let s = I.done r l in
          store-next c.args.self.now c.loop-rest.self c.store_piece.new.self c.args.list.now.items c.loop-rest.list.items c.store_piece.new.list.items
          c.args.addr (4096 * c.loop-rest.number + c.loop-rest.offset) c.min.result v rest c.split_at.result.0.now back I.most I.rest c.split_at.ensures.front c.split_at.ensures.back_len at s
          (c.store_piece.ensures.stored s.store (stored-list c.args.self.now c.loop-rest.self c.args.list.now.items c.loop-rest.list.items c.args.addr _ l s));
    }

pub returns : goal.returns
returns c r l =
    let none : length c.loop-rest.rest.now ≡ 0 = eqb-true (length c.loop-rest.rest.now) 0 (sym c.is_empty.ensures ∙ c.loop-rest-test.false) in
    let whole : take (length c.args.bytes.now - length c.loop-rest.rest.now) c.args.bytes.now ≡ c.args.bytes.now = take_all _ c.args.bytes.now (omega (arith, none)) in
    rw whole at (c.loop-rest.invariant.done r l)
