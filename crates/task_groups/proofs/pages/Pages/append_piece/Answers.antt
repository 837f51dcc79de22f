use Rattle.std.proofs.Common.{◌≡◌, ℕ, ◌+◌, ◌-◌, ◌*◌, ◌<◌, List, ◌++◌, length, Option, ap, sym, ◌∙◌, append_assoc, arith, length-append}
use Rattle.std.proofs.lemmas.List.{length-replicate}
use Rattle.std.specs.Prelude.{slice_index, replicate}
use Rattle.task_groups.specs.Pages.{byte_in, bytes_at_some}
use Rattle.task_groups.proofs.PageBytes.{zeros_behind}
use Rattle.task_groups.proofs.Shares.{byte-of-page, from-list}
use Rattle.task_groups.proofs.pages.Pages.append_piece.Goals as goal

pub returns-clause-items : goal.returns-clause-items
returns-clause-items c rise =
    let P = c.args.self.now in
    let xs = c.args.list.now in
    let at = 4096 * c.args.number + c.args.offset in
    let part = c.part-written.result.now in
    let zeros = replicate {A = ℕ} (c.args.count - length part) 0 in
    let page = c.bytes.ensures.bytes ∙ ap (λ (o : Option ℕ). bytes_at_some P o) (c.slot_of.ensures rise) in
    let len : length (part ++ zeros) ≡ c.args.count = omega (arith, length-append part zeros, length-replicate {A = ℕ} (c.args.count - length part) 0, c.part-written.ensures.most) in
    let bytes = from-list (byte_in P xs) (part ++ zeros) at
    (λ i l. let m : i < c.args.count = omega (arith, len) in
    byte-of-page P xs c.args.number c.args.offset i (omega (arith, c.requires.within))
    ∙ sym (zeros_behind part (c.args.count - length part) i ∙ c.part-written.ensures.bytes i m ∙ ap (λ (ys : List ℕ). slice_index ys (c.args.offset + i)) page)) in
    rw (c.append_zeros.ensures.items, c.in-Ok.ensures.items, append_assoc) (ap (λ (ys : List ℕ). c.args.out.now.items ++ ys) (sym (rw len at bytes)))
