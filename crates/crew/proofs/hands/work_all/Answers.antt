use Rattle.std.proofs.Common.{◌≡◌, ◌<◌, ◌++◌, ℕ, All, arith, drop, length, subst, sym, take}
use Rattle.std.proofs.Math.Seq.{take-append_seam}
use Rattle.crew.proofs.Passes.{each-is}
use Rattle.crew.specs.Locks.{Admits, AreOf}
use Rattle.crew.specs.declared.hands.Hand.{Hand}
use Rattle.crew.proofs.hands.work_all.Goals as goal

pub work_beside-requires-clause-calling : goal.work_beside-requires-clause-calling
work_beside-requires-clause-calling g c κs within = λ p is.
    let ls = c.args.locks.now.items in
    let ready = subst (λ (h : Hand). AreOf ls h.passes.items × All (Admits h.turn.errand.worker) ls) (sym is) c.requires.calling in
    (ready.0, ready.1, c.requires.count)

pub work_beside-requires-clause-others : goal.work_beside-requires-clause-others
work_beside-requires-clause-others g c κs within = λ i p lt is.
    let ls = c.args.locks.now.items in
    let ready = each-is (λ (h : Hand). AreOf ls h.passes.items × All (Admits h.turn.errand.worker) ls) c.args.others.now.items c.as_mut_slice.result.now c.requires.others c.as_mut_slice.ensures.value i p.now lt is in
    (ready.0, ready.1, c.requires.count)

pub returns-clause-others : goal.returns-clause-others
returns-clause-others g c =
    let ls = c.args.locks.now.items in
    let left = c.work_beside.new.others in
    let rest = drop (length left) c.args.others.now.items in
    let each : All (λ (h : Hand). AreOf ls h.passes.items) left = λ k d lt.
    let before : k < length c.as_mut_slice.result.now = omega (arith, lt, c.work_beside.auto.others) in
    let at = (c.work_beside.ensures.others.each k d before).1 in
    subst (λ (h : Hand). AreOf ls h.passes.items) at.left at.call in
    let number : c.args.others.now.len ≡ length left = omega (arith, c.work_beside.auto.others, c.as_mut_slice.ensures.len) in
    let whole : take c.args.others.now.len (left ++ rest) ≡ left = subst (λ (n : ℕ). take n (left ++ rest) ≡ left) (sym number) (take-append_seam left rest) in
    subst (All (λ (h : Hand). AreOf ls h.passes.items)) (sym whole) each
