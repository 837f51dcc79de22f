use Rattle.std.proofs.Common.{rules, ◌≡◌, ◌∙◌, sym, arith, w32, to_z, of_z}
use Rattle.hist_model.specs.Copies.{plan}
use Rattle.native_calls.proofs.Peeks.{has-none, has-all, has-copy}
use Rattle.native_calls.proofs.copies.copy_arguments.Goals as goal
use Rattle.native_calls.proofs.copies.copy_arguments.Goals.{else-loop-test, then-loop-test+in_default}

pub loop-init : goal.loop-init
loop-init c =
    let parts : c.of.result ≡ plan (to_z w32 (of_z w32 c.args.nr)) c.args.args.now = c.of.ensures.parts in
    has-none c.args.groups.now c.args.group (to_z w32 (of_z w32 c.args.nr)) c.args.args.now c.start.new.self (rw (← parts) c.start.ensures.follows)

pub take_copy-requires : goal.take_copy-requires
take_copy-requires c =
    let parts : c.of.result ≡ plan (to_z w32 (of_z w32 c.args.nr)) c.args.args.now = c.of.ensures.parts in
    elim c.loop-test.branch [
      | else-loop-test w ↦ let n : c.loop.counter ≡ 16384 = omega (arith, w.loop-test.false) in
          has-all c.args.groups.now c.args.group (to_z w32 (of_z w32 c.args.nr)) c.args.args.now c.loop.capture (rw (← parts) c.of.ensures.placed) (rw n at c.loop.invariant)
      | then-loop-test+in_default w ↦ sym w.next.ensures.piece ∙ w.in_default.is
    ]

pub returns : goal.returns
returns c =
    let number : to_z w32 (of_z w32 c.args.nr) ≡ c.args.nr = search rules in
    let parts : c.of.result ≡ plan c.args.nr c.args.args.now = rw number at c.of.ensures.parts in
    has-copy c.args.groups.now c.args.group c.args.nr c.args.args.now c.loop.counter c.loop.capture c.take_copy.result (rw (← parts) c.of.ensures.placed)
    (rw number at c.loop.invariant) c.take_copy.ensures.follows
