use Rattle.std.proofs.Common.{◌≡◌, ◌++◌, length, ap, ◌∙◌, arith}
use Rattle.std.proofs.Math.Seq.{take-length}
use Rattle.judge_pass.proofs.Copied.{copied-made, copies, with-copied}
use Rattle.judge_pass.proofs.directories.Directories.copy_group.Goals as goal

pub returns-clause-rows : goal.returns-clause-rows
returns-clause-rows c g n =
    let old = c.args.self.now.rows.items in
    let whole : c.loop-place.place ≡ length old = omega arith in
    let all : c.loop-place.self.rows.items ≡ old ++ copies c.args.from c.args.to old =
    c.loop-place.invariant ∙ ap (λ rows. old ++ copies c.args.from c.args.to rows) (rw whole (take-length old)) in
    rw all (with-copied c.args.from c.args.to old g n c.requires.from c.requires.made)

pub returns-clause-made : goal.returns-clause-made
returns-clause-made c =
    let old = c.args.self.now.rows.items in
    let whole : c.loop-place.place ≡ length old = omega arith in
    let all : c.loop-place.self.rows.items ≡ old ++ copies c.args.from c.args.to old =
    c.loop-place.invariant ∙ ap (λ rows. old ++ copies c.args.from c.args.to rows) (rw whole (take-length old)) in
    rw all (copied-made c.args.from c.args.to old c.requires.from c.requires.made)
