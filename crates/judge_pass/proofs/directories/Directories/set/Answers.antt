use Rattle.std.proofs.Common.{◌<◌}
use Rattle.std.proofs.lemmas.List.Elements.{All-append, All-filter}
use Rattle.judge_pass.specs.declared.directories.OpenDirectory.{OpenDirectory}
use Rattle.judge_pass.proofs.Copied.{one-made, set-none, set-some}
use Rattle.judge_pass.proofs.directories.Directories.set.Goals as goal

pub returns-in_ok-push-clause-rows : goal.returns-in_ok-push-clause-rows
returns-in_ok-push-clause-rows c g n =
    rw (c.in_ok-push.ensures.items, c.in-Some.is)
    (set-some c.in-Some.node c.args.group c.args.number _ c.args.self.now.rows.items g n
    (rw c.keep_others.ensures (set-none c.args.group c.args.number c.args.self.now.rows.items g n)))

pub returns-in_ok-push-clause-made : goal.returns-in_ok-push-clause-made
returns-in_ok-push-clause-made c groups l made =
    rw (c.in_ok-push.ensures.items, c.keep_others.ensures)
    (All-append (λ (r : OpenDirectory). r.group < groups) _ _ (All-filter _ (λ (r : OpenDirectory). r.group < groups) c.args.self.now.rows.items made)
    (one-made groups c.args.group c.in-Some.node c.args.number l))

pub returns-in_default-clause-rows : goal.returns-in_default-clause-rows
returns-in_default-clause-rows c g n =
    rw (c.keep_others.ensures, c.in_default.is) (set-none c.args.group c.args.number c.args.self.now.rows.items g n)

pub returns-in_default-clause-made : goal.returns-in_default-clause-made
returns-in_default-clause-made c groups l made =
    rw c.keep_others.ensures (All-filter _ (λ (r : OpenDirectory). r.group < groups) c.args.self.now.rows.items made)
