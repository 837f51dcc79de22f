-- What was found is what is printed of the explored histories, or nothing was, for want of memory.
use Rattle.std.proofs.Common.{rules, ◌≡◌, true, Err, inl, refl}
use Rattle.delay_bounded.specs.Explored.{bound_of, explored}
use Rattle.explorer.specs.Printed.{told}
use Rattle.program_files.proofs.Printing.{ends_unplayed}
use Rattle.explore_words.proofs.Explored.{is_printed}
use Rattle.explore_words.specs.Explorations.{exploration_text}
use Rattle.program_files.specs.declared.status.Status.TheVariants.{NoMemory}
use Rattle.explore_words.proofs.exploring.print_explored.Goals as goal

pub returns-in_err-found : goal.returns-in_err-found
returns-in_err-found g c =
    let unexplored : c.from_residual.result ≡ Err NoMemory = search rules in
    let P = c.args.policy.now in
    let text = told P c.args.script c.args.workers c.args.delays (explored P c.args.script c.args.workers (bound_of c.args.delays)) true in
    rw unexplored (text, inl refl, ends_unplayed text (g.O.Sink.state c.args.out.now))

pub returns : goal.returns
returns g c =
    let P = c.args.policy.now in
    let found = c.in_ok-found.found in
    let all = explored P c.args.script c.args.workers (bound_of c.args.delays) in
    (exploration_text c.args.workers c.args.delays found, is_printed P c.args.script c.args.workers c.args.delays all found c.in_ok-found.ensures, c.print_exploration.ensures)
