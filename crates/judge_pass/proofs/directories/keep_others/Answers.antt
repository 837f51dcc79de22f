use Rattle.std.proofs.Common.{rules}
use Rattle.std.specs.Prelude.{not}
use Rattle.std.proofs.lemmas.Fn.{filter_same}
use Rattle.judge_pass.specs.Tables.{is_row}
use Rattle.judge_pass.proofs.directories.keep_others.Goals as goal

pub returns : goal.returns
returns c = filter_same _ (λ row. not (is_row c.args.group c.args.number row)) _ (λ x b f t. search rules) _ _ c.retain.ensures.filtered
