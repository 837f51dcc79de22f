-- The operands of mknodat are a descriptor and those of mknod.
-- By cases on the tokens.
use Rattle.std.proofs.Common.{◌≡◌, ◌-◌, ◌≤◌, List, [], ◌∷◌, length, take, drop, get_or, Result, Ok, Some, ℤ, arith}
use Rattle.std.proofs.lemmas.Grind.{common_steps}
use Rattle.lex_core.specs.declared.line.Token.{Token}
use Rattle.lex_core.specs.declared.reason.Reason.{Reason}
use Rattle.hist_model.specs.declared.request.Request.{Request}
use Rattle.sys_abi.specs.declared.memory.OrNoMemory.{OrNoMemory}
use Rattle.call_lines.specs.Operands.{descriptor}
use Rattle.call_lines.specs.Readings.{Gives}
use Rattle.call_lines.specs.Requests.{mknod, mknodat}

rest_whole : (ts : List Token) → take (length ts - 1) (drop 1 ts) ≡ drop 1 ts
rest_whole ts = grind (arith, common_steps)

pub descriptor_first : (ts : List Token) (token : Token) (fd : ℤ) (result : Result Request (OrNoMemory Reason)) → 1 ≤ length ts → token ≡ get_or ts 0 token
    → descriptor token ≡ Ok fd → Gives result (mknod (Some fd) (take (length ts - 1) (drop 1 ts))) → Gives result (mknodat ts)
descriptor_first [] token fd result l i d m = absurd (omega arith)
descriptor_first (t ∷ ts) token fd result l i d m =
    let whole = rw (rest_whole (t ∷ ts)) at m in
    rw (rw i at d) whole
