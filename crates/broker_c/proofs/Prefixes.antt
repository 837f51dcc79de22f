-- Prefixes of a text that a sink took from the start.
-- By the whole length of the text.
use Rattle.std.proofs.Common.{◌≡◌, ℕ, List, [], length, ◌∙◌, sym, arith}
use Rattle.std.proofs.lemmas.List.{take_all}
use Rattle.io_edge.specs.SinkState.{AddsPrefix}

-- the whole text is a prefix of it
pub adds_whole : (text taken : List ℕ) → taken ≡ text → AddsPrefix [] text taken
adds_whole text taken is = (length text, omega arith, is ∙ sym (take_all (length text) text (omega arith)))
