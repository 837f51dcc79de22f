-- What a token's bytes are, whether they stand in the line or in memory of their own.
use Rattle.std.specs.Prelude.{ℕ, List}
use Rattle.lex_core.specs.declared.line.Stored.{Stored}
use Rattle.lex_core.specs.declared.line.Stored.TheVariants.{InLine, Own}

abbrev pub bytes_in : Stored → List ℕ
bytes_in (InLine bytes) = bytes.now
bytes_in (Own bytes) = bytes.items
