-- Worked examples of what is read of a line, computed by the definition: where two tokens touch, and where a byte begins none.
-- By computing, with `tokens` unfolded.
use Rattle.std.proofs.Common.{◌≡◌, [], ◌∷◌, Ok, Err, refl}
use Rattle.std.specs.Prelude.{codes}
use Rattle.lex_core.specs.Lexical.{tokens}
use Rattle.lex_core.specs.declared.line.Token.TheVariants.{Bare, Quoted}
use Rattle.lex_core.specs.declared.reason.Reason.TheVariants.{BadByte, BadQuote}

-- a blank stands between them
apart : tokens (codes "b \"a\"\t\"\"") ≡ Ok (Bare (codes "b") ∷ Quoted (codes "a") ∷ Quoted [] ∷ [])
unfolding tokens
apart = refl

-- a quote begins a token as well as a byte of a bare one does, also a token that isn't closed
touching_tokens :
    tokens (codes "\"a\"b") ∷ tokens (codes "b\"a\"") ∷ tokens (codes "\"a\"\"b\"") ∷ tokens (codes "\"a\"\"") ∷ []
    ≡ Err BadQuote ∷ Err BadQuote ∷ Err BadQuote ∷ Err BadQuote ∷ []
unfolding tokens
touching_tokens = refl

-- these begin none, behind a token or a blank
stray_bytes :
    tokens (codes "\"a\"\\") ∷ tokens (codes "b\\") ∷ tokens (codes "\"a\" \\") ∷ tokens (34 ∷ 34 ∷ 1 ∷ []) ∷ []
    ≡ Err BadByte ∷ Err BadByte ∷ Err BadByte ∷ Err BadByte ∷ []
unfolding tokens
stray_bytes = refl
