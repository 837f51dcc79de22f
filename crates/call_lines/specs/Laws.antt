-- What follows from the definitions.
use Rattle.std.specs.Prelude.{◌≡◌, ◌<◌, ℕ, List, ◌∷◌, Option, Some, None, bytes_eq, codes, if◌then◌else◌, IfOk}
use Rattle.hist_model.specs.Requests.{call_of_request, kind_of}
use Rattle.hist_model.specs.declared.request.Kind.{Kind}
use Rattle.lex_core.specs.declared.line.Token.{Token}
use Rattle.lex_core.specs.declared.line.Token.TheVariants.{Bare}
use Rattle.sys_abi.specs.Calls.{call_name_of}
use Rattle.call_lines.specs.Requests.{mode_of, request}

-- the mode of a node asks for the kind that is written, whatever its permissions
abbrev pub ModesAskForTheirKind : Type 0
ModesAskForTheirKind = (kind : Kind) (permissions : ℕ) → permissions < 4096 → kind_of (mode_of kind permissions) ≡ kind

-- the name of the call that a word is for: `other` is for those without one
abbrev pub name_written : List ℕ → Option (List ℕ)
name_written word = if bytes_eq word (codes "other") then None else Some word

-- the request of a line is one of the call whose name is written
abbrev pub LinesAskForTheirCall : Type 0
LinesAskForTheirCall =
    (word : List ℕ) (tokens : List Token) → IfOk (request (Bare word ∷ tokens)) (λ q. call_name_of (call_of_request q) ≡ name_written word)
