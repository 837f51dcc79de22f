-- The faults of the operands from a place on, found from the last one to the first, and what an operand says by what was kept of it.
-- By the definition of `fault_from`, with `drop_more` and `drop_all` on the operands that are left, and by cases on the operand.
use Rattle.std.proofs.Common.{◌≡◌, ℕ, zero, suc, ◌+◌, ◌<◌, ◌≤◌, List, [], ◌∷◌, length, drop, get_or, Option, Some, None, refl, ap, sym, inl, inr, arith, unwrap_or, slice_get, if◌then◌else◌, ◌∙◌}
use Rattle.std.specs.Prelude.{false, pos}
use Rattle.std.specs.Option.{option_and_then}
use Rattle.std.proofs.lemmas.Option.{slice_get_cases}
use Rattle.std.proofs.lemmas.List.{drop_more, drop_all}
use Rattle.lex_core.specs.declared.line.Token.{Token}
use Rattle.bpf_filter.specs.Text.{number_at}
use Rattle.script_reader.specs.declared.word.Word.{Word}
use Rattle.script_reader.specs.Operands.{begins_number, call_in, earlier, fault_at, fault_from, named_call, number_in, operand_at, operand_fault, token_bytes}
use Rattle.script_reader.specs.Statements.{bytes_at, bytes_or_none, call_named}
use Rattle.sys_abi.specs.Calls.{call_number_of}

faults-none : (w : Word) (operands : List Token) (place : ℕ) → fault_from w operands place [] ≡ None
unfolding fault_from
faults-none w operands place = refl

faults-at : (w : Word) (operands : List Token) (place : ℕ) (token : Token) (more : List Token)
    → fault_from w operands place (token ∷ more) ≡ earlier (operand_fault (operand_at w operands place) token) (fault_from w operands (place + 1) more)
unfolding fault_from
faults-at w operands place token more = refl

-- after the last operand there is none
pub faults_end : (w : Word) (operands : List Token) (place : ℕ) → length operands ≤ place → fault_from w operands place (drop place operands) ≡ None
faults_end w operands place h = ap (fault_from w operands place) (drop_all place operands h) ∙ faults-none w operands place

at-token : (w : Word) (operands : List Token) (place : ℕ) (token : Token) → place < length operands → token ≡ get_or operands place token
    → fault_from w operands place (drop place operands)
    ≡ earlier (operand_fault (operand_at w operands place) token) (fault_from w operands (place + 1) (drop (place + 1) operands))
at-token w operands place token h same =
    ap (fault_from w operands place) (drop_more operands place token h ∙ ap (λ t. t ∷ drop (place + 1) operands) (rw (← same) refl))
    ∙ faults-at w operands place token (drop (place + 1) operands)

-- one operand, before those after it
pub faults_here : (w : Word) (operands : List Token) (place : ℕ) → place < length operands
    → fault_from w operands place (drop place operands)
    ≡ earlier (fault_at (operand_at w operands place) operands place) (fault_from w operands (place + 1) (drop (place + 1) operands))
faults_here w operands place h = elim (slice_get_cases operands place).1 [
  | inl there ↦
      at-token w operands place there.0 h (sym there.3)
      ∙ ap (λ o. earlier (option_and_then (operand_fault (operand_at w operands place)) o) (fault_from w operands (place + 1) (drop (place + 1) operands))) (sym there.2)
  | inr past ↦ absurd (omega (arith, past.0))
]

-- the call that an operand names, where it is none by its number
pub call_by_name : (operands : List Token) (place : ℕ) → begins_number (bytes_at operands place) ≡ false → unwrap_or (call_in operands place) (pos 0) ≡ call_named (bytes_at operands place)
call_by_name operands place h = by-token (slice_get operands place) h
  where
    by-token : (token : Option Token) → begins_number (bytes_or_none token) ≡ false
        → unwrap_or (option_and_then (λ t. named_call (token_bytes t)) token) (pos 0) ≡ call_named (bytes_or_none token)
    by-token None n = refl
    by-token (Some token) n = ap (λ b. unwrap_or (if b then None else call_number_of (token_bytes token)) (pos 0)) n

-- the number of an operand, and 0 where it is none
pub number_or_zero : (operands : List Token) (place : ℕ) → unwrap_or (number_in operands place) (pos 0) ≡ number_at operands place
number_or_zero [] place = refl
number_or_zero (token ∷ more) zero = refl
number_or_zero (token ∷ more) (suc place) = number_or_zero more place
