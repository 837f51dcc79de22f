-- The faults of the tokens from a place on, found from the last one to the first.
-- By the definition of `fault_from`, with `drop_more` and `drop_all` on the tokens that are left.
use Rattle.std.proofs.Common.{◌≡◌, ℕ, ◌+◌, ◌<◌, ◌≤◌, List, [], ◌∷◌, length, drop, get_or, None, refl, ap, sym, inl, inr, arith, ◌∙◌}
use Rattle.std.specs.Option.{option_and_then}
use Rattle.std.proofs.lemmas.Option.{slice_get_cases}
use Rattle.std.proofs.lemmas.List.{drop_more, drop_all}
use Rattle.lex_core.specs.declared.line.Token.{Token}
use Rattle.step_requests.specs.declared.word.Form.{Form}
use Rattle.step_requests.specs.Operands.{earlier, fault_at, fault_from, operand_at, operand_fault}

faults-none : (f : Form) (n place : ℕ) → fault_from f n place [] ≡ None
unfolding fault_from
faults-none f n place = refl

faults-at : (f : Form) (n place : ℕ) (token : Token) (more : List Token)
    → fault_from f n place (token ∷ more) ≡ earlier (operand_fault (operand_at f n place) token) (fault_from f n (place + 1) more)
unfolding fault_from
faults-at f n place token more = refl

-- behind the last token there is none
pub faults_end : (f : Form) (line : List Token) (n place : ℕ) → length line ≤ place → fault_from f n place (drop place line) ≡ None
faults_end f line n place h = ap (fault_from f n place) (drop_all place line h) ∙ faults-none f n place

at-token : (f : Form) (line : List Token) (n place : ℕ) (token : Token) → place < length line → token ≡ get_or line place token
    → fault_from f n place (drop place line)
    ≡ earlier (operand_fault (operand_at f n place) token) (fault_from f n (place + 1) (drop (place + 1) line))
at-token f line n place token h same =
    ap (fault_from f n place) (drop_more line place token h ∙ ap (λ t. t ∷ drop (place + 1) line) (rw (← same) refl))
    ∙ faults-at f n place token (drop (place + 1) line)

-- one token, before those behind it
pub faults_here : (f : Form) (line : List Token) (n place : ℕ) → place < length line
    → fault_from f n place (drop place line)
    ≡ earlier (fault_at (operand_at f n place) line place) (fault_from f n (place + 1) (drop (place + 1) line))
faults_here f line n place h = elim (slice_get_cases line place).1 [
  | inl there ↦
      at-token f line n place there.0 h (sym there.3)
      ∙ ap (λ o. earlier (option_and_then (operand_fault (operand_at f n place)) o) (fault_from f n (place + 1) (drop (place + 1) line))) (sym there.2)
  | inr past ↦ absurd (omega (arith, past.0))
]
