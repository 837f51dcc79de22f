-- The lines before a script's schedule, one after another.
-- By the lemmas on lines that end, and by whether a line opens the schedule.
use Rattle.std.proofs.Common.{◌≡◌, ℕ, true, false, List, [], ◌∷◌, ◌++◌, refl, sym, ap, ◌∙◌, append-nil, arith}
use Rattle.std.specs.Prelude.{◌==◌, length, codes}
use Rattle.std.proofs.lemmas.Bool.{eqb-true}
use Rattle.step_session.specs.Lines.{IsCut, has_end, request_lines}
use Rattle.step_session.specs.Owing.{before_lines}
use Rattle.step_session.specs.Scripts.{before_schedule, lines_before, opens_schedule}
use Rattle.step_session.proofs.Splits.{line_begun, line_ended, no_lines}

lines-opened : (line : List ℕ) (lines : List (List ℕ)) → opens_schedule line ≡ true → lines_before (line ∷ lines) ≡ []
unfolding lines_before
lines-opened line lines opens = rw opens refl

lines-more : (line : List ℕ) (lines : List (List ℕ)) → opens_schedule line ≡ false → lines_before (line ∷ lines) ≡ line ++ codes "\n" ++ lines_before lines
unfolding lines_before
lines-more line lines other = rw other refl

lines-none : lines_before [] ≡ []
unfolding lines_before
lines-none = refl

-- behind the line that opens the schedule nothing counts
pub front_opened : (bytes line behind : List ℕ) → IsCut bytes line behind → opens_schedule line ≡ true → before_schedule bytes ≡ []
front_opened bytes line behind cut opens =
    ap before_schedule cut.cut ∙ ap lines_before (line_ended line behind cut.line_only) ∙ lines-opened line (request_lines behind) opens

-- any other line is one before it
pub front_more : (bytes line behind : List ℕ) → IsCut bytes line behind → opens_schedule line ≡ false
    → before_schedule bytes ≡ line ++ codes "\n" ++ before_schedule behind
front_more bytes line behind cut other =
    ap before_schedule cut.cut ∙ ap lines_before (line_ended line behind cut.line_only) ∙ lines-more line (request_lines behind) other

-- a last line without its end
alone : (line : List ℕ) → has_end line ≡ false → request_lines line ≡ before_lines line []
alone line whole = ap request_lines (sym (append-nil line)) ∙ line_begun line [] whole ∙ ap (before_lines line) no_lines

no-front : before_schedule [] ≡ []
no-front = ap lines_before no_lines ∙ lines-none

pub front_empty : (line : List ℕ) → (length line == 0) ≡ true → before_schedule line ≡ []
front_empty [] empty = no-front
front_empty (b ∷ line) empty = absurd (omega (arith, eqb-true (length (b ∷ line)) 0 empty))

pub front_over : (line : List ℕ) → has_end line ≡ false → opens_schedule line ≡ true → before_schedule line ≡ []
front_over [] whole opens = no-front
front_over (b ∷ line) whole opens = ap lines_before (alone (b ∷ line) whole) ∙ lines-opened (b ∷ line) [] opens

pub front_last : (line : List ℕ) → (line ≡ [] → ⊥) → has_end line ≡ false → opens_schedule line ≡ false → before_schedule line ≡ line ++ codes "\n"
front_last [] some whole other = absurd (some refl)
front_last (b ∷ line) some whole other =
    ap lines_before (alone (b ∷ line) whole) ∙ lines-more (b ∷ line) [] other ∙ ap (λ rest. (b ∷ line) ++ codes "\n" ++ rest) lines-none
    ∙ append-nil ((b ∷ line) ++ codes "\n")
