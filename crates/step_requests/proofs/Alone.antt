-- A line that is given alone.
-- By induction on the bytes, none of which is 10, and by cases on whether the line is passed over.
use Rattle.std.proofs.Common.{◌≡◌, ℕ, List, [], ◌∷◌, refl, ap, ◌∙◌, Err}
use Rattle.std.specs.Prelude.{Bool, true, false, if◌then◌else◌}
use Rattle.std.specs.List.{list_any}
use Rattle.std.proofs.lemmas.Bool.{or_parts}
use Rattle.lex_core.specs.Lexical.{tokens}
use Rattle.lex_core.specs.Lines.{Numbered, is_skipped, numbered, split, unless_skipped, with_front, without_return}
use Rattle.step_requests.specs.declared.fault.LineFault.TheVariants.{Empty}
use Rattle.step_requests.specs.Laws.{is_line_end}
use Rattle.step_requests.specs.Readings.{first_read, read_tokens, reads}

-- bytes without a line end are one line
one-line : (b : ℕ) (bs : List ℕ) → list_any is_line_end (b ∷ bs) ≡ false → split (b ∷ bs) ≡ (b ∷ bs) ∷ []
unfolding split
one-line b [] h = rw (or_parts (is_line_end b) (list_any is_line_end []) h).0 refl
one-line b (c ∷ cs) h =
    let parts = or_parts (is_line_end b) (list_any is_line_end (c ∷ cs)) h in
    ap (with_front b) (one-line c cs parts.1) ∙ rw parts.0 refl

first-of-one : (skipped : Bool) (line : Numbered) → first_read (unless_skipped skipped line []) ≡ (if skipped then Err Empty else read_tokens (tokens line.bytes))
first-of-one true line = refl
first-of-one false line = refl

numbered-one : (bytes : List ℕ) → first_read (numbered 0 (bytes ∷ [])) ≡ (if is_skipped (without_return bytes) then Err Empty else read_tokens (tokens (without_return bytes)))
unfolding numbered
numbered-one bytes = first-of-one (is_skipped (without_return bytes)) (record { number = 1; bytes = without_return bytes })

pub reads_alone : (line : List ℕ) → list_any is_line_end line ≡ false
    → reads line ≡ (if is_skipped (without_return line) then Err Empty else read_tokens (tokens (without_return line)))
unfolding split numbered without_return is_skipped
reads_alone [] h = refl
reads_alone (b ∷ bs) h = ap (λ lines. first_read (numbered 0 lines)) (one-line b bs h) ∙ numbered-one (b ∷ bs)
