-- How far the pass over a report has come, and what a part of a report and its bytes have in common.
use Rattle.std.specs.Prelude.{◌≡◌, ◌≢◌, ℕ, ◌≤◌, ◌^◌, ◌-◌, if◌then◌else◌, ◌==◌, bytes_eq, codes, List, [], ◌∷◌, ◌++◌, length, take, drop}
use Rattle.std.specs.Prelude.{slice_get, Option, Some, None}
use Rattle.std.specs.List.{count_by}
use Rattle.hist_model.specs.ReportJournal.{title}
use Rattle.hist_model.specs.Words.{number_between}
use Rattle.hist_model.specs.declared.policy.Policy.{Policy}
use Rattle.hist_model.specs.declared.script.Script.{Script}
use Rattle.audit_check.specs.Lines.{lines}
use Rattle.audit_check.specs.Reading.{Reached, reached, title_word}

-- behind its first n lines the pass has come so far, and these lines are left
pub record HasRead (P : Policy) (S : Script) (bytes : List ℕ) (n : ℕ) (left : List (List ℕ)) (so_far : Reached) : Type 0 where
  pub counted : n ≤ length (lines bytes)
  pub left_is : drop n (lines bytes) ≡ left
  pub reached_is : reached P S (take n (lines bytes)) ≡ so_far

-- the number, where the line is the title of a journal with so many events
abbrev pub titled_count : List ℕ → Option ℕ → Option ℕ
titled_count line None = None
titled_count line (Some n) = if bytes_eq (title (codes "journal") n) line then Some n else None

-- the number of events that a title tells
abbrev pub count_in : List ℕ → Option ℕ
count_in line = titled_count line (number_between 1 (2 ^ 64 - 1) (title_word line))

-- how many lines end in these bytes
abbrev pub ends : List ℕ → ℕ
ends bytes = count_by (λ b. b == 10) bytes

-- the texts have these bytes in common at their beginning, and no more
pub record PartBehind (common text other : List ℕ) : Type 0 where
  pub text_rest : List ℕ
  pub other_rest : List ℕ
  pub text_is : text ≡ common ++ text_rest
  pub other_is : other ≡ common ++ other_rest
  pub differ : slice_get text_rest 0 ≢ slice_get other_rest 0

-- the texts are one, or so many lines end in what they have in common
abbrev pub Compares : List ℕ → List ℕ → Option ℕ → Type 0
Compares text other None = text ≡ other
Compares text other (Some n) = (common : List ℕ) × PartBehind common text other × (n ≡ ends common)

-- ---- What is written is compared with a text

-- so many of the text's bytes were written, and then another byte, if one was
abbrev pub written : List ℕ → ℕ → Option ℕ → List ℕ
written text same None = take same text
written text same (Some b) = take same text ++ b ∷ []

-- what a sink that compares with the text tells: the text, with its length before,
-- so that a write is known to leave it, and what was written
abbrev pub told : List ℕ → ℕ → Option ℕ → List ℕ
told text same other = (length text ∷ text) ++ written text same other

-- the count of faults, which stands at the greatest where another byte was written
abbrev pub faults_of : Option ℕ → ℕ
faults_of None = 0
faults_of (Some b) = 2 ^ 64 - 1

-- how many lines end in what was written of the text; none where this is the whole text, and no other byte was written
abbrev pub parted : List ℕ → ℕ → Option ℕ → Option ℕ
parted text same None = if same == length text then None else Some (ends (take same text))
parted text same (Some b) = Some (ends (take same text))
