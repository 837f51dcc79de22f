-- Lines that go on and lines that end, and the answers to lines that are too long.
-- By induction on the bytes of the front, and by the laws of appended lists.
use Rattle.std.proofs.Common.{◌≡◌, ℕ, ◌<◌, ◌≤◌, Bool, true, false, List, [], ◌∷◌, ◌++◌, length, refl, sym, ap, ◌∙◌, arith, append_assoc, append-nil, length-append}
use Rattle.std.specs.Prelude.{◌||◌, ◌==◌, nat_lt}
use Rattle.std.proofs.lemmas.Bool.Decides.{nat_tests}
use Rattle.hist_model.specs.declared.event.Event.{Event}
use Rattle.step_session.specs.declared.origin.Origin.{Origin}
use Rattle.hist_model.specs.declared.script.Script.{Script}
use Rattle.lex_core.specs.Lines.{before_line, split, with_front}
use Rattle.step_requests.specs.Readings.{reads}
use Rattle.step_session.specs.Lines.{answers, has_end, line_answer, long_text, longest, read_answer, request_lines}
use Rattle.step_session.specs.Owing.{before_lines, behind_first}

-- ---- where lines end

or-left : (a b : Bool) → (a || b) ≡ false → a ≡ false
or-left false b h = refl
or-left true b h = cc

or-right : (a b : Bool) → (a || b) ≡ false → b ≡ false
or-right false b h = h
or-right true b h = cc

other-byte : (b : ℕ) (lines : List (List ℕ)) → (b == 10) ≡ false → with_front b lines ≡ before_line b lines
other-byte b lines h = rw h refl

pub no_lines : request_lines [] ≡ []
unfolding split
no_lines = refl

pub line_ended : (line rest : List ℕ) → has_end line ≡ false → request_lines (line ++ 10 ∷ rest) ≡ line ∷ request_lines rest
unfolding split
line_ended [] rest h = refl
line_ended (b ∷ line) rest h =
    ap (with_front b) (line_ended line rest (or-right (b == 10) (has_end line) h)) ∙ other-byte b (line ∷ split rest) (or-left (b == 10) (has_end line) h)

front-first : (b : ℕ) (bytes : List ℕ) (lines : List (List ℕ)) → before_line b (before_lines bytes lines) ≡ before_lines (b ∷ bytes) lines
front-first b [] [] = refl
front-first b [] (line ∷ lines) = refl
front-first b (c ∷ bytes) [] = refl
front-first b (c ∷ bytes) (line ∷ lines) = refl

pub line_begun : (bytes rest : List ℕ) → has_end bytes ≡ false → request_lines (bytes ++ rest) ≡ before_lines bytes (request_lines rest)
unfolding split
line_begun [] rest h = refl
line_begun (b ∷ bytes) rest h =
    ap (with_front b) (line_begun bytes rest (or-right (b == 10) (has_end bytes) h))
    ∙ other-byte b (before_lines bytes (split rest)) (or-left (b == 10) (has_end bytes) h)
    ∙ front-first b bytes (split rest)

-- ---- bytes before lines

pub before_before : (xs ys : List ℕ) (lines : List (List ℕ)) → before_lines xs (before_lines ys lines) ≡ before_lines (xs ++ ys) lines
before_before [] ys lines = refl
before_before (x ∷ xs) [] lines = ap (λ front. before_lines (x ∷ front) lines) (sym (append-nil xs))
before_before (x ∷ xs) (y ∷ ys) [] = refl
before_before (x ∷ xs) (y ∷ ys) (line ∷ lines) = ap (λ l. (x ∷ l) ∷ lines) (sym (append_assoc xs (y ∷ ys) line))

pub before_ended : (xs line : List ℕ) (lines : List (List ℕ)) → before_lines xs (line ∷ lines) ≡ (xs ++ line) ∷ lines
before_ended [] line lines = refl
before_ended (x ∷ xs) line lines = refl

pub behind_before : (ys : List ℕ) (lines : List (List ℕ)) → behind_first (before_lines ys lines) ≡ behind_first lines
behind_before [] lines = refl
behind_before (y ∷ ys) [] = refl
behind_before (y ∷ ys) (line ∷ lines) = refl

-- ---- answers

pub answers_none : (P : Origin) (S : Script) (K : List Event) → answers P S K [] ≡ []
unfolding answers
answers_none P S K = refl

pub answers_more : (P : Origin) (S : Script) (K : List Event) (line : List ℕ) (lines : List (List ℕ))
    → answers P S K (line ∷ lines) ≡ (line_answer P S K line).1 ++ answers P S (line_answer P S K line).0 lines
unfolding answers
answers_more P S K line lines = refl

pub long_answer : (P : Origin) (S : Script) (K : List Event) (line : List ℕ) → longest < length line → line_answer P S K line ≡ (K, long_text)
unfolding line_answer
long_answer P S K line long = let is : nat_lt longest (length line) ≡ true = grind (arith, nat_tests) in rw is refl

pub short_answer : (P : Origin) (S : Script) (K : List Event) (line : List ℕ) → length line ≤ longest → line_answer P S K line ≡ read_answer P S K (reads line)
unfolding line_answer
short_answer P S K line short = let is : nat_lt longest (length line) ≡ false = grind (arith, nat_tests) in rw is refl

answers-long : (P : Origin) (S : Script) (K : List Event) (line : List ℕ) (lines : List (List ℕ)) → longest < length line
    → answers P S K (line ∷ lines) ≡ long_text ++ answers P S K lines
answers-long P S K line lines long = answers_more P S K line lines ∙ ap (λ a. a.1 ++ answers P S a.0 lines) (long_answer P S K line long)

-- a front that is too long is that of a line that is
pub answers_front : (P : Origin) (S : Script) (K : List Event) (front : List ℕ) (lines : List (List ℕ)) → longest < length front
    → answers P S K (before_lines front lines) ≡ long_text ++ answers P S K (behind_first lines)
answers_front P S K [] lines long = absurd (omega arith)
answers_front P S K (b ∷ front) [] long = answers-long P S K (b ∷ front) [] long
answers_front P S K (b ∷ front) (line ∷ lines) long =
    let e = length-append (b ∷ front) line in
    answers-long P S K ((b ∷ front) ++ line) lines (omega arith)
