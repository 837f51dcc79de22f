-- The refusal of a line is the first row of the table of reasons whose test shows a fault: by the order in which the definitions test.
-- By putting one test before others that stand in the same row or later, and by cases on the operand, on the word and on the statement.
use Rattle.std.proofs.Common.{◌≡◌, ℕ, ◌+◌, ◌<◌, ◌≤◌, List, [], ◌∷◌, ◌++◌, length, Option, Some, None, refl, ap, sym, subst, ◌∙◌, arith, if◌then◌else◌}
use Rattle.std.specs.Prelude.{Bool, true, false, ◌&&◌, not, ◌==◌, nat_le, ℤ, is_none, is_some, Result, Ok, Err}
use Rattle.std.specs.List.{list_all, list_any}
use Rattle.std.proofs.lemmas.Bool.{and_from, and_parts, eq-eqb, eqb-true, le-leb, leb-false, leb-true, or_left, or_right}
use Rattle.std.proofs.lemmas.List.{append-nil}
use Rattle.lex_core.specs.declared.line.Token.{Token}
use Rattle.lex_core.specs.declared.line.Token.TheVariants.{Bare, Quoted}
use Rattle.lex_core.specs.declared.reason.Reason.{Reason}
use Rattle.lex_core.specs.declared.reason.Reason.TheVariants as reason
use Rattle.bpf_filter.specs.Text.{insn_of, insn_text, is_quoted, number, with_fields, word_insn}
use Rattle.bpf_filter.specs.Words.{form_in, instructions}
use Rattle.hist_model.specs.declared.script.Insn.{Insn}
use Rattle.hex.specs.Hex.{decode_sized}
use Rattle.hex.specs.declared.error.FromHexError.{FromHexError}
use Rattle.hex.specs.declared.error.FromHexError.TheVariants.{InvalidHexCharacter}
use Rattle.step_requests.specs.Operands as request
use Rattle.step_requests.specs.Operands.{fault_from as request_fault_from}
use Rattle.step_requests.specs.Words.{form_of}
use Rattle.step_requests.specs.declared.operand.Operand.{Operand as RequestOperand}
use Rattle.step_requests.specs.declared.operand.Operand.TheVariants as kinds
use Rattle.step_requests.specs.declared.word.Deed.{Deed}
use Rattle.step_requests.specs.declared.word.Form.TheVariants.{Worker}
use Rattle.script_reader.specs.declared.error.Fault.{Fault}
use Rattle.script_reader.specs.declared.error.Fault.TheVariants.{Wrong}
use Rattle.script_reader.specs.declared.operand.Operand.{Operand}
use Rattle.script_reader.specs.declared.operand.Operand.TheVariants as operand
use Rattle.script_reader.specs.declared.statement.Statement.{Statement}
use Rattle.script_reader.specs.declared.statement.Statement.TheVariants as states
use Rattle.script_reader.specs.declared.word.Section.{Section}
use Rattle.script_reader.specs.declared.word.Word.{Word}
use Rattle.script_reader.specs.Above.{Above, statement_fault}
use Rattle.script_reader.specs.Faults.{or_else, too_large_if, wrong_if}
use Rattle.script_reader.specs.Lines.{beside, bytes_statement, ends_block, insn_statement, is_in_place, operands_statement, other_word, plain_statement, tokens_statement, unless_faulty}
use Rattle.script_reader.specs.Operands.{begins_number, earlier, fault_from, fault_unless, is_allowed, is_call_name, is_counted, number_fault, operand_at, operand_fault, operands_fault, rank}
use Rattle.script_reader.specs.Requests.{deed_in, deed_statement, is_request, is_seated, request_fault, request_stated, request_statement, unless_wrong, with_seat}
use Rattle.script_reader.specs.Table.{FirstRowDecides, deed_faults, form_faults, insn_fault, insn_faults, is_first, operand_faults, own_faults, plain_faults, reason_row, refusal_of, request_faults, row, stands_at, stands_from, stated_faults, statement_faults, token_faults, word_faults, wrong}
use Rattle.script_reader.specs.Words.{in_filter, in_schedule, word_of}
use Rattle.lex_core.specs.Numbers as numbers

-- ---- one test before others

-- none of the faults stands before this row
abbrev AllFrom : ℕ → List (Option Fault) → Type 0
AllFrom n faults = list_all (stands_from n) faults ≡ true

none-from : (n : ℕ) (faults : List (Option Fault)) → list_all is_none faults ≡ true → AllFrom n faults
none-from n [] h = refl
none-from n (None ∷ faults) h = none-from n faults h
none-from n (Some fault ∷ faults) h = cc

later-from : (n : ℕ) (fault : Option Fault) (m : ℕ) → n ≤ m → stands_from m fault ≡ true → stands_from n fault ≡ true
later-from n None m l h = refl
later-from n (Some fault) m l h = le-leb n (row fault) (omega (arith, leb-true m (row fault) h))

all-later : (n : ℕ) (faults : List (Option Fault)) (m : ℕ) → n ≤ m → AllFrom m faults → AllFrom n faults
all-later n [] m l h = refl
all-later n (fault ∷ faults) m l h =
    let parts = and_parts (stands_from m fault) (list_all (stands_from m) faults) h in
    and_from _ _ (later-from n fault m l parts.0) (all-later n faults m l parts.1)

own-row : (fault : Fault) → (row fault == row fault) ≡ true
own-row fault = eq-eqb (row fault) (row fault) refl

head-first : (fault : Fault) (faults : List (Option Fault)) → AllFrom (row fault) faults → is_first (Some fault) (Some fault ∷ faults) ≡ true
head-first fault faults h =
    and_from _ _ (or_left _ _ (own-row fault)) (and_from _ _ (le-leb (row fault) (row fault) (omega arith)) h)

skip-none : (fault : Option Fault) (faults : List (Option Fault)) → is_first fault faults ≡ true → is_first fault (None ∷ faults) ≡ true
skip-none None faults h = h
skip-none (Some fault) faults h = h

before : (b : Bool) (r : Reason) (fault : Option Fault) (faults : List (Option Fault)) → AllFrom (reason_row r) faults → is_first fault faults ≡ true
    → is_first (or_else (wrong_if b r) fault) (wrong_if b r ∷ faults) ≡ true
before true r fault faults from h = head-first (Wrong r) faults from
before false r fault faults from h = skip-none fault faults h

alone : (fault : Option Fault) → is_first fault (fault ∷ []) ≡ true
alone None = refl
alone (Some fault) = head-first fault [] refl

from-wrong : (n : ℕ) (b : Bool) (r : Reason) → nat_le n (reason_row r) ≡ true → stands_from n (wrong_if b r) ≡ true
from-wrong n true r h = h
from-wrong n false r h = refl

from-large : (n : ℕ) (b : Bool) → nat_le n 15 ≡ true → stands_from n (too_large_if b) ≡ true
from-large n true h = h
from-large n false h = refl

-- the fault is the first of these
record First (fault : Option Fault) (faults : List (Option Fault)) : Type 0 where
  found : is_first fault faults ≡ true

one : (fault : Option Fault) → First fault (fault ∷ [])
one fault = record { found = alone fault }

two-wrong : (a b : Bool) (r s : Reason) → nat_le (reason_row r) (reason_row s) ≡ true → First (or_else (wrong_if a r) (wrong_if b s)) (wrong_if a r ∷ wrong_if b s ∷ [])
two-wrong a b r s h = record { found = before a r (wrong_if b s) (wrong_if b s ∷ []) (and_from _ _ (from-wrong (reason_row r) b s h) refl) (alone (wrong_if b s)) }

wrong-large : (a b : Bool) (r : Reason) → nat_le (reason_row r) 15 ≡ true → First (or_else (wrong_if a r) (too_large_if b)) (wrong_if a r ∷ too_large_if b ∷ [])
wrong-large a b r h = record { found = before a r (too_large_if b) (too_large_if b ∷ []) (and_from _ _ (from-large (reason_row r) b h) refl) (alone (too_large_if b)) }

-- ---- a statement beside the lines above

statement-first : (s : Statement) (A : Above) → First (statement_fault s A) (statement_faults s A)
statement-first (states.Pidmax n) A = one _
statement-first (states.Pidbase n) A = two-wrong _ _ reason.OutOfRange reason.Duplicate refl
statement-first (states.Firstid n) A = one _
statement-first (states.Rlimit n) A = one _
statement-first states.Killable A = two-wrong _ _ reason.Duplicate reason.NoListener refl
statement-first (states.Node path kind) A = wrong-large _ _ reason.BadPath refl
statement-first (states.Attr path name value) A = wrong-large _ _ reason.BadPath refl
statement-first (states.Root path) A = two-wrong _ _ reason.BadPath reason.Duplicate refl
statement-first (states.Broker n) A = wrong-large _ _ reason.Duplicate refl
statement-first (states.Map range) A = wrong-large _ _ reason.OutOfRange refl
statement-first (states.Cgroup memory swap) A = record { found = refl }
statement-first (states.Figures figures) A = one _
statement-first (states.Notify calls) A = wrong-large _ _ reason.SecondListener refl
statement-first (states.Filter listener) A = wrong-large _ _ reason.SecondListener refl
statement-first (states.Insn i) A = record { found = refl }
statement-first (states.Prog name) A = wrong-large _ _ reason.Duplicate refl
statement-first (states.Does i) A = one _
statement-first (states.Starts thread name) A = one _
statement-first states.Schedule A = record { found = refl }
statement-first (states.Steps task count) A = one _
statement-first (states.Counts worker count) A = wrong-large _ _ reason.OutOfPlace refl
statement-first (states.Asks worker asked) A = wrong-large _ _ reason.OutOfPlace refl
statement-first states.End A = one _

-- ---- operands

-- the reason is one that an operand shows, whose rank gives its row
abbrev is_ranked : Option Reason → Bool
is_ranked None = true
is_ranked (Some r) = reason_row r == rank r + 5

unless-ranked : (b : Bool) (r : Reason) → is_ranked (Some r) ≡ true → is_ranked (fault_unless b r) ≡ true
unless-ranked true r h = refl
unless-ranked false r h = h

number-ranked : (kind : Operand) (n : Option ℤ) → is_ranked (number_fault kind n) ≡ true
number-ranked kind None = refl
number-ranked kind (Some n) = unless-ranked (is_allowed kind n) reason.OutOfRange refl

call-ranked : (numbered : Bool) (word : List ℕ)
    → is_ranked (if numbered then number_fault operand.Call (numbers.number word) else fault_unless (is_call_name word) reason.UnknownName) ≡ true
call-ranked true word = number-ranked operand.Call (numbers.number word)
call-ranked false word = unless-ranked (is_call_name word) reason.UnknownName refl

operand-ranked : (kind : Operand) (token : Token) → is_ranked (operand_fault kind token) ≡ true
operand-ranked operand.Program (Bare word) = unless-ranked _ reason.OutOfRange refl
operand-ranked operand.CallName (Bare word) = unless-ranked _ reason.UnknownName refl
operand-ranked operand.Call (Bare word) = call-ranked (begins_number word) word
operand-ranked operand.Disposition (Bare word) = unless-ranked _ reason.UnknownName refl
operand-ranked operand.Listener (Bare word) = unless-ranked _ reason.UnknownName refl
operand-ranked operand.Whom (Bare word) = unless-ranked _ reason.UnknownName refl
operand-ranked operand.Task (Bare word) = unless-ranked _ reason.BadNumber refl
operand-ranked operand.Path (Bare word) = refl
operand-ranked operand.Root (Bare word) = refl
operand-ranked (operand.Text least most zeros) (Bare word) = refl
operand-ranked (operand.Number least most) (Bare word) = number-ranked (operand.Number least most) (numbers.number word)
operand-ranked operand.Page (Bare word) = number-ranked operand.Page (numbers.number word)
operand-ranked operand.Signal (Bare word) = number-ranked operand.Signal (numbers.number word)
operand-ranked operand.Handled (Bare word) = number-ranked operand.Handled (numbers.number word)
operand-ranked operand.Path (Quoted bytes) = unless-ranked _ reason.BadPath refl
operand-ranked operand.Root (Quoted bytes) = unless-ranked _ reason.BadPath refl
operand-ranked (operand.Text least most zeros) (Quoted bytes) = unless-ranked _ reason.OutOfRange refl
operand-ranked kind (Quoted bytes) = refl

-- the reason of one operand or of the others, and their tests
abbrev IsFirstOf : Option Reason → List (Option Fault) → Type 0
IsFirstOf found faults = (is_first (wrong found) faults ≡ true) × (is_ranked found ≡ true)

chosen : (sooner : Bool) (r s : Reason) (faults : List (Option Fault)) → nat_le (rank r) (rank s) ≡ sooner → is_ranked (Some r) ≡ true → IsFirstOf (Some s) faults
    → IsFirstOf (if sooner then Some r else Some s) (Some (Wrong r) ∷ faults)
chosen true r s faults e ranked h =
    let at : reason_row r ≡ rank r + 5 = eqb-true (reason_row r) (rank r + 5) ranked in
    let other : reason_row s ≡ rank s + 5 = eqb-true (reason_row s) (rank s + 5) h.1 in
    let l : rank r ≤ rank s = leb-true (rank r) (rank s) e in
    (head-first (Wrong r) faults (all-later (reason_row r) faults (reason_row s) (omega arith) (and_parts _ _ h.0).1), ranked)
chosen false r s faults e ranked h =
    let at : reason_row r ≡ rank r + 5 = eqb-true (reason_row r) (rank r + 5) ranked in
    let other : reason_row s ≡ rank s + 5 = eqb-true (reason_row s) (rank s + 5) h.1 in
    let l : rank s < rank r = leb-false (rank r) (rank s) e in
    let parts = and_parts (list_any (stands_at (reason_row s)) faults) (list_all (stands_from (reason_row s)) faults) h.0 in
    (and_from _ _ (or_right _ _ parts.0) (and_from _ _ (le-leb (reason_row s) (reason_row r) (omega arith)) parts.1), h.1)

both : (found others : Option Reason) (faults : List (Option Fault)) → is_ranked found ≡ true → IsFirstOf others faults → IsFirstOf (earlier found others) (wrong found ∷ faults)
both None others faults ranked h = (skip-none (wrong others) faults h.0, h.1)
both (Some r) None faults ranked h = (head-first (Wrong r) faults (none-from (reason_row r) faults h.0), ranked)
both (Some r) (Some s) faults ranked h = chosen (nat_le (rank r) (rank s)) r s faults refl ranked h

operands-first : (w : Word) (operands : List Token) (place : ℕ) (tokens : List Token) → IsFirstOf (fault_from w operands place tokens) (operand_faults w operands place tokens)
unfolding fault_from
operands-first w operands place [] = (refl, refl)
operands-first w operands place (token ∷ more) =
    both (operand_fault (operand_at w operands place) token) (fault_from w operands (place + 1) more) (operand_faults w operands (place + 1) more)
    (operand-ranked (operand_at w operands place) token) (operands-first w operands (place + 1) more)

ranked-from : (n : ℕ) (found : Option Reason) → n ≤ 5 → is_ranked found ≡ true → stands_from n (wrong found) ≡ true
ranked-from n None l h = refl
ranked-from n (Some r) l h = le-leb n (reason_row r) (omega (arith, eqb-true (reason_row r) (rank r + 5) h))

operands-from : (n : ℕ) (w : Word) (operands : List Token) (place : ℕ) (tokens : List Token) → n ≤ 5 → AllFrom n (operand_faults w operands place tokens)
operands-from n w operands place [] l = refl
operands-from n w operands place (token ∷ more) l =
    and_from _ _ (ranked-from n (operand_fault (operand_at w operands place) token) l (operand-ranked (operand_at w operands place) token)) (operands-from n w operands (place + 1) more l)

-- ---- words

unless-counted : (counted : Bool) (found : Option Reason) → wrong (if counted then found else Some reason.WrongCount) ≡ or_else (wrong_if (not counted) reason.WrongCount) (wrong found)
unless-counted true found = refl
unless-counted false found = refl

unless-placed : (placed : Bool) (found : Option Reason) (w : Word) (operands : List Token)
    → refusal_of (if placed then operands_statement found w operands else Err (Wrong reason.OutOfPlace)) ≡ or_else (wrong_if (not placed) reason.OutOfPlace) (wrong found)
unless-placed true None w operands = refl
unless-placed true (Some r) w operands = refl
unless-placed false found w operands = refl

word-first : (section : Section) (base_is_stated : Bool) (w : Option Word) (bytes : List ℕ) (operands : List Token)
    → is_first (refusal_of (bytes_statement section base_is_stated w bytes operands)) (word_faults section base_is_stated w bytes operands) ≡ true
word-first section base_is_stated None bytes operands = alone (Some (Wrong (other_word bytes)))
word-first section base_is_stated (Some w) bytes operands =
    let tests = operand_faults w operands 0 operands in
    let counted : Bool = is_counted w operands in
    let placed : Bool = is_in_place section base_is_stated w in
    let count : is_first (wrong (operands_fault w operands)) (wrong_if (not counted) reason.WrongCount ∷ tests) ≡ true =
    subst (λ fault. is_first fault (wrong_if (not counted) reason.WrongCount ∷ tests) ≡ true) (sym (unless-counted counted (fault_from w operands 0 operands)))
    (before (not counted) reason.WrongCount (wrong (fault_from w operands 0 operands)) tests (operands-from 4 w operands 0 operands (omega arith)) (operands-first w operands 0 operands).0)
    in
    subst (λ fault. is_first fault (word_faults section base_is_stated (Some w) bytes operands) ≡ true) (sym (unless-placed placed (operands_fault w operands) w operands))
    (before (not placed) reason.OutOfPlace (wrong (operands_fault w operands)) (wrong_if (not counted) reason.WrongCount ∷ tests)
    (and_from _ _ (from-wrong 3 (not counted) reason.WrongCount refl) (operands-from 3 w operands 0 operands (omega arith))) count)

plain-first : (section : Section) (base_is_stated : Bool) (tokens : List Token)
    → is_first (refusal_of (plain_statement section base_is_stated tokens)) (plain_faults section base_is_stated tokens) ≡ true
plain-first section base_is_stated (Bare bytes ∷ operands) = word-first section base_is_stated (word_of bytes) bytes operands
plain-first section base_is_stated (Quoted bytes ∷ operands) = refl
plain-first section base_is_stated [] = refl

-- ---- instructions of filters

if-refused : (b : Bool) (r : Reason) (rest : Result Insn Reason) → insn_fault (if b then Err r else rest) ≡ or_else (wrong_if b r) (insn_fault rest)
if-refused true r rest = refl
if-refused false r rest = refl

fields-from : (code : ℕ) (k jt jf : Option ℕ) → stands_from 7 (insn_fault (with_fields code k jt jf)) ≡ true
fields-from code (Some k) (Some jt) (Some jf) = refl
fields-from code None jt jf = refl
fields-from code (Some k) None jf = refl
fields-from code (Some k) (Some jt) None = refl

insn-refused : (insn : Result Insn Reason) → refusal_of (insn_statement insn) ≡ insn_fault insn
insn-refused (Ok i) = refl
insn-refused (Err r) = refl

form-first : (form : Option (ℕ × ℕ)) (bytes : List ℕ) (operands : List Token) → is_first (insn_fault (word_insn form bytes operands)) (form_faults form bytes operands) ≡ true
form-first None bytes operands = alone (Some (Wrong (other_word bytes)))
form-first (Some form) bytes operands =
    let miscounted : Bool = not (length operands == form.1) in
    let quoted : Bool = list_any is_quoted operands in
    let unnumbered : Bool = list_any (λ operand. is_none (number operand)) operands in
    let insn : Result Insn Reason = insn_of form.0 operands in
    let from : stands_from 7 (insn_fault insn) ≡ true = fields-from form.0 _ _ _ in
    let last = before unnumbered reason.BadNumber (insn_fault insn) (insn_fault insn ∷ []) (and_from _ _ (later-from 6 (insn_fault insn) 7 (omega arith) from) refl) (alone (insn_fault insn)) in
    let forms = before quoted reason.WrongForm (or_else (wrong_if unnumbered reason.BadNumber) (insn_fault insn)) (wrong_if unnumbered reason.BadNumber ∷ insn_fault insn ∷ [])
    (and_from _ _ (from-wrong 5 unnumbered reason.BadNumber refl) (and_from _ _ (later-from 5 (insn_fault insn) 7 (omega arith) from) refl)) last in
    let counts = before miscounted reason.WrongCount (or_else (wrong_if quoted reason.WrongForm) (or_else (wrong_if unnumbered reason.BadNumber) (insn_fault insn)))
    (wrong_if quoted reason.WrongForm ∷ wrong_if unnumbered reason.BadNumber ∷ insn_fault insn ∷ [])
    (and_from _ _ (from-wrong 4 quoted reason.WrongForm refl) (and_from _ _ (from-wrong 4 unnumbered reason.BadNumber refl) (and_from _ _ (later-from 4 (insn_fault insn) 7 (omega arith) from) refl))) forms
    in
    subst (λ fault. is_first fault (form_faults (Some form) bytes operands) ≡ true)
    (sym (if-refused miscounted reason.WrongCount _
    ∙ ap (or_else (wrong_if miscounted reason.WrongCount))
    (if-refused quoted reason.WrongForm _ ∙ ap (or_else (wrong_if quoted reason.WrongForm)) (if-refused unnumbered reason.BadNumber insn))))
    counts

insn-first : (tokens : List Token) → is_first (insn_fault (insn_text tokens)) (insn_faults tokens) ≡ true
insn-first (Bare bytes ∷ operands) = form-first (form_in instructions bytes) bytes operands
insn-first (Quoted bytes ∷ operands) = refl
insn-first [] = refl

-- ---- requests

-- the reason is one that a token of a request shows
abbrev is_shown : Option Reason → Bool
is_shown None = true
is_shown (Some reason.WrongForm) = true
is_shown (Some reason.BadNumber) = true
is_shown (Some reason.OutOfRange) = true
is_shown (Some reason.UnknownName) = true
is_shown (Some r) = false

shown-ranked : (found : Option Reason) → is_shown found ≡ true → is_ranked found ≡ true
shown-ranked None h = refl
shown-ranked (Some reason.WrongForm) h = refl
shown-ranked (Some reason.BadNumber) h = refl
shown-ranked (Some reason.OutOfRange) h = refl
shown-ranked (Some reason.UnknownName) h = refl
shown-ranked (Some r) h = cc

-- of two such reasons the same one comes first here and in a line of `step`
same-earlier : (found others : Option Reason) → is_shown found ≡ true → is_shown others ≡ true → request.earlier found others ≡ earlier found others
same-earlier None others f o = refl
same-earlier (Some r) None f o = refl
same-earlier (Some reason.WrongForm) (Some reason.WrongForm) f o = refl
same-earlier (Some reason.WrongForm) (Some reason.BadNumber) f o = refl
same-earlier (Some reason.WrongForm) (Some reason.OutOfRange) f o = refl
same-earlier (Some reason.WrongForm) (Some reason.UnknownName) f o = refl
same-earlier (Some reason.BadNumber) (Some reason.WrongForm) f o = refl
same-earlier (Some reason.BadNumber) (Some reason.BadNumber) f o = refl
same-earlier (Some reason.BadNumber) (Some reason.OutOfRange) f o = refl
same-earlier (Some reason.BadNumber) (Some reason.UnknownName) f o = refl
same-earlier (Some reason.OutOfRange) (Some reason.WrongForm) f o = refl
same-earlier (Some reason.OutOfRange) (Some reason.BadNumber) f o = refl
same-earlier (Some reason.OutOfRange) (Some reason.OutOfRange) f o = refl
same-earlier (Some reason.OutOfRange) (Some reason.UnknownName) f o = refl
same-earlier (Some reason.UnknownName) (Some reason.WrongForm) f o = refl
same-earlier (Some reason.UnknownName) (Some reason.BadNumber) f o = refl
same-earlier (Some reason.UnknownName) (Some reason.OutOfRange) f o = refl
same-earlier (Some reason.UnknownName) (Some reason.UnknownName) f o = refl
same-earlier (Some r) (Some q) f o = cc

either-shown : (sooner : Bool) (r q : Reason) → is_shown (Some r) ≡ true → is_shown (Some q) ≡ true → is_shown (if sooner then Some r else Some q) ≡ true
either-shown true r q f o = f
either-shown false r q f o = o

earlier-shown : (found others : Option Reason) → is_shown found ≡ true → is_shown others ≡ true → is_shown (request.earlier found others) ≡ true
earlier-shown None others f o = o
earlier-shown (Some r) None f o = f
earlier-shown (Some r) (Some q) f o = either-shown (nat_le (request.rank r) (request.rank q)) r q f o

-- the reason of one token or of the others, and their tests
abbrev IsShownFirst : Option Reason → List (Option Fault) → Type 0
IsShownFirst found faults = (is_first (wrong found) faults ≡ true) × (is_shown found ≡ true)

both-shown : (found others : Option Reason) (faults : List (Option Fault)) → is_shown found ≡ true → IsShownFirst others faults
    → IsShownFirst (request.earlier found others) (wrong found ∷ faults)
both-shown found others faults shown h =
    let first = both found others faults (shown-ranked found shown) (h.0, shown-ranked others h.1) in
    (subst (λ r. is_first (wrong r) (wrong found ∷ faults) ≡ true) (sym (same-earlier found others shown h.1)) first.0, earlier-shown found others shown h.1)

unless-shown : (b : Bool) (r : Reason) → is_shown (Some r) ≡ true → is_shown (request.fault_unless b r) ≡ true
unless-shown true r h = refl
unless-shown false r h = h

number-shown : (least most : ℤ) (n : Option ℤ) → is_shown (request.number_fault least most n) ≡ true
number-shown least most None = refl
number-shown least most (Some n) = unless-shown _ reason.OutOfRange refl

decoding-shown : (decoded : Result (List ℕ) FromHexError) → is_shown (request.decoding_fault decoded) ≡ true
decoding-shown (Ok bytes) = refl
decoding-shown (Err (InvalidHexCharacter c i)) = refl
decoding-shown (Err other) = refl

token-shown : (kind : RequestOperand) (token : Token) → is_shown (request.operand_fault kind token) ≡ true
token-shown kinds.Word (Bare bytes) = refl
token-shown (kinds.Number least most) (Bare bytes) = number-shown least most (numbers.number bytes)
token-shown (kinds.Bytes structure) (Bare bytes) = decoding-shown (decode_sized bytes (request.size_of structure))
token-shown kinds.Task (Bare bytes) = unless-shown _ reason.BadNumber refl
token-shown kinds.Via (Bare bytes) = unless-shown _ reason.UnknownName refl
token-shown kinds.Shift (Bare bytes) = unless-shown _ reason.UnknownName refl
token-shown kinds.Follow (Bare bytes) = unless-shown _ reason.UnknownName refl
token-shown (kinds.Text zeros) (Bare bytes) = refl
token-shown (kinds.Text zeros) (Quoted bytes) = unless-shown _ reason.OutOfRange refl
token-shown kind (Quoted bytes) = refl

tokens-first : (d : Deed) (count place : ℕ) (tokens : List Token) → IsShownFirst (request_fault_from (Worker d) count place tokens) (token_faults d count place tokens)
unfolding request_fault_from
tokens-first d count place [] = (refl, refl)
tokens-first d count place (token ∷ more) =
    both-shown (request.operand_fault (request.operand_at (Worker d) count place) token) (request_fault_from (Worker d) count (place + 1) more) (token_faults d count (place + 1) more)
    (token-shown (request.operand_at (Worker d) count place) token) (tokens-first d count (place + 1) more)

tokens-from : (n : ℕ) (d : Deed) (count place : ℕ) (tokens : List Token) → n ≤ 5 → AllFrom n (token_faults d count place tokens)
tokens-from n d count place [] l = refl
tokens-from n d count place (token ∷ more) l =
    let kind = request.operand_at (Worker d) count place in
    and_from _ _ (ranked-from n (request.operand_fault kind token) l (shown-ranked _ (token-shown kind token))) (tokens-from n d count (place + 1) more l)

-- the number of the worker is tested with the other tokens
seat-first : (seated : Bool) (found : Option Reason) (tests : List (Option Fault)) → IsShownFirst found tests
    → is_first (wrong (with_seat seated found)) (wrong_if (not seated) reason.OutOfRange ∷ tests) ≡ true
seat-first true found tests h = skip-none (wrong found) tests h.0
seat-first false None tests h = head-first (Wrong reason.OutOfRange) tests (none-from 7 tests h.0)
seat-first false (Some reason.UnknownName) tests h = head-first (Wrong reason.OutOfRange) tests (all-later 7 tests 9 (omega arith) (and_parts _ _ h.0).1)
seat-first false (Some reason.OutOfRange) tests h = head-first (Wrong reason.OutOfRange) tests (and_parts _ _ h.0).1
seat-first false (Some reason.BadNumber) tests h = h.0
seat-first false (Some reason.WrongForm) tests h = h.0
seat-first false (Some r) tests h = let shown = h.1 in cc

count-first : (counted seated : Bool) (found : Option Reason) (tests : List (Option Fault)) → IsShownFirst found tests → AllFrom 4 tests
    → is_first (wrong (with_seat seated (if counted then found else Some reason.WrongCount))) (wrong_if (not counted) reason.WrongCount ∷ wrong_if (not seated) reason.OutOfRange ∷ tests) ≡ true
count-first true seated found tests h from = skip-none (wrong (with_seat seated found)) _ (seat-first seated found tests h)
count-first false true found tests h from = head-first (Wrong reason.WrongCount) (None ∷ tests) from
count-first false false found tests h from = head-first (Wrong reason.WrongCount) (Some (Wrong reason.OutOfRange) ∷ tests) from

refused-unless : (found : Option Reason) (s : Statement) → refusal_of (unless_wrong found s) ≡ wrong found
refused-unless None s = refl
refused-unless (Some r) s = refl

deed-first : (deed : Result Deed Reason) (line : List Token) → is_first (refusal_of (deed_statement deed line)) (deed_faults deed line) ≡ true
deed-first (Err why) line = alone (Some (Wrong why))
deed-first (Ok d) line =
    subst (λ fault. is_first fault (deed_faults (Ok d) line) ≡ true) (sym (refused-unless (request_fault d line) (request_stated d line)))
    (count-first (request.is_counted (Worker d) line) (is_seated line) (request_fault_from (Worker d) (length line) 0 line) (token_faults d (length line) 0 line)
    (tokens-first d (length line) 0 line) (tokens-from 4 d (length line) 0 line (omega arith)))

request-first : (line : List Token) → is_first (refusal_of (request_statement line)) (request_faults line) ≡ true
request-first line = deed-first (deed_in (form_of line)) line

-- ---- lines

schedule-either : (asks : Bool) (section : Section) (base_is_stated : Bool) (tokens : List Token)
    → is_first (refusal_of (if asks then request_statement tokens else plain_statement section base_is_stated tokens))
    (if asks then request_faults tokens else plain_faults section base_is_stated tokens) ≡ true
schedule-either true section base_is_stated tokens = request-first tokens
schedule-either false section base_is_stated tokens = plain-first section base_is_stated tokens

own-either : (inside asks : Bool) (section : Section) (base_is_stated : Bool) (tokens : List Token)
    → is_first (refusal_of (if inside then insn_statement (insn_text tokens) else (if asks then request_statement tokens else plain_statement section base_is_stated tokens)))
    (if inside then insn_faults tokens else (if asks then request_faults tokens else plain_faults section base_is_stated tokens)) ≡ true
own-either true asks section base_is_stated tokens = subst (λ fault. is_first fault (insn_faults tokens) ≡ true) (sym (insn-refused (insn_text tokens))) (insn-first tokens)
own-either false asks section base_is_stated tokens = schedule-either asks section base_is_stated tokens

behind-none : (own faults : List (Option Fault)) (fault : Option Fault) → list_all is_none own ≡ true → is_first fault faults ≡ true → is_first fault (own ++ faults) ≡ true
behind-none [] faults fault none h = h
behind-none (None ∷ own) faults fault none h = skip-none fault (own ++ faults) (behind-none own faults fault none h)
behind-none (Some other ∷ own) faults fault none h = cc

refused-beside : (fault : Option Fault) (s : Statement) → refusal_of (unless_faulty fault s) ≡ fault
refused-beside None s = refl
refused-beside (Some fault) s = refl

beside-first : (A : Above) (stated : Result Statement Fault) (own : List (Option Fault)) → is_first (refusal_of stated) own ≡ true
    → is_first (refusal_of (beside A stated)) (own ++ stated_faults A stated) ≡ true
beside-first A (Ok s) own h =
    subst (λ fault. is_first fault (own ++ statement_faults s A) ≡ true) (sym (refused-beside (statement_fault s A) s))
    (behind-none own (statement_faults s A) (statement_fault s A) h (statement-first s A).found)
beside-first A (Err fault) own h = subst (λ faults. is_first (Some fault) faults ≡ true) (sym (append-nil own)) h

pub first_row_decides : (A : Above) (line : Result (List Token) Reason) → FirstRowDecides A line
first_row_decides A (Err r) = alone (Some (Wrong r))
first_row_decides A (Ok tokens) =
    beside-first A (tokens_statement A.section (is_some A.settings.pidbase) tokens) (own_faults A.section (is_some A.settings.pidbase) tokens)
    (own-either (in_filter A.section && not (ends_block tokens)) (in_schedule A.section && is_request tokens) A.section (is_some A.settings.pidbase) tokens)
