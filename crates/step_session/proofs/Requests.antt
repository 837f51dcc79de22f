-- A request that was read is one that may be asked: a task has a name of the form, and a worker has a seat.
-- By cases on what the line is read as, and on the text that names a task.
use Rattle.std.proofs.Common.{◌≡◌, ℕ, suc, ◌<◌, Bool, true, false, List, [], ◌∷◌, length, Option, Some, None, refl, subst, inl, inr, arith}
use Rattle.std.specs.Prelude.{Result, Ok, Err, ◌&&◌, nat_le, nat_lt, if◌then◌else◌, ℤ, pos, negsuc}
use Rattle.std.proofs.lemmas.Bool.{cases_Bool, leb-true, ltb-true}
use Rattle.lex_core.specs.Lexical.{tokens}
use Rattle.lex_core.specs.Lines.{Numbered, lines_after}
use Rattle.lex_core.specs.declared.line.Token.{Token}
use Rattle.lex_core.specs.declared.line.Token.TheVariants.{Bare, Quoted}
use Rattle.lex_core.specs.declared.reason.Reason.{Reason}
use Rattle.lex_core.specs.declared.reason.Reason.TheVariants.{BadNumber, WrongCount}
use Rattle.step_session.specs.Answers.{IsAsked}
use Rattle.step_requests.specs.Names.{is_task_text}
use Rattle.step_requests.proofs.TaskNames.{task_sound}
use Rattle.step_requests.specs.Numbers.{below}
use Rattle.step_requests.specs.Operands.{earlier, fault_from, fault_unless, is_counted, line_fault, operand_fault, rank}
use Rattle.step_requests.specs.Readings.{first_read, read_as, read_tokens, reads, unless_faulty}
use Rattle.step_requests.specs.Requests.{asked, by_worker, bytes_at, number_at, request, token_bytes, worker_at}
use Rattle.step_requests.specs.Words.{form_of}
use Rattle.step_requests.specs.declared.fault.LineFault.{LineFault}
use Rattle.step_requests.specs.declared.operand.Operand.TheVariants as operand
use Rattle.step_requests.specs.declared.request.Asked.{Asked}
use Rattle.step_requests.specs.declared.request.StepRequest.{StepRequest}
use Rattle.step_requests.specs.declared.word.Form.{Form}
use Rattle.step_requests.specs.declared.word.Form.TheVariants as form

-- ---- tests

and-right : (a b : Bool) → (a && b) ≡ true → b ≡ true
and-right true b h = h
and-right false b h = cc

-- ---- the operand that names a task

earlier-later : (x y : Option Reason) → earlier x y ≡ None → y ≡ None
earlier-later None y h = h
earlier-later (Some why) None h = cc
earlier-later (Some why) (Some other) h = absurd (by (nat_le (rank why) (rank other)) h)
  where
    by : (b : Bool) → (if b then Some why else Some other) ≡ None → ⊥
    by true e = cc
    by false e = cc

earlier-first : (x : Option Reason) → earlier x None ≡ None → x ≡ None
earlier-first None h = refl
earlier-first (Some why) h = cc

faultless : (b : Bool) (why : Reason) → fault_unless b why ≡ None → b ≡ true
faultless true why h = refl
faultless false why h = cc

task-token : (token : Token) → operand_fault operand.Task token ≡ None → is_task_text (token_bytes token) ≡ true
task-token (Bare bytes) h = faultless (is_task_text bytes) BadNumber h
task-token (Quoted bytes) h = cc

counted : (b : Bool) (x : Option Reason) → (if b then x else Some WrongCount) ≡ None → b ≡ true
counted true x h = refl
counted false x h = cc

too-many : (n : ℕ) → nat_le (suc (suc (suc n))) 2 ≡ true → ⊥
too-many n h = let l = leb-true (suc (suc (suc n))) 2 h in omega arith

task-line : (line : List Token) → line_fault form.Task line ≡ None → is_task_text (bytes_at line 1) ≡ true
unfolding fault_from
task-line [] h = cc
task-line (a ∷ []) h = cc
task-line (a ∷ b ∷ []) h =
    task-token b (earlier-first (operand_fault operand.Task b) (earlier-later (operand_fault operand.Word a) (earlier (operand_fault operand.Task b) None) h))
task-line (a ∷ b ∷ c ∷ more) h =
    let line = a ∷ b ∷ c ∷ more in
    let is = counted (is_counted form.Task line) (fault_from form.Task (length line) 0 line) h in
    absurd (too-many (length more) (and-right (nat_le 2 (length line)) (nat_le (length line) 2) is))

-- ---- requests

ok-same : {a b : StepRequest} → ◌≡◌ {A = Result StepRequest LineFault} (Ok a) (Ok b) → a ≡ b
ok-same e = cc

seat-below : (z : ℤ) (k : ℕ) → below 16 z ≡ Some k → k < 16
seat-below (pos n) k h = elim (cases_Bool (nat_lt n 16)) [
  | inl less ↦
      let is : Some n ≡ Some k = rw less at h in
      let same : n ≡ k = cc in
      let low = ltb-true n 16 less in
      omega arith
  | inr more ↦ let is : ◌≡◌ {A = Option ℕ} None (Some k) = rw more at h in cc
]
seat-below (negsuc n) k h = cc

by-seat : (number : Option ℕ) (what : Asked) (r : StepRequest) → ((k : ℕ) → number ≡ Some k → k < 16) → by_worker number what ≡ Ok r → IsAsked r
by-seat (Some n) what r low h = let l = low n refl in subst IsAsked (ok-same h) (omega arith)
by-seat None what r low h = cc

of-form : (f : Form) (line : List Token) (r : StepRequest) → line_fault f line ≡ None → request f line ≡ Ok r → IsAsked r
of-form form.Able line r fine h = subst IsAsked (ok-same h) tt
of-form form.Task line r fine h = subst IsAsked (ok-same h) (task_sound (bytes_at line 1) (task-line line fine))
of-form (form.Worker d) line r fine h = by-seat (worker_at line) (asked d line) r (seat-below (number_at line 1)) h
of-form form.Report line r fine h = subst IsAsked (ok-same h) tt
of-form form.Script line r fine h = subst IsAsked (ok-same h) tt
of-form (form.Judge idle) line r fine h = subst IsAsked (ok-same h) tt
of-form (form.Look a) line r fine h = subst IsAsked (ok-same h) tt
of-form form.Close line r fine h = subst IsAsked (ok-same h) tt

of-fault : (fault : Option Reason) (f : Form) (line : List Token) (r : StepRequest) → line_fault f line ≡ fault → unless_faulty fault f line ≡ Ok r → IsAsked r
of-fault (Some why) f line r fine h = cc
of-fault None f line r fine h = of-form f line r fine h

of-words : (f : Result Form Reason) (line : List Token) (r : StepRequest) → read_as f line ≡ Ok r → IsAsked r
of-words (Err why) line r h = cc
of-words (Ok f) line r h = of-fault (line_fault f line) f line r refl h

of-tokens : (line : Result (List Token) Reason) (r : StepRequest) → read_tokens line ≡ Ok r → IsAsked r
of-tokens (Err why) r h = cc
of-tokens (Ok line) r h = of-words (form_of line) line r h

of-lines : (lines : List Numbered) (r : StepRequest) → first_read lines ≡ Ok r → IsAsked r
of-lines [] r h = cc
of-lines (line ∷ lines) r h = of-tokens (tokens line.bytes) r h

pub may_be_asked : (line : List ℕ) (r : StepRequest) → reads line ≡ Ok r → IsAsked r
may_be_asked line r h = of-lines (lines_after 0 line) r h
