-- A plain line of a schedule states the steps that it says.
-- By computing what its tokens state, with their tests known, and by the names of deeds, of which none is a number.
use Rattle.std.proofs.Common.{◌≡◌, ℕ, ◌^◌, ◌<◌, ◌≤◌, ◌∙◌, List, [], ◌∷◌, Option, Some, None, refl, sym, ap, subst, inl, inr, arith, unwrap_or, if◌then◌else◌}
use Rattle.std.specs.Prelude.{Bool, IfSome, true, false, nat_le, Ok, ℤ, pos, int_le, bytes_eq, codes}
use Rattle.std.specs.Cmp.Lexicographic.{bytes_decides}
use Rattle.std.proofs.lemmas.Bool.{and_from, cases_Bool, le-leb, lt-ltb}
use Rattle.lex_core.specs.Numbers.{digits_value, number}
use Rattle.lex_core.specs.declared.line.Token.{Token}
use Rattle.lex_core.specs.declared.line.Token.TheVariants.{Bare, Quoted}
use Rattle.lex_core.specs.declared.reason.Reason.TheVariants.{BadNumber, OutOfRange}
use Rattle.bpf_filter.specs.Text.{below}
use Rattle.hist_model.specs.Names.{is_task_name}
use Rattle.script_reader.specs.declared.plain.PlainTurn.{PlainTurn}
use Rattle.script_reader.specs.declared.plain.PlainTurn.TheVariants as plain
use Rattle.script_reader.specs.declared.statement.Statement.TheVariants as states
use Rattle.script_reader.specs.declared.word.Section.TheVariants as section
use Rattle.script_reader.specs.declared.word.Word.TheVariants as word
use Rattle.script_reader.specs.Lines.{operands_statement, plain_statement, tokens_statement}
use Rattle.script_reader.specs.Operands.{earlier, fault_from, fault_unless, natural, number_fault}
use Rattle.script_reader.specs.Paths.{is_task_text, task_numbers}
use Rattle.script_reader.specs.Plain.{AreSound, AreStated, Counts, IsCount, Names, count_in}
use Rattle.script_reader.specs.Requests.{asks, request_statement}
use Rattle.step_requests.proofs.TaskNames.{task_sound}

-- ---- a number is no deed's name

other-text : (word name : List ℕ) (n : ℤ) → number word ≡ Some n → number name ≡ None → bytes_eq word name ≡ false
other-text word name n q e = elim (cases_Bool (bytes_eq word name)) [
  | inl h ↦ let same : word ≡ name = (bytes_decides word name).0 h in let none : Some n ≡ None = sym q ∙ ap number same ∙ e in cc
  | inr h ↦ h
]

asks-nothing : (word : List ℕ) (n : ℤ) → number word ≡ Some n → asks word ≡ false
unfolding digits_value
asks-nothing word n q = rw (
  other-text word (codes "act") n q refl,
  other-text word (codes "recv") n q refl,
  other-text word (codes "recv-raw") n q refl,
  other-text word (codes "open-mem") n q refl,
  other-text word (codes "open-base") n q refl,
  other-text word (codes "check") n q refl,
  other-text word (codes "read") n q refl,
  other-text word (codes "plant") n q refl,
  other-text word (codes "addfd") n q refl,
  other-text word (codes "addfd-raw") n q refl,
  other-text word (codes "addfd-result") n q refl,
  other-text word (codes "send") n q refl,
  other-text word (codes "send-raw") n q refl,
  other-text word (codes "let-go") n q refl,
) refl

-- ---- numbers within their ranges

no-number-fault : (least most n : ℕ) (o : Option ℤ) → o ≡ Some (pos n) → least ≤ n → n ≤ most → number_fault (natural least most) o ≡ None
no-number-fault least most n o q l m =
    ap (number_fault (natural least most)) q
    ∙ ap (λ b. fault_unless b OutOfRange) (and_from (int_le (pos least) (pos n)) (int_le (pos n) (pos most)) (le-leb least n l) (le-leb n most m))

-- such a number is read, where it is below the limit
limited : ℕ → Option ℤ → ℕ
limited limit o = unwrap_or (below limit (unwrap_or o (pos 0))) 0

limited-is : (limit n : ℕ) (o : Option ℤ) → o ≡ Some (pos n) → n < limit → limited limit o ≡ n
unfolding limited
limited-is limit n o q l = ap (λ o. unwrap_or (below limit (unwrap_or o (pos 0))) 0) q ∙ ap (λ b. unwrap_or (if b then Some n else None) 0) (lt-ltb n limit l)

-- ---- lines

task-once : (base : Bool) (who : List ℕ) → is_task_text who ≡ true → tokens_statement section.Schedule base (Bare (codes "t") ∷ Bare who ∷ []) ≡ Ok (states.Steps (task_numbers who) 1)
unfolding fault_from
task-once base who h = ap (λ b. operands_statement (earlier (fault_unless b BadNumber) None) word.Task (Bare who ∷ [])) h

task-often : (base : Bool) (who count : List ℕ) (n : ℕ) → is_task_text who ≡ true → IsCount count n
    → tokens_statement section.Schedule base (Bare (codes "t") ∷ Bare who ∷ Bare count ∷ []) ≡ Ok (states.Steps (task_numbers who) n)
unfolding fault_from limited
task-often base who count n h c =
    let operands : List Token = Bare who ∷ Bare count ∷ [] in
    ap (λ b. operands_statement (earlier (fault_unless b BadNumber) (earlier (number_fault (natural 1 200000) (number count)) None)) word.Task operands) h
    ∙ ap (λ fault. operands_statement (earlier fault None) word.Task operands) (no-number-fault 1 200000 n (number count) c.0 c.1 c.2)
    ∙ ap (λ m. Ok (states.Steps (task_numbers who) m)) (limited-is (2 ^ 32) n (number count) c.0 (omega (arith, c.2)))

worker-once : (base : Bool) (who : List ℕ) (k : ℕ) → number who ≡ Some (pos k) → k < 16
    → tokens_statement section.Schedule base (Bare (codes "w") ∷ Bare who ∷ []) ≡ Ok (states.Counts k 1)
unfolding fault_from limited
worker-once base who k q l =
    let operands : List Token = Bare who ∷ [] in
    ap (λ fault. operands_statement (earlier fault None) word.Worker operands) (no-number-fault 0 15 k (number who) q (omega arith) (omega arith))
    ∙ ap (λ m. Ok (states.Counts m 1)) (limited-is (2 ^ 8) k (number who) q (omega arith))

worker-often : (base : Bool) (who count : List ℕ) (k n : ℕ) → number who ≡ Some (pos k) → k < 16 → IsCount count n
    → tokens_statement section.Schedule base (Bare (codes "w") ∷ Bare who ∷ Bare count ∷ []) ≡ Ok (states.Counts k n)
unfolding fault_from limited
worker-often base who count k n q l c =
    let operands : List Token = Bare who ∷ Bare count ∷ [] in
    let tokens : List Token = Bare (codes "w") ∷ operands in
    ap (λ b. if b then request_statement tokens else plain_statement section.Schedule base tokens) (asks-nothing count (pos n) c.0)
    ∙ ap (λ fault. operands_statement (earlier fault (earlier (number_fault (natural 1 200000) (number count)) None)) word.Worker operands) (no-number-fault 0 15 k (number who) q (omega arith) (omega arith))
    ∙ ap (λ fault. operands_statement (earlier fault None) word.Worker operands) (no-number-fault 1 200000 n (number count) c.0 c.1 c.2)
    ∙ ap (λ m. Ok (states.Counts m (limited (2 ^ 32) (number count)))) (limited-is (2 ^ 8) k (number who) q (omega arith))
    ∙ ap (λ m. Ok (states.Counts k m)) (limited-is (2 ^ 32) n (number count) c.0 (omega (arith, c.2)))

-- what a plain line states
plainly-stated : (word who : List ℕ) (more : List Token) (turn : PlainTurn) → Names word who turn → Counts more (count_in turn) → AreStated section.Schedule (Bare word ∷ Bare who ∷ more) turn
plainly-stated word who [] (plain.Task name count) m c = λ base.
    ap (λ w. tokens_statement section.Schedule base (Bare w ∷ Bare who ∷ [])) m.0
    ∙ task-once base who m.2
    ∙ ap (λ t. Ok (states.Steps (task_numbers t) 1)) (sym m.1)
    ∙ ap (λ k. Ok (states.Steps (task_numbers name.now) k)) (sym c)
plainly-stated word who [] (plain.Worker worker count) m c = λ base.
    ap (λ w. tokens_statement section.Schedule base (Bare w ∷ Bare who ∷ [])) m.0
    ∙ worker-once base who worker m.1 m.2
    ∙ ap (λ k. Ok (states.Counts worker k)) (sym c)
plainly-stated word who (Bare times ∷ []) (plain.Task name count) m c = λ base.
    ap (λ w. tokens_statement section.Schedule base (Bare w ∷ Bare who ∷ Bare times ∷ [])) m.0
    ∙ task-often base who times count m.2 c
    ∙ ap (λ t. Ok (states.Steps (task_numbers t) count)) (sym m.1)
plainly-stated word who (Bare times ∷ []) (plain.Worker worker count) m c = λ base.
    ap (λ w. tokens_statement section.Schedule base (Bare w ∷ Bare who ∷ Bare times ∷ [])) m.0
    ∙ worker-often base who times worker count m.1 m.2 c
plainly-stated word who (Quoted bytes ∷ []) turn m c = absurd c
plainly-stated word who (token ∷ other ∷ more) turn m c = absurd (no-more token other more c)
  where
    no-more : (token other : Token) (more : List Token) → Counts (token ∷ other ∷ more) (count_in turn) → ⊥
    no-more (Bare times) other more c = c
    no-more (Quoted bytes) other more c = c

least : (more : List Token) (n : ℕ) → Counts more n → nat_le 1 n ≡ true
least [] n c = ap (nat_le 1) c
least (Bare times ∷ []) n c = le-leb 1 n c.1
least (Quoted bytes ∷ []) n c = absurd c
least (Bare times ∷ other ∷ more) n c = absurd c
least (Quoted bytes ∷ other ∷ more) n c = absurd c

plainly-sound : (word who : List ℕ) (more : List Token) (turn : PlainTurn) → Names word who turn → Counts more (count_in turn) → AreSound turn
plainly-sound word who more (plain.Task name count) m c = λ p base. (subst (λ t. is_task_name (task_numbers t) ≡ true) (sym m.1) (task_sound who m.2), least more count c)
plainly-sound word who more (plain.Worker worker count) m c = λ p base. (lt-ltb worker 16 m.2, least more count c)

-- ---- what is read of a plain line

pub scheduled_told : (word who : List ℕ) (more tokens : List Token) (count : ℕ) (turn : Option PlainTurn) → tokens ≡ Bare word ∷ Bare who ∷ more → Counts more count
    → IfSome turn (Names word who) → IfSome turn (λ t. count_in t ≡ count) → IfSome turn (AreStated section.Schedule tokens) × IfSome turn AreSound
scheduled_told word who more tokens count None is c n k = (tt, tt)
scheduled_told word who more tokens count (Some turn) is c n k =
    let counted : Counts more (count_in turn) = subst (Counts more) (sym k) c in
    (subst (λ line. AreStated section.Schedule line turn) (sym is) (plainly-stated word who more turn n counted), plainly-sound word who more turn n counted)
