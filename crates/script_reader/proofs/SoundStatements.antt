-- A line without a fault of its operands keeps their limits.
-- By cases on the word of the line and on its first operand, and by induction on the numbers of a task's name.
use Rattle.std.proofs.Common.{◌≡◌, ℕ, ◌^◌, ◌<◌, ◌≤◌, ◌∙◌, List, [], ◌∷◌, length, Option, Some, None, refl, sym, subst, inl, inr, arith, unwrap_or, if◌then◌else◌}
use Rattle.std.specs.Prelude.{Bool, true, false, nat_le, nat_lt, ◌&&◌, not, ℤ, pos, negsuc, int_le, int_lt, bytes_eq}
use Rattle.std.specs.Option.{option_map}
use Rattle.std.specs.List.{list_all}
use Rattle.std.proofs.lemmas.List.{length-map}
use Rattle.std.proofs.lemmas.Bool.{cases_Bool, and_from, and_parts, both_ways, leb-true, le-leb, lt-ltb}
use Rattle.std.proofs.lemmas.Bool.Decides.{nat_tests}
use Rattle.lex_core.specs.declared.line.Token.{Token}
use Rattle.lex_core.specs.declared.line.Token.TheVariants.{Bare, Quoted}
use Rattle.lex_core.specs.declared.reason.Reason.{Reason}
use Rattle.lex_core.specs.declared.reason.Reason.TheVariants.{WrongCount}
use Rattle.lex_core.specs.Numbers.{number}
use Rattle.bpf_filter.specs.Text.{below, number_at}
use Rattle.hist_model.specs.Names.{is_child_number, is_task_name}
use Rattle.hist_model.specs.Ranges.{is_page_address}
use Rattle.hist_model.specs.ScriptRules.{is_call_number, is_instruction, may_be_handled, may_be_sent}
use Rattle.hist_model.specs.TreeLines.{is_device, is_text}
use Rattle.sys_abi.specs.Calls.{calls}
use Rattle.sys_abi.specs.Names.{number_in}
use Rattle.script_reader.specs.declared.operand.Addressee.{Addressee}
use Rattle.script_reader.specs.declared.operand.Addressee.TheVariants as addressee
use Rattle.script_reader.specs.declared.operand.Operand.TheVariants as operand
use Rattle.script_reader.specs.declared.word.Section.{Section}
use Rattle.script_reader.specs.declared.word.Word.{Word}
use Rattle.script_reader.specs.declared.word.Word.TheVariants as word
use Rattle.script_reader.specs.Lines.{comes_late, is_in_place}
use Rattle.script_reader.specs.Operands.{addressee_in, begins_number, earlier, fault_from, fault_unless, is_addressee, is_counted, is_handled_signal, is_page, is_sent_signal, kill_counts, kill_number, natural, number_fault, operand_at, operand_fault, operands_fault, rank}
use Rattle.script_reader.specs.Paths.{is_path, task_numbers}
use Rattle.step_requests.proofs.TaskNames.{task_sound}
use Rattle.script_reader.specs.Rules.{IsSound, has_pages, starts_nothing}
use Rattle.script_reader.specs.Statements.{statement, byte_at, bytes_at, call_at, call_named, calls_named, count_at, kill_of, limited_at, poke_of, wide_at, word_at}
use Rattle.script_reader.specs.Words.{belongs}

-- ---- what the first operand shows

passed : (passes : Bool) (reason : Reason) → fault_unless passes reason ≡ None → passes ≡ true
passed true reason h = refl
passed false reason h = cc

where_counted : (counted : Bool) (fault : Option Reason) → (if counted then fault else Some WrongCount) ≡ None → fault ≡ None
where_counted true fault h = h
where_counted false fault h = cc

is-counted : (counted : Bool) (fault : Option Reason) → (if counted then fault else Some WrongCount) ≡ None → counted ≡ true
is-counted true fault h = refl
is-counted false fault h = cc

one-of-two : (b : Bool) (r s : Reason) → (if b then Some r else Some s) ≡ None → Some r ≡ None
one-of-two true r s h = h
one-of-two false r s h = cc

some-none : (r : Reason) → Some r ≡ None → ⊥
some-none r h = cc

earlier-first : (first later : Option Reason) → earlier first later ≡ None → first ≡ None
earlier-first None later h = refl
earlier-first (Some r) None h = h
earlier-first (Some r) (Some s) h = one-of-two (nat_le (rank r) (rank s)) r s h

faults-first : (w : Word) (operands : List Token) (token : Token) (more : List Token)
    → fault_from w operands 0 (token ∷ more) ≡ None → operand_fault (operand_at w operands 0) token ≡ None
unfolding fault_from
faults-first w operands token more h = earlier-first _ _ h

first-fine : (w : Word) (token : Token) (more : List Token) → operands_fault w (token ∷ more) ≡ None → operand_fault (operand_at w (token ∷ more) 0) token ≡ None
first-fine w token more h = faults-first w (token ∷ more) token more (where_counted (is_counted w (token ∷ more)) _ h)

earlier-then : (first later : Option Reason) → earlier first later ≡ None → later ≡ None
earlier-then None later h = h
earlier-then (Some r) None h = refl
earlier-then (Some r) (Some s) h = absurd (some-none _ (one-of-two (nat_le (rank r) (rank s)) r s h))

faults-second : (w : Word) (operands : List Token) (one two : Token) (more : List Token)
    → fault_from w operands 0 (one ∷ two ∷ more) ≡ None → operand_fault (operand_at w operands 1) two ≡ None
unfolding fault_from
faults-second w operands one two more h = earlier-first _ _ (earlier-then _ _ h)

faults-third : (w : Word) (operands : List Token) (one two three : Token) (more : List Token)
    → fault_from w operands 0 (one ∷ two ∷ three ∷ more) ≡ None → operand_fault (operand_at w operands 2) three ≡ None
unfolding fault_from
faults-third w operands one two three more h = earlier-first _ _ (earlier-then _ _ (earlier-then _ _ h))

second-fine : (w : Word) (one two : Token) (more : List Token) → operands_fault w (one ∷ two ∷ more) ≡ None → operand_fault (operand_at w (one ∷ two ∷ more) 1) two ≡ None
second-fine w one two more h = faults-second w (one ∷ two ∷ more) one two more (where_counted (is_counted w (one ∷ two ∷ more)) _ h)

third-fine : (w : Word) (one two three : Token) (more : List Token)
    → operands_fault w (one ∷ two ∷ three ∷ more) ≡ None → operand_fault (operand_at w (one ∷ two ∷ three ∷ more) 2) three ≡ None
third-fine w one two three more h = faults-third w (one ∷ two ∷ three ∷ more) one two three more (where_counted (is_counted w (one ∷ two ∷ three ∷ more)) _ h)

-- ---- numbers

limited : (limit n most : ℕ) → n ≤ most → unwrap_or (if nat_lt n limit then Some n else None) 0 ≤ most
limited limit n most h = grind arith

in-range : (limit least most : ℕ) (n : Option ℤ) → number_fault (natural least most) n ≡ None → unwrap_or (below limit (unwrap_or n (pos 0))) 0 ≤ most
in-range limit least most None h = cc
in-range limit least most (Some (pos n)) h = limited limit n most (leb-true n most (and_parts _ _ (passed _ _ h)).1)
in-range limit least most (Some (negsuc n)) h = omega arith

word-range : (least most : ℕ) (token : Token) (more : List Token) → operand_fault (natural least most) token ≡ None → word_at (token ∷ more) 0 ≤ most
word-range least most (Bare word) more h = in-range (2 ^ 32) least most _ h
word-range least most (Quoted bytes) more h = cc

byte-range : (least most : ℕ) (token : Token) (more : List Token) → operand_fault (natural least most) token ≡ None → byte_at (token ∷ more) 0 ≤ most
byte-range least most (Bare word) more h = in-range (2 ^ 8) least most _ h
byte-range least most (Quoted bytes) more h = cc

pidmax-range : (operands : List Token) → operands_fault word.Pidmax operands ≡ None → word_at operands 0 ≤ 4194304
pidmax-range [] h = cc
pidmax-range (token ∷ more) h = word-range 1 4194304 token more (first-fine word.Pidmax token more h)

worker-range : (operands : List Token) → operands_fault word.Worker operands ≡ None → nat_lt (byte_at operands 0) 16 ≡ true
worker-range [] h = cc
worker-range (token ∷ more) h =
    let most : byte_at (token ∷ more) 0 ≤ 15 = byte-range 0 15 token more (first-fine word.Worker token more h) in
    lt-ltb _ _ (omega arith)

-- a `pidmax` in its place stands before a `pidbase`
no-base : (base_is_stated : Bool) → not base_is_stated ≡ true → base_is_stated ≡ false
no-base true h = cc
no-base false h = refl

-- ---- names of tasks

token-sound : (token : Token) (more : List Token) → operand_fault operand.Task token ≡ None → is_task_name (task_numbers (bytes_at (token ∷ more) 0)) ≡ true
token-sound (Bare text) more h = task_sound text (passed _ _ h)
token-sound (Quoted bytes) more h = cc

task-named : (operands : List Token) → operands_fault word.Task operands ≡ None → is_task_name (task_numbers (bytes_at operands 0)) ≡ true
task-named [] h = cc
task-named (token ∷ more) h = token-sound token more (first-fine word.Task token more h)

-- ---- calls

counted : (operands : List Token) → is_counted word.Notify operands ≡ true → length operands ≤ 64
counted operands h = grind arith

uncounted : (operands : List Token) → is_counted word.Notify operands ≡ false → operands_fault word.Notify operands ≡ None → length operands ≤ 64
uncounted operands n h = grind arith

few-named : (operands : List Token) → length operands ≤ 64 → length (calls_named operands) ≤ 64
few-named operands h = rw length-map h

few-calls : (operands : List Token) → operands_fault word.Notify operands ≡ None → length (calls_named operands) ≤ 64
few-calls operands h =
    few-named operands (elim (cases_Bool (is_counted word.Notify operands)) [ inl y ↦ counted operands y | inr n ↦ uncounted operands n h ])

-- ---- least numbers, and texts

not-below : (limit least most n : ℕ) → least ≤ n → n ≤ most → most < limit → nat_le least (unwrap_or (if nat_lt n limit then Some n else None) 0) ≡ true
not-below limit least most n l m w = rw (lt-ltb n limit (omega arith)) (le-leb least n l)

at-least : (limit least most : ℕ) (n : Option ℤ) → most < limit → number_fault (natural least most) n ≡ None → nat_le least (unwrap_or (below limit (unwrap_or n (pos 0))) 0) ≡ true
at-least limit least most None w h = cc
at-least limit least most (Some (pos n)) w h =
    let ranges = and_parts (int_le (pos least) (pos n)) (int_le (pos n) (pos most)) (passed _ _ h) in
    not-below limit least most n (leb-true least n ranges.0) (leb-true n most ranges.1) w
at-least limit least most (Some (negsuc n)) w h = cc

word-least : (least most : ℕ) (token : Token) (more : List Token) → most < 2 ^ 32 → operand_fault (natural least most) token ≡ None → nat_le least (word_at (token ∷ more) 0) ≡ true
word-least least most (Bare word) more w h = at-least (2 ^ 32) least most _ w h
word-least least most (Quoted bytes) more w h = cc

word-most : (least most : ℕ) (token : Token) (more : List Token) → operand_fault (natural least most) token ≡ None → nat_le (word_at (token ∷ more) 0) most ≡ true
word-most least most token more h = le-leb (word_at (token ∷ more) 0) most (word-range least most token more h)

text-range : (least most : ℕ) (token : Token) (more : List Token) → operand_fault (operand.Text least most false) token ≡ None → is_text least most (bytes_at (token ∷ more) 0) ≡ true
text-range least most (Bare word) more h = cc
text-range least most (Quoted bytes) more h = passed _ _ h

-- a text in which zero bytes may stand
free-text : (least most : ℕ) (token : Token) (more : List Token) → operand_fault (operand.Text least most true) token ≡ None
    → (nat_le least (length (bytes_at (token ∷ more) 0)) && nat_le (length (bytes_at (token ∷ more) 0)) most) ≡ true
free-text least most (Bare word) more h = cc
free-text least most (Quoted bytes) more h = (and_parts (nat_le least (length bytes) && nat_le (length bytes) most) true (passed _ _ h)).0

-- ---- settings

rlimit-range : (operands : List Token) → operands_fault word.Rlimit operands ≡ None → word_at operands 0 ≤ 4096
rlimit-range [] h = cc
rlimit-range (token ∷ more) h = word-range 0 4096 token more (first-fine word.Rlimit token more h)

some-pid : (operands : List Token) → operands_fault word.Pidmax operands ≡ None → 1 ≤ word_at operands 0
some-pid [] h = cc
some-pid (token ∷ more) h = leb-true 1 (word_at (token ∷ more) 0) (word-least 1 4194304 token more (omega arith) (first-fine word.Pidmax token more h))

descriptor-range : (operands : List Token) → operands_fault word.Broker operands ≡ None → nat_le (word_at operands 0) 1023 ≡ true
descriptor-range [] h = cc
descriptor-range (token ∷ more) h = word-most 0 1023 token more (first-fine word.Broker token more h)

page-some : (n : Option ℕ) → is_page n ≡ true → is_page_address (unwrap_or n 0) ≡ true
page-some None h = cc
page-some (Some n) h = h

page-number : (n : Option ℤ) → number_fault operand.Page n ≡ None → is_page_address (unwrap_or (below (2 ^ 64) (unwrap_or n (pos 0))) 0) ≡ true
page-number None h = cc
page-number (Some n) h = page-some (below (2 ^ 64) n) (passed _ _ h)

page-token : (token : Token) (more : List Token) → operand_fault operand.Page token ≡ None → is_page_address (wide_at (token ∷ more) 0) ≡ true
page-token (Bare bytes) more h = page-number (number bytes) h
page-token (Quoted bytes) more h = cc

pages-range : (operands : List Token) → operands_fault word.Map operands ≡ None → has_pages (record { start = wide_at operands 0; pages = word_at operands 1 }) ≡ true
pages-range [] h = cc
pages-range (one ∷ []) h = cc
pages-range (one ∷ two ∷ more) h =
    let count = second-fine word.Map one two more h in
    and_from _ _
    (and_from _ _ (page-token one (two ∷ more) (first-fine word.Map one (two ∷ more) h)) (word-least 1 64 two more (omega arith) count))
    (word-most 1 64 two more count)

-- ---- the tree

path-token : (token : Token) (more : List Token) → operand_fault operand.Path token ≡ None → is_path (bytes_at (token ∷ more) 0) ≡ true
path-token (Bare word) more h = cc
path-token (Quoted bytes) more h = passed _ _ h

-- the first operand of a node's line is a path
path-sound : (w : Word) (operands : List Token) → is_counted w [] ≡ false → ((ops : List Token) → operand_at w ops 0 ≡ operand.Path) → operands_fault w operands ≡ None
    → is_path (bytes_at operands 0) ≡ true
path-sound w [] counted first h = absurd (both_ways (is_counted w []) counted (is-counted (is_counted w []) _ h))
path-sound w (token ∷ more) counted first h = path-token token more (subst (λ o. operand_fault o token ≡ None) (first (token ∷ more)) (first-fine w token more h))

link-sound : (operands : List Token) → operands_fault word.Link operands ≡ None → is_text 1 4095 (bytes_at operands 1) ≡ true
link-sound [] h = cc
link-sound (one ∷ []) h = cc
link-sound (one ∷ two ∷ more) h = text-range 1 4095 two more (second-fine word.Link one two more h)

chr-sound : (operands : List Token) → operands_fault word.Chr operands ≡ None → is_device (word_at operands 1) (word_at operands 2) ≡ true
chr-sound [] h = cc
chr-sound (one ∷ []) h = cc
chr-sound (one ∷ two ∷ []) h = cc
chr-sound (one ∷ two ∷ three ∷ more) h =
    and_from _ _ (word-most 0 4095 two (three ∷ more) (second-fine word.Chr one two (three ∷ more) h)) (word-most 0 1048575 three more (third-fine word.Chr one two three more h))

blk-sound : (operands : List Token) → operands_fault word.Blk operands ≡ None → is_device (word_at operands 1) (word_at operands 2) ≡ true
blk-sound [] h = cc
blk-sound (one ∷ []) h = cc
blk-sound (one ∷ two ∷ []) h = cc
blk-sound (one ∷ two ∷ three ∷ more) h =
    and_from _ _ (word-most 0 4095 two (three ∷ more) (second-fine word.Blk one two (three ∷ more) h)) (word-most 0 1048575 three more (third-fine word.Blk one two three more h))

attr-sound : (operands : List Token) → operands_fault word.Attr operands ≡ None → (is_text 1 255 (bytes_at operands 1) ≡ true) × (nat_le (length (bytes_at operands 2)) 4096 ≡ true)
attr-sound [] h = cc
attr-sound (one ∷ []) h = cc
attr-sound (one ∷ two ∷ []) h = cc
attr-sound (one ∷ two ∷ three ∷ more) h = (
  text-range 1 255 two (three ∷ more) (second-fine word.Attr one two (three ∷ more) h),
  (and_parts (nat_le 0 (length (bytes_at (three ∷ more) 0))) (nat_le (length (bytes_at (three ∷ more) 0)) 4096) (free-text 0 4096 three more (third-fine word.Attr one two three more h))).1,
)

-- ---- instructions

poke-sound : (operands : List Token) → operands_fault word.Poke operands ≡ None → is_instruction (poke_of operands) ≡ true
poke-sound [] h = cc
poke-sound (one ∷ []) h = cc
poke-sound (one ∷ two ∷ more) h = free-text 1 65536 two more (second-fine word.Poke one two more h)

fill-sound : (operands : List Token) → operands_fault word.Fill operands ≡ None → (nat_le 1 (word_at operands 1) && nat_le (word_at operands 1) 65536) ≡ true
fill-sound [] h = cc
fill-sound (one ∷ []) h = cc
fill-sound (one ∷ two ∷ more) h =
    let count = second-fine word.Fill one two more h in
    and_from _ _ (word-least 1 65536 two more (omega arith) count) (word-most 1 65536 two more count)

below-limit : (limit n : ℕ) → 0 < limit → nat_lt (unwrap_or (if nat_lt n limit then Some n else None) 0) limit ≡ true
below-limit limit n s = elim (cases_Bool (nat_lt n limit)) [ inl e ↦ rw e e | inr e ↦ rw e (lt-ltb 0 limit s) ]

number-below : (limit : ℕ) (n : ℤ) → 0 < limit → nat_lt (unwrap_or (below limit n) 0) limit ≡ true
number-below limit (pos n) s = below-limit limit n s
number-below limit (negsuc n) s = lt-ltb 0 limit s

small-in : (table : List (ℕ × List ℕ)) (name : List ℕ) → list_all (λ row. nat_lt row.0 (2 ^ 31)) table ≡ true → nat_lt (unwrap_or (number_in table name) 0) (2 ^ 31) ≡ true
small-in [] name h = refl
small-in (row ∷ rows) name h = elim (cases_Bool (bytes_eq row.1 name)) [
  | inl e ↦ rw e ((and_parts _ _ h).0)
  | inr e ↦ rw e (small-in rows name (and_parts _ _ h).1)
]

number-sound : (n : ℕ) → nat_lt n (2 ^ 31) ≡ true → is_call_number (pos n) ≡ true
number-sound n h = and_from (int_le (pos 0) (pos n)) (int_lt (pos n) (pos (2 ^ 31))) (le-leb 0 n (omega arith)) h

named-sound : (n : Option ℕ) → nat_lt (unwrap_or n 0) (2 ^ 31) ≡ true → is_call_number (unwrap_or (option_map pos n) (pos 0)) ≡ true
named-sound None h = refl
named-sound (Some n) h = number-sound n h

either-sound : (numbered : Bool) (one other : ℤ) → is_call_number one ≡ true → is_call_number other ≡ true → is_call_number (if numbered then one else other) ≡ true
either-sound true one other h g = h
either-sound false one other h g = g

call-sound : (operands : List Token) → is_call_number (call_at operands 0) ≡ true
call-sound operands =
    either-sound (begins_number (bytes_at operands 0)) (pos (limited_at (2 ^ 31) operands 0)) (call_named (bytes_at operands 0))
    (number-sound _ (number-below (2 ^ 31) (number_at operands 0) (omega arith)))
    (named-sound (number_in calls (bytes_at operands 0)) (small-in calls (bytes_at operands 0) refl))

-- a number that passes such a test is one of a byte
byte-passes : (test : ℕ → Bool) (tests : Option ℕ → Bool) → tests None ≡ false → ((n : ℕ) → tests (Some n) ≡ test n) → ((n : ℕ) → test n ≡ true → n < 256)
    → (n : ℤ) → tests (below (2 ^ 64) n) ≡ true → test (unwrap_or (below (2 ^ 8) n) 0) ≡ true
byte-passes test tests none some small (pos n) h = elim (cases_Bool (nat_lt n (2 ^ 64))) [
  | inl e ↦
      let passes : test n ≡ true = sym (some n) ∙ (rw e at h) in
      rw (lt-ltb n (2 ^ 8) (small n passes)) passes
  | inr e ↦ absurd (both_ways (tests None) none (rw e at h))
]
byte-passes test tests none some small (negsuc n) h = absurd (both_ways (tests None) none h)

sent-small : (n : ℕ) → may_be_sent n ≡ true → n < 256
sent-small n h = grind (arith, nat_tests)

handled-small : (n : ℕ) → may_be_handled n ≡ true → n < 256
handled-small n h = grind (arith, nat_tests)

sent-number : (n : Option ℤ) → number_fault operand.Signal n ≡ None → may_be_sent (unwrap_or (below (2 ^ 8) (unwrap_or n (pos 0))) 0) ≡ true
sent-number None h = cc
sent-number (Some n) h = byte-passes may_be_sent is_sent_signal refl (λ n. refl) sent-small n (passed _ _ h)

handled-number : (n : Option ℤ) → number_fault operand.Handled n ≡ None → may_be_handled (unwrap_or (below (2 ^ 8) (unwrap_or n (pos 0))) 0) ≡ true
handled-number None h = cc
handled-number (Some n) h = byte-passes may_be_handled is_handled_signal refl (λ n. refl) handled-small n (passed _ _ h)

sent-token : (token : Token) (more : List Token) → operand_fault operand.Signal token ≡ None → may_be_sent (byte_at (token ∷ more) 0) ≡ true
sent-token (Bare bytes) more h = sent-number (number bytes) h
sent-token (Quoted bytes) more h = cc

handler-sound : (operands : List Token) → operands_fault word.Handler operands ≡ None → may_be_handled (byte_at operands 0) ≡ true
handler-sound [] h = cc
handler-sound (Bare bytes ∷ more) h = handled-number (number bytes) (first-fine word.Handler (Bare bytes) more h)
handler-sound (Quoted bytes ∷ more) h = absurd (some-none _ (first-fine word.Handler (Quoted bytes) more h))

kill-counted : (who : Addressee) (operands : List Token) → addressee_in operands ≡ who → operands_fault word.Kill operands ≡ None
    → (nat_le (kill_counts who).0 (length operands) && nat_le (length operands) (kill_counts who).1) ≡ true
kill-counted who operands e h =
    subst (λ w. (nat_le (kill_counts w).0 (length operands) && nat_le (length operands) (kill_counts w).1) ≡ true) e (is-counted (is_counted word.Kill operands) _ h)

exactly : (n count : ℕ) → (nat_le count n && nat_le n count) ≡ true → n ≡ count
exactly n count h =
    let parts = and_parts (nat_le count n) (nat_le n count) h in
    omega (arith, leb-true count n parts.0, leb-true n count parts.1)

kill-two : (operands : List Token) → length operands ≡ 2 → operands_fault word.Kill operands ≡ None → may_be_sent (byte_at operands 1) ≡ true
kill-two [] n h = absurd (omega arith)
kill-two (one ∷ []) n h = absurd (omega arith)
kill-two (one ∷ two ∷ []) n h = sent-token two [] (second-fine word.Kill one two [] h)
kill-two (one ∷ two ∷ three ∷ more) n h = absurd (omega arith)

kill-three : (operands : List Token) → length operands ≡ 3 → operands_fault word.Kill operands ≡ None → may_be_sent (byte_at operands 2) ≡ true
kill-three [] n h = absurd (omega arith)
kill-three (one ∷ []) n h = absurd (omega arith)
kill-three (one ∷ two ∷ []) n h = absurd (omega arith)
kill-three (one ∷ two ∷ three ∷ []) n h = sent-token three [] (third-fine word.Kill one two three [] h)
kill-three (one ∷ two ∷ three ∷ four ∷ more) n h = absurd (omega arith)

child-sound : (operands : List Token) → length operands ≡ 3 → addressee_in operands ≡ addressee.Child
    → operands_fault word.Kill operands ≡ None → is_child_number (word_at operands 1) ≡ true
child-sound [] n e h = absurd (omega arith)
child-sound (one ∷ []) n e h = absurd (omega arith)
child-sound (one ∷ two ∷ []) n e h = absurd (omega arith)
child-sound (one ∷ two ∷ three ∷ []) n e h =
    let fine : operand_fault (natural 1 100000) two ≡ None = subst (λ who. operand_fault (kill_number who) two ≡ None) e (second-fine word.Kill one two (three ∷ []) h) in
    and_from _ _ (word-least 1 100000 two (three ∷ []) (omega arith) fine) (word-most 1 100000 two (three ∷ []) fine)
child-sound (one ∷ two ∷ three ∷ four ∷ more) n e h = absurd (omega arith)

known-word : (token : Token) (more : List Token) → operand_fault operand.Whom token ≡ None → is_addressee (addressee_in (token ∷ more)) ≡ true
known-word (Bare word) more h = passed _ _ h
known-word (Quoted bytes) more h = cc

known : (operands : List Token) → operands_fault word.Kill operands ≡ None → is_addressee (addressee_in operands) ≡ true
known [] h = cc
known (token ∷ more) h = known-word token more (first-fine word.Kill token more h)

kill-sound : (who : Addressee) (operands : List Token) → addressee_in operands ≡ who → operands_fault word.Kill operands ≡ None → is_instruction (kill_of who operands) ≡ true
kill-sound addressee.Own operands e h = kill-two operands (exactly _ 2 (kill-counted addressee.Own operands e h)) h
kill-sound addressee.Parent operands e h = kill-two operands (exactly _ 2 (kill-counted addressee.Parent operands e h)) h
kill-sound addressee.Child operands e h =
    let n = exactly _ 3 (kill-counted addressee.Child operands e h) in
    and_from _ _ (child-sound operands n e h) (kill-three operands n h)
kill-sound addressee.Pid operands e h =
    and_from _ _ (number-below (2 ^ 32) (number_at operands 1) (omega arith)) (kill-three operands (exactly _ 3 (kill-counted addressee.Pid operands e h)) h)
kill-sound addressee.Unknown operands e h = absurd (both_ways false refl (subst (λ who. is_addressee who ≡ true) e (known operands h)))

-- ---- steps

task-count : (operands : List Token) → operands_fault word.Task operands ≡ None → nat_le 1 (count_at operands 1) ≡ true
task-count [] h = cc
task-count (one ∷ []) h = refl
task-count (one ∷ two ∷ more) h = word-least 1 200000 two more (omega arith) (second-fine word.Task one two more h)

worker-count : (operands : List Token) → operands_fault word.Worker operands ≡ None → nat_le 1 (count_at operands 1) ≡ true
worker-count [] h = cc
worker-count (one ∷ []) h = refl
worker-count (one ∷ two ∷ more) h = word-least 1 200000 two more (omega arith) (second-fine word.Worker one two more h)

-- ---- statements

kill-starts-nothing : (whom : Addressee) (operands : List Token) → starts_nothing (kill_of whom operands) ≡ true
kill-starts-nothing addressee.Own operands = refl
kill-starts-nothing addressee.Parent operands = refl
kill-starts-nothing addressee.Child operands = refl
kill-starts-nothing addressee.Pid operands = refl
kill-starts-nothing addressee.Unknown operands = refl

-- the word belongs to the section
belonging : (section : Section) (base_is_stated : Bool) (w : Word) → is_in_place section base_is_stated w ≡ true → belongs w section ≡ true
belonging section base_is_stated w place = (and_parts (belongs w section) (not (comes_late base_is_stated w)) place).0

pub sound_statement : (section : Section) (base_is_stated : Bool) (w : Word) (operands : List Token)
    → is_in_place section base_is_stated w ≡ true → operands_fault w operands ≡ None → IsSound section base_is_stated (statement w operands)
sound_statement section base_is_stated word.Pidmax operands place h = (no-base base_is_stated (and_parts _ _ place).1, some-pid operands h, pidmax-range operands h)
sound_statement section base_is_stated word.Rlimit operands place h = rlimit-range operands h
sound_statement section base_is_stated word.Dir operands place h = (path-sound word.Dir operands refl (λ ops. refl) h, refl)
sound_statement section base_is_stated word.Reg operands place h = (path-sound word.Reg operands refl (λ ops. refl) h, refl)
sound_statement section base_is_stated word.Fifo operands place h = (path-sound word.Fifo operands refl (λ ops. refl) h, refl)
sound_statement section base_is_stated word.Sock operands place h = (path-sound word.Sock operands refl (λ ops. refl) h, refl)
sound_statement section base_is_stated word.Link operands place h = (path-sound word.Link operands refl (λ ops. refl) h, link-sound operands h)
sound_statement section base_is_stated word.Chr operands place h = (path-sound word.Chr operands refl (λ ops. refl) h, chr-sound operands h)
sound_statement section base_is_stated word.Blk operands place h = (path-sound word.Blk operands refl (λ ops. refl) h, blk-sound operands h)
sound_statement section base_is_stated word.Attr operands place h = attr-sound operands h
sound_statement section base_is_stated word.Broker operands place h = descriptor-range operands h
sound_statement section base_is_stated word.Map operands place h = (belonging section base_is_stated word.Map place, pages-range operands h)
sound_statement section base_is_stated word.Notify operands place h = (belonging section base_is_stated word.Notify place, few-calls operands h)
sound_statement section base_is_stated word.Filter operands place h = belonging section base_is_stated word.Filter place
sound_statement section base_is_stated word.Poke operands place h = (belonging section base_is_stated word.Poke place, refl, poke-sound operands h)
sound_statement section base_is_stated word.Fill operands place h = (belonging section base_is_stated word.Fill place, refl, fill-sound operands h)
sound_statement section base_is_stated word.Call operands place h = (belonging section base_is_stated word.Call place, refl, call-sound operands)
sound_statement section base_is_stated word.Spawn operands place h = belonging section base_is_stated word.Spawn place
sound_statement section base_is_stated word.Thread operands place h = belonging section base_is_stated word.Thread place
sound_statement section base_is_stated word.Kill operands place h =
    (belonging section base_is_stated word.Kill place, kill-starts-nothing _ operands, kill-sound (addressee_in operands) operands refl h)
sound_statement section base_is_stated word.Handler operands place h = (belonging section base_is_stated word.Handler place, refl, handler-sound operands h)
sound_statement section base_is_stated word.Wait operands place h = (belonging section base_is_stated word.Wait place, refl, refl)
sound_statement section base_is_stated word.Exit operands place h = (belonging section base_is_stated word.Exit place, refl, refl)
sound_statement section base_is_stated word.Task operands place h = (task-named operands h, task-count operands h)
sound_statement section base_is_stated word.Worker operands place h = (worker-range operands h, worker-count operands h)
sound_statement section base_is_stated w operands place h = tt
