-- Lemmas on the steps of a reading.
-- By the definitions of `progress`, `read_text` and `read_value`, by cases on the part and on the progress, and by `Zeros`.
use Rattle.std.proofs.Common.{◌≡◌, ℕ, ◌+◌, ◌-◌, ◌<◌, ◌≤◌, List, [], ◌∷◌, ◌++◌, length, refl, ap, sym, ◌∙◌, append_assoc, append-nil, take, Some, None, arith}
use Rattle.std.specs.Prelude.{true, false, nat_lt, nat_le, ◌==◌, position, Option, Result, Ok, Err}
use Rattle.hist_model.specs.Copies.{Progress, Wants, Complete, Faulty, Reading, Asks, Whole, Fails, progress, progress_with, progress_after, begun_with, read_part, read_text, read_value, has_zero, before_zero, further, piece}
use Rattle.hist_model.specs.declared.copy.Part.{Part}
use Rattle.hist_model.specs.declared.copy.Part.TheVariants.{Text, Value}
use Rattle.arg_capture.specs.Captures.{with_taken, with_texts, with_whole, with_more, with_answer, reached_progress, unless_faulty, continued, Reached, Captured, wanted, Answers, Finishes, Takes}
use Rattle.hist_model.specs.declared.request.ArgCopy.{ArgCopy}
use Rattle.sys_abi.specs.declared.memory.NoMemory.{NoMemory}
use Rattle.arg_capture.proofs.Zeros.{zero_found, zero_place, zero_missing}
use Rattle.arg_capture.specs.Plans.{IsSettled, first_part, rest_parts}
use Rattle.sys_abi.specs.Errnos.{efault}

-- ---- one part

after-begun : (bytes : List ℕ) (r : Reading) (rest : List (Result (List ℕ) ℕ) → Progress) → progress_after (begun_with bytes r) rest ≡ with_taken bytes (progress_after r rest)
after-begun bytes (Asks a n) rest = refl
after-begun bytes (Fails e) rest = refl
after-begun bytes (Whole text later) rest = go (rest later)
  where
    go : (p : Progress) → progress_with (bytes ++ text) p ≡ with_taken bytes (progress_with text p)
    go (Wants a n) = refl
    go (Complete ts) = refl
    go (Faulty e) = refl

pub text_whole : (a l f : ℕ) (parts : List Part) (bytes : List ℕ) (later : List (Result (List ℕ) ℕ)) → has_zero bytes ≡ true
    → progress (Text a l f ∷ parts) (Ok bytes ∷ later) ≡ progress_with (before_zero bytes) (progress parts later)
unfolding progress read_text
text_whole a l f parts bytes later z = rw z refl

pub text_long : (a l f : ℕ) (parts : List Part) (bytes : List ℕ) (later : List (Result (List ℕ) ℕ)) → has_zero bytes ≡ false → l ≤ length bytes
    → progress (Text a l f ∷ parts) (Ok bytes ∷ later) ≡ Faulty f
unfolding progress read_text
text_long a l f parts bytes later z h = let t : nat_le l (length bytes) ≡ true = grind arith in rw (z, t) refl

piece-on : (a l f : ℕ) (bytes : List ℕ) (later : List (Result (List ℕ) ℕ)) → has_zero bytes ≡ false → nat_le l (length bytes) ≡ false
    → read_text f (Ok bytes ∷ later) a l ≡ begun_with bytes (read_text f later (further a (length bytes)) (l - length bytes))
unfolding read_text
piece-on a l f bytes later z t = rw (z, t) refl

progress-at : (part : Part) (parts : List Part) (answers : List (Result (List ℕ) ℕ)) → progress (part ∷ parts) answers ≡ progress_after (read_part part answers) (progress parts)
unfolding progress
progress-at part parts answers = refl

pub text_on : (a l f : ℕ) (parts : List Part) (bytes : List ℕ) (later : List (Result (List ℕ) ℕ)) → has_zero bytes ≡ false → length bytes < l
    → progress (Text a l f ∷ parts) (Ok bytes ∷ later) ≡ with_taken bytes (progress (Text (further a (length bytes)) (l - length bytes) f ∷ parts) later)
text_on a l f parts bytes later z h =
    let t : nat_le l (length bytes) ≡ false = grind arith in
    progress-at (Text a l f) parts (Ok bytes ∷ later)
    ∙ ap (λ r. progress_after r (progress parts)) (piece-on a l f bytes later z t)
    ∙ after-begun bytes (read_text f later (further a (length bytes)) (l - length bytes)) (progress parts)
    ∙ ap (with_taken bytes) (sym (progress-at (Text (further a (length bytes)) (l - length bytes) f) parts later))

value-read : (a s : ℕ) (answers : List (Result (List ℕ) ℕ)) → 0 < s → s ≤ 4096 → read_part (Value a s) answers ≡ read_value answers a s
value-read a s answers p l =
    let big : nat_lt 4096 s ≡ false = grind arith in
    let none : (s == 0) ≡ false = grind arith in
    rw (big, none) refl

value-end : (a s : ℕ) (bytes : List ℕ) (later : List (Result (List ℕ) ℕ)) → nat_le s (length bytes) ≡ true → read_value (Ok bytes ∷ later) a s ≡ Whole bytes later
unfolding read_value
value-end a s bytes later t = rw t refl

value-goes : (a s : ℕ) (bytes : List ℕ) (later : List (Result (List ℕ) ℕ)) → nat_le s (length bytes) ≡ false
    → read_value (Ok bytes ∷ later) a s ≡ begun_with bytes (read_value later (further a (length bytes)) (s - length bytes))
unfolding read_value
value-goes a s bytes later t = rw t refl

pub value_whole : (a s : ℕ) (parts : List Part) (bytes : List ℕ) (later : List (Result (List ℕ) ℕ)) → 0 < s → s ≤ 4096 → s ≤ length bytes
    → progress (Value a s ∷ parts) (Ok bytes ∷ later) ≡ progress_with bytes (progress parts later)
value_whole a s parts bytes later p l h =
    let t : nat_le s (length bytes) ≡ true = grind arith in
    progress-at (Value a s) parts (Ok bytes ∷ later)
    ∙ ap (λ r. progress_after r (progress parts)) (value-read a s (Ok bytes ∷ later) p l ∙ value-end a s bytes later t)

pub value_on : (a s : ℕ) (parts : List Part) (bytes : List ℕ) (later : List (Result (List ℕ) ℕ)) → s ≤ 4096 → length bytes < s
    → progress (Value a s ∷ parts) (Ok bytes ∷ later) ≡ with_taken bytes (progress (Value (further a (length bytes)) (s - length bytes) ∷ parts) later)
value_on a s parts bytes later l h =
    let t : nat_le s (length bytes) ≡ false = grind arith in
    progress-at (Value a s) parts (Ok bytes ∷ later)
    ∙ ap (λ r. progress_after r (progress parts)) (value-read a s (Ok bytes ∷ later) (omega arith) l ∙ value-goes a s bytes later t)
    ∙ after-begun bytes (read_value later (further a (length bytes)) (s - length bytes)) (progress parts)
    ∙ ap (with_taken bytes) (ap (λ r. progress_after r (progress parts)) (sym (value-read (further a (length bytes)) (s - length bytes) later (omega arith) (omega arith)))
    ∙ sym (progress-at (Value (further a (length bytes)) (s - length bytes)) parts later))

pub value_empty : (a : ℕ) (parts : List Part) (later : List (Result (List ℕ) ℕ)) → progress (Value a 0 ∷ parts) later ≡ progress_with [] (progress parts later)
unfolding progress
value_empty a parts later = refl

pub value_big : (a s : ℕ) (parts : List Part) (later : List (Result (List ℕ) ℕ)) → 4096 < s → progress (Value a s ∷ parts) later ≡ Faulty 7
unfolding progress
value_big a s parts later h = let t : nat_lt 4096 s ≡ true = grind arith in rw t refl

-- ---- the part in hand

pub in_hand : (parts : List Part) (part : Part) → first_part parts ≡ Some part → parts ≡ part ∷ rest_parts parts
in_hand [] part e = cc
in_hand (p ∷ parts) part e = let q : p ≡ part = cc in cc

pub nothing_left : (parts : List Part) → first_part parts ≡ None → parts ≡ []
nothing_left [] e = refl
nothing_left (p ∷ parts) e = cc

text-asks : (f a l : ℕ) → read_text f [] a l ≡ Asks a (piece a l)
unfolding read_text
text-asks f a l = refl

value-asks : (a s : ℕ) → read_value [] a s ≡ Asks a (piece a s)
unfolding read_value
value-asks a s = refl

pub text_wants : (r : Reached) (a l f : ℕ) → first_part r.parts ≡ Some (Text a l f) → reached_progress r [] ≡ Wants a (piece a l)
text_wants r a l f e =
    ap (λ parts. with_texts r.texts (with_taken r.taken (progress parts []))) (in_hand r.parts (Text a l f) e)
    ∙ ap (λ p. with_texts r.texts (with_taken r.taken p)) (progress-at (Text a l f) (rest_parts r.parts) [] ∙ ap (λ q. progress_after q (progress (rest_parts r.parts))) (text-asks f a l))

pub value_wants : (r : Reached) (a s : ℕ) → first_part r.parts ≡ Some (Value a s) → 0 < s → s ≤ 4096 → reached_progress r [] ≡ Wants a (piece a s)
value_wants r a s e p l =
    ap (λ parts. with_texts r.texts (with_taken r.taken (progress parts []))) (in_hand r.parts (Value a s) e)
    ∙ ap (λ p. with_texts r.texts (with_taken r.taken p)) (progress-at (Value a s) (rest_parts r.parts) [] ∙ ap (λ q. progress_after q (progress (rest_parts r.parts))) (value-read a s [] p l ∙ value-asks a s))

none-left : (later : List (Result (List ℕ) ℕ)) → progress [] later ≡ Complete []
unfolding progress
none-left later = refl

pub is_complete : (r : Reached) (later : List (Result (List ℕ) ℕ)) → first_part r.parts ≡ None → reached_progress r later ≡ Complete (r.texts ++ [])
is_complete r later e = ap (λ parts. with_texts r.texts (with_taken r.taken (progress parts later))) (nothing_left r.parts e) ∙ ap (λ p. with_texts r.texts (with_taken r.taken p)) (none-left later)

pub wants_text : (r : Reached) (a l f : ℕ) → first_part r.parts ≡ Some (Text a l f) → wanted (reached_progress r []) ≡ Some (a, piece a l)
wants_text r a l f e = ap wanted (text_wants r a l f e)

pub wants_value : (r : Reached) (a s : ℕ) → first_part r.parts ≡ Some (Value a s) → 0 < s → s ≤ 4096 → wanted (reached_progress r []) ≡ Some (a, piece a s)
wants_value r a s e p l = ap wanted (value_wants r a s e p l)

pub wants_none : (r : Reached) → first_part r.parts ≡ None → wanted (reached_progress r []) ≡ None
wants_none r e = ap wanted (is_complete r [] e)

-- ---- a reading after a step

texts-more : (texts : List (List ℕ)) (taken text : List ℕ) (p : Progress)
    → with_texts (texts ++ (taken ++ text) ∷ []) (with_taken [] p) ≡ with_texts texts (with_taken taken (progress_with text p))
texts-more texts taken text (Wants a n) = refl
texts-more texts taken text (Complete []) = ap Complete (append-nil (texts ++ (taken ++ text) ∷ []))
texts-more texts taken text (Complete (t ∷ ts)) = ap Complete (append_assoc texts ((taken ++ text) ∷ []) (t ∷ ts))
texts-more texts taken text (Faulty e) = refl

-- the part in hand has become a text
pub finished : (r m : Reached) (text : List ℕ) (later : List (Result (List ℕ) ℕ))
    → m.texts ≡ r.texts ++ (r.taken ++ text) ∷ [] → m.taken ≡ [] → m.parts ≡ rest_parts r.parts → reached_progress m later ≡ with_whole r text later
finished r m text later a b c =
    ap (λ ts. with_texts ts (with_taken m.taken (progress m.parts later))) a
    ∙ ap (λ tk. with_texts (r.texts ++ (r.taken ++ text) ∷ []) (with_taken tk (progress m.parts later))) b
    ∙ ap (λ ps. with_texts (r.texts ++ (r.taken ++ text) ∷ []) (with_taken [] (progress ps later))) c
    ∙ texts-more r.texts r.taken text (progress (rest_parts r.parts) later)

by-hand : (r : Reached) (part : Part) (answers : List (Result (List ℕ) ℕ)) → first_part r.parts ≡ Some part
    → reached_progress r answers ≡ with_texts r.texts (with_taken r.taken (progress (part ∷ rest_parts r.parts) answers))
by-hand r part answers e = ap (λ parts. with_texts r.texts (with_taken r.taken (progress parts answers))) (in_hand r.parts part e)

-- a value of size 0 is whole
pub settles_empty : (r m : Reached) (a : ℕ) (later : List (Result (List ℕ) ℕ)) → first_part r.parts ≡ Some (Value a 0)
    → m.texts ≡ r.texts ++ r.taken ∷ [] → m.taken ≡ [] → m.parts ≡ rest_parts r.parts → reached_progress m later ≡ reached_progress r later
settles_empty r m a later e x y z =
    finished r m [] later (x ∙ ap (λ t. r.texts ++ t ∷ []) (sym (append-nil r.taken))) y z
    ∙ sym (by-hand r (Value a 0) later e ∙ ap (λ p. with_texts r.texts (with_taken r.taken p)) (value_empty a (rest_parts r.parts) later))

-- a value that is too great is a fault
pub settles_big : (r : Reached) (a s : ℕ) (later : List (Result (List ℕ) ℕ)) → first_part r.parts ≡ Some (Value a s) → 4096 < s → Faulty 7 ≡ reached_progress r later
settles_big r a s later e h = sym (by-hand r (Value a s) later e ∙ ap (λ p. with_texts r.texts (with_taken r.taken p)) (value_big a s (rest_parts r.parts) later h))

-- ---- an answer

pub answer_ends_text : (r : Reached) (a l f : ℕ) (bytes : List ℕ) (n : ℕ) (later : List (Result (List ℕ) ℕ)) → first_part r.parts ≡ Some (Text a l f)
    → position (λ b. b == 0) bytes ≡ Some n → with_whole r (take n bytes) later ≡ with_answer r (Ok bytes) later
answer_ends_text r a l f bytes n later e z =
    sym (by-hand r (Text a l f) (Ok bytes ∷ later) e
    ∙ ap (λ p. with_texts r.texts (with_taken r.taken p)) (text_whole a l f (rest_parts r.parts) bytes later (zero_found bytes n z)
    ∙ ap (λ t. progress_with t (progress (rest_parts r.parts) later)) (zero_place bytes n z)))

pub answer_is_long : (r : Reached) (a l f : ℕ) (bytes : List ℕ) (later : List (Result (List ℕ) ℕ)) → first_part r.parts ≡ Some (Text a l f)
    → position (λ b. b == 0) bytes ≡ None → l ≤ length bytes → Faulty f ≡ with_answer r (Ok bytes) later
answer_is_long r a l f bytes later e z h =
    sym (by-hand r (Text a l f) (Ok bytes ∷ later) e
    ∙ ap (λ p. with_texts r.texts (with_taken r.taken p)) (text_long a l f (rest_parts r.parts) bytes later (zero_missing bytes z) h))

pub answer_extends_text : (r : Reached) (a l f : ℕ) (bytes : List ℕ) (later : List (Result (List ℕ) ℕ)) → first_part r.parts ≡ Some (Text a l f)
    → position (λ b. b == 0) bytes ≡ None → length bytes < l → with_more r bytes (Text (further a (length bytes)) (l - length bytes) f) later ≡ with_answer r (Ok bytes) later
answer_extends_text r a l f bytes later e z h =
    sym (by-hand r (Text a l f) (Ok bytes ∷ later) e
    ∙ ap (λ p. with_texts r.texts (with_taken r.taken p)) (text_on a l f (rest_parts r.parts) bytes later (zero_missing bytes z) h))

pub answer_ends_value : (r : Reached) (a s : ℕ) (bytes : List ℕ) (later : List (Result (List ℕ) ℕ)) → first_part r.parts ≡ Some (Value a s)
    → 0 < s → s ≤ 4096 → s ≤ length bytes → with_whole r bytes later ≡ with_answer r (Ok bytes) later
answer_ends_value r a s bytes later e p l h =
    sym (by-hand r (Value a s) (Ok bytes ∷ later) e
    ∙ ap (λ q. with_texts r.texts (with_taken r.taken q)) (value_whole a s (rest_parts r.parts) bytes later p l h))

pub answer_extends_value : (r : Reached) (a s : ℕ) (bytes : List ℕ) (later : List (Result (List ℕ) ℕ)) → first_part r.parts ≡ Some (Value a s)
    → s ≤ 4096 → length bytes < s → with_more r bytes (Value (further a (length bytes)) (s - length bytes)) later ≡ with_answer r (Ok bytes) later
answer_extends_value r a s bytes later e l h =
    sym (by-hand r (Value a s) (Ok bytes ∷ later) e
    ∙ ap (λ q. with_texts r.texts (with_taken r.taken q)) (value_on a s (rest_parts r.parts) bytes later l h))

-- what is promised may be said otherwise
pub takes_as : (old new : Reached) (f g : List (Result (List ℕ) ℕ) → Progress) (result : Result (Option ℕ) NoMemory)
    → ((later : List (Result (List ℕ) ℕ)) → f later ≡ g later) → Takes old f result new → Takes old g result new
takes_as old new f g (Ok ended) q t = (λ later. t.0 later ∙ q later, t.1, t.2)
takes_as old new f g (Err e) q t = t

-- ---- what an answer may be

text-fits : (r : Reached) (a l f : ℕ) (bytes : List ℕ) → first_part r.parts ≡ Some (Text a l f) → Answers (wanted (reached_progress r [])) (Ok bytes) → length bytes ≤ piece a l
text-fits r a l f bytes e h = let q = text_wants r a l f e in (rw q at h).1

value-fits : (r : Reached) (a s : ℕ) (bytes : List ℕ) → first_part r.parts ≡ Some (Value a s) → 0 < s → s ≤ 4096 → Answers (wanted (reached_progress r [])) (Ok bytes) → length bytes ≤ piece a s
value-fits r a s bytes e p l h = let q = value_wants r a s e p l in (rw q at h).1

pub fits_text : (r : Reached) (a l f : ℕ) (bytes : List ℕ) → Answers (wanted (reached_progress r [])) (Ok bytes) → first_part r.parts ≡ Some (Text a l f) → length bytes ≤ l
fits_text r a l f bytes h e = let q = text-fits r a l f bytes e h in omega arith

settled-value : (taken : ℕ) (parts : List Part) (a s : ℕ) → first_part parts ≡ Some (Value a s) → IsSettled taken parts → (0 < s) × (taken + s ≤ 4096)
settled-value taken parts a s e h = let q = in_hand parts (Value a s) e in rw q at h

pub fits_value : (r : Reached) (a s : ℕ) (bytes : List ℕ) → Answers (wanted (reached_progress r [])) (Ok bytes) → IsSettled (length r.taken) r.parts → first_part r.parts ≡ Some (Value a s) → length bytes ≤ s
fits_value r a s bytes h t e =
    let u = settled-value (length r.taken) r.parts a s e t in
    let q = value-fits r a s bytes e u.0 (omega arith) h in
    omega arith

pub nothing_answers : (r : Reached) (bytes : List ℕ) → Answers (wanted (reached_progress r [])) (Ok bytes) → first_part r.parts ≡ None → ⊥
nothing_answers r bytes h e = let q = is_complete r [] e in rw q at h

text-faults : (f a l e : ℕ) (later : List (Result (List ℕ) ℕ)) → read_text f (Err e ∷ later) a l ≡ Fails e
unfolding read_text
text-faults f a l e later = refl

value-faults : (a s e : ℕ) (later : List (Result (List ℕ) ℕ)) → read_value (Err e ∷ later) a s ≡ Fails e
unfolding read_value
value-faults a s e later = refl

pub text_asks : (a l f : ℕ) (parts : List Part) → progress (Text a l f ∷ parts) [] ≡ Wants a (piece a l)
text_asks a l f parts = progress-at (Text a l f) parts [] ∙ ap (λ r. progress_after r (progress parts)) (text-asks f a l)

pub value_asks : (a s : ℕ) (parts : List Part) → 0 < s → s ≤ 4096 → progress (Value a s ∷ parts) [] ≡ Wants a (piece a s)
value_asks a s parts p l = progress-at (Value a s) parts [] ∙ ap (λ r. progress_after r (progress parts)) (value-read a s [] p l ∙ value-asks a s)

pub text_fails : (a l f e : ℕ) (parts : List Part) (later : List (Result (List ℕ) ℕ)) → progress (Text a l f ∷ parts) (Err e ∷ later) ≡ Faulty e
text_fails a l f e parts later = progress-at (Text a l f) parts (Err e ∷ later) ∙ ap (λ q. progress_after q (progress parts)) (text-faults f a l e later)

pub value_fails : (a s e : ℕ) (parts : List Part) (later : List (Result (List ℕ) ℕ)) → 0 < s → s ≤ 4096 → progress (Value a s ∷ parts) (Err e ∷ later) ≡ Faulty e
value_fails a s e parts later p l =
    progress-at (Value a s) parts (Err e ∷ later)
    ∙ ap (λ q. progress_after q (progress parts)) (value-read a s (Err e ∷ later) p l ∙ value-faults a s e later)

-- EFAULT ends the reading of the part in hand
faults-in : (texts : List (List ℕ)) (taken : List ℕ) (parts : List Part) (later : List (Result (List ℕ) ℕ)) → IsSettled (length taken) parts
    → Answers (wanted (with_texts texts (with_taken taken (progress parts [])))) (Err efault)
    → Faulty efault ≡ with_texts texts (with_taken taken (progress parts (Err efault ∷ later)))
faults-in texts taken [] later t h = absurd (rw (none-left []) at h)
faults-in texts taken (Text a l f ∷ parts) later t h =
    sym (ap (λ p. with_texts texts (with_taken taken p)) (progress-at (Text a l f) parts (Err efault ∷ later) ∙ ap (λ q. progress_after q (progress parts)) (text-faults f a l 14 later)))
faults-in texts taken (Value a s ∷ parts) later t h =
    let u : (0 < s) × (length taken + s ≤ 4096) = t in
    sym (ap (λ p. with_texts texts (with_taken taken p)) (progress-at (Value a s) parts (Err efault ∷ later)
    ∙ ap (λ q. progress_after q (progress parts)) (value-read a s (Err efault ∷ later) u.0 (omega arith) ∙ value-faults a s efault later)))

faults-if : (fault : Option ℕ) (r : Reached) (later : List (Result (List ℕ) ℕ)) → (fault ≡ None → IsSettled (length r.taken) r.parts)
    → Answers (wanted (unless_faulty fault (reached_progress r []))) (Err efault) → Faulty efault ≡ unless_faulty fault (reached_progress r (Err efault ∷ later))
faults-if (Some e) r later t h = absurd h
faults-if None r later t h = faults-in r.texts r.taken r.parts later (t refl) h

pub faults : (c v : Captured) (later : List (Result (List ℕ) ℕ)) → v ≡ c → (v.fault ≡ None → IsSettled (length v.reached.taken) v.reached.parts)
    → Answers (wanted (continued c [])) (Err efault) → Faulty efault ≡ continued c (Err efault ∷ later)
faults c v later e t h =
    let h' : Answers (wanted (continued v [])) (Err efault) = rw (← e) at h in
    faults-if v.fault v.reached later t h' ∙ ap (λ (d : Captured). continued d (Err efault ∷ later)) e

none-some : {A : Type 0} {a : A} → ◌≡◌ {A = Option A} (Some a) None → ⊥
none-some e = cc

-- a settled reading that wants nothing is complete
completes-in : (texts : List (List ℕ)) (taken : List ℕ) (parts : List Part) → IsSettled (length taken) parts
    → wanted (with_texts texts (with_taken taken (progress parts []))) ≡ None
    → with_texts texts (with_taken taken (progress parts [])) ≡ Complete texts
completes-in texts taken [] t h = ap (λ p. with_texts texts (with_taken taken p)) (none-left []) ∙ ap Complete (append-nil texts)
completes-in texts taken (Text a l f ∷ parts) t h =
    let q : progress (Text a l f ∷ parts) [] ≡ Wants a (piece a l) = progress-at (Text a l f) parts [] ∙ ap (λ r. progress_after r (progress parts)) (text-asks f a l) in
    absurd (none-some (rw q at h))
completes-in texts taken (Value a s ∷ parts) t h =
    let u : (0 < s) × (length taken + s ≤ 4096) = t in
    let q : progress (Value a s ∷ parts) [] ≡ Wants a (piece a s) = progress-at (Value a s) parts [] ∙ ap (λ r. progress_after r (progress parts)) (value-read a s [] u.0 (omega arith) ∙ value-asks a s) in
    absurd (none-some (rw q at h))

completes-if : (fault : Option ℕ) (r : Reached) → fault ≡ None → (fault ≡ None → IsSettled (length r.taken) r.parts)
    → wanted (unless_faulty fault (reached_progress r [])) ≡ None → unless_faulty fault (reached_progress r []) ≡ Complete r.texts
completes-if (Some e) r n t h = absurd (none-some n)
completes-if None r n t h = completes-in r.texts r.taken r.parts (t refl) h

pub finishes : (c v : Captured) (copy : ArgCopy) → v ≡ c → v.fault ≡ None → (v.fault ≡ None → IsSettled (length v.reached.taken) v.reached.parts)
    → wanted (continued c []) ≡ None → copy.texts ≡ v.reached.texts → Finishes (continued c []) (Ok copy)
finishes c v copy e n t h q =
    let h' : wanted (continued v []) ≡ None = rw (← e) at h in
    let p : continued c [] ≡ Complete v.reached.texts = ap (λ (d : Captured). continued d []) (sym e) ∙ completes-if v.fault v.reached n t h' in
    rw p q
