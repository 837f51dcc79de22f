-- What was read of a space is what its memory says, and one more answer keeps it so.
-- By induction on the bytes and on the answers, with `mapped-low` of `Ranges`.
use Rattle.std.proofs.Common.{inl, inr, ◌≡◌, ◌⊎◌, ℕ, zero, suc, ◌+◌, ◌≤◌, List, [], ◌∷◌, ◌++◌, length, length-append, refl, sym, ap, ◌∙◌, Option, Some, None, arith}
use Rattle.std.specs.Prelude.{Result, Ok, Err, ℤ, OnOk}
use Rattle.std.proofs.lemmas.Bool.{cases_Bool}
use Rattle.hist_model.specs.Copies.{Progress, Wants, Complete, Faulty, further, progress, wanted, plan, copy_of}
use Rattle.hist_model.specs.Memory.{is_mapped, byte, mapped_byte, mapped_bytes, bytes_read}
use Rattle.hist_model.specs.declared.copy.Part.{Part}
use Rattle.hist_model.specs.declared.event.Event.{Event}
use Rattle.hist_model.specs.declared.request.ArgCopy.{ArgCopy}
use Rattle.hist_model.specs.declared.script.Script.{Script}
use Rattle.hist_model.proofs.MappedBytes.{at_most, at_least}
use Rattle.hist_model.proofs.Pieces.{piece_wanted, wanted_some}
use Rattle.history_frames.specs.Ordinals.{group_of}
use Rattle.arg_capture.specs.Captures.{Captured, Follows, Finishes, Answers, continued}
use Rattle.arg_capture.specs.Moments.{run_at, read_at, AreRead, ArePlaced, IsCopy}
use Rattle.arg_capture.proofs.Following.{follows_wants}
use Rattle.arg_capture.proofs.Moments.{is_read_copy}
use Rattle.task_groups.specs.Ranges.{AllEndLow}
use Rattle.task_groups.specs.Stands.{StandsFor}
use Rattle.task_groups.specs.declared.groups.Groups.{Groups}
use Rattle.task_groups.proofs.Ranges.{mapped-low}
use Rattle.native_calls.specs.Copied.{AllGive, HasRead, texts_of}
use Rattle.native_calls.proofs.Pieces.{copy-ends}
use Rattle.sys_abi.specs.Errnos.{efault}
use Rattle.sys_abi.specs.declared.memory.NoMemory.{NoMemory}

-- ---- one read

run-is : (S : Script) (K : List Event) (g a n : ℕ) → AllEndLow S.map → run_at (mapped_byte S K g) n a ≡ mapped_bytes S K g a n
unfolding run_at mapped_bytes
run-is S K g a zero low = refl
run-is S K g a (suc n) low = elim (cases_Bool (is_mapped S.map a)) [
  | inl h ↦
      let l = mapped-low S.map a low h in
      let e : further a 1 ≡ a + 1 = omega arith in
      rw (h, e, run-is S K g (a + 1) n low)
  | inr h ↦ rw h
]

-- a read is what the memory says
pub read-is : (S : Script) (K : List Event) (g a n : ℕ) → AllEndLow S.map → bytes_read S K g a n ≡ read_at (mapped_byte S K g) a n
read-is S K g a n low = elim (cases_Bool (is_mapped S.map a)) [
  | inl h ↦ rw h (ap Ok (sym (run-is S K g a n low)))
  | inr h ↦ rw h
]

-- it has some of the bytes that were asked for
pub read-fits : (S : Script) (K : List Event) (g a n : ℕ) (bytes : List ℕ) → bytes_read S K g a n ≡ Ok bytes → 1 ≤ n → (1 ≤ length bytes) × (length bytes ≤ n)
read-fits S K g a n bytes e l = elim (cases_Bool (is_mapped S.map a)) [
  | inl h ↦
      let q : Ok (mapped_bytes S K g a n) ≡ Ok bytes = rw h at e in
      let b : mapped_bytes S K g a n ≡ bytes = cc in
      (rw b at (at_least S K g a n h l), rw b at (at_most S K g a n))
  | inr h ↦ let q : ◌≡◌ {A = Result (List ℕ) ℕ} (Err efault) (Ok bytes) = rw h at e in cc
]

-- ---- one more answer

-- where lists with one more element are split
last-split : {A : Type 0} (xs : List A) (a : A) (before : List A) (b : A) (later : List A) → xs ++ a ∷ [] ≡ before ++ b ∷ later
    → ((xs ≡ before) × (a ≡ b)) ⊎ ((more : List A) × (xs ≡ before ++ b ∷ more))
last-split [] a [] b later e = inl (refl, cc)
last-split [] a (y ∷ ys) b later e =
    let t : [] ≡ ys ++ b ∷ later = cc in
    absurd (omega (arith, ap length t, length-append ys (b ∷ later)))
last-split (x ∷ xs) a [] b later e = let q : x ≡ b = cc in inr (xs, ap (λ z. z ∷ xs) q)
last-split (x ∷ xs) a (y ∷ ys) b later e =
    let q : x ≡ y = cc in
    let t : xs ++ a ∷ [] ≡ ys ++ b ∷ later = cc in
    elim (last-split xs a ys b later t) [
      | inl p ↦ let r : xs ≡ ys = p.0 in inl (cc, p.1)
      | inr p ↦ let r : xs ≡ ys ++ b ∷ p.0 = p.1 in inr (p.0, cc)
    ]

reads-more : (byte : ℕ → Option ℕ) (parts : List Part) (answers : List (Result (List ℕ) ℕ)) (a : Result (List ℕ) ℕ) → AreRead byte parts answers
    → ((ad n : ℕ) → progress parts answers ≡ Wants ad n → a ≡ read_at byte ad n) → AreRead byte parts (answers ++ a ∷ [])
reads-more byte parts answers a r h = λ before b later ad n e w. elim (last-split answers a before b later e) [
  | inl p ↦ sym p.1 ∙ h ad n (ap (progress parts) p.0 ∙ w)
  | inr p ↦ r before b p.0 ad n p.1 w
]

gives-more : (answers : List (Result (List ℕ) ℕ)) (a : Result (List ℕ) ℕ) → AllGive answers → AllGive (a ∷ []) → AllGive (answers ++ a ∷ [])
gives-more [] a g h = h
gives-more (Ok bytes ∷ later) a g h = (g.0, gives-more later a g.1 h)
gives-more (Err e ∷ later) a g h = gives-more later a g h

wants-is : (p : Progress) (ad n bd m : ℕ) → p ≡ Wants ad n → Some (bd, m) ≡ wanted p → (bd ≡ ad) × (m ≡ n)
wants-is p ad n bd m e q = let r : Some (bd, m) ≡ Some (ad, n) = q ∙ ap wanted e in let s : (bd, m) ≡ (ad, n) = cc in (ap (λ (x : ℕ × ℕ). x.0) s, ap (λ (x : ℕ × ℕ). x.1) s)

-- the capture takes one more answer, of the piece that is wanted
pub has-more : (G : Groups) (o : ℕ) (nr : ℤ) (args : List ℕ) (count ad n : ℕ) (a : Result (List ℕ) ℕ) (old new : Captured) (r : Result (Unit {0}) NoMemory)
    → HasRead G o nr args count old → wanted (continued old []) ≡ Some (ad, n) → AllGive (a ∷ [])
    → ((parts : List Part) (answers : List (Result (List ℕ) ℕ)) → Follows parts answers old → OnOk r (Follows parts (answers ++ a ∷ []) new))
    → ((S : Script) (K : List Event) (living handles : ℕ → ℕ) (g : ℕ) → StandsFor S K living handles G → group_of K o ≡ Some g → 1 ≤ n → a ≡ bytes_read S K g ad n)
    → OnOk r (HasRead G o nr args (count + 1) new)
has-more G o nr args count ad n a old new (Err e) h w g f said = tt
has-more G o nr args count ad n a old new (Ok u) h w g f said = record {
  answers = h.answers ++ a ∷ [];
  counted = omega (arith, length-append h.answers (a ∷ []), h.counted);
  follows = f (plan nr args) h.answers h.follows;
  give = gives-more h.answers a h.give g;
  read = λ S K living handles m stands group. reads-more (mapped_byte S K m) (plan nr args) h.answers a (h.read S K living handles m stands group) (λ bd k p. answered S K living handles m bd k stands group p);
}
  where
    asked : Some (ad, n) ≡ wanted (progress (plan nr args) h.answers)
    asked = follows_wants (plan nr args) h.answers old (Some (ad, n)) (sym w) h.follows

    answered : (S : Script) (K : List Event) (living handles : ℕ → ℕ) (m bd k : ℕ) → StandsFor S K living handles G → group_of K o ≡ Some m → progress (plan nr args) h.answers ≡ Wants bd k → a ≡ read_at (mapped_byte S K m) bd k
    answered S K living handles m bd k stands group p =
        let e = wants-is (progress (plan nr args) h.answers) bd k ad n p asked in
        let l : 1 ≤ n = wanted_some (progress (plan nr args) h.answers) (ad, n) (piece_wanted nr args h.answers) (sym asked) in
        said S K living handles m stands group l ∙ read-is S K m ad n stands.low ∙ ap (λ z. read_at (mapped_byte S K m) z n) e.0 ∙ ap (λ z. read_at (mapped_byte S K m) bd z) e.1

-- ---- the whole copy

pub has-none : (G : Groups) (o : ℕ) (nr : ℤ) (args : List ℕ) (c : Captured) → Follows (plan nr args) [] c → HasRead G o nr args 0 c
has-none G o nr args c f = record {
  answers = [];
  counted = refl;
  follows = f;
  give = tt;
  read = λ S K living handles g stands group before answer later a n e w. absurd (omega (arith, ap length e, length-append before (answer ∷ later)));
}

-- no piece is left after so many
pub has-all : (G : Groups) (o : ℕ) (nr : ℤ) (args : List ℕ) (c : Captured) → ArePlaced (plan nr args) → HasRead G o nr args 16384 c → wanted (continued c []) ≡ None
has-all G o nr args c p h = follows_wants (plan nr args) h.answers c (wanted (continued c [])) refl h.follows ∙ copy-ends nr args h.answers p h.give (omega (arith, h.counted))

finished : (p : Progress) (copy : Result (List (List ℕ)) ℕ) (r : Result ArgCopy ℕ) → Finishes p r → IsCopy p copy → texts_of r ≡ copy
finished (Wants a n) copy r h i = absurd h
finished (Complete texts) copy (Ok c) h i = ap Ok h ∙ sym i
finished (Complete texts) copy (Err e) h i = absurd h
finished (Faulty e) copy (Ok c) h i = absurd h
finished (Faulty e) copy (Err d) h i = ap Err h ∙ sym i

-- what is taken of the capture is the copy
pub has-copy : (G : Groups) (o : ℕ) (nr : ℤ) (args : List ℕ) (count : ℕ) (c : Captured) (r : Result ArgCopy ℕ) → ArePlaced (plan nr args) → HasRead G o nr args count c
    → ((parts : List Part) (answers : List (Result (List ℕ) ℕ)) → Follows parts answers c → Finishes (progress parts answers) r)
    → (S : Script) (K : List Event) (living handles : ℕ → ℕ) (g : ℕ) → StandsFor S K living handles G → group_of K o ≡ Some g → texts_of r ≡ copy_of (mapped_byte S K g) (plan nr args)
has-copy G o nr args count c r p h f S K living handles g stands group =
    finished (progress (plan nr args) h.answers) (copy_of (mapped_byte S K g) (plan nr args)) r (f (plan nr args) h.answers h.follows)
    (is_read_copy (mapped_byte S K g) h.answers (plan nr args) p (h.read S K living handles g stands group))

-- an answer to a piece gives at least one byte, or is a fault
pub answers-give : (q : ℕ × ℕ) (a : Result (List ℕ) ℕ) → Answers (Some q) a → AllGive (a ∷ [])
answers-give q (Ok bytes) h = (h.0, tt)
answers-give q (Err e) h = tt

-- the bytes that were read are taken as they are
pub bytes-said : (S : Script) (K : List Event) (g a n : ℕ) (bytes piece : List ℕ) (answer : Result (List ℕ) ℕ) → bytes_read S K g a n ≡ Ok bytes → piece ≡ bytes → 1 ≤ n
    → (1 ≤ length piece → length piece ≤ n → answer ≡ Ok piece) → answer ≡ bytes_read S K g a n
bytes-said S K g a n bytes piece answer e q l h =
    let f = read-fits S K g a n bytes e l in
    h (rw q f.0) (rw q f.1) ∙ ap Ok q ∙ sym e
