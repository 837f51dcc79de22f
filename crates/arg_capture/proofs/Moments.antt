-- A copy in pieces, of memory that doesn't change meanwhile, is the copy at one moment.
-- By induction on the answers and, for each, on the parts, with the lemmas of `Steps`; for a run of bytes, on its length.
use Rattle.std.proofs.Common.{◌≡◌, ℕ, zero, suc, ◌-◌, ◌<◌, ◌≤◌, ◌^◌, List, [], ◌∷◌, length, refl, ap, sym, ◌∙◌, append-nil, inl, inr, Some, None, arith}
use Rattle.std.specs.Prelude.{true, false, nat_lt, nat_le, ◌==◌, Option, Result, Ok, Err}
use Rattle.std.proofs.lemmas.Bool.{cases_Bool, ne_eqb}
use Rattle.hist_model.specs.Copies.{Progress, Wants, Complete, Faulty, progress, progress_with, has_zero, before_zero, further, piece, copy_of, copy_part, text_from, text_after, value_from, value_after, with_bytes, with_text}
use Rattle.hist_model.specs.declared.copy.Part.{Part}
use Rattle.hist_model.specs.declared.copy.Part.TheVariants.{Text, Value}
use Rattle.arg_capture.specs.Captures.{with_taken}
use Rattle.arg_capture.specs.Moments.{run_at, run_after, read_at, AreRead, IsCopy, ArePlaced}
use Rattle.arg_capture.proofs.Steps.{text_whole, text_long, text_on, value_whole, value_on, value_empty, value_big, text_asks, value_asks, text_fails, value_fails}
use Rattle.sys_abi.specs.Errnos.{efault, e2big}

-- ---- bytes at one moment

none-with : (r : Result (List ℕ) ℕ) → with_bytes [] r ≡ r
none-with (Ok text) = refl
none-with (Err e) = refl

more-with : (b : ℕ) (bytes : List ℕ) (r : Result (List ℕ) ℕ) → with_bytes (b ∷ []) (with_bytes bytes r) ≡ with_bytes (b ∷ bytes) r
more-with b bytes (Ok text) = refl
more-with b bytes (Err e) = refl

not-zero : (b : ℕ) → (suc b == 0) ≡ false
not-zero b = ne_eqb (suc b) 0 (omega arith)

further-none : (a : ℕ) → a < 2 ^ 64 → further a 0 ≡ a
further-none a h = omega arith

further-more : (a n : ℕ) → further (further a 1) n ≡ further a (suc n)
further-more a n = omega arith

-- a text whose run has a zero ends there
text-ends-after : (byte : ℕ → Option ℕ) (f n l a : ℕ) (o : Option ℕ)
    → ((b : ℕ) → has_zero (run_at byte n b) ≡ true → text_from byte f l b ≡ Ok (before_zero (run_at byte n b)))
    → has_zero (run_after o (run_at byte n) a) ≡ true → text_after o (text_from byte f l) a ≡ Ok (before_zero (run_after o (run_at byte n) a))
text-ends-after byte f n l a None ih z = cc
text-ends-after byte f n l a (Some zero) ih z = refl
text-ends-after byte f n l a (Some (suc b)) ih z =
    let z' : has_zero (run_at byte n (further a 1)) ≡ true = rw (not-zero b) at z in
    rw (not-zero b) (ap (with_bytes (suc b ∷ [])) (ih (further a 1) z'))

text-ends : (byte : ℕ → Option ℕ) (f n l a : ℕ) → n ≤ l → has_zero (run_at byte n a) ≡ true → text_from byte f l a ≡ Ok (before_zero (run_at byte n a))
unfolding run_at text_from
text-ends byte f zero l a h z = cc
text-ends byte f (suc n) zero a h z = absurd (omega arith)
text-ends byte f (suc n) (suc l) a h z = text-ends-after byte f n l a (byte a) (λ b y. text-ends byte f n l b (omega arith) y) z

-- a text whose run has no zero goes on behind it
text-goes-after : (byte : ℕ → Option ℕ) (f n l a : ℕ) (o : Option ℕ) → a < 2 ^ 64 → byte a ≡ o
    → ((b : ℕ) → b < 2 ^ 64 → has_zero (run_at byte n b) ≡ false
    → text_from byte f l b ≡ with_bytes (run_at byte n b) (text_from byte f (l - length (run_at byte n b)) (further b (length (run_at byte n b)))))
    → text_from byte f (suc l) a ≡ text_after (byte a) (text_from byte f l) a
    → has_zero (run_after o (run_at byte n) a) ≡ false
    → text_after o (text_from byte f l) a
    ≡ with_bytes (run_after o (run_at byte n) a) (text_from byte f (suc l - length (run_after o (run_at byte n) a)) (further a (length (run_after o (run_at byte n) a))))
text-goes-after byte f n l a None h q ih u z =
    let e : suc l - 0 ≡ suc l = omega arith in
    sym (none-with (text_from byte f (suc l - 0) (further a 0)) ∙ rw (further-none a h, e) (u ∙ ap (λ o. text_after o (text_from byte f l) a) q))
text-goes-after byte f n l a (Some zero) h q ih u z = cc
text-goes-after byte f n l a (Some (suc b)) h q ih u z =
    let run = run_at byte n (further a 1) in
    let e : suc l - suc (length run) ≡ l - length run = omega arith in
    let z' : has_zero run ≡ false = rw (not-zero b) at z in
    ap (with_bytes (suc b ∷ [])) (ih (further a 1) (omega arith) z')
    ∙ more-with (suc b) run (text_from byte f (l - length run) (further (further a 1) (length run)))
    ∙ ap (λ m. with_bytes (suc b ∷ run) (text_from byte f m (further (further a 1) (length run)))) (sym e)
    ∙ ap (λ m. with_bytes (suc b ∷ run) (text_from byte f (suc l - suc (length run)) m)) (further-more a (length run))

text-at : (byte : ℕ → Option ℕ) (f l a : ℕ) → text_from byte f (suc l) a ≡ text_after (byte a) (text_from byte f l) a
unfolding text_from
text-at byte f l a = refl

text-goes : (byte : ℕ → Option ℕ) (f n l a : ℕ) → a < 2 ^ 64 → n ≤ l → has_zero (run_at byte n a) ≡ false
    → text_from byte f l a ≡ with_bytes (run_at byte n a) (text_from byte f (l - length (run_at byte n a)) (further a (length (run_at byte n a))))
unfolding run_at
text-goes byte f zero l a h m z =
    let e : l - 0 ≡ l = omega arith in
    sym (none-with (text_from byte f (l - 0) (further a 0)) ∙ ap (λ b. text_from byte f (l - 0) b) (further-none a h) ∙ ap (λ k. text_from byte f k a) e)
text-goes byte f (suc n) zero a h m z = absurd (omega arith)
text-goes byte f (suc n) (suc l) a h m z =
    text-at byte f l a ∙ text-goes-after byte f n l a (byte a) h refl (λ b i y. text-goes byte f n l b i (omega arith) y) (text-at byte f l a) z

-- a value goes on behind its run
value-at : (byte : ℕ → Option ℕ) (s a : ℕ) → value_from byte (suc s) a ≡ value_after (byte a) (value_from byte s) a
unfolding value_from
value-at byte s a = refl

value-goes-after : (byte : ℕ → Option ℕ) (n s a : ℕ) (o : Option ℕ) → a < 2 ^ 64 → byte a ≡ o
    → ((b : ℕ) → b < 2 ^ 64 → value_from byte s b ≡ with_bytes (run_at byte n b) (value_from byte (s - length (run_at byte n b)) (further b (length (run_at byte n b)))))
    → value_after o (value_from byte s) a
    ≡ with_bytes (run_after o (run_at byte n) a) (value_from byte (suc s - length (run_after o (run_at byte n) a)) (further a (length (run_after o (run_at byte n) a))))
value-goes-after byte n s a None h q ih =
    let e : suc s - 0 ≡ suc s = omega arith in
    sym (none-with (value_from byte (suc s - 0) (further a 0)) ∙ rw (further-none a h, e) (value-at byte s a ∙ ap (λ o. value_after o (value_from byte s) a) q))
value-goes-after byte n s a (Some b) h q ih =
    let run = run_at byte n (further a 1) in
    let e : suc s - suc (length run) ≡ s - length run = omega arith in
    ap (with_bytes (b ∷ [])) (ih (further a 1) (omega arith))
    ∙ more-with b run (value_from byte (s - length run) (further (further a 1) (length run)))
    ∙ ap (λ m. with_bytes (b ∷ run) (value_from byte m (further (further a 1) (length run)))) (sym e)
    ∙ ap (λ m. with_bytes (b ∷ run) (value_from byte (suc s - suc (length run)) m)) (further-more a (length run))

value-goes : (byte : ℕ → Option ℕ) (n s a : ℕ) → a < 2 ^ 64 → n ≤ s
    → value_from byte s a ≡ with_bytes (run_at byte n a) (value_from byte (s - length (run_at byte n a)) (further a (length (run_at byte n a))))
unfolding run_at
value-goes byte zero s a h m =
    let e : s - 0 ≡ s = omega arith in
    sym (none-with (value_from byte (s - 0) (further a 0)) ∙ ap (λ b. value_from byte (s - 0) b) (further-none a h) ∙ ap (λ k. value_from byte k a) e)
value-goes byte (suc n) zero a h m = absurd (omega arith)
value-goes byte (suc n) (suc s) a h m =
    value-at byte s a ∙ value-goes-after byte n s a (byte a) h refl (λ b i. value-goes byte n s b i (omega arith))

-- ---- steps of the whole copy

read-some : (byte : ℕ → Option ℕ) (a n b : ℕ) → byte a ≡ Some b → read_at byte a n ≡ Ok (run_at byte n a)
read-some byte a n b e = rw e refl

read-none : (byte : ℕ → Option ℕ) (a n : ℕ) → byte a ≡ None → read_at byte a n ≡ Err efault
read-none byte a n e = rw e refl

copy-at : (byte : ℕ → Option ℕ) (part : Part) (parts : List Part) → copy_of byte (part ∷ parts) ≡ with_text (copy_part byte part) (copy_of byte parts)
unfolding copy_of
copy-at byte part parts = refl

-- a text before the others
copy-with : (text : List ℕ) (p : Progress) (copy : Result (List (List ℕ)) ℕ) → IsCopy p copy → IsCopy (progress_with text p) (with_text (Ok text) copy)
copy-with text (Wants a n) copy h = tt
copy-with text (Complete texts) copy h = rw h refl
copy-with text (Faulty e) copy h = rw h refl

-- bytes before the first text
copy-taken : (bytes : List ℕ) (p : Progress) (text : Result (List ℕ) ℕ) (copy : Result (List (List ℕ)) ℕ) → IsCopy p (with_text text copy) → IsCopy (with_taken bytes p) (with_text (with_bytes bytes text) copy)
copy-taken bytes (Wants a n) text copy h = tt
copy-taken bytes (Faulty e) (Ok t) (Ok ts) h = cc
copy-taken bytes (Faulty e) (Ok t) (Err d) h = h
copy-taken bytes (Faulty e) (Err d) copy h = h
copy-taken bytes (Complete []) (Ok t) (Ok ts) h = cc
copy-taken bytes (Complete []) (Ok t) (Err d) h = cc
copy-taken bytes (Complete []) (Err d) copy h = cc
copy-taken bytes (Complete (u ∷ us)) (Ok t) (Ok ts) h = cc
copy-taken bytes (Complete (u ∷ us)) (Ok t) (Err d) h = cc
copy-taken bytes (Complete (u ∷ us)) (Err d) copy h = cc

first-read : (byte : ℕ → Option ℕ) (parts : List Part) (x : Result (List ℕ) ℕ) (later : List (Result (List ℕ) ℕ)) (a n : ℕ)
    → AreRead byte parts (x ∷ later) → progress parts [] ≡ Wants a n → x ≡ read_at byte a n
first-read byte parts x later a n h e = h [] x later a n refl e

rest-read : (byte : ℕ → Option ℕ) (parts left : List Part) (x : Result (List ℕ) ℕ) (later : List (Result (List ℕ) ℕ))
    → AreRead byte parts (x ∷ later) → ((before : List (Result (List ℕ) ℕ)) (a n : ℕ) → progress left before ≡ Wants a n → progress parts (x ∷ before) ≡ Wants a n)
    → AreRead byte left later
rest-read byte parts left x later h c = λ before answer more a n e w. h (x ∷ before) answer more a n (ap (λ answers. x ∷ answers) e) (c before a n w)

abbrev Claim : (ℕ → Option ℕ) → List (Result (List ℕ) ℕ) → Type 0
Claim byte answers = (parts : List Part) → ArePlaced parts → AreRead byte parts answers → IsCopy (progress parts answers) (copy_of byte parts)

text-none : (byte : ℕ → Option ℕ) (f l : ℕ) → text_from byte f 0 l ≡ Err f
unfolding text_from
text-none byte f l = refl

text-unmapped : (byte : ℕ → Option ℕ) (f l a : ℕ) → 0 < l → byte a ≡ None → text_from byte f l a ≡ Err efault
text-unmapped byte f zero a p e = absurd (omega arith)
text-unmapped byte f (suc l) a p e = text-at byte f l a ∙ ap (λ o. text_after o (text_from byte f l) a) e

module _ (byte : ℕ → Option ℕ) (a l f : ℕ) (ps : List Part) (later : List (Result (List ℕ) ℕ)) where
  text-ended : (bytes : List ℕ) → ArePlaced ps → has_zero bytes ≡ true → text_from byte f l a ≡ Ok (before_zero bytes)
      → AreRead byte (Text a l f ∷ ps) (Ok bytes ∷ later) → (AreRead byte ps later → IsCopy (progress ps later) (copy_of byte ps))
      → IsCopy (progress (Text a l f ∷ ps) (Ok bytes ∷ later)) (copy_of byte (Text a l f ∷ ps))
  text-ended bytes placed z t h ih =
      let r = rest-read byte (Text a l f ∷ ps) ps (Ok bytes) later h (λ before b n w. text_whole a l f ps bytes before z ∙ ap (progress_with (before_zero bytes)) w) in
      let p = text_whole a l f ps bytes later z in
      let c = copy-at byte (Text a l f) ps ∙ ap (λ t. with_text t (copy_of byte ps)) t in
      rw (p, c) (copy-with (before_zero bytes) (progress ps later) (copy_of byte ps) (ih r))

  text-went : (bytes : List ℕ) → has_zero bytes ≡ false → length bytes < l
      → text_from byte f l a ≡ with_bytes bytes (text_from byte f (l - length bytes) (further a (length bytes)))
      → AreRead byte (Text a l f ∷ ps) (Ok bytes ∷ later)
      → (AreRead byte (Text (further a (length bytes)) (l - length bytes) f ∷ ps) later
      → IsCopy (progress (Text (further a (length bytes)) (l - length bytes) f ∷ ps) later) (copy_of byte (Text (further a (length bytes)) (l - length bytes) f ∷ ps)))
      → IsCopy (progress (Text a l f ∷ ps) (Ok bytes ∷ later)) (copy_of byte (Text a l f ∷ ps))
  text-went bytes z s t h ih =
      let left = Text (further a (length bytes)) (l - length bytes) f in
      let r = rest-read byte (Text a l f ∷ ps) (left ∷ ps) (Ok bytes) later h (λ before b n w. text_on a l f ps bytes before z s ∙ ap (with_taken bytes) w) in
      let p = text_on a l f ps bytes later z s in
      let c = copy-at byte (Text a l f) ps ∙ ap (λ t. with_text t (copy_of byte ps)) t in
      let i : IsCopy (progress (left ∷ ps) later) (with_text (text_from byte f (l - length bytes) (further a (length bytes))) (copy_of byte ps)) = rw (copy-at byte left ps) at (ih r) in
      rw (p, c) (copy-taken bytes (progress (left ∷ ps) later) (text_from byte f (l - length bytes) (further a (length bytes))) (copy_of byte ps) i)

  text-too-long : (bytes : List ℕ) → has_zero bytes ≡ false → l ≤ length bytes
      → text_from byte f l a ≡ with_bytes bytes (text_from byte f (l - length bytes) (further a (length bytes)))
      → IsCopy (progress (Text a l f ∷ ps) (Ok bytes ∷ later)) (copy_of byte (Text a l f ∷ ps))
  text-too-long bytes z s t =
      let p = text_long a l f ps bytes later z s in
      let e : l - length bytes ≡ 0 = omega arith in
      let t' = t ∙ ap (λ n. with_bytes bytes (text_from byte f n (further a (length bytes)))) e ∙ ap (with_bytes bytes) (text-none byte f (further a (length bytes))) in
      let c = copy-at byte (Text a l f) ps ∙ ap (λ t. with_text t (copy_of byte ps)) t' in
      rw (p, c) refl

  text-fault : 0 < l → byte a ≡ None → IsCopy (progress (Text a l f ∷ ps) (Err efault ∷ later)) (copy_of byte (Text a l f ∷ ps))
  text-fault p e =
      let c = copy-at byte (Text a l f) ps ∙ ap (λ t. with_text t (copy_of byte ps)) (text-unmapped byte f l a p e) in
      rw (text_fails a l f 14 ps later, c) refl

value-none : (byte : ℕ → Option ℕ) (a : ℕ) → value_from byte 0 a ≡ Ok []
unfolding value_from
value-none byte a = refl

value-unmapped : (byte : ℕ → Option ℕ) (s a : ℕ) → 0 < s → byte a ≡ None → value_from byte s a ≡ Err efault
value-unmapped byte zero a p e = absurd (omega arith)
value-unmapped byte (suc s) a p e = value-at byte s a ∙ ap (λ o. value_after o (value_from byte s) a) e

value-copied : (byte : ℕ → Option ℕ) (a s : ℕ) → s ≤ 4096 → copy_part byte (Value a s) ≡ value_from byte s a
value-copied byte a s l = let t : nat_lt 4096 s ≡ false = grind arith in rw t refl

module _ (byte : ℕ → Option ℕ) (a s : ℕ) (ps : List Part) (later : List (Result (List ℕ) ℕ)) where
  value-ended : (bytes : List ℕ) → 0 < s → s ≤ 4096 → s ≤ length bytes
      → value_from byte s a ≡ with_bytes bytes (value_from byte (s - length bytes) (further a (length bytes)))
      → AreRead byte (Value a s ∷ ps) (Ok bytes ∷ later) → (AreRead byte ps later → IsCopy (progress ps later) (copy_of byte ps))
      → IsCopy (progress (Value a s ∷ ps) (Ok bytes ∷ later)) (copy_of byte (Value a s ∷ ps))
  value-ended bytes p l g t h ih =
      let r = rest-read byte (Value a s ∷ ps) ps (Ok bytes) later h (λ before b n w. value_whole a s ps bytes before p l g ∙ ap (progress_with bytes) w) in
      let q = value_whole a s ps bytes later p l g in
      let e : s - length bytes ≡ 0 = omega arith in
      let t' : value_from byte s a ≡ Ok bytes = t ∙ ap (λ n. with_bytes bytes (value_from byte n (further a (length bytes)))) e ∙ ap (with_bytes bytes) (value-none byte (further a (length bytes))) ∙ ap Ok (append-nil bytes) in
      let c = copy-at byte (Value a s) ps ∙ ap (λ t. with_text t (copy_of byte ps)) (value-copied byte a s l ∙ t') in
      rw (q, c) (copy-with bytes (progress ps later) (copy_of byte ps) (ih r))

  value-went : (bytes : List ℕ) → s ≤ 4096 → length bytes < s
      → value_from byte s a ≡ with_bytes bytes (value_from byte (s - length bytes) (further a (length bytes)))
      → AreRead byte (Value a s ∷ ps) (Ok bytes ∷ later)
      → (AreRead byte (Value (further a (length bytes)) (s - length bytes) ∷ ps) later
      → IsCopy (progress (Value (further a (length bytes)) (s - length bytes) ∷ ps) later) (copy_of byte (Value (further a (length bytes)) (s - length bytes) ∷ ps)))
      → IsCopy (progress (Value a s ∷ ps) (Ok bytes ∷ later)) (copy_of byte (Value a s ∷ ps))
  value-went bytes l g t h ih =
      let left = Value (further a (length bytes)) (s - length bytes) in
      let r = rest-read byte (Value a s ∷ ps) (left ∷ ps) (Ok bytes) later h (λ before b n w. value_on a s ps bytes before l g ∙ ap (with_taken bytes) w) in
      let q = value_on a s ps bytes later l g in
      let c = copy-at byte (Value a s) ps ∙ ap (λ t. with_text t (copy_of byte ps)) (value-copied byte a s l ∙ t) in
      let d = copy-at byte left ps ∙ ap (λ t. with_text t (copy_of byte ps)) (value-copied byte (further a (length bytes)) (s - length bytes) (omega arith)) in
      let i : IsCopy (progress (left ∷ ps) later) (with_text (value_from byte (s - length bytes) (further a (length bytes))) (copy_of byte ps)) = rw d at (ih r) in
      rw (q, c) (copy-taken bytes (progress (left ∷ ps) later) (value_from byte (s - length bytes) (further a (length bytes))) (copy_of byte ps) i)

  value-fault : 0 < s → s ≤ 4096 → byte a ≡ None → IsCopy (progress (Value a s ∷ ps) (Err efault ∷ later)) (copy_of byte (Value a s ∷ ps))
  value-fault p l e =
      let c = copy-at byte (Value a s) ps ∙ ap (λ t. with_text t (copy_of byte ps)) (value-copied byte a s l ∙ value-unmapped byte s a p e) in
      rw (value_fails a s 14 ps later p l, c) refl

-- ---- by the answers, and for each by the parts

piece-within : (a l : ℕ) → piece a l ≤ l
piece-within a l = omega arith

text-step : (byte : ℕ → Option ℕ) (a l f : ℕ) (ps : List Part) (x : Result (List ℕ) ℕ) (later : List (Result (List ℕ) ℕ)) (o : Option ℕ) → byte a ≡ o → Claim byte later
    → a < 2 ^ 64 → 0 < l → ArePlaced ps → AreRead byte (Text a l f ∷ ps) (x ∷ later) → IsCopy (progress (Text a l f ∷ ps) (x ∷ later)) (copy_of byte (Text a l f ∷ ps))
text-step byte a l f ps x later None o ih h p placed r =
    let e : x ≡ Err efault = first-read byte (Text a l f ∷ ps) x later a (piece a l) r (text_asks a l f ps) ∙ read-none byte a (piece a l) o in
    rw e (text-fault byte a l f ps later p o)
text-step byte a l f ps x later (Some b) o ih h p placed r =
    let run = run_at byte (piece a l) a in
    let e : x ≡ Ok run = first-read byte (Text a l f ∷ ps) x later a (piece a l) r (text_asks a l f ps) ∙ read-some byte a (piece a l) b o in
    let r' : AreRead byte (Text a l f ∷ ps) (Ok run ∷ later) = rw e at r in
    let w = piece-within a l in
    let go : IsCopy (progress (Text a l f ∷ ps) (Ok run ∷ later)) (copy_of byte (Text a l f ∷ ps)) = elim (cases_Bool (has_zero run)) [
      | inl z ↦ text-ended byte a l f ps later run placed z (text-ends byte f (piece a l) l a w z) r' (λ i. ih ps placed i)
      | inr z ↦
          let t = text-goes byte f (piece a l) l a h w z in
          elim (cases_Bool (nat_le l (length run))) [
            | inl y ↦ text-too-long byte a l f ps later run z (grind arith) t
            | inr y ↦ text-went byte a l f ps later run z (grind arith) t r' (λ i. ih (Text (further a (length run)) (l - length run) f ∷ ps) ((omega arith, grind arith), placed) i)
          ]
    ] in
    rw e go

value-step : (byte : ℕ → Option ℕ) (a s : ℕ) (ps : List Part) (x : Result (List ℕ) ℕ) (later : List (Result (List ℕ) ℕ)) (o : Option ℕ) → byte a ≡ o → Claim byte later
    → a < 2 ^ 64 → 0 < s → s ≤ 4096 → ArePlaced ps → AreRead byte (Value a s ∷ ps) (x ∷ later) → IsCopy (progress (Value a s ∷ ps) (x ∷ later)) (copy_of byte (Value a s ∷ ps))
value-step byte a s ps x later None o ih h p l placed r =
    let e : x ≡ Err efault = first-read byte (Value a s ∷ ps) x later a (piece a s) r (value_asks a s ps p l) ∙ read-none byte a (piece a s) o in
    rw e (value-fault byte a s ps later p l o)
value-step byte a s ps x later (Some b) o ih h p l placed r =
    let run = run_at byte (piece a s) a in
    let e : x ≡ Ok run = first-read byte (Value a s ∷ ps) x later a (piece a s) r (value_asks a s ps p l) ∙ read-some byte a (piece a s) b o in
    let r' : AreRead byte (Value a s ∷ ps) (Ok run ∷ later) = rw e at r in
    let t = value-goes byte (piece a s) s a h (piece-within a s) in
    let go : IsCopy (progress (Value a s ∷ ps) (Ok run ∷ later)) (copy_of byte (Value a s ∷ ps)) = elim (cases_Bool (nat_le s (length run))) [
      | inl y ↦ value-ended byte a s ps later run p l (grind arith) t r' (λ i. ih ps placed i)
      | inr y ↦ value-went byte a s ps later run l (grind arith) t r' (λ i. ih (Value (further a (length run)) (s - length run) ∷ ps) (omega arith, placed) i)
    ] in
    rw e go

copied-empty : (byte : ℕ → Option ℕ) (a : ℕ) → copy_part byte (Value a 0) ≡ Ok []
copied-empty byte a = value-none byte a

value-nothing : (byte : ℕ → Option ℕ) (a : ℕ) (ps : List Part) (answers : List (Result (List ℕ) ℕ)) → AreRead byte (Value a 0 ∷ ps) answers
    → (AreRead byte ps answers → IsCopy (progress ps answers) (copy_of byte ps)) → IsCopy (progress (Value a 0 ∷ ps) answers) (copy_of byte (Value a 0 ∷ ps))
value-nothing byte a ps answers r ih =
    let r' : AreRead byte ps answers = λ before answer more b n e w. r before answer more b n e (value_empty a ps before ∙ ap (progress_with []) w) in
    let c = copy-at byte (Value a 0) ps ∙ ap (λ t. with_text t (copy_of byte ps)) (copied-empty byte a) in
    rw (value_empty a ps answers, c) (copy-with [] (progress ps answers) (copy_of byte ps) (ih r'))

copied-great : (byte : ℕ → Option ℕ) (a s : ℕ) → 4096 < s → copy_part byte (Value a s) ≡ Err e2big
copied-great byte a s h = let t : nat_lt 4096 s ≡ true = grind arith in rw t refl

value-great : (byte : ℕ → Option ℕ) (a s : ℕ) (ps : List Part) (answers : List (Result (List ℕ) ℕ)) → 4096 < s → IsCopy (progress (Value a s ∷ ps) answers) (copy_of byte (Value a s ∷ ps))
value-great byte a s ps answers h =
    let c = copy-at byte (Value a s) ps ∙ ap (λ t. with_text t (copy_of byte ps)) (copied-great byte a s h) in
    rw (value_big a s ps answers h, c) refl

ended : (byte : ℕ → Option ℕ) (answers : List (Result (List ℕ) ℕ)) → IsCopy (progress [] answers) (copy_of byte [])
unfolding progress copy_of
ended byte answers = refl

none-answered : (byte : ℕ → Option ℕ) (a s : ℕ) (ps : List Part) → 0 < s → IsCopy (progress (Value a s ∷ ps) []) (copy_of byte (Value a s ∷ ps))
none-answered byte a s ps p = elim (cases_Bool (nat_lt 4096 s)) [
  | inl h ↦ value-great byte a s ps [] (grind arith)
  | inr h ↦ let l : s ≤ 4096 = grind arith in rw (value_asks a s ps p l) tt
]

base : (byte : ℕ → Option ℕ) → Claim byte []
base byte [] placed r = ended byte []
base byte (Text a l f ∷ ps) placed r = rw (text_asks a l f ps) tt
base byte (Value a zero ∷ ps) placed r = value-nothing byte a ps [] r (λ i. base byte ps placed.1 i)
base byte (Value a (suc s) ∷ ps) placed r = none-answered byte a (suc s) ps (omega arith)

value-answered : (byte : ℕ → Option ℕ) (a s : ℕ) (ps : List Part) (x : Result (List ℕ) ℕ) (later : List (Result (List ℕ) ℕ)) → Claim byte later → a < 2 ^ 64 → 0 < s → ArePlaced ps
    → AreRead byte (Value a s ∷ ps) (x ∷ later) → IsCopy (progress (Value a s ∷ ps) (x ∷ later)) (copy_of byte (Value a s ∷ ps))
value-answered byte a s ps x later ih h p placed r = elim (cases_Bool (nat_lt 4096 s)) [
  | inl g ↦ value-great byte a s ps (x ∷ later) (grind arith)
  | inr g ↦ value-step byte a s ps x later (byte a) refl ih h p (grind arith) placed r
]

step : (byte : ℕ → Option ℕ) (x : Result (List ℕ) ℕ) (later : List (Result (List ℕ) ℕ)) → Claim byte later → Claim byte (x ∷ later)
step byte x later ih [] placed r = ended byte (x ∷ later)
step byte x later ih (Text a l f ∷ ps) placed r = text-step byte a l f ps x later (byte a) refl ih placed.0.0 placed.0.1 placed.1 r
step byte x later ih (Value a zero ∷ ps) placed r = value-nothing byte a ps (x ∷ later) r (λ i. step byte x later ih ps placed.1 i)
step byte x later ih (Value a (suc s) ∷ ps) placed r = value-answered byte a (suc s) ps x later ih placed.0 (omega arith) placed.1 r

pub is_read_copy : (byte : ℕ → Option ℕ) (answers : List (Result (List ℕ) ℕ)) (parts : List Part) → ArePlaced parts → AreRead byte parts answers → IsCopy (progress parts answers) (copy_of byte parts)
is_read_copy byte [] = base byte
is_read_copy byte (x ∷ later) = step byte x later (is_read_copy byte later)
