-- The texts of a whole copy were given, byte by byte, by the reads of its pieces, and are such as the call's plan can have.
-- By induction on the answers of one text, and then on the parts of the plan. G says which byte stands at which address.
use Rattle.std.proofs.Common.{ap, arith, Bool, false, inl, inr, length, List, [], ◌∷◌, refl, subst, suc, sym, true, ℕ, zero, ◌-◌, ◌<◌, ◌&&◌, ◌∙◌, ◌≡◌, ◌≤◌, ◌++◌, append_assoc, length-append}
use Rattle.std.proofs.lemmas.Bool.{cases_Bool, eq-eqb, eqb-true, le-leb, leb-false, leb-true, lt-ltb, ltb-false, ne_eqb}
use Rattle.std.specs.Prelude.{Err, nat_le, nat_lt, not, Ok, Result, ◌==◌}
use Rattle.hist_model.specs.Copies.{Asks, before_zero, begun_with, Complete, Fails, Faulty, further, has_zero, piece, Progress, progress, progress_after, progress_with, read_part, read_sized, read_text}
use Rattle.hist_model.specs.Copies.{read_value, Reading, Wants, Whole}
use Rattle.sys_abi.specs.Errnos.{e2big}
use Rattle.hist_model.specs.declared.copy.Part.{Part}
use Rattle.hist_model.specs.declared.copy.Part.TheVariants.{Text, Value}
use Rattle.broker_verdict.specs.SeatCopies.{fit_parts, fits_part}

module _ (G : ℕ → ℕ → Type 0) where
  -- each of these bytes, which stand from an address on
  abbrev pub Given : ℕ → List ℕ → Type 0
  Given x [] = Unit {0}
  Given x (b ∷ more) = G x b × Given (further x 1) more

  further-more : (a n : ℕ) → further (further a 1) n ≡ further a (suc n)
  further-more a n = omega arith

  given-further : (x n : ℕ) (ys : List ℕ) → Given (further x (suc n)) ys → Given (further (further x 1) n) ys
  given-further x n ys h = subst (λ (a : ℕ). Given a ys) (sym (further-more x n)) h

  -- bytes, and those behind them
  given-append : (x b : ℕ) (xs ys : List ℕ) → Given x (b ∷ xs) → Given (further x (suc (length xs))) ys → Given x (b ∷ (xs ++ ys))
  given-append x b [] ys h g = (h.0, g)
  given-append x b (c ∷ xs) ys h g = (h.0, given-append (further x 1) c xs ys h.1 (given-further x (suc (length xs)) ys g))

  not-zero : (b : ℕ) → (suc b == 0) ≡ false
  not-zero b = ne_eqb (suc b) 0 (omega arith)

  -- bytes up to the first zero
  given-zero : (x : ℕ) (bytes : List ℕ) → has_zero bytes ≡ true → Given x bytes → Given x (before_zero bytes ++ 0 ∷ [])
  given-zero x [] z h = cc
  given-zero x (zero ∷ more) z h = (h.0, tt)
  given-zero x (suc b ∷ more) z h = rw (not-zero b) (h.0, given-zero (further x 1) more (rw (not-zero b) at z) h.1)

  no-zero : (bytes : List ℕ) → has_zero (before_zero bytes) ≡ false
  no-zero [] = refl
  no-zero (zero ∷ more) = refl
  no-zero (suc b ∷ more) = rw (not-zero b, not-zero b) (no-zero more)

  zero-within : (bytes : List ℕ) → has_zero bytes ≡ true → length (before_zero bytes) < length bytes
  zero-within [] z = cc
  zero-within (zero ∷ more) z = omega arith
  zero-within (suc b ∷ more) z = let h = zero-within more (rw (not-zero b) at z) in rw (not-zero b) (omega (arith, h))

  has-none : (xs ys : List ℕ) → has_zero xs ≡ false → has_zero ys ≡ false → has_zero (xs ++ ys) ≡ false
  has-none [] ys h g = g
  has-none (zero ∷ xs) ys h g = cc
  has-none (suc b ∷ xs) ys h g = rw (not-zero b) (has-none xs ys (rw (not-zero b) at h) g)

  -- the answer to a piece gives bytes, at least one and no more than were wanted
  abbrev pub AreGiven : ℕ → ℕ → List ℕ → Type 0
  AreGiven a n bytes = Given a bytes × (1 ≤ length bytes) × (length bytes ≤ n)

  -- each answer that has bytes gives those of the piece that a reading wanted before it
  abbrev pub Answers : (List (Result (List ℕ) ℕ) → Reading) → List (Result (List ℕ) ℕ) → Type 0
  Answers reading answers = (earlier later : List (Result (List ℕ) ℕ)) (bytes : List ℕ) (a n : ℕ)
      → answers ≡ earlier ++ Ok bytes ∷ later → reading earlier ≡ Asks a n → AreGiven a n bytes

  -- what a reading has come to: its bytes are given, and it took the answers before those that are left
  pub record IsRead (reading : List (Result (List ℕ) ℕ) → Reading) (answers later : List (Result (List ℕ) ℕ)) (text : List ℕ) : Type 0 where
    pub taken : List (Result (List ℕ) ℕ)
    pub split : answers ≡ taken ++ later
    pub alone : (more : List (Result (List ℕ) ℕ)) → reading (taken ++ more) ≡ Whole text more

  -- ---- a text

  text-whole : (fault a n : ℕ) (bytes : List ℕ) (more : List (Result (List ℕ) ℕ)) → has_zero bytes ≡ true → read_text fault (Ok bytes ∷ more) a n ≡ Whole (before_zero bytes) more
  unfolding read_text
  text-whole fault a n bytes more z = rw z refl

  text-on : (fault a n : ℕ) (bytes : List ℕ) (more : List (Result (List ℕ) ℕ)) → has_zero bytes ≡ false → nat_le n (length bytes) ≡ false
      → read_text fault (Ok bytes ∷ more) a n ≡ begun_with bytes (read_text fault more (further a (length bytes)) (n - length bytes))
  unfolding read_text
  text-on fault a n bytes more z l = rw (z, l) refl

  text-fails : (fault a n : ℕ) (bytes : List ℕ) (more : List (Result (List ℕ) ℕ)) → has_zero bytes ≡ false → nat_le n (length bytes) ≡ true → read_text fault (Ok bytes ∷ more) a n ≡ Fails fault
  unfolding read_text
  text-fails fault a n bytes more z l = rw (z, l) refl

  text-asks : (fault a n : ℕ) → read_text fault [] a n ≡ Asks a (piece a n)
  unfolding read_text
  text-asks fault a n = refl

  -- a reading that goes on behind bytes
  begun-whole : (bytes : List ℕ) (r : Reading) (t : List ℕ) (l : List (Result (List ℕ) ℕ)) → begun_with bytes r ≡ Whole t l → (u : List ℕ) × (t ≡ bytes ++ u) × (r ≡ Whole u l)
  begun-whole bytes (Asks a n) t l h = absurd (cc h)
  begun-whole bytes (Fails e) t l h = absurd (cc h)
  begun-whole bytes (Whole u m) t l h = (u, cc, cc)

  -- what a text comes to
  pub record TextRead (fault a n : ℕ) (answers later : List (Result (List ℕ) ℕ)) (text : List ℕ) : Type 0 where
    pub given : Given a (text ++ 0 ∷ [])
    pub no_zero : has_zero text ≡ false
    pub within : length text < n
    pub is_read : IsRead (λ more. read_text fault more a n) answers later text

  text-errs : (fault a n e : ℕ) (more : List (Result (List ℕ) ℕ)) → read_text fault (Err e ∷ more) a n ≡ Fails e
  unfolding read_text
  text-errs fault a n e more = refl

  piece-within : (a n : ℕ) → piece a n ≤ n
  piece-within a n = omega arith

  -- it ends within the first piece
  text-ended : (fault : ℕ) (answers : List (Result (List ℕ) ℕ)) (a n : ℕ) (text : List ℕ) (later : List (Result (List ℕ) ℕ)) (bytes : List ℕ) → AreGiven a (piece a n) bytes → has_zero bytes ≡ true
      → read_text fault (Ok bytes ∷ answers) a n ≡ Whole text later → TextRead fault a n (Ok bytes ∷ answers) later text
  text-ended fault answers a n text later bytes g z w =
      let y : ◌≡◌ {A = Reading} (Whole (before_zero bytes) answers) (Whole text later) = sym (text-whole fault a n bytes answers z) ∙ w in
      let t : before_zero bytes ≡ text = cc in
      let l : answers ≡ later = cc in
      let m = zero-within bytes z in
      let p = piece-within a n in
      record {
        given = rw (← t) (given-zero a bytes z g.0);
        no_zero = rw (← t) (no-zero bytes);
        within = rw (← t) (omega (arith, m, g.2, p));
        is_read = record { taken = Ok bytes ∷ []; split = ap (λ (more : List (Result (List ℕ) ℕ)). Ok bytes ∷ more) l; alone = λ more. text-whole fault a n bytes more z ∙ ap (λ (u : List ℕ). Whole u more) t };
      }

  -- it goes on behind the first piece
  text-longer : (fault : ℕ) (answers : List (Result (List ℕ) ℕ)) (a n : ℕ) (text : List ℕ) (later : List (Result (List ℕ) ℕ)) (bytes : List ℕ) → AreGiven a (piece a n) bytes → has_zero bytes ≡ false
      → nat_le n (length bytes) ≡ false → (u : List ℕ) → text ≡ bytes ++ u → TextRead fault (further a (length bytes)) (n - length bytes) answers later u → TextRead fault a n (Ok bytes ∷ answers) later text
  text-longer fault answers a n text later [] g z l u t ih = absurd (omega (arith, g.1))
  text-longer fault answers a n text later (b ∷ bytes) g z l u t ih =
      let all = b ∷ bytes in
      let q : text ++ 0 ∷ [] ≡ b ∷ (bytes ++ (u ++ 0 ∷ [])) = ap (λ (v : List ℕ). v ++ 0 ∷ []) t ∙ append_assoc all u (0 ∷ []) in
      let m = ap length t ∙ length-append all u in
      let w = ih.within in
      record {
        given = rw q (given-append a b bytes (u ++ 0 ∷ []) g.0 ih.given);
        no_zero = rw t (has-none all u z ih.no_zero);
        within = omega (arith, m, w);
        is_read = record {
          taken = Ok all ∷ ih.is_read.taken;
          split = ap (λ (more : List (Result (List ℕ) ℕ)). Ok all ∷ more) ih.is_read.split;
          alone = λ more. text-on fault a n all (ih.is_read.taken ++ more) z l ∙ (ap (begun_with all) (ih.is_read.alone more) ∙ ap (λ (v : List ℕ). Whole v more) (sym t));
        };
      }

  pub text_given : (fault : ℕ) (answers : List (Result (List ℕ) ℕ)) (a n : ℕ) (text : List ℕ) (later : List (Result (List ℕ) ℕ)) → Answers (λ more. read_text fault more a n) answers
      → read_text fault answers a n ≡ Whole text later → TextRead fault a n answers later text
  text_given fault [] a n text later h w = absurd (cc (text-asks fault a n, w))
  text_given fault (Err e ∷ answers) a n text later h w = absurd (cc (text-errs fault a n e answers, w))
  text_given fault (Ok bytes ∷ answers) a n text later h w =
      let g = h [] answers bytes a (piece a n) refl (text-asks fault a n) in
      elim (cases_Bool (has_zero bytes)) [
        | inl z ↦ text-ended fault answers a n text later bytes g z w
        | inr z ↦ elim (cases_Bool (nat_le n (length bytes))) [
          | inl l ↦ absurd (cc (text-fails fault a n bytes answers z l, w))
          | inr l ↦
              let k = begun-whole bytes (read_text fault answers (further a (length bytes)) (n - length bytes)) text later (sym (text-on fault a n bytes answers z l) ∙ w) in
              let ih = text_given fault answers (further a (length bytes)) (n - length bytes) k.0 later
              (λ earlier rest b x m q r. h (Ok bytes ∷ earlier) rest b x m (ap (λ (more : List (Result (List ℕ) ℕ)). Ok bytes ∷ more) q) (text-on fault a n bytes earlier z l ∙ ap (begun_with bytes) r)) k.2 in
              text-longer fault answers a n text later bytes g z l k.0 k.1 ih
        ]
      ]

  -- ---- a value

  value-whole : (a n : ℕ) (bytes : List ℕ) (more : List (Result (List ℕ) ℕ)) → nat_le n (length bytes) ≡ true → read_value (Ok bytes ∷ more) a n ≡ Whole bytes more
  unfolding read_value
  value-whole a n bytes more l = rw l refl

  value-on : (a n : ℕ) (bytes : List ℕ) (more : List (Result (List ℕ) ℕ)) → nat_le n (length bytes) ≡ false
      → read_value (Ok bytes ∷ more) a n ≡ begun_with bytes (read_value more (further a (length bytes)) (n - length bytes))
  unfolding read_value
  value-on a n bytes more l = rw l refl

  value-asks : (a n : ℕ) → read_value [] a n ≡ Asks a (piece a n)
  unfolding read_value
  value-asks a n = refl

  value-errs : (a n e : ℕ) (more : List (Result (List ℕ) ℕ)) → read_value (Err e ∷ more) a n ≡ Fails e
  unfolding read_value
  value-errs a n e more = refl

  -- what a value comes to
  pub record ValueRead (a n : ℕ) (answers later : List (Result (List ℕ) ℕ)) (text : List ℕ) : Type 0 where
    pub given : Given a text
    pub sized : length text ≡ n
    pub is_read : IsRead (λ more. read_value more a n) answers later text

  -- it ends within the first piece
  value-ended : (answers : List (Result (List ℕ) ℕ)) (a n : ℕ) (text : List ℕ) (later : List (Result (List ℕ) ℕ)) (bytes : List ℕ) → AreGiven a (piece a n) bytes → nat_le n (length bytes) ≡ true
      → read_value (Ok bytes ∷ answers) a n ≡ Whole text later → ValueRead a n (Ok bytes ∷ answers) later text
  value-ended answers a n text later bytes g l w =
      let y : ◌≡◌ {A = Reading} (Whole bytes answers) (Whole text later) = sym (value-whole a n bytes answers l) ∙ w in
      let t : bytes ≡ text = cc in
      let q : answers ≡ later = cc in
      let p = piece-within a n in
      record {
        given = rw (← t) g.0;
        sized = rw (← t) (omega (arith, leb-true n (length bytes) l, g.2, p));
        is_read = record { taken = Ok bytes ∷ []; split = ap (λ (more : List (Result (List ℕ) ℕ)). Ok bytes ∷ more) q; alone = λ more. value-whole a n bytes more l ∙ ap (λ (u : List ℕ). Whole u more) t };
      }

  -- it goes on behind the first piece
  value-longer : (answers : List (Result (List ℕ) ℕ)) (a n : ℕ) (text : List ℕ) (later : List (Result (List ℕ) ℕ)) (bytes : List ℕ) → AreGiven a (piece a n) bytes → nat_le n (length bytes) ≡ false
      → (u : List ℕ) → text ≡ bytes ++ u → ValueRead (further a (length bytes)) (n - length bytes) answers later u → ValueRead a n (Ok bytes ∷ answers) later text
  value-longer answers a n text later [] g l u t ih = absurd (omega (arith, g.1))
  value-longer answers a n text later (b ∷ bytes) g l u t ih =
      let all = b ∷ bytes in
      let m = ap length t ∙ length-append all u in
      let w = ih.sized in
      record {
        given = rw t (given-append a b bytes u g.0 ih.given);
        sized = omega (arith, m, w, leb-false n (length all) l);
        is_read = record {
          taken = Ok all ∷ ih.is_read.taken;
          split = ap (λ (more : List (Result (List ℕ) ℕ)). Ok all ∷ more) ih.is_read.split;
          alone = λ more. value-on a n all (ih.is_read.taken ++ more) l ∙ (ap (begun_with all) (ih.is_read.alone more) ∙ ap (λ (v : List ℕ). Whole v more) (sym t));
        };
      }

  pub value_given : (answers : List (Result (List ℕ) ℕ)) (a n : ℕ) (text : List ℕ) (later : List (Result (List ℕ) ℕ)) → Answers (λ more. read_value more a n) answers
      → read_value answers a n ≡ Whole text later → ValueRead a n answers later text
  value_given [] a n text later h w = absurd (cc (value-asks a n, w))
  value_given (Err e ∷ answers) a n text later h w = absurd (cc (value-errs a n e answers, w))
  value_given (Ok bytes ∷ answers) a n text later h w =
      let g = h [] answers bytes a (piece a n) refl (value-asks a n) in
      elim (cases_Bool (nat_le n (length bytes))) [
        | inl l ↦ value-ended answers a n text later bytes g l w
        | inr l ↦
            let k = begun-whole bytes (read_value answers (further a (length bytes)) (n - length bytes)) text later (sym (value-on a n bytes answers l) ∙ w) in
            let ih = value_given answers (further a (length bytes)) (n - length bytes) k.0 later
            (λ earlier rest b x m q r. h (Ok bytes ∷ earlier) rest b x m (ap (λ (more : List (Result (List ℕ) ℕ)). Ok bytes ∷ more) q) (value-on a n bytes earlier l ∙ ap (begun_with bytes) r)) k.2 in
            value-longer answers a n text later bytes g l k.0 k.1 ih
      ]

  -- ---- a plan

  -- the bytes of a text with the zero that ends it, or of a value
  abbrev pub GivenPart : Part → List ℕ → Type 0
  GivenPart (Text addr limit fault) text = Given addr (text ++ 0 ∷ [])
  GivenPart (Value addr size) text = Given addr text

  abbrev pub GivenParts : List Part → List (List ℕ) → Type 0
  GivenParts [] [] = Unit {0}
  GivenParts (part ∷ parts) (text ∷ texts) = GivenPart part text × GivenParts parts texts
  GivenParts _ _ = ⊥

  pub record PartRead (part : Part) (answers later : List (Result (List ℕ) ℕ)) (text : List ℕ) : Type 0 where
    pub given : GivenPart part text
    pub fits : fits_part part text ≡ true
    pub is_read : IsRead (read_part part) answers later text

  text-fits : (n : ℕ) (text : List ℕ) → has_zero text ≡ false → length text < n → (not (has_zero text) && nat_lt (length text) n) ≡ true
  text-fits n text z w = rw (z, lt-ltb (length text) n w) refl

  value-fits : (n : ℕ) (text : List ℕ) → nat_lt 4096 n ≡ false → length text ≡ n → ((length text == n) && nat_le n 4096) ≡ true
  value-fits n text small w = rw (eq-eqb (length text) n w, le-leb n 4096 (ltb-false 4096 n small)) refl

  sized-big : (answers : List (Result (List ℕ) ℕ)) (addr size : ℕ) (empty : Bool) → nat_lt 4096 size ≡ true → read_sized (nat_lt 4096 size) empty answers addr size ≡ Fails e2big
  sized-big answers addr size empty big = rw big refl

  sized-read : (answers : List (Result (List ℕ) ℕ)) (addr size : ℕ) → nat_lt 4096 size ≡ false → (size == 0) ≡ false → read_sized (nat_lt 4096 size) (size == 0) answers addr size ≡ read_value answers addr size
  sized-read answers addr size small some = rw (small, some) refl

  -- a value of no bytes takes no answer
  value-empty : (answers : List (Result (List ℕ) ℕ)) (addr size : ℕ) (text : List ℕ) (later : List (Result (List ℕ) ℕ)) → nat_lt 4096 size ≡ false → (size == 0) ≡ true
      → read_part (Value addr size) answers ≡ Whole text later → PartRead (Value addr size) answers later text
  value-empty answers addr size text later small none w =
      let alone : (more : List (Result (List ℕ) ℕ)) → read_part (Value addr size) more ≡ Whole [] more = λ more. rw (small, none) refl in
      let y : ◌≡◌ {A = Reading} (Whole [] answers) (Whole text later) = sym (alone answers) ∙ w in
      let t : [] ≡ text = cc in
      let l : answers ≡ later = cc in
      rw (← t) (record {
        given = tt;
        fits = value-fits size [] small (sym (eqb-true size 0 none));
        is_read = record { taken = []; split = l; alone = alone };
      })

  part_given : (part : Part) (answers : List (Result (List ℕ) ℕ)) (text : List ℕ) (later : List (Result (List ℕ) ℕ)) → Answers (read_part part) answers → read_part part answers ≡ Whole text later
      → PartRead part answers later text
  part_given (Text addr limit fault) answers text later h w =
      let t = text_given fault answers addr limit text later h w in
      record { given = t.given; fits = text-fits limit text t.no_zero t.within; is_read = record { taken = t.is_read.taken; split = t.is_read.split; alone = t.is_read.alone } }
  part_given (Value addr size) answers text later h w = elim (cases_Bool (nat_lt 4096 size)) [
    | inl big ↦ absurd (cc (sized-big answers addr size (size == 0) big, w))
    | inr small ↦ elim (cases_Bool (size == 0)) [
      | inl none ↦ value-empty answers addr size text later small none w
      | inr some ↦
          let same : (more : List (Result (List ℕ) ℕ)) → read_part (Value addr size) more ≡ read_value more addr size = λ more. sized-read more addr size small some in
          let v = value_given answers addr size text later (λ earlier rest bytes a n q r. h earlier rest bytes a n q (same earlier ∙ r)) (sym (same answers) ∙ w) in
          record {
            given = v.given;
            fits = value-fits size text small v.sized;
            is_read = record { taken = v.is_read.taken; split = v.is_read.split; alone = λ more. same (v.is_read.taken ++ more) ∙ v.is_read.alone more };
          }
    ]
  ]

  -- what a plan comes to
  pub record PlanRead (parts : List Part) (texts : List (List ℕ)) : Type 0 where
    pub given : GivenParts parts texts
    pub fits : fit_parts parts texts ≡ true

  -- a copy whose first text is whole
  with-complete : (text : List ℕ) (p : Progress) (texts : List (List ℕ)) → progress_with text p ≡ Complete texts → (rest : List (List ℕ)) × (texts ≡ text ∷ rest) × (p ≡ Complete rest)
  with-complete text (Wants a n) texts h = absurd (cc h)
  with-complete text (Faulty e) texts h = absurd (cc h)
  with-complete text (Complete rest) texts h = (rest, cc, refl)

  pub record FirstWhole (parts : List Part) (reading : Reading) (texts : List (List ℕ)) : Type 0 where
    pub text : List ℕ
    pub later : List (Result (List ℕ) ℕ)
    pub rest : List (List ℕ)
    pub read_whole : reading ≡ Whole text later
    pub split : texts ≡ text ∷ rest
    pub rest_complete : progress parts later ≡ Complete rest

  first-whole : (parts : List Part) (reading : Reading) (texts : List (List ℕ)) → progress_after reading (progress parts) ≡ Complete texts → FirstWhole parts reading texts
  first-whole parts (Asks a n) texts h = absurd (cc h)
  first-whole parts (Fails e) texts h = absurd (cc h)
  first-whole parts (Whole text later) texts h =
      let q = with-complete text (progress parts later) texts h in record { text = text; later = later; rest = q.0; read_whole = refl; split = q.1; rest_complete = q.2 }

  -- an answer to what the plan wants
  abbrev pub PlanAnswers : List Part → List (Result (List ℕ) ℕ) → Type 0
  PlanAnswers parts answers = (earlier later : List (Result (List ℕ) ℕ)) (bytes : List ℕ) (a n : ℕ)
      → answers ≡ earlier ++ Ok bytes ∷ later → progress parts earlier ≡ Wants a n → AreGiven a n bytes

  progress-at : (part : Part) (parts : List Part) (answers : List (Result (List ℕ) ℕ)) → progress (part ∷ parts) answers ≡ progress_after (read_part part answers) (progress parts)
  unfolding progress
  progress-at part parts answers = refl

  progress-none : (answers : List (Result (List ℕ) ℕ)) → progress [] answers ≡ Complete []
  unfolding progress
  progress-none answers = refl

  pub plan_given : (parts : List Part) (answers : List (Result (List ℕ) ℕ)) (texts : List (List ℕ)) → PlanAnswers parts answers → progress parts answers ≡ Complete texts → PlanRead parts texts
  plan_given [] answers texts h w = let q : [] ≡ texts = cc (progress-none answers, w) in rw (← q) (record { given = tt; fits = refl })
  plan_given (part ∷ parts) answers texts h w =
      let f = first-whole parts (read_part part answers) texts (sym (progress-at part parts answers) ∙ w) in
      let p = part_given part answers f.text f.later (λ earlier later bytes a n q r. h earlier later bytes a n q (progress-at part parts earlier ∙ ap (λ (reading : Reading). progress_after reading (progress parts)) r)) f.read_whole in
      let rest = plan_given parts f.later f.rest (λ earlier later bytes a n q r. h (p.is_read.taken ++ earlier) later bytes a n
      (p.is_read.split ∙ (ap (λ (more : List (Result (List ℕ) ℕ)). p.is_read.taken ++ more) q ∙ sym (append_assoc p.is_read.taken earlier (Ok bytes ∷ later))))
      (progress-at part parts (p.is_read.taken ++ earlier) ∙ (ap (λ (reading : Reading). progress_after reading (progress parts)) (p.is_read.alone earlier) ∙ ap (progress_with f.text) r))) f.rest_complete in
      rw f.split (record { given = (p.given, rest.given); fits = rw (p.fits, rest.fits) refl })
