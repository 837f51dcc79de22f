-- Where the pass stands behind a line, and the fault line or the report where it ends.
-- By the laws of the pass (`Faults`, `Reading`), and by what the rest of a report and its bytes have in common (`Parting`).
use Rattle.std.proofs.Common.{inl, inr, ◌≡◌, ℕ, zero, suc, ◌+◌, ◌<◌, ◌≤◌, false, List, [], ◌∷◌, ◌++◌, length, take, drop, get_or, refl, sym, ap, subst, ◌∙◌, arith, add-one}
use Rattle.std.specs.Prelude.{bytes_eq}
use Rattle.std.proofs.lemmas.Bool.{cases_Bool}
use Rattle.std.proofs.lemmas.List.{drop-drop, drop_all, length-drop, take_all}
use Rattle.std.proofs.Math.Seq.{take-add}
use Rattle.hist_model.proofs.Look.{name_eq-refl, name_eq-true}
use Rattle.hist_model.specs.PolicyRules.{IsPolicy}
use Rattle.hist_model.specs.declared.event.Event.{Event}
use Rattle.hist_model.specs.declared.policy.Policy.{Policy}
use Rattle.hist_model.specs.declared.script.Script.{Script}
use Rattle.audit_check.specs.Lines.{lines}
use Rattle.audit_check.specs.Pass.{HasRead, PartBehind, ends}
use Rattle.audit_check.specs.Reading.{Fault, Reached, Rest, Title, is_fault, reached, rest_of, with_line, with_lines}
use Rattle.audit_check.specs.Reported.{IsFaultLine, IsReported}
use Rattle.audit_check.proofs.Faults.{at_fault, behind_last}
use Rattle.audit_check.proofs.Parting.{Parts, parted}
use Rattle.audit_check.proofs.Reading.{finds_reports, one_line, with_more}

-- the rows up to one more, and those behind it
front-more : (n : ℕ) (rows more : List (List ℕ)) (row : List ℕ) → drop n rows ≡ row ∷ more → (take (suc n) rows ≡ take n rows ++ row ∷ []) × (drop (suc n) rows ≡ more) × (suc n ≤ length rows)
front-more zero [] more row q = cc
front-more zero (x ∷ rows) more row q = let e : x ≡ row = cc in let f : rows ≡ more = cc in (ap (λ y. y ∷ []) e, f, omega arith)
front-more (suc n) [] more row q = cc
front-more (suc n) (x ∷ rows) more row q = let r = front-more n rows more row q in (ap (λ front. x ∷ front) r.0, r.1, let l = r.2 in omega arith)

-- none is behind the last
front-all : (n : ℕ) (rows : List (List ℕ)) → n ≤ length rows → drop n rows ≡ [] → n ≡ length rows
front-all n rows l q = omega (arith, length-drop n rows, ap length q)

-- the row behind a front
row-behind : (n : ℕ) (rows more : List (List ℕ)) (row : List ℕ) → drop n rows ≡ row ∷ more → get_or rows n [] ≡ row
row-behind zero [] more row q = cc
row-behind zero (x ∷ rows) more row q = cc
row-behind (suc n) [] more row q = cc
row-behind (suc n) (x ∷ rows) more row q = row-behind n rows more row q

row-none : (n : ℕ) (rows : List (List ℕ)) → drop n rows ≡ [] → get_or rows n [] ≡ []
row-none zero [] q = refl
row-none zero (x ∷ rows) q = cc
row-none (suc n) [] q = refl
row-none (suc n) (x ∷ rows) q = row-none n rows q

module _ (P : Policy) (S : Script) (bytes : List ℕ) where
  pub none_read : HasRead P S bytes 0 (lines bytes) Title
  unfolding with_lines
  none_read = record { counted = omega arith; left_is = refl; reached_is = refl }

  -- one line more was read
  pub line_read : (n : ℕ) (line : List ℕ) (more : List (List ℕ)) (here : Reached) → HasRead P S bytes n (line ∷ more) here → HasRead P S bytes (n + 1) more (with_line P S here line)
  line_read n line more here h =
      let f = front-more n (lines bytes) more line h.left_is in
      rw add-one (record {
        counted = f.2;
        left_is = f.1;
        reached_is = ap (reached P S) f.0 ∙ (with_more P S Title (take n (lines bytes)) (line ∷ []) ∙ (ap (λ so_far. with_lines P S so_far (line ∷ [])) h.reached_is ∙ one_line P S here line));
      })

  -- the pass over a report's rest, as far as the lines are its own
  own-front : (H : List Event) (k : ℕ) (rest : List (List ℕ)) → with_lines P S (Rest H rest) (take k rest) ≡ Rest H (drop k rest)
  unfolding with_lines
  own-front H zero rest = refl
  own-front H (suc k) [] = refl
  own-front H (suc k) (line ∷ rest) = rw (name_eq-refl line, with_lines) (own-front H k rest)

  module _ (policy : IsPolicy P) where
    -- the next line is a fault
    pub fault_next : (n : ℕ) (line : List ℕ) (more : List (List ℕ)) (here : Reached) → HasRead P S bytes n (line ∷ more) here → is_fault here ≡ false → with_line P S here line ≡ Fault → IsFaultLine P S bytes (n + 1)
    fault_next n line more here h sound q =
        let next = line_read n line more here h in
        let l : n < length (lines bytes) = (let c = next.counted in omega arith) in
        at_fault P S policy bytes n l (ap is_fault h.reached_is ∙ sound) (ap is_fault (next.reached_is ∙ q))

    -- a line is missing
    pub line_missing : (n : ℕ) (here : Reached) → HasRead P S bytes n [] here → is_fault here ≡ false → ((H : List Event) → here ≡ Rest H [] → ⊥) → IsFaultLine P S bytes (n + 1)
    line_missing n here h sound unfinished =
        let all : n ≡ length (lines bytes) = front-all n (lines bytes) h.counted h.left_is in
        let whole : reached P S (lines bytes) ≡ here = ap (reached P S) (sym (take_all n (lines bytes) (omega arith))) ∙ h.reached_is in
        subst (λ m. IsFaultLine P S bytes (m + 1)) (sym all) (behind_last P S policy bytes (ap is_fault whole ∙ sound) (λ H q. unfinished H (sym whole ∙ q)))

    -- the bytes are the report
    pub report_read : (n : ℕ) (H : List Event) → HasRead P S bytes n [] (Rest H []) → IsReported P S bytes H
    report_read n H h =
        let all : n ≡ length (lines bytes) = front-all n (lines bytes) h.counted h.left_is in
        (finds_reports P S policy bytes H).0 (ap (reached P S) (sym (take_all n (lines bytes) (omega arith))) ∙ h.reached_is)

    module _ (n : ℕ) (H : List Event) (text : List ℕ) (h : HasRead P S bytes n (lines text) (Rest H (lines (rest_of P H)))) where
      abbrev own : List (List ℕ)
      own = lines (rest_of P H)

      -- as many lines were read as end in what they have in common
      part-read : (k : ℕ) → take k own ≡ take k (lines text) → k ≤ length (lines text) → HasRead P S bytes (n + k) (drop k (lines text)) (Rest H (drop k own))
      part-read k same inside = record {
        counted = (let c = h.counted in omega (arith, length-drop n (lines bytes), ap length h.left_is));
        left_is = sym (drop-drop k n (lines bytes)) ∙ ap (drop k) h.left_is;
        reached_is = ap (reached P S) (take-add n k (lines bytes))
            ∙ (with_more P S Title (take n (lines bytes)) (take k (drop n (lines bytes)))
            ∙ (ap (λ so_far. with_lines P S so_far (take k (drop n (lines bytes)))) h.reached_is
            ∙ (ap (λ front. with_lines P S (Rest H own) front) (ap (take k) h.left_is ∙ sym same) ∙ own-front H k own)));
      }

      -- what is left is the report's rest
      pub rest_read : rest_of P H ≡ text → IsReported P S bytes H
      rest_read q =
          let k = length (lines text) in
          let same : own ≡ lines text = ap lines q in
          let none : drop k (lines text) ≡ [] = drop_all k (lines text) (omega arith) in
          let read = part-read k (ap (take k) same) (omega arith) in
          report_read (n + k) H (subst (λ o. HasRead P S bytes (n + k) [] (Rest H o)) (ap (drop k) same ∙ none) (subst (λ t. HasRead P S bytes (n + k) t (Rest H (drop k own))) none read))

      differs-at : (k : ℕ) (ours theirs : List (List ℕ)) → drop k own ≡ ours → drop k (lines text) ≡ theirs → Parts k own (lines text) → IsFaultLine P S bytes (n + k + 1)
      differs-at k [] [] a b p = absurd (p.differ (row-none k own a ∙ sym (row-none k (lines text) b)))
      differs-at k (x ∷ ours) [] a b p =
          line_missing (n + k) (Rest H (x ∷ ours)) (subst (λ o. HasRead P S bytes (n + k) [] (Rest H o)) a (subst (λ t. HasRead P S bytes (n + k) t (Rest H (drop k own))) b (part-read k p.same p.inside))) refl (λ K q. cc)
      differs-at k [] (y ∷ theirs) a b p =
          fault_next (n + k) y theirs (Rest H []) (subst (λ o. HasRead P S bytes (n + k) (y ∷ theirs) (Rest H o)) a (subst (λ t. HasRead P S bytes (n + k) t (Rest H (drop k own))) b (part-read k p.same p.inside))) refl refl
      differs-at k (x ∷ ours) (y ∷ theirs) a b p =
          fault_next (n + k) y theirs (Rest H (x ∷ ours)) (subst (λ o. HasRead P S bytes (n + k) (y ∷ theirs) (Rest H o)) a (subst (λ t. HasRead P S bytes (n + k) t (Rest H (drop k own))) b (part-read k p.same p.inside))) refl
          (rw (other x y (λ q. p.differ (row-behind k own ours x a ∙ (q ∙ sym (row-behind k (lines text) theirs y b))))) refl)
        where
          other : (x y : List ℕ) → (x ≡ y → ⊥) → bytes_eq x y ≡ false
          other x y h = elim (cases_Bool (bytes_eq x y)) [ inl t ↦ absurd (h (name_eq-true x y t)) | inr f ↦ f ]

      -- the next line is another, or one of the two has none
      pub rest_parts : (common : List ℕ) → PartBehind common (rest_of P H) text → IsFaultLine P S bytes (n + ends common + 1)
      rest_parts common p = differs-at (ends common) (drop (ends common) own) (drop (ends common) (lines text)) refl refl (parted common (rest_of P H) text p)
