-- Parts end by themselves: flags by what they are, texts and lists by the length before them, and the others by what they begin with.
-- By the numbers; then by induction on the values of a list.
use Rattle.std.proofs.Common.{◌≡◌, ℕ, true, false, List, [], ◌∷◌, ◌++◌, length, Some, None, refl, sym, ap, ap₂, ◌∙◌, append_assoc, arith}
use Rattle.std.specs.Prelude.{pos, negsuc, Ok, Err}
use Rattle.std.specs.List.{flat_map}
use Rattle.key_bytes.specs.Parts.{Ends, answer_part, flag_part, list_part, number_part, option_part, pair_part, signed_part, text_part}
use Rattle.key_bytes.proofs.Numbers.{number_ends, split}

pub flag_ends : Ends flag_part
flag_ends true true r s q = let t : r ≡ s = cc in (refl, t)
flag_ends false false r s q = let t : r ≡ s = cc in (refl, t)
flag_ends true false r s q = let h : ◌≡◌ {A = ℕ} 1 0 = cc in absurd (omega arith)
flag_ends false true r s q = let h : ◌≡◌ {A = ℕ} 0 1 = cc in absurd (omega arith)

pub signed_ends : Ends signed_part
signed_ends (pos a) (pos b) r s q =
    let t : number_part a ++ r ≡ number_part b ++ s = cc in
    let p = number_ends a b r s t in
    (ap pos p.0, p.1)
signed_ends (negsuc a) (negsuc b) r s q =
    let t : number_part a ++ r ≡ number_part b ++ s = cc in
    let p = number_ends a b r s t in
    (ap negsuc p.0, p.1)
signed_ends (pos a) (negsuc b) r s q = let h : ◌≡◌ {A = ℕ} 0 1 = cc in absurd (omega arith)
signed_ends (negsuc a) (pos b) r s q = let h : ◌≡◌ {A = ℕ} 1 0 = cc in absurd (omega arith)

pub answer_ends : Ends answer_part
answer_ends (Ok u) (Ok v) r s q = let t : r ≡ s = cc in (refl, t)
answer_ends (Err a) (Err b) r s q =
    let t : number_part a ++ r ≡ number_part b ++ s = cc in
    let p = number_ends a b r s t in
    (ap Err p.0, p.1)
answer_ends (Ok u) (Err b) r s q = let h : ◌≡◌ {A = ℕ} 0 1 = cc in absurd (omega arith)
answer_ends (Err a) (Ok u) r s q = let h : ◌≡◌ {A = ℕ} 1 0 = cc in absurd (omega arith)

-- ---- Parts of other ones

-- the first of a pair ends, and what comes behind it is equal
pub pair_ends : {A B : Type 0} (f : A → List ℕ) (g : B → List ℕ) → Ends f → Ends g → Ends (pair_part f g)
pair_ends f g first second p q r s e =
    let m = first p.0 q.0 (g p.1 ++ r) (g q.1 ++ s) (sym (append_assoc (f p.0) (g p.1) r) ∙ (e ∙ append_assoc (f q.0) (g q.1) s)) in
    let n = second p.1 q.1 r s m.1 in
    (ap₂ (λ a b. (a, b)) m.0 n.0, n.1)

-- a whole part
pub whole_ends : {A : Type 0} (f : A → List ℕ) → Ends f → (a b : A) → f a ≡ f b → a ≡ b
whole_ends f ends a b q = (ends a b [] [] (ap (λ (bytes : List ℕ). bytes ++ []) q)).0

-- a part that tells what another one tells
pub told_ends : {A B : Type 0} (f : A → B) (back : B → A) (g : B → List ℕ) → ((a : A) → back (f a) ≡ a) → Ends g → Ends (λ a. g (f a))
told_ends f back g same ends a b r s q = let p = ends (f a) (f b) r s q in (sym (same a) ∙ (ap back p.0 ∙ same b), p.1)

-- ---- Texts and lists

pub text_ends : Ends text_part
text_ends a b r s q =
    let z : number_part (length a) ++ (a ++ r) ≡ number_part (length b) ++ (b ++ s) =
    sym (append_assoc (number_part (length a)) a r) ∙ (q ∙ append_assoc (number_part (length b)) b s) in
    let p = number_ends (length a) (length b) (a ++ r) (b ++ s) z in
    split a b r s p.0 p.1

module _ {A : Type 0} (part : A → List ℕ) (ends : Ends part) where
  all_end : (xs ys : List A) (r s : List ℕ) → length xs ≡ length ys → flat_map part xs ++ r ≡ flat_map part ys ++ s → (xs ≡ ys) × (r ≡ s)
  all_end [] [] r s n q = (refl, q)
  all_end [] (y ∷ ys) r s n q = absurd (omega arith)
  all_end (x ∷ xs) [] r s n q = absurd (omega arith)
  all_end (x ∷ xs) (y ∷ ys) r s n q =
      let z : part x ++ (flat_map part xs ++ r) ≡ part y ++ (flat_map part ys ++ s) =
      sym (append_assoc (part x) (flat_map part xs) r) ∙ (q ∙ append_assoc (part y) (flat_map part ys) s) in
      let p = ends x y (flat_map part xs ++ r) (flat_map part ys ++ s) z in
      let more = all_end xs ys r s (omega arith) p.1 in
      (ap₂ (λ v vs. v ∷ vs) p.0 more.0, more.1)

  pub list_ends : Ends (list_part part)
  list_ends xs ys r s q =
      let z : number_part (length xs) ++ (flat_map part xs ++ r) ≡ number_part (length ys) ++ (flat_map part ys ++ s) =
      sym (append_assoc (number_part (length xs)) (flat_map part xs) r) ∙ (q ∙ append_assoc (number_part (length ys)) (flat_map part ys) s) in
      let p = number_ends (length xs) (length ys) (flat_map part xs ++ r) (flat_map part ys ++ s) z in
      all_end xs ys r s p.0 p.1

  pub option_ends : Ends (option_part part)
  option_ends None None r s q = let t : r ≡ s = cc in (refl, t)
  option_ends (Some x) (Some y) r s q =
      let t : part x ++ r ≡ part y ++ s = cc in
      let p = ends x y r s t in
      (ap Some p.0, p.1)
  option_ends None (Some y) r s q = let h : ◌≡◌ {A = ℕ} 0 1 = cc in absurd (omega arith)
  option_ends (Some x) None r s q = let h : ◌≡◌ {A = ℕ} 1 0 = cc in absurd (omega arith)
