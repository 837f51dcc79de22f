-- The names of flags in the table, as it is and as contracts read it.
-- By induction on the rows, and by cases on whether a row's flag is set.
use Rattle.std.proofs.Common.{◌≡◌, ℕ, ◌+◌, ◌-◌, ◌<◌, ◌≤◌, Bool, true, false, List, [], ◌∷◌, ◌++◌, length, map, filter, take, drop, get_or, Bor, Option, cond, refl, ap, sym, ◌∙◌, append-nil, arith}
use Rattle.std.specs.Prelude.{find, codes}
use Rattle.std.specs.List.{flat_map}
use Rattle.std.specs.Option.{option_map}
use Rattle.std.proofs.lemmas.List.{take_all, take_more}
use Rattle.std.proofs.lemmas.Grind.{common_steps}
use Rattle.sys_abi.proofs.Tables.{read_row}
use Rattle.hist_model.specs.declared.policy.Flag.{Flag}
use Rattle.policy_explain.specs.Words.{flag_eq, names_or_dash}

-- the names of the rows that pass
abbrev pub set_in : {R : Type 0} → (R → List ℕ) → (R → Bool) → List R → List (List ℕ)
set_in name set rows = map name (filter set rows)

-- one more row behind the others
set_in-more : {R : Type 0} (name : R → List ℕ) (set : R → Bool) (rows : List R) (row : R) → set_in name set (rows ++ row ∷ []) ≡ set_in name set rows ++ cond (set row) (name row ∷ []) []
set_in-more {R} name set [] row = alone (set row)
  where
    alone : (b : Bool) → map name (cond b (row ∷ []) []) ≡ cond b (name row ∷ []) []
    alone true = refl
    alone false = refl
set_in-more {R} name set (first ∷ rows) row = behind (set first) (set_in-more name set rows row)
  where
    behind : (b : Bool) → set_in name set (rows ++ row ∷ []) ≡ set_in name set rows ++ cond (set row) (name row ∷ []) []
        → map name (cond b (first ∷ filter set (rows ++ row ∷ [])) (filter set (rows ++ row ∷ [])))
        ≡ map name (cond b (first ∷ filter set rows) (filter set rows)) ++ cond (set row) (name row ∷ []) []
    behind true h = ap (λ names. name first ∷ names) h
    behind false h = h

-- the row at a place joins those before it
set_in-take : {R : Type 0} (name : R → List ℕ) (set : R → Bool) (rows : List R) (i : ℕ) (d : R) → i < length rows
    → set_in name set (take (i + 1) rows) ≡ set_in name set (take i rows) ++ cond (set (get_or rows i d)) (name (get_or rows i d) ∷ []) []
set_in-take name set rows i d l = ap (set_in name set) (take_more rows i d l) ∙ set_in-more name set (take i rows) (get_or rows i d)

map_push : {A B : Type 0} (f : A → B) (xs : List A) (x : A) → map f (xs ++ x ∷ []) ≡ map f xs ++ f x ∷ []
map_push f [] x = refl
map_push f (y ∷ ys) x = ap (λ zs. f y ∷ zs) (map_push f ys x)

-- a turn adds the name of a flag that is set
pub set_turn : {R : Type 0} (name : R → List ℕ) (set : R → Bool) (rows : List R) (i : ℕ) (d : R) (names new : List (Bor (List ℕ))) (one : Bor (List ℕ))
    → i < length rows → map (λ n. n.now) names ≡ set_in name set (take i rows) → set (get_or rows i d) ≡ true
    → new ≡ names ++ one ∷ [] → one.now ≡ name (get_or rows i d) → map (λ n. n.now) new ≡ set_in name set (take (i + 1) rows)
set_turn name set rows i d names new one l was sets grows is =
    ap (map (λ n. n.now)) grows
    ∙ (map_push (λ n. n.now) names one
    ∙ (ap (λ front. front ++ one.now ∷ []) was
    ∙ (ap (λ n. set_in name set (take i rows) ++ n ∷ []) is
    ∙ sym (set_in-take name set rows i d l ∙ ap (λ b. set_in name set (take i rows) ++ cond b (name (get_or rows i d) ∷ []) []) sets))))

-- and none of one that isn't
pub unset_turn : {R : Type 0} (name : R → List ℕ) (set : R → Bool) (rows : List R) (i : ℕ) (d : R) (names : List (List ℕ)) → i < length rows
    → names ≡ set_in name set (take i rows) → set (get_or rows i d) ≡ false → names ≡ set_in name set (take (i + 1) rows)
unset_turn name set rows i d names l was unset =
    was ∙ sym (set_in-take name set rows i d l ∙ (ap (λ b. set_in name set (take i rows) ++ cond b (name (get_or rows i d) ∷ []) []) unset ∙ append-nil (set_in name set (take i rows))))

-- the table as contracts read it has the same names
set_in-rows : {R : Type 0} (name : R → List ℕ) (flag : R → Flag) (p : Flag → Bool) (rows : List R)
    → set_in name (λ row. p (flag row)) rows ≡ map (λ (row : List ℕ × Flag). row.0) (filter (λ row. p row.1) (map (λ row. (name row, flag row)) rows))
set_in-rows name flag p [] = refl
set_in-rows {R} name flag p (row ∷ rows) = here (p (flag row)) (set_in-rows name flag p rows)
  where
    here : (b : Bool) → set_in name (λ r. p (flag r)) rows ≡ map (λ (r : List ℕ × Flag). r.0) (filter (λ r. p r.1) (map (λ r. (name r, flag r)) rows))
        → map name (cond b (row ∷ filter (λ r. p (flag r)) rows) (filter (λ r. p (flag r)) rows))
        ≡ map {A = List ℕ × Flag} (λ r. r.0) (cond b ((name row, flag row) ∷ filter (λ r. p r.1) (map (λ r. (name r, flag r)) rows)) (filter (λ r. p r.1) (map (λ r. (name r, flag r)) rows)))
    here true h = ap (λ names. name row ∷ names) h
    here false h = h

-- and so do all of its rows
pub set_in-all : {R : Type 0} (name : R → List ℕ) (flag : R → Flag) (p : Flag → Bool) (rows : List R) (i : ℕ) → length rows ≤ i
    → set_in name (λ row. p (flag row)) (take i rows) ≡ map (λ (row : List ℕ × Flag). row.0) (filter (λ row. p row.1) (map (λ row. (name row, flag row)) rows))
set_in-all name flag p rows i l = ap (set_in name (λ row. p (flag row))) (take_all i rows l) ∙ set_in-rows name flag p rows

-- the name of the row that was found by reference
pub name_found : {R : Type 0} (name : R → List ℕ) (flag : R → Flag) (f : Flag) (rows : List R) (r : Option (Bor R))
    → option_map (λ b. b.now) r ≡ find (λ row. flag_eq (flag row) f) rows
    → option_map (λ b. name b.now) r ≡ option_map (λ (row : List ℕ × Flag). row.0) (find (λ row. flag_eq row.1 f) (map (λ row. (name row, flag row)) rows))
name_found name flag f rows r h = read_row (λ row. (name row, flag row)) (λ row. flag_eq row.1 f) (λ row. row.0) rows r h

behind_commas : (names : List (Bor (List ℕ))) → flat_map (λ name. codes "," ++ name) (map (λ name. name.now) names) ≡ flat_map (λ name. codes "," ++ name.now) names
behind_commas [] = refl
behind_commas (name ∷ names) = ap (λ text. codes "," ++ name.now ++ text) (behind_commas names)

-- names that are borrowed, with commas between them
pub names_joined : (names : List (Bor (List ℕ))) (d : Bor (List ℕ)) → 1 ≤ length names
    → names_or_dash (map (λ name. name.now) names) ≡ (get_or names 0 d).now ++ flat_map (λ name. codes "," ++ name.now) (drop 1 names)
names_joined [] d l = absurd (omega arith)
names_joined (first ∷ rest) d l = ap (λ text. first.now ++ text) (behind_commas rest)

-- the names behind the first one
pub rest_whole : (names : List (Bor (List ℕ))) → take (length names - 1) (drop 1 names) ≡ drop 1 names
rest_whole names = grind (arith, common_steps)
