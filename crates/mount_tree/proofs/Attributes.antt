-- The place of an attribute's row, and what stands there.
-- By induction on the rows with cases on whether the first is the attribute's, and the lemmas on `reverse` and `set`.
use Rattle.std.proofs.Common.{◌≡◌, ℕ, ◌<◌, true, false, List, [], ◌∷◌, ◌++◌, length, reverse, get_or, set, Option, Some, None, inl, inr, refl, sym, ap, ◌∙◌, arith}
use Rattle.std.specs.Prelude.{is_some}
use Rattle.std.proofs.lemmas.List.{reverse-append, reverse-reverse, length-reverse, set_at, get_or_at, set-append_left, get_or_append_left}
use Rattle.std.proofs.lemmas.Bool.{cases_Bool}
use Rattle.hist_model.specs.Trees.{is_attr, attr_in, attr_replaced, attr_put}
use Rattle.hist_model.specs.declared.tree.AttrRow.{AttrRow}
use Rattle.mount_tree.specs.Places.{attr_place}

-- the row with another value
abbrev pub with_value : AttrRow → List ℕ → AttrRow
with_value r value = record { on = r.on; name = r.name; value = value }

reverse_cons : {A : Type 0} → (x : A) (xs : List A) → reverse (x ∷ xs) ≡ reverse xs ++ x ∷ []
reverse_cons x xs = reverse-append (x ∷ []) xs

pub attr_found : (rs : List AttrRow) (on : ℕ) (name : List ℕ) → is_some (attr_place rs on name) ≡ is_some (attr_in rs on name)
unfolding attr_place attr_in
attr_found [] on name = refl
attr_found (r ∷ rs) on name = elim (cases_Bool (is_attr r on name)) [ inl h ↦ rw h | inr h ↦ rw h (attr_found rs on name) ]

none_here : {A : Type 0} → (r : Option A) → is_some r ≡ false → r ≡ None
none_here None e = refl
none_here (Some x) e = cc

pub attr_absent : (rs : List AttrRow) (on : ℕ) (name : List ℕ) → attr_place rs on name ≡ None → attr_in rs on name ≡ None
attr_absent rs on name e = none_here (attr_in rs on name) (sym (attr_found rs on name) ∙ ap is_some e)

pub attr_place_below : (rs : List AttrRow) (on : ℕ) (name : List ℕ) (j : ℕ) → attr_place rs on name ≡ Some j → j < length rs
unfolding attr_place
attr_place_below [] on name j e = cc
attr_place_below (r ∷ rs) on name j e =
    elim (cases_Bool (is_attr r on name)) [
      | inl h ↦ let q : Some (length rs) ≡ Some j = rw h at e in let p : length rs ≡ j = cc in omega arith
      | inr h ↦ let q : attr_place rs on name ≡ Some j = rw h at e in let p = attr_place_below rs on name j q in omega arith
    ]

replaced_placed : (rs : List AttrRow) (on : ℕ) (name value : List ℕ) (j : ℕ) (d : AttrRow) → attr_place rs on name ≡ Some j
    → reverse (attr_replaced rs on name value) ≡ set (reverse rs) j (with_value (get_or (reverse rs) j d) value)
unfolding attr_place attr_replaced
replaced_placed [] on name value j d e = cc
replaced_placed (r ∷ rs) on name value j d e =
    elim (cases_Bool (is_attr r on name)) [
      | inl h ↦
          let q : Some (length rs) ≡ Some j = rw h at e in
          let p : length (reverse rs) ≡ j = length-reverse rs ∙ cc in
          rw (h, reverse_cons r rs, reverse_cons (with_value r value) rs, get_or_at (reverse rs) r [] d j p, set_at (reverse rs) r [] (with_value r value) j p)
      | inr h ↦
          let q : attr_place rs on name ≡ Some j = rw h at e in
          let p = attr_place_below rs on name j q in
          let l : j < length (reverse rs) = rw length-reverse p in
          let t : reverse (r ∷ attr_replaced rs on name value) ≡ set (reverse (r ∷ rs)) j (with_value (get_or (reverse (r ∷ rs)) j d) value) =
          rw (
            reverse_cons r rs,
            reverse_cons r (attr_replaced rs on name value),
            get_or_append_left (reverse rs) (r ∷ []) d j l,
            set-append_left (reverse rs) (r ∷ []) j (with_value (get_or (reverse rs) j d) value) l,
            replaced_placed rs on name value j d q,
          ) in
          rw h t
    ]

put_some : (rs : List AttrRow) (on : ℕ) (name value : List ℕ) (old : Option (List ℕ)) → is_some old ≡ true
    → attr_put rs on name value old ≡ attr_replaced rs on name value
put_some rs on name value (Some v) e = refl
put_some rs on name value None e = cc

-- a value that is written at the row's place, the oldest row being at 0
pub put_placed : (xs : List AttrRow) (on : ℕ) (name value : List ℕ) (j : ℕ) (d : AttrRow) → attr_place (reverse xs) on name ≡ Some j → d ≡ get_or xs j d
    → reverse (set xs j (with_value d value)) ≡ attr_put (reverse xs) on name value (attr_in (reverse xs) on name)
put_placed xs on name value j d e q =
    let s : is_some (attr_in (reverse xs) on name) ≡ true = sym (attr_found (reverse xs) on name) ∙ ap is_some e in
    let t : reverse (attr_replaced (reverse xs) on name value) ≡ set xs j (with_value (get_or xs j d) value) =
    rw reverse-reverse at (replaced_placed (reverse xs) on name value j d e) in
    let u : reverse (attr_replaced (reverse xs) on name value) ≡ set xs j (with_value d value) = t ∙ ap (λ (r : AttrRow). set xs j (with_value r value)) (sym q) in
    ap reverse (sym u) ∙ reverse-reverse (attr_replaced (reverse xs) on name value) ∙ sym (put_some (reverse xs) on name value (attr_in (reverse xs) on name) s)
