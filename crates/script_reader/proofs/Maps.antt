-- A change of a map at some bytes, read at any bytes: by the laws of the order of byte strings.
-- By cases on whether the bytes equal the changed ones, with what `UpdatesBy` says of these and of the others.
use Rattle.std.proofs.Common.{◌≡◌, ℕ, List, Option, Bool, true, false, Vec, bytes_eq, inl, inr, sym, subst, ◌∙◌, if◌then◌else◌}
use Rattle.std.specs.BTreeMap.{BTreeMap, UpdatesBy}
use Rattle.std.specs.Cmp.{eq_by_cmp_equiv}
use Rattle.std.specs.Cmp.Lexicographic.{slice_cmp, bytes_decides, nat_list_cmp_total, nat_list_eq_equiv}
use Rattle.std.specs.Map.{lookup, IsKeyTest, AreApart, KeepsOthers}
use Rattle.std.specs.Ordering.{is_eq, nat_cmp}
use Rattle.std.proofs.lemmas.Bool.{cases_Bool, cond-true, cond-false}
use Rattle.std.proofs.lemmas.Map.Text.{is_eq-slice_cmp}
use Rattle.script_reader.specs.Maps.{value_in}

-- bytes that differ from some differ from all that are equal to these
apart : (bs cs ks : List ℕ) → bytes_eq bs cs ≡ false → is_eq (slice_cmp nat_cmp bs ks) ≡ true → is_eq (slice_cmp nat_cmp cs ks) ≡ false
apart bs cs ks n y =
    is_eq-slice_cmp cs ks
    ∙ (nat_list_eq_equiv.symm cs ks ∙ sym (nat_list_eq_equiv.congr bs ks cs (sym (is_eq-slice_cmp bs ks) ∙ y)) ∙ n)

others : {K X : Type 0} (eq : K → K → Bool) (test : K → Bool) (old new : List (K × X)) → KeepsOthers eq test old new
    → (other : K → Bool) → IsKeyTest eq other → AreApart test other → lookup other new ≡ lookup other old
unfolding KeepsOthers
others eq test old new h = h

at_bytes : {W : Type 0} (f g : List ℕ → W) (bs : List ℕ) (w : W) → g bs ≡ w → ((cs : List ℕ) → bytes_eq bs cs ≡ false → g cs ≡ f cs)
    → (cs : List ℕ) → g cs ≡ (if bytes_eq bs cs then w else f cs)
at_bytes f g bs w here other cs =
    elim (cases_Bool (bytes_eq bs cs)) [
      | inl y ↦ subst (λ l. g l ≡ w) ((bytes_decides bs cs).0 y) here ∙ sym (cond-true (bytes_eq bs cs) w (f cs) y)
      | inr n ↦ other cs n ∙ sym (cond-false (bytes_eq bs cs) w (f cs) n)
    ]

-- what the map has after a change
pub value-updated : {X Y : Type 0} (bs : List ℕ) (m n : BTreeMap (Vec ℕ Y) X) (w : Option X)
    → UpdatesBy (λ x y. slice_cmp nat_cmp x.items y.items) (λ key. slice_cmp nat_cmp bs key.items) m n w
    → (cs : List ℕ) → value_in n cs ≡ (if bytes_eq bs cs then w else value_in m cs)
value-updated bs m n w h =
    at_bytes (value_in m) (value_in n) bs w h.1
    (λ cs e. others _ _ _ _ h.3 _ (λ x y. (eq_by_cmp_equiv nat_list_cmp_total).congr cs x.items y.items) (λ k. apart bs cs k.items e))

-- the same of all bytes at once
pub values_updated : {X Y : Type 0} (bs : List ℕ) (m n : BTreeMap (Vec ℕ Y) X) (w : Option X)
    → UpdatesBy (λ x y. slice_cmp nat_cmp x.items y.items) (λ key. slice_cmp nat_cmp bs key.items) m n w
    → value_in n ≡ (λ cs. if bytes_eq bs cs then w else value_in m cs)
values_updated bs m n w h = λ i. λ cs. value-updated bs m n w h cs i
