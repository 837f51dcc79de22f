-- The entries of PIDs: which are listed after one was set.
-- By the entry that each PID has.
use Rattle.std.proofs.Common.{◌≡◌, ◌⊎◌, inl, inr, List, Some, refl, sym, ◌∙◌, Contains}
use Rattle.std.proofs.lemmas.Bool.{cases_eq, eq-eqb, ne_eqb}
use Rattle.sorted_list.specs.Entries.{NumbersRise, IsSet}
use Rattle.sorted_list.proofs.Found.{entry-listed, listed-entry}
use Rattle.tasks.specs.declared.index.Entry.{Entry}
use Rattle.tasks.specs.Index.{entry_key}

-- the entry is there, in place of the one that had its key
pub record IsPut (old : List Entry) (e : Entry) (new : List Entry) : Type 0 where
  pub ordered : NumbersRise entry_key new
  pub own : Contains new e
  pub listed : (x : Entry) → Contains new x → (e ≡ x) ⊎ Contains old x
  pub kept : (x : Entry) → Contains old x → (x.key ≡ e.key → ⊥) → Contains new x

pub put-of : (old new : List Entry) (e : Entry) → NumbersRise entry_key old → IsSet entry_key old e.key (Some e) new → IsPut old e new
put-of old new e r s = record {
  ordered = s.rise;
  own = (entry-listed entry_key new e.key e (s.entries e.key ∙ rw (eq-eqb e.key e.key refl) refl)).0;
  listed = λ x c. let f = sym (s.entries x.key) ∙ listed-entry entry_key new x s.rise c in elim (cases_eq x.key e.key) [
    | inl q ↦ let g : Some e ≡ Some x = rw (eq-eqb x.key e.key q) at f in inl cc
    | inr q ↦ inr (entry-listed entry_key old x.key x (rw (ne_eqb x.key e.key q) at f)).0
  ];
  kept = λ x c d. (entry-listed entry_key new x.key x (s.entries x.key ∙ rw (ne_eqb x.key e.key d) (listed-entry entry_key old x r c))).0;
}
