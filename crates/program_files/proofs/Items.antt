-- The texts of items that are written one after another: all of them, or a part.
-- By the lemmas of `Writing`, since the texts of the items up to a place, and of those behind it, are those of all.
use Rattle.std.proofs.Common.{◌≡◌, ℕ, ◌+◌, ◌<◌, ◌≤◌, List, [], ◌∷◌, ◌++◌, length, take, drop, get_or, sym, ap, ◌∙◌, append-nil}
use Rattle.std.specs.Prelude.{Ok, Err}
use Rattle.std.specs.List.{flat_map}
use Rattle.std.proofs.lemmas.Grind.{flat_map-append}
use Rattle.std.proofs.lemmas.List.{take-append-drop, take_all, take_more}
use Rattle.audit_log.proofs.Writing.{wrote_front, wrote_more}
use Rattle.audit_log.specs.Written.{Wrote}
use Rattle.audit_log.specs.declared.error.ReportError.{ReportError}
use Rattle.io_edge.specs.SinkState.{SinkState}

module _ {A : Type 0} (text : A → List ℕ) (items : List A) where
  one_more : (i : ℕ) (x : A) → i < length items → x ≡ get_or items i x → flat_map text (take (i + 1) items) ≡ flat_map text (take i items) ++ text x
  one_more i x l is =
      ap (flat_map text) (take_more items i x l)
      ∙ (flat_map-append text (take i items) (get_or items i x ∷ [])
      ∙ ap (λ ys. flat_map text (take i items) ++ ys) (append-nil (text (get_or items i x)) ∙ ap text (sym is)))

  -- one more was written
  pub one_written : (i : ℕ) (x : A) (old mid new : SinkState) → i < length items → x ≡ get_or items i x
      → Wrote old (flat_map text (take i items)) (Ok tt) mid → Wrote mid (text x) (Ok tt) new → Wrote old (flat_map text (take (i + 1) items)) (Ok tt) new
  one_written i x old mid new l is before now = rw (one_more i x l is) (wrote_more old mid new (flat_map text (take i items)) (text x) (Ok tt) before now)

  -- one more failed
  pub one_failed : (i : ℕ) (x : A) (e : ReportError) (old mid new : SinkState) → i < length items → x ≡ get_or items i x
      → Wrote old (flat_map text (take i items)) (Ok tt) mid → Wrote mid (text x) (Err e) new → Wrote old (flat_map text items) (Err e) new
  one_failed i x e old mid new l is before now =
      let one = wrote_more old mid new (flat_map text (take i items)) (text x) (Err e) before now in
      let whole : flat_map text items ≡ (flat_map text (take i items) ++ text x) ++ flat_map text (drop (i + 1) items) =
      ap (flat_map text) (sym (take-append-drop (i + 1) items))
      ∙ (flat_map-append text (take (i + 1) items) (drop (i + 1) items) ∙ ap (λ ys. ys ++ flat_map text (drop (i + 1) items)) (one_more i x l is)) in
      rw whole (wrote_front old new (flat_map text (take i items) ++ text x) (flat_map text (drop (i + 1) items)) e one)

  -- all were written
  pub all_written : (i : ℕ) (old new : SinkState) → length items ≤ i → Wrote old (flat_map text (take i items)) (Ok tt) new → Wrote old (flat_map text items) (Ok tt) new
  all_written i old new l w = rw (take_all i items l) at w
