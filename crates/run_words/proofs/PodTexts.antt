-- The text of a pod, part after part, and the sums of the counts.
-- By the lines one after another, by induction on the containers, and since a list without its front begins with the element there.
use Rattle.std.proofs.Common.{◌≡◌, ℕ, ◌+◌, ◌<◌, ◌≤◌, List, [], ◌∷◌, ◌++◌, suc, length, take, drop, get_or, sym, ap, ◌∙◌, append-nil, append_assoc, arith, add-one}
use Rattle.std.specs.Prelude.{Ok, Err}
use Rattle.std.proofs.Math.Seq.{drop-cons}
use Rattle.std.proofs.lemmas.List.{drop_all, length-take-le, take-append-drop, take_all, take_more}
use Rattle.audit_log.proofs.Writing.{wrote_front, wrote_more}
use Rattle.audit_log.specs.Counts.{plus}
use Rattle.audit_log.specs.Written.{Wrote}
use Rattle.audit_log.specs.declared.error.ReportError.{ReportError}
use Rattle.audit_log.specs.declared.error.ReportError.TheVariants.{NoMemory}
use Rattle.audit_log.specs.declared.summary.Counts.{Counts}
use Rattle.io_edge.specs.SinkState.{SinkState}
use Rattle.worker_gate.specs.declared.served.Played.{Played}
use Rattle.run_words.specs.PodText.{counts_in, kept_in, part, parts, sums_on}

-- ---- The parts

abbrev parts_kept : ℕ → List Played → List ℕ
parts_kept = parts kept_in

abbrev part_kept : ℕ → Played → List ℕ
part_kept = part kept_in

parts_append : (n : ℕ) (ps qs : List Played) → parts_kept n (ps ++ qs) ≡ parts_kept n ps ++ parts_kept (n + length ps) qs
parts_append n [] qs = let e : n ≡ n + 0 = omega arith in ap (λ k. parts_kept k qs) e
parts_append n (p ∷ ps) qs =
    let e : suc n + length ps ≡ n + length (p ∷ ps) = omega arith in
    ap (λ ys. part_kept n p ++ ys) (parts_append (suc n) ps qs)
    ∙ (sym (append_assoc (part_kept n p) (parts_kept (suc n) ps) (parts_kept (suc n + length ps) qs)) ∙ ap (λ k. (part_kept n p ++ parts_kept (suc n) ps) ++ parts_kept k qs) e)

module _ (ps : List Played) (i : ℕ) (p : Played) (l : i < length ps) (is : p ≡ get_or ps i p) where
  part_more : parts_kept 0 (take (i + 1) ps) ≡ parts_kept 0 (take i ps) ++ part_kept i p
  part_more =
      let len = length-take-le i ps (omega (arith, l)) in
      let so_many : 0 + length (take i ps) ≡ i = omega (arith, len) in
      ap (parts_kept 0) (take_more ps i p l)
      ∙ (parts_append 0 (take i ps) (get_or ps i p ∷ [])
      ∙ ap (λ ys. parts_kept 0 (take i ps) ++ ys) (append-nil (part_kept (0 + length (take i ps)) (get_or ps i p)) ∙ (ap (λ k. part_kept k (get_or ps i p)) so_many ∙ ap (part_kept i) (sym is))))

  -- one more part was written
  pub part_written : (old mid new : SinkState) → Wrote old (parts_kept 0 (take i ps)) (Ok tt) mid → Wrote mid (part_kept i p) (Ok tt) new → Wrote old (parts_kept 0 (take (i + 1) ps)) (Ok tt) new
  part_written old mid new before now = rw part_more (wrote_more old mid new (parts_kept 0 (take i ps)) (part_kept i p) (Ok tt) before now)

  -- one more part failed
  pub part_failed : (e : ReportError) (old mid new : SinkState) → Wrote old (parts_kept 0 (take i ps)) (Ok tt) mid → Wrote mid (part_kept i p) (Err e) new → Wrote old (parts_kept 0 ps) (Err e) new
  part_failed e old mid new before now =
      let one = wrote_more old mid new (parts_kept 0 (take i ps)) (part_kept i p) (Err e) before now in
      let behind = parts_kept (0 + length (take (i + 1) ps)) (drop (i + 1) ps) in
      let whole : parts_kept 0 ps ≡ (parts_kept 0 (take i ps) ++ part_kept i p) ++ behind =
      ap (parts_kept 0) (sym (take-append-drop (i + 1) ps)) ∙ (parts_append 0 (take (i + 1) ps) (drop (i + 1) ps) ∙ ap (λ ys. ys ++ behind) part_more) in
      rw whole (wrote_front old new (parts_kept 0 (take i ps) ++ part_kept i p) behind e one)

-- all parts were written
pub parts_written : (ps : List Played) (i : ℕ) (old new : SinkState) → length ps ≤ i → Wrote old (parts_kept 0 (take i ps)) (Ok tt) new → Wrote old (parts_kept 0 ps) (Ok tt) new
parts_written ps i old new l w = rw (take_all i ps l) at w

-- ---- The sums

-- one more history was counted
pub sums_more : (ps : List Played) (i : ℕ) (p : Played) (before : Counts) → i < length ps → p ≡ get_or ps i p → sums_on before (drop i ps) ≡ sums_on (plus before (counts_in p)) (drop (i + 1) ps)
sums_more ps i p before l is =
    ap (sums_on before) (drop-cons ps i p l) ∙ (ap (λ q. sums_on (plus before (counts_in q)) (drop (suc i) ps)) (sym is) ∙ ap (λ n. sums_on (plus before (counts_in p)) (drop n ps)) (sym (add-one i)))

-- all were
pub sums_all : (ps : List Played) (i : ℕ) (before : Counts) → length ps ≤ i → sums_on before (drop i ps) ≡ before
sums_all ps i before l = ap (sums_on before) (drop_all i ps l)

-- ---- Want of memory behind a text

-- a text that was written whole is a prefix of itself
pub written_then_stopped : (old new : SinkState) (text : List ℕ) → Wrote old text (Ok tt) new → Wrote old text (Err NoMemory) new
written_then_stopped old new text w = record {
  tells = w.tells;
  faults = w.faults;
  cause = λ p. cc;
  whole = tt;
  part = λ t. (length text, omega arith, w.whole t ∙ ap (λ xs. old.taken ++ xs) (sym (take_all (length text) text (omega arith))));
}
