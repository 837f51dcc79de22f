-- Bytes are the report of one legal history at most, and have one fault line at most, exactly where they are no report.
-- By the pass over their lines, which finds a fault where they begin no report, and comes to a report's end where they are one.
use Rattle.std.proofs.Common.{inl, inr, ◌≡◌, ℕ, ◌+◌, ◌<◌, ◌≤◌, false, List, [], length, take, sym, ap, ◌∙◌, arith}
use Rattle.std.proofs.lemmas.Bool.{both_ways, cases_order}
use Rattle.std.proofs.lemmas.List.{take-take, take_all}
use Rattle.hist_model.specs.PolicyRules.{IsPolicy}
use Rattle.hist_model.specs.declared.event.Event.{Event}
use Rattle.hist_model.specs.declared.policy.Policy.{Policy}
use Rattle.hist_model.specs.declared.script.Script.{Script}
use Rattle.audit_check.specs.Lines.{lines}
use Rattle.audit_check.specs.Reading.{EndsAtFault, EndsBehind, Rest, is_fault, reached}
use Rattle.audit_check.specs.Reported.{BeginsReport, IsFaultLine, IsReported, IsUnique, report_by}
use Rattle.audit_check.proofs.Lines.{agree_past}
use Rattle.audit_check.proofs.Reading.{finds_faults, finds_reports}

module _ (P : Policy) (S : Script) (policy : IsPolicy P) (bytes : List ℕ) where
  one-history : (H K : List Event) → IsReported P S bytes H → IsReported P S bytes K → H ≡ K
  one-history H K h k =
      let same : Rest H [] ≡ Rest K [] = sym ((finds_reports P S policy bytes H).1 h) ∙ (finds_reports P S policy bytes K).1 k in
      cc

  -- what begins a report does so with fewer lines
  fewer : (m n : ℕ) → m ≤ n → BeginsReport P S bytes n → BeginsReport P S bytes m
  fewer m n l b = (b.0, b.1, sym (take-take m n (lines bytes) l) ∙ (ap (take m) b.2 ∙ take-take m n (lines (report_by P b.0)) l))

  -- the whole of it, with a line more, is a report
  past : (n : ℕ) → length (lines bytes) < n → BeginsReport P S bytes n → (H : List Event) × IsReported P S bytes H
  past n l b = (b.0, record { legal = b.1; whole = sym (agree_past n bytes (report_by P b.0) l b.2) })

  no-fault : (H : List Event) (n : ℕ) → IsReported P S bytes H → IsFaultLine P S bytes n → ⊥
  no-fault H n h f = f.faulty (H, h.legal, ap (λ text. take n (lines text)) (sym h.whole))

  one-fault : (m n : ℕ) → IsFaultLine P S bytes m → IsFaultLine P S bytes n → m ≡ n
  one-fault m n f g = elim (cases_order m n) [
    | inl q ↦ q
    | inr o ↦ elim o [ inl l ↦ absurd (f.faulty (g.before m l)) | inr l ↦ absurd (g.faulty (f.before n l)) ]
  ]

  pub is_unique : IsUnique P S bytes
  is_unique = record { history = one-history; line = one-fault; either = no-fault }

  pub at_fault : EndsAtFault P S bytes
  at_fault n l h g = record {
    counted = omega arith;
    faulty = λ b. both_ways _ ((finds_faults P S policy bytes (n + 1) (omega arith)).1 b) g;
    before = λ m k. fewer m n (omega arith) ((finds_faults P S policy bytes n (omega arith)).0 h);
  }

  pub behind_last : EndsBehind P S bytes
  behind_last h g =
      let size = length (lines bytes) in
      let all : is_fault (reached P S (take size (lines bytes))) ≡ false = ap (λ text. is_fault (reached P S text)) (take_all size (lines bytes) (omega arith)) ∙ h in
      record {
        counted = omega arith;
        faulty = λ b. let r = past (size + 1) (omega arith) b in g r.0 ((finds_reports P S policy bytes r.0).1 r.1);
        before = λ m k. fewer m size (omega arith) ((finds_faults P S policy bytes size (omega arith)).0 all);
      }
