-- Which answers a text is written of, and what is read of a ledger's text.
-- By cases on the answers that are left, and on what was read.
use Rattle.std.proofs.Common.{◌≡◌, ℕ, ◌<◌, ◌^◌, List, [], ◌∷◌, length, sym, ap, subst, ◌∙◌, arith}
use Rattle.std.specs.Prelude.{Bool, true, false, IsTrue}
use Rattle.broker_core.specs.Answers.{Answer}
use Rattle.worker_ledger.specs.Heard.{all_heard, heard}
use Rattle.worker_ledger.specs.Ledgers.{AreAnswers, IsAnswer, ledger_text}
use Rattle.worker_ledger.specs.Notes.{HasText}
use Rattle.worker_ledger.specs.declared.heard.Heard.{Heard}
use Rattle.worker_ledger.specs.declared.ledger.Ledger.{Ledger}

pub answers_more : (all left rest : List Heard) (h : Heard) → left ≡ h ∷ rest → IsAnswer (heard h) → (AreAnswers (all_heard left) → AreAnswers (all_heard all)) → AreAnswers (all_heard rest) → AreAnswers (all_heard all)
answers_more all left rest h e is f more = f (subst (λ hs. AreAnswers (all_heard hs)) (sym e) (is, more))

pub all_answers : (all left : List Heard) → length left ≡ 0 → (AreAnswers (all_heard left) → AreAnswers (all_heard all)) → AreAnswers (all_heard all)
all_answers all [] none f = f tt
all_answers all (h ∷ left) none f = absurd (omega arith)

-- ---- What is read

-- the bytes are the text of what was read of them
pub has_text : (bytes text : List ℕ) (w : ℕ) (l : Ledger) → l.no ≡ w → l.count < 2 ^ 64 → AreAnswers (all_heard l.own.items) → text ≡ ledger_text l.no l.count (all_heard l.own.items) → text ≡ bytes
    → ((count : ℕ) (own : List Answer) → count < 2 ^ 64 → AreAnswers own → bytes ≡ ledger_text w count own → (l.count ≡ count) × (all_heard l.own.items ≡ own)) → HasText bytes w l
has_text bytes text w l n small told t same only = record {
  number = n;
  small = small;
  told = told;
  text = sym same ∙ t ∙ ap (λ v. ledger_text v l.count (all_heard l.own.items)) n;
  only = only;
}

-- where they aren't, they are no ledger's
pub not_text : (bytes text : List ℕ) (w count : ℕ) (l : Ledger) (own : List Answer) → l.no ≡ w → text ≡ ledger_text l.no l.count (all_heard l.own.items) → (text ≡ bytes → ⊥)
    → (l.count ≡ count) × (all_heard l.own.items ≡ own) → bytes ≡ ledger_text w count own → ⊥
not_text bytes text w count l own n t other parts e = other (t ∙ rw (n, parts.0, parts.1) (sym e))

-- a test that is false isn't true, and one that is true is
pub not_true : (b : Bool) → b ≡ false → IsTrue b → ⊥
not_true b e t = cc

pub is_true : (b : Bool) → b ≡ true → IsTrue b
is_true b e = e
