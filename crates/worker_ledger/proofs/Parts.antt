-- What is left of the answers of a ledger while they are read.
use Rattle.std.proofs.Common.{◌≡◌, List, [], ◌∷◌, ◌++◌, length, refl, sym, ap, subst, ◌∙◌, arith, append_assoc}
use Rattle.serde_json.specs.Data.{Data, Items, item, no_items, null}
use Rattle.serde_json.specs.View.{items_view, view}
use Rattle.serde_json.specs.declared.value.Value.{Value}
use Rattle.broker_core.specs.Answers.{Answer}
use Rattle.worker_ledger.specs.Data.{answer_data, answers_data}
use Rattle.worker_ledger.specs.Heard.{all_heard, heard}
use Rattle.worker_ledger.specs.Ledgers.{AreAnswers, IsAnswer}
use Rattle.worker_ledger.specs.declared.heard.Heard.{Heard}

-- the answers that are left, where some were read
pub record IsLeft (own read : List Answer) (left : List Value) : Type 0 where
  pub more : List Answer
  pub told : AreAnswers more
  pub split : own ≡ read ++ more
  pub values : items_view left ≡ answers_data more

first-of : Items → Data
first-of no_items = null
first-of (item d ds) = d

rest-of : Items → Items
rest-of no_items = no_items
rest-of (item d ds) = ds

no-item : (d : Data) (ds : Items) → item d ds ≡ no_items → ⊥
no-item d ds e = cc

-- one more answer is read
pub left_more : (own read : List Answer) (left rest : List Value) (v : Value) (h : Answer) → IsLeft own read left → left ≡ v ∷ rest
    → ((a : Answer) → IsAnswer a → view v ≡ answer_data a → h ≡ a) → IsLeft own (read ++ (h ∷ [])) rest
unfolding first-of rest-of
left_more own read left rest v h is e found = by is.more is.told is.split (subst (λ vs. items_view vs ≡ answers_data is.more) e is.values)
  where
    by : (more : List Answer) → AreAnswers more → own ≡ read ++ more → items_view (v ∷ rest) ≡ answers_data more → IsLeft own (read ++ (h ∷ [])) rest
    by [] told split values = absurd (no-item _ _ values)
    by (a ∷ more) told split values =
        let f : h ≡ a = found a told.0 (ap first-of values) in record {
          more = more;
          told = told.1;
          split = split ∙ rw f (sym (append_assoc read (a ∷ []) more));
          values = ap rest-of values;
        }

-- no value is left but one that is an answer's
pub left_next : (own read : List Answer) (left rest : List Value) (v : Value) → IsLeft own read left → left ≡ v ∷ rest → ((a : Answer) → IsAnswer a → view v ≡ answer_data a → ⊥) → ⊥
unfolding first-of
left_next own read left rest v is e none = by is.more is.told (subst (λ vs. items_view vs ≡ answers_data is.more) e is.values)
  where
    by : (more : List Answer) → AreAnswers more → items_view (v ∷ rest) ≡ answers_data more → ⊥
    by [] told values = no-item _ _ values
    by (a ∷ more) told values = none a told.0 (ap first-of values)

no-answer : (own : List Answer) → no_items ≡ answers_data own → own ≡ []
no-answer [] e = refl
no-answer (a ∷ own) e = absurd (no-item _ _ (sym e))

-- where none is left, all were read
pub left_none : (own read : List Answer) (left : List Value) → IsLeft own read left → length left ≡ 0 → read ≡ own
left_none own read [] is none = sym (is.split ∙ ap (λ more. read ++ more) (no-answer is.more is.values) ∙ append-empty read)
  where
    append-empty : (xs : List Answer) → xs ++ [] ≡ xs
    append-empty [] = refl
    append-empty (x ∷ xs) = ap (λ ys. x ∷ ys) (append-empty xs)
left_none own read (v ∷ left) is none = absurd (omega arith)

pub heard_more : (answers : List Heard) (h : Heard) → all_heard (answers ++ (h ∷ [])) ≡ all_heard answers ++ (heard h ∷ [])
heard_more [] h = refl
heard_more (g ∷ answers) h = ap (λ more. heard g ∷ more) (heard_more answers h)
