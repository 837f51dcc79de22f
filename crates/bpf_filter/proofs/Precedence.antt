-- Lemmas on the answer that counts.
-- By the definition of `combine`, with `drop_more` and `past_more`, and by cases on which of two answers has the lower rank.
use Rattle.std.proofs.Common.{◌≡◌, ℕ, ◌+◌, ◌<◌, ◌≤◌, List, [], ◌∷◌, length, get_or, drop, take, reverse, inl, inr, add-one, refl, ap, sym, ◌∙◌, arith}
use Rattle.std.proofs.Math.Seq.{take-length}
use Rattle.std.proofs.lemmas.List.{drop_more}
use Rattle.std.proofs.Math.ListN.{drop_of_length-le}
use Rattle.std.proofs.lemmas.Bool.{cases_Bool}
use Rattle.std.specs.Prelude.{false, nat_lt}
use Rattle.sys_abi.specs.declared.wire.SeccompData.{SeccompData}
use Rattle.hist_model.specs.declared.script.FilterLine.{FilterLine}
use Rattle.hist_model.specs.Filters.{combine, with_newer, chosen, answers, rank, run, words}
use Rattle.hist_model.proofs.Scans.{past_more}
use Rattle.bpf_filter.specs.Choices.{newer_filter}

combine-at : (value : ℕ) (older : List ℕ) → combine (value ∷ older) ≡ with_newer value (combine older)
unfolding combine
combine-at value older = refl

-- one newer answer
pub combine_more : (values : List ℕ) (place : ℕ) → place < length values
    → combine (drop place values) ≡ with_newer (get_or values place 0) (combine (drop (place + 1) values))
combine_more values place l = ap combine (drop_more values place 0 l) ∙ combine-at _ _

combine-none : combine [] ≡ (0x7fff0000, 0)
unfolding combine
combine-none = refl

pub combine_past : (values : List ℕ) (place : ℕ) → length values ≤ place → combine (drop place values) ≡ (0x7fff0000, 0)
combine_past values place l = ap combine (drop_of_length-le values l) ∙ combine-none

chosen-at : (f : FilterLine) (older : List FilterLine) (call : SeccompData) → chosen (f ∷ older) call ≡ newer_filter f (words call) (chosen older call)
chosen-at f older call =
    rw combine-at (
    elim (cases_Bool (nat_lt (rank (combine (answers older call)).0) (rank (run f.insns call)))) [
      | inl h ↦ rw (h, add-one) refl
      | inr h ↦ rw h refl
    ])

-- one more filter
pub chosen_more : (filters : List FilterLine) (i : ℕ) (f : FilterLine) (call : SeccompData) → i < length filters → f ≡ get_or filters i f
    → chosen (reverse (take (i + 1) filters)) call ≡ newer_filter f (words call) (chosen (reverse (take i filters)) call)
chosen_more filters i f call l e =
    ap (λ fs. chosen fs call) (past_more filters i f l)
    ∙ ap (λ g. chosen (g ∷ reverse (take i filters)) call) (sym e)
    ∙ chosen-at f (reverse (take i filters)) call

pub chosen_none : (call : SeccompData) → chosen [] call ≡ (0x7fff0000, false)
unfolding combine
chosen_none call = refl

-- all filters
pub chosen_all : (filters : List FilterLine) (i : ℕ) (call : SeccompData) → length filters ≤ i → i ≤ length filters
    → chosen (reverse (take i filters)) call ≡ chosen (reverse filters) call
chosen_all filters i call l m =
    let e : i ≡ length filters = omega arith in
    ap (λ n. chosen (reverse (take n filters)) call) e ∙ ap (λ fs. chosen (reverse fs) call) (take-length filters)
