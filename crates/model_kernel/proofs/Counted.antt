-- The count of open sessions.
-- By induction on the rows, of which each adds 1 or 0.
use Rattle.std.proofs.Common.{◌≡◌, inl, inr, ℕ, zero, suc, true, false, List, [], ◌∷◌, refl, sym, ◌∙◌, arith, ◌↔◌}
use Rattle.std.specs.List.{count_by}
use Rattle.std.proofs.lemmas.Bool.{cases_Bool}
use Rattle.std.proofs.lemmas.List.Sums.{sum_by-cons}
use Rattle.hist_model.specs.Legal.{is_open_session}
use Rattle.hist_model.specs.Sessions.{session}
use Rattle.model_kernel.proofs.Words.{AreRows, Event, Script, WorkerRow}
use Rattle.model_kernel.specs.Rows.{row_of, has_session}

count-yes : (r : WorkerRow) (rows : List WorkerRow) → has_session r ≡ true → count_by has_session (r ∷ rows) ≡ suc (count_by has_session rows)
count-yes r rows h = rw (sum_by-cons, h) (omega arith)

count-no : (r : WorkerRow) (rows : List WorkerRow) → has_session r ≡ false → count_by has_session (r ∷ rows) ≡ count_by has_session rows
count-no r rows h = rw (sum_by-cons, h) (omega arith)

none-has : (rows : List WorkerRow) (w : ℕ) → count_by has_session rows ≡ 0 → has_session (row_of rows w) ≡ false
none-has [] w h = refl
none-has (r ∷ rows) zero h = elim (cases_Bool (has_session r)) [
  | inl q ↦ absurd (omega (arith, count-yes r rows q))
  | inr q ↦ q
]
none-has (r ∷ rows) (suc w) h = elim (cases_Bool (has_session r)) [
  | inl q ↦ absurd (omega (arith, count-yes r rows q))
  | inr q ↦ none-has rows w (sym (count-no r rows q) ∙ h)
]

has-none : (rows : List WorkerRow) → ((w : ℕ) → has_session (row_of rows w) ≡ false) → count_by has_session rows ≡ 0
has-none [] h = refl
has-none (r ∷ rows) h = count-no r rows (h zero) ∙ has-none rows (λ w. h (suc w))

pub none-open : (S : Script) (K : List Event) (rows : List WorkerRow) → AreRows S K rows → (count_by has_session rows ≡ 0) ↔ ((w : ℕ) → is_open_session (session K w) ≡ false)
none-open S K rows s = (
  λ h w. sym (s.workers w).session_is ∙ none-has rows w h,
  λ h. has-none rows (λ w. (s.workers w).session_is ∙ h w),
)
