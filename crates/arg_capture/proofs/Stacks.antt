-- A list whose last item comes first.
-- By the library's lengths of reversed and of taken lists, and by `past_more`.
use Rattle.std.proofs.Common.{◌≡◌, ℕ, ◌+◌, ◌-◌, ◌<◌, ◌≤◌, List, length, reverse, take, sym, ap, ◌∙◌, arith}
use Rattle.std.proofs.lemmas.List.{length-reverse, length-take}
use Rattle.hist_model.specs.declared.copy.Part.{Part}
use Rattle.hist_model.specs.declared.copy.Part.TheVariants.{Value}
use Rattle.hist_model.proofs.Scans.{past_more}
use Rattle.arg_capture.specs.Plans.{rest_parts}

pub stack_length : {A : Type 0} → (xs : List A) (n : ℕ) → n ≤ length xs → length (reverse (take n xs)) ≡ n
stack_length xs n h = simp (length-reverse, length-take) (omega arith)

-- without its first item
pub stack_rest : (xs : List Part) (n : ℕ) → 0 < n → n ≤ length xs → reverse (take (n - 1) xs) ≡ rest_parts (reverse (take n xs))
stack_rest xs n h l =
    let e : (n - 1) + 1 ≡ n = omega arith in
    sym (ap (λ m. rest_parts (reverse (take m xs))) (sym e) ∙ ap rest_parts (past_more xs (n - 1) (Value 0 0) (omega arith)))
