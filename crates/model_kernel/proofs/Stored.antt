-- What a task's next instruction stores, it stores at mapped addresses.
-- By the rule of scripts on all their programs, of which each task's is one.
use Rattle.std.proofs.Common.{◌≡◌, ℕ, zero, suc, List, [], ◌∷◌, Option, Some, None, refl, Bool, true, slice_get, length, ◌-◌}
use Rattle.std.specs.List.{list_all}
use Rattle.std.proofs.lemmas.Bool.{and_parts}
use Rattle.hist_model.specs.Programs.{nth_started, program, program_at, program_from}
use Rattle.hist_model.specs.ScriptRules.{IsScript}
use Rattle.hist_model.specs.declared.script.Instr.{Instr}
use Rattle.model_kernel.proofs.Words.{Name, Script}
use Rattle.model_kernel.specs.Mapped.{stores_each_mapped}
use Rattle.model_kernel.proofs.MappedRanges.{stores_where_mapped}

-- what all elements of a list have, each has
all-get : {X : Type 0} (p : X → Bool) (xs : List X) (i : ℕ) (x : X) → list_all p xs ≡ true → slice_get xs i ≡ Some x → p x ≡ true
all-get p [] i x h g = cc
all-get p (y ∷ ys) zero x h g = let both = and_parts (p y) (list_all p ys) h in cc
all-get p (y ∷ ys) (suc i) x h g = let both = and_parts (p y) (list_all p ys) h in all-get p ys i x both.1 g

module _ (p : Instr → Bool) (programs : List (List Instr)) (h : list_all (list_all p) programs ≡ true) where
  at-all : (o : Option ℕ) → list_all p (program_at programs o) ≡ true
  at-all None = refl
  at-all (Some i) = by (slice_get programs i) refl
    where
      by : (found : Option (List Instr)) → slice_get programs i ≡ found → list_all p (program_at programs (Some i)) ≡ true
      by None q = rw q refl
      by (Some body) q = rw q (all-get (list_all p) programs i body h q)

  from-all : (n : Name) (own : List Instr) → list_all p own ≡ true → list_all p (program_from programs n own) ≡ true
  from-all [] own o = o
  from-all (k ∷ n) own o = from-all n (program_at programs (nth_started own k)) (at-all (nth_started own k))

-- the instructions of a task's program have what those of all programs have
program-all : (S : Script) (p : Instr → Bool) (n : Name) → list_all (list_all p) S.programs ≡ true → list_all p (program S n) ≡ true
unfolding program
program-all S p [] h = refl
program-all S p (k ∷ n) h = from-all p S.programs h n (program_at S.programs (Some (length S.programs - 1))) (at-all p S.programs h (Some (length S.programs - 1)))

-- an instruction of a task's program stores where each address is mapped
pub stored-mapped : (S : Script) (n : Name) (place : ℕ) (i : Instr) → IsScript S → slice_get (program S n) place ≡ Some i → stores_each_mapped S.map i ≡ true
stored-mapped S n place i is g = all-get (stores_each_mapped S.map) (program S n) place i (program-all S (stores_each_mapped S.map) n (stores_where_mapped S is)) g
