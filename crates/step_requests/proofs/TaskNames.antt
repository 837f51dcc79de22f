-- A text that names a task gives numbers that a task's name may have.
-- By induction on the texts between points, and by cases on the first bytes.
use Rattle.std.proofs.Common.{◌≡◌, ℕ, Bool, true, false, List, [], ◌∷◌, length, map, refl, sym, subst}
use Rattle.std.specs.Prelude.{nat_le, ◌&&◌}
use Rattle.std.specs.List.{list_all}
use Rattle.std.proofs.lemmas.List.{length-map}
use Rattle.std.proofs.lemmas.Bool.{and_from, and_parts, eqb-true}
use Rattle.lex_core.specs.Numbers.{digits_value}
use Rattle.hist_model.specs.Names.{is_child_number, is_task_name}
use Rattle.step_requests.specs.Names.{begins_plainly, is_child_text, is_children_tail, is_task_text, number_or_zero, pieces, task_numbers}

last-two : (a b c : Bool) → (a && b && c) ≡ true → (b && c) ≡ true
last-two true b c h = h
last-two false b c h = cc

child-named : (text : List ℕ) → is_child_text text ≡ true → is_child_number (number_or_zero text) ≡ true
child-named text h = last-two (begins_plainly text) (nat_le 1 (number_or_zero text)) (nat_le (number_or_zero text) 100000) h

children-named : (texts : List (List ℕ)) → list_all is_child_text texts ≡ true → list_all is_child_number (map number_or_zero texts) ≡ true
children-named [] h = refl
children-named (text ∷ more) h = and_from _ _ (child-named text (and_parts _ _ h).0) (children-named more (and_parts _ _ h).1)

few-children : (texts : List (List ℕ)) → nat_le (length texts) 64 ≡ true → nat_le (length (map number_or_zero texts)) 64 ≡ true
few-children texts h = rw length-map h

children-sound : (text : List ℕ) → list_all is_child_text (pieces text) ≡ true → nat_le (length (pieces text)) 64 ≡ true → is_task_name (task_numbers (48 ∷ 46 ∷ text)) ≡ true
unfolding digits_value
children-sound text h few = and_from _ _ (few-children (pieces text) few) (children-named (pieces text) h)

tail-sound : (tail : List ℕ) → is_children_tail tail ≡ true → is_task_name (task_numbers (48 ∷ tail)) ≡ true
unfolding digits_value
tail-sound [] h = refl
tail-sound (b ∷ bs) h =
    subst (λ k. is_task_name (task_numbers (48 ∷ k ∷ bs)) ≡ true) (sym (eqb-true b 46 (and_parts _ _ (and_parts _ _ h).0).0))
    (children-sound bs (and_parts _ _ (and_parts _ _ h).0).1 (and_parts _ _ h).1)

pub task_sound : (text : List ℕ) → is_task_text text ≡ true → is_task_name (task_numbers text) ≡ true
task_sound [] h = cc
task_sound (b ∷ bs) h = subst (λ k. is_task_name (task_numbers (k ∷ bs)) ≡ true) (sym (eqb-true b 48 (and_parts _ _ h).0)) (tail-sound bs (and_parts _ _ h).1)
