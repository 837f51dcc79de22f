-- The line of those who are able to step, one task after another.
-- By the definition of `able_tasks`.
use Rattle.std.proofs.Common.{◌≡◌, ℕ, ◌+◌, List, ◌++◌, refl, sym, ap, ◌∙◌, add-one}
use Rattle.std.proofs.lemmas.List.{append-nil, append_assoc}
use Rattle.hist_model.specs.declared.event.Event.{Event}
use Rattle.hist_model.specs.declared.script.Script.{Script}
use Rattle.history_frames.specs.Ordinals.{task_name_of}
use Rattle.state_answers.specs.Able.{able_tasks, is_able}
use Rattle.state_answers.specs.Able.{able_name}

pub able_none : (S : Script) (K : List Event) (line : List ℕ) → line ≡ line ++ able_tasks S K 0
unfolding able_tasks
able_none S K line = sym (append-nil line)

one-more : (S : Script) (K : List Event) (n : ℕ) → able_tasks S K (n + 1) ≡ able_tasks S K n ++ able_name (is_able S K n) (task_name_of K n)
unfolding able_tasks
one-more S K n = rw add-one refl

pub able_more : (S : Script) (K : List Event) (n : ℕ) (line before after : List ℕ) → before ≡ line ++ able_tasks S K n → after ≡ before ++ able_name (is_able S K n) (task_name_of K n) → after ≡ line ++ able_tasks S K (n + 1)
able_more S K n line before after was added =
    added ∙ (ap (λ x. x ++ able_name (is_able S K n) (task_name_of K n)) was ∙ (append_assoc line (able_tasks S K n) (able_name (is_able S K n) (task_name_of K n)) ∙ ap (λ x. line ++ x) (sym (one-more S K n))))
