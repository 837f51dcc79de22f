-- Which tasks wait in a call, one task after another.
-- By the definition of `some_waits`.
use Rattle.std.proofs.Common.{◌≡◌, ℕ, ◌+◌, Bool, true, false, ◌||◌, List, Option, refl, sym, ap, ◌∙◌, add-one}
use Rattle.hist_model.specs.Calls.{state_at}
use Rattle.hist_model.specs.Signals.{call_of}
use Rattle.hist_model.specs.declared.event.Event.{Event}
use Rattle.hist_model.specs.declared.notification.State.{State}
use Rattle.history_frames.specs.Ordinals.{task_name_of}
use Rattle.state_answers.specs.Looks.{some_waits}

pub waits_none : (test : Option State → Bool) (K : List Event) → false ≡ some_waits test K 0
unfolding some_waits
waits_none test K = refl

one-more : (test : Option State → Bool) (K : List Event) (n : ℕ) → some_waits test K (n + 1) ≡ (some_waits test K n || test (state_at K (call_of K (task_name_of K n))))
unfolding some_waits
one-more test K n = rw add-one refl

pub waits_more : (test : Option State → Bool) (K : List Event) (n : ℕ) (before now : Bool) → before ≡ some_waits test K n → now ≡ test (state_at K (call_of K (task_name_of K n)))
    → (before || now) ≡ some_waits test K (n + 1)
waits_more test K n before now b h = rw (b, h) (sym (one-more test K n))

-- one that was found before still is one, and else the next one tells
pub waits_then : (test : Option State → Bool) (K : List Event) (n : ℕ) (before after : Bool) → before ≡ some_waits test K n → before ≡ true → after ≡ true → after ≡ some_waits test K (n + 1)
waits_then test K n before after b t a =
    let x = test (state_at K (call_of K (task_name_of K n))) in
    a ∙ (sym (ap (λ z. z || x) t) ∙ waits_more test K n before x b refl)

pub waits_else : (test : Option State → Bool) (K : List Event) (n : ℕ) (before now after : Bool) → before ≡ some_waits test K n → before ≡ false → after ≡ now → now ≡ test (state_at K (call_of K (task_name_of K n))) → after ≡ some_waits test K (n + 1)
waits_else test K n before now after b f a h = a ∙ (sym (ap (λ z. z || now) f) ∙ waits_more test K n before now b h)
