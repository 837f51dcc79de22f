-- Results that nobody was told, as the code finds them: by the numbers of effects.
use Rattle.std.specs.Prelude.{◌≡◌, ℕ, ◌<◌, Bool, ◌&&◌, ◌||◌, not, if◌then◌else◌, ◌==◌, bytes_eq, List, [], ◌∷◌, get_or}
use Rattle.std.specs.Prelude.{Option, Some, None, is_some, nat_le}
use Rattle.std.specs.Ordering.{int_eq}
use Rattle.hist_model.specs.Calls.{caller, settled}
use Rattle.hist_model.specs.Look.{before, name_eq}
use Rattle.hist_model.specs.declared.event.Event.{Event}
use Rattle.hist_model.specs.declared.event.What.{What}
use Rattle.hist_model.specs.declared.event.What.TheVariants.{Act, AddfdPut}
use Rattle.history_frames.specs.Ordinals.{nth_of}
use Rattle.broker_verdict.specs.Answers.{gave_at, is_told, is_untold, only_enters_again, remembered, tells, valid_texts}
use Rattle.broker_verdict.specs.Effects.{texts_of}
use Rattle.broker_verdict.specs.Seats.{args_of, effect_of, is_effect, nr_of, of_call}
use Rattle.judge_pass.specs.declared.done.Done.{Done}
use Rattle.judge_pass.specs.declared.done.Put.{Put}
use Rattle.judge_pass.specs.declared.judge.Judge.{Judge}
use Rattle.judge_pass.specs.Stands.{hand_at}
use Rattle.judge_pass.specs.Within.{effects_kept}

-- the texts for which an effect was done, of which this is kept
abbrev pub texts_kept : What → Option Put → List (List (List ℕ))
texts_kept (Act q cap answer) put = texts_of q ∷ []
texts_kept (AddfdPut asked answer) (Some put) = put.texts.items
texts_kept (AddfdPut asked answer) None = []
texts_kept _ put = [] ∷ []

-- two calls have equal registers
abbrev pub have_same_registers : List Event → ℕ → ℕ → Bool
have_same_registers K c d = int_eq (nr_of K c) (nr_of K d) && bytes_eq (args_of K c) (args_of K d)

-- whatever its texts are: the effect at a place gave a number, and was done for another call d, with equal registers, that has no answer;
-- and its outcome wasn't told
abbrev pub may_be_told : List Event → ℕ → ℕ → ℕ → Bool
may_be_told K c d p =
    not (is_told K p) && (not (d == c) && (not (settled K d) && (have_same_registers K c d && is_some (gave_at K (Some p)))))

-- the task that entered the call at place c took no other steps than those that lead to it from this place on
abbrev pub IsFirst : List Event → ℕ → ℕ → Type 0
IsFirst K c first = (d : ℕ) → only_enters_again (before K c) d (caller K c) (nr_of K c) (args_of K c) ≡ nat_le first d

-- the effect with a number can be told to the call that a seat has in hand
abbrev pub can_be_told : List Event → ℕ → ℕ → ℕ → Bool
can_be_told K w c n = of_call (nth_of is_effect K n) (λ p. not (is_told K p) && is_untold K c (valid_texts K w c) p)

-- the effect with a number was done for a call of the task that made this one
abbrev pub effect_is_for : List Event → ℕ → ℕ → Bool
effect_is_for K c n = of_call (nth_of is_effect K n) (λ p. of_call (hand_at K p) (λ d. name_eq (caller K c) (caller K d)))

-- the effect for an earlier call whose result the seat may tell, if it has a call in hand
abbrev pub remembered_for : List Event → ℕ → Option ℕ → Option ℕ
remembered_for K w (Some c) = remembered K w c
remembered_for K w None = None

-- the place of the seat's own effect, where it gave a number
abbrev pub own_told : List Event → ℕ → Option ℕ
own_told K w = if is_some (gave_at K (effect_of K w)) then effect_of K w else None

-- the effect was told by this event, or was told already; and all else of it is the same
abbrev pub told_by : List Event → Event → Done → Done
told_by K e done = record done { is_told = tells K (is_told K) e done.place || done.is_told }

-- the outcome that the event tells is noted, and nothing else
pub record NotesTold (K : List Event) (e : Event) (old new : Judge) : Type 0 where
  pub effects_are : effects_kept new ≡ effects_kept old
  pub noted : (n : ℕ) (d : Done) → n < effects_kept old → get_or new.done.items n d ≡ told_by K e (get_or old.done.items n d)
  pub same : new ≡ record old { done = new.done }
