-- Functions of ordinals that are set at one of them.
-- By cases on whether an ordinal is this one.
use Rattle.std.proofs.Common.{◌≡◌, ◌≢◌, ℕ, ◌+◌, ◌-◌, refl}
use Rattle.std.proofs.lemmas.Bool.{eq-eqb, ne_eqb}
use Rattle.task_groups.specs.State.{Contents, IsSetTo, one_more, one_less, set_contents}

pub set-here : (o p : ℕ) (c : Contents) (f : ℕ → Contents) → p ≡ o → set_contents o c f p ≡ c
set-here o p c f q = rw (eq-eqb p o q) refl

pub set-other : (o p : ℕ) (c : Contents) (f : ℕ → Contents) → p ≢ o → set_contents o c f p ≡ f p
set-other o p c f d = rw (ne_eqb p o d) refl

pub contents-set : (f : ℕ → Contents) (o : ℕ) (c : Contents) → IsSetTo f o c (set_contents o c f)
contents-set f o c = record { here = set-here o o c f refl; others = λ p d. set-other o p c f d }

pub more-set : (f : ℕ → ℕ) (o n : ℕ) → n ≡ f o + 1 → IsSetTo f o n (one_more f o)
more-set f o n q = record { here = rw (eq-eqb o o refl, q) refl; others = λ p d. rw (ne_eqb p o d) refl }

pub less-set : (f : ℕ → ℕ) (o n : ℕ) → n ≡ f o - 1 → IsSetTo f o n (one_less f o)
less-set f o n q = record { here = rw (eq-eqb o o refl, q) refl; others = λ p d. rw (ne_eqb p o d) refl }

pub same-set : {A : Type 0} → (f : ℕ → A) (o : ℕ) (x : A) → f o ≡ x → IsSetTo f o x f
same-set f o x q = record { here = q; others = λ p d. refl }
