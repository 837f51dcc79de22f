-- What is in an option.
-- By functions that are defined by cases on an option, applied to both sides of an equation.
use Rattle.std.proofs.Common.{◌≡◌, Option, Some, None, sym, ap, ◌∙◌, subst}

module _ {S : Type 0} where
  abbrev IsThere : Option S → Type 0
  IsThere None = ⊥
  IsThere (Some x) = Unit {0}

  pub never_none : (r : Option S) (x : S) → r ≡ Some x → r ≡ None → ⊥
  never_none r x e f = subst IsThere (sym e ∙ f) tt

  abbrev some_or : S → Option S → S
  some_or d None = d
  some_or d (Some x) = x

  pub same_some : (d : S) (r : Option S) (x y : S) → r ≡ Some x → r ≡ Some y → x ≡ y
  same_some d r x y e f = ap (some_or d) (sym e ∙ f)
