-- Fields that are one.
-- By cases on both.
use Rattle.std.proofs.Common.{◌≡◌, Bool, true, false, ◌||◌, not, refl, ap}
use Rattle.std.proofs.lemmas.Bool.{eqb-true}
use Rattle.hist_model.specs.declared.policy.Flag.TheVariants as flag
use Rattle.policy_classes.specs.declared.atoms.Field.{Field}
use Rattle.policy_classes.specs.declared.atoms.Field.TheVariants as field
use Rattle.policy_classes.specs.Fields.{field_eq}

pub same_field : (g f : Field) → field_eq g f ≡ true → g ≡ f
same_field field.Path field.Path h = refl
same_field field.Node field.Node h = refl
same_field field.Fstype field.Fstype h = refl
same_field field.Source field.Source h = refl
same_field field.Name field.Name h = refl
same_field field.Value field.Value h = refl
same_field field.Dirfd field.Dirfd h = refl
same_field (field.Flag (flag.Mount a)) (field.Flag (flag.Mount b)) h = ap (λ x. field.Flag (flag.Mount x)) (eqb-true a b h)
same_field (field.Flag (flag.Attribute a)) (field.Flag (flag.Attribute b)) h = ap (λ x. field.Flag (flag.Attribute x)) (eqb-true a b h)
same_field g f h = cc

-- the fields that are decided, and one more
abbrev pub with_field : (Field → Bool) → Field → Field → Bool
with_field decided f g = decided g || field_eq g f

-- a field that is decided isn't one that isn't
pub apart : (decided : Field → Bool) (g f : Field) → decided g ≡ true → decided f ≡ false → field_eq g f ≡ false
apart decided g f is isnt = by (field_eq g f) refl
  where
    by : (b : Bool) → field_eq g f ≡ b → b ≡ false
    by true e = let same : decided g ≡ decided f = ap decided (same_field g f e) in cc
    by false e = refl

pub or_left : (a b : Bool) → a ≡ true → (a || b) ≡ true
or_left true b h = refl
or_left false b h = cc

pub or_right : (a b : Bool) → b ≡ true → (a || b) ≡ true
or_right true b h = refl
or_right false b h = h

pub or_neither : (a b : Bool) → a ≡ false → not b ≡ true → (a || b) ≡ false
or_neither true b h g = cc
or_neither false true h g = cc
or_neither false false h g = refl
