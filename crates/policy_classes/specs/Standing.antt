-- When some values of a field stand for all, and none of these is less than the one that stands for it.
use Rattle.std.specs.Prelude.{◌≡◌, ◌⊎◌, ℕ, ◌<◌, ◌≤◌, true, List, ◌∷◌, Some, ℤ, All, Any, ⊤}
use Rattle.policy_classes.specs.declared.atoms.Atom.{Atom}
use Rattle.policy_classes.specs.declared.atoms.Field.{Field}
use Rattle.policy_classes.specs.declared.atoms.Field.TheVariants as field
use Rattle.policy_classes.specs.Allowed.{IsAllowed, limit_of, plain_of}
use Rattle.policy_classes.specs.Asked.{is_descriptor_number}
use Rattle.policy_classes.specs.Chosen.{descriptor_values, field_texts}
use Rattle.policy_classes.specs.Fields.{Sight, descriptor, is_of, node, suits, text}
use Rattle.policy_classes.specs.Nodes.{node_values}
use Rattle.policy_classes.specs.Order.{Part, descriptor_part, number_part, text_part}

-- what is seen of a field suits each atom on it in both cases, or in neither
abbrev pub Alike : List Atom → Field → Sight → Sight → Type 0
Alike atoms f s t = All (λ a. is_of f a ≡ true → suits a s ≡ suits a t) atoms

-- of two ranks the first is less where they first differ
abbrev pub IsBefore : List ℕ → List ℕ → Type 0
IsBefore (x ∷ xs) (y ∷ ys) = (x < y) ⊎ ((x ≡ y) × IsBefore xs ys)
IsBefore _ _ = ⊥

-- a field's value costs at most as much as another, and doesn't come behind it
abbrev pub IsUpTo : Part → Part → Type 0
IsUpTo p q = (p.cost ≤ q.cost) × ((p.rank ≡ q.rank) ⊎ IsBefore p.rank q.rank)

-- the fields that are texts
abbrev pub IsTextField : Field → Type 0
IsTextField field.Path = ⊤
IsTextField field.Fstype = ⊤
IsTextField field.Source = ⊤
IsTextField field.Name = ⊤
IsTextField field.Value = ⊤
IsTextField _ = ⊥

-- for each text that a call may have in this field, one of the chosen ones is like it, and not greater
abbrev pub TextsStand : Type 0
TextsStand = (f : Field) (atoms : List Atom) (t : List ℕ) → IsTextField f → IsAllowed (limit_of f) t
    → Any (λ u. Alike atoms f (text (Some u)) (text (Some t)) × IsUpTo (text_part (plain_of f) u) (text_part (plain_of f) t))
    (field_texts f atoms)

-- the same of descriptors, and of modes with device numbers
abbrev pub DescriptorsStand : Type 0
DescriptorsStand = (atoms : List Atom) (d : ℤ) → is_descriptor_number d ≡ true
    → Any (λ e. Alike atoms field.Dirfd (descriptor (Some e)) (descriptor (Some d)) × IsUpTo (descriptor_part e) (descriptor_part d))
    (descriptor_values atoms)

abbrev pub NodesStand : Type 0
NodesStand = (atoms : List Atom) (n : ℕ × ℕ)
    → Any (λ m. Alike atoms field.Node (node (Some m)) (node (Some n))
    × IsUpTo (number_part m.0) (number_part n.0) × IsUpTo (number_part m.1) (number_part n.1)) (node_values atoms)
