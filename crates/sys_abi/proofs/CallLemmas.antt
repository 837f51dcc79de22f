-- The number of a call leads to its name and back: by the lemmas on tables, where the numbers and names of the table differ.
-- By `name_of_number` and `number_of_name` on the table of calls, whose rows are computed to be distinct.
use Rattle.std.specs.Prelude.{ℕ, ℤ, pos, negsuc, Option, Some, None, List, IfSome}
use Rattle.std.specs.Option.{option_map, option_copied}
use Rattle.std.proofs.Common.{◌≡◌, refl, sym, ap, subst, Bor, rules}
use Rattle.sys_abi.specs.Names.{number_in}
use Rattle.sys_abi.specs.Calls.{calls, call_name_of, call_number_of}
use Rattle.sys_abi.proofs.Tables.{name_of_number, number_of_name}

-- the number of a call leads back to its name
pub name_of_call_number : (nr : ℤ) (name : List ℕ) → Some nr ≡ call_number_of name → call_name_of nr ≡ Some name
name_of_call_number nr name h = through (number_in calls name) refl h
  where
    through : (o : Option ℕ) → number_in calls name ≡ o → Some nr ≡ option_map pos o → call_name_of nr ≡ Some name
    through None is h' = cc
    through (Some n) is h' =
        let same : pos n ≡ nr = cc in
        subst (λ m. call_name_of m ≡ Some name) same (name_of_number calls name n refl is)

-- a name that a call read by reference leads back to the call's number
pub if_call_named : (o : Option (Bor (List ℕ))) (nr : ℤ) → option_copied o ≡ call_name_of nr → IfSome o (λ text. call_number_of text.now ≡ Some nr)
if_call_named None nr h = search rules
if_call_named (Some b) (pos n) h = ap (option_map pos) (number_of_name calls n b.now refl (sym h))
if_call_named (Some b) (negsuc n) h = cc
