-- An array is read item by item: what is read of the items up to a place goes on with those from there.
-- By the definition of `walk_items` at the first item that is left, and by induction on the items for the names held.
use Rattle.std.proofs.Common.{◌≡◌, ℕ, ◌+◌, ◌<◌, ◌≤◌, ◌||◌, Bool, true, false, List, [], ◌∷◌, ◌++◌, length, drop, get_or, Ok, Err, ◌==◌, nat_lt, bytes_eq, refl, sym, ap, ◌∙◌, add-one, drop-cons, arith}
use Rattle.std.proofs.lemmas.Bool.Decides.{nat_tests}
use Rattle.hist_model.specs.RuleParts.{has_named}
use Rattle.hist_model.specs.declared.policy.Rule.{Rule}
use Rattle.serde_json.specs.Data.{Data}
use Rattle.serde_json.specs.Events.{items_len}
use Rattle.serde_json.specs.View.{view, items_view}
use Rattle.serde_json.specs.declared.value.Value.{Value}
use Rattle.serde_json.proofs.Views.{items_len-items_view}
use Rattle.policy_reader.specs.NameSets.{holds, HoldsNames}
use Rattle.policy_reader.specs.Readings.{Reading, walk_items}
use Rattle.policy_reader.specs.Rules.{listed_call, listed_calls, rule_at, rule_of, rules_in}
use Rattle.policy_reader.specs.declared.error.PolicyError.TheVariants.{TooMany}
use Rattle.policy_reader.specs.declared.names.Names.{Names}
use Rattle.policy_reader.specs.declared.rules.Format.{Format}

-- an item that was read stands behind those before it
pub one_read : {A : Type 0} (read : List A → Data → Reading A) (found : List A) (xs : List Value) (i : ℕ) (d : Value) (x : A) → i < length xs → read found (view (get_or xs i d)) ≡ Ok x
    → walk_items read found (items_view (drop i xs)) ≡ walk_items read (found ++ x ∷ []) (items_view (drop (i + 1) xs))
one_read read found xs i d x h e = rw (add-one, drop-cons xs i d, e) refl

-- an array that isn't empty is read from its first item
pub calls_begin : (n : ℕ) (xs : List Value) → (length xs == 0) ≡ false → listed_calls n (items_view xs) ≡ walk_items (listed_call n) [] (items_view xs)
calls_begin n xs h = let e : (items_len (items_view xs) == 0) ≡ false = rw (items_len-items_view xs) h in rw e refl

-- an array of few rules is read from its first one
pub rules_begin : (format : Format) (xs : List Value) → length xs ≤ 1024 → rules_in format (items_view xs) ≡ walk_items (rule_of format) [] (items_view xs)
rules_begin format xs h = let e : nat_lt 1024 (items_len (items_view xs)) ≡ false = rw (items_len-items_view xs) (grind (arith, nat_tests)) in rw e refl

-- an array of more is refused
pub too_many_rules : (format : Format) (xs : List Value) → 1024 < length xs → rules_in format (items_view xs) ≡ Err TooMany
too_many_rules format xs h = let e : nat_lt 1024 (items_len (items_view xs)) ≡ true = rw (items_len-items_view xs) (grind (arith, nat_tests)) in rw e refl

-- the rule is read by the names of the earlier ones
pub rule_by_names : (format : Format) (names : Names) (earlier : List Rule) (d : Data) → HoldsNames (λ rule. rule.name) names earlier → rule_at format (length earlier) (holds names) d ≡ rule_of format earlier d
rule_by_names format names earlier d h = ap (λ used. rule_at format (length earlier) used d) (λ i q. h q i)

or-comm : (a b : Bool) → (a || b) ≡ (b || a)
or-comm a b = grind arith

or-assoc : (a b c : Bool) → ((a || b) || c) ≡ (a || (b || c))
or-assoc a b c = grind arith

pub has-more : {A : Type 0} (name : A → List ℕ) (items : List A) (x : A) (q : List ℕ) → has_named name (items ++ x ∷ []) q ≡ (bytes_eq (name x) q || has_named name items q)
has-more name [] x q = refl
has-more name (y ∷ items) x q = ap (λ b. bytes_eq (name y) q || b) (has-more name items x q) ∙ sym (or-assoc (bytes_eq (name y) q) (bytes_eq (name x) q) (has_named name items q)) ∙ ap (λ b. b || has_named name items q) (or-comm (bytes_eq (name y) q) (bytes_eq (name x) q)) ∙ or-assoc (bytes_eq (name x) q) (bytes_eq (name y) q) (has_named name items q)

-- a name that was added is held beside those before it
pub one_more_held : {A : Type 0} (name : A → List ℕ) (old new : Names) (items : List A) (x : A) → HoldsNames name old items → ((q : List ℕ) → holds new q ≡ (bytes_eq (name x) q || holds old q)) → HoldsNames name new (items ++ x ∷ [])
one_more_held name old new items x h e = λ q. e q ∙ ap (λ b. bytes_eq (name x) q || b) (h q) ∙ sym (has-more name items x q)
