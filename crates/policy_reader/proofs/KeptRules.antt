-- A rule that is read keeps what every policy's own rules keep.
-- By cases on keys and values, with the facts that each step of a reading keeps.
use Rattle.std.proofs.Common.{◌≡◌, ℕ, suc, ◌+◌, ◌≤◌, Bool, true, false, ◌&&◌, not, if◌then◌else◌, ◌==◌, nat_le, List, [], ◌∷◌, ◌++◌, length, Option, Some, None, option_map, option_and_then, is_some, Ok, Err, IfOk, IfSome, ℤ, pos, bytes_eq, find, codes, All, refl, sym, ap, ◌∙◌, inl, inr, arith, length-append}
use Rattle.std.specs.Prelude.{⊤, nat_lt}
use Rattle.std.specs.List.{list_any, list_all}
use Rattle.std.proofs.lemmas.Bool.{and_from, and_parts, both_ways, cases_Bool}
use Rattle.std.proofs.lemmas.Bool.Decides.{nat_tests}
use Rattle.std.proofs.lemmas.List.Elements.{All-nil, All-push}
use Rattle.std.proofs.lemmas.List.Folds.{list_any-append}
use Rattle.hist_model.specs.Decisions.{is_among, named_calls}
use Rattle.hist_model.specs.PolicyRules.{AreOwnRules, IsOwnRule}
use Rattle.hist_model.specs.RuleParts.{are_named, grants_mount, is_answer, is_condition, is_filled, is_for, is_from, is_from_if_some, is_grant, is_node_kind, is_plain_flags, is_rule_name, major_max, may_answer, may_be_limited, minor_max, named_once}
use Rattle.hist_model.specs.Words.{number_after, is_number}
use Rattle.hist_model.specs.declared.policy.Calls.TheVariants.{Named}
use Rattle.hist_model.specs.declared.policy.Cond.{Cond}
use Rattle.hist_model.specs.declared.policy.Cond.TheVariants.{Under, Kind as OfKind, Dirfd, Flags, PlainFlags}
use Rattle.hist_model.specs.declared.policy.Profile.{Profile}
use Rattle.hist_model.specs.declared.policy.Rule.{Rule}
use Rattle.hist_model.specs.declared.policy.Verdict.{Verdict}
use Rattle.hist_model.specs.declared.policy.Verdict.TheVariants.{Grant, Deny, Pass, Inject}
use Rattle.serde_json.specs.Data.{Data, Items, null, boolean, number, string, array, object, no_items, item}
use Rattle.serde_json.specs.Events.{items_len}
use Rattle.serde_json.specs.Find.{as_str, as_array, as_object, as_number, as_u64}
use Rattle.sys_abi.specs.Calls.{calls, call_number_of, nr_mount}
use Rattle.sys_abi.specs.Errnos.{errnos, errno_name, errno_of_name}
use Rattle.policy_reader.specs.declared.conditions.CondKey.{CondKey}
use Rattle.policy_reader.specs.declared.conditions.CondKey.TheVariants as cond_key
use Rattle.policy_reader.specs.declared.conditions.TextKey.{TextKey}
use Rattle.policy_reader.specs.declared.conditions.TextKey.TheVariants as text_key
use Rattle.policy_reader.specs.declared.rules.RuleKey.{RuleKey}
use Rattle.policy_reader.specs.declared.rules.RuleKey.TheVariants as rule_key
use Rattle.policy_reader.specs.declared.rules.Stated.{Stated}
use Rattle.policy_reader.specs.declared.rules.Format.{Format}
use Rattle.policy_reader.specs.declared.verdicts.Answer.{Answer}
use Rattle.policy_reader.specs.declared.verdicts.AnswerKey.{AnswerKey}
use Rattle.policy_reader.specs.declared.verdicts.AnswerKey.TheVariants as answer_key
use Rattle.policy_reader.specs.Conditions.{condition, condition_at, condition_key, condition_member, condition_of, conditions_of, descriptor_of, device_condition, device_parts, kinds, misfit}
use Rattle.policy_reader.specs.Flags.{flags_member, flags_of, no_flags}
use Rattle.policy_reader.specs.Readings.{Reading, and_then, good, named, rule_place, walk, walk_items, call_place}
use Rattle.policy_reader.specs.Rules.{call_of, calls_of, condition_fault, fault_of, in_version, is_used, listed_call, listed_calls, nothing_stated, own_conditions, own_rule, rule_at, rule_from, rule_keys, rule_member, rule_of, rules_in, rules_of, state, unless_faulty}
use Rattle.policy_reader.specs.Texts.{cut_at, decimal_up_to, in_range, leads_with_zero, rule_name, whole_from}
use Rattle.policy_reader.specs.Verdicts.{answer_at, answer_keys, answer_member, no_answer, verdict_from, verdict_of, verdict_words}
use Rattle.policy_reader.proofs.Keeping.{all_push, any_found, anything, find_passes, found_if, found_mapped, found_next, good_keeps, items_keep, named_passes, next_keeps, once_push, walk_keeps}

-- ---- Texts and numbers

-- a decimal text is a number up to the highest
decimal_kept : (high : ℕ) (text : List ℕ) → IfSome (decimal_up_to high text) (λ n. nat_le n high ≡ true)
decimal_kept high text = elim (cases_Bool (leads_with_zero text)) [
  | inl t ↦ rw t tt
  | inr n ↦ rw n (found_if (λ m. nat_le m high ≡ true) (is_number text && (nat_le 0 (number_after 0 text) && nat_le (number_after 0 text) high)) (number_after 0 text)
      (λ h. (and_parts (nat_le 0 (number_after 0 text)) (nat_le (number_after 0 text) high) ((and_parts (is_number text) (nat_le 0 (number_after 0 text) && nat_le (number_after 0 text) high) h).1)).1))
]

-- a whole number is in its range
whole_kept : (low : ℕ) (d : Data) → IfSome (whole_from low d) (λ n. is_from low n ≡ true)
whole_kept low d = found_next (λ _. ⊤) (λ n. is_from low n ≡ true) (in_range low) (option_and_then as_u64 (as_number d)) (any_found (option_and_then as_u64 (as_number d))) (λ n _. found_if (λ m. is_from low m ≡ true) (is_from low n) n (λ h. h))

name_kept : (d : Data) → IfSome (option_and_then rule_name (as_str d)) (λ name. is_rule_name name ≡ true)
name_kept d = found_next (λ _. ⊤) (λ name. is_rule_name name ≡ true) rule_name (as_str d) (any_found (as_str d)) (λ text _. found_if (λ name. is_rule_name name ≡ true) (is_rule_name text) text (λ h. h))

-- ---- Calls

call_number_kept : (name : List ℕ) → IfSome (call_number_of name) (λ nr. is_among named_calls nr ≡ true)
call_number_kept name =
    let found = find (λ row. bytes_eq row.1 name) calls in
    found_mapped (λ n. is_among named_calls (pos n) ≡ true) (λ nr. is_among named_calls nr ≡ true) pos (option_map (λ row. row.0) found)
    (found_mapped (λ row. is_among named_calls (pos row.0) ≡ true) (λ n. is_among named_calls (pos n) ≡ true) (λ row. row.0) found (find_passes (λ row. is_among named_calls (pos row.0)) (λ row. bytes_eq row.1 name) calls refl) (λ row h. h))
    (λ n h. h)

call_kept : (d : Data) → IfSome (call_of d) (λ nr. is_among named_calls nr ≡ true)
call_kept d = found_next (λ _. ⊤) (λ nr. is_among named_calls nr ≡ true) call_number_of (as_str d) (any_found (as_str d)) (λ name _. call_number_kept name)

-- a list that something was put to is filled
filled_push : (found : List ℤ) (nr : ℤ) → is_filled (found ++ nr ∷ []) ≡ true
filled_push [] nr = refl
filled_push (x ∷ found) nr = refl

-- more items after calls that are named
more_calls : (n : ℕ) (ds : Items) (found : List ℤ) → are_named found ≡ true → IfOk (walk_items (listed_call n) found ds) (λ nrs. are_named nrs ≡ true)
more_calls n = items_keep (λ nrs. are_named nrs ≡ true) (listed_call n) (λ found d h. good_keeps (λ nr. are_named (found ++ nr ∷ []) ≡ true) (call_place n (length found)) (call_of d) (next_named found (call_of d) h (call_kept d)))
  where
    next_named : (found : List ℤ) (nr : Option ℤ) → are_named found ≡ true → IfSome nr (λ x. is_among named_calls x ≡ true) → IfSome nr (λ x. are_named (found ++ x ∷ []) ≡ true)
    next_named found (Some x) h k = and_from (is_filled (found ++ x ∷ [])) (list_all (is_among named_calls) (found ++ x ∷ [])) (filled_push found x) (all_push (is_among named_calls) found x ((and_parts (is_filled found) (list_all (is_among named_calls) found) h).1) k)
    next_named found None h k = tt

listed_kept : (n : ℕ) (ds : Items) → IfOk (listed_calls n ds) (λ nrs. are_named nrs ≡ true)
listed_kept n no_items = tt
listed_kept n (item d ds) = elim (cases_Bool (items_len (item d ds) == 0)) [
  | inl t ↦ rw t tt
  | inr f ↦ rw f (next_keeps (λ nr. is_among named_calls nr ≡ true) (λ nrs. are_named nrs ≡ true) (listed_call n [] d) (λ nr. walk_items (listed_call n) (nr ∷ []) ds) (good_keeps (λ nr. is_among named_calls nr ≡ true) (call_place n 0) (call_of d) (call_kept d)) (λ nr h. more_calls n ds (nr ∷ []) (rw h refl)))
]

calls_kept : (n : ℕ) (d : Data) → IfOk (calls_of n d) (λ nrs. are_named nrs ≡ true)
calls_kept n (string name) = next_keeps (λ nr. is_among named_calls nr ≡ true) (λ nrs. are_named nrs ≡ true) (good (rule_place n (codes ".call")) (call_number_of name)) (λ nr. Ok (nr ∷ [])) (good_keeps (λ nr. is_among named_calls nr ≡ true) (rule_place n (codes ".call")) (call_number_of name) (call_number_kept name)) (λ nr h. rw h refl)
calls_kept n (array ds) = listed_kept n ds
calls_kept n null = tt
calls_kept n (boolean b) = tt
calls_kept n (number x) = tt
calls_kept n (object ms) = tt

-- ---- Conditions

-- a condition that a rule states
is_stated : Cond → Bool
is_stated c = is_condition c && not (is_plain_flags c)

device_kept : (major minor : Option ℕ) → IfSome major (λ n. nat_le n major_max ≡ true) → IfSome minor (λ n. nat_le n minor_max ≡ true) → IfSome (device_condition major minor) (λ c. is_stated c ≡ true)
unfolding is_stated
device_kept (Some major) (Some minor) h k = rw (h, k) refl
device_kept (Some major) None h k = tt
device_kept None minor h k = tt

parts_kept : (parts : List ℕ × Option (List ℕ)) → IfSome (device_parts parts) (λ c. is_stated c ≡ true)
parts_kept (major, None) = tt
parts_kept (major, Some minor) = device_kept (decimal_up_to major_max major) (decimal_up_to minor_max minor) (decimal_kept major_max major) (decimal_kept minor_max minor)

text_kept : (key : TextKey) (text : List ℕ) → IfSome (condition_of key text) (λ c. is_stated c ≡ true)
unfolding is_stated
text_kept text_key.Dev text = parts_kept (cut_at 58 text)
text_kept text_key.Fstype text = refl
text_kept text_key.Kind text = found_mapped (λ kind. is_node_kind kind ≡ true) (λ c. is_stated c ≡ true) OfKind (named kinds text) (named_passes is_node_kind kinds text refl) (λ kind h. rw h refl)
text_kept text_key.Name text = refl
text_kept text_key.Path text = refl
text_kept text_key.Source text = refl
text_kept text_key.Under text = found_if (λ c. is_stated c ≡ true) (is_condition (Under text)) (Under text) (λ h. rw h refl)
text_kept text_key.Value text = refl

flags_kept : (n : ℕ) (d : Data) → IfOk (flags_of n d) (λ c. is_stated c ≡ true)
unfolding is_stated
flags_kept n d = next_keeps (λ _. ⊤) (λ c. is_stated c ≡ true) (good (rule_place n (codes ".when.flags")) (as_object d)) (λ ms. and_then (walk (flags_member n) ms no_flags) (λ s. Ok (Flags s.all s.none))) (anything (good (rule_place n (codes ".when.flags")) (as_object d)))
    (λ ms _. next_keeps (λ _. ⊤) (λ c. is_stated c ≡ true) (walk (flags_member n) ms no_flags) (λ s. Ok (Flags s.all s.none)) (anything (walk (flags_member n) ms no_flags)) (λ s _. refl))

key_kept : (n : ℕ) (key : Option CondKey) (name : List ℕ) (d : Data) → IfOk (condition_at n key name d) (λ c. is_stated c ≡ true)
unfolding is_stated
key_kept n None name d = tt
key_kept n (Some (cond_key.Text key)) name d = good_keeps (λ c. is_stated c ≡ true) (rule_place n (codes ".when." ++ name)) (option_and_then (condition_of key) (as_str d)) (found_next (λ _. ⊤) (λ c. is_stated c ≡ true) (condition_of key) (as_str d) (any_found (as_str d)) (λ text _. text_kept key text))
key_kept n (Some cond_key.Dirfd) name d = good_keeps (λ c. is_stated c ≡ true) (rule_place n (codes ".when." ++ name)) (option_map Dirfd (descriptor_of d)) (found_mapped (λ _. ⊤) (λ c. is_stated c ≡ true) Dirfd (descriptor_of d) (any_found (descriptor_of d)) (λ number _. refl))
key_kept n (Some cond_key.Flags) name d = flags_kept n d

conditions_kept : (profile : Profile) (n : ℕ) (d : Data) → IfOk (conditions_of profile n d) (λ conds. list_all is_stated conds ≡ true)
conditions_kept profile n d = next_keeps (λ _. ⊤) (λ conds. list_all is_stated conds ≡ true) (good (rule_place n (codes ".when")) (as_object d)) (λ ms. walk (condition_member profile n) ms []) (anything (good (rule_place n (codes ".when")) (as_object d)))
    (λ ms _. walk_keeps (λ conds. list_all is_stated conds ≡ true) (condition_member profile n)
    (λ name d conds h. next_keeps (λ c. is_stated c ≡ true) (λ conds. list_all is_stated conds ≡ true) (condition profile n name d) (λ c. Ok (conds ++ c ∷ [])) (key_kept n (condition_key profile name) name d) (λ c k. all_push is_stated conds c h k))
    ms [] refl)

-- ---- Answers

record IsAnswerOf (a : Answer) : Type 0 where
  at : IfSome a.at (λ n. is_from 0 n ≡ true)
  deny : IfSome a.deny (λ n. is_some (errno_name n) ≡ true)
  inject : IfSome a.inject (λ n. is_from 0 n ≡ true)

errno_kept : (d : Data) → IfSome (option_and_then errno_of_name (as_str d)) (λ n. is_some (errno_name n) ≡ true)
errno_kept d = found_next (λ _. ⊤) (λ n. is_some (errno_name n) ≡ true) errno_of_name (as_str d) (any_found (as_str d))
    (λ name _. found_mapped (λ row. is_some (errno_name row.0) ≡ true) (λ n. is_some (errno_name n) ≡ true) (λ row. row.0) (find (λ row. bytes_eq row.1 name) errnos) (find_passes (λ row. is_some (errno_name row.0)) (λ row. bytes_eq row.1 name) errnos refl) (λ row h. h))

answer_kept : (n : ℕ) (key : Option AnswerKey) (name : List ℕ) (d : Data) (a : Answer) → IsAnswerOf a → IfOk (answer_at n key name d a) IsAnswerOf
answer_kept n None name d a h = tt
answer_kept n (Some answer_key.At) name d a h = next_keeps (λ m. is_from 0 m ≡ true) IsAnswerOf (good (rule_place n (codes ".then.at")) (whole_from 0 d)) (λ m. Ok (record a { at = Some m })) (good_keeps (λ m. is_from 0 m ≡ true) (rule_place n (codes ".then.at")) (whole_from 0 d) (whole_kept 0 d)) (λ m k. record { at = k; deny = h.deny; inject = h.inject })
answer_kept n (Some answer_key.Deny) name d a h = next_keeps (λ m. is_some (errno_name m) ≡ true) IsAnswerOf (good (rule_place n (codes ".then.deny")) (option_and_then errno_of_name (as_str d))) (λ m. Ok (record a { deny = Some m })) (good_keeps (λ m. is_some (errno_name m) ≡ true) (rule_place n (codes ".then.deny")) (option_and_then errno_of_name (as_str d)) (errno_kept d)) (λ m k. record { at = h.at; deny = k; inject = h.inject })
answer_kept n (Some answer_key.Inject) name d a h = next_keeps (λ m. is_from 0 m ≡ true) IsAnswerOf (good (rule_place n (codes ".then.inject")) (whole_from 0 d)) (λ m. Ok (record a { inject = Some m })) (good_keeps (λ m. is_from 0 m ≡ true) (rule_place n (codes ".then.inject")) (whole_from 0 d) (whole_kept 0 d)) (λ m k. record { at = h.at; deny = h.deny; inject = k })

at_kept : (at : Option ℕ) → IfSome at (λ n. is_from 0 n ≡ true) → is_from_if_some 0 at ≡ true
at_kept (Some n) h = h
at_kept None h = refl

from_kept : (deny inject at : Option ℕ) → IfSome deny (λ n. is_some (errno_name n) ≡ true) → IfSome inject (λ n. is_from 0 n ≡ true) → IfSome at (λ n. is_from 0 n ≡ true) → IfSome (verdict_from deny inject at) (λ v. is_answer v ≡ true)
from_kept (Some error) None None h k l = h
from_kept None (Some src) at h k l = and_from (is_from 0 src) (is_from_if_some 0 at) k (at_kept at l)
from_kept None None at h k l = tt
from_kept (Some error) (Some src) at h k l = tt
from_kept (Some error) None (Some n) h k l = tt

verdict_kept : (n : ℕ) (d : Data) → IfOk (verdict_of n d) (λ v. is_answer v ≡ true)
verdict_kept n (string text) = good_keeps (λ v. is_answer v ≡ true) (rule_place n (codes ".then")) (named verdict_words text) (named_passes is_answer verdict_words text refl)
verdict_kept n (object ms) = next_keeps IsAnswerOf (λ v. is_answer v ≡ true) (walk (answer_member n) ms no_answer) (λ a. good (rule_place n (codes ".then")) (verdict_from a.deny a.inject a.at)) (walk_keeps IsAnswerOf (answer_member n) (λ name d a h. answer_kept n (named answer_keys name) name d a h) ms no_answer (record { at = tt; deny = tt; inject = tt })) (λ a h. good_keeps (λ v. is_answer v ≡ true) (rule_place n (codes ".then")) (verdict_from a.deny a.inject a.at) (from_kept a.deny a.inject a.at h.deny h.inject h.at))
verdict_kept n null = tt
verdict_kept n (boolean b) = tt
verdict_kept n (number x) = tt
verdict_kept n (array ds) = tt

-- ---- What the keys of a rule state

record AreKeys (s : Stated) : Type 0 where
  name : IfSome s.name (λ name. is_rule_name name ≡ true)
  calls : IfSome s.calls (λ nrs. are_named nrs ≡ true)
  conds : list_all is_stated s.conds ≡ true
  verdict : IfSome s.verdict (λ v. is_answer v ≡ true)
  times : IfSome s.times (λ n. is_from 1 n ≡ true)

state_kept : (profile : Profile) (n : ℕ) (key : Option RuleKey) (name : List ℕ) (d : Data) (s : Stated) → AreKeys s → IfOk (state profile n key name d s) AreKeys
state_kept profile n None name d s h = tt
state_kept profile n (Some rule_key.Call) name d s h = next_keeps (λ nrs. are_named nrs ≡ true) AreKeys (calls_of n d) (λ nrs. Ok (record s { calls = Some nrs })) (calls_kept n d) (λ nrs k. record { name = h.name; calls = k; conds = h.conds; verdict = h.verdict; times = h.times })
state_kept profile n (Some rule_key.Name) name d s h = next_keeps (λ text. is_rule_name text ≡ true) AreKeys (good (rule_place n (codes ".name")) (option_and_then rule_name (as_str d))) (λ text. Ok (record s { name = Some text })) (good_keeps (λ text. is_rule_name text ≡ true) (rule_place n (codes ".name")) (option_and_then rule_name (as_str d)) (name_kept d)) (λ text k. record { name = k; calls = h.calls; conds = h.conds; verdict = h.verdict; times = h.times })
state_kept profile n (Some rule_key.Then) name d s h = next_keeps (λ v. is_answer v ≡ true) AreKeys (verdict_of n d) (λ v. Ok (record s { verdict = Some v })) (verdict_kept n d) (λ v k. record { name = h.name; calls = h.calls; conds = h.conds; verdict = k; times = h.times })
state_kept profile n (Some rule_key.Times) name d s h = next_keeps (λ m. is_from 1 m ≡ true) AreKeys (good (rule_place n (codes ".times")) (whole_from 1 d)) (λ m. Ok (record s { times = Some m })) (good_keeps (λ m. is_from 1 m ≡ true) (rule_place n (codes ".times")) (whole_from 1 d) (whole_kept 1 d)) (λ m k. record { name = h.name; calls = h.calls; conds = h.conds; verdict = h.verdict; times = k })
state_kept profile n (Some rule_key.When) name d s h = next_keeps (λ conds. list_all is_stated conds ≡ true) AreKeys (conditions_of profile n d) (λ conds. Ok (record s { conds = conds })) (conditions_kept profile n d) (λ conds k. record { name = h.name; calls = h.calls; conds = k; verdict = h.verdict; times = h.times })

-- ---- A rule

-- what the tests after the keys tell
record IsFaultless (nrs : List ℤ) (verdict : Verdict) (times : Option ℕ) (conds : List Cond) (used : Bool) : Type 0 where
  granted : list_all (may_answer verdict) nrs ≡ true
  limited : (is_some times && not (is_grant verdict)) ≡ false
  fitting : misfit nrs conds ≡ None
  new : used ≡ false

some-none : {A : Type 0} {B : Type 0} (x : A) → Some x ≡ None → B
some-none x e = absurd (both_ways (is_some (Some x)) (ap is_some e) refl)

no_misfit : (found : Option Cond) (used : Bool) → condition_fault found used ≡ None → (found ≡ None) × (used ≡ false)
no_misfit (Some c) used e = some-none _ e
no_misfit None true e = some-none _ e
no_misfit None false e = (refl, refl)

faultless : (nrs : List ℤ) (verdict : Verdict) (times : Option ℕ) (conds : List Cond) (used : Bool) → fault_of nrs verdict times conds used ≡ None → IsFaultless nrs verdict times conds used
faultless nrs verdict times conds used = by_tests (list_all (may_answer verdict) nrs) (is_some times && not (is_grant verdict)) (misfit nrs conds) refl refl refl
  where
    by_tests : (granted limited : Bool) (found : Option Cond) → list_all (may_answer verdict) nrs ≡ granted → (is_some times && not (is_grant verdict)) ≡ limited → misfit nrs conds ≡ found
        → (if not granted then Some (codes ".then") else (if limited then Some (codes ".times") else condition_fault found used)) ≡ None → IsFaultless nrs verdict times conds used
    by_tests false limited found g l m e = some-none _ e
    by_tests true true found g l m e = some-none _ e
    by_tests true false found g l m e = record { granted = g; limited = l; fitting = m ∙ (no_misfit found used e).0; new = (no_misfit found used e).1 }

-- where no condition is a misfit, each is for each call
all_fit : (nrs : List ℤ) (conds : List Cond) → misfit nrs conds ≡ None → list_all (λ c. list_all (is_for c) nrs) conds ≡ true
all_fit nrs [] e = refl
all_fit nrs (c ∷ conds) e = elim (cases_Bool (list_all (is_for c) nrs)) [
  | inl t ↦ rw t (all_fit nrs conds (rw t at e))
  | inr f ↦ some-none c (rw f at e)
]

plain_for_all : (nrs : List ℤ) → list_all (is_for PlainFlags) nrs ≡ true
plain_for_all [] = refl
plain_for_all (nr ∷ nrs) = plain_for_all nrs

stated_conditions : (conds : List Cond) → list_all is_stated conds ≡ true → (list_all is_condition conds ≡ true) × (list_any is_plain_flags conds ≡ false)
unfolding is_stated
stated_conditions [] h = (refl, refl)
stated_conditions (c ∷ conds) h =
    let parts = and_parts (is_condition c && not (is_plain_flags c)) (list_all is_stated conds) h in
    let here = and_parts (is_condition c) (not (is_plain_flags c)) parts.0 in
    let rest = stated_conditions conds parts.1 in
    (rw (here.0, rest.0) refl, rw (rest.1) (grind arith))

-- the conditions of a rule that is made of those that were stated
record AreOwnConditions (nrs : List ℤ) (verdict : Verdict) (conds : List Cond) : Type 0 where
  conditions : list_all is_condition conds ≡ true
  fitting : list_all (λ c. list_all (is_for c) nrs) conds ≡ true
  plain : list_any is_plain_flags conds ≡ grants_mount (Named nrs) verdict

own_kept : (nrs : List ℤ) (conds : List Cond) (verdict : Verdict) → list_all is_stated conds ≡ true → list_all (λ c. list_all (is_for c) nrs) conds ≡ true → AreOwnConditions nrs verdict (own_conditions nrs conds verdict)
own_kept nrs conds (Deny error) h k = record { conditions = (stated_conditions conds h).0; fitting = k; plain = (stated_conditions conds h).1 }
own_kept nrs conds Pass h k = record { conditions = (stated_conditions conds h).0; fitting = k; plain = (stated_conditions conds h).1 }
own_kept nrs conds (Inject src at) h k = record { conditions = (stated_conditions conds h).0; fitting = k; plain = (stated_conditions conds h).1 }
own_kept nrs conds Grant h k = elim (cases_Bool (is_among nrs (pos nr_mount))) [
  | inl t ↦ rw t (record {
    conditions = all_push is_condition conds PlainFlags ((stated_conditions conds h).0) refl;
    fitting = all_push (λ c. list_all (is_for c) nrs) conds PlainFlags k (plain_for_all nrs);
    plain = rw (list_any-append is_plain_flags conds (PlainFlags ∷ []), (stated_conditions conds h).1, t) refl;
  })
  | inr f ↦ rw f (record { conditions = (stated_conditions conds h).0; fitting = k; plain = rw f ((stated_conditions conds h).1) })
]

limit_kept : (verdict : Verdict) (times : Option ℕ) → (is_some times && not (is_grant verdict)) ≡ false → IfSome times (λ n. is_from 1 n ≡ true) → may_be_limited verdict times ≡ true
limit_kept verdict None h k = refl
limit_kept Grant (Some n) h k = k
limit_kept (Deny error) (Some n) h k = sym h
limit_kept Pass (Some n) h k = sym h
limit_kept (Inject src at) (Some n) h k = sym h

-- a rule and its name, which is not used before
IsNew : (List ℕ → Bool) → Rule → Type 0
IsNew used rule = IsOwnRule rule × (used rule.name ≡ false)

made_kept : (name : List ℕ) (nrs : List ℤ) (conds : List Cond) (verdict : Verdict) (times : Option ℕ) (used : List ℕ → Bool) → is_rule_name name ≡ true → are_named nrs ≡ true → list_all is_stated conds ≡ true → is_answer verdict ≡ true → IfSome times (λ n. is_from 1 n ≡ true)
    → IsFaultless nrs verdict times conds (used name) → IsNew used (own_rule name nrs conds verdict times)
unfolding IsNew
made_kept name nrs conds verdict times used n c s v t h =
    let own = own_kept nrs conds verdict s (all_fit nrs conds h.fitting) in
    (record { name = n; calls = c; granted = h.granted; answer = v; conditions = own.conditions; fitting = own.fitting; plain = own.plain; times = limit_kept verdict times h.limited t; via = refl; shift = refl }, h.new)

unless_kept : (n : ℕ) (fault : Option (List ℕ)) (rule : Rule) (P : Rule → Type 0) → (fault ≡ None → P rule) → IfOk (unless_faulty n fault rule) P
unless_kept n (Some rest) rule P h = tt
unless_kept n None rule P h = h refl

from_keys : (n : ℕ) (used : List ℕ → Bool) (s : Stated) → AreKeys s → IfOk (rule_from n used s) (IsNew used)
from_keys n used s h =
    next_keeps (λ name. is_rule_name name ≡ true) (IsNew used) (good (rule_place n (codes ".name")) s.name) _ (good_keeps (λ name. is_rule_name name ≡ true) (rule_place n (codes ".name")) s.name h.name) (λ name a.
    next_keeps (λ nrs. are_named nrs ≡ true) (IsNew used) (good (rule_place n (codes ".call")) s.calls) _ (good_keeps (λ nrs. are_named nrs ≡ true) (rule_place n (codes ".call")) s.calls h.calls) (λ nrs b.
    next_keeps (λ v. is_answer v ≡ true) (IsNew used) (good (rule_place n (codes ".then")) s.verdict) _ (good_keeps (λ v. is_answer v ≡ true) (rule_place n (codes ".then")) s.verdict h.verdict) (λ v c.
    unless_kept n (fault_of nrs v s.times s.conds (used name)) (own_rule name nrs s.conds v s.times) (IsNew used) (λ e. made_kept name nrs s.conds v s.times used a b h.conds c h.times (faultless nrs v s.times s.conds (used name) e)))))

rule_kept : (format : Format) (n : ℕ) (used : List ℕ → Bool) (d : Data) → IfOk (rule_at format n used d) (IsNew used)
rule_kept format n used d = next_keeps (λ _. ⊤) (IsNew used) (good (rule_place n []) (as_object d)) (λ ms. and_then (walk (rule_member format n) ms nothing_stated) (rule_from n used)) (anything (good (rule_place n []) (as_object d)))
    (λ ms _. next_keeps AreKeys (IsNew used) (walk (rule_member format n) ms nothing_stated) (rule_from n used)
    (walk_keeps AreKeys (rule_member format n) (λ name d s h. state_kept format.profile n (in_version format.version (named rule_keys name)) name d s h) ms nothing_stated (record { name = tt; calls = tt; conds = refl; verdict = tt; times = tt }))
    (λ s h. from_keys n used s h))

-- ---- The rules of an array

record AreNewRules (found : List Rule) : Type 0 where
  rules : All IsOwnRule found
  names : named_once (λ (rule : Rule). rule.name) found ≡ true

pushed : (found : List Rule) (r : Reading Rule) → AreNewRules found → IfOk r (IsNew (is_used found)) → IfOk r (λ rule. AreNewRules (found ++ rule ∷ []))
unfolding IsNew
pushed found (Ok rule) h k = record { rules = All-push IsOwnRule found rule h.rules k.0; names = once_push (λ (rule : Rule). rule.name) found rule h.names k.1 }
pushed found (Err e) h k = tt

both : {A : Type 0} (P Q : A → Type 0) (r : Reading A) → IfOk r P → IfOk r Q → IfOk r (λ x. P x × Q x)
both P Q (Ok x) p q = (p, q)
both P Q (Err e) p q = tt

weaker : {A : Type 0} (P Q : A → Type 0) (r : Reading A) → IfOk r P → ((x : A) → P x → Q x) → IfOk r Q
weaker P Q (Ok x) p step = step x p
weaker P Q (Err e) p step = tt

one_more : {A : Type 0} (found : List A) (x : A) (n len : ℕ) → len ≡ length (found ++ x ∷ []) + n → len ≡ length found + suc n
one_more found x n len e = grind (arith, length-append)

-- as many things are read as there are items
counted : {A : Type 0} (read : List A → Data → Reading A) (ds : Items) (found : List A) → IfOk (walk_items read found ds) (λ xs. length xs ≡ length found + items_len ds)
counted read no_items found = omega arith
counted read (item d ds) found = next_keeps (λ _. ⊤) (λ xs. length xs ≡ length found + suc (items_len ds)) (read found d) (λ x. walk_items read (found ++ x ∷ []) ds) (anything (read found d))
    (λ x _. weaker (λ xs. length xs ≡ length (found ++ x ∷ []) + items_len ds) (λ xs. length xs ≡ length found + suc (items_len ds)) (walk_items read (found ++ x ∷ []) ds) (counted read ds (found ++ x ∷ [])) (λ xs e. one_more found x (items_len ds) (length xs) e))

few_rules : (format : Format) (ds : Items) → items_len ds ≤ 1024 → IfOk (walk_items (rule_of format) [] ds) AreOwnRules
few_rules format ds few = weaker (λ xs. AreNewRules xs × (length xs ≡ 0 + items_len ds)) AreOwnRules (walk_items (rule_of format) [] ds)
    (both AreNewRules (λ xs. length xs ≡ 0 + items_len ds) (walk_items (rule_of format) [] ds)
    (items_keep AreNewRules (rule_of format) (λ found d h. pushed found (rule_of format found d) h (rule_kept format (length found) (is_used found) d)) ds [] (record { rules = All-nil IsOwnRule; names = refl }))
    (counted (rule_of format) ds []))
    (λ xs h. record { number = omega (arith, h.1); rules = h.0.rules; names = h.0.names })

in_kept : (format : Format) (ds : Items) → IfOk (rules_in format ds) AreOwnRules
in_kept format ds = elim (cases_Bool (nat_lt 1024 (items_len ds))) [
  | inl t ↦ rw t tt
  | inr f ↦ rw f (few_rules format ds (grind (arith, nat_tests)))
]

pub rules_kept : (format : Format) (d : Data) → IfOk (rules_of format d) AreOwnRules
rules_kept format d = next_keeps (λ _. ⊤) AreOwnRules (good (codes "rules") (as_array d)) (rules_in format) (anything (good (codes "rules") (as_array d))) (λ ds _. in_kept format ds)
