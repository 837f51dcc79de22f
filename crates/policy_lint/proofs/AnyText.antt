-- The rules that are left if the texts may be any deny each call of which other texts are denied.
-- By the first rule that fits the other call: it is left and denies, and those before it that are left fit neither call, or deny too.
use Rattle.std.proofs.Common.{◌≡◌, ℕ, ◌+◌, Bool, true, false, ◌&&◌, ◌||◌, List, [], ◌∷◌, map, Option, Some, None, ℤ, refl, ap, ◌∙◌}
use Rattle.std.specs.Prelude.{if◌then◌else◌}
use Rattle.std.specs.List.{list_all, list_any}
use Rattle.hist_model.specs.Decisions.{covers, decide, decide_from, fits, meets}
use Rattle.hist_model.specs.Requests.{call_of_request}
use Rattle.hist_model.specs.declared.policy.Cond.{Cond}
use Rattle.hist_model.specs.declared.policy.Cond.TheVariants.{Path, Under, Kind, Dev, Fstype, Source, Name, Value}
use Rattle.hist_model.specs.declared.policy.Cond.TheVariants.{Dirfd, Flags, ShortDevice, PlainFlags}
use Rattle.hist_model.specs.declared.policy.Rule.{Rule}
use Rattle.hist_model.specs.declared.policy.Verdict.{Verdict}
use Rattle.hist_model.specs.declared.policy.Verdict.TheVariants.{Grant, Deny, Pass, Inject}
use Rattle.hist_model.specs.declared.request.Request.{Request}
use Rattle.hist_model.specs.declared.request.Request.TheVariants.{Mknod, Mount, SetXattr, OpenAt}
use Rattle.policy_lint.specs.Passed.{HaveSameRegisters, calls_unless, cond_of_any_text, denies, is_on_text, not_denies, of_any_text, rule_of_any_text}

-- ---- calls with the same registers

same_call : (q r : Request) → HaveSameRegisters q r → call_of_request q ≡ call_of_request r
same_call (Mknod None p m d) (Mknod None p' m' d') h = refl
same_call (Mknod (Some f) p m d) (Mknod (Some f') p' m' d') h = refl
same_call (Mount s t y o v n b) (Mount s' t' y' o' v' n' b') h = refl
same_call (SetXattr p a v n) (SetXattr p' a' v' n') h = refl
same_call (OpenAt d p n) (OpenAt d' p' n') h = refl
same_call q r h = absurd h

-- what stays of a condition sees no text
node_seen : (c : Cond) (o : Option ℤ) (p p' : List ℕ) (m d : ℕ) → meets (cond_of_any_text c) (Mknod o p m d) ≡ meets (cond_of_any_text c) (Mknod o p' m d)
node_seen (Path t) o p p' m d = refl
node_seen (Under t) o p p' m d = refl
node_seen (Kind k) o p p' m d = refl
node_seen (Dev a b) o p p' m d = refl
node_seen (Fstype t) o p p' m d = refl
node_seen (Source t) o p p' m d = refl
node_seen (Name t) o p p' m d = refl
node_seen (Value t) o p p' m d = refl
node_seen (Dirfd n) o p p' m d = refl
node_seen (Flags a n) o p p' m d = refl
node_seen ShortDevice o p p' m d = refl
node_seen PlainFlags o p p' m d = refl

mount_seen : (c : Cond) (s s' t t' y y' o o' v v' : List ℕ) (n : ℕ) (b b' : Bool)
    → meets (cond_of_any_text c) (Mount s t y o v n b) ≡ meets (cond_of_any_text c) (Mount s' t' y' o' v' n b')
mount_seen (Path x) s s' t t' y y' o o' v v' n b b' = refl
mount_seen (Under x) s s' t t' y y' o o' v v' n b b' = refl
mount_seen (Kind k) s s' t t' y y' o o' v v' n b b' = refl
mount_seen (Dev i j) s s' t t' y y' o o' v v' n b b' = refl
mount_seen (Fstype x) s s' t t' y y' o o' v v' n b b' = refl
mount_seen (Source x) s s' t t' y y' o o' v v' n b b' = refl
mount_seen (Name x) s s' t t' y y' o o' v v' n b b' = refl
mount_seen (Value x) s s' t t' y y' o o' v v' n b b' = refl
mount_seen (Dirfd i) s s' t t' y y' o o' v v' n b b' = refl
mount_seen (Flags i j) s s' t t' y y' o o' v v' n b b' = refl
mount_seen ShortDevice s s' t t' y y' o o' v v' n b b' = refl
mount_seen PlainFlags s s' t t' y y' o o' v v' n b b' = refl

attribute_seen : (c : Cond) (p p' a a' v v' : List ℕ) (n : ℕ) → meets (cond_of_any_text c) (SetXattr p a v n) ≡ meets (cond_of_any_text c) (SetXattr p' a' v' n)
attribute_seen (Path x) p p' a a' v v' n = refl
attribute_seen (Under x) p p' a a' v v' n = refl
attribute_seen (Kind k) p p' a a' v v' n = refl
attribute_seen (Dev i j) p p' a a' v v' n = refl
attribute_seen (Fstype x) p p' a a' v v' n = refl
attribute_seen (Source x) p p' a a' v v' n = refl
attribute_seen (Name x) p p' a a' v v' n = refl
attribute_seen (Value x) p p' a a' v v' n = refl
attribute_seen (Dirfd i) p p' a a' v v' n = refl
attribute_seen (Flags i j) p p' a a' v v' n = refl
attribute_seen ShortDevice p p' a a' v v' n = refl
attribute_seen PlainFlags p p' a a' v v' n = refl

file_seen : (c : Cond) (d : ℤ) (p p' : List ℕ) (n : ℕ) → meets (cond_of_any_text c) (OpenAt d p n) ≡ meets (cond_of_any_text c) (OpenAt d p' n)
file_seen (Path x) d p p' n = refl
file_seen (Under x) d p p' n = refl
file_seen (Kind k) d p p' n = refl
file_seen (Dev i j) d p p' n = refl
file_seen (Fstype x) d p p' n = refl
file_seen (Source x) d p p' n = refl
file_seen (Name x) d p p' n = refl
file_seen (Value x) d p p' n = refl
file_seen (Dirfd i) d p p' n = refl
file_seen (Flags i j) d p p' n = refl
file_seen ShortDevice d p p' n = refl
file_seen PlainFlags d p p' n = refl

same_seen : (c : Cond) (q r : Request) → HaveSameRegisters q r → meets (cond_of_any_text c) q ≡ meets (cond_of_any_text c) r
same_seen c (Mknod None p m d) (Mknod None p' m' d') (em, ed) =
    node_seen c None p p' m d ∙ ap (λ x. meets (cond_of_any_text c) (Mknod None p' x d)) em ∙ ap (λ x. meets (cond_of_any_text c) (Mknod None p' m' x)) ed
same_seen c (Mknod (Some f) p m d) (Mknod (Some f') p' m' d') (ef, em, ed) =
    node_seen c (Some f) p p' m d ∙ ap (λ x. meets (cond_of_any_text c) (Mknod (Some x) p' m d)) ef
    ∙ ap (λ x. meets (cond_of_any_text c) (Mknod (Some f') p' x d)) em ∙ ap (λ x. meets (cond_of_any_text c) (Mknod (Some f') p' m' x)) ed
same_seen c (Mount s t y o v n b) (Mount s' t' y' o' v' n' b') e =
    mount_seen c s s' t t' y y' o o' v v' n b b' ∙ ap (λ x. meets (cond_of_any_text c) (Mount s' t' y' o' v' x b')) e
same_seen c (SetXattr p a v n) (SetXattr p' a' v' n') h =
    attribute_seen c p p' a a' v v' n ∙ ap (λ x. meets (cond_of_any_text c) (SetXattr p' a' v' x)) h.0
same_seen c (OpenAt d p n) (OpenAt d' p' n') (ed, en) =
    file_seen c d p p' n ∙ ap (λ x. meets (cond_of_any_text c) (OpenAt x p' n)) ed ∙ ap (λ x. meets (cond_of_any_text c) (OpenAt d' p' x)) en
same_seen c q r h = absurd h

-- ---- conditions

-- what stays is met where the condition is
stays_met : (c : Cond) (r : Request) → meets c r ≡ true → meets (cond_of_any_text c) r ≡ true
stays_met (Path t) r h = refl
stays_met (Under t) r h = refl
stays_met (Kind k) r h = h
stays_met (Dev a b) r h = h
stays_met (Fstype t) r h = refl
stays_met (Source t) r h = refl
stays_met (Name t) r h = refl
stays_met (Value t) r h = refl
stays_met (Dirfd n) r h = h
stays_met (Flags a n) r h = h
stays_met ShortDevice r h = h
stays_met PlainFlags r h = h

-- a condition that looks at no text stays
stays : (c : Cond) (r : Request) → is_on_text c ≡ false → meets (cond_of_any_text c) r ≡ meets c r
stays (Path t) r h = cc
stays (Under t) r h = cc
stays (Kind k) r h = refl
stays (Dev a b) r h = refl
stays (Fstype t) r h = cc
stays (Source t) r h = cc
stays (Name t) r h = cc
stays (Value t) r h = cc
stays (Dirfd n) r h = refl
stays (Flags a n) r h = refl
stays ShortDevice r h = refl
stays PlainFlags r h = refl

module _ (q r : Request) (same : HaveSameRegisters q r) where
  all_stay_met : (cs : List Cond) → list_all (λ c. meets c r) cs ≡ true → list_all (λ c. meets c q) (map cond_of_any_text cs) ≡ true
  all_stay_met [] h = refl
  all_stay_met (c ∷ cs) h = by (meets c r) refl h (all_stay_met cs)
    where
      by : (b : Bool) → meets c r ≡ b → (b && list_all (λ x. meets x r) cs) ≡ true
          → (list_all (λ x. meets x r) cs ≡ true → list_all (λ x. meets x q) (map cond_of_any_text cs) ≡ true)
          → (meets (cond_of_any_text c) q && list_all (λ x. meets x q) (map cond_of_any_text cs)) ≡ true
      by true e g rest = rw (same_seen c q r same ∙ stays_met c r e) (rest g)
      by false e g rest = cc

  all_stay : (cs : List Cond) → list_any is_on_text cs ≡ false → list_all (λ c. meets c q) (map cond_of_any_text cs) ≡ list_all (λ c. meets c r) cs
  all_stay [] h = refl
  all_stay (c ∷ cs) h = by (is_on_text c) refl h (all_stay cs)
    where
      by : (b : Bool) → is_on_text c ≡ b → (b || list_any is_on_text cs) ≡ false
          → (list_any is_on_text cs ≡ false → list_all (λ x. meets x q) (map cond_of_any_text cs) ≡ list_all (λ x. meets x r) cs)
          → (meets (cond_of_any_text c) q && list_all (λ x. meets x q) (map cond_of_any_text cs)) ≡ (meets c r && list_all (λ x. meets x r) cs)
      by true e g rest = cc
      by false e g rest = rw (same_seen c q r same ∙ stays c r e, rest g) refl

  -- ---- rules

  -- a rule that fits and denies is left, and fits
  fits_left : (rule : Rule) → fits rule r ≡ true → denies rule.verdict ≡ true → fits (rule_of_any_text rule) q ≡ true
  unfolding fits
  fits_left rule f d = by rule.verdict d (covers rule.calls (call_of_request r)) refl f
    where
      by : (v : Verdict) → denies v ≡ true → (b : Bool) → covers rule.calls (call_of_request r) ≡ b → (b && list_all (λ c. meets c r) rule.conds) ≡ true
          → (covers (calls_unless (list_any is_on_text rule.conds && not_denies v) rule.calls) (call_of_request q)
          && list_all (λ c. meets c q) (map cond_of_any_text rule.conds)) ≡ true
      by (Deny x) d true e g = kept (list_any is_on_text rule.conds)
        where
          kept : (t : Bool) → (covers (calls_unless (t && false) rule.calls) (call_of_request q)
              && list_all (λ c. meets c q) (map cond_of_any_text rule.conds)) ≡ true
          kept true = rw (same_call q r same, e) (all_stay_met rule.conds g)
          kept false = rw (same_call q r same, e) (all_stay_met rule.conds g)
      by (Deny x) d false e g = cc
      by Grant d b e g = cc
      by Pass d b e g = cc
      by (Inject s a) d b e g = cc

  -- one that doesn't fit fits neither call where it is left, or denies
  left_denies : (rule : Rule) → fits rule r ≡ false → fits (rule_of_any_text rule) q ≡ true → denies rule.verdict ≡ true
  unfolding fits
  left_denies rule f g = by rule.verdict (list_any is_on_text rule.conds) refl g
    where
      none : (v : Verdict) → list_any is_on_text rule.conds ≡ false
          → (covers rule.calls (call_of_request q) && list_all (λ c. meets c q) (map cond_of_any_text rule.conds)) ≡ true → denies v ≡ true
      none v e h =
          let same_conds = all_stay rule.conds e in
          let calls = same_call q r same in
          let so : (covers rule.calls (call_of_request q) && list_all (λ c. meets c q) (map cond_of_any_text rule.conds)) ≡ false =
          rw (same_conds, calls) f in cc

      by : (v : Verdict) (b : Bool) → list_any is_on_text rule.conds ≡ b
          → (covers (calls_unless (b && not_denies v) rule.calls) (call_of_request q) && list_all (λ c. meets c q) (map cond_of_any_text rule.conds)) ≡ true
          → denies v ≡ true
      by (Deny x) b e h = refl
      by Grant true e h = cc
      by Grant false e h = none Grant e h
      by Pass true e h = cc
      by Pass false e h = none Pass e h
      by (Inject s a) true e h = cc
      by (Inject s a) false e h = none (Inject s a) e h

  denied_from : (n : ℕ) (rules : List Rule) → denies (decide_from n rules r).1 ≡ true → denies (decide_from n (of_any_text rules) q).1 ≡ true
  unfolding decide_from
  denied_from n [] h = cc
  denied_from n (rule ∷ rules) h = by (fits rule r) refl (fits (rule_of_any_text rule) q) refl h (denied_from (n + 1) rules)
    where
      by : (b : Bool) → fits rule r ≡ b → (c : Bool) → fits (rule_of_any_text rule) q ≡ c
          → denies (if b then (n, rule.verdict) else decide_from (n + 1) rules r).1 ≡ true
          → (denies (decide_from (n + 1) rules r).1 ≡ true → denies (decide_from (n + 1) (of_any_text rules) q).1 ≡ true)
          → denies (if c then (n, rule.verdict) else decide_from (n + 1) (of_any_text rules) q).1 ≡ true
      by true f true g h rest = h
      by true f false g h rest = let so = fits_left rule f h in cc
      by false f true g h rest = left_denies rule f g
      by false f false g h rest = rest h

pub denied_of_any_text : (rules : List Rule) (q r : Request) → HaveSameRegisters q r → denies (decide rules r).1 ≡ true
    → denies (decide (of_any_text rules) q).1 ≡ true
unfolding decide
denied_of_any_text rules q r same h = denied_from q r same 0 rules h
