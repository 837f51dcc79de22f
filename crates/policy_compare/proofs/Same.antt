-- Answers that pass the test of `is_same` are one, and each passes it with itself.
-- By cases on the verdicts, and by what the tests of numbers and texts mean.
use Rattle.std.proofs.Common.{◌≡◌, ℕ, Bool, true, false, ◌&&◌, List, Option, Some, None, refl, ap}
use Rattle.std.specs.Bool.{beq}
use Rattle.std.specs.Option.{option_eq}
use Rattle.std.specs.Prelude.{◌==◌, bytes_eq, nat_eq}
use Rattle.std.proofs.lemmas.Bool.{and_parts, eq-eqb, eqb-true}
use Rattle.std.proofs.lemmas.Slice.Eq.{bytes_eq-Decides}
use Rattle.hist_model.specs.declared.policy.Verdict.{Verdict}
use Rattle.hist_model.specs.declared.policy.Verdict.TheVariants.{Grant, Deny, Pass, Inject}
use Rattle.policy_compare.specs.Answers.{Answer, is_same, is_same_once, verdict_eq}

same_number : (m n : Option ℕ) → option_eq nat_eq m n ≡ true → m ≡ n
same_number None None h = refl
same_number None (Some n) h = cc
same_number (Some m) None h = cc
same_number (Some m) (Some n) h = ap Some (eqb-true m n h)

same_bool : (a b : Bool) → beq a b ≡ true → a ≡ b
same_bool true true h = refl
same_bool true false h = cc
same_bool false true h = cc
same_bool false false h = refl

same_verdict : (a b : Verdict) → verdict_eq a b ≡ true → a ≡ b
same_verdict Grant Grant h = refl
same_verdict Grant (Deny f) h = cc
same_verdict Grant Pass h = cc
same_verdict Grant (Inject t y) h = cc
same_verdict (Deny e) Grant h = cc
same_verdict (Deny e) (Deny f) h = ap Deny (eqb-true e f h)
same_verdict (Deny e) Pass h = cc
same_verdict (Deny e) (Inject t y) h = cc
same_verdict Pass Grant h = cc
same_verdict Pass (Deny f) h = cc
same_verdict Pass Pass h = refl
same_verdict Pass (Inject t y) h = cc
same_verdict (Inject s x) Grant h = cc
same_verdict (Inject s x) (Deny f) h = cc
same_verdict (Inject s x) Pass h = cc
same_verdict (Inject s x) (Inject t y) h =
    let p = and_parts (s == t) (option_eq nat_eq x y) h in
    let src : s ≡ t = eqb-true s t p.0 in
    let at : x ≡ y = same_number x y p.1 in
    cc

abbrev made : Verdict → List ℕ → Bool → Option ℕ → Answer
made v via shift times = record { verdict = v; via = via; shift = shift; times = times }

-- answers of the same parts
same_made : (v w : Verdict) (x y : List ℕ) (s t : Bool) (m n : Option ℕ) → v ≡ w → x ≡ y → s ≡ t → m ≡ n → made v x s m ≡ made w y t n
same_made v w x y s t m n a b c d = cc

pub same_answer : (a b : Answer) → is_same a b ≡ true → a ≡ b
same_answer a b h =
    let p = and_parts (is_same_once a b) (option_eq nat_eq a.times b.times) h in
    let q = and_parts (verdict_eq a.verdict b.verdict && bytes_eq a.via b.via) (beq a.shift b.shift) p.0 in
    let r = and_parts (verdict_eq a.verdict b.verdict) (bytes_eq a.via b.via) q.0 in
    same_made a.verdict b.verdict a.via b.via a.shift b.shift a.times b.times (same_verdict a.verdict b.verdict r.0)
    ((bytes_eq-Decides a.via b.via).0 r.1) (same_bool a.shift b.shift q.1) (same_number a.times b.times p.1)

-- ---- an answer is the same as itself

pub both : (a b : Bool) → a ≡ true → b ≡ true → (a && b) ≡ true
both true true h g = refl
both true false h g = g
both false b h g = h

number_itself : (n : Option ℕ) → option_eq nat_eq n n ≡ true
number_itself None = refl
number_itself (Some n) = eq-eqb n n refl

bool_itself : (b : Bool) → beq b b ≡ true
bool_itself true = refl
bool_itself false = refl

verdict_itself : (v : Verdict) → verdict_eq v v ≡ true
verdict_itself Grant = refl
verdict_itself (Deny e) = eq-eqb e e refl
verdict_itself Pass = refl
verdict_itself (Inject s x) = both (s == s) (option_eq nat_eq x x) (eq-eqb s s refl) (number_itself x)

pub same_itself : (a : Answer) → is_same a a ≡ true
same_itself a =
    both (verdict_eq a.verdict a.verdict && bytes_eq a.via a.via && beq a.shift a.shift) (option_eq nat_eq a.times a.times)
    (both (verdict_eq a.verdict a.verdict && bytes_eq a.via a.via) (beq a.shift a.shift)
    (both (verdict_eq a.verdict a.verdict) (bytes_eq a.via a.via) (verdict_itself a.verdict) ((bytes_eq-Decides a.via a.via).1 refl)) (bool_itself a.shift))
    (number_itself a.times)
