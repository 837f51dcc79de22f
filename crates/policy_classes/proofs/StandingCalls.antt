-- Rules are for a call where they are for the one that stands for it, and calls of one number have the same fields.
-- By cases on the numbers of the calls that have names.
use Rattle.std.proofs.Common.{◌≡◌, ℕ, suc, Bool, true, false, ◌&&◌, ◌||◌, List, [], ◌∷◌, Some, None, ℤ, pos, refl, ap, sym, ◌∙◌, arith}
use Rattle.std.specs.Prelude.{Contains, if◌then◌else◌}
use Rattle.std.specs.List.{list_all}
use Rattle.std.specs.Ordering.{int_eq}
use Rattle.std.proofs.lemmas.Bool.Decides.{Decides-int_eq}
use Rattle.hist_model.specs.Decisions.{covers, is_among, named_calls}
use Rattle.hist_model.specs.Requests.{call_of_request}
use Rattle.hist_model.specs.declared.policy.Calls.{Calls}
use Rattle.hist_model.specs.declared.policy.Calls.TheVariants.{Named, Other as OtherCalls}
use Rattle.hist_model.specs.declared.request.Request.{Request}
use Rattle.hist_model.specs.declared.request.Request.TheVariants.{Mknod, Mount, SetXattr, OpenAt, Sysinfo, Other}
use Rattle.policy_classes.specs.Asked.{IsCall}
use Rattle.policy_classes.specs.Plain.{AreKnown, standing_call, standing_calls}
use Rattle.policy_classes.proofs.Kept.{IsWitness}
use Rattle.policy_classes.proofs.Stands.{SameShape}
use Rattle.sys_abi.specs.Calls.{nr_sysinfo, nr_mknod, nr_mount, nr_setxattr, nr_openat, nr_mknodat}

same-int : (x y : ℤ) → int_eq x y ≡ true → x ≡ y
same-int x y h = grind (arith, Decides-int_eq)

-- a number that no name has is none of those that have names
not_among : (numbers : List ℤ) (nr : ℤ) → list_all (is_among named_calls) numbers ≡ true → is_among named_calls nr ≡ false → is_among numbers nr ≡ false
not_among [] nr h isnt = refl
not_among (n ∷ numbers) nr h isnt =
    by (int_eq n nr) refl (is_among named_calls n) refl h (λ g. not_among numbers nr g isnt)
  where
    by : (b : Bool) → int_eq n nr ≡ b → (known : Bool) → is_among named_calls n ≡ known → (known && list_all (is_among named_calls) numbers) ≡ true
        → (list_all (is_among named_calls) numbers ≡ true → is_among numbers nr ≡ false) → (b || is_among numbers nr) ≡ false
    by true e true k g rest = let same : is_among named_calls n ≡ is_among named_calls nr = ap (is_among named_calls) (same-int n nr e) in cc
    by false e true k g rest = rest g
    by b e false k g rest = cc

pub covers-standing : (calls : Calls) (nr : ℤ) → AreKnown calls → covers calls (standing_call nr) ≡ covers calls nr
covers-standing calls nr known = by (is_among named_calls nr) refl
  where
    of_none : (c : Calls) → AreKnown c → is_among named_calls nr ≡ false → covers c (pos 0) ≡ covers c nr
    of_none (Named numbers) k e = not_among numbers (pos 0) k refl ∙ sym (not_among numbers nr k e)
    of_none OtherCalls k e = rw e refl

    by : (b : Bool) → is_among named_calls nr ≡ b → covers calls (if b then nr else pos 0) ≡ covers calls nr
    by true e = refl
    by false e = of_none calls known e

-- ---- which fields a call has

-- which of the calls with requests of their own this is
place_of_number : ℤ → ℕ
place_of_number nr =
    if int_eq (pos nr_mknod) nr then 1
    else if int_eq (pos nr_mknodat) nr then 2
    else if int_eq (pos nr_mount) nr then 3
    else if int_eq (pos nr_setxattr) nr then 4
    else if int_eq (pos nr_openat) nr then 5
    else if int_eq (pos nr_sysinfo) nr then 6
    else 0

place_of_request : Request → ℕ
place_of_request (Mknod None path mode dev) = 1
place_of_request (Mknod (Some d) path mode dev) = 2
place_of_request (Mount s path t o u n b) = 3
place_of_request (SetXattr path t u n) = 4
place_of_request (OpenAt d path n) = 5
place_of_request (Sysinfo addr) = 6
place_of_request (Other nr) = 0

none_of : (a b c d e f : Bool) → (a || (b || (c || (d || (e || (f || false)))))) ≡ false
    → ◌≡◌ {A = ℕ} (if a then 1 else if b then 2 else if c then 3 else if d then 4 else if e then 5 else if f then 6 else 0) 0
none_of true b c d e f h = cc
none_of false true c d e f h = cc
none_of false false true d e f h = cc
none_of false false false true e f h = cc
none_of false false false false true f h = cc
none_of false false false false false true h = cc
none_of false false false false false false h = refl

place-is : (q : Request) → IsCall q → place_of_number (standing_call (call_of_request q)) ≡ place_of_request q
unfolding place_of_number place_of_request
place-is (Mknod None path mode dev) c = refl
place-is (Mknod (Some d) path mode dev) c = refl
place-is (Mount s path t o u n b) c = refl
place-is (SetXattr path t u n) c = refl
place-is (OpenAt d path n) c = refl
place-is (Sysinfo addr) c = refl
place-is (Other nr) c = by (is_among named_calls nr)
  where
    by : (b : Bool) → place_of_number (if b then nr else pos 0) ≡ 0
    by true =
        none_of (int_eq (pos nr_mknod) nr) (int_eq (pos nr_mknodat) nr) (int_eq (pos nr_mount) nr) (int_eq (pos nr_setxattr) nr)
        (int_eq (pos nr_openat) nr) (int_eq (pos nr_sysinfo) nr) c
    by false = refl

same_places : (q r : Request) → place_of_request q ≡ place_of_request r → SameShape q r
unfolding place_of_request
same_places (Mknod None path mode dev) (Mknod None p m e) h = tt
same_places (Mknod (Some d) path mode dev) (Mknod (Some f) p m e) h = tt
same_places (Mount s path t o u n b) (Mount s' path' t' o' u' n' b') h = tt
same_places (SetXattr path t u n) (SetXattr path' t' u' n') h = tt
same_places (OpenAt d path n) (OpenAt d' path' n') h = tt
same_places (Sysinfo addr) (Sysinfo addr') h = tt
same_places (Other nr) (Other nr') h = tt
same_places q (Mknod None path mode dev) h = absurd (omega arith)
same_places q (Mknod (Some d) path mode dev) h = absurd (omega arith)
same_places q r h = absurd (omega arith)

-- a call that has the number of another, or one that stands for it
pub record IsFor (nr : ℤ) (q : Request) : Type 0 where
  pub call : IsCall q
  pub number : standing_call (call_of_request q) ≡ nr

pub same_fields : (nr : ℤ) (q r : Request) → standing_call nr ≡ nr → IsWitness nr q → IsFor nr r → SameShape q r
same_fields nr q r stands w f =
    same_places q r
    (sym (place-is q w.call) ∙ ap (λ n. place_of_number (standing_call n)) w.number ∙ ap place_of_number (stands ∙ sym f.number) ∙ place-is r f.call)

pub witness_asks : (nr : ℤ) → standing_call nr ≡ nr → (q : Request) → IsWitness nr q → IsFor nr q
witness_asks nr stands q w = record { call = w.call; number = ap standing_call w.number ∙ stands }

-- ---- each call is stood for

among_contains : (numbers : List ℤ) (nr : ℤ) → is_among numbers nr ≡ true → Contains numbers nr
among_contains [] nr h = cc
among_contains (n ∷ numbers) nr h = by (int_eq n nr) refl h (among_contains numbers nr)
  where
    later : Contains numbers nr → Contains (n ∷ numbers) nr
    later (k, l, e) = (suc k, omega arith, e)

    by : (b : Bool) → int_eq n nr ≡ b → (b || is_among numbers nr) ≡ true → (is_among numbers nr ≡ true → Contains numbers nr)
        → Contains (n ∷ numbers) nr
    by true e g rest = (0, omega arith, same-int n nr e)
    by false e g rest = later (rest g)

pub stood_for : (nr : ℤ) → Contains standing_calls (standing_call nr)
stood_for nr = by (is_among named_calls nr) refl
  where
    by : (b : Bool) → is_among named_calls nr ≡ b → Contains standing_calls (if b then nr else pos 0)
    by true e = among_contains standing_calls nr (more (int_eq (pos 0) nr) e)
      where
        more : (b : Bool) → is_among named_calls nr ≡ true → (b || is_among named_calls nr) ≡ true
        more true h = refl
        more false h = h
    by false e = (0, omega arith, refl)
