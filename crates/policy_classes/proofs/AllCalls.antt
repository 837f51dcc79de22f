-- Where the search begins: the calls that stand for all, with the rules for them.
-- By cases on these calls; that the rules for one find the place of each that it stands for, by induction on the rules.
use Rattle.std.proofs.Common.{◌≡◌, ℕ, zero, suc, ◌+◌, Bool, true, false, ◌&&◌, cond, List, [], ◌∷◌, length, Some, None, ℤ, pos, refl, ap, sym, ◌∙◌, subst, ◌⊎◌, inl, inr, arith}
use Rattle.std.specs.Prelude.{All, if◌then◌else◌}
use Rattle.std.specs.List.{list_all}
use Rattle.std.specs.Ordering.{int_eq}
use Rattle.std.proofs.lemmas.List.Elements.{All-cons, All-from_recursion, All-head, All-nil, All-tail, All-weaker}
use Rattle.std.proofs.lemmas.Nat.Bits.{bit_at-zero}
use Rattle.hist_model.specs.Decisions.{covers, decide, decide_from, fits, is_among, meets, named_calls}
use Rattle.hist_model.specs.Requests.{call_of_request}
use Rattle.hist_model.specs.declared.policy.Cond.{Cond}
use Rattle.hist_model.specs.declared.policy.Rule.{Rule}
use Rattle.hist_model.specs.declared.policy.Verdict.{Verdict}
use Rattle.hist_model.specs.declared.request.Request.{Request}
use Rattle.hist_model.specs.declared.request.Request.TheVariants.{Mknod, Mount, SetXattr, OpenAt, Sysinfo, Other}
use Rattle.policy_classes.specs.declared.atoms.Field.{Field}
use Rattle.sys_abi.specs.Calls.{nr_close, nr_getpid, nr_sysinfo, nr_mknod, nr_mount, nr_setxattr, nr_openat, nr_mknodat}
use Rattle.policy_classes.specs.Atoms.{all_hold, atoms_of, atoms_of_all}
use Rattle.policy_classes.specs.Choices.{IsPlainAtom}
use Rattle.policy_classes.specs.Classes.{start_of}
use Rattle.policy_classes.specs.Order.{call_rank, descriptor_rank, free_part, plain_path, plain_word}
use Rattle.policy_classes.specs.Plain.{IsPlainRule, standing_call, standing_calls}
use Rattle.policy_classes.specs.Search.{place_among, waiting_from}
use Rattle.policy_classes.specs.Standing.{IsBefore, IsUpTo}
use Rattle.policy_classes.proofs.Conditions.{all_hold-append, conditions_are_atoms}
use Rattle.policy_classes.proofs.Kept.{IsWitness}
use Rattle.policy_classes.proofs.Left.{AllAre}
use Rattle.policy_classes.proofs.Ranks.{AreFlagsOf, number_up_to, plain_up_to, up_to_itself}
use Rattle.policy_classes.proofs.Searched.{IsOpen, Reaches, State}
use Rattle.policy_classes.proofs.StandingCalls.{IsFor, covers-standing, same_fields}
use Rattle.policy_classes.proofs.Stands.{ComesUpTo, SameShape}

-- ---- the rules for a call

all_meet : (conds : List Cond) (q : Request) → list_all (λ c. meets c q) conds ≡ all_hold (atoms_of_all conds) q
all_meet [] q = refl
all_meet (c ∷ conds) q =
    ap (λ b. b && list_all (λ x. meets x q) conds) (conditions_are_atoms c q)
    ∙ ap (λ b. all_hold (atoms_of c) q && b) (all_meet conds q)
    ∙ sym (all_hold-append (atoms_of c) (atoms_of_all conds) q)

-- the first of the rules for a call of which all atoms hold decides
decides_among : (nr : ℤ) (q : Request) (none n : ℕ) (rules : List Rule) → standing_call (call_of_request q) ≡ nr → All IsPlainRule rules
    → none ≡ n + length rules → place_among none (waiting_from n rules nr) q ≡ (decide_from n rules q).0
unfolding decide_from fits
decides_among nr q none n [] s plain e = omega arith
decides_among nr q none n (rule ∷ rules) s plain e =
    by (covers rule.calls nr)
    (ap (covers rule.calls) (sym s) ∙ covers-standing rule.calls (call_of_request q) (All-head IsPlainRule rule rules plain).calls)
    (all_meet rule.conds q)
    (decides_among nr q none (n + 1) rules s (All-tail IsPlainRule rule rules plain) (omega arith))
  where
    pick : (h : Bool) (place : ℕ) (later : ℕ × Verdict) → place ≡ later.0 → cond h n place ≡ (cond h (n, rule.verdict) later).0
    pick true place later h = refl
    pick false place later h = h

    by : (b : Bool) → b ≡ covers rule.calls (call_of_request q) → list_all (λ c. meets c q) rule.conds ≡ all_hold (atoms_of_all rule.conds) q
        → place_among none (waiting_from (n + 1) rules nr) q ≡ (decide_from (n + 1) rules q).0
        → place_among none
        (cond b (record { place = n; atoms = atoms_of_all rule.conds } ∷ waiting_from (n + 1) rules nr) (waiting_from (n + 1) rules nr)) q
        ≡ (cond (covers rule.calls (call_of_request q) && list_all (λ c. meets c q) rule.conds) (n, rule.verdict) (decide_from (n + 1) rules q)).0
    by true f m rest = rw (sym f, m) (pick (all_hold (atoms_of_all rule.conds) q) (place_among none (waiting_from (n + 1) rules nr) q) (decide_from (n + 1) rules q) rest)
    by false f m rest = rw (sym f) rest

decides_first : (nr : ℤ) (q : Request) (rules : List Rule) → standing_call (call_of_request q) ≡ nr → All IsPlainRule rules
    → place_among (length rules) (waiting_from 0 rules nr) q ≡ (decide rules q).0
unfolding decide
decides_first nr q rules s plain = decides_among nr q (length rules) 0 rules s plain (omega arith)

-- ---- atoms

abbrev pub none_decided : Field → Bool
none_decided f = false

-- no field is decided yet, so each atom of the rules for a call is open
all_open : (n : ℕ) (rules : List Rule) (nr : ℤ) → All IsPlainRule rules → All (AllAre (IsOpen none_decided)) (waiting_from n rules nr)
all_open n [] nr h = All-nil (AllAre (IsOpen none_decided))
all_open n (rule ∷ rules) nr h = by (covers rule.calls nr) (all_open (n + 1) rules nr (All-tail IsPlainRule rule rules h))
  where
    by : (b : Bool) → All (AllAre (IsOpen none_decided)) (waiting_from (n + 1) rules nr)
        → All (AllAre (IsOpen none_decided))
        (cond b (record { place = n; atoms = atoms_of_all rule.conds } ∷ waiting_from (n + 1) rules nr) (waiting_from (n + 1) rules nr))
    by true g =
        All-cons (AllAre (IsOpen none_decided)) (record { place = n; atoms = atoms_of_all rule.conds }) (waiting_from (n + 1) rules nr)
        (All-weaker IsPlainAtom (IsOpen none_decided) (λ a c. (c, refl)) (atoms_of_all rule.conds) (All-head IsPlainRule rule rules h).atoms) g
    by false g = g

-- ---- the calls that stand for all

pub record Starts (nr : ℤ) : Type 0 where
  pub stands : standing_call nr ≡ nr
  pub witness : IsWitness nr (start_of nr)
  -- it comes up to each call that it stands for
  pub up : (r : Request) → IsFor nr r → SameShape (start_of nr) r → ComesUpTo (start_of nr) r

no_flags : (m : ℕ) → AreFlagsOf 0 m
no_flags m k = let e = bit_at-zero k in omega arith

up_to_mknod : (r : Request) → SameShape (start_of (pos nr_mknod)) r → ComesUpTo (start_of (pos nr_mknod)) r
up_to_mknod (Mknod None p m e) x = (plain_up_to plain_path p, number_up_to 0 m (omega arith), number_up_to 0 e (omega arith))
up_to_mknod r x = absurd x

up_to_mknodat : (r : Request) → SameShape (start_of (pos nr_mknodat)) r → ComesUpTo (start_of (pos nr_mknodat)) r
up_to_mknodat (Mknod (Some d) p m e) x =
    (plain_up_to plain_path p, number_up_to 0 m (omega arith), number_up_to 0 e (omega arith), number_up_to 0 (descriptor_rank d) (omega arith))
up_to_mknodat r x = absurd x

up_to_mount : (r : Request) → SameShape (start_of (pos nr_mount)) r → ComesUpTo (start_of (pos nr_mount)) r
up_to_mount (Mount s p t o u n b) x = (plain_up_to plain_path p, plain_up_to plain_word t, plain_up_to plain_word s, plain_up_to [] o, no_flags n)
up_to_mount r x = absurd x

up_to_setxattr : (r : Request) → SameShape (start_of (pos nr_setxattr)) r → ComesUpTo (start_of (pos nr_setxattr)) r
up_to_setxattr (SetXattr p t u n) x = (plain_up_to plain_path p, plain_up_to plain_word t, plain_up_to [] u, no_flags n)
up_to_setxattr r x = absurd x

up_to_openat : (r : Request) → SameShape (start_of (pos nr_openat)) r → ComesUpTo (start_of (pos nr_openat)) r
up_to_openat (OpenAt d p n) x = (plain_up_to plain_path p, number_up_to 0 (descriptor_rank d) (omega arith), no_flags n)
up_to_openat r x = absurd x

up_to_sysinfo : (r : Request) → SameShape (start_of (pos nr_sysinfo)) r → ComesUpTo (start_of (pos nr_sysinfo)) r
up_to_sysinfo (Sysinfo a) x = number_up_to 0 a (omega arith)
up_to_sysinfo r x = absurd x

-- a call that has a name and no request of its own stands for itself
its_own : (nr m : ℤ) → int_eq (pos 0) nr ≡ false → standing_call m ≡ nr → m ≡ nr
its_own nr m isnt e = by (is_among named_calls m) e
  where
    by : (b : Bool) → (if b then m else pos 0) ≡ nr → m ≡ nr
    by true s = s
    by false s = let bad : int_eq (pos 0) nr ≡ true = ap (λ x. int_eq (pos 0) x) (sym s) in cc

up_to_own : (nr : ℤ) (r : Request) → start_of nr ≡ Other nr → int_eq (pos 0) nr ≡ false → IsFor nr r → SameShape (start_of nr) r → ComesUpTo (start_of nr) r
up_to_own nr r is isnt f x = by r f (subst (λ q. SameShape q r) is x)
  where
    by : (r : Request) → IsFor nr r → SameShape (Other nr) r → ComesUpTo (start_of nr) r
    by (Other m) f x =
        rw is (subst (λ y. IsUpTo (free_part (call_rank nr)) (free_part (call_rank y))) (sym (its_own nr m isnt f.number)) (up_to_itself (free_part (call_rank nr))))
    by r f x = absurd x

up_to_read : (r : Request) → SameShape (start_of (pos 0)) r → ComesUpTo (start_of (pos 0)) r
up_to_read (Other m) x = (omega arith, by (call_rank m))
  where
    by : (n : ℕ) → (0 ∷ [] ≡ n ∷ []) ⊎ IsBefore (0 ∷ []) (n ∷ [])
    by zero = inl refl
    by (suc n) = inr (inl (omega arith))
up_to_read r x = absurd x

starts_mount : Starts (pos nr_mount)
starts_mount = record { stands = refl; witness = record { call = (refl, refl, refl, refl, refl, refl); no_magic = refl; number = refl }; up = λ r f x. up_to_mount r x }

starts_setxattr : Starts (pos nr_setxattr)
starts_setxattr = record { stands = refl; witness = record { call = (refl, refl, refl); no_magic = tt; number = refl }; up = λ r f x. up_to_setxattr r x }

starts_sysinfo : Starts (pos nr_sysinfo)
starts_sysinfo = record { stands = refl; witness = record { call = tt; no_magic = tt; number = refl }; up = λ r f x. up_to_sysinfo r x }

starts_openat : Starts (pos nr_openat)
starts_openat = record { stands = refl; witness = record { call = (refl, refl); no_magic = tt; number = refl }; up = λ r f x. up_to_openat r x }

starts_mknod : Starts (pos nr_mknod)
starts_mknod = record { stands = refl; witness = record { call = refl; no_magic = tt; number = refl }; up = λ r f x. up_to_mknod r x }

starts_mknodat : Starts (pos nr_mknodat)
starts_mknodat = record { stands = refl; witness = record { call = (refl, refl); no_magic = tt; number = refl }; up = λ r f x. up_to_mknodat r x }

starts_close : Starts (pos nr_close)
starts_close =
    record { stands = refl; witness = record { call = refl; no_magic = tt; number = refl }; up = λ r f x. up_to_own (pos nr_close) r refl refl f x }

starts_getpid : Starts (pos nr_getpid)
starts_getpid =
    record { stands = refl; witness = record { call = refl; no_magic = tt; number = refl }; up = λ r f x. up_to_own (pos nr_getpid) r refl refl f x }

starts_read : Starts (pos 0)
starts_read = record { stands = refl; witness = record { call = refl; no_magic = tt; number = refl }; up = λ r f x. up_to_read r x }

pub all_start : All Starts standing_calls
all_start =
    All-from_recursion Starts standing_calls (
      starts_read,
      (
        starts_close,
        (
          starts_getpid,
          (
            starts_sysinfo,
            (
              starts_mknod,
              (starts_mount, (starts_setxattr, (starts_openat, (starts_mknodat, tt)))),
            ),
          ),
        ),
      ),
    )

module _ (old new : List Rule) (plain_old : All IsPlainRule old) (plain_new : All IsPlainRule new) where
  abbrev pub old_place : Request → ℕ
  old_place r = (decide old r).0

  abbrev pub new_place : Request → ℕ
  new_place r = (decide new r).0

  -- the state of the search at the beginning
  pub state : (nr : ℤ) → Starts nr → State nr (IsFor nr) (length old) (length new) old_place new_place
      none_decided (start_of nr) (waiting_from 0 old nr) (waiting_from 0 new nr)
  state nr start = record {
    witness = start.witness;
    old_goes = record { finds = λ r f h. decides_first nr r old f.number plain_old; opens = all_open 0 old nr plain_old };
    new_goes = record { finds = λ r f h. decides_first nr r new f.number plain_new; opens = all_open 0 new nr plain_new };
  }

  -- each call is reached from the one that stands for it
  pub reached : (nr : ℤ) → Starts nr → (r : Request) → IsFor nr r
      → Reaches (length old) (length new) old_place new_place (start_of nr) (waiting_from 0 old nr) (waiting_from 0 new nr) r
  reached nr start r f = record {
    old_found = decides_first nr r old f.number plain_old;
    new_found = decides_first nr r new f.number plain_new;
    up = start.up r f (same_fields nr (start_of nr) r start.stands start.witness f);
  }
