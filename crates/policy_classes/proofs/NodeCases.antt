-- The nodes that are chosen stand for all, and none is greater than the one that stands for it.
-- By cases on the kind, on whether a device is asked for, and on whether its number is short.
use Rattle.std.proofs.Common.{◌≡◌, ◌≢◌, ℕ, zero, suc, ◌+◌, ◌*◌, ◌/◌, ◌%◌, ◌<◌, ◌≤◌, Bool, true, false, ◌&&◌, not, List, [], ◌∷◌, ◌++◌, map, get_or, Option, Some, None, refl, ap, sym, ◌∙◌, subst, ◌⊎◌, inl, inr, arith}
use Rattle.std.specs.Prelude.{◌==◌, All, Any, Contains, if◌then◌else◌, nat_lt}
use Rattle.std.specs.List.{filter_map, flat_map, list_any}
use Rattle.std.specs.Option.{option_to_list}
use Rattle.std.proofs.lemmas.Bool.{eq-eqb, eqb-true, le-ltb, ltb-false, ltb-true, lt-ltb, ne_eqb}
use Rattle.std.proofs.lemmas.List.Elements.{All-contains, Contains-append_left, Contains-append_right}
use Rattle.hist_model.specs.Decisions.{is_device, kind_eq}
use Rattle.hist_model.specs.Requests.{kind_of, low_32, major_of, minor_of}
use Rattle.hist_model.specs.declared.request.Kind.{Kind}
use Rattle.hist_model.specs.declared.request.Kind.TheVariants.{Reg, Chr, Blk, Fifo, Sock, Dir, Bad}
use Rattle.sys_abi.specs.Devices.{device_number}
use Rattle.policy_classes.specs.declared.atoms.Atom.{Atom}
use Rattle.policy_classes.specs.declared.atoms.Atom.TheVariants as atom
use Rattle.policy_classes.specs.declared.atoms.Field.TheVariants as field
use Rattle.policy_classes.specs.Fields.{is_of, node, suits}
use Rattle.policy_classes.specs.Nodes.{device_asked, device_modes, devices_asked, fresh_device, is_fresh_device, node_values, nodes_for, number_of, plain_modes}
use Rattle.policy_classes.specs.Order.{number_part}
use Rattle.policy_classes.specs.Standing.{Alike, IsUpTo, NodesStand}
use Rattle.policy_classes.proofs.Least.{Orders, least_accepted, least_up_to}
use Rattle.policy_classes.proofs.Lists.{Any-flat_map, any_behind, any_in, any_later, any_place, contains_made, each_fails, each_found, some_passes}
use Rattle.policy_classes.proofs.Near.{and_both, and_left, and_right, not_false, not_true}
use Rattle.policy_classes.proofs.Once.{once_has}
use Rattle.policy_classes.proofs.Ranks.{number_up_to}

-- ---- device numbers

-- a device number of 32 bits is made of its numbers
made_again : (x : ℕ) → x < 4294967296 → device_number (major_of x) (minor_of x) ≡ x
made_again x l = omega arith

major_back : (major minor : ℕ) → major < 4096 → minor < 1048576 → major_of (device_number major minor) ≡ major
major_back major minor a b = omega arith

minor_back : (major minor : ℕ) → major < 4096 → minor < 1048576 → minor_of (device_number major minor) ≡ minor
minor_back major minor a b = omega arith

abbrev is_number : Option ℕ → ℕ → Bool
is_number (Some k) x = x == k
is_number None x = false

-- a device number has these numbers exactly where it is the one that is made of them
numbered : (major minor x : ℕ) → x < 4294967296 → ((major_of x == major) && (minor_of x == minor)) ≡ is_number (number_of major minor) x
numbered major minor x l = by (nat_lt major 4096) refl (nat_lt minor 1048576) refl
  where
    small : major < 4096 → minor < 1048576 → ((major_of x == major) && (minor_of x == minor)) ≡ (x == device_number major minor)
    small a b = of (x == device_number major minor) refl
      where
        differs : (p q : Bool) → (major_of x == major) ≡ p → (minor_of x == minor) ≡ q → (x == device_number major minor) ≡ false → (p && q) ≡ false
        differs true true e f g =
            let same : x ≡ device_number major minor =
            sym (made_again x l) ∙ ap (λ z. device_number z (minor_of x)) (eqb-true (major_of x) major e) ∙ ap (device_number major) (eqb-true (minor_of x) minor f) in
            let so : (x == device_number major minor) ≡ true = eq-eqb x (device_number major minor) same in cc
        differs true false e f g = refl
        differs false q e f g = refl

        of : (c : Bool) → (x == device_number major minor) ≡ c → ((major_of x == major) && (minor_of x == minor)) ≡ c
        of true e =
            let same : x ≡ device_number major minor = eqb-true x (device_number major minor) e in
            and_both (major_of x == major) (minor_of x == minor) (eq-eqb (major_of x) major (ap major_of same ∙ major_back major minor a b))
            (eq-eqb (minor_of x) minor (ap minor_of same ∙ minor_back major minor a b))
        of false e = differs (major_of x == major) (minor_of x == minor) refl refl e

    no_major : nat_lt major 4096 ≡ false → ((major_of x == major) && (minor_of x == minor)) ≡ false
    no_major e =
        let big : 4096 ≤ major = ltb-false major 4096 e in
        ap (λ b. b && (minor_of x == minor)) (ne_eqb (major_of x) major (omega arith))

    no_minor : nat_lt minor 1048576 ≡ false → ((major_of x == major) && (minor_of x == minor)) ≡ false
    no_minor e =
        let big : 1048576 ≤ minor = ltb-false minor 1048576 e in
        rw (ne_eqb (minor_of x) minor (omega arith)) (neither (major_of x == major))
      where
        neither : (b : Bool) → (b && false) ≡ false
        neither true = refl
        neither false = refl

    by : (p : Bool) → nat_lt major 4096 ≡ p → (q : Bool) → nat_lt minor 1048576 ≡ q
        → ((major_of x == major) && (minor_of x == minor)) ≡ is_number (number_of major minor) x
    by true e true f = rw (e, f) (small (ltb-true major 4096 e) (ltb-true minor 1048576 f))
    by true e false f = rw (e, f) (no_minor f)
    by false e q f = rw e (no_major e)

-- ---- the least other device

orders : Orders nat_lt (λ m n. m ≤ n)
orders = record {
  itself = λ m. omega arith;
  through = λ m n k l h. omega arith;
  yes = λ m n h. let l = ltb-true m n h in omega arith;
  no = λ m n h. let l = ltb-false m n h in omega arith;
}

module _ (asked : List ℕ) where
  abbrev Fresh : ℕ → Type 0
  Fresh n = is_fresh_device asked n ≡ true

  abbrev Serves : ℕ → ℕ → Type 0
  Serves n c = Fresh c × (c ≤ n)

  abbrev devices : List ℕ
  devices = 0 ∷ map (λ n. n + 1) asked

  fresh_unasked : (n : ℕ) → Fresh n → list_any (λ m. n == m) asked ≡ false
  fresh_unasked n h = not_true (list_any (λ m. n == m) asked) (and_right (nat_lt n 4294967296) (not (list_any (λ m. n == m) asked)) h)

  fresh_fits : (n : ℕ) → Fresh n → n < 4294967296
  fresh_fits n h = ltb-true n 4294967296 (and_left (nat_lt n 4294967296) (not (list_any (λ m. n == m) asked)) h)

  fresh_or_asked : (n : ℕ) → n < 4294967296 → Fresh n ⊎ Contains asked n
  fresh_or_asked n l = by (list_any (λ m. n == m) asked) refl
    where
      of : Any (λ m. (n == m) ≡ true) asked → Contains asked n
      of (k, m, s, e, h) = (k, s, subst (λ y. get_or asked k y ≡ y) (sym (eqb-true n m h)) e)

      by : (b : Bool) → list_any (λ m. n == m) asked ≡ b → Fresh n ⊎ Contains asked n
      by true e = inr (of (some_passes (λ m. n == m) asked e))
      by false e = inl (and_both (nat_lt n 4294967296) (not (list_any (λ m. n == m) asked)) (lt-ltb n 4294967296 l) (not_false (list_any (λ m. n == m) asked) e))

  served : (n : ℕ) → Fresh n → Any (Serves n) devices
  served zero h = (0, 0, omega arith, refl, (h, omega arith))
  served (suc n) h = by (fresh_or_asked n (let l = fresh_fits (suc n) h in omega arith)) (served n)
    where
      weaker : Any (Serves n) devices → Any (Serves (suc n)) devices
      weaker (k, c, l, s, g) = (k, c, l, s, (g.0, let a = g.1 in omega arith))

      by : Fresh n ⊎ Contains asked n → (Fresh n → Any (Serves n) devices) → Any (Serves (suc n)) devices
      by (inl f) rest = weaker (rest f)
      by (inr c) rest =
          any_later (Serves (suc n)) 0 (map (λ m. m + 1) asked)
          (any_place (Serves (suc n)) (map (λ m. m + 1) asked) (suc n)
          (subst (Contains (map (λ m. m + 1) asked)) (omega arith) (contains_made (λ m. m + 1) asked n c)) (h, omega arith))

  device_there : (n : ℕ) → Fresh n → (m : ℕ) × (fresh_device asked ≡ Some m) × Fresh m × (m ≤ n)
  device_there n h = of (least_up_to nat_lt (is_fresh_device asked) (λ x y. x ≤ y) orders devices n (served n h))
    where
      of : (m : ℕ) × (fresh_device asked ≡ Some m) × (m ≤ n) → (m : ℕ) × (fresh_device asked ≡ Some m) × Fresh m × (m ≤ n)
      of (m, e, u) = (m, e, least_accepted nat_lt (is_fresh_device asked) None devices m (λ b s. cc) e, u)

-- ---- modes

-- the least mode of a kind
abbrev mode_for : Kind → ℕ
mode_for Reg = 0
mode_for Fifo = 4096
mode_for Dir = 16384
mode_for Bad = 12288
mode_for Sock = 49152
mode_for Chr = 8192
mode_for Blk = 24576

mode_is : (k : Kind) → kind_of (mode_for k) ≡ k
mode_is Reg = refl
mode_is Fifo = refl
mode_is Dir = refl
mode_is Bad = refl
mode_is Sock = refl
mode_is Chr = refl
mode_is Blk = refl

mode_least : (mode : ℕ) → mode_for (kind_of mode) ≤ mode
mode_least mode =
    by (t == 0) refl (t == 8) refl (t == 1) refl (t == 2) refl (t == 4) refl (t == 6) refl (t == 12) refl
  where
    t : ℕ
    t = mode / 4096 % 16

    least : (n : ℕ) → (mode / 4096 % 16 == n) ≡ true → n * 4096 ≤ mode
    least n e = let same : mode / 4096 % 16 ≡ n = eqb-true (mode / 4096 % 16) n e in omega arith

    isnt : (n : ℕ) → (mode / 4096 % 16 == n) ≡ false → mode / 4096 % 16 ≢ n
    isnt n e s = let so : (mode / 4096 % 16 == n) ≡ true = eq-eqb (mode / 4096 % 16) n s in cc

    by : (a : Bool) → (mode / 4096 % 16 == 0) ≡ a → (b : Bool) → (mode / 4096 % 16 == 8) ≡ b → (c : Bool) → (mode / 4096 % 16 == 1) ≡ c
        → (d : Bool) → (mode / 4096 % 16 == 2) ≡ d → (e : Bool) → (mode / 4096 % 16 == 4) ≡ e → (f : Bool) → (mode / 4096 % 16 == 6) ≡ f
        → (g : Bool) → (mode / 4096 % 16 == 12) ≡ g → mode_for (kind_of mode) ≤ mode
    by true ea b eb c ec d ed e ee f ef g eg = rw ea (omega arith)
    by false ea true eb c ec d ed e ee f ef g eg = rw (ea, eb) (omega arith)
    by false ea false eb true ec d ed e ee f ef g eg = rw (ea, eb, ec) (least 1 ec)
    by false ea false eb false ec true ed e ee f ef g eg = rw (ea, eb, ec, ed) (least 2 ed)
    by false ea false eb false ec false ed true ee f ef g eg = rw (ea, eb, ec, ed, ee) (least 4 ee)
    by false ea false eb false ec false ed false ee true ef g eg = rw (ea, eb, ec, ed, ee, ef) (least 6 ef)
    by false ea false eb false ec false ed false ee false ef true eg = rw (ea, eb, ec, ed, ee, ef, eg) (least 12 eg)
    by false ea false eb false ec false ed false ee false ef false eg =
        rw (ea, eb, ec, ed, ee, ef, eg) (let n0 = isnt 0 ea in let n1 = isnt 1 ec in let n2 = isnt 2 ed in omega arith)

-- ---- nodes

module _ (atoms : List Atom) where
  abbrev asked : List ℕ
  asked = devices_asked atoms

  abbrev all_devices : List ℕ
  all_devices = asked ++ option_to_list (fresh_device asked)

  abbrev Stands : ℕ × ℕ → ℕ × ℕ → Type 0
  Stands n m =
      Alike atoms field.Node (node (Some m)) (node (Some n)) × IsUpTo (number_part m.0) (number_part n.0) × IsUpTo (number_part m.1) (number_part n.1)

  -- a device number, with as many bits above the 32nd as another has
  abbrev long_as : ℕ → ℕ → ℕ
  long_as dev x = if nat_lt dev 4294967296 then x else x + 4294967296

  low_again : (dev x : ℕ) → x < 4294967296 → low_32 (long_as dev x) ≡ x
  low_again dev x l = by (nat_lt dev 4294967296)
    where
      by : (b : Bool) → low_32 (if b then x else x + 4294967296) ≡ x
      by true = omega arith
      by false = omega arith

  short_again : (dev x : ℕ) → x < 4294967296 → nat_lt (long_as dev x) 4294967296 ≡ nat_lt dev 4294967296
  short_again dev x l = by (nat_lt dev 4294967296)
    where
      by : (b : Bool) → nat_lt (if b then x else x + 4294967296) 4294967296 ≡ b
      by true = lt-ltb x 4294967296 l
      by false = le-ltb (x + 4294967296) 4294967296 (omega arith)

  long_least : (dev x : ℕ) → x ≤ low_32 dev → long_as dev x ≤ dev
  long_least dev x l = by (nat_lt dev 4294967296) refl
    where
      by : (b : Bool) → nat_lt dev 4294967296 ≡ b → (if b then x else x + 4294967296) ≤ dev
      by true e = omega arith
      by false e = let big : 4294967296 ≤ dev = ltb-false dev 4294967296 e in omega arith

  -- the node of the same kind is like it, if its device is asked for exactly where the other's is
  alike_node : (mode dev x : ℕ) → x < 4294967296 → (is_device (kind_of mode) ≡ true → All (λ m. (x == m) ≡ (low_32 dev == m)) asked)
      → Alike atoms field.Node (node (Some (mode_for (kind_of mode), long_as dev x))) (node (Some (mode, dev)))
  alike_node mode dev x l same k d i o = by (get_or atoms k d) o refl
    where
      kinds : kind_of (mode_for (kind_of mode)) ≡ kind_of mode
      kinds = mode_is (kind_of mode)

      of_device : (major minor : ℕ) → get_or atoms k d ≡ atom.Dev major minor → (b : Bool) → is_device (kind_of mode) ≡ b
          → (b && ((major_of (low_32 (long_as dev x)) == major) && (minor_of (low_32 (long_as dev x)) == minor)))
          ≡ (b && ((major_of (low_32 dev) == major) && (minor_of (low_32 dev) == minor)))
      of_device major minor e false f = refl
      of_device major minor e true f =
          ap (λ z. (major_of z == major) && (minor_of z == minor)) (low_again dev x l) ∙ numbered major minor x l
          ∙ of (number_of major minor) refl ∙ sym (numbered major minor (low_32 dev) (omega arith))
        where
          of : (y : Option ℕ) → number_of major minor ≡ y → is_number y x ≡ is_number y (low_32 dev)
          of None g = refl
          of (Some y) g =
              All-contains (λ m. (x == m) ≡ (low_32 dev == m)) asked y (same f)
              (once_has (λ m n. m == n) (λ m n s. eqb-true m n s) [] (filter_map device_asked atoms) y
              (inr (each_found device_asked atoms k d i y (ap device_asked e ∙ g))))

      by : (a : Atom) → is_of field.Node a ≡ true → get_or atoms k d ≡ a
          → suits a (node (Some (mode_for (kind_of mode), long_as dev x))) ≡ suits a (node (Some (mode, dev)))
      by (atom.Kind kind) h e = ap (λ z. kind_eq z kind) kinds
      by (atom.Dev major minor) h e =
          ap (λ z. is_device z && ((major_of (low_32 (long_as dev x)) == major) && (minor_of (low_32 (long_as dev x)) == minor))) kinds
          ∙ of_device major minor e (is_device (kind_of mode)) refl
      by atom.ShortDevice h e = short_again dev x l
      by a h e = cc

  -- ---- where the nodes are

  in_nodes : (P : ℕ × ℕ → Type 0) (mode dev x : ℕ) (devices : List ℕ) → Contains devices x → P (mode, long_as dev x) → Any P (nodes_for mode devices)
  in_nodes P mode dev x devices (k, l, e) h =
      Any-flat_map P (λ y. (mode, y) ∷ (mode, y + 4294967296) ∷ []) devices (k, x, l, e, by (nat_lt dev 4294967296) h)
    where
      by : (b : Bool) → P (mode, if b then x else x + 4294967296) → Any P ((mode, x) ∷ (mode, x + 4294967296) ∷ [])
      by true h = (0, (mode, x), omega arith, refl, h)
      by false h = (1, (mode, x + 4294967296), omega arith, refl, h)

  of_plain : (P : ℕ × ℕ → Type 0) (mode dev : ℕ) → Contains plain_modes mode → P (mode, long_as dev 0) → Any P (node_values atoms)
  of_plain P mode dev (k, l, e) h =
      any_in P (flat_map (λ m. nodes_for m (0 ∷ [])) plain_modes) (flat_map (λ m. nodes_for m all_devices) device_modes)
      (Any-flat_map P (λ m. nodes_for m (0 ∷ [])) plain_modes (k, mode, l, e, in_nodes P mode dev 0 (0 ∷ []) (0, omega arith, refl) h))

  of_devices : (P : ℕ × ℕ → Type 0) (mode dev x : ℕ) → Contains device_modes mode → Contains all_devices x → P (mode, long_as dev x) → Any P (node_values atoms)
  of_devices P mode dev x (k, l, e) c h =
      any_behind P (flat_map (λ m. nodes_for m (0 ∷ [])) plain_modes) (flat_map (λ m. nodes_for m all_devices) device_modes)
      (Any-flat_map P (λ m. nodes_for m all_devices) device_modes (k, mode, l, e, in_nodes P mode dev x all_devices c h))

  stands : (mode dev : ℕ) → Any (Stands (mode, dev)) (node_values atoms)
  stands mode dev = by (kind_of mode) refl
    where
      low : low_32 dev < 4294967296
      low = omega arith

      -- the node with such a device number
      node_with : (x : ℕ) → x ≤ low_32 dev → (is_device (kind_of mode) ≡ true → All (λ m. (x == m) ≡ (low_32 dev == m)) asked)
          → Stands (mode, dev) (mode_for (kind_of mode), long_as dev x)
      node_with x l same = (
        alike_node mode dev x (omega (arith, low)) same,
        number_up_to (mode_for (kind_of mode)) mode (mode_least mode),
        number_up_to (long_as dev x) dev (long_least dev x l),
      )

      plain : (k : Kind) → kind_of mode ≡ k → is_device k ≡ false → Contains plain_modes (mode_for k) → Any (Stands (mode, dev)) (node_values atoms)
      plain k e f c =
          of_plain (Stands (mode, dev)) (mode_for (kind_of mode)) dev (subst (λ z. Contains plain_modes (mode_for z)) (sym e) c)
          (node_with 0 (omega arith) (λ g. let bad : is_device k ≡ true = subst (λ z. is_device z ≡ true) e g in cc))

      device : (k : Kind) → kind_of mode ≡ k → Contains device_modes (mode_for k) → Any (Stands (mode, dev)) (node_values atoms)
      device k e c = of (fresh_or_asked asked (low_32 dev) low)
        where
          there : Contains device_modes (mode_for (kind_of mode))
          there = subst (λ z. Contains device_modes (mode_for z)) (sym e) c

          of_fresh : Fresh asked (low_32 dev) → (m : ℕ) × (fresh_device asked ≡ Some m) × Fresh asked m × (m ≤ low_32 dev) → Any (Stands (mode, dev)) (node_values atoms)
          of_fresh f (m, s, g, u) =
              of_devices (Stands (mode, dev)) (mode_for (kind_of mode)) dev m there
              (Contains-append_right asked (option_to_list (fresh_device asked)) m (rw (ap option_to_list s) (0, omega arith, refl)))
              (node_with m u (λ h k d l. each_fails (λ y. m == y) asked (fresh_unasked asked m g) k d l
              ∙ sym (each_fails (λ y. low_32 dev == y) asked (fresh_unasked asked (low_32 dev) f) k d l)))

          of : Fresh asked (low_32 dev) ⊎ Contains asked (low_32 dev) → Any (Stands (mode, dev)) (node_values atoms)
          of (inl f) = of_fresh f (device_there asked (low_32 dev) f)
          of (inr h) =
              of_devices (Stands (mode, dev)) (mode_for (kind_of mode)) dev (low_32 dev) there
              (Contains-append_left asked (option_to_list (fresh_device asked)) (low_32 dev) h)
              (node_with (low_32 dev) (omega arith) (λ g k d l. refl))

      by : (k : Kind) → kind_of mode ≡ k → Any (Stands (mode, dev)) (node_values atoms)
      by Reg e = plain Reg e refl (0, omega arith, refl)
      by Fifo e = plain Fifo e refl (1, omega arith, refl)
      by Dir e = plain Dir e refl (2, omega arith, refl)
      by Bad e = plain Bad e refl (3, omega arith, refl)
      by Sock e = plain Sock e refl (4, omega arith, refl)
      by Chr e = device Chr e (0, omega arith, refl)
      by Blk e = device Blk e (1, omega arith, refl)

pub nodes_stand : NodesStand
nodes_stand atoms n = stands atoms n.0 n.1
