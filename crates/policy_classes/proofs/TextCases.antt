-- The texts that are chosen stand for all that calls may have, and none is greater than the one that stands for it.
-- By cases on whether a text is asked for; of a path, by the longest directory that it is below.
use Rattle.std.proofs.Common.{◌≡◌, ℕ, suc, ◌<◌, ◌≤◌, Bool, true, false, ◌&&◌, ◌||◌, not, List, [], ◌∷◌, ◌++◌, length, length-append, get_or, Option, Some, None, refl, ap, sym, ◌∙◌, inl, inr, arith}
use Rattle.std.specs.Prelude.{All, Any, Contains, bytes_eq, nat_eq}
use Rattle.std.specs.List.{filter, filter_map, flat_map, list_any, starts_with}
use Rattle.std.specs.Option.{option_to_list}
use Rattle.std.proofs.lemmas.Bool.{cases_lt, eqb-true, eq-eqb}
use Rattle.std.proofs.lemmas.List.Elements.{All-append, All-contains, All-cons, All-nil, filter_passes}
use Rattle.hist_model.specs.Decisions.{has_dot_dot, lies_under}
use Rattle.policy_classes.specs.declared.atoms.Atom.{Atom}
use Rattle.policy_classes.specs.declared.atoms.Atom.TheVariants as atom
use Rattle.policy_classes.specs.declared.atoms.Field.{Field}
use Rattle.policy_classes.specs.declared.atoms.Field.TheVariants as field
use Rattle.policy_classes.specs.Allowed.{IsAllowed, is_allowed, is_asked, limit_of, plain_of}
use Rattle.policy_classes.specs.Chosen.{dir_asked, dirs_asked, field_texts, fresh_at, text_asked, texts_asked}
use Rattle.policy_classes.specs.Fields.{is_of, suits, text}
use Rattle.policy_classes.specs.Fresh.{fresh, is_within, with_slash}
use Rattle.policy_classes.specs.Order.{text_part}
use Rattle.policy_classes.specs.Standing.{Alike, IsTextField, IsUpTo, TextsStand}
use Rattle.policy_classes.proofs.Lists.{All-flat_map, Any-flat_map, any_behind, any_in, any_place, each_fails, each_found}
use Rattle.policy_classes.proofs.Near.{Fresh, IsPlace, and_left, and_right, chosen_fresh, fresh_allowed, fresh_placed, fresh_stands, fresh_unasked, is_among, is_fresh_there, kept_by, same-bytes}
use Rattle.policy_classes.proofs.Once.{once_has}
use Rattle.policy_classes.proofs.Ranks.{up_to_itself}

-- ---- paths

-- what begins with a text begins with what that begins with
begins_through : (p d e : List ℕ) → starts_with nat_eq p d ≡ true → starts_with nat_eq d e ≡ true → starts_with nat_eq p e ≡ true
begins_through [] [] e h g = g
begins_through [] (y ∷ d) e h g = cc
begins_through (x ∷ p) [] [] h g = refl
begins_through (x ∷ p) [] (z ∷ e) h g = cc
begins_through (x ∷ p) (y ∷ d) [] h g = refl
begins_through (x ∷ p) (y ∷ d) (z ∷ e) h g = by (nat_eq y x) refl (nat_eq z y) refl h g (begins_through p d e)
  where
    by : (b : Bool) → nat_eq y x ≡ b → (c : Bool) → nat_eq z y ≡ c → (b && starts_with nat_eq p d) ≡ true → (c && starts_with nat_eq d e) ≡ true
        → (starts_with nat_eq p d ≡ true → starts_with nat_eq d e ≡ true → starts_with nat_eq p e ≡ true)
        → (nat_eq z x && starts_with nat_eq p e) ≡ true
    by true s true t h g rest =
        let same : z ≡ x = eqb-true z y t ∙ eqb-true y x s in
        ap (λ b. b && starts_with nat_eq p e) (eq-eqb z x same) ∙ rest h g
    by false s c t h g rest = cc
    by true s false t h g rest = cc

-- of two texts with which one begins, the longer begins with the shorter
begins_both : (p d e : List ℕ) → starts_with nat_eq p d ≡ true → starts_with nat_eq p e ≡ true → length e ≤ length d → starts_with nat_eq d e ≡ true
begins_both p [] [] h g l = refl
begins_both p [] (z ∷ e) h g l = absurd (omega arith)
begins_both p (y ∷ d) [] h g l = refl
begins_both [] (y ∷ d) (z ∷ e) h g l = cc
begins_both (x ∷ p) (y ∷ d) (z ∷ e) h g l = by (nat_eq y x) refl (nat_eq z x) refl h g (λ h g. begins_both p d e h g (omega arith))
  where
    by : (b : Bool) → nat_eq y x ≡ b → (c : Bool) → nat_eq z x ≡ c → (b && starts_with nat_eq p d) ≡ true → (c && starts_with nat_eq p e) ≡ true
        → (starts_with nat_eq p d ≡ true → starts_with nat_eq p e ≡ true → starts_with nat_eq d e ≡ true)
        → (nat_eq z y && starts_with nat_eq d e) ≡ true
    by true s true t h g rest =
        let same : z ≡ y = eqb-true z x t ∙ sym (eqb-true y x s) in
        ap (λ b. b && starts_with nat_eq d e) (eq-eqb z y same) ∙ rest h g
    by false s c t h g rest = cc
    by true s false t h g rest = cc

-- a path below one directory is below another where the other is a front of the first, if it isn't longer
below_longest : (p d e : List ℕ) → lies_under (Some p) d ≡ true → (lies_under (Some p) e ≡ true → length e ≤ length d)
    → starts_with nat_eq (with_slash d) (with_slash e) ≡ lies_under (Some p) e
below_longest p d e h most = by (starts_with nat_eq (with_slash d) (with_slash e)) refl (lies_under (Some p) e) refl
  where
    begins : starts_with nat_eq p (with_slash d) ≡ true
    begins = and_left (starts_with nat_eq p (with_slash d)) (not (has_dot_dot p)) h

    no_dots : not (has_dot_dot p) ≡ true
    no_dots = and_right (starts_with nat_eq p (with_slash d)) (not (has_dot_dot p)) h

    by : (b : Bool) → starts_with nat_eq (with_slash d) (with_slash e) ≡ b → (c : Bool) → lies_under (Some p) e ≡ c → b ≡ c
    by true s true t = refl
    by false s false t = refl
    by true s false t =
        let so : lies_under (Some p) e ≡ true = rw (begins_through p (with_slash d) (with_slash e) begins s) no_dots in cc
    by false s true t =
        let le : length e ≤ length d = most t in
        let long : length (with_slash e) ≤ length (with_slash d) = simp length-append (omega arith) in
        let so : starts_with nat_eq (with_slash d) (with_slash e) ≡ true =
        begins_both p (with_slash d) (with_slash e) begins (and_left (starts_with nat_eq p (with_slash e)) (not (has_dot_dot p)) t) long in cc

-- the longest of the directories that a path is below
pub record Longest (p : List ℕ) (dirs : List (List ℕ)) : Type 0 where
  pub dir : List ℕ
  pub one : Contains dirs dir
  pub below : lies_under (Some p) dir ≡ true
  pub most : All (λ e. lies_under (Some p) e ≡ true → length e ≤ length dir) dirs

longest : (p : List ℕ) (dirs : List (List ℕ)) → list_any (λ d. lies_under (Some p) d) dirs ≡ true → Longest p dirs
longest p [] h = cc
longest p (e ∷ dirs) h = by (lies_under (Some p) e) refl (list_any (λ d. lies_under (Some p) d) dirs) refl h (longest p dirs)
  where
    later : (d : List ℕ) → Contains dirs d → Contains (e ∷ dirs) d
    later d (k, l, s) = (suc k, omega arith, s)

    choose : lies_under (Some p) e ≡ true → Longest p dirs → Longest p (e ∷ dirs)
    choose u g = elim (cases_lt (length g.dir) (length e)) [
      | inl lt ↦ record {
        dir = e;
        one = (0, omega arith, refl);
        below = u;
        most = All-cons (λ x. lies_under (Some p) x ≡ true → length x ≤ length e) e dirs (λ o. omega arith)
            (λ k d l o. let m : length (get_or dirs k d) ≤ length g.dir = g.most k d l o in omega arith);
      }
      | inr le ↦ record {
        dir = g.dir;
        one = later g.dir g.one;
        below = g.below;
        most = All-cons (λ x. lies_under (Some p) x ≡ true → length x ≤ length g.dir) e dirs (λ o. le) g.most;
      }
    ]

    skip : lies_under (Some p) e ≡ false → Longest p dirs → Longest p (e ∷ dirs)
    skip u g = record {
      dir = g.dir;
      one = later g.dir g.one;
      below = g.below;
      most = All-cons (λ x. lies_under (Some p) x ≡ true → length x ≤ length g.dir) e dirs (λ o. cc) g.most;
    }

    alone : lies_under (Some p) e ≡ true → All (λ d. lies_under (Some p) d ≡ false) dirs → Longest p (e ∷ dirs)
    alone u none = record {
      dir = e;
      one = (0, omega arith, refl);
      below = u;
      most = All-cons (λ x. lies_under (Some p) x ≡ true → length x ≤ length e) e dirs (λ o. omega arith)
          (λ k d l o. let isnt : lies_under (Some p) (get_or dirs k d) ≡ false = none k d l in cc);
    }

    by : (b : Bool) → lies_under (Some p) e ≡ b → (c : Bool) → list_any (λ d. lies_under (Some p) d) dirs ≡ c → (b || c) ≡ true
        → (list_any (λ d. lies_under (Some p) d) dirs ≡ true → Longest p dirs) → Longest p (e ∷ dirs)
    by true u true s g rest = choose u (rest s)
    by true u false s g rest = alone u (each_fails (λ d. lies_under (Some p) d) dirs s)
    by false u true s g rest = skip u (rest s)
    by false u false s g rest = cc

-- ---- what atoms see of a text

abbrev asks : Option (List ℕ) → List ℕ → Bool
asks (Some x) t = bytes_eq t x
asks None t = false

abbrev is_below : Option (List ℕ) → List ℕ → Bool
is_below (Some d) p = lies_under (Some p) d
is_below None p = false

-- an atom on a text suits the text for which it asks, or those below its directory
seen_text : (f : Field) → IsTextField f → (a : Atom) → is_of f a ≡ true → (t : List ℕ)
    → suits a (text (Some t)) ≡ (asks (text_asked f a) t || is_below (dir_asked f a) t)
seen_text field.Path i (atom.Path x) h t = or_nothing (bytes_eq t x)
  where
    or_nothing : (b : Bool) → b ≡ (b || false)
    or_nothing true = refl
    or_nothing false = refl
seen_text field.Path i (atom.Under d) h t = refl
seen_text field.Path i a h t = cc
seen_text field.Fstype i (atom.Fstype x) h t = or_nothing (bytes_eq t x)
  where
    or_nothing : (b : Bool) → b ≡ (b || false)
    or_nothing true = refl
    or_nothing false = refl
seen_text field.Fstype i a h t = cc
seen_text field.Source i (atom.Source x) h t = or_nothing (bytes_eq t x)
  where
    or_nothing : (b : Bool) → b ≡ (b || false)
    or_nothing true = refl
    or_nothing false = refl
seen_text field.Source i a h t = cc
seen_text field.Name i (atom.Name x) h t = or_nothing (bytes_eq t x)
  where
    or_nothing : (b : Bool) → b ≡ (b || false)
    or_nothing true = refl
    or_nothing false = refl
seen_text field.Name i a h t = cc
seen_text field.Value i (atom.Value x) h t = or_nothing (bytes_eq t x)
  where
    or_nothing : (b : Bool) → b ≡ (b || false)
    or_nothing true = refl
    or_nothing false = refl
seen_text field.Value i a h t = cc
seen_text f i a h t = absurd i

module _ (f : Field) (i : IsTextField f) (atoms : List Atom) where
  abbrev asked : List (List ℕ)
  asked = texts_asked f atoms

  abbrev dirs : List (List ℕ)
  dirs = dirs_asked f atoms

  -- what one of the chosen texts is to be
  abbrev Stands : List ℕ → List ℕ → Type 0
  Stands t u = Alike atoms f (text (Some u)) (text (Some t)) × IsUpTo (text_part (plain_of f) u) (text_part (plain_of f) t)

  asked_has : (k : ℕ) (d : Atom) → k < length atoms → (x : List ℕ) → text_asked f (get_or atoms k d) ≡ Some x → Contains asked x
  asked_has k d l x e = once_has bytes_eq same-bytes [] (filter_map (text_asked f) atoms) x (inr (each_found (text_asked f) atoms k d l x e))

  dirs_has : (k : ℕ) (d : Atom) → k < length atoms → (x : List ℕ) → dir_asked f (get_or atoms k d) ≡ Some x → Contains dirs x
  dirs_has k d l x e = once_has bytes_eq same-bytes [] (filter_map (dir_asked f) atoms) x (inr (each_found (dir_asked f) atoms k d l x e))

  -- texts for which no atom asks, below the same directories
  alike_text : (t u : List ℕ) → is_asked asked t ≡ false → is_asked asked u ≡ false → All (λ e. lies_under (Some u) e ≡ lies_under (Some t) e) dirs
      → Alike atoms f (text (Some u)) (text (Some t))
  alike_text t u isnt none same k d l o =
      seen_text f i a o u ∙ ap (λ b. b || is_below (dir_asked f a) u) (by (text_asked f a) refl)
      ∙ ap (λ b. asks (text_asked f a) t || b) (by_dir (dir_asked f a) refl) ∙ sym (seen_text f i a o t)
    where
      a : Atom
      a = get_or atoms k d

      by : (x : Option (List ℕ)) → text_asked f a ≡ x → asks x u ≡ asks x t
      by None e = refl
      by (Some x) e =
          let c : Contains asked x = asked_has k d l x e in
          All-contains (λ y. bytes_eq u y ≡ false) asked x (each_fails (bytes_eq u) asked none) c
          ∙ sym (All-contains (λ y. bytes_eq t y ≡ false) asked x (each_fails (bytes_eq t) asked isnt) c)

      by_dir : (x : Option (List ℕ)) → dir_asked f a ≡ x → is_below x u ≡ is_below x t
      by_dir None e = refl
      by_dir (Some x) e = All-contains (λ y. lies_under (Some u) y ≡ lies_under (Some t) y) dirs x same (dirs_has k d l x e)

  -- ---- where the values are

  of_asked : (P : List ℕ → Type 0) (t : List ℕ) → Contains asked t → IsAllowed (limit_of f) t → P t → Any P (field_texts f atoms)
  of_asked P t c may h =
      any_in P (filter (is_allowed (limit_of f)) asked)
      (fresh_at (limit_of f) (plain_of f) asked dirs None ++ flat_map (λ d. fresh_at (limit_of f) (plain_of f) asked dirs (Some d)) dirs)
      (any_place P (filter (is_allowed (limit_of f)) asked) t (kept_by (is_allowed (limit_of f)) asked t c may) h)

  of_fresh : (P : List ℕ → Type 0) (at : Option (List ℕ)) → IsPlace (limit_of f) asked dirs at → (u : List ℕ)
      → fresh (limit_of f) (plain_of f) asked dirs at ≡ Some u → P u → Any P (field_texts f atoms)
  of_fresh P None p u e h =
      any_behind P (filter (is_allowed (limit_of f)) asked)
      (fresh_at (limit_of f) (plain_of f) asked dirs None ++ flat_map (λ d. fresh_at (limit_of f) (plain_of f) asked dirs (Some d)) dirs)
      (any_in P (fresh_at (limit_of f) (plain_of f) asked dirs None) (flat_map (λ d. fresh_at (limit_of f) (plain_of f) asked dirs (Some d)) dirs)
      (rw (ap option_to_list e) (0, u, omega arith, refl, h)))
  of_fresh P (Some d) (k, l, s) u e h =
      any_behind P (filter (is_allowed (limit_of f)) asked)
      (fresh_at (limit_of f) (plain_of f) asked dirs None ++ flat_map (λ d. fresh_at (limit_of f) (plain_of f) asked dirs (Some d)) dirs)
      (any_behind P (fresh_at (limit_of f) (plain_of f) asked dirs None) (flat_map (λ d. fresh_at (limit_of f) (plain_of f) asked dirs (Some d)) dirs)
      (Any-flat_map P (λ d. fresh_at (limit_of f) (plain_of f) asked dirs (Some d)) dirs
      (k, d, l, s, rw (ap option_to_list e) (0, u, omega arith, refl, h))))

  -- ---- a text stands for each

  by_place : (t : List ℕ) (at : Option (List ℕ)) → IsPlace (limit_of f) asked dirs at → IsAllowed (limit_of f) t → is_asked asked t ≡ false
      → All (λ e. lies_under (Some t) e ≡ is_within at e) dirs → Any (Stands t) (field_texts f atoms)
  by_place t at p may isnt placed = of (fresh_stands (limit_of f) asked dirs (plain_of f) at p t (is_fresh_there (limit_of f) asked dirs at t may isnt placed))
    where
      of : (u : List ℕ) × (fresh (limit_of f) (plain_of f) asked dirs at ≡ Some u) × Fresh (limit_of f) asked dirs at u
          × IsUpTo (text_part (plain_of f) u) (text_part (plain_of f) t) → Any (Stands t) (field_texts f atoms)
      of (u, e, g, up) =
          of_fresh (Stands t) at p u e (
            alike_text t u isnt (fresh_unasked (limit_of f) asked dirs at u g)
                (λ k d l. fresh_placed (limit_of f) asked dirs at u g k d l ∙ sym (placed k d l)),
            up,
          )

  stands : (t : List ℕ) → IsAllowed (limit_of f) t → Any (Stands t) (field_texts f atoms)
  stands t may = by (is_asked asked t) refl (list_any (λ d. lies_under (Some t) d) dirs) refl
    where
      by : (b : Bool) → is_asked asked t ≡ b → (c : Bool) → list_any (λ d. lies_under (Some t) d) dirs ≡ c → Any (Stands t) (field_texts f atoms)
      by true e c s = of_asked (Stands t) t (is_among asked t e) may ((λ k d l o. refl), up_to_itself (text_part (plain_of f) t))
      by false e false s = by_place t None tt may e (each_fails (λ d. lies_under (Some t) d) dirs s)
      by false e true s =
          let g : Longest t dirs = longest t dirs s in
          by_place t (Some g.dir) g.one may e (λ k d l. sym (below_longest t g.dir (get_or dirs k d) g.below (g.most k d l)))

  -- ---- and calls may have each

  fresh_allowed_at : (at : Option (List ℕ)) (o : Option (List ℕ)) → fresh (limit_of f) (plain_of f) asked dirs at ≡ o → All (IsAllowed (limit_of f)) (option_to_list o)
  fresh_allowed_at at None e = All-nil (IsAllowed (limit_of f))
  fresh_allowed_at at (Some u) e =
      All-cons (IsAllowed (limit_of f)) u [] (fresh_allowed (limit_of f) asked dirs at u (chosen_fresh (limit_of f) asked dirs (plain_of f) at u e))
      (All-nil (IsAllowed (limit_of f)))

  pub texts_allowed : All (IsAllowed (limit_of f)) (field_texts f atoms)
  texts_allowed =
      All-append (IsAllowed (limit_of f)) (filter (is_allowed (limit_of f)) asked)
      (fresh_at (limit_of f) (plain_of f) asked dirs None ++ flat_map (λ d. fresh_at (limit_of f) (plain_of f) asked dirs (Some d)) dirs)
      (filter_passes (is_allowed (limit_of f)) asked)
      (All-append (IsAllowed (limit_of f)) (fresh_at (limit_of f) (plain_of f) asked dirs None)
      (flat_map (λ d. fresh_at (limit_of f) (plain_of f) asked dirs (Some d)) dirs)
      (fresh_allowed_at None (fresh (limit_of f) (plain_of f) asked dirs None) refl)
      (All-flat_map (IsAllowed (limit_of f)) (λ d. fresh_at (limit_of f) (plain_of f) asked dirs (Some d)) dirs
      (λ k d l. fresh_allowed_at (Some (get_or dirs k d)) (fresh (limit_of f) (plain_of f) asked dirs (Some (get_or dirs k d))) refl)))

pub texts_stand : TextsStand
texts_stand f atoms t i may = stands f i atoms t may
