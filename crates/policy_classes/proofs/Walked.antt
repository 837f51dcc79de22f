-- What is kept while frames are looked at: each class is right, and each call is covered by a class or reached from a frame.
-- By what is kept of one frame where a field gets its values, and where nothing is left to decide.
use Rattle.std.proofs.Common.{◌≡◌, ℕ, ◌+◌, ◌≤◌, Bool, true, List, [], ◌∷◌, ◌++◌, length, map, get_or, Option, Some, None, ℤ, refl, ap, sym, ◌∙◌, subst, ◌⊎◌, inl, inr, arith}
use Rattle.std.specs.Prelude.{All, Any, Contains}
use Rattle.std.specs.List.{sum_by}
use Rattle.std.proofs.lemmas.List.{get_or_default}
use Rattle.std.proofs.lemmas.List.Elements.{All-append, All-contains, All-map, All-nil, All-weaker, Contains-push}
use Rattle.std.proofs.lemmas.List.Sums.{sum_by-append, sum_by_push}
use Rattle.hist_model.specs.Decisions.{decide}
use Rattle.hist_model.specs.Requests.{call_of_request}
use Rattle.hist_model.specs.declared.policy.Rule.{Rule}
use Rattle.hist_model.specs.declared.request.Request.{Request}
use Rattle.policy_classes.specs.declared.atoms.Field.{Field}
use Rattle.policy_classes.specs.declared.found.Class.{Class}
use Rattle.policy_classes.specs.Asked.{IsCall}
use Rattle.policy_classes.specs.Choices.{choices}
use Rattle.policy_classes.specs.Classes.{Adds, HasWitness, Holds, IsLeast, is_same, with_class}
use Rattle.policy_classes.specs.Looked.{Looked, Looks, LooksBy, class_of, looked_from, places_looked, start_frame, with_choice}
use Rattle.policy_classes.specs.Order.{is_at_most}
use Rattle.policy_classes.specs.Plain.{IsPlainRule, all_atoms, standing_call, standing_calls}
use Rattle.policy_classes.specs.Search.{atoms_left, left_of, next_field}
use Rattle.policy_classes.proofs.Added.{AreApart, Covers, added_all, added_apart, added_here, added_kept, apart_alone, are_same}
use Rattle.policy_classes.proofs.AllCalls.{Starts, all_start, none_decided, reached, state}
use Rattle.policy_classes.proofs.Counted.{Fits, each_behind, fits_behind, looked_some, none_behind, start_counts, start_fits}
use Rattle.policy_classes.proofs.FieldEq.{with_field}
use Rattle.policy_classes.proofs.Lists.{all_front, any_behind, any_in, any_made, any_parts, any_single}
use Rattle.policy_classes.proofs.Searched.{Reaches, State, found_places, next_state, one_reaches, own_places}
use Rattle.policy_classes.proofs.StandingCalls.{IsFor, stood_for, witness_asks}
use Rattle.policy_classes.proofs.Stands.{at_most}

-- ---- a frame is looked at

pub field_opens : (olds news : ℕ) (fr : Looked) (before after : List Looked) (found : List Class) (f : Field)
    → next_field fr.old fr.new ≡ Some f → after ≡ before ++ map (with_choice f fr) (choices f (atoms_left fr.old fr.new) fr.request)
    → Looks olds news fr before after found found
field_opens olds news fr before after found f e grows = rw e (grows, refl)

pub class_is_added : (olds news : ℕ) (fr : Looked) (before : List Looked) (found more : List Class)
    → next_field fr.old fr.new ≡ None → Adds (class_of olds news fr) found more → Looks olds news fr before before found more
class_is_added olds news fr before found more e adds = rw e (refl, adds)

-- ---- what is kept

module _ (old new : List Rule) where
  abbrev pub old_at : Request → ℕ
  old_at r = (decide old r).0

  abbrev pub new_at : Request → ℕ
  new_at r = (decide new r).0

  -- the state of a frame, for a call that stands for others
  abbrev pub StateOf : ℤ → (Field → Bool) → Looked → Type 0
  StateOf nr decided fr = State nr (IsFor nr) (length old) (length new) old_at new_at decided fr.request fr.old fr.new

  pub record FrameGoes (fr : Looked) : Type 0 where
    pub nr : ℤ
    pub stands : standing_call nr ≡ nr
    pub decided : Field → Bool
    pub goes : StateOf nr decided fr

  -- a call is reached from the frame
  pub record FrameHas (r : Request) (fr : Looked) : Type 0 where
    pub nr : ℤ
    pub stands : standing_call nr ≡ nr
    pub decided : Field → Bool
    pub goes : StateOf nr decided fr
    pub reaches : Reaches (length old) (length new) old_at new_at fr.request fr.old fr.new r

  -- each class is right and stands once, and each call is covered by a class or reached from a frame
  pub record Walks (found : List Class) (frames : List Looked) : Type 0 where
    pub right : All (HasWitness old new) found
    pub apart : AreApart found
    pub goes : All FrameGoes frames
    pub there : (r : Request) → IsCall r → Any (Covers old new r) found ⊎ Any (FrameHas r) frames

module _ (old new : List Rule) (plain_old : All IsPlainRule old) (plain_new : All IsPlainRule new) where
  of_start : (nr : ℤ) → Starts nr → FrameGoes old new (start_frame old new nr)
  of_start nr s = record { nr = nr; stands = s.stands; decided = none_decided; goes = state old new plain_old plain_new nr s }

  pub walk_starts : Walks old new [] (map (start_frame old new) standing_calls)
  walk_starts = record {
    right = All-nil (HasWitness old new);
    apart = tt;
    goes = All-map (FrameGoes old new) (start_frame old new) standing_calls (All-weaker Starts (λ nr. FrameGoes old new (start_frame old new nr)) of_start standing_calls all_start);
    there = λ r c. inr (any_made (FrameHas old new r) (start_frame old new) standing_calls (of r c (stood_for (call_of_request r))));
  }
    where
      of : (r : Request) → IsCall r → Contains standing_calls (standing_call (call_of_request r)) → Any (λ nr. FrameHas old new r (start_frame old new nr)) standing_calls
      of r c (k, l, e) =
          let s : Starts (standing_call (call_of_request r)) = All-contains Starts standing_calls (standing_call (call_of_request r)) all_start (k, l, e) in (
            k,
            standing_call (call_of_request r),
            l,
            e,
            record {
              nr = standing_call (call_of_request r);
              stands = s.stands;
              decided = none_decided;
              goes = state old new plain_old plain_new (standing_call (call_of_request r)) s;
              reaches = reached old new plain_old plain_new (standing_call (call_of_request r)) s r (record { call = c; number = refl });
            },
          )

  -- ---- nothing is left to decide

  class_is_right : (fr : Looked) → FrameGoes old new fr → next_field fr.old fr.new ≡ None → HasWitness old new (class_of (length old) (length new) fr)
  class_is_right fr g e =
      let places = own_places g.nr (IsFor g.nr) (witness_asks g.nr g.stands) (length old) (length new) (old_at old new) (new_at old new)
      g.decided fr.request fr.old fr.new g.goes e in (g.goes.witness.call, places.0, places.1)

  class_covers : (fr : Looked) (r : Request) → FrameHas old new r fr → next_field fr.old fr.new ≡ None → Covers old new r (class_of (length old) (length new) fr)
  class_covers fr r h e = (
    found_places h.nr (IsFor h.nr) (witness_asks h.nr h.stands) (length old) (length new) (old_at old new) (new_at old new)
        fr.request fr.old fr.new r h.reaches e,
    at_most fr.request r h.reaches.up,
  )

  pub class_added : (found more : List Class) (frames : List Looked) (fr : Looked) → Walks old new found (frames ++ fr ∷ []) → next_field fr.old fr.new ≡ None
      → more ≡ with_class found (class_of (length old) (length new) fr) → Walks old new more frames
  class_added found more frames fr w e adds = record {
    right = subst (All (HasWitness old new)) (sym adds)
        (added_all (HasWitness old new) found (class_of (length old) (length new) fr) w.right
        (class_is_right fr (All-contains (FrameGoes old new) (frames ++ fr ∷ []) fr w.goes (Contains-push frames fr)) e));
    apart = subst AreApart (sym adds) (added_apart found (class_of (length old) (length new) fr) w.apart);
    goes = all_front (FrameGoes old new) frames (fr ∷ []) w.goes;
    there = λ r c. by r (w.there r c);
  }
    where
      of_parts : (r : Request) → Any (FrameHas old new r) frames ⊎ Any (FrameHas old new r) (fr ∷ []) → Any (Covers old new r) more ⊎ Any (FrameHas old new r) frames
      of_parts r (inl a) = inr a
      of_parts r (inr a) =
          inl (subst (Any (Covers old new r)) (sym adds)
          (added_here old new r found (class_of (length old) (length new) fr) (class_covers fr r (any_single (FrameHas old new r) fr a) e)))

      by : (r : Request) → Any (Covers old new r) found ⊎ Any (FrameHas old new r) (frames ++ fr ∷ []) → Any (Covers old new r) more ⊎ Any (FrameHas old new r) frames
      by r (inl a) = inl (subst (Any (Covers old new r)) (sym adds) (added_kept old new r found (class_of (length old) (length new) fr) a))
      by r (inr a) = of_parts r (any_parts (FrameHas old new r) frames (fr ∷ []) a)

  -- ---- a field gets its values

  pub field_opened : (found : List Class) (frames : List Looked) (fr : Looked) (f : Field) → Walks old new found (frames ++ fr ∷ [])
      → next_field fr.old fr.new ≡ Some f → Walks old new found (frames ++ map (with_choice f fr) (choices f (atoms_left fr.old fr.new) fr.request))
  field_opened found frames fr f w e = record {
    right = w.right;
    apart = w.apart;
    goes = All-append (FrameGoes old new) frames (map (with_choice f fr) (choices f (atoms_left fr.old fr.new) fr.request)) (all_front (FrameGoes old new) frames (fr ∷ []) w.goes)
        (of_frame (All-contains (FrameGoes old new) (frames ++ fr ∷ []) fr w.goes (Contains-push frames fr)));
    there = λ r c. by r c (w.there r c);
  }
    where
      of_frame : FrameGoes old new fr → All (FrameGoes old new) (map (with_choice f fr) (choices f (atoms_left fr.old fr.new) fr.request))
      of_frame g =
          All-map (FrameGoes old new) (with_choice f fr) (choices f (atoms_left fr.old fr.new) fr.request)
          (All-weaker (λ p. StateOf old new g.nr (with_field g.decided f) (with_choice f fr p)) (λ p. FrameGoes old new (with_choice f fr p))
          (λ p s. record { nr = g.nr; stands = g.stands; decided = with_field g.decided f; goes = s }) (choices f (atoms_left fr.old fr.new) fr.request)
          (next_state g.nr (IsFor g.nr) (witness_asks g.nr g.stands)
          (length old) (length new) (old_at old new) (new_at old new) g.decided fr.request fr.old fr.new f g.goes e))

      of_one : (r : Request) → IsCall r → FrameHas old new r fr → Any (FrameHas old new r) (map (with_choice f fr) (choices f (atoms_left fr.old fr.new) fr.request))
      of_one r c h =
          any_made (FrameHas old new r) (with_choice f fr) (choices f (atoms_left fr.old fr.new) fr.request)
          (from (one_reaches h.nr (IsFor h.nr) (witness_asks h.nr h.stands) (length old) (length new) (old_at old new) (new_at old new)
          h.decided fr.request fr.old fr.new f h.goes e r c h.reaches))
        where
          from : Any (λ p. Reaches (length old) (length new) (old_at old new) (new_at old new) p (left_of f p fr.old) (left_of f p fr.new) r
              × StateOf old new h.nr (with_field h.decided f) (with_choice f fr p)) (choices f (atoms_left fr.old fr.new) fr.request)
              → Any (λ p. FrameHas old new r (with_choice f fr p)) (choices f (atoms_left fr.old fr.new) fr.request)
          from (k, p, l, i, both) =
              (k, p, l, i, record { nr = h.nr; stands = h.stands; decided = with_field h.decided f; goes = both.1; reaches = both.0 })

      of_parts : (r : Request) → IsCall r → Any (FrameHas old new r) frames ⊎ Any (FrameHas old new r) (fr ∷ [])
          → Any (FrameHas old new r) (frames ++ map (with_choice f fr) (choices f (atoms_left fr.old fr.new) fr.request))
      of_parts r c (inl a) = any_in (FrameHas old new r) frames (map (with_choice f fr) (choices f (atoms_left fr.old fr.new) fr.request)) a
      of_parts r c (inr a) =
          any_behind (FrameHas old new r) frames (map (with_choice f fr) (choices f (atoms_left fr.old fr.new) fr.request)) (of_one r c (any_single (FrameHas old new r) fr a))

      by : (r : Request) → IsCall r → Any (Covers old new r) found ⊎ Any (FrameHas old new r) (frames ++ fr ∷ [])
          → Any (Covers old new r) found ⊎ Any (FrameHas old new r) (frames ++ map (with_choice f fr) (choices f (atoms_left fr.old fr.new) fr.request))
      by r c (inl a) = inl a
      by r c (inr a) = inr (of_parts r c (any_parts (FrameHas old new r) frames (fr ∷ []) a))

  -- ---- one frame is looked at

  pub looked_on : (found more : List Class) (frames before after : List Looked) (fr : Looked) → Walks old new found frames
      → frames ≡ before ++ fr ∷ [] → Looks (length old) (length new) fr before after found more → Walks old new more after
  looked_on found more frames before after fr w popped looks =
      by (next_field fr.old fr.new) refl (subst (Walks old new found) popped w) looks
    where
      by : (o : Option Field) → next_field fr.old fr.new ≡ o → Walks old new found (before ++ fr ∷ [])
          → LooksBy o (length old) (length new) fr before after found more → Walks old new more after
      by (Some f) e g (grows, same) =
          subst (λ xs. Walks old new xs after) (sym same) (subst (Walks old new found) (sym grows) (field_opened found before fr f g e))
      by None e g (same, adds) = subst (Walks old new more) (sym same) (class_added found more before fr g e adds)

  -- ---- the end

  pub walk_covers : (found : List Class) (frames : List Looked) → length frames ≡ 0 → Walks old new found frames
      → (r : Request) → IsCall r → Any (Covers old new r) found
  walk_covers found frames none w r c = by (w.there r c)
    where
      by : Any (Covers old new r) found ⊎ Any (FrameHas old new r) frames → Any (Covers old new r) found
      by (inl a) = a
      by (inr (k, x, l, e, h)) = absurd (omega arith)

  pub walk_ends : (found : List Class) (frames : List Looked) → length frames ≡ 0 → Walks old new found frames
      → (r : Request) → IsCall r → Any (Holds old new r) found
  walk_ends found frames none w r c = of (walk_covers found frames none w r c)
    where
      of : Any (Covers old new r) found → Any (Holds old new r) found
      of (k, d, l, e, h) = (k, d, l, e, h.0)

  -- the class that covers a call of a class is that one
  pub walk_least : (found : List Class) (frames : List Looked) → length frames ≡ 0 → Walks old new found frames → All (IsLeast old new) found
  walk_least found frames none w k x l q c h = of (walk_covers found frames none w q c)
    where
      of : Any (Covers old new q) found → is_at_most (get_or found k x).witness q ≡ true
      of (j, d, m, e, g) =
          let same : is_same d (get_or found k x) ≡ true = are_same d (get_or found k x) (g.0.0 ∙ sym h.0) (g.0.1 ∙ sym h.1) in
          let one : d ≡ get_or found k x = apart_alone found d (get_or found k x) w.apart (j, m, e) (k, l, get_or_default found k (get_or found k x) x l) same in
          subst (λ (y : Class). is_at_most y.witness q ≡ true) one g.1

-- ---- how many frames are looked at

-- the frames that were looked at and those that still are to be make up all
pub record Counts (total n bound left : ℕ) (frames : List Looked) : Type 0 where
  pub fits : All (Fits n) frames
  pub sum : sum_by (looked_from n) frames + bound ≡ total + left

pub count_starts : (old new : List Rule) (bound : ℕ)
    → Counts (places_looked old new) (length (all_atoms old new)) bound bound (map (start_frame old new) standing_calls)
unfolding places_looked
count_starts old new bound = record {
  fits = All-map (Fits (length (all_atoms old new))) (start_frame old new) standing_calls (λ k d l. start_fits old new (get_or standing_calls k d));
  sum = ap (λ n. n + bound) (start_counts old new (length (all_atoms old new)) standing_calls);
}

pub count_on : (total n bound before_left left olds news : ℕ) (found more : List Class) (frames before after : List Looked) (fr : Looked)
    → before_left ≡ left + 1 → Counts total n bound before_left frames → frames ≡ before ++ fr ∷ [] → Looks olds news fr before after found more → Counts total n bound left after
count_on total n bound before_left left olds news found more frames before after fr less c popped looks =
    by (next_field fr.old fr.new) refl looks
  where
    fits : All (Fits n) (before ++ fr ∷ [])
    fits = subst (All (Fits n)) popped c.fits

    fit : Fits n fr
    fit = All-contains (Fits n) (before ++ fr ∷ []) fr fits (Contains-push before fr)

    all : sum_by (looked_from n) before + looked_from n fr + bound ≡ total + before_left
    all = ap (λ x. x + bound) (sym (sum_by_push (looked_from n) before fr)) ∙ ap (λ xs. sum_by (looked_from n) xs + bound) (sym popped) ∙ c.sum

    by : (o : Option Field) → next_field fr.old fr.new ≡ o → LooksBy o olds news fr before after found more → Counts total n bound left after
    by None e (same, adds) = record {
      fits = subst (All (Fits n)) (sym same) (all_front (Fits n) before (fr ∷ []) fits);
      sum = ap (λ xs. sum_by (looked_from n) xs + bound) same ∙ (let one = none_behind n fr fit e in omega (arith, all, less));
    }
    by (Some f) e (grows, same) = record {
      fits = subst (All (Fits n)) (sym grows) (All-append (Fits n) before (map (with_choice f fr) (choices f (atoms_left fr.old fr.new) fr.request))
          (all_front (Fits n) before (fr ∷ []) fits) (fits_behind n fr f fit e));
      sum = ap (λ xs. sum_by (looked_from n) xs + bound) grows
          ∙ (let parts = sum_by-append (looked_from n) before (map (with_choice f fr) (choices f (atoms_left fr.old fr.new) fr.request)) in
          let some = each_behind n fr f fit e in omega (arith, all, less));
    }

-- where a frame is left and none may be looked at any more, there are more than may be
pub count_stops : (total n bound left : ℕ) (frames before : List Looked) (fr : Looked) → Counts total n bound left frames → frames ≡ before ++ fr ∷ [] → left ≡ 0
    → total ≤ bound → ⊥
count_stops total n bound left frames before fr c popped e l =
    let fit : Fits n fr = All-contains (Fits n) (before ++ fr ∷ []) fr (subst (All (Fits n)) popped c.fits) (Contains-push before fr) in
    let some = looked_some n fr fit in
    let all : sum_by (looked_from n) before + looked_from n fr + bound ≡ total + left =
    ap (λ x. x + bound) (sym (sum_by_push (looked_from n) before fr)) ∙ ap (λ xs. sum_by (looked_from n) xs + bound) (sym popped) ∙ c.sum in
    absurd (omega arith)

-- where none is left, all were looked at
pub count_ends : (total n bound left : ℕ) (frames : List Looked) → Counts total n bound left frames → length frames ≡ 0 → total ≤ bound
count_ends total n bound left [] c e = let s = c.sum in omega arith
count_ends total n bound left (fr ∷ frames) c e = absurd (omega arith)
