-- Each call on a lane's queue keeps the queue's rule.
-- By what the rule then says of each pass: of the one whose view changed what the call gives it, and of every other what it said before.
use Rattle.std.proofs.Common.{◌≡◌, ◌≢◌, ℕ, zero, suc, List, [], ◌∷◌, ◌++◌, length, set, sym, refl, ap, ◌∙◌, subst, ⊎_elim, inl, inr, ◌⊎◌, append_assoc, append-nil, arith, Option, Some, None}
use mathlib.Core.Option.{some, some-injective, some-ne-none}
use lib.ListN.{get_elem?}
use Rattle.crossbeam_queue.specs.Fifo.{Pushes, Pops, Forks, Merges, Learns}
use Rattle.crossbeam_queue.proofs.Lists.{at_set}
use Rattle.lane_queue.specs.Handing.{HasAll, IsAt, IsHanded, IsLastPut, IsLeft, Put, Taken, more}
use Rattle.lane_queue.specs.declared.queue.Handoff.{Handoff}
use Rattle.lane_queue.specs.declared.view.View.{View}

module _ (one pass : ℕ) (all : List Handoff) where
  -- a pass that may do it is the one
  is_one : (o : Option (List Handoff)) (own : List Handoff) → o ≡ Some own → HasAll one all pass o → pass ≡ one
  is_one None own e h = absurd cc
  is_one (Some xs) own e h = h.0

  -- and has all items
  has_all : (o : Option (List Handoff)) (own : List Handoff) → o ≡ Some own → HasAll one all pass o → own ≡ all
  has_all None own e h = absurd cc
  has_all (Some xs) own e h = cc (e, h.1)

  -- at another place too, once it is the one
  has_all_there : (there : ℕ) (o : Option (List Handoff)) → HasAll one all pass o → HasAll there all there o
  has_all_there there None h = tt
  has_all_there there (Some xs) h = (refl, h.1)

  -- with one more, it has one more
  has_more : (o : Option (List Handoff)) (x : Handoff) → HasAll one all pass o → HasAll one (all ++ x ∷ []) pass (more o x)
  has_more None x h = tt
  has_more (Some xs) x h = (h.0, ap (λ l. l ++ x ∷ []) h.1)

  -- of another pass, nothing is said, whatever the one is and has
  not_the_one : (new : ℕ) (now : List Handoff) (o : Option (List Handoff)) → pass ≢ one → HasAll one all pass o → HasAll new now pass o
  not_the_one new now None other h = tt
  not_the_one new now (Some xs) other h = absurd (other h.0)

-- what holds of the changed pass, and of each other that there was, holds of all
after_change : (F : ℕ → View → Type 0) (views : List View) (pass : ℕ) (w : View) → F pass w → ((j : ℕ) (u : View) → j ≢ pass → get_elem? views j ≡ some u → F j u)
    → (j : ℕ) (u : View) → get_elem? (set views pass w) j ≡ some u → F j u
after_change F views pass w mine others j u at = ⊎_elim
    (λ (x : (j ≡ pass) × (w ≡ u)). subst (λ (y : ℕ × View). F y.0 y.1) (λ i. (sym x.0 i, x.1 i)) mine)
    (λ (x : (j ≢ pass) × (get_elem? views j ≡ some u)). others j u x.0 x.1) (at_set views pass j w u at)

-- with one more pass, each is one of those before, or the last
with_last : (views : List View) (w u : View) (j : ℕ) → get_elem? (views ++ w ∷ []) j ≡ some u → (get_elem? views j ≡ some u) ⊎ ((j ≡ length views) × (w ≡ u))
with_last [] w u zero at = inr (refl, some-injective w u at)
with_last [] w u (suc j) at = absurd (some-ne-none u (sym at))
with_last (v ∷ vs) w u zero at = inl at
with_last (v ∷ vs) w u (suc j) at = ⊎_elim (λ x. inl x) (λ x. inr (ap suc x.0, x.1)) (with_last vs w u j at)

at_first : (pass : ℕ) (v : View) → get_elem? (record { put = Some []; taken = Some [] } ∷ []) pass ≡ some v → IsAt 0 0 [] [] pass v
at_first zero v at = subst (IsAt 0 0 [] [] 0) (some-injective (record { put = Some []; taken = Some [] }) v at) ((refl, refl), (refl, refl))
at_first (suc pass) v at = absurd (some-ne-none v (sym at))

-- a new queue
pub begins : IsHanded [] (record { put = Some []; taken = Some [] } ∷ [])
begins = (0, 0, [], [], refl, at_first)

-- an item is put by a pass that may put
pub pushes : (n pass : ℕ) (v : View) (own : List Handoff) (x : Handoff) → v.put ≡ Some own → Pushes IsHanded n pass v x (Put v x)
pushes n pass v own x may items views room h at =
    let mine = h.5 pass v at in
    let w : View = record v { put = more v.put x } in
    let here = is_one h.0 pass h.2 v.put own may mine.0 in (
      w,
      (
        h.0,
        h.1,
        h.2 ++ x ∷ [],
        h.3,
        ap (λ l. l ++ x ∷ []) h.4 ∙ append_assoc h.3 items (x ∷ []),
        after_change (IsAt h.0 h.1 (h.2 ++ x ∷ []) h.3) views pass w (has_more h.0 pass h.2 v.put x mine.0, mine.1)
            (λ j u other e. (not_the_one h.0 j h.2 h.0 (h.2 ++ x ∷ []) u.put (λ is. other (is ∙ sym here)) (h.5 j u e).0, (h.5 j u e).1)),
      ),
      refl,
    )

-- an item is taken by a pass that may take
pub pops : (pass : ℕ) (v : View) (own : List Handoff) → v.taken ≡ Some own → Pops IsHanded pass v (Taken v)
pops pass v own may x items views h at =
    let mine = h.5 pass v at in
    let w : View = record v { taken = more v.taken x } in
    let here = is_one h.1 pass h.3 v.taken own may mine.1 in (
      w,
      (
        h.0,
        h.1,
        h.2,
        h.3 ++ x ∷ [],
        h.4 ∙ sym (append_assoc h.3 (x ∷ []) items),
        after_change (IsAt h.0 h.1 h.2 (h.3 ++ x ∷ [])) views pass w (mine.0, has_more h.1 pass h.3 v.taken x mine.1)
            (λ j u other e. ((h.5 j u e).0, not_the_one h.1 j h.3 h.1 (h.3 ++ x ∷ []) u.taken (λ is. other (is ∙ sym here)) (h.5 j u e).1)),
      ),
      refl,
    )

-- the pass that takes is split from the one that puts
pub forks : (pass : ℕ) (v : View) (put taken : List Handoff) → v.put ≡ Some put → v.taken ≡ Some taken → Forks IsHanded pass v (record v { taken = None }) (record v { put = None })
forks pass v put taken may_put may_take items views h at =
    let left : View = record v { taken = None } in
    let right : View = record v { put = None } in
    let mine = h.5 pass v at in
    let here = is_one h.1 pass h.3 v.taken taken may_take mine.1 in
    let last = length (set views pass left) in
    let each = after_change (IsAt h.0 last h.2 h.3) views pass left (mine.0, tt)
    (λ j u other e. ((h.5 j u e).0, not_the_one h.1 j h.3 last h.3 u.taken (λ is. other (is ∙ sym here)) (h.5 j u e).1)) in (
      h.0,
      last,
      h.2,
      h.3,
      h.4,
      λ j u e. ⊎_elim (λ was. each j u was)
          (λ (x : (j ≡ last) × (right ≡ u)). subst (λ (y : ℕ × View). IsAt h.0 last h.2 h.3 y.0 y.1) (λ i. (sym x.0 i, x.1 i)) (tt, has_all_there h.1 pass h.3 last v.taken mine.1))
          (with_last (set views pass left) right u j e),
    )

-- and joined to it again
pub merges : (pass : ℕ) (v : View) (other : ℕ) (w : View) (put taken : List Handoff) → v.put ≡ Some put → w.taken ≡ Some taken
    → Merges IsHanded pass v other w (record v { taken = w.taken }) (record { put = None; taken = None })
merges pass v other w put taken may_put may_take items views h at apart at' =
    let both : View = record v { taken = w.taken } in
    let spent : View = record { put = None; taken = None } in
    let mine = h.5 pass v at in
    let was : get_elem? views other ≡ some w = ⊎_elim (λ (x : (other ≡ pass) × (both ≡ w)). absurd (apart x.0)) (λ (x : (other ≢ pass) × (get_elem? views other ≡ some w)). x.1) (at_set views pass other both w at') in
    let theirs = h.5 other w was in
    let there = is_one h.1 other h.3 w.taken taken may_take theirs.1 in
    let Now : ℕ → View → Type 0 = λ j u. j ≢ other → IsAt h.0 pass h.2 h.3 j u in
    let now = after_change Now views pass both (λ _. (mine.0, has_all_there h.1 other h.3 pass w.taken theirs.1))
    (λ j u _ e else. ((h.5 j u e).0, not_the_one h.1 j h.3 pass h.3 u.taken (λ is. else (is ∙ sym there)) (h.5 j u e).1)) in
    (h.0, pass, h.2, h.3, h.4, after_change (IsAt h.0 pass h.2 h.3) (set views pass both) other spent (tt, tt) (λ j u else e. now j u e else))

-- a pass that found no room: the last items that it has put
pub learns_full : (pass : ℕ) (v : View) → Learns IsHanded pass v (IsLastPut v)
learns_full pass v items views h at own e = (h.3, has_all h.0 pass h.2 v.put own e (h.5 pass v at).0 ∙ h.4)

-- one that has put all and taken all: what is left
pub learns_left : (pass : ℕ) (v : View) → Learns IsHanded pass v (IsLeft v)
learns_left pass v items views h at put taken e f =
    has_all h.0 pass h.2 v.put put e (h.5 pass v at).0 ∙ (h.4 ∙ ap (λ l. l ++ items) (sym (has_all h.1 pass h.3 v.taken taken f (h.5 pass v at).1)))

-- nothing left behind a list
pub none_left : (put taken items : List Handoff) → length items ≡ 0 → put ≡ taken ++ items → put ≡ taken
none_left put taken [] none is = is ∙ append-nil taken
none_left put taken (x ∷ items) none is = absurd (omega arith)
