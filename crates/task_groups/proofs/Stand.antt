-- Which state the groups hold after a row was changed or added.
-- By cases on whether a group is the one that changed.
use Rattle.std.proofs.Common.{◌≡◌, ◌≢◌, ◌⊎◌, inl, inr, ℕ, ◌+◌, ◌<◌, ◌≤◌, ◌^◌, Bool, true, false, List, [], ◌∷◌, ◌++◌, length, get_or, Option, Some, None, refl, sym, ap, ◌∙◌, subst, arith}
use Rattle.std.specs.Prelude.{◌↔◌, slice_get, ◌==◌, if◌then◌else◌}
use Rattle.std.proofs.lemmas.Bool.{cases_eq, cases_lt, eq-eqb, ne_eqb}
use Rattle.std.proofs.lemmas.List.{length-append, length-set}
use Rattle.std.proofs.lemmas.Option.{slice_get_within}
use Rattle.slab.specs.Slab.{get}
use Rattle.hist_model.specs.Memory.{byte_or, byte_stored}
use Rattle.hist_model.specs.declared.request.Obj.{Obj}
use Rattle.hist_model.specs.declared.script.MapRange.{MapRange}
use Rattle.sorted_list.specs.Entries.{NumbersRise, IsSet, entry_for}
use Rattle.sorted_list.proofs.Found.{rise-none}
use Rattle.sorted_list.proofs.Places.{get-within, get-snoc}
use Rattle.task_groups.specs.Descriptors.{descriptor_number}
use Rattle.task_groups.specs.Groups.{Has, Holds, IsGroup, HasRow, IsLive}
use Rattle.task_groups.specs.Lists.{page_number, uses_in}
use Rattle.task_groups.specs.Pages.{IsStore, IsStored, byte_in, bytes_in, count_at, count_in}
use Rattle.task_groups.specs.Ranges.{AllEndLow}
use Rattle.task_groups.specs.Rows.{Row, rows_of, row_at, uses_all, IsSoundRow, IsSound, IsPut, IsMoved, SameGroups, obj_in, mark_in, descriptor_in, SetsMark}
use Rattle.task_groups.specs.State.{Contents, State, Alike, Agree, IsSetTo, after, set_contents, with_change, with_group, with_stored, with_number}
use Rattle.task_groups.specs.declared.descriptors.Descriptor.{Descriptor}
use Rattle.task_groups.specs.declared.groups.Groups.{Groups}
use Rattle.task_groups.specs.declared.list.PageEntry.{PageEntry}
use Rattle.task_groups.specs.declared.pages.Page.{Page}
use Rattle.task_groups.specs.declared.pages.Pages.{Pages}
use Rattle.task_groups.proofs.Lists.{uses-none}
use Rattle.task_groups.proofs.Rows.{bare, put-there, row-cases, rows-apart, sound-put, moved-same, moved-stored, uses-added}
use Rattle.task_groups.proofs.Sets.{contents-set, same-set, set-here, set-other}
use Rattle.task_groups.proofs.Shares.{same-bytes}

-- ---- what a row has

has-alike : (map : List MapRange) (P : Pages) (r : Row) (c d : Contents) → Has map P r c → Alike c d → Has map P r d
has-alike map P r c d h a = record { bytes = λ l b m. h.bytes l b m ∙ sym (a.byte b); slots = λ l n. h.slots l n ∙ sym (a.slot n) }

has-pages : (map : List MapRange) (P Q : Pages) (r : Row) (c : Contents) → Has map P r c → ((b : ℕ) → byte_in Q r.pages b ≡ byte_in P r.pages b) → Has map Q r c
has-pages map P Q r c h s = record { bytes = λ l b m. s b ∙ h.bytes l b m; slots = h.slots }

has-stored : (map : List MapRange) (P Q : Pages) (r : Row) (c : Contents) (ys : List PageEntry) (a : ℕ) (v : List ℕ) → Has map P r c → IsStored P r.pages a v Q ys → Has map Q (record r { pages = ys }) (after (Some (a, v)) None c)
has-stored map P Q r c ys a v h s = record { bytes = λ l b m. s.here b ∙ ap (byte_or (byte_stored (Some (a, v)) b)) (h.bytes l b m); slots = h.slots }

has-slot : (map : List MapRange) (P : Pages) (r : Row) (c : Contents) (n : ℕ) (d : Option Descriptor) (xs : List Descriptor) → Has map P r c → IsSet descriptor_number r.descriptors n d xs → Has map P (record r { descriptors = xs }) (after None (Some (n, obj_in d)) c)
has-slot map P r c n d xs h i = record { bytes = h.bytes; slots = λ l m. ap obj_in (i.entries m) ∙ chosen m (m == n) (h.slots l m) }
  where
    chosen : (m : ℕ) (b : Bool) → obj_in (entry_for descriptor_number r.descriptors m) ≡ c.slot m → obj_in (if b then d else entry_for descriptor_number r.descriptors m) ≡ (if b then obj_in d else c.slot m)
    chosen m true e = refl
    chosen m false e = e

module _ (s : State) (old : Groups) (T : Holds s old) where
  row-below : (o : ℕ) (r : Row) → row_at old o ≡ Some r → o < s.made
  row-below o r h = omega (arith, slice_get_within (rows_of old) o r h, T.made)

  pub has_row : (o : ℕ) → o < s.made → HasRow old o
  has_row o l = get-within (rows_of old) o (omega (arith, T.made))

  -- a group with a living task was made
  pub living-made : (o : ℕ) → 0 < s.living o → o < s.made
  living-made o l = elim (cases_lt o s.made) [ inl h ↦ h | inr h ↦ absurd (omega (arith, l, T.no_tasks o h)) ]

  pub living_live : (o : ℕ) → 0 < s.living o → s.living o + s.handles o < 2 ^ 63 → IsLive old o
  living_live o l f =
      let r = has_row o (living-made o l) in
      let i = T.rows o r.0 r.1 in
      record { row = r.0; at = r.1; lives = rw i.living_is l; few = rw (i.living_is, i.handles_is) f }

  -- the numbers in its row are those of the state
  pub numbers : (o : ℕ) (r : Row) (n : ℕ × ℕ) → row_at old o ≡ Some r → n ≡ (r.living, r.handles) → (n.0 ≡ s.living o) × (n.1 ≡ s.handles o)
  numbers o r n at q = (ap (λ (x : ℕ × ℕ). x.0) q ∙ (T.rows o r at).living_is, ap (λ (x : ℕ × ℕ). x.1) q ∙ (T.rows o r at).handles_is)

  -- a task of a group that is live holds it
  pub live-lives : (o : ℕ) → IsLive old o → 0 < s.living o
  live-lives o l = rw (← (T.rows o l.row l.at).living_is) l.lives

  pub live-held : (o : ℕ) → IsLive old o → 0 < s.living o + s.handles o
  live-held o l = omega (arith, live-lives o l)

  -- a row was put
  pub put : (new : Groups) (o : ℕ) (r q : Row) (l h : ℕ → ℕ) (f : ℕ → Contents) (c : Contents) → row_at old o ≡ Some r → IsPut old o q new → IsMoved old.pages r.pages new.pages q.pages → IsSoundRow q
      → IsSetTo s.living o q.living l → IsSetTo s.handles o q.handles h → IsSetTo s.contents o c f → Has s.map new.pages q c → Holds (record s { living = l; handles = h; contents = f }) new
  put new o r q l h f c at i m k live handled set has =
      record {
        sound = sound-put old new o r q T.sound at i m k;
        map_is = i.map ∙ T.map_is;
        low = T.low;
        rlimit_is = i.rlimit ∙ T.rlimit_is;
        made = ap length i.rows ∙ (length-set (rows_of old) o q ∙ T.made);
        rows = λ p x g. elim (row-cases old new o p r q x at i g) [
          | inl e ↦ subst (λ (y : Row). IsGroup (record s { living = l; handles = h; contents = f }) new p y) e.1 (subst (λ (z : ℕ). IsGroup (record s { living = l; handles = h; contents = f }) new z q) (sym e.0)
              (record { living_is = sym live.here; handles_is = sym handled.here; has = subst (λ (y : Contents). Has s.map new.pages q y) (sym set.here) has }))
          | inr e ↦ other p x e.0 e.1
        ];
        no_tasks = λ p b. live.others p (past p b) ∙ T.no_tasks p b;
        no_handles = λ p b. handled.others p (past p b) ∙ T.no_handles p b;
      }
    where
      past : (p : ℕ) → s.made ≤ p → p ≢ o
      past p b e = omega (arith, b, e, row-below o r at)

      other : (p : ℕ) (x : Row) → p ≢ o → row_at old p ≡ Some x → IsGroup (record s { living = l; handles = h; contents = f }) new p x
      other p x d g =
          let j = T.rows p x g in
          record {
            living_is = j.living_is ∙ sym (live.others p d);
            handles_is = j.handles_is ∙ sym (handled.others p d);
            has = subst (λ (y : Contents). Has s.map new.pages x y) (sym (set.others p d)) (has-pages s.map old.pages new.pages x (s.contents p) j.has (m.others x.pages (rows-apart old o p r x T.sound at g d)));
          }

  -- what a group has was changed
  changed : (new : Groups) (o : ℕ) (r q : Row) (bytes : Option (ℕ × List ℕ)) (slot : Option (ℕ × Option Obj)) → row_at old o ≡ Some r → IsPut old o q new → IsMoved old.pages r.pages new.pages q.pages → IsSoundRow q
      → q.living ≡ r.living → q.handles ≡ r.handles → Has s.map new.pages q (after bytes slot (s.contents o)) → Holds (with_change o bytes slot s) new
  changed new o r q bytes slot at i m k l h has =
      let j = T.rows o r at in
      put new o r q s.living s.handles (set_contents o (after bytes slot (s.contents o)) s.contents) (after bytes slot (s.contents o)) at i m k
      (same-set s.living o q.living (sym (l ∙ j.living_is))) (same-set s.handles o q.handles (sym (h ∙ j.handles_is))) (contents-set s.contents o (after bytes slot (s.contents o))) has

  pub stored : (new : Groups) (o : ℕ) (r : Row) (ys : List PageEntry) (a : ℕ) (v : List ℕ) → row_at old o ≡ Some r → 0 < s.living o + s.handles o → IsPut old o (record r { pages = ys }) new → IsStored old.pages r.pages a v new.pages ys
      → Holds (with_stored o a v s) new
  stored new o r ys a v at l i w =
      let j = T.rows o r at in
      let k = T.sound.rows o r at in
      changed new o r (record r { pages = ys }) (Some (a, v)) None at i (moved-stored old.pages new.pages r.pages ys a v w)
      (record { pages_rise = w.rises; once = w.once; descriptors_rise = k.descriptors_rise; freed = λ z. absurd (omega (arith, l, z, j.living_is, j.handles_is)); closed = k.closed })
      refl refl (has-stored s.map old.pages new.pages r (s.contents o) ys a v j.has w)

  pub slotted : (new : Groups) (o n : ℕ) (d : Option Descriptor) (live : IsLive old o)
      → ((r : Row) → row_at old o ≡ Some r → (xs : List Descriptor) × (NumbersRise descriptor_number r.descriptors → IsSet descriptor_number r.descriptors n d xs) × IsPut old o (record r { descriptors = xs }) new) → new.pages ≡ old.pages
      → Holds (with_number o n (obj_in d) s) new
  slotted new o n d live f same =
      let r = live.row in
      let x = f r live.at in
      let k = T.sound.rows o r live.at in
      let w = x.1 k.descriptors_rise in
      changed new o r (record r { descriptors = x.0 }) None (Some (n, obj_in d)) live.at x.2 (moved-same old.pages new.pages r.pages T.sound.store same)
      (record { pages_rise = k.pages_rise; once = k.once; descriptors_rise = w.rise; freed = k.freed; closed = λ z. absurd (omega (arith, live.lives, z)) })
      refl refl (subst (λ (P : Pages). Has s.map P (record r { descriptors = x.0 }) (after None (Some (n, obj_in d)) (s.contents o))) (sym same)
      (has-slot s.map old.pages r (s.contents o) n d x.0 (T.rows o r live.at).has w))

  -- a row was added
  pub added : (new : Groups) (q : Row) (c : Contents) → rows_of new ≡ rows_of old ++ q ∷ [] → new.map.items ≡ old.map.items → new.rlimit ≡ old.rlimit → IsStore new.pages
      → ((p : ℕ) → count_at new.pages p ≡ count_at old.pages p + uses_in q.pages p) → ((zs : List PageEntry) (b : ℕ) → byte_in new.pages zs b ≡ byte_in old.pages zs b) → IsSoundRow q → q.living ≡ 1 → q.handles ≡ 0
      → Has s.map old.pages q c → Holds (with_group c s) new
  added new q c rows map_is rlimit_is store count bytes k one none has =
      record {
        sound = record {
          store = store;
          counted = λ p. omega (arith, count p, T.sound.counted p, uses-added (rows_of old) q p, ap (λ xs. uses_all xs p) rows);
          rows = λ p x g. elim (cases p x g) [ inl a ↦ T.sound.rows p x a | inr a ↦ subst IsSoundRow a.1 k ];
        };
        map_is = map_is ∙ T.map_is;
        low = T.low;
        rlimit_is = rlimit_is ∙ T.rlimit_is;
        made = ap length rows ∙ (length-append (rows_of old) (q ∷ []) ∙ ap (λ n. n + 1) T.made);
        rows = λ p x g. elim (cases p x g) [ inl a ↦ older p x a | inr a ↦ subst (λ (y : Row). IsGroup (with_group c s) new p y) a.1 (newest p (a.0 ∙ T.made)) ];
        no_tasks = λ p b. rw (ne_eqb p s.made (λ z. omega (arith, b, z))) (T.no_tasks p (omega (arith, b)));
        no_handles = λ p b. T.no_handles p (omega (arith, b));
      }
    where
      cases : (p : ℕ) (x : Row) → row_at new p ≡ Some x → (row_at old p ≡ Some x) ⊎ ((p ≡ length (rows_of old)) × (q ≡ x))
      cases p x g = get-snoc (rows_of old) q x p (ap (λ xs. slice_get xs p) (sym rows) ∙ g)

      older : (p : ℕ) (x : Row) → row_at old p ≡ Some x → IsGroup (with_group c s) new p x
      older p x a =
          let j = T.rows p x a in
          let l = row-below p x a in
          let d : p ≢ s.made = λ z. omega (arith, l, z) in
          record {
            living_is = rw (ne_eqb p s.made d) j.living_is;
            handles_is = j.handles_is;
            has = subst (λ (y : Contents). Has s.map new.pages x y) (sym (set-other s.made p c s.contents d)) (has-pages s.map old.pages new.pages x (s.contents p) j.has (bytes x.pages));
          }

      newest : (p : ℕ) → p ≡ s.made → IsGroup (with_group c s) new p q
      newest p z = record {
        living_is = rw (eq-eqb p s.made z) (omega (arith, one, T.no_tasks p (omega (arith, z))));
        handles_is = none ∙ sym (T.no_handles p (omega (arith, z)));
        has = subst (λ (y : Contents). Has s.map new.pages q y) (sym (set-here s.made p c s.contents z)) (has-pages s.map old.pages new.pages q c has (bytes q.pages));
      }

-- ---- numbers of holders

module _ (s : State) (old : Groups) (T : Holds s old) (new : Groups) (o n m : ℕ) (l h : ℕ → ℕ) (r : Row) (at : row_at old o ≡ Some r) (live : 0 < n → 0 < s.living o) (some : 0 < n + m → 0 < s.living o + s.handles o)
    (l-set : IsSetTo s.living o n l) (h-set : IsSetTo s.handles o m h) where
  lives : 0 < n → 0 < r.living
  lives k = rw (T.rows o r at).living_is (live k)

  holds : 0 < n + m → 0 < r.living + r.handles
  holds k = rw ((T.rows o r at).living_is, (T.rows o r at).handles_is) (some k)

  held : (q : Row) → IsPut old o q new → IsMoved old.pages r.pages new.pages q.pages → IsSoundRow q → q.living ≡ n → q.handles ≡ m → Has s.map new.pages q (s.contents o) → Holds (record s { living = l; handles = h }) new
  held q i k w x y has =
      put s old T new o r q l h s.contents (s.contents o) at i k w (subst (λ j. IsSetTo s.living o j l) (sym x) l-set) (subst (λ j. IsSetTo s.handles o j h) (sym y) h-set) (same-set s.contents o (s.contents o) refl) has

  -- a task is left, and a handle alone
  pub held-on : 0 < n → IsPut old o (record r { living = n; handles = m }) new → new.pages ≡ old.pages → Holds (record s { living = l; handles = h }) new
  held-on k i same =
      let w = T.sound.rows o r at in
      let has = (T.rows o r at).has in
      held (record r { living = n; handles = m }) i (moved-same old.pages new.pages r.pages T.sound.store same)
      (record { pages_rise = w.pages_rise; once = w.once; descriptors_rise = w.descriptors_rise; freed = λ z. absurd (omega (arith, k, z)); closed = λ z. absurd (omega (arith, k, z)) }) refl refl
      (subst (λ (P : Pages). Has s.map P (record r { living = n; handles = m }) (s.contents o)) (sym same) (record { bytes = λ k. has.bytes (holds k); slots = λ k. has.slots (lives k) }))

  pub held-open : n ≡ 0 → 0 < m → IsPut old o (record r { living = 0; handles = m; descriptors = [] }) new → new.pages ≡ old.pages → Holds (record s { living = l; handles = h }) new
  held-open z k i same =
      let w = T.sound.rows o r at in
      let has = (T.rows o r at).has in
      held (record r { living = 0; handles = m; descriptors = [] }) i (moved-same old.pages new.pages r.pages T.sound.store same)
      (record { pages_rise = w.pages_rise; once = w.once; descriptors_rise = rise-none descriptor_number; freed = λ n. absurd (omega (arith, k, n)); closed = λ n. refl }) (sym z) refl
      (subst (λ (P : Pages). Has s.map P (record r { living = 0; handles = m; descriptors = [] }) (s.contents o)) (sym same) (record { bytes = λ k. has.bytes (holds (omega (arith, k))); slots = λ k. absurd (omega arith) }))

  -- nobody is left
  pub held-none : n ≡ 0 → m ≡ 0 → IsPut old o (record bare { handles = m }) new → IsMoved old.pages r.pages new.pages [] → Holds (record s { living = l; handles = h }) new
  held-none z k i j =
      held (record bare { handles = m }) i j (record { pages_rise = rise-none page_number; once = λ p. omega (arith, uses-none p); descriptors_rise = rise-none descriptor_number; freed = λ n. refl; closed = λ n. refl }) (sym z) refl
      (record { bytes = λ n. absurd (omega (arith, k, n)); slots = λ n. absurd (omega arith) })

-- ---- states that tell the same

pub respects : (s t : State) (G : Groups) → Agree s t → Holds s G → Holds t G
respects s t G a T = record {
  sound = T.sound;
  map_is = T.map_is ∙ sym a.map;
  low = subst AllEndLow (sym a.map) T.low;
  rlimit_is = T.rlimit_is ∙ sym a.rlimit;
  made = T.made ∙ sym a.made;
  rows = λ o r g. let j = T.rows o r g in record {
    living_is = j.living_is ∙ sym (a.living o);
    handles_is = j.handles_is ∙ sym (a.handles o);
    has = subst (λ (map : List MapRange). Has map G.pages r (t.contents o)) (sym a.map) (has-alike s.map G.pages r (s.contents o) (t.contents o) j.has (a.contents o (row-below s G T o r g)));
  };
  no_tasks = λ o b. a.living o ∙ T.no_tasks o (omega (arith, b, a.made));
  no_handles = λ o b. a.handles o ∙ T.no_handles o (omega (arith, b, a.made));
}

-- so many hold each group, however they are counted
pub alike : (s : State) (living handles : ℕ → ℕ) (G : Groups) → Holds s G → ((o : ℕ) → living o ≡ s.living o) → ((o : ℕ) → handles o ≡ s.handles o) → Holds (record s { living = living; handles = handles }) G
alike s living handles G T l h =
    respects s (record s { living = living; handles = handles }) G (record { map = refl; rlimit = refl; made = refl; living = l; handles = h; contents = λ p b. record { byte = λ a. refl; slot = λ n. refl } }) T

-- nothing was stored and set
pub unchanged : (s : State) (o : ℕ) (G : Groups) → Holds s G → Holds (with_change o None None s) G
unchanged s o G T = respects s (with_change o None None s) G (record {
  map = refl;
  rlimit = refl;
  made = refl;
  living = λ p. refl;
  handles = λ p. refl;
  contents = λ p l. elim (cases_eq p o) [
    | inl q ↦ subst (λ (x : Contents). Alike (s.contents p) x) (sym (set-here o p (after None None (s.contents o)) s.contents q)) (subst (λ (x : ℕ). Alike (s.contents p) (after None None (s.contents x))) q (record { byte = λ a. refl; slot = λ n. refl }))
    | inr d ↦ subst (λ (x : Contents). Alike (s.contents p) x) (sym (set-other o p (after None None (s.contents o)) s.contents d)) (record { byte = λ a. refl; slot = λ n. refl })
  ];
}) T

-- ---- marks

pub marked : (old new : Groups) (o n : ℕ) (d : Option Descriptor) (live : IsLive old o)
    → ((r : Row) → row_at old o ≡ Some r → (xs : List Descriptor) × (NumbersRise descriptor_number r.descriptors → IsSet descriptor_number r.descriptors n d xs) × IsPut old o (record r { descriptors = xs }) new) → IsSound old → SetsMark old o n (mark_in d) new
marked old new o n d live f s m =
    let r = live.row in
    let x = f r live.at in
    let q : Row = record r { descriptors = x.0 } in
    let there = put-there old new o r q live.at x.2 in
    ap (λ (y : Option Row). mark_in (descriptor_in y m)) there ∙ (ap mark_in ((x.1 (s.rows o r live.at).descriptors_rise).entries m)
    ∙ (chosen (m == n) (entry_for descriptor_number r.descriptors m) ∙ ap (λ (y : Option Row). if m == n then mark_in d else mark_in (descriptor_in y m)) (sym live.at)))
  where
    chosen : (b : Bool) (y : Option Descriptor) → mark_in (if b then d else y) ≡ (if b then mark_in d else mark_in y)
    chosen true y = refl
    chosen false y = refl

-- ---- room

same-back : (T U : Groups) → SameGroups T U → SameGroups U T
same-back T U h = record { rows = sym h.rows; pages = sym h.pages; map = sym h.map; rlimit = sym h.rlimit }

same-holds : (s : State) (old new : Groups) → SameGroups old new → Holds s old → Holds s new
same-holds s old new h t = record {
  sound = record {
    store = λ p page g. t.sound.store p page (sym (same-page p) ∙ g);
    counted = λ p. ap count_in (same-page p) ∙ (t.sound.counted p ∙ ap (λ rows. uses_all rows p) (sym h.rows));
    rows = λ o r g. t.sound.rows o r (back o r g);
  };
  map_is = h.map ∙ t.map_is;
  low = t.low;
  rlimit_is = h.rlimit ∙ t.rlimit_is;
  made = ap length h.rows ∙ t.made;
  rows = λ o r g. let j = t.rows o r (back o r g) in record {
    living_is = j.living_is;
    handles_is = j.handles_is;
    has = has-pages s.map old.pages new.pages r (s.contents o) j.has (same-bytes old.pages new.pages r.pages (λ p l. ap bytes_in (same-page p)));
  };
  no_tasks = t.no_tasks;
  no_handles = t.no_handles;
}
  where
    same-page : (p : ℕ) → get new.pages.slots p ≡ get old.pages.slots p
    same-page p = ap (λ (ps : List (Option Page)). get_or ps p None) h.pages

    back : (o : ℕ) (r : Row) → row_at new o ≡ Some r → row_at old o ≡ Some r
    back o r g = ap (λ rows. slice_get rows o) (sym h.rows) ∙ g

pub holds_room : (s : State) (old new : Groups) → SameGroups old new → Holds s old ↔ Holds s new
holds_room s old new h = (same-holds s old new h, same-holds s new old (same-back old new h))
