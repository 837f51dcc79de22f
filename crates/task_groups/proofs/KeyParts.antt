-- The parts of a key of groups end by themselves, and so they tell the bytes and the descriptors of each group.
-- A group is told by its pages, each with its number and its bytes, wherever they are kept; a descriptor by its parts.
use Rattle.std.proofs.Common.{◌≡◌, inl, inr, ℕ, ◌+◌, ◌/◌, ◌%◌, ◌<◌, Bool, true, false, List, [], ◌∷◌, map, ◌++◌, length, Some, refl, sym, ap, ap₂, ◌∙◌, arith}
use Rattle.std.specs.Prelude.{◌==◌, if◌then◌else◌, Option, option_map, slice_get, slice_index, unwrap_or}
use Rattle.std.specs.List.{flat_map}
use Rattle.std.proofs.lemmas.Bool.{cases_lt}
use Rattle.std.proofs.lemmas.List.{length-map}
use Rattle.std.proofs.lemmas.List.Folds.{flat_map-map}
use Rattle.std.proofs.lemmas.Option.{slice_get-map}
use Rattle.hist_model.specs.Memory.{is_mapped}
use Rattle.hist_model.specs.declared.request.Obj.{Obj}
use Rattle.hist_model.specs.declared.request.Obj.TheVariants.{Broker, Console, Node}
use Rattle.hist_model.specs.declared.script.MapRange.{MapRange}
use Rattle.key_bytes.specs.Parts.{Ends, flag_part, list_part, number_part, pair_part, text_part}
use Rattle.key_bytes.proofs.Ending.{flag_ends, list_ends, pair_ends, text_ends, told_ends}
use Rattle.key_bytes.proofs.Numbers.{number_ends}
use Rattle.sorted_list.specs.Entries.{entry_for}
use Rattle.task_groups.specs.Descriptors.{descriptor_number}
use Rattle.task_groups.specs.Groups.{Holds}
use Rattle.task_groups.specs.Keys.{HaveSame, TellGroups, TellHeld, descriptor_part, group_part, groups_part, object_code, object_number, page_part}
use Rattle.task_groups.specs.Lists.{page_number, slot_of}
use Rattle.task_groups.specs.Pages.{byte_in, bytes_at, bytes_at_some}
use Rattle.task_groups.specs.Rows.{Row, obj_in, row_at, row_of, rows_of}
use Rattle.task_groups.specs.State.{State}
use Rattle.task_groups.specs.declared.descriptors.Descriptor.{Descriptor}
use Rattle.task_groups.specs.declared.groups.Group.{Group}
use Rattle.task_groups.specs.declared.groups.Groups.{Groups}
use Rattle.task_groups.specs.declared.list.PageEntry.{PageEntry}
use Rattle.task_groups.specs.declared.pages.Pages.{Pages}
use Rattle.task_groups.proofs.Stand.{has_row, living-made}

-- ---- Descriptors

object_with : ℕ → ℕ → Obj
object_with kind n = if kind == 0 then Console else (if kind == 1 then Node (record { ordinal = n }) else Broker n)

same-object : (x : Obj) → object_with (object_code x) (object_number x) ≡ x
unfolding object_with
same-object Console = refl
same-object (Node node) = refl
same-object (Broker file) = refl

abbrev DescriptorParts : Type 0
DescriptorParts = ((ℕ × ℕ) × ℕ) × Bool

descriptor_ends : Ends descriptor_part
descriptor_ends = told_ends (λ (d : Descriptor). (((d.number, object_code d.obj), object_number d.obj), d.cloexec))
    (λ (p : DescriptorParts). record { number = p.0.0.0; obj = object_with p.0.0.1 p.0.1; cloexec = p.1 })
    (pair_part (pair_part (pair_part number_part number_part) number_part) flag_part) (λ d. ap (λ (x : Obj). record d { obj = x }) (same-object d.obj))
    (pair_ends (pair_part (pair_part number_part number_part) number_part) flag_part
    (pair_ends (pair_part number_part number_part) number_part (pair_ends number_part number_part number_ends number_ends) number_ends) flag_ends)

-- ---- Pages: each with its number and its bytes

abbrev ToldPage : Type 0
ToldPage = ℕ × List ℕ

told_page : Pages → PageEntry → ToldPage
told_page P e = (e.number, bytes_at P e.slot)

pages-are : (P : Pages) (xs : List PageEntry) → list_part (page_part P) xs ≡ list_part (pair_part number_part text_part) (map (told_page P) xs)
unfolding told_page
pages-are P xs = ap₂ (λ (n : ℕ) (more : List ℕ). number_part n ++ more) (sym (length-map xs (told_page P))) (sym (flat_map-map (pair_part number_part text_part) (told_page P) xs))

-- the bytes of the page with this number
told_bytes : List ToldPage → ℕ → List ℕ
told_bytes [] n = []
told_bytes (t ∷ ts) n = if t.0 == n then t.1 else told_bytes ts n

bytes-told : (P : Pages) (xs : List PageEntry) (n : ℕ) → bytes_at_some P (slot_of xs n) ≡ told_bytes (map (told_page P) xs) n
unfolding slot_of entry_for told_bytes told_page
bytes-told P [] n = refl
bytes-told P (e ∷ es) n = chosen (e.number == n) (bytes-told P es n)
  where
    chosen : (b : Bool) → bytes_at_some P (slot_of es n) ≡ told_bytes (map (told_page P) es) n
        → bytes_at_some P (option_map (λ (x : PageEntry). x.slot) (if b then Some e else entry_for page_number es n)) ≡ (if b then bytes_at P e.slot else told_bytes (map (told_page P) es) n)
    chosen true more = refl
    chosen false more = more

-- ---- Groups

abbrev ToldGroup : Type 0
ToldGroup = List ToldPage × List Descriptor

told_row : Pages → Row → ToldGroup
told_row P r = (map (told_page P) r.pages, r.descriptors)

told_part : ToldGroup → List ℕ
told_part = pair_part (list_part (pair_part number_part text_part)) (list_part descriptor_part)

told_end : Ends told_part
unfolding told_part
told_end = pair_ends (list_part (pair_part number_part text_part)) (list_part descriptor_part)
    (list_ends (pair_part number_part text_part) (pair_ends number_part text_part number_ends text_ends)) (list_ends descriptor_part descriptor_ends)

group-is : (P : Pages) (g : Group) → group_part P g ≡ told_part (told_row P (row_of g))
unfolding told_part told_row
group-is P g = ap (λ (pages : List ℕ). pages ++ list_part descriptor_part g.descriptors.items) (pages-are P g.pages.items)

-- the parts of groups, one after another
all-are : (P : Pages) (gs : List Group) → flat_map (group_part P) gs ≡ flat_map told_part (map (told_row P) (map row_of gs))
all-are P [] = refl
all-are P (g ∷ gs) = ap₂ (λ (own more : List ℕ). own ++ more) (group-is P g) (all-are P gs)

count-is : (P : Pages) (gs : List Group) → length (map (told_row P) (map row_of gs)) ≡ length gs
count-is P gs = length-map (map row_of gs) (told_row P) ∙ length-map gs row_of

groups-are : (G : Groups) → groups_part G ≡ list_part told_part (map (told_row G.pages) (rows_of G))
groups-are G = ap₂ (λ (n : ℕ) (more : List ℕ). number_part n ++ more) (sym (count-is G.pages G.rows.items)) (all-are G.pages G.rows.items)

-- ---- What equal ones tell

module _ (a b : Groups) (same : map (told_row a.pages) (rows_of a) ≡ map (told_row b.pages) (rows_of b)) where
  same-count : length (rows_of a) ≡ length (rows_of b)
  same-count = sym (length-map (rows_of a) (told_row a.pages)) ∙ (ap (λ (ts : List ToldGroup). length ts) same ∙ length-map (rows_of b) (told_row b.pages))

  same-row : (o : ℕ) (p q : Row) → row_at a o ≡ Some p → row_at b o ≡ Some q → told_row a.pages p ≡ told_row b.pages q
  same-row o p q s t =
      let z : Some (told_row a.pages p) ≡ Some (told_row b.pages q) =
      sym (slice_get-map (told_row a.pages) (rows_of a) o ∙ ap (option_map (told_row a.pages)) s)
      ∙ (ap (λ (ts : List ToldGroup). slice_get ts o) same ∙ (slice_get-map (told_row b.pages) (rows_of b) o ∙ ap (option_map (told_row b.pages)) t)) in
      ap (λ (x : Option ToldGroup). unwrap_or x (told_row a.pages p)) z

  same-bytes : (o : ℕ) (p q : Row) → row_at a o ≡ Some p → row_at b o ≡ Some q → (x : ℕ) → byte_in a.pages p.pages x ≡ byte_in b.pages q.pages x
  unfolding told_row
  same-bytes o p q s t x =
      ap (λ (bytes : List ℕ). slice_index bytes (x % 4096)) (bytes-told a.pages p.pages (x / 4096)
      ∙ (ap (λ (g : ToldGroup). told_bytes g.0 (x / 4096)) (same-row o p q s t) ∙ sym (bytes-told b.pages q.pages (x / 4096))))

  have_same : HaveSame a b
  unfolding told_row
  have_same = record { made = same-count; bytes = same-bytes; descriptors = λ o p q s t. ap (λ (g : ToldGroup). g.1) (same-row o p q s t) }

pub groups_end : TellGroups
groups_end a b r s q =
    let z : list_part told_part (map (told_row a.pages) (rows_of a)) ++ r ≡ list_part told_part (map (told_row b.pages) (rows_of b)) ++ s =
    ap (λ (bytes : List ℕ). bytes ++ r) (sym (groups-are a)) ∙ (q ∙ ap (λ (bytes : List ℕ). bytes ++ s) (groups-are b)) in
    let p = list_ends told_part told_end (map (told_row a.pages) (rows_of a)) (map (told_row b.pages) (rows_of b)) r s z in
    (have_same a b p.0, p.1)

-- ---- The states that are held

-- a group that somebody holds was made
held-made : (s : State) (G : Groups) → Holds s G → (o : ℕ) → 0 < s.living o + s.handles o → o < s.made
held-made s G T o l = elim (cases_lt o s.made) [ inl h ↦ h | inr h ↦ absurd (omega (arith, l, T.no_tasks o h, T.no_handles o h)) ]

pub held_same : TellHeld
held_same a b s t h A B m = record {
  made = sym A.made ∙ (h.made ∙ B.made);
  bytes = λ o l k x mapped.
      let p = has_row s a A o (held-made s a A o l) in
      let q = has_row t b B o (held-made t b B o k) in
      let i = A.rows o p.0 p.1 in
      let j = B.rows o q.0 q.1 in
      sym (i.has.bytes (rw (i.living_is, i.handles_is) l) x mapped)
      ∙ (h.bytes o p.0 q.0 p.1 q.1 x ∙ j.has.bytes (rw (j.living_is, j.handles_is) k) x (ap (λ (ranges : List MapRange). is_mapped ranges x) (sym m) ∙ mapped));
  slots = λ o l k n.
      let p = has_row s a A o (living-made s a A o l) in
      let q = has_row t b B o (living-made t b B o k) in
      let i = A.rows o p.0 p.1 in
      let j = B.rows o q.0 q.1 in
      sym (i.has.slots (rw i.living_is l) n)
      ∙ (ap (λ (ds : List Descriptor). obj_in (entry_for descriptor_number ds n)) (h.descriptors o p.0 q.0 p.1 q.1) ∙ j.has.slots (rw j.living_is k) n);
}
