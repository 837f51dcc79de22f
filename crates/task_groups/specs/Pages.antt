-- Pages, and what lists of them have.
use Rattle.std.specs.Prelude.{◌≡◌, ◌≢◌, ℕ, zero, suc, ◌+◌, ◌-◌, ◌/◌, ◌%◌, ◌<◌, ◌≤◌, ◌^◌, List, [], ◌∷◌, Option}
use Rattle.std.specs.Prelude.{Some, None, slice_index, vec_len}
use Rattle.slab.specs.Slab.{get, HasRoomFor}
use Rattle.hist_model.specs.Memory.{byte_or, byte_stored}
use Rattle.sorted_list.specs.Entries.{NumbersRise}
use Rattle.task_groups.specs.declared.list.PageEntry.{PageEntry}
use Rattle.task_groups.specs.declared.pages.Page.{Page}
use Rattle.task_groups.specs.declared.pages.Pages.{Pages}
use Rattle.task_groups.specs.Lists.{page_number, slot_of, uses_in, one_if, one_if_some}

abbrev pub count_in : Option Page → ℕ
count_in (Some page) = page.shares
count_in None = 0

abbrev pub bytes_in : Option Page → List ℕ
bytes_in (Some page) = page.bytes
bytes_in None = []

-- how many entries of lists have the page of a slot, and its bytes
abbrev pub count_at : Pages → ℕ → ℕ
count_at P p = count_in (get P.slots p)

abbrev pub bytes_at : Pages → ℕ → List ℕ
bytes_at P p = bytes_in (get P.slots p)

-- the bytes of the page of a slot, if there is one
abbrev pub bytes_at_some : Pages → Option ℕ → List ℕ
bytes_at_some P (Some p) = bytes_at P p
bytes_at_some P None = []

-- the byte at an address: that of its page, and 0 where its page isn't listed
abbrev pub byte_in : Pages → List PageEntry → ℕ → ℕ
byte_in P xs a = slice_index (bytes_at_some P (slot_of xs (a / 4096))) (a % 4096)

-- the bytes at n addresses, from one on
unfoldable pub bytes_from : (ℕ → ℕ) → ℕ → ℕ → List ℕ
bytes_from f a zero = []
bytes_from f a (suc n) = f a ∷ bytes_from f (a + 1) n

-- each slot's page is in use
abbrev pub IsStore : Pages → Type 0
IsStore P = (p : ℕ) (page : Page) → get P.slots p ≡ Some page → 0 < page.shares

-- the list is in order, has no page twice, and the pages count its entries
pub record IsList (P : Pages) (xs : List PageEntry) : Type 0 where
  pub rises : NumbersRise page_number xs
  pub once : (p : ℕ) → uses_in xs p ≤ 1
  pub counted : (p : ℕ) → uses_in xs p ≤ count_at P p

-- the pages count the entries of both lists
abbrev pub IsApart : Pages → List PageEntry → List PageEntry → Type 0
IsApart P xs ys = (p : ℕ) → uses_in ys p + uses_in xs p ≤ count_at P p

-- so many more pages take no memory
pub record HasPages (P : Pages) (k : ℕ) : Type 0 where
  pub slots : HasRoomFor P.slots k
  pub stock : k ≤ vec_len P.stock

-- how many pages so many bytes touch, from an offset in the first one on
abbrev pub pages_touched : ℕ → ℕ → ℕ
pages_touched offset n = (offset + n + 4095) / 4096

-- the slot was left by one entry
pub record IsLeft (old : Pages) (s : ℕ) (new : Pages) : Type 0 where
  pub count : (p : ℕ) → count_at new p ≡ count_at old p - one_if s p
  pub bytes : (p : ℕ) → 0 < count_at new p → bytes_at new p ≡ bytes_at old p

-- the same, if there is a slot
pub record IsLeftBySome (old : Pages) (s : Option ℕ) (new : Pages) : Type 0 where
  pub count : (p : ℕ) → count_at new p ≡ count_at old p - one_if_some s p
  pub bytes : (p : ℕ) → 0 < count_at new p → bytes_at new p ≡ bytes_at old p

-- one page more, with the bytes of this one
pub record IsPageAdded (old : Pages) (like : Option ℕ) (s : ℕ) (new : Pages) : Type 0 where
  pub vacant : count_at old s ≡ 0
  pub count : (p : ℕ) → count_at new p ≡ count_at old p + one_if s p
  pub others : (p : ℕ) → p ≢ s → bytes_at new p ≡ bytes_at old p
  pub here : (i : ℕ) → slice_index (bytes_at new s) i ≡ slice_index (bytes_at_some old like) i

-- the page of this number is listed at this slot, where nothing else has it, and each byte is as it was
pub record IsOwned (P : Pages) (xs : List PageEntry) (n s : ℕ) (Q : Pages) (ys : List PageEntry) : Type 0 where
  pub store : IsStore Q
  pub rises : NumbersRise page_number ys
  pub once : (p : ℕ) → uses_in ys p ≤ 1
  pub here : slot_of ys n ≡ Some s
  pub alone : count_at Q s ≡ 1
  pub same : (i : ℕ) → slice_index (bytes_at Q s) i ≡ slice_index (bytes_at_some P (slot_of xs n)) i
  pub others : (m : ℕ) → m ≢ n → slot_of ys m ≡ slot_of xs m
  pub bytes : (p : ℕ) → 0 < count_at P p → bytes_at Q p ≡ bytes_at P p
  pub moved : (p : ℕ) → count_at Q p + uses_in xs p ≡ count_at P p + uses_in ys p

-- a piece was written into the page of a slot
pub record IsPut (old : Pages) (s offset : ℕ) (piece : List ℕ) (new : Pages) : Type 0 where
  pub count : (p : ℕ) → count_at new p ≡ count_at old p
  pub others : (p : ℕ) → p ≢ s → bytes_at new p ≡ bytes_at old p
  pub here : 0 < count_at old s → (i : ℕ)
      → slice_index (bytes_at new s) i ≡ byte_or (byte_stored (Some (offset, piece)) i) (slice_index (bytes_at old s) i)

-- bytes were stored at an address of the space that has this list, and in no other
pub record IsStored (P : Pages) (xs : List PageEntry) (a : ℕ) (bytes : List ℕ) (Q : Pages) (ys : List PageEntry) : Type 0 where
  pub store : IsStore Q
  pub rises : NumbersRise page_number ys
  pub once : (p : ℕ) → uses_in ys p ≤ 1
  pub moved : (p : ℕ) → count_at Q p + uses_in xs p ≡ count_at P p + uses_in ys p
  pub here : (b : ℕ) → byte_in Q ys b ≡ byte_or (byte_stored (Some (a, bytes)) b) (byte_in P xs b)
  pub others : (zs : List PageEntry) → IsApart P xs zs → (b : ℕ) → byte_in Q zs b ≡ byte_in P zs b

-- the slot got one entry more
pub record IsSharedOnce (old : Pages) (s : ℕ) (new : Pages) : Type 0 where
  pub count : (p : ℕ) → (0 < one_if s p → 0 < count_at old p) → count_at old p + one_if s p < 2 ^ 64
      → count_at new p ≡ count_at old p + one_if s p
  pub bytes : (p : ℕ) → bytes_at new p ≡ bytes_at old p

-- each slot got as many entries more as this list has of it, or was left by them
pub record IsShared (old : Pages) (xs : List PageEntry) (new : Pages) : Type 0 where
  pub count : (p : ℕ) → (0 < uses_in xs p → 0 < count_at old p) → count_at old p + uses_in xs p < 2 ^ 64
      → count_at new p ≡ count_at old p + uses_in xs p
  pub bytes : (p : ℕ) → bytes_at new p ≡ bytes_at old p

pub record IsLeftByAll (old : Pages) (xs : List PageEntry) (new : Pages) : Type 0 where
  pub count : (p : ℕ) → count_at new p ≡ count_at old p - uses_in xs p
  pub bytes : (p : ℕ) → 0 < count_at new p → bytes_at new p ≡ bytes_at old p
