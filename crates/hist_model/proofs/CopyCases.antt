-- Worked examples of copies, computed by the definitions.
-- By `refl`: both sides of each equation compute to the same value.
use Rattle.std.proofs.Common.{◌≡◌, ℕ, List, [], ◌∷◌, None, Some, refl}
use Rattle.std.specs.Prelude.{pos, Option, Ok, Err, nat_lt, nat_le, if◌then◌else◌, ◌+◌, ◌-◌, ◌&&◌, slice_index_or, replicate}
use Rattle.hist_model.specs.Copies.{plan, copy_of, text_from, Wants, Complete, Faulty, progress, read_text, read_value}

-- memory of 16 pages from 0x10000 on, with some bytes at one address and zeros elsewhere
memory : ℕ → List ℕ → ℕ → Option ℕ
memory at bytes a = if nat_le 0x10000 a && nat_lt a 0x20000 then Some (if nat_lt a at then 0 else slice_index_or bytes (a - at) 0) else None

mknod : ℕ → List ℕ
mknod path = path ∷ 8630 ∷ 259 ∷ 0 ∷ 0 ∷ 0 ∷ []

one_text : copy_of (memory 0x10000 (47 ∷ 97 ∷ 0 ∷ [])) (plan (pos 133) (mknod 0x10000)) ≡ Ok ((47 ∷ 97 ∷ []) ∷ [])
unfolding copy_of text_from memory mknod
one_text = refl

unmapped_text : copy_of (memory 0x1fffc (47 ∷ 97 ∷ 98 ∷ 99 ∷ [])) (plan (pos 133) (mknod 0x1fffc)) ≡ Err 14
unfolding copy_of text_from memory mknod
unmapped_text = refl

first_piece : progress (plan (pos 133) (mknod 0x1fffc)) [] ≡ Wants 131068 4
unfolding progress read_text mknod
first_piece = refl

second_piece : progress (plan (pos 133) (mknod 0x1fffc)) (Ok (47 ∷ 97 ∷ 98 ∷ 99 ∷ []) ∷ []) ≡ Wants 131072 256
unfolding progress read_text mknod
second_piece = refl

unmapped_piece : progress (plan (pos 133) (mknod 0x1fffc)) (Ok (47 ∷ 97 ∷ 98 ∷ 99 ∷ []) ∷ Err 14 ∷ []) ≡ Faulty 14
unfolding progress read_text mknod
unmapped_piece = refl

-- a mount without a source: the target, the type and the data are read
mount : List ℕ
mount = 0 ∷ 0x10000 ∷ 0x10100 ∷ 0 ∷ 0 ∷ 0 ∷ []

mount_texts : progress (plan (pos 165) mount) (Ok (47 ∷ 0 ∷ 9 ∷ []) ∷ Ok (101 ∷ 0 ∷ []) ∷ []) ≡ Complete ([] ∷ (47 ∷ []) ∷ (101 ∷ []) ∷ [] ∷ [])
unfolding progress read_text mount
mount_texts = refl

setxattr : ℕ → ℕ → List ℕ
setxattr address size = 0x10000 ∷ 0x10100 ∷ address ∷ size ∷ 0 ∷ 0 ∷ []

-- a value of size 0 isn't read, wherever it lies
empty_value : progress (plan (pos 188) (setxattr 0 0)) (Ok (47 ∷ 0 ∷ []) ∷ Ok (110 ∷ 0 ∷ []) ∷ []) ≡ Complete ((47 ∷ []) ∷ (110 ∷ []) ∷ [] ∷ [])
unfolding progress read_text read_value setxattr
empty_value = refl

-- a value that is too great is found after the texts before it
great_value : progress (plan (pos 188) (setxattr 0x10200 4097)) (Ok (47 ∷ 0 ∷ []) ∷ []) ≡ Wants 0x10100 256
unfolding progress read_text read_value setxattr
great_value = refl

great_value_fails : progress (plan (pos 188) (setxattr 0x10200 4097)) (Ok (47 ∷ 0 ∷ []) ∷ Ok (110 ∷ 0 ∷ []) ∷ []) ≡ Faulty 7
unfolding progress read_text read_value setxattr
great_value_fails = refl

-- a value may have zero bytes, and goes over the end of a piece
value_pieces : progress (plan (pos 188) (setxattr 0x102fe 4)) (Ok (47 ∷ 0 ∷ []) ∷ Ok (110 ∷ 0 ∷ []) ∷ Ok (0 ∷ 1 ∷ []) ∷ []) ≡ Wants 0x10300 2
unfolding progress read_text read_value setxattr
value_pieces = refl

value_whole : progress (plan (pos 188) (setxattr 0x102fe 4)) (Ok (47 ∷ 0 ∷ []) ∷ Ok (110 ∷ 0 ∷ []) ∷ Ok (0 ∷ 1 ∷ []) ∷ Ok (2 ∷ 3 ∷ []) ∷ []) ≡ Complete ((47 ∷ []) ∷ (110 ∷ []) ∷ (0 ∷ 1 ∷ 2 ∷ 3 ∷ []) ∷ [])
unfolding progress read_text read_value setxattr
value_whole = refl

nothing_to_read : progress (plan (pos 99) (0 ∷ 0 ∷ 0 ∷ 0 ∷ 0 ∷ 0 ∷ [])) [] ≡ Complete []
unfolding progress
nothing_to_read = refl

-- the same memory, with one byte that isn't zero so many times from 0x10000 on
filled : ℕ → ℕ → Option ℕ
filled n a = if nat_le 0x10000 a && nat_lt a 0x20000 then Some (if nat_lt a (0x10000 + n) then 97 else 0) else None

long_path : copy_of (filled 4096) (plan (pos 133) (mknod 0x10000)) ≡ Err 36
unfolding copy_of text_from filled mknod
long_path = refl

longest_path : copy_of (filled 4095) (plan (pos 133) (mknod 0x10000)) ≡ Ok (replicate 4095 97 ∷ [])
unfolding copy_of text_from filled mknod
longest_path = refl
