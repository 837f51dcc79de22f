-- Keys in chains: those of one bucket of a hash, from the newest to the oldest.
use Rattle.std.specs.Prelude.{◌≡◌, ℕ, suc, ◌-◌, ◌*◌, ◌/◌, ◌%◌, ◌^◌, ◌<◌, Bool, true, false, if◌then◌else◌, ◌==◌, List, [], ◌∷◌, length}
use Rattle.std.specs.Prelude.{reverse, take, Option, Some, None, slice_index_or, bit_and, bit_xor}
use Rattle.mount_tree.specs.Keys.{Key}

-- FNV-1a of 32 bits, going on from a hash; at the end the upper half goes into the lower
unfoldable pub hash : ℕ → List ℕ → ℕ
hash h [] = bit_xor h (h / 2 ^ 16)
hash h (b ∷ bs) = hash (bit_xor h b * 16777619 % 2 ^ 32) bs

-- the hash of an owner's row of a name; the factor, 2 ^ 32 divided by the golden ratio, spreads owners which follow one another
abbrev pub hash_of : ℕ → List ℕ → ℕ
hash_of owner name = hash (owner * 2654435769 % 2 ^ 32) name

-- the bucket of an owner's row of a name, out of this many, a power of two
abbrev pub bucket_of : ℕ → ℕ → List ℕ → ℕ
bucket_of count owner name = bit_and (hash_of owner name) (count - 1)

abbrev pub is_owned_in : ℕ → Option ℕ → List ℕ → ℕ → Bool
is_owned_in count None name b = false
is_owned_in count (Some owner) name b = bucket_of count owner name == b

-- the key is in this bucket; one without an owner is in none
abbrev pub is_in : ℕ → Key → ℕ → Bool
is_in count k b = is_owned_in count k.owner k.name b

-- one more than the ordinal of the newest key of a bucket, or 0; the keys are listed the newest first
unfoldable pub head : ℕ → List Key → ℕ → ℕ
head count [] b = 0
head count (k ∷ ks) b = if is_in count k b then suc (length ks) else head count ks b

-- the head of each bucket, and for each key the head of its bucket among the older ones
pub record Chains : Type 0 where
  pub heads : List ℕ
  pub older : List ℕ

-- the chains of these keys, the oldest first
pub record AreChains (keys : List Key) (c : Chains) : Type 0 where
  pub count : length c.older ≡ length keys
  pub heads : (b d : ℕ) → b < length c.heads → slice_index_or c.heads b d ≡ head (length c.heads) (reverse keys) b
  pub older : (i b d : ℕ) (k : Key) → i < length keys → is_in (length c.heads) (slice_index_or keys i k) b ≡ true
      → slice_index_or c.older i d ≡ head (length c.heads) (reverse (take i keys)) b

-- the chains of these keys, if there are buckets
abbrev pub FollowKeys : List Key → Chains → Type 0
FollowKeys keys c = 0 < length c.heads → AreChains keys c

-- there is room for one more key
abbrev pub HaveRoom : Chains → Type 0
HaveRoom c = 0 < length c.heads → length c.older < length c.heads
