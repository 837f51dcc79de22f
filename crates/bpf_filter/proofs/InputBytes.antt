-- The words of a call's data, and its bytes.
-- By induction on the numbers, and by arithmetic on the bytes of each half.
use Rattle.std.proofs.Common.{◌≡◌, ℕ, ◌%◌, ◌/◌, ◌^◌, List, [], ◌∷◌, refl, arith}
use Rattle.std.specs.List.{flat_map}
use Rattle.hist_model.specs.Filters.{words, halves}
use Rattle.sys_abi.specs.Wire.{u32_bytes, u64_bytes, seccomp_data_bytes}
use Rattle.sys_abi.specs.declared.wire.SeccompData.{SeccompData}

low-byte : (n : ℕ) → (n % 2 ^ 32 % 256 ≡ n % 256) × (n % 2 ^ 32 / 256 % 256 ≡ n / 256 % 256) × (n % 2 ^ 32 / 65536 % 256 ≡ n / 65536 % 256) × (n % 2 ^ 32 / 16777216 % 256 ≡ n / 16777216 % 256)
low-byte n = (omega arith, omega arith, omega arith, omega arith)

high-byte : (n : ℕ) → (n / 2 ^ 32 / 256 % 256 ≡ n / 2 ^ 40 % 256) × (n / 2 ^ 32 / 65536 % 256 ≡ n / 2 ^ 48 % 256) × (n / 2 ^ 32 / 16777216 % 256 ≡ n / 2 ^ 56 % 256)
high-byte n = (omega arith, omega arith, omega arith)

-- a number of eight bytes is its two words
halves-bytes : (numbers : List ℕ) → flat_map u32_bytes (halves numbers) ≡ flat_map u64_bytes numbers
halves-bytes [] = refl
halves-bytes (n ∷ more) = let l = low-byte n in let h = high-byte n in rw (l.0, l.1, l.2, l.3, h.0, h.1, h.2, halves-bytes more)

pub words-bytes : (call : SeccompData) → flat_map u32_bytes (words call) ≡ seccomp_data_bytes call
unfolding seccomp_data_bytes
words-bytes call = rw (halves-bytes (call.ip ∷ call.args))
