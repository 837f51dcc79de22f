-- What a receive tells by its buffer, where that is filled with zeros.
-- By the count of requests and the answer of the receive.
use Rattle.std.proofs.Common.{◌≡◌, refl, ℕ, ◌<◌, true, List, arith, Err, Result, ◌==◌, All}
use Rattle.std.proofs.lemmas.Bool.{ne_eqb}
use Rattle.std.proofs.lemmas.List.Elements.{All-weaker}
use Rattle.std.proofs.lemmas.List.Sums.{list_all-from_AllPass}
use Rattle.hist_model.specs.Calls.{count}
use Rattle.hist_model.specs.Steps.{oldest_unfetched, recv_answer}
use Rattle.sys_abi.specs.declared.wire.Notif.{Notif}
use Rattle.model_kernel.proofs.Words.{Event}
use Rattle.model_kernel.specs.Wire.{are_zeros, buffer_after, bytes_or, is_answered, recv_result, without_notif}
use Rattle.model_kernel.specs.declared.wire.RecvError.TheVariants.{Empty}

pub zeros : (buf : List ℕ) → All (λ b. b ≡ 0) buf → are_zeros buf ≡ true
zeros buf h = list_all-from_AllPass (λ b. b == 0) buf (All-weaker (λ b. b ≡ 0) (λ b. (b == 0) ≡ true) (λ b z. rw z refl) buf h)

-- a receive is answered where the buffer is right and calls are counted
pub answered : (K : List Event) (buf : List ℕ) → All (λ b. b ≡ 0) buf → 0 < count K → is_answered K buf ≡ true
answered K buf h some = rw (zeros buf h, ne_eqb (count K) 0 (λ n. omega (arith, some, n))) refl

pub told-answer : (K : List Event) (buf : List ℕ) (answer : Result Notif ℕ) → All (λ b. b ≡ 0) buf → 0 < count K → recv_answer K (oldest_unfetched K) ≡ answer → without_notif answer ≡ recv_result K buf
told-answer K buf answer h some is = rw (zeros buf h, ne_eqb (count K) 0 (λ n. omega (arith, some, n)), is) refl

-- the bytes of the notification that is received
pub buffer-filled : (K : List Event) (buf : List ℕ) (answer : Result Notif ℕ) → All (λ b. b ≡ 0) buf → 0 < count K → recv_answer K (oldest_unfetched K) ≡ answer → bytes_or buf answer ≡ buffer_after K buf
buffer-filled K buf answer h some is = rw (answered K buf h some, is) refl

pub told-empty : (K : List Event) (buf : List ℕ) → All (λ b. b ≡ 0) buf → count K ≡ 0 → Err Empty ≡ recv_result K buf
told-empty K buf h none = rw (zeros buf h, none) refl
