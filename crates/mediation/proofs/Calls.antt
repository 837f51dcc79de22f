-- Calls of a legal history: their ids, the request count, one answer for each, and the events before a place.
-- By what is so in every history of the kernel.
use Rattle.mediation.proofs.Common.{[], before, CallIdsDiffer, CountIs, Each, Event, IdsDiffer, IsLegal, length, List, named, Notif, Ok}
use Rattle.mediation.proofs.Common.{oldest_unfetched, ReceivesFor, recv_answer, Rules, settled, settles, System, arith, false, true, ℕ, ◌<◌, ◌^◌, ◌∷◌, ◌≡◌}
use Rattle.mediation.proofs.Rows.{Row, of-kernel, kernel-row}
use Rattle.mediation.proofs.KernelCalls as kernel
pub use Rattle.mediation.proofs.KernelCalls.{fetching, before-all, before-older, before-newest, length-before, fetched-before}

module _ (S : System) (R : Rules) where
  pub call_ids : (K : List Event) → IsLegal S R K → length K < 2 ^ 64 → CallIdsDiffer K
  call_ids K legal = kernel.call_ids S K (of-kernel S R K legal)

  pub ids_differ : (K : List Event) → IsLegal S R K → length K < 2 ^ 64 → IdsDiffer K
  ids_differ K legal = kernel.ids_differ S K (of-kernel S R K legal)

  pub settles-once : (K : List Event) (e : Event) (c : ℕ) → IsLegal S R K → Row S R K e.who e.what → settles K e c ≡ true → settled K c ≡ false
  settles-once K e c legal row = kernel.settles-once S K e c (of-kernel S R K legal) (kernel-row S R K e.who e.what row)

  pub named-fetched : (K : List Event) (n : Notif) → IsLegal S R K → length K < 2 ^ 64 → Ok n ≡ recv_answer K (oldest_unfetched K)
      → named K n.id ≡ oldest_unfetched K
  named-fetched K n legal = kernel.named-fetched S K n (of-kernel S R K legal)

  pub count_is : (K : List Event) → IsLegal S R K → length K < 2 ^ 64 → CountIs K
  count_is K legal = kernel.count_is S K (of-kernel S R K legal)

  pub receives-are-for : (K : List Event) → IsLegal S R K → length K < 2 ^ 64 → Each ReceivesFor K
  receives-are-for K legal = kernel.receives-are-for S K (of-kernel S R K legal)

  -- what stands before a place of a legal history is legal
  pub legal_before : (K : List Event) (c : ℕ) → IsLegal S R K → IsLegal S R (before K c)
  unfolding before
  legal_before [] c legal = tt
  legal_before (e ∷ K) c legal = grind (arith, legal_before K c legal.1)
